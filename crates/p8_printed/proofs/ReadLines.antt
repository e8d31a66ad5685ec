-- Lines of declarations and of DAT that are read are proper, and so what is written of them is read back.
use Rattle.std.proofs.Common.{◌≡◌, Bool, List, [], ◌∷◌, All, Option, Some, option_map, sym, ap, ◌∙◌, subst}
use Rattle.p8_tree.specs.Statements.{no_statements}
use Rattle.p8_tree.specs.Sources.{Constant, Declared, Child, MethodTree, Line}
use Rattle.p8_tree.specs.Forgetting.{constant_anywhere, declared_anywhere, child_anywhere, statements_anywhere, method_anywhere, line_anywhere}
use Rattle.p8_tree.specs.Proper.{IsProperConstant, IsProperDeclared, IsProperChild, IsProperLine}
use Rattle.p8_lexer.specs.Pieces.{Piece}
use Rattle.p8_lines.specs.declared.state.LineState.{LineState}
use Rattle.p8_lines.specs.declared.state.LineState.TheVariants as state
use Rattle.p8_declarations.specs.Proper.{IsProperHead}
use Rattle.p8_declarations.specs.Methods.{method_of_row}
use Rattle.p8_declarations.specs.Lines.{line_of_row}
use Rattle.p8_print.specs.Spelled.{Spelled, IsReadable}
use Rattle.p8_print.specs.DeclarationWords.{words_of_constant, words_of_variable, words_of_child, words_of_head}
use Rattle.p8_print.specs.DataWords.{words_of_line}
use Rattle.p8_printed.specs.Lexemes.{IsInCapitals}
use Rattle.p8_printed.specs.Rereading.{AreSpelled, ReadsBack}
use Rattle.p8_printed.proofs.Constants as constants
use Rattle.p8_printed.proofs.Variables as variables
use Rattle.p8_printed.proofs.Objects as objects
use Rattle.p8_printed.proofs.Heads as heads
use Rattle.p8_printed.proofs.DataBack as data_lines
use Rattle.p8_printed.proofs.PlacelessLines.{constant_words, variable_words, child_words, head_words, line_words}
use Rattle.p8_printed.proofs.ProperAgain.{alike, constant_again, sized_again, child_again, head_again}
use Rattle.p8_printed.proofs.AgainData.{line_again}

-- another line of the same words, and the same but for places
reads_alike : {V : Type 0} {value : List Piece → Option V} {anywhere : V → V} {q : LineState} {ws' ws : List Spelled} (v' v : V) → ws' ≡ ws → anywhere v' ≡ anywhere v → ReadsBack value anywhere q ws' v' → ReadsBack value anywhere q ws v
reads_alike v' v words same b = record {
  readable = subst (All IsReadable) words b.readable;
  capitals = subst (All IsInCapitals) words b.capitals;
  read = λ ts t s e. let x = b.read ts t (subst (λ ws. AreSpelled ws ts) (sym words) s) e in (x.0, x.1, x.2, x.3, x.4 ∙ same);
}

pub constant_back : (x : Constant) → IsProperConstant x → constants.IsReadBack x
constant_back x h =
    let y = constant_again x h in
    let words = alike constant_anywhere words_of_constant constant_words y.other x y.same in
    reads_alike (y.other ∷ []) (x ∷ []) words (ap (λ x. x ∷ []) y.same) (constants.read_back y.other y.holds)

pub variable_back : (x : Declared) → IsProperDeclared x → variables.IsReadBack x
variable_back x h =
    let y = sized_again x h in
    let words = alike declared_anywhere words_of_variable variable_words y.other x y.same in
    reads_alike (y.other ∷ []) (x ∷ []) words (ap (λ x. x ∷ []) y.same) (variables.read_back y.other y.holds.size y.holds.is)

pub object_back : (x : Child) → IsProperChild x → objects.IsReadBack x
object_back x h =
    let y = child_again x h in
    let words = alike child_anywhere words_of_child child_words y.other x y.same in
    reads_alike (y.other ∷ []) (x ∷ []) words (ap (λ x. x ∷ []) y.same) (objects.read_back y.other y.holds)

pub head_back : (public : Bool) (row : List Piece) (m : MethodTree) → IsProperHead m → method_of_row public row ≡ Some m → ReadsBack (method_of_row public) method_anywhere state.MethodName (words_of_head m) m
head_back public row m h e =
    let of = heads.head_of public row m e in
    let y = head_again m h in
    let other : MethodTree = record m { locals = y.locals; body = no_statements } in
    let same : method_anywhere other ≡ method_anywhere m = λ i. record (method_anywhere m) { locals = y.same i; body = sym (ap statements_anywhere of.1) i } in
    let words = alike method_anywhere words_of_head head_words other m same in
    subst (λ b. ReadsBack (method_of_row b) method_anywhere state.MethodName (words_of_head m) m) of.0 (reads_alike other m words same (heads.read_back m.public other y.is))

pub line_back : (x : Line) → IsProperLine x → ReadsBack line_of_row (option_map line_anywhere) state.DatLine (words_of_line x) (Some x)
line_back x h =
    let y = line_again x h in
    let words = alike line_anywhere words_of_line line_words y.other x y.same in
    reads_alike (Some y.other) (Some x) words (ap (λ x. Some x) y.same) (data_lines.reads_back y.other y.holds)
