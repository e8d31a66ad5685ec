-- The object of a line of OBJ is read back.
use Rattle.std.proofs.Common.{◌≡◌, ℕ, ◌<◌, List, [], ◌∷◌, ◌++◌, length, map, Option, Some, None, Bool, true, false, refl, sym, ap, ◌∙◌, subst, append_assoc, arith}
use Rattle.std.specs.Prelude.{IsTrue, ◌==◌, ◌||◌, if◌then◌else◌, All, codes}
use Rattle.std.specs.List.{list_any}
use Rattle.std.proofs.lemmas.List.Elements.{All-from_recursion, All-append, All-from_get_or}
use Rattle.std.proofs.lemmas.List.Folds.{list_any-append}
use Rattle.p8_tree.specs.declared.places.Place.{Place}
use Rattle.p8_tree.specs.Expressions.{Tree}
use Rattle.p8_tree.specs.Sources.{Child}
use Rattle.p8_tree.specs.Forgetting.{anywhere, tree_anywhere, child_anywhere}
use Rattle.p8_lexer.specs.declared.piece.Class.TheVariants as class
use Rattle.p8_lexer.specs.declared.word.Word.TheVariants as word_case
use Rattle.p8_lexer.specs.Lexing.{is_in}
use Rattle.p8_grammar.specs.Lexemes as lexemes
use Rattle.p8_grammar.specs.Lexemes.{in_declaration}
use Rattle.p8_expr.specs.Words.{between_quotes}
use Rattle.p8_lines.specs.declared.state.LineState.TheVariants as state
use Rattle.p8_lines.specs.Diagram.{choices}
use Rattle.p8_lines.specs.Tokens.{LineToken}
use Rattle.p8_lines.specs.Lines.{Follows, here}
use Rattle.p8_lines.proofs.Lexemes.{string_lexeme}
use Rattle.p8_declarations.specs.Parts.{Part, line_end, text, part_of_word, is_line_end}
use Rattle.p8_declarations.specs.Objects.{file_of, child, object, alone, objects_of_row}
use Rattle.p8_print.specs.Spelled as spelled
use Rattle.p8_print.specs.Wording.{wrapped}
use Rattle.p8_printed.specs.Rereading.{IsSpelled, ReadsBack}
use Rattle.p8_print.specs.DeclarationWords.{words_of_child}
use Rattle.p8_printed.proofs.Readings.{IsRead, IsName, IsText}
use Rattle.p8_printed.proofs.RowSteps.{token_lexeme}
use Rattle.p8_printed.proofs.Steps.{Back, same_words, ends, one, a_word, a_name, before, reads_back}

-- a file's name

abbrev is_dot : ℕ → Bool
is_dot c = c == 46

-- a character that a string can have
abbrev IsCharacter : ℕ → Type 0
IsCharacter c = IsTrue (is_in class.Quoted c) × (c < 256)

characters : (t : List ℕ) → IsText t → All IsCharacter t
characters t h = All-from_get_or IsCharacter t 0 (λ i lt. (h.0 i (omega arith) lt, h.1 i lt))

is_text : (t : List ℕ) → All IsCharacter t → IsText t
is_text t h = ((λ i le lt. (h i 0 lt).0), (λ i lt. (h i 0 lt).1))

extension : All IsCharacter (codes ".spin")
extension = All-from_recursion IsCharacter (codes ".spin") ((refl, omega arith), ((refl, omega arith), ((refl, omega arith), ((refl, omega arith), ((refl, omega arith), tt)))))

with_extension : (t : List ℕ) → IsText t → IsText (t ++ codes ".spin")
with_extension t h = is_text (t ++ codes ".spin") (All-append IsCharacter t (codes ".spin") (characters t h) extension)

file_text : (t : List ℕ) → IsText t → IsText (file_of t)
unfolding file_of
file_text t h = go (list_any is_dot t)
  where
    go : (b : Bool) → IsText (if b then t else t ++ codes ".spin")
    go true = h
    go false = with_extension t h

with_dot : (t : List ℕ) → list_any is_dot (file_of t) ≡ true
unfolding file_of
with_dot t = go (list_any is_dot t) refl
  where
    either : (b : Bool) → (b || true) ≡ true
    either true = refl
    either false = refl

    go : (b : Bool) → list_any is_dot t ≡ b → list_any is_dot (if b then t else t ++ codes ".spin") ≡ true
    go true e = e
    go false e = list_any-append is_dot t (codes ".spin") ∙ either (list_any is_dot t)

-- it is a whole name
file_again : (t : List ℕ) → file_of (file_of t) ≡ file_of t
unfolding file_of
file_again t = ap (λ b. if b then file_of t else file_of t ++ codes ".spin") (with_dot t)

some_file : (t : List ℕ) → 0 < length (file_of t)
some_file t = go (file_of t) (with_dot t)
  where
    go : (f : List ℕ) → list_any is_dot f ≡ true → 0 < length f
    go [] h = absurd cc
    go (c ∷ cs) h = omega arith

text_of : (t : List ℕ) → IsText t → 0 < length t → (u : LineToken) → IsSpelled (spelled.string t) u → Follows (choices state.ObjFile).arrows u state.LineEnd
text_of t good some u h =
    let e : lexemes.string t ≡ lexemes.string (between_quotes u.text) = sym (token_lexeme (spelled.string t) u good tt h) ∙ string_lexeme u h.word in
    let same : t ≡ between_quotes u.text = cc in
    here (h.word, subst (λ t. 0 < length t) same some)

-- an object that was read from tokens of a source
pub data IsObject : Child → Type 0 where
  single : {n : List ℕ} {p : Place} (t : List ℕ) {q : Place} → IsName n → IsText t → IsObject (child n p None t q)
  counted : {n : List ℕ} {p : Place} {e : Tree} (t : List ℕ) {q : Place} → IsName n → IsRead in_declaration e → IsText t → IsObject (child n p (Some e) t q)

-- a line of OBJ

abbrev objects_of_parts : List Part → Option (List Child)
objects_of_parts ps = if is_line_end ps then Some [] else alone (object ps)

abbrev Declares : Child → List Part → Type 0
Declares x ps = (xs : List Child) × (objects_of_parts ps ≡ Some xs) × (map child_anywhere xs ≡ child_anywhere x ∷ [])

-- the file and the line's end
file_back : (t : List ℕ) {P : List Part → Type 0} → IsText t → ((q : Place) → P (text (file_of t) q ∷ line_end ∷ [])) → Back state.ObjFile (spelled.string (file_of t) ∷ []) P
file_back t good p =
    one state.ObjFile state.LineEnd refl (spelled.string (file_of t)) (file_text t good) tt (text_of (file_of t) (file_text t good) (some_file t))
    (ends state.LineEnd (λ k. refl) p)

-- an object of this file, anywhere
abbrev child_of : List ℕ → Option Tree → List ℕ → Child
child_of n count file = record { place = anywhere; name = n; count = count; file = file; file_place = anywhere }

object_back : (x : Child) → IsObject x → Back state.ObjLine (words_of_child x) (Declares x)
unfolding part_of_word
object_back _ (single {n = n} t y good) =
    a_name state.ObjLine state.ObjNamed refl n y (λ k. refl)
    (a_word state.ObjNamed state.ObjFile refl word_case.Colon refl (λ k. refl)
    (file_back t good (λ q c p. (child n p None (file_of t) q ∷ [], refl, ap (λ f. child_of n None f ∷ []) (file_again t)))))
object_back _ (counted {n = n} {e = e} t y r good) =
    same_words (ap (λ l. spelled.name n ∷ spelled.reserved word_case.LeftBracket ∷ l) (append_assoc (wrapped e) (spelled.reserved word_case.RightBracket ∷ []) (spelled.reserved word_case.Colon ∷ spelled.string (file_of t) ∷ [])))
    (a_name state.ObjLine state.ObjNamed refl n y (λ k. refl)
    (a_word state.ObjNamed state.ObjCount refl word_case.LeftBracket refl (λ k. refl)
    (before state.ObjCount state.ObjColon in_declaration e word_case.RightBracket refl r refl (λ k. refl)
    (a_word state.ObjColon state.ObjFile refl word_case.Colon refl (λ k. refl)
    (file_back t good (λ q c b e' same a p. (child n p (Some e') (file_of t) q ∷ [], refl, ap (λ f. child_of n (Some (tree_anywhere e')) f ∷ []) (file_again t) ∙ ap (λ e. child_of n (Some e) (file_of t) ∷ []) same)))))))

abbrev pub IsReadBack : Child → Type 0
IsReadBack x = ReadsBack objects_of_row (map child_anywhere) state.ObjLine (words_of_child x) (x ∷ [])

pub read_back : (x : Child) → IsObject x → IsReadBack x
read_back x y = reads_back objects_of_row objects_of_parts (map child_anywhere) state.ObjLine (words_of_child x) (x ∷ []) (λ row. refl) (object_back x y)
