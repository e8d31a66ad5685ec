-- What a walk keeps: the lines of each method fit, and leave no loop where there is none.
use Rattle.std.proofs.Common.{◌≡◌, List, [], ◌∷◌, ◌++◌, Some, Bool, true, false, refl, sym, ◌∙◌, subst, ◌&&◌}
use Rattle.std.specs.Prelude.{IsTrue, if◌then◌else◌}
use Rattle.p8_tree.specs.Sources as trees
use Rattle.p8_tree.specs.Sources.{MethodTree, BlockTree, Source}
use Rattle.p8_lexer.specs.declared.word.Word.{Word}
use Rattle.p8_lexer.specs.declared.word.Word.TheVariants as word_case
use Rattle.p8_columns.specs.Lines as lines
use Rattle.p8_columns.specs.Lines.{Kind}
use Rattle.p8_columns.specs.Columns.{AllFit}
use Rattle.p8_columns.proofs.Meaning.{fit_append, fit_together}
use Rattle.p8_lexer.specs.Pieces.{Piece}
use Rattle.p8_lines.specs.declared.state.LineState.{LineState}
use Rattle.p8_lines.specs.declared.state.LineState.TheVariants as state
use Rattle.p8_lines.specs.Tokens.{LineToken, word}
use Rattle.p8_lines.specs.Lines.{Row}
use Rattle.p8_statements.specs.Statements.{kind_of_row}
use Rattle.p8_blocks.specs.Values.{suits, HaveKinds, begins_line}
use Rattle.p8_blocks.specs.Reading.{Part, constants, variables, objects, assembly, method, Enters, goes_on, loop_end, statement, item, from, HasNoLoop, leaves_loop, goes_on_chain, ends_loop, IsBlock, con_block, var_block, obj_block, dat_block, method_block, AreBlocks, no_blocks, one_more}
use Rattle.p8_blocks.proofs.Entering.{fits}
use Rattle.p8_blocks.specs.Files.{Heights, with_body, begins_text}
use Rattle.p8_blocks.proofs.After.{After, after_more}
use Rattle.p8_blocks.proofs.Loops.{Leaves, is_in_loop}
use Rattle.p8_blocks.proofs.Saying.{line_says}
use Rattle.p8_blocks.proofs.Walks.{Valued, row_of_line, OpensAs, Adds, first_constants, more_constants, more_variables, more_objects, more_assembly, blank, head, declaration, method_line, Progress, Walk, none, more}

-- each line of a method has a kind that suits the state from which it is read
abbrev pub AllKinds : Type 0
AllKinds = (q : LineState) → IsTrue (begins_line q) → HaveKinds kind_of_row q

pub all_kinds : HaveKinds kind_of_row state.Statement → HaveKinds kind_of_row state.ChainLine → HaveKinds kind_of_row state.LoopEndLine → HaveKinds kind_of_row state.CaseItem → AllKinds
all_kinds s c l i state.Statement b = s
all_kinds s c l i state.ChainLine b = c
all_kinds s c l i state.LoopEndLine b = l
all_kinds s c l i state.CaseItem b = i
all_kinds s c l i q b = absurd cc

pub suited : AllKinds → (q : LineState) (row : List Piece) (ts : List LineToken) (k : Kind) → IsTrue (begins_line q) → Row q row ts → kind_of_row row ≡ Some k → IsTrue (suits q k)
suited kinds q row ts k b x e =
    let y = kinds q b row ts x in
    let z = sym y.1 ∙ e in
    let same : y.0 ≡ k = cc in
    subst (λ k. IsTrue (suits q k)) same y.2

pub entered_begins : (ls : List lines.Line) (b : Bool) (t : LineToken) (q : LineState) → Enters ls b t (from q) → IsTrue (begins_line q)
entered_begins ls b t q (goes_on h c) = refl
entered_begins ls b t q (loop_end h c) = refl
entered_begins ls b t q (statement h g c) = refl
entered_begins ls b t q (item h g c) = refl

pub not_begun : (b : Bool) (w : Word) → IsTrue (goes_on_chain b w) → b ≡ false
not_begun true w h = absurd cc
not_begun false w h = refl

pub not_begun_either : (b : Bool) (w : Word) → IsTrue (ends_loop b w) → b ≡ false
not_begun_either true w h = absurd cc
not_begun_either false w h = refl

pub entered_text : (ls : List lines.Line) (b : Bool) (t : LineToken) (q : LineState) → Enters ls b t (from q) → begins_text q && b ≡ false
entered_text ls b t q (goes_on h c) = not_begun b (word t) h
entered_text ls b t q (loop_end h c) = not_begun_either b (word t) h
entered_text ls b t q (statement h g c) = refl
entered_text ls b t q (item h g c) = refl

abbrev pub Kept : Part → Type 0
Kept (method m ls) = AllFit ls × After Leaves [] ls
Kept p = Unit {0}

abbrev pub AllKept : List Part → Type 0
AllKept [] = Unit {0}
AllKept (p ∷ ps) = Kept p × AllKept ps

kept_as : {p q : Part} → p ≡ q → Kept q → Kept p
kept_as e k = subst Kept (sym e) k

opened : (h : Heights) (w : Word) (ts : List LineToken) (p : Part) → OpensAs h w ts p → Kept p
opened h word_case.Con ts p x = kept_as x.2 tt
opened h word_case.Var ts p x = kept_as x.2 tt
opened h word_case.Obj ts p x = kept_as x.2 tt
opened h word_case.Pub ts p x = kept_as x.2 (tt, tt)
opened h word_case.Pri ts p x = kept_as x.2 (tt, tt)
opened h word_case.Dat ts p x = kept_as x.2 tt
opened h w ts p x = absurd x

extended : {h : Heights} {ts : List LineToken} {ps qs : List Part} → Adds h ts ps qs → AllKept ps → AllKept qs
extended (first_constants x) k = (tt, tt)
extended (more_constants x) k = (tt, k.1)
extended (more_variables x) k = (tt, k.1)
extended (more_objects x) k = (tt, k.1)
extended (more_assembly x) k = (tt, k.1)

in_loop : (a i : Bool) → ¬ (IsTrue a × (i ≡ false)) → (if a then i else true) ≡ true
in_loop true true n = refl
in_loop true false n = absurd (n (refl, refl))
in_loop false i n = refl

pub line_kept : AllKinds → (h : Heights) (m : MethodTree) (ls : List lines.Line) {b : Bool} (t : LineToken) (us : List LineToken) (q : LineState) (k : Kind) → Enters ls b t (from q) → ¬ HasNoLoop ls q t → Valued h kind_of_row q (t ∷ us) k → Kept (method m ls) → Kept (method m (ls ++ lines.line t.place k ∷ []))
line_kept kinds h m ls t us q k e l v y =
    let begins = entered_begins ls _ t q e in
    let x = row_of_line h q v.row (t ∷ us) v.line in
    let s = suited kinds q v.row (t ∷ us) k begins x v.is in
    let says = line_says q v.row t us k begins x v.is s in
    let i = is_in_loop t.place.column ls in (
      fit_append [] ls (lines.line t.place k ∷ []) y.0 (fits k e s, tt),
      after_more Leaves ls (lines.line t.place k) y.1 (says.loops i ∙ in_loop (leaves_loop q (word t)) i l),
    )

pub walk_kept : AllKinds → {h : Heights} {x : Progress} {ts : List LineToken} → Walk h x ts → AllKept x.0
walk_kept kinds none = tt
walk_kept kinds (more w (blank t e)) = walk_kept kinds w
walk_kept kinds {h} (more w (head {p = p} {us = us} t i o)) = (opened h (word t) us p o, walk_kept kinds w)
walk_kept kinds (more w (declaration t e n x)) = extended x (walk_kept kinds w)
walk_kept kinds {h} (more w (method_line {m = m} {ls = ls} {us = us} {k = k} t q e n i l v)) =
    let y = walk_kept kinds w in
    (line_kept kinds h m ls t us q k i l v y.0, y.1)

-- so the parts are blocks

part_block : (p : Part) → Kept p → (b : BlockTree) × IsBlock p b
part_block (constants xs) k = (trees.Con xs, con_block)
part_block (variables xs) k = (trees.Var xs, var_block)
part_block (objects xs) k = (trees.Obj xs, obj_block)
part_block (assembly xs) k = (trees.Dat xs, dat_block)
part_block (method m ls) k = let y = (fit_together ls).0 k.0 in (trees.Method (with_body m y.0), method_block y.1)

pub are_blocks : (ps : List Part) → AllKept ps → (s : Source) × AreBlocks ps s
are_blocks [] k = ([], no_blocks)
are_blocks (p ∷ ps) k = let x = are_blocks ps k.1 in let b = part_block p k.0 in (x.0 ++ b.0 ∷ [], one_more x.1 b.1)
