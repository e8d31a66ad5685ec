-- What a line of a method opens, and whether it leaves a loop, by its first word.
use Rattle.std.proofs.Common.{◌≡◌, ◌⊎◌, inl, inr, List, [], ◌∷◌, Option, Some, None, Bool, true, false, refl, sym, ap, ◌∙◌, subst}
use Rattle.std.specs.Prelude.{IsTrue, if◌then◌else◌, option_map, option_and_then}
use Rattle.p8_tree.specs.declared.places.Place.{Place}
use Rattle.p8_tree.specs.Expressions.{Tree, no_items}
use Rattle.p8_tree.specs.Statements.{Do, Next, Quit, Return, Abort}
use Rattle.p8_lexer.specs.declared.word.Word.{Word}
use Rattle.p8_lexer.specs.declared.word.Word.TheVariants as word_case
use Rattle.p8_grammar.specs.Lexemes as lexemes
use Rattle.p8_grammar.specs.Lexemes.{Setting, Lexeme}
use Rattle.p8_grammar.specs.Grammar.{IsFront}
use Rattle.p8_grammar.specs.Machine.{fresh, step, walk, start}
use Rattle.p8_grammar.proofs.Labels.{other_step}
use Rattle.p8_grammar.proofs.Live.{dead}
use Rattle.p8_expr.specs.Words.{lexeme_of_word}
use Rattle.p8_columns.specs.Lines.{Kind, Plain, If, ElseIf, Else, Repeat, End, Case, Item, Other}
use Rattle.p8_lexer.specs.Pieces.{Piece, tree}
use Rattle.p8_lines.specs.declared.state.LineState.{LineState}
use Rattle.p8_lines.specs.declared.state.LineState.TheVariants as state
use Rattle.p8_lines.specs.Diagram.{choices}
use Rattle.p8_lines.specs.Tokens.{LineToken, word, lexeme, term, piece_from, piece}
use Rattle.p8_lines.specs.Lines as line_specs
use Rattle.p8_lines.specs.Lines.{Row, over}
use Rattle.p8_lines.proofs.Lexemes.{IsOther, other_word}
use Rattle.p8_blocks.proofs.Inside.{other_plain}
use Rattle.p8_blocks.proofs.Pieces.{is_labelled, plain_piece}
use Rattle.p8_lines.proofs.Ways.{begins}
use Rattle.p8_statements.specs.declared.role.Role.{Role}
use Rattle.p8_statements.specs.declared.role.Role.TheVariants as role
use Rattle.p8_statements.specs.declared.statement_pieces.Sign.{Sign}
use Rattle.p8_statements.specs.Roles.{role_of}
use Rattle.p8_statements.specs.Rows.{Reading, ◌▶◌, word_in, ends, ending, value_in}
use Rattle.p8_statements.specs.Statements.{maybe_value, course, is_last_colon, line, tests_after, is_item, statement, kind_of_row}
use Rattle.p8_blocks.specs.Values.{suits, begins_line}
use Rattle.p8_blocks.specs.Reading.{is_opener_word, leaves_loop, opens}
use Rattle.p8_blocks.proofs.Loops.{line_leaves}
use Rattle.p8_blocks.proofs.Depths.{line_depth}
use Rattle.p8_blocks.specs.Files.{is_loop_word}

-- a kind leaves a loop, or opens a block
pub record Says (leaves opens : Bool) (k : Kind) : Type 0 where
  pub loops : (i : Bool) → line_leaves i k ≡ (if leaves then i else true)
  pub depth : line_depth k ≡ (if opens then 1 else 0)

abbrev is_leaving : Role → Bool
is_leaving role.Next = true
is_leaving role.Quit = true
is_leaving r = false

abbrev is_opening : Role → Bool
is_opening (role.If n) = true
is_opening role.Case = true
is_opening role.Repeat = true
is_opening r = false

leaving : (w : Word) → is_leaving (role_of w) ≡ is_loop_word w
unfolding role_of
leaving word_case.PlusPlus = refl
leaving w = refl

opening : (w : Word) → is_opening (role_of w) ≡ is_opener_word w
unfolding role_of
opening word_case.PlusPlus = refl
opening w = refl

says_as : {a b : Bool} {k l : Kind} → Says a b l → k ≡ l → Says a b k
says_as {a} {b} x e = subst (λ k. Says a b k) (sym e) x

mapped : {A : Type 0} (f : A → Kind) (o : Option A) (k : Kind) → option_map f o ≡ Some k → (a : A) × (k ≡ f a)
mapped f None k e = absurd cc
mapped f (Some a) k e = (a, cc)

at_end : (k l : Kind) (row : List Piece) → ending k row ≡ Some l → l ≡ k
at_end k l row e = go (ends row) e
  where
    go : (b : Bool) → (if b then Some k else None) ≡ Some l → l ≡ k
    go true e = cc
    go false e = absurd cc

by_colon : (row : List Piece) (k : Kind) → (word_in row ▶ λ s row. if is_last_colon s.role row then Some Other else None) ≡ Some k → k ≡ Other
by_colon row k e = go (word_in row) e
  where
    last : (b : Bool) → (if b then Some Other else None) ≡ Some k → k ≡ Other
    last true e = cc
    last false e = absurd cc

    go : (o : Reading Sign) → (o ▶ λ s row. if is_last_colon s.role row then Some Other else None) ≡ Some k → k ≡ Other
    go None e = absurd cc
    go (Some (s, row)) e = last (is_last_colon s.role row) e

no_suit : {k l : Kind} → IsTrue (suits state.Statement k) → k ≡ l → suits state.Statement l ≡ false → ⊥
no_suit h e n = let z = sym n ∙ ap (λ k. suits state.Statement k) (sym e) ∙ h in cc

by_role : (r : Role) (row : List Piece) (k : Kind) → line r row ≡ Some k → IsTrue (suits state.Statement k) → Says (is_leaving r) (is_opening r) k
by_role (role.If n) row k e h = says_as (record { loops = λ i. refl; depth = refl }) (mapped (If n) (value_in row) k e).1
by_role (role.ElseIf n) row k e h = absurd (no_suit h (mapped (ElseIf n) (value_in row) k e).1 refl)
by_role role.Else row k e h = absurd (no_suit h (at_end Else k row e) refl)
by_role role.Case row k e h = says_as (record { loops = λ i. refl; depth = refl }) (mapped Case (value_in row) k e).1
by_role role.Other row k e h = absurd (no_suit h (by_colon row k e) refl)
by_role role.Repeat row k e h = says_as (record { loops = λ i. refl; depth = refl }) (mapped Repeat (course row) k e).1
by_role (role.End u) row k e h = absurd (no_suit h (mapped (End u) (value_in row) k e).1 refl)
by_role role.Next row k e h = says_as (record { loops = λ i. refl; depth = refl }) (at_end (Plain Next) k row e)
by_role role.Quit row k e h = says_as (record { loops = λ i. refl; depth = refl }) (at_end (Plain Quit) k row e)
by_role role.Return row k e h = says_as (record { loops = λ i. refl; depth = refl }) (mapped (λ e. Plain (Return e)) (maybe_value row) k e).1
by_role role.Abort row k e h = says_as (record { loops = λ i. refl; depth = refl }) (mapped (λ e. Plain (Abort e)) (maybe_value row) k e).1
by_role r row k e h = absurd cc

says_with : {a b c d : Bool} {k : Kind} → a ≡ c → b ≡ d → Says a b k → Says c d k
says_with {b = b} {c = c} {k = k} e f x = subst (λ d. Says c d k) f (subst (λ c. Says c b k) e x)

-- a line that begins with a word of its own
of_word : (t : LineToken) (row : List Piece) (k : Kind) → kind_of_row (piece t ∷ row) ≡ Some k → IsTrue (suits state.Statement k) → Says (is_loop_word (word t)) (is_opener_word (word t)) k
of_word t row k e h = go (lexeme t) e
  where
    by_word : line (role_of (word t)) row ≡ Some k → Says (is_loop_word (word t)) (is_opener_word (word t)) k
    by_word e = says_with (leaving (word t)) (opening (word t)) (by_role (role_of (word t)) row k e h)

    go : (l : Lexeme) → kind_of_row (piece_from l (word t) t.place ∷ row) ≡ Some k → Says (is_loop_word (word t)) (is_opener_word (word t)) k
    go (lexemes.name n) e = absurd cc
    go (lexemes.string s) e = absurd cc
    go l e = by_word e

-- an action begins with none of these words
front_lexeme : (t : LineToken) (w : Word) → word t ≡ w → IsOther (lexeme t) ⊎ ((is_loop_word w ≡ false) × (is_opener_word w ≡ false))
unfolding lexeme_of_word
front_lexeme t word_case.Next e = inl (other_word t word_case.Next refl refl e)
front_lexeme t word_case.Quit e = inl (other_word t word_case.Quit refl refl e)
front_lexeme t word_case.If e = inl (other_word t word_case.If refl refl e)
front_lexeme t word_case.Ifnot e = inl (other_word t word_case.Ifnot refl refl e)
front_lexeme t word_case.Case e = inl (other_word t word_case.Case refl refl e)
front_lexeme t word_case.Repeat e = inl (other_word t word_case.Repeat refl refl e)
front_lexeme t w e = inr (refl, refl)

none_so : (s : Setting) (t : LineToken) → IsFront s (term t ∷ []) → (is_loop_word (word t) ≡ false) × (is_opener_word (word t) ≡ false)
none_so s t f = go (front_lexeme t (word t) refl)
  where
    go : IsOther (lexeme t) ⊎ ((is_loop_word (word t) ≡ false) × (is_opener_word (word t) ≡ false)) → (is_loop_word (word t) ≡ false) × (is_opener_word (word t) ≡ false)
    go (inl e) =
        let none : step (start s) (term t) ≡ None = other_step s fresh [] t.place (lexeme t) (other_plain e) refl in
        absurd (dead s (term t ∷ []) (ap (λ o. option_and_then (λ st. walk st []) o) none) f)
    go (inr x) = x

-- an action opens nothing and leaves no loop
of_action : (e : Tree) (p : Place) (row : List Piece) (k : Kind) → kind_of_row (tree e p ∷ row) ≡ Some k → IsTrue (suits state.Statement k) → Says false false k
of_action e p row k i h = go (is_item (tree e p ∷ row)) i
  where
    go : (b : Bool) → (if b then option_map Item (tests_after no_items None (tree e p ∷ row)) else statement (tree e p ∷ row)) ≡ Some k → Says false false k
    go true i = absurd (no_suit h (mapped Item (tests_after no_items None (tree e p ∷ row)) k i).1 refl)
    go false i = says_as (record { loops = λ i. refl; depth = refl }) (at_end (Plain (Do e)) k row i)

statement_says : {row : List Piece} {ts : List LineToken} (t : LineToken) (us : List LineToken) (k : Kind) → Row state.Statement row ts → ts ≡ t ∷ us → kind_of_row row ≡ Some k → IsTrue (suits state.Statement k) → Says (is_loop_word (word t)) (is_opener_word (word t)) k
statement_says t us k (line_specs.token {row = row} {t = first} f x) i e h =
    let firsts : first ≡ t = cc in
    subst (λ t. Says (is_loop_word (word t)) (is_opener_word (word t)) k) firsts (of_word first row k e h)
statement_says t us k (line_specs.phrase {h = p} {e = a} {row = row} {first = first} {t = next} others c x f y) i e h =
    let firsts : first ≡ t = cc in
    let n = none_so p.setting first (begins p.setting a (first ∷ []) others x) in
    subst (λ t. Says (is_loop_word (word t)) (is_opener_word (word t)) k) firsts (says_with (sym n.0) (sym n.1) (of_action a first.place (piece next ∷ row) k e h))

-- the first piece of a line that begins with no expression
pub begins_with : {q : LineState} {row : List Piece} {ts : List LineToken} (t : LineToken) (us : List LineToken) → Row q row ts → (choices q).phrase ≡ None → is_labelled q ≡ false → ts ≡ t ∷ us → (rest : List Piece) × (row ≡ piece t ∷ rest)
begins_with t us over n l e = absurd cc
begins_with t us (line_specs.token {q = q} {row = row} {t = first} f x) n l e = let firsts : first ≡ t = cc in (row, ap (λ x. x ∷ row) (plain_piece q first l) ∙ ap (λ t. piece t ∷ row) firsts)
begins_with t us (line_specs.phrase others p x f y) n l e = absurd (let z = sym n ∙ p in cc)

-- what a line says, by the state that it is read from
pub line_says : (q : LineState) (row : List Piece) (t : LineToken) (us : List LineToken) (k : Kind) → IsTrue (begins_line q) → Row q row (t ∷ us) → kind_of_row row ≡ Some k → IsTrue (suits q k) → Says (leaves_loop q (word t)) (opens q (word t)) k
line_says state.Statement row t us k b x e h = statement_says t us k x refl e h
line_says state.ChainLine row t us (ElseIf n c) b x e h = record { loops = λ i. refl; depth = refl }
line_says state.ChainLine row t us Else b x e h = record { loops = λ i. refl; depth = refl }
line_says state.ChainLine row t us k b x e h = absurd cc
line_says state.LoopEndLine row t us (End u c) b x e h = record { loops = λ i. refl; depth = refl }
line_says state.LoopEndLine row t us k b x e h = absurd cc
line_says state.CaseItem row t us (Item xs) b x e h = record { loops = λ i. refl; depth = refl }
line_says state.CaseItem row t us Other b x e h = record { loops = λ i. refl; depth = refl }
line_says state.CaseItem row t us k b x e h = absurd cc
line_says q row t us k b x e h = absurd cc
