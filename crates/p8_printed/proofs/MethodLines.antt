-- Lines of methods whose expressions were read from tokens of a source: their words are read back.
use Rattle.std.proofs.Common.{◌≡◌, ℕ, ◌≤◌, Bool, true, false, List, [], ◌∷◌, ◌++◌, All, Some, None, option_map, refl, sym, ap, ◌∙◌, subst, append_assoc, append-nil, arith}
use Rattle.std.specs.Prelude.{IsTrue, not, if◌then◌else◌}
use Rattle.std.proofs.lemmas.List.Elements.{All-cons}
use Rattle.p8_tree.specs.declared.places.Place.{Place}
use Rattle.p8_tree.specs.Expressions.{Tree, node, Var, Named, no_index, single, range, Items, no_items, ◌▸◌}
use Rattle.p8_tree.specs.Statements.{Course, Forever, Count, Before, After, From, Action, Do, Next, Quit, Return, Abort}
use Rattle.p8_tree.specs.Forgetting.{anywhere, tree_anywhere, items_anywhere, IsSameTree}
use Rattle.p8_tree.specs.Names.{IsVariableName, plain_name, result_name, local_label}
use Rattle.p8_tree.specs.Proper.{IfThere, is_no_item}
use Rattle.p8_lexer.specs.declared.word.Word.{Word}
use Rattle.p8_lexer.specs.declared.word.Word.TheVariants as word_case
use Rattle.p8_grammar.specs.Lexemes as lexemes
use Rattle.p8_grammar.specs.Lexemes.{in_method, in_action, token}
use Rattle.p8_grammar.specs.Grammar as grammar
use Rattle.p8_grammar.specs.Grammar.{IsExpression, operand, variable, named, nothing}
use Rattle.p8_grammar.specs.Heights.{height}
use Rattle.p8_expr.specs.Words.{lexeme_of_word}
use Rattle.p8_columns.specs.Lines.{Kind, Plain, If, ElseIf, Else, Repeat, End, Case, Item as ItemLine, Other}
use Rattle.p8_lexer.specs.Pieces.{Piece, word, tree}
use Rattle.p8_lines.specs.declared.arrow.Arrow.{Arrow}
use Rattle.p8_lines.specs.declared.state.LineState.{LineState}
use Rattle.p8_lines.specs.declared.state.LineState.TheVariants as state
use Rattle.p8_lines.specs.Diagram.{Phrase, ◌⇒◌, outer, counting, choices}
use Rattle.p8_lines.specs.Tokens as tokens
use Rattle.p8_lines.specs.Tokens.{LineToken, terms, piece}
use Rattle.p8_lines.specs.Lines.{Follows, is_name_word, is_name, behind, Leads, nowhere, by_phrase}
use Rattle.p8_lines.proofs.Begun.{not_nothing}
use Rattle.p8_blocks.proofs.Pieces.{word_piece, is_labelled}
use Rattle.p8_statements.specs.Roles.{role_of}
use Rattle.p8_statements.specs.Statements.{tests_after, is_item, statement, kind_of_row}
use Rattle.p8_blocks.specs.Files as files
use Rattle.p8_print.specs.Spelled.{Spelled, reserved, name, IsReadable, is_free}
use Rattle.p8_print.specs.Wording.{words_of, words_of_name, wrapped}
use Rattle.p8_print.specs.StatementWords.{words_of_course, words_of_test, tests_before, words_of_tests, words_of_action, words_of_kind}
use Rattle.p8_printed.specs.Kinds.{kind_anywhere, begin_of}
use Rattle.p8_printed.specs.Lexemes.{lexeme_of_reserved, lexeme_of_spelled, IsInCapitals}
use Rattle.p8_printed.specs.Rereading.{AreSpelled, LineReadsBack}
use Rattle.p8_printed.proofs.Readings.{IsRead, IsReadAction}
use Rattle.p8_printed.proofs.OperandWords.{plain_words}
use Rattle.p8_printed.proofs.Printed.{printed, bare_back}
use Rattle.p8_printed.proofs.ProperNames.{name_lexeme}
use Rattle.p8_printed.proofs.RowSteps.{RowBack, weaker, same_words, token_lexeme, token_piece, LeadsTo, takes, ends, over, a_word, spelled_words, last, before}

-- lines that can be written

abbrev pub IsValue : Tree → Type 0
IsValue e = IsRead in_method e

abbrev pub IsCourse : Course → Type 0
IsCourse Forever = Unit {0}
IsCourse (Count e) = IsValue e
IsCourse (Before until e) = IsValue e
IsCourse (After until e) = ⊥
IsCourse (From n a b step p) = IsVariableName false n × IsValue a × IsValue b × IfThere IsValue step

abbrev pub AreTests : Items → Type 0
AreTests no_items = Unit {0}
AreTests (xs ▸ single e) = AreTests xs × IsValue e
AreTests (xs ▸ range low high) = AreTests xs × IsValue low × IsValue high

abbrev pub AreSomeTests : Items → Type 0
AreSomeTests xs = IsTrue (not (is_no_item xs)) × AreTests xs

abbrev pub IsAction : Action → Type 0
IsAction (Do e) = IsReadAction e
IsAction Next = Unit {0}
IsAction Quit = Unit {0}
IsAction (Return e) = IfThere IsValue e
IsAction (Abort e) = IfThere IsValue e
IsAction a = ⊥

abbrev pub IsLine : Kind → Type 0
IsLine (Plain a) = IsAction a
IsLine (If negated e) = IsValue e
IsLine (ElseIf negated e) = IsValue e
IsLine Else = Unit {0}
IsLine (Repeat c) = IsCourse c
IsLine (End until e) = IsValue e
IsLine (Case e) = IsValue e
IsLine (ItemLine xs) = AreSomeTests xs
IsLine Other = Unit {0}

abbrev from_word : Spelled
from_word = reserved word_case.From

abbrev to_word : Spelled
to_word = reserved word_case.To

abbrev comma_word : Spelled
comma_word = reserved word_case.Comma

abbrev dots_word : Spelled
dots_word = reserved word_case.DotDot

abbrev colon_word : Spelled
colon_word = reserved word_case.Colon

-- a row is this line, but for places
abbrev Is : Kind → List Piece → Type 0
Is k row = (k' : Kind) × (kind_of_row row ≡ Some k') × (kind_anywhere k' ≡ kind_anywhere k)

-- a word alone, and a word with a value

alone : (q r : LineState) → is_labelled q ≡ false → (w : Word) (k : Kind) → is_free w ≡ false → LeadsTo (choices q).arrows w r → LeadsTo (choices r).arrows word_case.LineEnd state.End
    → ((p o : Place) → kind_of_row (word w p ∷ word word_case.LineEnd o ∷ []) ≡ Some k) → RowBack true q (reserved w ∷ []) (Is k)
alone q r unlabelled w k free to end is = a_word q r unlabelled w free to (ends r end (λ o p. (k, is p o, refl)))

abbrev AtEnd : Phrase
AtEnd = outer in_method (word_case.LineEnd ⇒ state.End ∷ [])

valued : (q r : LineState) → is_labelled q ≡ false → (w : Word) (f : Tree → Kind) (e : Tree) → is_free w ≡ false → LeadsTo (choices q).arrows w r → (choices r).phrase ≡ Some AtEnd → IsValue e
    → ((e' : Tree) (p p' o : Place) → kind_of_row (word w p ∷ tree e' p' ∷ word word_case.LineEnd o ∷ []) ≡ Some (f e'))
    → ((e' : Tree) → tree_anywhere e' ≡ tree_anywhere e → kind_anywhere (f e') ≡ kind_anywhere (f e)) → RowBack true q (reserved w ∷ wrapped e) (Is (f e))
valued q r unlabelled w f e free to some y is same = a_word q r unlabelled w free to (last r AtEnd e some y (λ n. refl) (λ e' s p o p'. (f e', is e' p' p o, same e' s)))

-- actions

module _ (e : Tree) (r : IsReadAction e) where
  readable : All IsReadable (words_of e)
  readable k d lt = ((printed r.is (omega arith) r.good).words k d lt).0

  capitals : All IsInCapitals (words_of e)
  capitals k d lt = ((printed r.is (omega arith) r.good).words k d lt).1

  abbrev LastEnd : List Arrow
  LastEnd = word_case.LineEnd ⇒ state.End ∷ []

  behind_action : (us : List LineToken) (t : LineToken) → tokens.word t ≡ word_case.LineEnd → Follows (behind (outer in_action LastEnd) us) t state.End
  behind_action us t end = go (is_name us)
    where
      go : (b : Bool) → Follows (if b then LastEnd else LastEnd) t state.End
      go true = takes LastEnd word_case.LineEnd state.End t (λ n. refl) end
      go false = takes LastEnd word_case.LineEnd state.End t (λ n. refl) end

  done : (ts : List LineToken) (t : LineToken) → AreSpelled (words_of e) ts → tokens.word t ≡ word_case.LineEnd → (row : List Piece) × Leads state.Statement (ts ++ t ∷ []) row state.End × Is (Plain (Do e)) row
  unfolding role_of
  done ts t h end = go ts (bare_back refl r.is r.good (spelled_words (words_of e) ts readable capitals h))
    where
      go : (ts : List LineToken) → (e' : Tree) × IsExpression in_action e' (terms ts) × IsSameTree e' e × (height e' ≡ height e) → (row : List Piece) × Leads state.Statement (ts ++ t ∷ []) row state.End × Is (Plain (Do e)) row
      go [] x = absurd (not_nothing in_action x.0 x.1)
      go (u ∷ us) x = (
        tree x.0 u.place ∷ piece t ∷ [],
        by_phrase {first = u} us refl x.1 (subst (λ n. n ≤ 64) (sym x.3) r.low) (behind_action (u ∷ us) t end) nowhere,
        subst (λ y. Is (Plain (Do e)) (tree x.0 u.place ∷ y ∷ [])) (sym (word_piece t word_case.LineEnd refl end))
            (Plain (Do x.0), refl, ap (λ e. Plain (Do e)) x.2),
      )

  done_back : RowBack true state.Statement (words_of e) (Is (Plain (Do e)))
  done_back = record { readable = readable; capitals = capitals; read = done }

action_back : (a : Action) → IsAction a → RowBack true state.Statement (words_of_action a) (Is (Plain a))
unfolding role_of
action_back (Do e) h = done_back e h
action_back Next h = alone state.Statement state.LineEnd refl word_case.Next (Plain Next) refl (λ n. refl) (λ n. refl) (λ p o. refl)
action_back Quit h = alone state.Statement state.LineEnd refl word_case.Quit (Plain Quit) refl (λ n. refl) (λ n. refl) (λ p o. refl)
action_back (Return None) h = alone state.Statement state.MaybeValue refl word_case.Return (Plain (Return None)) refl (λ n. refl) (λ n. refl) (λ p o. refl)
action_back (Return (Some e)) h =
    valued state.Statement state.MaybeValue refl word_case.Return (λ e. Plain (Return (Some e))) e refl (λ n. refl) refl h (λ e' p p' o. refl) (λ e' s. ap (λ e. Plain (Return (Some e))) s)
action_back (Abort None) h = alone state.Statement state.MaybeValue refl word_case.Abort (Plain (Abort None)) refl (λ n. refl) (λ n. refl) (λ p o. refl)
action_back (Abort (Some e)) h =
    valued state.Statement state.MaybeValue refl word_case.Abort (λ e. Plain (Abort (Some e))) e refl (λ n. refl) refl h (λ e' p p' o. refl) (λ e' s. ap (λ e. Plain (Abort (Some e))) s)
action_back a h = absurd h

-- REPEAT

abbrev Counting : Phrase
Counting = counting in_method (word_case.LineEnd ⇒ state.End ∷ []) (word_case.LineEnd ⇒ state.End ∷ word_case.From ⇒ state.From ∷ [])

abbrev UpTo : Phrase
UpTo = outer in_method (word_case.To ⇒ state.To ∷ [])

abbrev AfterTo : Phrase
AfterTo = outer in_method (word_case.Step ⇒ state.LastValue ∷ word_case.LineEnd ⇒ state.End ∷ [])

-- one word that is a variable's name, as an expression
abbrev counter : List ℕ → Place → Tree
counter n p = node p (Var (Named n no_index p))

-- a counter, in front of FROM
counter_word : (w : Spelled) (n : List ℕ) {ws : List Spelled} {P : List Piece → Type 0} → IsReadable w → IsInCapitals w → is_name_word (lexeme_of_spelled w) ≡ true
    → ((p : Place) → IsExpression in_method (counter n p) (token p (lexeme_of_spelled w) ∷ []))
    → RowBack true state.From ws (λ row. (p o : Place) → P (tree (counter n p) p ∷ word word_case.From o ∷ row)) → RowBack true state.Repeat (w ∷ from_word ∷ ws) P
counter_word w n {ws = ws} {P = P} readable capitals one is b = record {
  readable = All-cons IsReadable w (from_word ∷ ws) readable (All-cons IsReadable from_word ws refl b.readable);
  capitals = All-cons IsInCapitals w (from_word ∷ ws) capitals (All-cons IsInCapitals from_word ws tt b.capitals);
  read = go;
}
  where
    go : (ts : List LineToken) (t : LineToken) → AreSpelled (w ∷ from_word ∷ ws) ts → tokens.word t ≡ word_case.LineEnd → (row : List Piece) × Leads state.Repeat (ts ++ t ∷ []) row state.End × P row
    go [] t h end = absurd h
    go (u ∷ []) t h end = absurd h.1
    go (u ∷ v ∷ ts) t h end =
        let x = b.read ts t h.1.1 end in
        let same = token_lexeme w u readable capitals h.0 in
        let follows = takes Counting.behind_name word_case.From state.From v (λ n. refl) h.1.0.word in (
          tree (counter n u.place) u.place ∷ piece v ∷ x.0,
          by_phrase {h = Counting} {first = u} [] refl
              (subst (λ l. IsExpression in_method (counter n u.place) (token u.place l ∷ [])) (sym same) (is u.place)) (omega arith)
              (subst (λ b. Follows (if b then Counting.behind_name else Counting.behind_other) v state.From) (sym (ap is_name_word same ∙ one)) follows) x.1,
          subst (λ y. P (tree (counter n u.place) u.place ∷ y ∷ x.0)) (sym (token_piece from_word v refl tt h.1.0)) (x.2 u.place v.place),
        )

result_lexeme : lexeme_of_reserved word_case.Result ≡ lexemes.reserved grammar.result_name lexemes.method_result
unfolding lexeme_of_reserved lexeme_of_word
result_lexeme = refl

counter_back : (n : List ℕ) {ws : List Spelled} {P : List Piece → Type 0} → IsVariableName false n → RowBack true state.From ws (λ row. (p o : Place) → P (tree (counter n p) p ∷ word word_case.From o ∷ row)) → RowBack true state.Repeat (words_of_name n ++ from_word ∷ ws) P
counter_back n {ws = ws} (plain_name h) b =
    let good = name_lexeme n h in
    same_words (ap (λ l. l ++ from_word ∷ ws) (plain_words n good.0))
    (counter_word (name n) n good.0 good.1 refl (λ p. operand (variable refl (named grammar.plain_name)) (grammar.a_word nothing)) b)
counter_back n result_name b =
    counter_word (reserved word_case.Result) grammar.result_name refl tt (ap is_name_word result_lexeme)
    (λ p. subst (λ l. IsExpression in_method (counter grammar.result_name p) (token p l ∷ [])) (sym result_lexeme)
    (operand (variable refl (named grammar.result_word)) (grammar.a_reserved_word grammar.result_name refl nothing))) b
counter_back n (local_label d h) b = absurd cc

course_back : (c : Course) → IsCourse c → RowBack true state.Statement (reserved word_case.Repeat ∷ words_of_course c) (Is (Repeat c))
unfolding role_of
course_back Forever h = alone state.Statement state.Repeat refl word_case.Repeat (Repeat Forever) refl (λ n. refl) (λ n. refl) (λ p o. refl)
course_back (Count e) h =
    a_word state.Statement state.Repeat refl word_case.Repeat refl (λ n. refl)
    (last state.Repeat Counting e refl h (λ n. refl) (λ e' s p o p'. (Repeat (Count e'), refl, ap (λ e. Repeat (Count e)) s)))
course_back (Before false e) h =
    a_word state.Statement state.Repeat refl word_case.Repeat refl (λ n. refl)
    (a_word state.Repeat state.LastValue refl word_case.While refl (λ n. refl)
    (last state.LastValue AtEnd e refl h (λ n. refl) (λ e' s p o p' q. (Repeat (Before false e'), refl, ap (λ e. Repeat (Before false e)) s))))
course_back (Before true e) h =
    a_word state.Statement state.Repeat refl word_case.Repeat refl (λ n. refl)
    (a_word state.Repeat state.LastValue refl word_case.Until refl (λ n. refl)
    (last state.LastValue AtEnd e refl h (λ n. refl) (λ e' s p o p' q. (Repeat (Before true e'), refl, ap (λ e. Repeat (Before true e)) s))))
course_back (After until e) h = absurd h
course_back (From n a b None p) h =
    same_words (ap (λ l. reserved word_case.Repeat ∷ (words_of_name n ++ from_word ∷ (wrapped a ++ to_word ∷ l))) (append-nil (wrapped b)))
    (a_word state.Statement state.Repeat refl word_case.Repeat refl (λ n. refl)
    (counter_back n h.0
    (before state.From state.To UpTo a word_case.To refl h.1 refl (λ n. refl)
    (last state.To AfterTo b refl h.2 (λ n. refl)
    (λ b' t p o o' a' s p' q q' r. (Repeat (From n a' b' None q), refl, λ i. Repeat (From n (s i) (t i) None anywhere)))))))
course_back (From n a b (Some c) p) h =
    a_word state.Statement state.Repeat refl word_case.Repeat refl (λ n. refl)
    (counter_back n h.0
    (before state.From state.To UpTo a word_case.To refl h.1 refl (λ n. refl)
    (before state.To state.LastValue AfterTo b word_case.Step refl h.2 refl (λ n. refl)
    (last state.LastValue AtEnd c refl h.3 (λ n. refl)
    (λ c' u p o o' b' t p' o'' a' s q r r' v. (Repeat (From n a' b' (Some c') r), refl, λ i. Repeat (From n (s i) (t i) (Some (u i)) anywhere)))))))

-- the tests of a CASE's item

abbrev Tested : Phrase
Tested = outer in_method (word_case.DotDot ⇒ state.CaseRange ∷ word_case.Comma ⇒ state.CaseTest ∷ word_case.Colon ⇒ state.End ∷ [])

abbrev LastOfRange : Phrase
LastOfRange = outer in_method (word_case.Comma ⇒ state.CaseTest ∷ word_case.Colon ⇒ state.End ∷ [])

-- where a test may begin
abbrev BeginsTest : LineState → Type 0
BeginsTest q = (choices q).phrase ≡ Some Tested

-- after tests that are these but for places, a row goes on so that it has all of them
abbrev Gives : Items → Items → List Piece → Type 0
Gives all xs row = (ys : Items) → items_anywhere ys ≡ items_anywhere xs
    → (is_item row ≡ true) × (zs : Items) × (tests_after ys None row ≡ Some zs) × (items_anywhere zs ≡ items_anywhere all)

-- a test, a mark and what stands after them
single_back : (all xs : Items) (e : Tree) (ws : List Spelled) → IsValue e → RowBack false state.CaseTest ws (Gives all (xs ▸ single e)) → (q : LineState) → BeginsTest q → RowBack false q (wrapped e ++ comma_word ∷ ws) (Gives all xs)
unfolding role_of
single_back all xs e ws h b q at =
    before q state.CaseTest Tested e word_case.Comma at h refl (λ n. refl)
    (weaker (λ row g o e' s p ys same. let x = g (ys ▸ single e') (λ i. same i ▸ single (s i)) in (refl, x.1, x.2, x.3)) b)

range_back : (all xs : Items) (low high : Tree) (ws : List Spelled) → IsValue low → IsValue high → RowBack false state.CaseTest ws (Gives all (xs ▸ range low high)) → (q : LineState) → BeginsTest q → RowBack false q (wrapped low ++ dots_word ∷ (wrapped high ++ comma_word ∷ ws)) (Gives all xs)
unfolding role_of
range_back all xs low high ws h k b q at =
    before q state.CaseRange Tested low word_case.DotDot at h refl (λ n. refl)
    (before state.CaseRange state.CaseTest LastOfRange high word_case.Comma refl k refl (λ n. refl)
    (weaker (λ row g o' high' t p' o low' s p ys same. let x = g (ys ▸ range low' high') (λ i. same i ▸ range (s i) (t i)) in (refl, x.1, x.2, x.3)) b))

tests_back : (all xs : Items) (ws : List Spelled) → AreTests xs → ((q : LineState) → BeginsTest q → RowBack false q ws (Gives all xs)) → (q : LineState) → BeginsTest q → RowBack false q (tests_before xs ++ ws) (Gives all no_items)
tests_back all no_items ws h k q at = k q at
tests_back all (xs ▸ single e) ws h k q at =
    same_words
    (append_assoc (tests_before xs) (wrapped e ++ comma_word ∷ []) ws
    ∙ ap (λ l. tests_before xs ++ l) (append_assoc (wrapped e) (comma_word ∷ []) ws))
    (tests_back all xs (wrapped e ++ comma_word ∷ ws) h.0 (single_back all xs e ws h.1 (k state.CaseTest refl)) q at)
tests_back all (xs ▸ range low high) ws h k q at =
    same_words
    (append_assoc (tests_before xs) (words_of_test (range low high) ++ comma_word ∷ []) ws
    ∙ ap (λ l. tests_before xs ++ l) (test_words low high ws))
    (tests_back all xs (wrapped low ++ dots_word ∷ (wrapped high ++ comma_word ∷ ws)) h.0
    (range_back all xs low high ws h.1 h.2 (k state.CaseTest refl)) q at)
  where
    test_words : (low high : Tree) (ws : List Spelled) → (words_of_test (range low high) ++ comma_word ∷ []) ++ ws ≡ wrapped low ++ dots_word ∷ (wrapped high ++ comma_word ∷ ws)
    test_words low high ws =
        append_assoc (words_of_test (range low high)) (comma_word ∷ []) ws
        ∙ append_assoc (wrapped low) (dots_word ∷ wrapped high) (comma_word ∷ ws)

-- the last test, and the colon
last_test : (xs : Items) → AreSomeTests xs → RowBack false state.CaseItem (words_of_tests xs ++ colon_word ∷ []) (Gives xs no_items)
unfolding role_of
last_test no_items h = absurd (let z = h.0 in cc)
last_test (xs ▸ single e) h =
    same_words (append_assoc (tests_before xs) (wrapped e) (colon_word ∷ []))
    (tests_back (xs ▸ single e) xs (wrapped e ++ colon_word ∷ []) h.1.0
    (λ q at. before q state.End Tested e word_case.Colon at h.1.1 refl (λ n. refl)
    (over (λ o e' s p ys same. (refl, ys ▸ single e', refl, λ i. same i ▸ single (s i)))))
    state.CaseItem refl)
last_test (xs ▸ range low high) h =
    same_words
    (append_assoc (tests_before xs) (words_of_test (range low high)) (colon_word ∷ [])
    ∙ ap (λ l. tests_before xs ++ l) (append_assoc (wrapped low) (dots_word ∷ wrapped high) (colon_word ∷ [])))
    (tests_back (xs ▸ range low high) xs (wrapped low ++ dots_word ∷ (wrapped high ++ colon_word ∷ [])) h.1.0
    (λ q at. before q state.CaseRange Tested low word_case.DotDot at h.1.1 refl (λ n. refl)
    (before state.CaseRange state.End LastOfRange high word_case.Colon refl h.1.2 refl (λ n. refl)
    (over (λ o' high' t p' o low' s p ys same. (refl, ys ▸ range low' high', refl, λ i. same i ▸ range (s i) (t i))))))
    state.CaseItem refl)

item_is : (xs : Items) (row : List Piece) → Gives xs no_items row → Is (ItemLine xs) row
item_is xs row g =
    let x = g no_items refl in
    let kind = ap (λ b. if b then option_map ItemLine (tests_after no_items None row) else statement row) x.0 in
    (ItemLine x.1, kind ∙ ap (option_map ItemLine) x.2, ap ItemLine x.3)

-- all lines

pub line_back : (k : Kind) → IsLine k → RowBack (not (files.is_item k)) (begin_of k) (words_of_kind k) (Is k)
unfolding role_of
line_back (Plain a) h = action_back a h
line_back (If false e) h = valued state.Statement state.LastValue refl word_case.If (If false) e refl (λ n. refl) refl h (λ e' p p' o. refl) (λ e'. ap (If false))
line_back (If true e) h = valued state.Statement state.LastValue refl word_case.Ifnot (If true) e refl (λ n. refl) refl h (λ e' p p' o. refl) (λ e'. ap (If true))
line_back (ElseIf false e) h = valued state.ChainLine state.LastValue refl word_case.Elseif (ElseIf false) e refl (λ n. refl) refl h (λ e' p p' o. refl) (λ e'. ap (ElseIf false))
line_back (ElseIf true e) h = valued state.ChainLine state.LastValue refl word_case.Elseifnot (ElseIf true) e refl (λ n. refl) refl h (λ e' p p' o. refl) (λ e'. ap (ElseIf true))
line_back Else h = alone state.ChainLine state.LineEnd refl word_case.Else Else refl (λ n. refl) (λ n. refl) (λ p o. refl)
line_back (Repeat c) h = course_back c h
line_back (End false e) h = valued state.LoopEndLine state.LastValue refl word_case.While (End false) e refl (λ n. refl) refl h (λ e' p p' o. refl) (λ e'. ap (End false))
line_back (End true e) h = valued state.LoopEndLine state.LastValue refl word_case.Until (End true) e refl (λ n. refl) refl h (λ e' p p' o. refl) (λ e'. ap (End true))
line_back (Case e) h = valued state.Statement state.LastValue refl word_case.Case Case e refl (λ n. refl) refl h (λ e' p p' o. refl) (λ e' s. ap Case s)
line_back (ItemLine xs) h = weaker (λ row. item_is xs row) (last_test xs h)
line_back Other h =
    a_word state.CaseItem state.OtherColon refl word_case.Other refl (λ n. refl)
    (a_word state.OtherColon state.End refl word_case.Colon refl (λ n. refl) (over (λ p o. (Other, refl, refl))))

pub read_back : (k : Kind) → IsLine k → LineReadsBack k
read_back k h =
    let b = line_back k h in
    record { readable = b.readable; capitals = b.capitals; read = λ ts t s e. let x = b.read ts t s e in let y = x.2 in (x.0, y.0, x.1, y.1, y.2) }
