-- Proper lines of methods, but for their places, are such as are read of a source, and so are those that are read.
use Rattle.std.proofs.Common.{◌≡◌, ◌≤◌, false, List, All, Option, Some, option_map, refl, sym, ap, ◌∙◌, subst, subst₂}
use Rattle.std.specs.Prelude.{IsTrue, not}
use Rattle.p8_tree.specs.Expressions.{Tree, node, Items, no_items, ◌▸◌, single, range}
use Rattle.p8_tree.specs.Statements.{Course, Forever, Count, Before, After, From, Action, Do, Next, Quit, Return, Abort}
use Rattle.p8_tree.specs.Forgetting.{anywhere, tree_anywhere, items_anywhere, course_anywhere, action_anywhere}
use Rattle.p8_tree.specs.Proper.{IfThere, IsProperExpression, IsProperCourse, IsProperAction, AreProperTests, is_no_item, IsDone}
use Rattle.p8_grammar.specs.Heights.{height}
use Rattle.p8_grammar.specs.Proper as grammar
use Rattle.p8_columns.specs.Lines.{Kind, Plain, If, ElseIf, Else, Repeat, End, Case, Item, Other}
use Rattle.p8_lexer.specs.Pieces.{Piece}
use Rattle.p8_lines.specs.declared.state.LineState.{LineState}
use Rattle.p8_lines.specs.declared.state.LineState.TheVariants as state
use Rattle.p8_lines.specs.Tokens.{LineToken, terms}
use Rattle.p8_lines.specs.Lines.{Leads}
use Rattle.p8_statements.specs.Statements.{kind_of_row}
use Rattle.p8_statements.specs.Proper.{IsProperKind, KindsAreProper}
use Rattle.p8_blocks.specs.Proper.{MethodRowsAreProper}
use Rattle.p8_blocks.specs.Files.{is_item}
use Rattle.p8_print.specs.Spelled.{IsReadable}
use Rattle.p8_print.specs.StatementWords.{words_of_kind}
use Rattle.p8_printed.specs.Kinds.{kind_anywhere, begin_of}
use Rattle.p8_printed.specs.Lexemes.{IsInCapitals}
use Rattle.p8_printed.specs.Rereading.{AreSpelled, AreOfSource, with_line_end, LineReadsBack}
use Rattle.p8_printed.proofs.Expressions.{action_spelled}
use Rattle.p8_printed.proofs.Heights.{same_height}
use Rattle.p8_printed.proofs.PlacelessLines.{kind_words}
use Rattle.p8_printed.proofs.Rebuilt.{is_simple, is_headed, is_line}
use Rattle.p8_printed.proofs.Values.{row_is_line}
use Rattle.p8_printed.proofs.Readings.{IsReadAction}
use Rattle.p8_printed.proofs.MethodLines.{IsValue, IsCourse, AreTests, AreSomeTests, IsAction, IsLine, read_back}
use Rattle.p8_printed.proofs.ProperAgain.{Again, alike, method_again, there_again}

maybe_again : (o : Option Tree) → IfThere (IsProperExpression false) o → Again (IfThere IsValue) (option_map tree_anywhere) o
maybe_again = there_again false IsValue method_again

done_again : (e : Tree) → IsDone e → Again IsReadAction tree_anywhere e
done_again e h =
    let x = action_spelled e h in
    let small = subst (λ n. n ≤ 64) (sym (same_height x.tree e x.same)) (low e h) in
    record { other = x.tree; holds = record { tokens = x.tokens; is = x.reads; good = x.lexemes; low = small }; same = x.same }
  where
    low : (e : Tree) → IsDone e → height e ≤ 64
    low (node p f) h = h.1

pub action_again : (a : Action) → IsTrue (is_simple a) → IsProperAction a → Again IsAction action_anywhere a
action_again (Do e) y h = let x = done_again e h in record { other = Do x.other; holds = x.holds; same = ap Do x.same }
action_again Next y h = record { other = Next; holds = tt; same = refl }
action_again Quit y h = record { other = Quit; holds = tt; same = refl }
action_again (Return e) y h = let x = maybe_again e h in record { other = Return x.other; holds = x.holds; same = ap Return x.same }
action_again (Abort e) y h = let x = maybe_again e h in record { other = Abort x.other; holds = x.holds; same = ap Abort x.same }
action_again a y h = absurd cc

pub course_again : (c : Course) → IsTrue (is_headed c) → IsProperCourse c → Again IsCourse course_anywhere c
course_again Forever y h = record { other = Forever; holds = tt; same = refl }
course_again (Count e) y h = let x = method_again e h in record { other = Count x.other; holds = x.holds; same = ap Count x.same }
course_again (Before until e) y h = let x = method_again e h in record { other = Before until x.other; holds = x.holds; same = ap (Before until) x.same }
course_again (After until e) y h = absurd cc
course_again (From n a b step p) y h =
    let x = method_again a h.1 in
    let z = method_again b h.2 in
    let s = maybe_again step h.3 in
    record { other = From n x.other z.other s.other p; holds = (h.0, x.holds, z.holds, s.holds); same = λ i. From n (x.same i) (z.same i) (s.same i) anywhere }

-- as many tests
record TestsAgain (xs : Items) : Type 0 where
  other : Items
  holds : AreTests other
  some : is_no_item other ≡ is_no_item xs
  same : items_anywhere other ≡ items_anywhere xs

tests_again : (xs : Items) → AreProperTests xs → TestsAgain xs
tests_again no_items h = record { other = no_items; holds = tt; some = refl; same = refl }
tests_again (xs ▸ single e) h =
    let r = tests_again xs h.0 in
    let x = method_again e h.1 in
    record { other = r.other ▸ single x.other; holds = (r.holds, x.holds); some = refl; same = λ i. r.same i ▸ single (x.same i) }
tests_again (xs ▸ range low high) h =
    let r = tests_again xs h.0 in
    let x = method_again low h.1.0 in
    let y = method_again high h.1.1 in
    record { other = r.other ▸ range x.other y.other; holds = (r.holds, x.holds, y.holds); some = refl; same = λ i. r.same i ▸ range (x.same i) (y.same i) }

pub item_again : (xs : Items) → IsTrue (not (is_no_item xs)) → AreProperTests xs → Again AreSomeTests items_anywhere xs
item_again xs y h = let r = tests_again xs h in record { other = r.other; holds = (subst (λ b. IsTrue (not b)) (sym r.some) y, r.holds); same = r.same }

-- lines that are read

kind_again : (k : Kind) → IsTrue (is_line k) → IsProperKind k → Again IsLine kind_anywhere k
kind_again (Plain a) y h = let x = action_again a y h in record { other = Plain x.other; holds = x.holds; same = ap Plain x.same }
kind_again (If negated e) y h = let x = method_again e h in record { other = If negated x.other; holds = x.holds; same = ap (If negated) x.same }
kind_again (ElseIf negated e) y h = let x = method_again e h in record { other = ElseIf negated x.other; holds = x.holds; same = ap (ElseIf negated) x.same }
kind_again Else y h = record { other = Else; holds = tt; same = refl }
kind_again (Repeat c) y h = let x = course_again c y h in record { other = Repeat x.other; holds = x.holds; same = ap Repeat x.same }
kind_again (End until e) y h = let x = method_again e h in record { other = End until x.other; holds = x.holds; same = ap (End until) x.same }
kind_again (Case e) y h = let x = method_again e h in record { other = Case x.other; holds = x.holds; same = ap Case x.same }
kind_again (Item xs) y h = let x = item_again xs h.0 h.1 in record { other = Item x.other; holds = x.holds; same = ap Item x.same }
kind_again Other y h = record { other = Other; holds = tt; same = refl }

begin_kept : (k : Kind) → begin_of (kind_anywhere k) ≡ begin_of k
begin_kept (Plain a) = refl
begin_kept k = refl

item_kept : (k : Kind) → is_item (kind_anywhere k) ≡ is_item k
item_kept (Item xs) = refl
item_kept k = refl

-- whether a line is an item doesn't depend on places
pub item_anywhere : (k' k : Kind) → kind_anywhere k' ≡ kind_anywhere k → is_item k' ≡ is_item k
item_anywhere = alike kind_anywhere is_item item_kept

reads_alike : (k' k : Kind) → kind_anywhere k' ≡ kind_anywhere k → LineReadsBack k' → LineReadsBack k
reads_alike k' k e b =
    let words = alike kind_anywhere words_of_kind kind_words k' k e in
    record {
      readable = subst (All IsReadable) words b.readable;
      capitals = subst (All IsInCapitals) words b.capitals;
      read =
          λ ts t s end.
          let x = b.read ts t (subst (λ ws. AreSpelled ws ts) (sym words) s) end in
          let leads = subst₂ (λ q b. Leads q (with_line_end (not b) ts t) x.0 state.End) (alike kind_anywhere begin_of begin_kept k' k e) (item_anywhere k' k e) x.2 in
          (x.0, x.1, leads, x.3, x.4 ∙ e);
    }

pub of_row : (us : List LineToken) (row : List Piece) (k : Kind) → ((ts : List LineToken) → AreOfSource ts → grammar.AreProper (terms ts)) → KindsAreProper → (q : LineState) → MethodRowsAreProper q → Leads q us row state.End → AreOfSource us → kind_of_row row ≡ Some k → LineReadsBack k
of_row us row k proper kinds q rows leads source is =
    let x = kind_again k (row_is_line row k is) (kinds row k (rows us row leads (proper us source)) is) in
    reads_alike x.other k x.same (read_back x.other x.holds)
