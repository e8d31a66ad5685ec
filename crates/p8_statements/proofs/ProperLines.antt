-- Lines of a method that are read of rows whose names and expressions are proper.
use Rattle.std.proofs.Common.{◌≡◌, ℕ, Bool, true, false, List, ◌∷◌, Option, Some, None, refl, subst}
use Rattle.std.specs.Prelude.{IsTrue, if◌then◌else◌, not, option_map, option_and_then}
use Rattle.p8_tree.specs.declared.places.Place.{Place}
use Rattle.p8_tree.specs.Expressions.{Tree, node, Var, Named, no_index, Items, no_items, ◌▸◌}
use Rattle.p8_tree.specs.Statements.{Forever, Count, Before, From, Do, Next, Quit, Return, Abort}
use Rattle.p8_tree.specs.Names.{IsVariableName}
use Rattle.p8_tree.specs.Proper.{greatest_height, IfThere, IsProperTree, IsProperExpression, IsProperTest, AreProperTests, IsProperCourse, is_no_item, IsDone}
use Rattle.p8_columns.specs.Lines.{Plain, If, ElseIf, Else, Repeat, End, Case, Item as ItemLine, Other}
use Rattle.p8_lexer.specs.Pieces.{Piece, word, tree}
use Rattle.p8_statements.specs.declared.role.Role.{Role}
use Rattle.p8_statements.specs.declared.role.Role.TheVariants as role
use Rattle.p8_statements.specs.Roles.{role_of, is_comma, is_dot_dot, is_from, is_to, is_step}
use Rattle.p8_statements.specs.Rows.{◌▶◌, word_in, phrase, is_empty, ended, value_in}
use Rattle.p8_statements.specs.Statements.{maybe_value, counted, counting, counter, course_by, course_before, course, test, unless_in_range, is_last_colon, tests_after, line, is_item, statement, kind_of_row}
use Rattle.p8_lexer.specs.Proper.{AreProper}
use Rattle.p8_statements.specs.Proper.{IsProperBy, IsProperRow, IsProperKind, KindsAreProper}
use Rattle.p8_statements.proofs.ProperRows.{Gives, after, mapped, and_then, either, ended_gives, ending_gives, SignIs, word_gives, PhraseIs, phrase_gives, value_gives}

abbrev IsValue : Tree → Type 0
IsValue e = IsProperExpression false e

maybe_value_gives : (row : List Piece) → AreProper false 64 row → Gives (IfThere IsValue) (maybe_value row)
maybe_value_gives (word w p ∷ row) a = ended_gives (IfThere IsValue) None (role_of w) row tt
maybe_value_gives (tree e p ∷ row) a = ending_gives (IfThere IsValue) (Some e) row a.0
maybe_value_gives row a = tt

-- REPEAT

counted_gives : (n : List ℕ) (p : Place) (x y : Tree) (r : Role) (row : List Piece) → IsVariableName false n → IsValue x → IsValue y → AreProper false 64 row → Gives IsProperCourse (counted n p x y r row)
counted_gives n p x y r row is hx hy a =
    either IsProperCourse (is_step r) (option_map (λ c. From n x y (Some c) p) (value_in row)) (ended (From n x y None p) r row)
    (mapped IsProperCourse IsValue (λ c. From n x y (Some c) p) (value_in row) (value_gives 64 row a) (λ c hc. (is, hx, hy, hc)))
    (ended_gives IsProperCourse (From n x y None p) r row (is, hx, hy, tt))

counting_gives : (n : List ℕ) (p : Place) (row : List Piece) → IsVariableName false n → AreProper false 64 row → Gives IsProperCourse (counting n p row)
counting_gives n p row is a =
    after IsProperCourse (PhraseIs 64) (phrase row) (λ x row. if is_to x.1 then (phrase row ▶ λ y row. counted n p x.0 y.0 y.1 row) else None) (phrase_gives 64 row a)
    (λ x row b. either IsProperCourse (is_to x.1) (phrase row ▶ λ y row. counted n p x.0 y.0 y.1 row) None
    (after IsProperCourse (PhraseIs 64) (phrase row) (λ y row. counted n p x.0 y.0 y.1 row) (phrase_gives 64 row b.rest)
    (λ y row c. counted_gives n p x.0 y.0 y.1 row is b.tree c.tree c.rest))
    tt)

counter_gives : (e : Tree) → IsProperTree false e → Gives (λ (c : List ℕ × Place). IsVariableName false c.0) (counter e)
counter_gives (node q (Var (Named n no_index p))) h = h.0
counter_gives e h = tt

course_by_gives : (e : Tree) (r : Role) (row : List Piece) → IsValue e → AreProper false 64 row → Gives IsProperCourse (course_by e r row)
course_by_gives e r row h a =
    either IsProperCourse (is_from r) (option_and_then (λ c. counting c.0 c.1 row) (counter e)) (ended (Count e) r row)
    (and_then IsProperCourse (λ c. IsVariableName false c.0) (λ c. counting c.0 c.1 row) (counter e) (counter_gives e h.0) (λ c is. counting_gives c.0 c.1 row is a))
    (ended_gives IsProperCourse (Count e) r row h)

course_before_gives : (r : Role) (row : List Piece) → AreProper false 64 row → Gives IsProperCourse (course_before r row)
course_before_gives (role.End until) row a = mapped IsProperCourse IsValue (Before until) (value_in row) (value_gives 64 row a) (λ e h. h)
course_before_gives role.LineEnd row a = either IsProperCourse (is_empty row) (Some Forever) None tt tt
course_before_gives r row a = tt

course_gives : (row : List Piece) → AreProper false 64 row → Gives IsProperCourse (course row)
course_gives (word w p ∷ row) a = course_before_gives (role_of w) row a
course_gives (tree e p ∷ row) a =
    after IsProperCourse (SignIs 64) (word_in row) (λ s row. course_by e s.role row) (word_gives 64 row a.1)
    (λ s row b. course_by_gives e s.role row a.0 b.rest)
course_gives row a = tt

-- the tests of an item

record TestsAre (xs : Items) : Type 0 where
  some : IsTrue (not (is_no_item xs))
  are : AreProperTests xs

test_is : (low : Option Tree) (e : Tree) → IfThere IsValue low → IsValue e → IsProperTest (test low e)
test_is None e l h = h
test_is (Some low) e l h = (l, h)

in_range : (low : Option Tree) (o : Option Items) → Gives TestsAre o → Gives TestsAre (unless_in_range low o)
in_range None o h = h
in_range (Some low) o h = tt

tests_give : (xs : Items) (low : Option Tree) (row : List Piece) → AreProperTests xs → IfThere IsValue low → AreProper false 64 row → Gives TestsAre (tests_after xs low row)
tests_give xs low (tree e p ∷ word w q ∷ row) are l a =
    let more : AreProperTests (xs ▸ test low e) = (are, test_is low e l a.0) in
    either TestsAre (is_dot_dot (role_of w)) (unless_in_range low (tests_after xs (Some e) row)) (if is_comma (role_of w) then tests_after (xs ▸ test low e) None row else (if is_last_colon (role_of w) row then Some (xs ▸ test low e) else None))
    (in_range low (tests_after xs (Some e) row) (tests_give xs (Some e) row are a.0 a.1))
    (either TestsAre (is_comma (role_of w)) (tests_after (xs ▸ test low e) None row) (if is_last_colon (role_of w) row then Some (xs ▸ test low e) else None)
    (tests_give (xs ▸ test low e) None row more tt a.1)
    (either TestsAre (is_last_colon (role_of w) row) (Some (xs ▸ test low e)) None (record { some = refl; are = more }) tt))
tests_give xs low row are l a = tt

-- lines

line_gives : (r : Role) (row : List Piece) → AreProper false 64 row → Gives IsProperKind (line r row)
line_gives (role.If negated) row a = mapped IsProperKind IsValue (If negated) (value_in row) (value_gives 64 row a) (λ e h. h)
line_gives (role.ElseIf negated) row a = mapped IsProperKind IsValue (ElseIf negated) (value_in row) (value_gives 64 row a) (λ e h. h)
line_gives role.Else row a = ending_gives IsProperKind Else row tt
line_gives role.Case row a = mapped IsProperKind IsValue Case (value_in row) (value_gives 64 row a) (λ e h. h)
line_gives role.Other row a =
    after IsProperKind (SignIs 64) (word_in row) (λ s row. if is_last_colon s.role row then Some Other else None) (word_gives 64 row a)
    (λ s row b. either IsProperKind (is_last_colon s.role row) (Some Other) None tt tt)
line_gives role.Repeat row a = mapped IsProperKind IsProperCourse Repeat (course row) (course_gives row a) (λ c h. h)
line_gives (role.End until) row a = mapped IsProperKind IsValue (End until) (value_in row) (value_gives 64 row a) (λ e h. h)
line_gives role.Next row a = ending_gives IsProperKind (Plain Next) row tt
line_gives role.Quit row a = ending_gives IsProperKind (Plain Quit) row tt
line_gives role.Return row a = mapped IsProperKind (IfThere IsValue) (λ e. Plain (Return e)) (maybe_value row) (maybe_value_gives row a) (λ e h. h)
line_gives role.Abort row a = mapped IsProperKind (IfThere IsValue) (λ e. Plain (Abort e)) (maybe_value row) (maybe_value_gives row a) (λ e h. h)
line_gives r row a = tt

statement_gives : (row : List Piece) → IsProperRow row → is_item row ≡ false → Gives IsProperKind (statement row)
statement_gives (tree e p ∷ row) a h =
    let done : IsDone e = subst (λ b. IsProperBy b e (tree e p ∷ row)) h a in
    ending_gives IsProperKind (Plain (Do e)) row done
statement_gives (word w p ∷ row) a h = line_gives (role_of w) row a
statement_gives row a h = tt

item_gives : (row : List Piece) → IsProperRow row → is_item row ≡ true → Gives IsProperKind (option_map ItemLine (tests_after no_items None row))
item_gives (tree e p ∷ row) a h =
    let b : AreProper false greatest_height (tree e p ∷ row) = subst (λ b. IsProperBy b e (tree e p ∷ row)) h a in
    mapped IsProperKind TestsAre ItemLine (tests_after no_items None (tree e p ∷ row)) (tests_give no_items None (tree e p ∷ row) tt tt b) (λ xs h. (h.some, h.are))
item_gives row a h = absurd cc

kind_gives : (row : List Piece) → IsProperRow row → Gives IsProperKind (kind_of_row row)
kind_gives row a = go (is_item row) refl
  where
    go : (b : Bool) → is_item row ≡ b → Gives IsProperKind (if b then option_map ItemLine (tests_after no_items None row) else statement row)
    go true h = item_gives row a h
    go false h = statement_gives row a h

pub kinds_proper : KindsAreProper
kinds_proper row k a e = subst (Gives IsProperKind) e (kind_gives row a)
