-- What a line of a method is, by its row of pieces (Propeller Manual v1.2, "Spin Language Reference": IF, CASE,
-- REPEAT, NEXT, QUIT, RETURN, ABORT, and the entries of the built-in methods). A row ends with the end of its
-- line, an item of a CASE and its OTHER with the colon.
use Rattle.std.specs.Prelude.{ℕ, Bool, false, if◌then◌else◌, not, List, ◌∷◌, Option, None, Some, option_map, option_and_then}
use Rattle.p8_tree.specs.declared.places.Place.{Place}
use Rattle.p8_tree.specs.Expressions.{Tree, node, Var, Named, no_index, Item, single, range, Items, no_items, ◌▸◌}
use Rattle.p8_tree.specs.Statements.{Course, Forever, Count, Before, From, Do, Next, Quit, Return, Abort}
use Rattle.p8_columns.specs.Lines.{Kind, Plain, If, ElseIf, Else, Repeat, End, Case, Item as ItemLine, Other}
use Rattle.p8_lexer.specs.Pieces.{Piece, word, tree}
use Rattle.p8_statements.specs.declared.role.Role.{Role}
use Rattle.p8_statements.specs.declared.role.Role.TheVariants as role
use Rattle.p8_statements.specs.Roles.{role_of, is_comma, is_dot_dot, is_colon, is_from, is_to, is_step, is_line_end}
use Rattle.p8_statements.specs.Rows.{◌▶◌, word_in, phrase, is_empty, ended, ending, value_in}

-- what stands after RETURN and ABORT: a value, or nothing
abbrev pub maybe_value : List Piece → Option (Option Tree)
maybe_value (word w p ∷ row) = ended None (role_of w) row
maybe_value (tree e p ∷ row) = ending (Some e) row
maybe_value _ = None

-- the last value of a counter, by the word after it, with a step or without one
abbrev pub counted : List ℕ → Place → Tree → Tree → Role → List Piece → Option Course
counted n p a b r row = if is_step r then option_map (λ c. From n a b (Some c) p) (value_in row) else ended (From n a b None p) r row

-- a TO b and a TO b STEP c
abbrev pub counting : List ℕ → Place → List Piece → Option Course
counting n p row = phrase row ▶ λ a row. if is_to a.1 then (phrase row ▶ λ b row. counted n p a.0 b.0 b.1 row) else None

-- a counter is a name, or RESULT
abbrev pub counter : Tree → Option (List ℕ × Place)
counter (node q (Var (Named n no_index p))) = Some (n, p)
counter _ = None

-- REPEAT and an expression, by the word after it
abbrev pub course_by : Tree → Role → List Piece → Option Course
course_by e r row = if is_from r then option_and_then (λ c. counting c.0 c.1 row) (counter e) else ended (Count e) r row

-- REPEAT alone, and REPEAT with a word after it
abbrev pub course_before : Role → List Piece → Option Course
course_before (role.End until) row = option_map (Before until) (value_in row)
course_before role.LineEnd row = if is_empty row then Some Forever else None
course_before _ row = None

-- what stands after REPEAT
abbrev pub course : List Piece → Option Course
course (word w p ∷ row) = course_before (role_of w) row
course (tree e p ∷ row) = word_in row ▶ λ s row. course_by e s.role row
course _ = None

-- a test of an item: a value, or a range where its first value was read
abbrev pub test : Option Tree → Tree → Item
test None e = single e
test (Some low) e = range low e

abbrev pub unless_in_range : Option Tree → Option Items → Option Items
unless_in_range None last = last
unless_in_range (Some low) last = None

-- the colon, with nothing after it
abbrev pub is_last_colon : Role → List Piece → Bool
is_last_colon r row = if is_colon r then is_empty row else false

-- what stands after a value of an item: the last value of a range, a further test, or the end
abbrev pub behind_value : Role → Option Tree → Items → List Piece → Option Items → Option Items → Option Items
behind_value r low xs row further last =
    if is_dot_dot r then unless_in_range low last
    else if is_comma r then further
    else if is_last_colon r row then Some xs
    else None

-- the tests e, e..e: after these tests, and after the first value of a range
abbrev pub tests_after : Items → Option Tree → List Piece → Option Items
tests_after xs low (tree e p ∷ word w q ∷ row) = behind_value (role_of w) low (xs ▸ test low e) row (tests_after (xs ▸ test low e) None row)
    (tests_after xs (Some e) row)
tests_after xs low _ = None

-- the colon after OTHER
abbrev pub other_line : List Piece → Option Kind
other_line row = word_in row ▶ λ s row. if is_last_colon s.role row then Some Other else None

-- the lines that begin with a word of their own
abbrev pub line : Role → List Piece → Option Kind
line (role.If negated) row = option_map (If negated) (value_in row)
line (role.ElseIf negated) row = option_map (ElseIf negated) (value_in row)
line role.Else row = ending Else row
line role.Case row = option_map Case (value_in row)
line role.Other row = other_line row
line role.Repeat row = option_map Repeat (course row)
line (role.End until) row = option_map (End until) (value_in row)
line role.Next row = ending (Plain Next) row
line role.Quit row = ending (Plain Quit) row
line role.Return row = option_map (λ e. Plain (Return e)) (maybe_value row)
line role.Abort row = option_map (λ e. Plain (Abort e)) (maybe_value row)
line _ row = None

-- an item of a CASE begins with an expression, after which the line doesn't end
abbrev pub is_item : List Piece → Bool
is_item (tree e p ∷ word w q ∷ row) = not (is_line_end (role_of w))
is_item _ = false

-- a line that begins with a word of its own, or an action
abbrev pub statement : List Piece → Option Kind
statement (word w p ∷ row) = line (role_of w) row
statement (tree e p ∷ row) = ending (Plain (Do e)) row
statement _ = None

-- what a line is; none where its row is no line of a method
abbrev pub kind_of_row : List Piece → Option Kind
kind_of_row row = if is_item row then option_map ItemLine (tests_after no_items None row) else statement row
