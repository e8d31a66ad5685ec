-- The lines of a method as words (Propeller Manual v1.2, "Spin Language Reference": IF, CASE, REPEAT, NEXT, QUIT,
-- RETURN and ABORT).
use Rattle.std.specs.Prelude.{Bool, true, false, List, [], ◌∷◌, ◌++◌, Option, Some, None}
use Rattle.p8_tree.specs.Expressions.{Tree, Item, single, range, Items, no_items, ◌▸◌}
use Rattle.p8_tree.specs.Statements.{Course, Forever, Count, Before, After, From, Action, Do, Next, Quit, Return, Abort}
use Rattle.p8_lexer.specs.declared.word.Word.{Word}
use Rattle.p8_lexer.specs.declared.word.Word.TheVariants as word
use Rattle.p8_columns.specs.Lines.{Kind, Plain, If, ElseIf, Else, Repeat, End, Case, Item as ItemLine, Other}
use Rattle.p8_print.specs.Spelled.{Spelled, reserved}
use Rattle.p8_print.specs.Wording.{words_of, words_of_name, wrapped, words_of_value}

abbrev pub if_word : Bool → Word
if_word false = word.If
if_word true = word.Ifnot

abbrev pub else_if_word : Bool → Word
else_if_word false = word.Elseif
else_if_word true = word.Elseifnot

abbrev pub end_word : Bool → Word
end_word false = word.While
end_word true = word.Until

abbrev pub words_of_step : Option Tree → List Spelled
words_of_step None = []
words_of_step (Some e) = reserved word.Step ∷ wrapped e

-- what stands after REPEAT; the test after its statements has a line of its own
abbrev pub words_of_course : Course → List Spelled
words_of_course Forever = []
words_of_course (Count e) = wrapped e
words_of_course (Before until e) = reserved (end_word until) ∷ wrapped e
words_of_course (After until e) = []
words_of_course (From n a b step p) = words_of_name n ++ reserved word.From ∷ (wrapped a ++ reserved word.To ∷ (wrapped b ++ words_of_step step))

abbrev pub words_of_test : Item → List Spelled
words_of_test (single e) = wrapped e
words_of_test (range low high) = wrapped low ++ reserved word.DotDot ∷ wrapped high

-- tests, each with the comma after it
abbrev pub tests_before : Items → List Spelled
tests_before no_items = []
tests_before (xs ▸ x) = tests_before xs ++ (words_of_test x ++ reserved word.Comma ∷ [])

abbrev pub words_of_tests : Items → List Spelled
words_of_tests no_items = []
words_of_tests (xs ▸ x) = tests_before xs ++ words_of_test x

-- a statement without lines of its own
abbrev pub words_of_action : Action → List Spelled
words_of_action (Do e) = words_of e
words_of_action Next = reserved word.Next ∷ []
words_of_action Quit = reserved word.Quit ∷ []
words_of_action (Return e) = reserved word.Return ∷ words_of_value e
words_of_action (Abort e) = reserved word.Abort ∷ words_of_value e
words_of_action _ = []

-- a line of a method
abbrev pub words_of_kind : Kind → List Spelled
words_of_kind (Plain a) = words_of_action a
words_of_kind (If negated test) = reserved (if_word negated) ∷ wrapped test
words_of_kind (ElseIf negated test) = reserved (else_if_word negated) ∷ wrapped test
words_of_kind Else = reserved word.Else ∷ []
words_of_kind (Repeat course) = reserved word.Repeat ∷ words_of_course course
words_of_kind (End until test) = reserved (end_word until) ∷ wrapped test
words_of_kind (Case value) = reserved word.Case ∷ wrapped value
words_of_kind (ItemLine tests) = words_of_tests tests ++ reserved word.Colon ∷ []
words_of_kind Other = reserved word.Other ∷ reserved word.Colon ∷ []
