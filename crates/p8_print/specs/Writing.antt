-- internal: what a call writes.
use Rattle.std.specs.Prelude.{ℕ, ◌+◌, ◌==◌, Bool, if◌then◌else◌, List, [], ◌∷◌, ◌++◌, map, Box, Option, None, Some}
use Rattle.std.specs.declared.alloc.Global.{Global}
use Rattle.p8_lexer.specs.declared.word.Word.{Word}
use Rattle.p8_lexer.specs.declared.word.Word.TheVariants as word_case
use Rattle.p8_tree.specs.Expressions.{Bits, whole, bits, Trees, no_trees, ◌▷◌, Items, no_items, ◌▸◌}
use Rattle.p8_tree.specs.Statements.{Arm, arm}
use Rattle.p8_tree.specs.Views.{item_of}
use Rattle.p8_tree.specs.declared.expressions.Item as item
use Rattle.p8_columns.specs.Lines.{Item}
use Rattle.p8_print.specs.Spelled.{Spelled, reserved, text_of_lines}
use Rattle.p8_print.specs.Wording.{words_of, words_of_item, words_before, choices_before}
use Rattle.p8_print.specs.Layout.{Indented, indented, test_of, arm_kind, spelled_line, lines_of_statements}

-- the bits in a box, or all
abbrev pub boxed_bits : Option (Box item.Item Global) → Bits
boxed_bits None = whole
boxed_bits (Some b) = bits (item_of b.value)

-- the word before the argument of this number
abbrev pub word_before : ℕ → Word
word_before n = if n == 0 then word_case.LeftParenthesis else word_case.Comma

-- the words before the item or the test of this number
abbrev pub separator : ℕ → List Spelled
separator n = if n == 0 then [] else reserved word_case.Comma ∷ []

-- arguments without the last parenthesis
abbrev pub arguments_begun : Trees → List Spelled
arguments_begun no_trees = []
arguments_begun (es ▷ e) = reserved word_case.LeftParenthesis ∷ (words_before es ++ words_of e)

-- items without the last parenthesis
abbrev pub choices_begun : Items → List Spelled
choices_begun no_items = []
choices_begun (xs ▸ x) = choices_before xs ++ words_of_item x

-- the text of lines of a method
abbrev pub text_of : List Indented → List ℕ
text_of xs = text_of_lines (map spelled_line xs)

-- an arm of a chain, and whether it is the first
abbrev pub lines_of_arm : ℕ → Bool → Arm → List Indented
lines_of_arm n first (arm tests negated ss) = indented n (arm_kind first negated (test_of tests)) ∷ lines_of_statements (n + 2) ss

-- an item of a CASE
abbrev pub lines_of_item : ℕ → Arm → List Indented
lines_of_item n (arm tests negated ss) = indented n (Item tests) ∷ lines_of_statements (n + 2) ss
