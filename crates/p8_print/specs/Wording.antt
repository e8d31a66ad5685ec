-- Expressions as words: what a printer writes of a tree. It is plain: an operator's operands stand in parentheses, but
-- for numbers.
use Rattle.std.specs.Prelude.{ℕ, ◌==◌, Bool, true, false, if◌then◌else◌, List, [], ◌∷◌, ◌++◌, Option, Some, None}
use Rattle.p8_lexer.specs.declared.word.Word.TheVariants as word
use Rattle.p8_lexer.specs.Words.{same}
use Rattle.p8_grammar.specs.Grammar.{result_name}
use Rattle.p8_tree.specs.Expressions.{Tree, node, Form, Number, Str, Strings, Here, Var, Call, Unary, Binary, Assign, Change, Address, ObjectAddress}
use Rattle.p8_tree.specs.Expressions.{ObjConst, Built, Look, Variable, Named, Part, Memory, Register, Index, no_index, index, Bits, whole, bits}
use Rattle.p8_tree.specs.Expressions.{Item, single, range, Trees, no_trees, ◌▷◌, Items, no_items, ◌▸◌}
use Rattle.p8_print.specs.Spelled.{Spelled, reserved, name, number, string, word_of_label}
use Rattle.p8_print.specs.Tables.{assignment_word, is_boolean, operator_word, change_word, is_behind, size_word, register_word, built_word}

abbrev pub is_number : Tree → Bool
is_number (node p (Number n)) = true
is_number _ = false

-- the words of an operand of an operator, which stand in parentheses unless it is a number
abbrev pub operand_with : Bool → List Spelled → List Spelled
operand_with true words = words
operand_with false words = reserved word.LeftParenthesis ∷ (words ++ reserved word.RightParenthesis ∷ [])

-- a variable's name; that of a local label begins with its colon (58)
abbrev pub words_of_name : List ℕ → List Spelled
words_of_name [] = name [] ∷ []
words_of_name (c ∷ cs) =
    if c == 58 then reserved word.Colon ∷ word_of_label cs ∷ [] else if same (c ∷ cs) result_name then reserved word.Result ∷ [] else name (c ∷ cs) ∷ []

-- `\`, where a call stops an abort
abbrev pub words_of_trap : Bool → List Spelled
words_of_trap true = reserved word.Backslash ∷ []
words_of_trap false = []

-- an object with its index, before the method that is called
abbrev pub object_with : Option (List ℕ) → List Spelled → List Spelled
object_with None words = []
object_with (Some object) words = name object ∷ (words ++ reserved word.Dot ∷ [])

-- the words of a change, before its variable or after it
abbrev pub change_with : ℕ → List Spelled → List Spelled
change_with effect words = if is_behind effect then words ++ reserved (change_word effect) ∷ [] else reserved (change_word effect) ∷ words

-- the words of an assignment, by an operator or without one
abbrev pub words_of_assignment : Option ℕ → List Spelled
words_of_assignment None = reserved word.Assign ∷ []
words_of_assignment (Some k) = if is_boolean k then reserved (operator_word k) ∷ reserved word.EqualSign ∷ [] else reserved (assignment_word k) ∷ []

abbrev mutual
  pub words_of : Tree → List Spelled
  words_of (node place form) = words_of_form form

  pub words_of_form : Form → List Spelled
  words_of_form (Number n) = number n ∷ []
  words_of_form (Str text) = reserved word.String ∷ reserved word.LeftParenthesis ∷ string text ∷ reserved word.RightParenthesis ∷ []
  -- an item that is a string stands in a STRING of its own, so that a list of this one item is no string alone
  words_of_form (Strings items) = reserved word.String ∷ words_of_arguments items
  words_of_form Here = reserved word.Dollar ∷ []
  words_of_form (Var v) = words_of_variable v
  words_of_form (Call trap object i n place args) = words_of_trap trap ++ (object_with object (words_of_index i) ++ name n ∷ words_of_arguments args)
  words_of_form (Unary operator e) = reserved (operator_word operator) ∷ operand_with (is_number e) (words_of e)
  words_of_form (Binary operator a b) = operand_with (is_number a) (words_of a) ++ reserved (operator_word operator) ∷ operand_with (is_number b) (words_of b)
  words_of_form (Assign v operator e) = words_of_variable v ++ (words_of_assignment operator ++ operand_with (is_number e) (words_of e))
  words_of_form (Change v effect) = change_with effect (words_of_variable v)
  words_of_form (Address v) = reserved word.At ∷ words_of_variable v
  words_of_form (ObjectAddress e) = reserved word.AtAt ∷ operand_with (is_number e) (words_of e)
  words_of_form (ObjConst object n place) = name object ∷ reserved word.Hash ∷ name n ∷ []
  words_of_form (Built code args) = reserved (built_word code) ∷ words_of_arguments args
  words_of_form (Look code e xs) = reserved (built_word code) ∷ reserved word.LeftParenthesis ∷ (words_of e ++ reserved word.Colon ∷ words_of_choices xs)

  pub words_of_variable : Variable → List Spelled
  words_of_variable (Named n i place) = words_of_name n ++ words_of_index i
  words_of_variable (Part n size i place) = words_of_name n ++ reserved word.Dot ∷ reserved (size_word size) ∷ words_of_index i
  words_of_variable (Memory size e i place) = reserved (size_word size) ∷ reserved word.LeftBracket ∷
      (words_of e ++ reserved word.RightBracket ∷ words_of_index i)
  words_of_variable (Register address x place) = reserved (register_word address) ∷ words_of_bits x

  pub words_of_index : Index → List Spelled
  words_of_index no_index = []
  words_of_index (index e) = reserved word.LeftBracket ∷ (words_of e ++ reserved word.RightBracket ∷ [])

  pub words_of_bits : Bits → List Spelled
  words_of_bits whole = []
  words_of_bits (bits x) = reserved word.LeftBracket ∷ (words_of_item x ++ reserved word.RightBracket ∷ [])

  pub words_of_item : Item → List Spelled
  words_of_item (single e) = words_of e
  words_of_item (range low high) = words_of low ++ reserved word.DotDot ∷ words_of high

  -- arguments in parentheses, if there are any
  pub words_of_arguments : Trees → List Spelled
  words_of_arguments no_trees = []
  words_of_arguments (es ▷ e) = reserved word.LeftParenthesis ∷ (words_before es ++ (words_of e ++ reserved word.RightParenthesis ∷ []))

  -- arguments, each with the comma after it
  pub words_before : Trees → List Spelled
  words_before no_trees = []
  words_before (es ▷ e) = words_before es ++ (words_of e ++ reserved word.Comma ∷ [])

  -- the items of a LOOK function, up to the parenthesis
  pub words_of_choices : Items → List Spelled
  words_of_choices no_items = reserved word.RightParenthesis ∷ []
  words_of_choices (xs ▸ x) = choices_before xs ++ (words_of_item x ++ reserved word.RightParenthesis ∷ [])

  -- items, each with the comma after it
  pub choices_before : Items → List Spelled
  choices_before no_items = []
  choices_before (xs ▸ x) = choices_before xs ++ (words_of_item x ++ reserved word.Comma ∷ [])

-- the words of an expression as a whole, in parentheses: so it can stand in an item of DAT's data too, where a bracket
-- outside parentheses begins the item's count
abbrev pub wrapped : Tree → List Spelled
wrapped e = reserved word.LeftParenthesis ∷ (words_of e ++ reserved word.RightParenthesis ∷ [])

-- a value after its word, if there is one
abbrev pub words_of_value : Option Tree → List Spelled
words_of_value None = []
words_of_value (Some e) = wrapped e

-- a count in brackets, if there is one
abbrev pub words_of_count : Option Tree → List Spelled
words_of_count None = []
words_of_count (Some e) = reserved word.LeftBracket ∷ (wrapped e ++ reserved word.RightBracket ∷ [])
