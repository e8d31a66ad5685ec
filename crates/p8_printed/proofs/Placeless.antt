-- What is printed of an expression doesn't depend on its places.
use Rattle.std.proofs.Common.{◌≡◌, [], ◌∷◌, ◌++◌, Option, Some, None, option_map, refl, ap}
use Rattle.p8_lexer.specs.declared.word.Word.TheVariants as word
use Rattle.p8_tree.specs.Expressions.{Tree, node, Form, Number, Str, Strings, Here, Var, Call, Unary, Binary, Assign, Change, Address, ObjectAddress, ObjConst, Built, Look, Variable, Named, Part, Memory, Register, Index, no_index, index, Bits, whole, bits, Item, single, range, Trees, no_trees, ◌▷◌, Items, no_items, ◌▸◌}
use Rattle.p8_tree.specs.Forgetting.{tree_anywhere, form_anywhere, variable_anywhere, index_anywhere, bits_anywhere, item_anywhere, trees_anywhere, items_anywhere}
use Rattle.p8_print.specs.Spelled.{reserved, name}
use Rattle.p8_print.specs.Tables.{operator_word, built_word, size_word, register_word}
use Rattle.p8_print.specs.Wording.{is_number, operand_with, words_of_name, words_of_trap, object_with, change_with, words_of_assignment, words_of, words_of_form, words_of_variable, words_of_index, words_of_bits, words_of_item, words_of_arguments, words_before, words_of_choices, choices_before, wrapped, words_of_value, words_of_count}

number_same : (e : Tree) → is_number (tree_anywhere e) ≡ is_number e
number_same (node p (Number n)) = refl
number_same (node p f) = refl

mutual
  pub tree_words : (e : Tree) → words_of (tree_anywhere e) ≡ words_of e
  tree_words (node p f) = form_words f

  form_words : (f : Form) → words_of_form (form_anywhere f) ≡ words_of_form f
  form_words (Number n) = refl
  form_words (Str t) = refl
  form_words (Strings es) = ap (λ ws. reserved word.String ∷ ws) (arguments_words es)
  form_words Here = refl
  form_words (Var v) = variable_words v
  form_words (Call trap o i n p es) = λ k. words_of_trap trap ++ (object_with o (index_words i k) ++ name n ∷ arguments_words es k)
  form_words (Unary k e) = λ i. reserved (operator_word k) ∷ operand_with (number_same e i) (tree_words e i)
  form_words (Binary k a b) = λ i. operand_with (number_same a i) (tree_words a i) ++ reserved (operator_word k) ∷ operand_with (number_same b i) (tree_words b i)
  form_words (Assign v o e) = λ i. variable_words v i ++ (words_of_assignment o ++ operand_with (number_same e i) (tree_words e i))
  form_words (Change v k) = ap (change_with k) (variable_words v)
  form_words (Address v) = ap (λ ws. reserved word.At ∷ ws) (variable_words v)
  form_words (ObjectAddress e) = λ i. reserved word.AtAt ∷ operand_with (number_same e i) (tree_words e i)
  form_words (ObjConst o n p) = refl
  form_words (Built k es) = ap (λ ws. reserved (built_word k) ∷ ws) (arguments_words es)
  form_words (Look k e xs) = λ i. reserved (built_word k) ∷ reserved word.LeftParenthesis ∷ (tree_words e i ++ reserved word.Colon ∷ choices_words xs i)

  variable_words : (v : Variable) → words_of_variable (variable_anywhere v) ≡ words_of_variable v
  variable_words (Named n i p) = ap (λ ws. words_of_name n ++ ws) (index_words i)
  variable_words (Part n z i p) = ap (λ ws. words_of_name n ++ reserved word.Dot ∷ reserved (size_word z) ∷ ws) (index_words i)
  variable_words (Memory z e j p) = λ i. reserved (size_word z) ∷ reserved word.LeftBracket ∷ (tree_words e i ++ reserved word.RightBracket ∷ index_words j i)
  variable_words (Register a x p) = ap (λ ws. reserved (register_word a) ∷ ws) (bits_words x)

  index_words : (i : Index) → words_of_index (index_anywhere i) ≡ words_of_index i
  index_words no_index = refl
  index_words (index e) = ap (λ ws. reserved word.LeftBracket ∷ (ws ++ reserved word.RightBracket ∷ [])) (tree_words e)

  bits_words : (x : Bits) → words_of_bits (bits_anywhere x) ≡ words_of_bits x
  bits_words whole = refl
  bits_words (bits x) = ap (λ ws. reserved word.LeftBracket ∷ (ws ++ reserved word.RightBracket ∷ [])) (item_words x)

  item_words : (x : Item) → words_of_item (item_anywhere x) ≡ words_of_item x
  item_words (single e) = tree_words e
  item_words (range low high) = λ i. tree_words low i ++ reserved word.DotDot ∷ tree_words high i

  arguments_words : (es : Trees) → words_of_arguments (trees_anywhere es) ≡ words_of_arguments es
  arguments_words no_trees = refl
  arguments_words (es ▷ e) = λ i. reserved word.LeftParenthesis ∷ (before_words es i ++ (tree_words e i ++ reserved word.RightParenthesis ∷ []))

  before_words : (es : Trees) → words_before (trees_anywhere es) ≡ words_before es
  before_words no_trees = refl
  before_words (es ▷ e) = λ i. before_words es i ++ (tree_words e i ++ reserved word.Comma ∷ [])

  choices_words : (xs : Items) → words_of_choices (items_anywhere xs) ≡ words_of_choices xs
  choices_words no_items = refl
  choices_words (xs ▸ x) = λ i. items_before xs i ++ (item_words x i ++ reserved word.RightParenthesis ∷ [])

  items_before : (xs : Items) → choices_before (items_anywhere xs) ≡ choices_before xs
  items_before no_items = refl
  items_before (xs ▸ x) = λ i. items_before xs i ++ (item_words x i ++ reserved word.Comma ∷ [])

pub wrapped_words : (e : Tree) → wrapped (tree_anywhere e) ≡ wrapped e
wrapped_words e = ap (λ ws. reserved word.LeftParenthesis ∷ (ws ++ reserved word.RightParenthesis ∷ [])) (tree_words e)

pub value_words : (o : Option Tree) → words_of_value (option_map tree_anywhere o) ≡ words_of_value o
value_words None = refl
value_words (Some e) = wrapped_words e

pub count_words : (o : Option Tree) → words_of_count (option_map tree_anywhere o) ≡ words_of_count o
count_words None = refl
count_words (Some e) = ap (λ ws. reserved word.LeftBracket ∷ (ws ++ reserved word.RightBracket ∷ [])) (wrapped_words e)
