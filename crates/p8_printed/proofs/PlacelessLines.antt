-- What is printed of a source doesn't depend on its places.
use Rattle.std.proofs.Common.{◌≡◌, ℕ, ◌+◌, Bool, true, false, List, [], ◌∷◌, ◌++◌, Option, Some, None, option_map, map, refl, sym, ap, ◌∙◌}
use Rattle.std.specs.Prelude.{if◌then◌else◌}
use Rattle.p8_lexer.specs.declared.word.Word.TheVariants as word
use Rattle.p8_tree.specs.Expressions.{Tree, Item, single, range, Items, no_items, ◌▸◌}
use Rattle.p8_tree.specs.Statements as trees
use Rattle.p8_tree.specs.Statements.{Course, Forever, Count, Before, After, From, Statement, statement, Action, Do, Next, Quit, Return, Abort, arm, Otherwise, nothing_else, otherwise, Statements, no_statements, ◌▹◌, Arms, no_arms, ◌⊳◌}
use Rattle.p8_tree.specs.Sources as sources
use Rattle.p8_tree.specs.Sources.{Constant, Declared, Child, MethodTree, Datum, Instruction, Contents, Line, BlockTree, Source}
use Rattle.p8_tree.specs.Forgetting.{anywhere, tree_anywhere, item_anywhere, items_anywhere, course_anywhere, statement_anywhere, action_anywhere, otherwise_anywhere, statements_anywhere, arms_anywhere, constant_anywhere, declared_anywhere, child_anywhere, method_anywhere, datum_anywhere, instruction_anywhere, contents_anywhere, line_anywhere, block_anywhere, source_anywhere, IsSameSource}
use Rattle.p8_columns.specs.Lines.{Kind, Plain, If, ElseIf, Else, Repeat, End, Case, Item as ItemLine, Other}
use Rattle.p8_print.specs.Spelled.{Spelled, reserved, name, string}
use Rattle.p8_print.specs.Wording.{words_of_name}
use Rattle.p8_print.specs.StatementWords.{if_word, else_if_word, end_word, words_of_step, words_of_course, words_of_test, tests_before, words_of_tests, words_of_action, words_of_kind}
use Rattle.p8_print.specs.DeclarationWords.{words_of_item, words_of_constant, words_of_name_and_count, words_of_variable, words_of_child, words_of_parameters, words_of_result, more_locals, words_of_locals, words_of_head}
use Rattle.p8_print.specs.DataWords.{words_of_label, words_of_size, words_of_datum, more_data, words_of_data, words_of_condition, instruction_word, is_call, source_with, words_of_operands, words_of_effects, words_of_instruction, words_of_contents, words_of_line}
use Rattle.p8_print.specs.Tables.{size_word}
use Rattle.p8_print.specs.Layout.{Indented, indented, test_of, is_first, arm_kind, head_course, end_lines, lines_of_statements, lines_of_statement, lines_of_action, lines_of_arms, lines_of_else, lines_of_items, lines_of_other, line, spelled_line, lines_of_block, lines_of}
use Rattle.p8_printed.specs.Kinds.{kind_anywhere}
use Rattle.p8_printed.proofs.Placeless.{tree_words, wrapped_words, value_words, count_words}

-- lines of methods

step_words : (o : Option Tree) → words_of_step (option_map tree_anywhere o) ≡ words_of_step o
step_words None = refl
step_words (Some e) = ap (λ ws. reserved word.Step ∷ ws) (wrapped_words e)

course_words : (c : Course) → words_of_course (course_anywhere c) ≡ words_of_course c
course_words Forever = refl
course_words (Count e) = wrapped_words e
course_words (Before until e) = ap (λ ws. reserved (end_word until) ∷ ws) (wrapped_words e)
course_words (After until e) = refl
course_words (From n a b step p) = λ i. words_of_name n ++ reserved word.From ∷ (wrapped_words a i ++ reserved word.To ∷ (wrapped_words b i ++ step_words step i))

test_words : (x : Item) → words_of_test (item_anywhere x) ≡ words_of_test x
test_words (single e) = wrapped_words e
test_words (range low high) = λ i. wrapped_words low i ++ reserved word.DotDot ∷ wrapped_words high i

before_words : (xs : Items) → tests_before (items_anywhere xs) ≡ tests_before xs
before_words no_items = refl
before_words (xs ▸ x) = λ i. before_words xs i ++ (test_words x i ++ reserved word.Comma ∷ [])

tests_words : (xs : Items) → words_of_tests (items_anywhere xs) ≡ words_of_tests xs
tests_words no_items = refl
tests_words (xs ▸ x) = λ i. before_words xs i ++ test_words x i

action_words : (a : Action) → words_of_action (action_anywhere a) ≡ words_of_action a
action_words (Do e) = tree_words e
action_words Next = refl
action_words Quit = refl
action_words (Return e) = ap (λ ws. reserved word.Return ∷ ws) (value_words e)
action_words (Abort e) = ap (λ ws. reserved word.Abort ∷ ws) (value_words e)
action_words (trees.If arms other) = refl
action_words (trees.Case e arms other) = refl
action_words (trees.Repeat c ss) = refl

pub kind_words : (k : Kind) → words_of_kind (kind_anywhere k) ≡ words_of_kind k
kind_words (Plain a) = action_words a
kind_words (If negated test) = ap (λ ws. reserved (if_word negated) ∷ ws) (wrapped_words test)
kind_words (ElseIf negated test) = ap (λ ws. reserved (else_if_word negated) ∷ ws) (wrapped_words test)
kind_words Else = refl
kind_words (Repeat course) = ap (λ ws. reserved word.Repeat ∷ ws) (course_words course)
kind_words (End until test) = ap (λ ws. reserved (end_word until) ∷ ws) (wrapped_words test)
kind_words (Case value) = ap (λ ws. reserved word.Case ∷ ws) (wrapped_words value)
kind_words (ItemLine tests) = ap (λ ws. ws ++ reserved word.Colon ∷ []) (tests_words tests)
kind_words Other = refl

-- their layout

abbrev Alike : List Indented → List Indented → Type 0
Alike xs ys = map spelled_line xs ≡ map spelled_line ys

map_joined : (xs ys : List Indented) → map spelled_line (xs ++ ys) ≡ map spelled_line xs ++ map spelled_line ys
map_joined [] ys = refl
map_joined (x ∷ xs) ys = ap (λ ls. spelled_line x ∷ ls) (map_joined xs ys)

joined : (xs xs' ys ys' : List Indented) → Alike xs xs' → Alike ys ys' → Alike (xs ++ ys) (xs' ++ ys')
joined xs xs' ys ys' e f = map_joined xs ys ∙ (λ i. e i ++ f i) ∙ sym (map_joined xs' ys')

headed : (n : ℕ) (k k' : Kind) (ys ys' : List Indented) → words_of_kind k ≡ words_of_kind k' → Alike ys ys' → Alike (indented n k ∷ ys) (indented n k' ∷ ys')
headed n k k' ys ys' e f = λ i. line n (e i) ∷ f i

head_same : (c : Course) → head_course (course_anywhere c) ≡ course_anywhere (head_course c)
head_same Forever = refl
head_same (Count e) = refl
head_same (Before until e) = refl
head_same (After until e) = refl
head_same (From n a b step p) = refl

end_words : (n : ℕ) (c : Course) → Alike (end_lines n (course_anywhere c)) (end_lines n c)
end_words n Forever = refl
end_words n (Count e) = refl
end_words n (Before until e) = refl
end_words n (After until e) = headed n (End until (tree_anywhere e)) (End until e) [] [] (kind_words (End until e)) refl
end_words n (From a b c step p) = refl

test_same : (xs : Items) → test_of (items_anywhere xs) ≡ tree_anywhere (test_of xs)
test_same no_items = refl
test_same (xs ▸ single e) = refl
test_same (xs ▸ range low high) = refl

first_same : (xs : Arms) → is_first (arms_anywhere xs) ≡ is_first xs
first_same no_arms = refl
first_same (xs ⊳ x) = refl

arm_words : (b negated : Bool) (test : Tree) → words_of_kind (arm_kind b negated (tree_anywhere test)) ≡ words_of_kind (arm_kind b negated test)
arm_words true negated test = kind_words (If negated test)
arm_words false negated test = kind_words (ElseIf negated test)

mutual
  statements_lines : (n : ℕ) (ss : Statements) → Alike (lines_of_statements n (statements_anywhere ss)) (lines_of_statements n ss)
  statements_lines n no_statements = refl
  statements_lines n (ss ▹ s) = joined (lines_of_statements n (statements_anywhere ss)) (lines_of_statements n ss) (lines_of_statement n (statement_anywhere s)) (lines_of_statement n s) (statements_lines n ss) (statement_lines n s)

  statement_lines : (n : ℕ) (s : Statement) → Alike (lines_of_statement n (statement_anywhere s)) (lines_of_statement n s)
  statement_lines n (statement p a) = action_lines n a

  action_lines : (n : ℕ) (a : Action) → Alike (lines_of_action n (action_anywhere a)) (lines_of_action n a)
  action_lines n (Do e) = headed n (Plain (Do (tree_anywhere e))) (Plain (Do e)) [] [] (kind_words (Plain (Do e))) refl
  action_lines n (trees.If arms other) = joined (lines_of_arms n (arms_anywhere arms)) (lines_of_arms n arms) (lines_of_else n (otherwise_anywhere other)) (lines_of_else n other) (arms_lines n arms) (else_lines n other)
  action_lines n (trees.Case e arms other) =
      headed n (Case (tree_anywhere e)) (Case e) (lines_of_items (n + 2) (arms_anywhere arms) ++ lines_of_other (n + 2) (otherwise_anywhere other)) (lines_of_items (n + 2) arms ++ lines_of_other (n + 2) other) (kind_words (Case e))
      (joined (lines_of_items (n + 2) (arms_anywhere arms)) (lines_of_items (n + 2) arms) (lines_of_other (n + 2) (otherwise_anywhere other)) (lines_of_other (n + 2) other) (items_lines (n + 2) arms) (other_lines (n + 2) other))
  action_lines n (trees.Repeat c ss) =
      headed n (Repeat (head_course (course_anywhere c))) (Repeat (head_course c)) (lines_of_statements (n + 2) (statements_anywhere ss) ++ end_lines n (course_anywhere c)) (lines_of_statements (n + 2) ss ++ end_lines n c)
      (ap (λ c. words_of_kind (Repeat c)) (head_same c) ∙ kind_words (Repeat (head_course c)))
      (joined (lines_of_statements (n + 2) (statements_anywhere ss)) (lines_of_statements (n + 2) ss) (end_lines n (course_anywhere c)) (end_lines n c) (statements_lines (n + 2) ss) (end_words n c))
  action_lines n Next = refl
  action_lines n Quit = refl
  action_lines n (Return e) = headed n (Plain (Return (option_map tree_anywhere e))) (Plain (Return e)) [] [] (kind_words (Plain (Return e))) refl
  action_lines n (Abort e) = headed n (Plain (Abort (option_map tree_anywhere e))) (Plain (Abort e)) [] [] (kind_words (Plain (Abort e))) refl

  arms_lines : (n : ℕ) (xs : Arms) → Alike (lines_of_arms n (arms_anywhere xs)) (lines_of_arms n xs)
  arms_lines n no_arms = refl
  arms_lines n (xs ⊳ arm tests negated ss) =
      joined (lines_of_arms n (arms_anywhere xs)) (lines_of_arms n xs) (indented n (arm_kind (is_first (arms_anywhere xs)) negated (test_of (items_anywhere tests))) ∷ lines_of_statements (n + 2) (statements_anywhere ss)) (indented n (arm_kind (is_first xs) negated (test_of tests)) ∷ lines_of_statements (n + 2) ss) (arms_lines n xs)
      (headed n (arm_kind (is_first (arms_anywhere xs)) negated (test_of (items_anywhere tests))) (arm_kind (is_first xs) negated (test_of tests)) (lines_of_statements (n + 2) (statements_anywhere ss)) (lines_of_statements (n + 2) ss)
      ((λ i. words_of_kind (arm_kind (first_same xs i) negated (test_same tests i))) ∙ arm_words (is_first xs) negated (test_of tests)) (statements_lines (n + 2) ss))

  else_lines : (n : ℕ) (o : Otherwise) → Alike (lines_of_else n (otherwise_anywhere o)) (lines_of_else n o)
  else_lines n nothing_else = refl
  else_lines n (otherwise ss) = headed n Else Else (lines_of_statements (n + 2) (statements_anywhere ss)) (lines_of_statements (n + 2) ss) refl (statements_lines (n + 2) ss)

  items_lines : (n : ℕ) (xs : Arms) → Alike (lines_of_items n (arms_anywhere xs)) (lines_of_items n xs)
  items_lines n no_arms = refl
  items_lines n (xs ⊳ arm tests negated ss) =
      joined (lines_of_items n (arms_anywhere xs)) (lines_of_items n xs) (indented n (ItemLine (items_anywhere tests)) ∷ lines_of_statements (n + 2) (statements_anywhere ss)) (indented n (ItemLine tests) ∷ lines_of_statements (n + 2) ss) (items_lines n xs)
      (headed n (ItemLine (items_anywhere tests)) (ItemLine tests) (lines_of_statements (n + 2) (statements_anywhere ss)) (lines_of_statements (n + 2) ss) (kind_words (ItemLine tests)) (statements_lines (n + 2) ss))

  other_lines : (n : ℕ) (o : Otherwise) → Alike (lines_of_other n (otherwise_anywhere o)) (lines_of_other n o)
  other_lines n nothing_else = refl
  other_lines n (otherwise ss) = headed n Other Other (lines_of_statements (n + 2) (statements_anywhere ss)) (lines_of_statements (n + 2) ss) refl (statements_lines (n + 2) ss)

-- declarations

item_words : (n : Option (List ℕ)) (v step : Option Tree) → words_of_item n (option_map tree_anywhere v) (option_map tree_anywhere step) ≡ words_of_item n v step
item_words (Some n) (Some e) step = ap (λ ws. name n ∷ reserved word.EqualSign ∷ ws) (wrapped_words e)
item_words (Some n) None step = ap (λ ws. name n ∷ ws) (count_words step)
item_words None None step = refl
item_words None (Some e) step = ap (λ ws. reserved word.Hash ∷ ws) (wrapped_words e)

pub constant_words : (x : Constant) → words_of_constant (constant_anywhere x) ≡ words_of_constant x
constant_words x = item_words x.name x.value x.step

counted_words : (x : Declared) → words_of_name_and_count (declared_anywhere x) ≡ words_of_name_and_count x
counted_words x = ap (λ ws. name x.name ∷ ws) (count_words x.count)

pub variable_words : (x : Declared) → words_of_variable (declared_anywhere x) ≡ words_of_variable x
variable_words x = ap (λ ws. reserved (size_word x.size) ∷ ws) (counted_words x)

pub child_words : (x : Child) → words_of_child (child_anywhere x) ≡ words_of_child x
child_words x = ap (λ ws. name x.name ∷ (ws ++ reserved word.Colon ∷ string x.file ∷ [])) (count_words x.count)

more_words : (xs : List Declared) → more_locals (map declared_anywhere xs) ≡ more_locals xs
more_words [] = refl
more_words (x ∷ xs) = λ i. reserved word.Comma ∷ (counted_words x i ++ more_words xs i)

locals_words : (xs : List Declared) → words_of_locals (map declared_anywhere xs) ≡ words_of_locals xs
locals_words [] = refl
locals_words (x ∷ xs) = λ i. reserved word.BitOr ∷ (counted_words x i ++ more_words xs i)

pub head_words : (m : MethodTree) → words_of_head (method_anywhere m) ≡ words_of_head m
head_words m = ap (λ ws. name m.name ∷ (words_of_parameters m.params ++ (words_of_result m.result_name ++ ws))) (locals_words m.locals)

-- DAT

datum_words : (x : Datum) → words_of_datum (datum_anywhere x) ≡ words_of_datum x
datum_words x = λ i. words_of_size x.size ++ (wrapped_words x.value i ++ count_words x.count i)

more_data_words : (xs : List Datum) → more_data (map datum_anywhere xs) ≡ more_data xs
more_data_words [] = refl
more_data_words (x ∷ xs) = λ i. reserved word.Comma ∷ (datum_words x i ++ more_data_words xs i)

data_words : (xs : List Datum) → words_of_data (map datum_anywhere xs) ≡ words_of_data xs
data_words [] = refl
data_words (x ∷ xs) = λ i. datum_words x i ++ more_data_words xs i

source_words : (b immediate : Bool) (e : Tree) → source_with b immediate (tree_anywhere e) ≡ source_with b immediate e
source_words true immediate e = ap (λ ws. reserved word.Hash ∷ ws) (tree_words e)
source_words false true e = ap (λ ws. reserved word.Hash ∷ ws) (wrapped_words e)
source_words false false e = wrapped_words e

operand_words : (c w : _) (p q : _) (b : Bool) (f : ℕ) (d s : Option Tree) → words_of_operands (record { cond = c; word = w; dest = option_map tree_anywhere d; dest_place = anywhere; immediate = b; source = option_map tree_anywhere s; source_place = anywhere; effects = f }) ≡ words_of_operands (record { cond = c; word = w; dest = d; dest_place = p; immediate = b; source = s; source_place = q; effects = f })
operand_words c w p q b f None None = refl
operand_words c w p q b f (Some d) None = wrapped_words d
operand_words c w p q b f None (Some s) = source_words (is_call w) b s
operand_words c w p q b f (Some d) (Some s) = λ i. wrapped_words d i ++ reserved word.Comma ∷ source_words (is_call w) b s i

instruction_words : (x : Instruction) → words_of_instruction (instruction_anywhere x) ≡ words_of_instruction x
instruction_words x = ap (λ ws. words_of_condition x.cond ++ reserved (instruction_word x.word) ∷ (ws ++ words_of_effects x.effects)) (operand_words x.cond x.word x.dest_place x.source_place x.immediate x.effects x.dest x.source)

contents_words : (c : Contents) → words_of_contents (contents_anywhere c) ≡ words_of_contents c
contents_words sources.Nothing = refl
contents_words (sources.Data z xs) = ap (λ ws. reserved (size_word z) ∷ ws) (data_words xs)
contents_words (sources.Org v) = ap (λ ws. reserved word.Org ∷ ws) (value_words v)
contents_words (sources.Res v) = ap (λ ws. reserved word.Res ∷ ws) (value_words v)
contents_words (sources.Fit v) = ap (λ ws. reserved word.Fit ∷ ws) (value_words v)
contents_words (sources.Instr x) = instruction_words x

pub line_words : (x : Line) → words_of_line (line_anywhere x) ≡ words_of_line x
line_words x = ap (λ ws. words_of_label x.label ++ ws) (contents_words x.contents)

-- sources

each_line : {X : Type 0} (f : X → X) (g : X → List Spelled) → ((x : X) → g (f x) ≡ g x) → (xs : List X) → map (λ x. line 2 (g x)) (map f xs) ≡ map (λ x. line 2 (g x)) xs
each_line f g h [] = refl
each_line f g h (x ∷ xs) = λ i. line 2 (h x i) ∷ each_line f g h xs i

block_lines : (b : BlockTree) → lines_of_block (block_anywhere b) ≡ lines_of_block b
block_lines (sources.Con xs) = ap (λ ls. line 0 (reserved word.Con ∷ []) ∷ ls) (each_line constant_anywhere words_of_constant constant_words xs)
block_lines (sources.Var xs) = ap (λ ls. line 0 (reserved word.Var ∷ []) ∷ ls) (each_line declared_anywhere words_of_variable variable_words xs)
block_lines (sources.Obj xs) = ap (λ ls. line 0 (reserved word.Obj ∷ []) ∷ ls) (each_line child_anywhere words_of_child child_words xs)
block_lines (sources.Method m) = λ i. line 0 (reserved (if m.public then word.Pub else word.Pri) ∷ head_words m i) ∷ statements_lines 2 m.body i
block_lines (sources.Dat xs) = ap (λ ls. line 0 (reserved word.Dat ∷ []) ∷ ls) (each_line line_anywhere words_of_line line_words xs)

source_lines : (s : Source) → lines_of (source_anywhere s) ≡ lines_of s
source_lines [] = refl
source_lines (b ∷ s) = λ i. block_lines b i ++ source_lines s i

pub same_lines : (s s' : Source) → IsSameSource s s' → lines_of s ≡ lines_of s'
same_lines s s' h = sym (source_lines s) ∙ ap lines_of h ∙ source_lines s'
