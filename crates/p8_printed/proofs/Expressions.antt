-- Each proper expression and each proper action, but for its places, is spelled by tokens of a source.
use Rattle.std.proofs.Common.{◌≡◌, ℕ, suc, ◌+◌, ◌*◌, ◌≤◌, Bool, true, false, List, [], ◌∷◌, ◌++◌, Option, Some, None, refl, subst, arith}
use Rattle.std.specs.Prelude.{◌==◌, ◌||◌, not, IsTrue}
use Rattle.std.proofs.lemmas.Bool.Decides.{nat_tests}
use Rattle.p8_lexer.specs.declared.word.Word.TheVariants as word_case
use Rattle.p8_tree.specs.Expressions.{Tree, node, Form, Number, Str, Strings, Here, Var, Call, Unary, Binary, Assign, Change, Address, ObjectAddress, ObjConst, Built, Look, Variable, Named, Part, Memory, Register, Index, no_index, index, whole, bits, single, range, Trees, no_trees, ◌▷◌, Items, no_items, ◌▸◌}
use Rattle.p8_tree.specs.Forgetting.{anywhere, variable_anywhere, index_anywhere, trees_anywhere, items_anywhere, IsSameTree}
use Rattle.p8_tree.specs.Names.{IsName, IsVariableName, plain_name, result_name, local_label, IsString}
use Rattle.p8_tree.specs.Proper.{IfThere, is_change, is_operator_alone, is_size, is_look, is_written, is_in_memory, is_value, gives_value, gives_no_value, is_no_tree, IsProperTree, IsProperForm, IsProperVariable, AreProperTrees, AreProperItems, IsDoneForm, IsDone}
use Rattle.p8_grammar.specs.Lexemes as lexemes
use Rattle.p8_grammar.specs.Lexemes.{Setting, allows_index, is_dat, inside, Access, memory, left_parenthesis, right_parenthesis, left_bracket, right_bracket, comma, colon, dot, dot_dot, hash, backslash, equal, number, name, method_result, string, mark, infix_word, assigns, changes, address, object_address, size, register, here, string_word, constant_word, look, value, built_in, command, Token, token}
use Rattle.p8_grammar.specs.Grammar as grammar
use Rattle.p8_grammar.specs.Grammar.{word, upto, Row, begin, ◌▹◌, Names, Variables, named, indexed, part, part_indexed, memory_at, memory_indexed, register_whole, register_bit, register_bits, opening, Heads, trapped, of_object, of_element, of_built_in, of_command, applied, Head, calls, built, Arguments, no_arguments, argument, Choices, no_choices, value_choice, range_choice, Texts, first_value, next_value, Forms, a_number, the_place, variable, name_alone, changed_by, changed_before, changed_after, address_of, plain_call, bare_call, full_call, object_constant, a_value, a_string, one_item, items_value, a_constant, look_value, look_range, IsExpression, before, between, assigned, assigned_by_word}
use Rattle.p8_expr.specs.Words.{lexeme_of_word}
use Rattle.p8_expr.specs.Sources.{IsLexeme, AreLexemes}
use Rattle.p8_printed.proofs.LabelWords.{label_is}
use Rattle.p8_printed.proofs.ProperNames.{name_lexeme, label_word, string_lexeme}
use Rattle.p8_printed.proofs.Tables as tables
use Rattle.p8_printed.proofs.Tables.{either, prefix_operator, infix_operator, IsInfix, Assigning, one_word, two_words, change, IsChange, IsAlone, operator_alone, size_lexeme, look_lexeme, value_lexeme, built_lexeme, command_lexeme, register_lexeme}
use Rattle.p8_printed.proofs.Rows.{mark_lexeme, string_word_lexeme, IsSpelled, RowSpelled, lexeme_first, lexemes_joined, IsInner, start, add, add_mark, put, put_unquoted, form, enclosed, right_side, in_row, inside_of, unquoted_of}

-- words of their own

result_lexeme : IsLexeme method_result
unfolding lexeme_of_word
result_lexeme = (word_case.Result, refl)

here_lexeme : IsLexeme here
unfolding lexeme_of_word
here_lexeme = (word_case.Dollar, refl)

address_lexeme : IsLexeme address
unfolding lexeme_of_word
address_lexeme = (word_case.At, refl)

object_address_lexeme : IsLexeme object_address
unfolding lexeme_of_word
object_address_lexeme = (word_case.AtAt, refl)

constant_word_lexeme : IsLexeme constant_word
unfolding lexeme_of_word
constant_word_lexeme = (word_case.Constant, refl)

assign_lexeme : IsLexeme (assigns None)
unfolding lexeme_of_word
assign_lexeme = (word_case.Assign, refl)

-- a variable after what stands before it
record VariableSpelled (s : Setting) (before : Row) (v : Variable) : Type 0 where
  access : Access
  variable : Variable
  row : Row
  is : Variables s before access variable row
  spelled : RowSpelled s row
  same : variable_anywhere variable ≡ variable_anywhere v
  written : IsTrue (is_written v) → IsTrue (lexemes.is_written access)
  in_memory : IsTrue (is_in_memory v) → access ≡ memory

record NameSpelled (s : Setting) (before : Row) (n : List ℕ) : Type 0 where
  row : Row
  is : Names s before n anywhere row
  spelled : RowSpelled s row

record ArgumentsSpelled (s : Setting) (before : Row) (es : Trees) : Type 0 where
  trees : Trees
  row : Row
  is : Arguments before trees row
  spelled : RowSpelled s row
  same : trees_anywhere trees ≡ trees_anywhere es

record ChoicesSpelled (s : Setting) (before : Row) (xs : Items) : Type 0 where
  items : Items
  row : Row
  is : Choices before items row
  spelled : RowSpelled s row
  same : items_anywhere items ≡ items_anywhere xs

-- the items of STRING but for the last
record TextsSpelled (s : Setting) (es : Trees) : Type 0 where
  trees : Trees
  row : Row
  is : Texts anywhere trees row
  spelled : RowSpelled s row
  same : trees_anywhere trees ≡ trees_anywhere es

record HeadSpelled (s : Setting) (h : Head) : Type 0 where
  row : Row
  is : Heads s h row
  spelled : RowSpelled s row

record AppliedSpelled (s : Setting) (h : Head) (es : Trees) : Type 0 where
  trees : Trees
  row : Row
  is : Forms s (applied h trees) row
  spelled : RowSpelled s row
  same : trees_anywhere trees ≡ trees_anywhere es

-- assignments and changes

assigned_plainly : {s : Setting} {p : _} (v : Variable) (o : Option ℕ) (e : Tree) → IsLexeme (assigns o) → IsTrue (is_written v) → VariableSpelled s begin v → IsSpelled (inside s) e → IsSpelled s (node p (Assign v o e))
assigned_plainly {s = s} v o e h w x y =
    let right = right_side s y in
    record {
      tree = node anywhere (Assign x.variable o right.tree);
      tokens = x.spelled.tokens ++ token anywhere (assigns o) ∷ right.tokens;
      reads = assigned x.access (omega arith) (x.written w) x.is x.spelled.spells right.reads;
      lexemes = lexemes_joined x.spelled.tokens (token anywhere (assigns o) ∷ right.tokens) x.spelled.lexemes (lexeme_first (assigns o) right.tokens h right.lexemes);
      same = λ i. node anywhere (Assign (x.same i) o (right.same i));
    }

assigned_by : {s : Setting} {p : _} (v : Variable) (k : ℕ) (e : Tree) → Assigning k → IsTrue (is_written v) → VariableSpelled s begin v → IsSpelled (inside s) e → IsSpelled s (node p (Assign v (Some k) e))
assigned_by v k e (one_word h) w x y = assigned_plainly v (Some k) e h w x y
assigned_by {s = s} v k e (two_words r b h) w x y =
    let right = right_side s y in
    let others = token anywhere (mark equal) ∷ right.tokens in
    record {
      tree = node anywhere (Assign x.variable (Some k) right.tree);
      tokens = x.spelled.tokens ++ token anywhere (infix_word r k) ∷ others;
      reads = assigned_by_word x.access (infix_word r k) r anywhere (omega arith) (x.written w) refl b x.is x.spelled.spells right.reads;
      lexemes = lexemes_joined x.spelled.tokens (token anywhere (infix_word r k) ∷ others) x.spelled.lexemes (lexeme_first (infix_word r k) others h (lexeme_first (mark equal) right.tokens (mark_lexeme equal) right.lexemes));
      same = λ i. node anywhere (Assign (x.same i) (Some k) (right.same i));
    }

assignment_of : {s : Setting} {p : _} (v : Variable) (o : Option ℕ) (e : Tree) → IfThere (λ k. IsInfix k) o → IsTrue (is_written v) → VariableSpelled s begin v → IsSpelled (inside s) e → IsSpelled s (node p (Assign v o e))
assignment_of v None e h w x y = assigned_plainly v None e assign_lexeme w x y
assignment_of v (Some k) e h w x y = assigned_by v k e h.assigning w x y

-- changes

change_of : {s : Setting} {p : _} (v : Variable) (k : ℕ) → IsChange k → IsTrue (is_written v) → ((before : Row) → RowSpelled s before → VariableSpelled s before v) → IsSpelled s (node p (Change v k))
change_of v k (tables.before a h) w f =
    let x = f (begin ▹ word anywhere (changes k a)) (add (changes k a) start h) in
    form (changed_before (x.written w) x.is) x.spelled (λ i. node anywhere (Change (x.same i) k))
change_of v k (tables.behind b h) w f =
    let x = f begin start in
    form (changed_after {b = b} (x.written w) x.is) (add (changes b k) x.spelled h) (λ i. node anywhere (Change (x.same i) k))

-- calls

opened : {s : Setting} (trap : Bool) → RowSpelled s (opening trap anywhere)
opened true = add_mark backslash start
opened false = start

trapped_head : {s : Setting} (n : List ℕ) → IsName n → HeadSpelled s (calls true None no_index n anywhere anywhere)
trapped_head n h = record { row = _; is = trapped anywhere; spelled = add (name n) (opened true) (name_lexeme n h) }

object_head : {s : Setting} (trap : Bool) (o n : List ℕ) → IsName o → IsName n → HeadSpelled s (calls trap (Some o) no_index n anywhere anywhere)
object_head trap o n g h = record { row = _; is = of_object {trap = trap} anywhere; spelled = add (name n) (add_mark dot (add (name o) (opened trap) (name_lexeme o g))) (name_lexeme n h) }

element_head : {s : Setting} (trap : Bool) (o n : List ℕ) {e : Tree} → IsTrue (allows_index s) → IsName o → IsName n → (x : IsSpelled (inside s) e) → HeadSpelled s (calls trap (Some o) (index x.tree) n anywhere anywhere)
element_head trap o n i g h x = record { row = _; is = of_element {trap = trap} anywhere i; spelled = add (name n) (add_mark dot (put right_bracket (add_mark left_bracket (add (name o) (opened trap) (name_lexeme o g))) x)) (name_lexeme n h) }

built_head : {s : Setting} (k : ℕ) → IsTrue (gives_value k) → HeadSpelled s (built k anywhere)
built_head k h = record { row = _; is = of_built_in; spelled = add (built_in k) start (built_lexeme k h) }

call_from : {s : Setting} {p q : _} {n : List ℕ} (trap : Bool) (object : Option (List ℕ)) (i j : Index) {args : Trees} → index_anywhere j ≡ index_anywhere i → AppliedSpelled s (calls trap object j n anywhere anywhere) args → IsSpelled s (node p (Call trap object i n q args))
call_from {n = n} trap object i j e x = form x.is x.spelled (λ k. node anywhere (Call trap object (e k) n anywhere (x.same k)))

built_from : {s : Setting} {p : _} {k : ℕ} {args : Trees} → AppliedSpelled s (built k anywhere) args → IsSpelled s (node p (Built k args))
built_from {k = k} x = form x.is x.spelled (λ i. node anywhere (Built k (x.same i)))

value_from : {s : Setting} {p : _} (k : ℕ) → IsTrue (is_value k) → IsSpelled s (node p (Built k no_trees))
value_from k h = form a_value (add (value k) start (value_lexeme k h)) refl

module _ {s : Setting} (inner : IsInner s) where
  named_by : {before : Row} (n : List ℕ) → RowSpelled s before → IsVariableName (is_dat s) n → NameSpelled s before n
  named_by n r (plain_name h) = record { row = _; is = grammar.plain_name; spelled = add (name n) r (name_lexeme n h) }
  named_by n r result_name = record { row = _; is = grammar.result_word; spelled = add method_result r result_lexeme }
  named_by n r (local_label {n = m} d h) = let x = label_is m (label_word m h) in record { row = _; is = grammar.local_label d x.named; spelled = add x.lexeme (add_mark colon r) x.good }

  -- operators

  unary_of : {p : _} (k : ℕ) (e : Tree) → tables.IsPrefix k → IsSpelled s e → IsSpelled s (node p (Unary k e))
  unary_of k e o x =
      let y = enclosed inner.value (inside_of inner x) in
      record {
        tree = node anywhere (Unary k y.tree);
        tokens = token anywhere o.lexeme ∷ y.tokens;
        reads = before inner.value o.is (low o.rank o.low) y.reads;
        lexemes = lexeme_first o.lexeme y.tokens o.good y.lexemes;
        same = λ i. node anywhere (Unary k (y.same i));
      }
    where
      low : (r : ℕ) → r ≤ 8 → 2 * r + 1 ≤ 22
      low r h = omega (arith, h)

  binary_of : {p : _} (k : ℕ) (a b : Tree) → IsInfix k → IsSpelled s a → IsSpelled s b → IsSpelled s (node p (Binary k a b))
  binary_of k a b o x y =
      let left = enclosed inner.value (inside_of inner x) in
      let right = enclosed inner.value (inside_of inner y) in
      record {
        tree = node anywhere (Binary k left.tree right.tree);
        tokens = left.tokens ++ token anywhere o.lexeme ∷ right.tokens;
        reads = between o.lexeme inner.value o.is o.low (low o.rank o.low) left.reads right.reads;
        lexemes = lexemes_joined left.tokens (token anywhere o.lexeme ∷ right.tokens) left.lexemes (lexeme_first o.lexeme right.tokens o.good right.lexemes);
        same = λ i. node anywhere (Binary k (left.same i) (right.same i));
      }
    where
      low : (r : ℕ) → suc r ≤ 10 → 2 * suc r ≤ 22
      low r h = omega (arith, h)

  object_address_of : {p : _} (e : Tree) → IsSpelled s e → IsSpelled s (node p (ObjectAddress e))
  object_address_of e x =
      let y = enclosed inner.value (inside_of inner x) in
      record {
        tree = node anywhere (ObjectAddress y.tree);
        tokens = token anywhere object_address ∷ y.tokens;
        reads = before inner.value refl (omega arith) y.reads;
        lexemes = lexeme_first object_address y.tokens object_address_lexeme y.lexemes;
        same = λ i. node anywhere (ObjectAddress (y.same i));
      }

  address_from : {p : _} (v : Variable) → IsTrue (is_in_memory v) → VariableSpelled s (begin ▹ word anywhere address) v → IsSpelled s (node p (Address v))
  address_from v m x = form (address_of inner.value (subst (λ a. Variables s (begin ▹ word anywhere address) a x.variable x.row) (x.in_memory m) x.is)) x.spelled (λ i. node anywhere (Address (x.same i)))

  zero_is : (k : ℕ) → IsTrue (k == 0) → 0 ≡ k
  zero_is k h = grind (arith, nat_tests)

  constant_from : {p : _} (k : ℕ) {e : Tree} → IsTrue (k == 0) → IsSpelled (inside s) e → IsSpelled s (node p (Built k (no_trees ▷ e)))
  constant_from {p = p} k {e = e} h x = subst (λ k. IsSpelled s (node p (Built k (no_trees ▷ e)))) (zero_is k h) (form (a_constant inner.value) (put right_parenthesis (add_mark left_parenthesis (add constant_word start constant_word_lexeme)) x) (λ i. node anywhere (Built 0 (no_trees ▷ x.same i))))

  string_from : {p : _} (t : List ℕ) → IsString t → IsSpelled s (node p (Str t))
  string_from [] h = absurd (let z = h.0 in omega (arith, z))
  string_from (c ∷ t) h = form (a_string inner.value) (add_mark right_parenthesis (add (string (c ∷ t)) (add_mark left_parenthesis (add string_word start string_word_lexeme)) (string_lexeme (c ∷ t) h.1))) refl

  string_begun : RowSpelled s (begin ▹ word anywhere string_word ▹ word anywhere (mark left_parenthesis))
  string_begun = add_mark left_parenthesis (add string_word start string_word_lexeme)

  one_from : {p : _} {e : Tree} → IsSpelled s e → IsSpelled s (node p (Strings (no_trees ▷ e)))
  one_from x =
      let y = unquoted_of inner x in
      form (one_item inner.value) (put_unquoted right_parenthesis string_begun y.spelled y.apart) (λ i. node anywhere (Strings (no_trees ▷ y.spelled.same i)))

  first_from : {e : Tree} → IsSpelled s e → TextsSpelled s (no_trees ▷ e)
  first_from x =
      let y = unquoted_of inner x in
      record { trees = no_trees ▷ y.spelled.tree; row = _; is = first_value; spelled = put_unquoted comma string_begun y.spelled y.apart; same = λ i. no_trees ▷ y.spelled.same i }

  look_begun : (k : ℕ) {e : Tree} → IsTrue (is_look k) → (x : IsSpelled (inside s) e) → RowSpelled s (begin ▹ word anywhere (look k) ▹ word anywhere (mark left_parenthesis) ▹ upto x.tree colon)
  look_begun k h x = put colon (add_mark left_parenthesis (add (look k) start (look_lexeme k h))) x

  look_at_value : {p : _} (k : ℕ) {e last : Tree} {xs : Items} (x : IsSpelled (inside s) e) → ChoicesSpelled s (begin ▹ word anywhere (look k) ▹ word anywhere (mark left_parenthesis) ▹ upto x.tree colon) xs → IsSpelled (inside s) last → IsSpelled s (node p (Look k e (xs ▸ single last)))
  look_at_value k x c y = form (look_value inner.value c.is) (put right_parenthesis c.spelled y) (λ i. node anywhere (Look k (x.same i) (c.same i ▸ single (y.same i))))

  look_at_range : {p : _} (k : ℕ) {e low high : Tree} {xs : Items} (x : IsSpelled (inside s) e) → ChoicesSpelled s (begin ▹ word anywhere (look k) ▹ word anywhere (mark left_parenthesis) ▹ upto x.tree colon) xs → IsSpelled (inside s) low → IsSpelled (inside s) high → IsSpelled s (node p (Look k e (xs ▸ range low high)))
  look_at_range k x c y z = form (look_range inner.value c.is) (put right_parenthesis (put dot_dot c.spelled y) z) (λ i. node anywhere (Look k (x.same i) (c.same i ▸ range (y.same i) (z.same i))))

  in_index : {before : Row} {e : Tree} → RowSpelled s before → (x : IsSpelled (inside s) e) → RowSpelled s (before ▹ word anywhere (mark left_bracket) ▹ upto x.tree right_bracket)
  in_index r x = put right_bracket (add_mark left_bracket r) x

  of_size : {before : Row} (z : ℕ) → IsTrue (is_size z) → RowSpelled s before → RowSpelled s (before ▹ word anywhere (mark dot) ▹ word anywhere (size z))
  of_size z h r = add (size z) (add_mark dot r) (size_lexeme z h)

  mutual
    pub tree_spelled : (e : Tree) → IsProperTree (is_dat s) e → IsSpelled s e
    tree_spelled (node p f) h = form_spelled p f h

    tree_inside : (e : Tree) → IsProperTree (is_dat s) e → IsSpelled (inside s) e
    tree_inside (node p f) h = inside_of inner (form_spelled p f h)

    form_spelled : (p : _) (f : Form) → IsProperForm (is_dat s) f → IsSpelled s (node p f)
    form_spelled p (Number n) h = form (a_number inner.value) (add (number n) start h) refl
    form_spelled p (Str t) h = string_from t h
    form_spelled p (Strings no_trees) h = absurd (let z = h.0 in cc)
    form_spelled p (Strings (no_trees ▷ e)) h = one_from (tree_spelled e h.1.1)
    form_spelled p (Strings (es ▷ d ▷ e)) h =
        let a = texts_spelled (es ▷ d) h.1.0 refl in
        let x = tree_inside e h.1.1 in
        form (items_value inner.value a.is) (put right_parenthesis a.spelled x) (λ i. node anywhere (Strings (a.same i ▷ x.same i)))
    form_spelled p Here h = form (the_place h) (add here start here_lexeme) refl
    form_spelled p (Var v) h = let x = variable_spelled v h start in form (variable inner.value x.is) x.spelled (λ i. node anywhere (Var (x.same i)))
    form_spelled p (Call true None no_index n q args) h = call_from true None no_index no_index refl (applied_spelled (trapped_head n h.0) args h.3)
    form_spelled p (Call false None no_index n q no_trees) h = absurd (let z = h.1.1 in cc)
    form_spelled p (Call false None no_index n q (es ▷ e)) h =
        let a = arguments_spelled es h.3.0 (add_mark left_parenthesis (add (name n) start (name_lexeme n h.0))) in
        let x = tree_inside e h.3.1 in
        form (plain_call a.is) (put right_parenthesis a.spelled x) (λ i. node anywhere (Call false None no_index n anywhere (a.same i ▷ x.same i)))
    form_spelled p (Call trap None (index e) n q args) h = absurd (let z = h.1.0 in cc)
    form_spelled p (Call trap (Some o) no_index n q args) h = call_from trap (Some o) no_index no_index refl (applied_spelled (object_head trap o n h.1 h.0) args h.3)
    form_spelled p (Call trap (Some o) (index e) n q args) h =
        let x = tree_inside e h.2 in
        call_from trap (Some o) (index e) (index x.tree) (λ i. index (x.same i)) (applied_spelled (element_head trap o n inner.allows h.1 h.0 x) args h.3)
    form_spelled p (Unary k e) h = unary_of k e (prefix_operator k h.0) (tree_spelled e h.1)
    form_spelled p (Binary k a b) h = binary_of k a b (infix_operator k h.0) (tree_spelled a h.1) (tree_spelled b h.2)
    form_spelled p (Assign v None e) h = assignment_of v None e tt h.1 (variable_spelled v h.2 start) (tree_inside e h.3)
    form_spelled p (Assign v (Some k) e) h = assignment_of v (Some k) e (infix_operator k h.0) h.1 (variable_spelled v h.2 start) (tree_inside e h.3)
    form_spelled p (Change v k) h = change_of v k (change k h.0) h.1 (λ before r. variable_spelled v h.2 r)
    form_spelled p (Address v) h = address_from v h.0 (variable_spelled v h.1 (add address start address_lexeme))
    form_spelled p (ObjectAddress e) h = object_address_of e (tree_spelled e h)
    form_spelled p (ObjConst o n q) h = form (object_constant inner.value) (add (name n) (add_mark hash (add (name o) start (name_lexeme o h.0))) (name_lexeme n h.1)) refl
    form_spelled p (Built k no_trees) h = either (is_value k) (gives_value k) h.0 (value_from k) (λ g. built_from (applied_spelled (built_head k g) no_trees h.1))
    form_spelled p (Built k (no_trees ▷ e)) h = either (k == 0) (gives_value k) h.0 (λ z. constant_from k z (tree_inside e h.1.1)) (λ g. built_from (applied_spelled (built_head k g) (no_trees ▷ e) h.1))
    form_spelled p (Built k (es ▷ d ▷ e)) h = built_from (applied_spelled (built_head k h.0) (es ▷ d ▷ e) h.1)
    form_spelled p (Look k e no_items) h = absurd (let z = h.1 in cc)
    form_spelled p (Look k e (xs ▸ single last)) h =
        let x = tree_inside e h.2 in
        look_at_value k x (choices_spelled xs h.3.0 (look_begun k h.0 x)) (tree_inside last h.3.1)
    form_spelled p (Look k e (xs ▸ range low high)) h =
        let x = tree_inside e h.2 in
        look_at_range k x (choices_spelled xs h.3.0 (look_begun k h.0 x)) (tree_inside low h.3.1.0) (tree_inside high h.3.1.1)

    variable_spelled : {before : Row} (v : Variable) → IsProperVariable (is_dat s) v → RowSpelled s before → VariableSpelled s before v
    variable_spelled (Named n no_index p) h r =
        let m = named_by n r h.0 in
        record { access = memory; variable = Named n no_index anywhere; row = m.row; is = named m.is; spelled = m.spelled; same = refl; written = λ h. refl; in_memory = λ h. refl }
    variable_spelled (Named n (index e) p) h r =
        let m = named_by n r h.0 in
        let x = tree_inside e h.1 in
        record { access = memory; variable = Named n (index x.tree) anywhere; row = _; is = indexed inner.allows m.is; spelled = in_index m.spelled x; same = λ i. Named n (index (x.same i)) anywhere; written = λ h. refl; in_memory = λ h. refl }
    variable_spelled (Part n z no_index p) h r =
        let m = named_by n r h.0 in
        record { access = memory; variable = Part n z no_index anywhere; row = _; is = part m.is; spelled = of_size z h.1 m.spelled; same = refl; written = λ h. refl; in_memory = λ h. refl }
    variable_spelled (Part n z (index e) p) h r =
        let m = named_by n r h.0 in
        let x = tree_inside e h.2 in
        record { access = memory; variable = Part n z (index x.tree) anywhere; row = _; is = part_indexed inner.allows m.is; spelled = in_index (of_size z h.1 m.spelled) x; same = λ i. Part n z (index (x.same i)) anywhere; written = λ h. refl; in_memory = λ h. refl }
    variable_spelled (Memory z e no_index p) h r =
        let x = tree_inside e h.1 in
        record { access = memory; variable = Memory z x.tree no_index anywhere; row = _; is = memory_at inner.allows; spelled = in_index (add (size z) r (size_lexeme z h.0)) x; same = λ i. Memory z (x.same i) no_index anywhere; written = λ h. refl; in_memory = λ h. refl }
    variable_spelled (Memory z e (index j) p) h r =
        let x = tree_inside e h.1 in
        let y = tree_inside j h.2 in
        record { access = memory; variable = Memory z x.tree (index y.tree) anywhere; row = _; is = memory_indexed inner.allows; spelled = in_index (in_index (add (size z) r (size_lexeme z h.0)) x) y; same = λ i. Memory z (x.same i) (index (y.same i)) anywhere; written = λ h. refl; in_memory = λ h. refl }
    variable_spelled (Register a whole p) h r =
        let k = register_lexeme s a inner.value h.0 in
        record { access = k.access; variable = Register a whole anywhere; row = _; is = register_whole k.allowed; spelled = add (register a k.access) r k.good; same = refl; written = k.written; in_memory = λ h. absurd cc }
    variable_spelled (Register a (bits (single e)) p) h r =
        let k = register_lexeme s a inner.value h.0 in
        let x = tree_inside e h.2 in
        record { access = k.access; variable = Register a (bits (single x.tree)) anywhere; row = _; is = register_bit inner.allows k.allowed (k.bits h.1); spelled = in_index (add (register a k.access) r k.good) x; same = λ i. Register a (bits (single (x.same i))) anywhere; written = k.written; in_memory = λ h. absurd cc }
    variable_spelled (Register a (bits (range low high)) p) h r =
        let k = register_lexeme s a inner.value h.0 in
        let x = tree_inside low h.2.0 in
        let y = tree_inside high h.2.1 in
        record { access = k.access; variable = Register a (bits (range x.tree y.tree)) anywhere; row = _; is = register_bits inner.allows k.allowed (k.bits h.1); spelled = put right_bracket (put dot_dot (add_mark left_bracket (add (register a k.access) r k.good)) x) y; same = λ i. Register a (bits (range (x.same i) (y.same i))) anywhere; written = k.written; in_memory = λ h. absurd cc }

    applied_spelled : {head : Head} → HeadSpelled s head → (args : Trees) → AreProperTrees (is_dat s) args → AppliedSpelled s head args
    applied_spelled r no_trees h = record { trees = no_trees; row = r.row; is = bare_call r.is; spelled = r.spelled; same = refl }
    applied_spelled r (es ▷ e) h =
        let a = arguments_spelled es h.0 (add_mark left_parenthesis r.spelled) in
        let x = tree_inside e h.1 in
        record { trees = a.trees ▷ x.tree; row = _; is = full_call r.is a.is; spelled = put right_parenthesis a.spelled x; same = λ i. a.same i ▷ x.same i }

    arguments_spelled : {before : Row} (es : Trees) → AreProperTrees (is_dat s) es → RowSpelled s before → ArgumentsSpelled s before es
    arguments_spelled no_trees h r = record { trees = no_trees; row = _; is = no_arguments; spelled = r; same = refl }
    arguments_spelled (es ▷ e) h r =
        let a = arguments_spelled es h.0 r in
        let x = tree_inside e h.1 in
        record { trees = a.trees ▷ x.tree; row = _; is = argument a.is; spelled = put comma a.spelled x; same = λ i. a.same i ▷ x.same i }

    texts_spelled : (es : Trees) → AreProperTrees (is_dat s) es → IsTrue (not (is_no_tree es)) → TextsSpelled s es
    texts_spelled no_trees h some = absurd cc
    texts_spelled (no_trees ▷ e) h some = first_from (tree_spelled e h.1)
    texts_spelled (es ▷ d ▷ e) h some =
        let a = texts_spelled (es ▷ d) h.0 refl in
        let x = tree_inside e h.1 in
        record { trees = a.trees ▷ x.tree; row = _; is = next_value a.is; spelled = put comma a.spelled x; same = λ i. a.same i ▷ x.same i }

    choices_spelled : {before : Row} (xs : Items) → AreProperItems (is_dat s) xs → RowSpelled s before → ChoicesSpelled s before xs
    choices_spelled no_items h r = record { items = no_items; row = _; is = no_choices; spelled = r; same = refl }
    choices_spelled (xs ▸ single e) h r =
        let c = choices_spelled xs h.0 r in
        let x = tree_inside e h.1 in
        record { items = c.items ▸ single x.tree; row = _; is = value_choice c.is; spelled = put comma c.spelled x; same = λ i. c.same i ▸ single (x.same i) }
    choices_spelled (xs ▸ range low high) h r =
        let c = choices_spelled xs h.0 r in
        let x = tree_inside low h.1.0 in
        let y = tree_inside high h.1.1 in
        record { items = c.items ▸ range x.tree y.tree; row = _; is = range_choice c.is; spelled = put comma (put dot_dot c.spelled x) y; same = λ i. c.same i ▸ range (x.same i) (y.same i) }

-- in each setting in which a bracket may begin an index
pub inner_of : (s : Setting) → IsTrue (allows_index s) → IsTrue (lexemes.is_value s) → IsInner s
inner_of lexemes.in_method h v = record { same = refl; allows = refl; value = refl }
inner_of lexemes.in_declaration h v = record { same = refl; allows = refl; value = refl }
inner_of lexemes.in_dat h v = record { same = refl; allows = refl; value = refl }
inner_of lexemes.in_data_item h v = absurd cc
inner_of lexemes.in_action h v = absurd cc

pub expression_spelled : (s : Setting) (e : Tree) → IsTrue (allows_index s) → IsTrue (lexemes.is_value s) → IsProperTree (is_dat s) e → (e' : Tree) × (tokens : List Token) × IsExpression s e' tokens × AreLexemes tokens × IsSameTree e' e
expression_spelled s e allows v h = let x = tree_spelled (inner_of s allows v) e h in (x.tree, x.tokens, x.reads, x.lexemes, x.same)

-- actions: their variables, and the expressions inside, are those of methods

pub in_methods : IsInner lexemes.in_method
in_methods = inner_of lexemes.in_method refl refl

names_done : {before row : Row} {n : List ℕ} {p : _} → Names lexemes.in_method before n p row → Names lexemes.in_action before n p row
names_done grammar.plain_name = grammar.plain_name
names_done grammar.result_word = grammar.result_word
names_done (grammar.local_label d is) = absurd cc

stands : (x : Access) → IsTrue (lexemes.is_written x) → IsTrue (lexemes.is_in lexemes.in_action x)
stands lexemes.memory h = refl
stands lexemes.pins h = refl
stands x h = absurd cc

variables_done : {before row : Row} {x : Access} {v : Variable} → IsTrue (lexemes.is_written x) → Variables lexemes.in_method before x v row → Variables lexemes.in_action before x v row
variables_done w (named n) = named (names_done n)
variables_done w (indexed i n) = indexed refl (names_done n)
variables_done w (part n) = part (names_done n)
variables_done w (part_indexed i n) = part_indexed refl (names_done n)
variables_done w (memory_at i) = memory_at refl
variables_done w (memory_indexed i) = memory_indexed refl
variables_done w (register_whole {x = x} i) = register_whole (stands x w)
variables_done w (register_bit {x = x} a i b) = register_bit refl (stands x w) b
variables_done w (register_bits {x = x} a i b) = register_bits refl (stands x w) b

variable_done : {before : Row} (v : Variable) → IsTrue (is_written v) → IsProperVariable false v → RowSpelled lexemes.in_action before → VariableSpelled lexemes.in_action before v
variable_done v w h r =
    let x = variable_spelled in_methods v h (in_row refl r) in
    record { access = x.access; variable = x.variable; row = x.row; is = variables_done (x.written w) x.is; spelled = in_row refl x.spelled; same = x.same; written = x.written; in_memory = x.in_memory }

-- an operator alone before its variable
alone_of : {p : _} (v : Variable) (k : ℕ) → IsAlone k → IsTrue (is_written v) → IsProperVariable false v → IsSpelled lexemes.in_action (node p (Change v k))
alone_of v k o w h =
    let x = variable_done v w h (add o.lexeme start o.good) in
    form (changed_by refl o.is o.effect (x.written w) x.is) x.spelled (λ i. node anywhere (Change (x.same i) k))

applied_done : {head : Head} → HeadSpelled lexemes.in_action head → (args : Trees) → AreProperTrees false args → AppliedSpelled lexemes.in_action head args
applied_done r no_trees h = record { trees = no_trees; row = r.row; is = bare_call r.is; spelled = r.spelled; same = refl }
applied_done r (es ▷ e) h =
    let a = arguments_spelled in_methods es h.0 (in_row refl (add_mark left_parenthesis r.spelled)) in
    let x = tree_inside in_methods e h.1 in
    record { trees = a.trees ▷ x.tree; row = _; is = full_call r.is a.is; spelled = put right_parenthesis (in_row refl a.spelled) x; same = λ i. a.same i ▷ x.same i }

alone_head : (k : ℕ) → IsTrue (gives_value k || gives_no_value k) → HeadSpelled lexemes.in_action (built k anywhere)
alone_head k h = either (gives_value k) (gives_no_value k) h (built_head k) (λ g. record { row = _; is = of_command refl; spelled = add (command k) start (command_lexeme k g) })

done_spelled : (p : _) (f : Form) → IsDoneForm f → IsSpelled lexemes.in_action (node p f)
done_spelled p (Var (Named n no_index q)) h = form (name_alone refl) (add (name n) start (name_lexeme n h)) refl
done_spelled p (Call true None no_index n q args) h = call_from true None no_index no_index refl (applied_done (trapped_head n h.0) args h.3)
done_spelled p (Call false None no_index n q no_trees) h = absurd (let z = h.1.1 in cc)
done_spelled p (Call false None no_index n q (es ▷ e)) h =
    let a = arguments_spelled in_methods es h.3.0 (add_mark left_parenthesis (add (name n) start (name_lexeme n h.0))) in
    let x = tree_inside in_methods e h.3.1 in
    form (plain_call a.is) (put right_parenthesis (in_row refl a.spelled) x) (λ i. node anywhere (Call false None no_index n anywhere (a.same i ▷ x.same i)))
done_spelled p (Call trap None (index e) n q args) h = absurd (let z = h.1.0 in cc)
done_spelled p (Call trap (Some o) no_index n q args) h = call_from trap (Some o) no_index no_index refl (applied_done (object_head trap o n h.1 h.0) args h.3)
done_spelled p (Call trap (Some o) (index e) n q args) h =
    let x = tree_inside in_methods e h.2 in
    call_from trap (Some o) (index e) (index x.tree) (λ i. index (x.same i)) (applied_done (element_head trap o n refl h.1 h.0 x) args h.3)
done_spelled p (Assign v None e) h = assignment_of v None e tt h.1 (variable_done v h.1 h.2 start) (tree_inside in_methods e h.3)
done_spelled p (Assign v (Some k) e) h = assignment_of v (Some k) e (infix_operator k h.0) h.1 (variable_done v h.1 h.2 start) (tree_inside in_methods e h.3)
done_spelled p (Change v k) h = either (is_change k) (is_operator_alone k) h.0 (λ c. change_of v k (change k c) h.1 (λ before r. variable_done v h.1 h.2 r)) (λ o. alone_of v k (operator_alone k o) h.1 h.2)
done_spelled p (Built k no_trees) h = either (is_value k) (gives_value k || gives_no_value k) h.0 (value_from k) (λ b. built_from (applied_done (alone_head k b) no_trees h.1))
done_spelled p (Built k (es ▷ e)) h = built_from (applied_done (alone_head k h.0) (es ▷ e) h.1)
done_spelled p f h = absurd h

pub action_spelled : (e : Tree) → IsDone e → IsSpelled lexemes.in_action e
action_spelled (node p f) h = done_spelled p f h.0
