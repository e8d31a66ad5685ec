-- A folded body could have been read.
use Rattle.std.proofs.Common.{ℕ, ◌≤◌, ◌==◌, max, Bool, true, false, not, if◌then◌else◌, Option, Some, None, option_map, refl, arith, List}
use Rattle.std.specs.Prelude.{IsTrue, IfSome}
use Rattle.p8_tree.specs.declared.places.Place.{Place}
use Rattle.p8_tree.specs.Expressions.{Tree, node, Form, Number, Str, Strings, Here, Var, Call, Unary, Binary, Assign, Change, Address, ObjectAddress, ObjConst, Built, Look, Variable, Named, Part, Memory, Register, Index, no_index, index, Bits, whole, bits, Item, single, range, Trees, no_trees, ◌▷◌, Items, no_items, ◌▸◌}
use Rattle.p8_tree.specs.Statements.{Course, Forever, Count, Before, After, From, Statement, statement, Do, If, Case, Repeat, Next, Quit, Return, Abort, arm, Otherwise, nothing_else, otherwise, Statements, no_statements, ◌▹◌, Arms, no_arms, ◌⊳◌}
use Rattle.p8_tree.specs.Heights.{height, height_in, height_in_variable, height_in_index, height_in_bits, height_of_item, height_of_trees, height_of_items}
use Rattle.p8_tree.specs.Proper.{IfThere, IsCalled, is_written, is_in_memory, may_have, is_no_item, arguments_fit, arguments_fit_alone, IsProperTree, IsProperForm, IsProperVariable, IsProperIndex, AreProperBits, IsProperItem, AreProperTrees, AreProperItems, IsProperExpression, IsProperTest, AreProperTests, IsDone, IsDoneForm, IsProperCourse, IsCondition, IsProperStatement, AreProperArms, AreProperChoices, IsProperOtherwise, AreProperStatements}
use Rattle.p8_meaning.specs.Constants.{Constants, shorter_number}
use Rattle.p8_meaning.specs.Folding.{number_or, tree_with, form_with, variable_with, index_with, bits_with, item_with, trees_with, arguments_with, items_with, folded, folded_items, folded_inside, folded_course, holds, number_in, kept_count, kept_before, kept, loop, Chain, Going, Ended, Condition, Known, Unknown, NoTest, condition, with_arm, whole_chain, chain, joined, folded_statement, folded_body, folded_other, folded_chain, folded_arms}
use Rattle.p8_opt.specs.Asked.{AreWords}
use Rattle.p8_opt.proofs.Words.{IsWord, shorter-word}

-- ---- expressions

-- where a number stands in place of a tree, it is a word
pub record GivesWords (number : Tree → Option ℕ) : Type 0 where
  pub by : (e : Tree) → IsProperTree false e → IsWord (number e)

pub most : (a b c d : ℕ) → a ≤ c → b ≤ d → max a b ≤ max c d
most a b c d p q = omega (arith, p, q)

module _ (number : Tree → Option ℕ) (words : GivesWords number) where
  number-proper : (o : Option ℕ) (form : Form) → IsWord o → IsProperForm false form → IsProperForm false (number_or o form)
  number-proper None form word proper = proper
  number-proper (Some v) form word proper = word

  either-proper : (t : Bool) (e f : Tree) → IsProperTree false e → IsProperTree false f → IsProperTree false (if t then e else f)
  either-proper true e f h k = h
  either-proper false e f h k = k

  called : (stops : Bool) (object : Option (List ℕ)) (i : Index) (es : Trees) → IsCalled stops object i es → IsCalled stops object (index_with number i) (trees_with number es)
  called stops None no_index no_trees h = h
  called stops None no_index (es ▷ e) h = h
  called stops None (index x) no_trees h = h
  called stops None (index x) (es ▷ e) h = h
  called stops (Some name) i es h = h

  written : (v : Variable) → IsTrue (is_written v) → IsTrue (is_written (variable_with number v))
  written (Named name i at) h = h
  written (Part name size i at) h = h
  written (Memory size e i at) h = h
  written (Register register x at) h = h

  in_memory : (v : Variable) → IsTrue (is_in_memory v) → IsTrue (is_in_memory (variable_with number v))
  in_memory (Named name i at) h = h
  in_memory (Part name size i at) h = h
  in_memory (Memory size e i at) h = h
  in_memory (Register register x at) h = h

  having : (x : Bits) (register : ℕ) → IsTrue (may_have x register) → IsTrue (may_have (bits_with number x) register)
  having whole register h = h
  having (bits x) register h = h

  fitting : (es : Trees) (code : ℕ) → IsTrue (arguments_fit es code) → IsTrue (arguments_fit (arguments_with number code es) code)
  fitting no_trees code h = h
  fitting (no_trees ▷ e) code h = h
  fitting (es ▷ d ▷ e) code h = h

  fitting_alone : (es : Trees) (code : ℕ) → IsTrue (arguments_fit_alone es code) → IsTrue (arguments_fit_alone (arguments_with number code es) code)
  fitting_alone no_trees code h = h
  fitting_alone (no_trees ▷ e) code h = h
  fitting_alone (es ▷ d ▷ e) code h = h

  some_item : (xs : Items) → IsTrue (not (is_no_item xs)) → IsTrue (not (is_no_item (items_with number xs)))
  some_item no_items h = h
  some_item (xs ▸ x) h = h

  mutual
    tree-proper : (e : Tree) → IsProperTree false e → IsProperTree false (tree_with number e)
    tree-proper (node place form) h = number-proper (number (node place form)) (form_with number form) (words.by (node place form) h) (form-proper form h)

    pub form-proper : (form : Form) → IsProperForm false form → IsProperForm false (form_with number form)
    form-proper (Number n) h = h
    form-proper (Str text) h = h
    form-proper (Strings es) h = h
    form-proper Here h = h
    form-proper (Var v) h = variable-proper v h
    form-proper (Call stops object i method at es) h = (h.0, called stops object i es h.1, index-proper i h.2, trees-proper es h.3)
    form-proper (Unary operator e) h = (h.0, tree-proper e h.1)
    form-proper (Binary operator a b) h = (h.0, tree-proper a h.1, tree-proper b h.2)
    form-proper (Assign v operator e) h = (h.0, written v h.1, variable-proper v h.2, tree-proper e h.3)
    form-proper (Change v change) h = (h.0, written v h.1, variable-proper v h.2)
    form-proper (Address v) h = (in_memory v h.0, variable-proper v h.1)
    form-proper (ObjectAddress e) h = tree-proper e h
    form-proper (ObjConst object name at) h = h
    form-proper (Built code es) h = (fitting es code h.0, arguments-proper code es h.1)
    form-proper (Look code e xs) h = (h.0, some_item xs h.1, tree-proper e h.2, items-proper xs h.3)

    pub variable-proper : (v : Variable) → IsProperVariable false v → IsProperVariable false (variable_with number v)
    variable-proper (Named name i at) h = (h.0, index-proper i h.1)
    variable-proper (Part name size i at) h = (h.0, h.1, index-proper i h.2)
    variable-proper (Memory size e i at) h = (h.0, tree-proper e h.1, index-proper i h.2)
    variable-proper (Register register x at) h = (h.0, having x register h.1, bits-proper x h.2)

    index-proper : (i : Index) → IsProperIndex false i → IsProperIndex false (index_with number i)
    index-proper no_index h = h
    index-proper (index e) h = tree-proper e h

    bits-proper : (x : Bits) → AreProperBits false x → AreProperBits false (bits_with number x)
    bits-proper whole h = h
    bits-proper (bits x) h = item-proper x h

    item-proper : (x : Item) → IsProperItem false x → IsProperItem false (item_with number x)
    item-proper (single e) h = tree-proper e h
    item-proper (range e f) h = (tree-proper e h.0, tree-proper f h.1)

    trees-proper : (es : Trees) → AreProperTrees false es → AreProperTrees false (trees_with number es)
    trees-proper no_trees h = h
    trees-proper (es ▷ e) h = (trees-proper es h.0, tree-proper e h.1)

    pub arguments-proper : (code : ℕ) (es : Trees) → AreProperTrees false es → AreProperTrees false (arguments_with number code es)
    arguments-proper code no_trees h = h
    arguments-proper code (no_trees ▷ e) h = (tt, either-proper (code == 0) e (tree_with number e) h.1 (tree-proper e h.1))
    arguments-proper code (es ▷ d ▷ e) h = ((trees-proper es h.0.0, tree-proper d h.0.1), tree-proper e h.1)

    items-proper : (xs : Items) → AreProperItems false xs → AreProperItems false (items_with number xs)
    items-proper no_items h = h
    items-proper (xs ▸ x) h = (items-proper xs h.0, item-proper x h.1)

-- no tree gets higher
module _ (number : Tree → Option ℕ) where
  number-low : (o : Option ℕ) (form : Form) (h : ℕ) → height_in form ≤ h → height_in (number_or o form) ≤ h
  number-low None form h low = low
  number-low (Some v) form h low = omega arith

  either-low : (t : Bool) (e f : Tree) (h : ℕ) → height e ≤ h → height f ≤ h → height (if t then e else f) ≤ h
  either-low true e f h p q = p
  either-low false e f h p q = q

  mutual
    tree-low : (e : Tree) → height (tree_with number e) ≤ height e
    tree-low (node place form) =
        let low = number-low (number (node place form)) (form_with number form) (height_in form) (form-low form) in
        omega (arith, low)

    form-low : (form : Form) → height_in (form_with number form) ≤ height_in form
    form-low (Number n) = omega arith
    form-low (Str text) = omega arith
    form-low (Strings es) = omega arith
    form-low Here = omega arith
    form-low (Var v) = variable-low v
    form-low (Call stops object i method at es) = most _ _ _ _ (index-low i) (trees-low es)
    form-low (Unary operator e) = tree-low e
    form-low (Binary operator a b) = most _ _ _ _ (tree-low a) (tree-low b)
    form-low (Assign v operator e) = most _ _ _ _ (variable-low v) (tree-low e)
    form-low (Change v change) = variable-low v
    form-low (Address v) = variable-low v
    form-low (ObjectAddress e) = tree-low e
    form-low (ObjConst object name at) = omega arith
    form-low (Built code es) = arguments-low code es
    form-low (Look code e xs) = most _ _ _ _ (tree-low e) (items-low xs)

    variable-low : (v : Variable) → height_in_variable (variable_with number v) ≤ height_in_variable v
    variable-low (Named name i at) = index-low i
    variable-low (Part name size i at) = index-low i
    variable-low (Memory size e i at) = most _ _ _ _ (tree-low e) (index-low i)
    variable-low (Register register x at) = bits-low x

    index-low : (i : Index) → height_in_index (index_with number i) ≤ height_in_index i
    index-low no_index = omega arith
    index-low (index e) = tree-low e

    bits-low : (x : Bits) → height_in_bits (bits_with number x) ≤ height_in_bits x
    bits-low whole = omega arith
    bits-low (bits x) = item-low x

    item-low : (x : Item) → height_of_item (item_with number x) ≤ height_of_item x
    item-low (single e) = tree-low e
    item-low (range e f) = most _ _ _ _ (tree-low e) (tree-low f)

    trees-low : (es : Trees) → height_of_trees (trees_with number es) ≤ height_of_trees es
    trees-low no_trees = omega arith
    trees-low (es ▷ e) = most _ _ _ _ (trees-low es) (tree-low e)

    arguments-low : (code : ℕ) (es : Trees) → height_of_trees (arguments_with number code es) ≤ height_of_trees es
    arguments-low code no_trees = omega arith
    arguments-low code (no_trees ▷ e) = most _ _ _ _ (omega arith) (either-low (code == 0) e (tree_with number e) (height e) (omega arith) (tree-low e))
    arguments-low code (es ▷ d ▷ e) = most _ _ _ _ (most _ _ _ _ (trees-low es) (tree-low d)) (tree-low e)

    items-low : (xs : Items) → height_of_items (items_with number xs) ≤ height_of_items xs
    items-low no_items = omega arith
    items-low (xs ▸ x) = most _ _ _ _ (items-low xs) (item-low x)

-- ---- statements

abbrev IsProperChain : Chain → Type 0
IsProperChain (Going arms) = AreProperArms arms
IsProperChain (Ended arms body) = AreProperArms arms × AreProperStatements body

with-proper : (left : Chain) (known : Condition) (tests : Items) (negated : Bool) (body : Statements) → IsProperChain left → IsCondition tests → AreProperStatements body → IsProperChain (with_arm left known (arm tests negated body))
with-proper (Going arms) NoTest tests negated body h test run = (h, (test, run))
with-proper (Going arms) Unknown tests negated body h test run = (h, (test, run))
with-proper (Going arms) (Known true) tests negated body h test run = (h, run)
with-proper (Going arms) (Known false) tests negated body h test run = h
with-proper (Ended arms last) NoTest tests negated body h test run = (h.0, (test, run))
with-proper (Ended arms last) Unknown tests negated body h test run = h
with-proper (Ended arms last) (Known b) tests negated body h test run = h

whole-proper : (place : Place) (arms : Arms) (other : Otherwise) → AreProperArms arms → IsProperOtherwise other → AreProperStatements (whole_chain place arms other)
whole-proper place no_arms nothing_else h k = tt
whole-proper place no_arms (otherwise body) h k = k
whole-proper place (arms ⊳ x) other h k = (tt, (refl, h, k))

chain-proper : (place : Place) (left : Chain) (other : Otherwise) → IsProperChain left → IsProperOtherwise other → AreProperStatements (chain place left other)
chain-proper place (Going arms) other h k = whole-proper place arms other h k
chain-proper place (Ended arms body) other h k = whole-proper place arms (otherwise body) h.0 h.1

joined-proper : (first second : Statements) → AreProperStatements first → AreProperStatements second → AreProperStatements (joined first second)
joined-proper first no_statements h k = h
joined-proper first (second ▹ last) h k = (joined-proper first second h k.0, k.1)

count-if : (t : Bool) (e : Tree) → IsProperExpression false e → IfSome (if t then None else Some (Count e)) IsProperCourse
count-if true e h = tt
count-if false e h = h

count-proper : (o : Option ℕ) (e : Tree) → IsProperExpression false e → IfSome (kept_count o e) IsProperCourse
count-proper None e h = h
count-proper (Some n) e h = count-if (n == 0) e h

before-if : (t : Bool) → IfSome (if t then Some Forever else None) IsProperCourse
before-if true = tt
before-if false = tt

before-proper : (until : Bool) (o : Option ℕ) (e : Tree) → IsProperExpression false e → IfSome (kept_before until o e) IsProperCourse
before-proper until None e h = h
before-proper until (Some n) e h = before-if (holds until n)

kept-proper : (course : Course) → IsProperCourse course → IfSome (kept course) IsProperCourse
kept-proper Forever h = h
kept-proper (Count e) h = count-proper (number_in e) e h
kept-proper (Before until e) h = before-proper until (number_in e) e h
kept-proper (After until e) h = h
kept-proper (From name from to step at) h = h

loop-proper : (place : Place) (o : Option Course) (body : Statements) → IfSome o IsProperCourse → AreProperStatements body → AreProperStatements (loop place o body)
loop-proper place None body h k = tt
loop-proper place (Some course) body h k = (tt, (h, k))

module _ (c : Constants) (words : AreWords c) where
  gives : GivesWords (shorter_number c)
  gives = record { by = shorter-word c words }

  expression-proper : (e : Tree) → IsProperExpression false e → IsProperExpression false (folded c e)
  expression-proper e h = (tree-proper (shorter_number c) gives e h.0, let low = tree-low (shorter_number c) e in omega (arith, low, h.1))

  done-form : (form : Form) → IsDoneForm form → IsDoneForm (form_with (shorter_number c) form)
  done-form (Var (Named name no_index at)) h = h
  done-form (Var (Named name (index e) at)) h = h
  done-form (Var (Part name size i at)) h = h
  done-form (Var (Memory size e i at)) h = h
  done-form (Var (Register register x at)) h = h
  done-form (Assign v operator e) h = form-proper (shorter_number c) gives (Assign v operator e) h
  done-form (Change v change) h = (h.0, written (shorter_number c) gives v h.1, variable-proper (shorter_number c) gives v h.2)
  done-form (Call stops object i method at es) h = form-proper (shorter_number c) gives (Call stops object i method at es) h
  done-form (Built code es) h = (fitting_alone (shorter_number c) gives es code h.0, arguments-proper (shorter_number c) gives code es h.1)
  done-form (Number n) h = h
  done-form (Str text) h = h
  done-form (Strings es) h = h
  done-form Here h = h
  done-form (Unary operator e) h = h
  done-form (Binary operator a b) h = h
  done-form (Address v) h = h
  done-form (ObjectAddress e) h = h
  done-form (ObjConst object name at) h = h
  done-form (Look code e xs) h = h

  done-proper : (e : Tree) → IsDone e → IsDone (folded_inside c e)
  done-proper (node place form) h = (done-form form h.0, let low = form-low (shorter_number c) form in omega (arith, low, h.1))

  option-proper : (e : Option Tree) → IfThere (IsProperExpression false) e → IfThere (IsProperExpression false) (option_map (folded c) e)
  option-proper None h = tt
  option-proper (Some e) h = expression-proper e h

  course-proper : (course : Course) → IsProperCourse course → IsProperCourse (folded_course c course)
  course-proper Forever h = tt
  course-proper (Count e) h = expression-proper e h
  course-proper (Before until e) h = expression-proper e h
  course-proper (After until e) h = expression-proper e h
  course-proper (From name from to step at) h = (h.0, expression-proper from h.1, expression-proper to h.2, option-proper step h.3)

  condition-proper : (tests : Items) → IsCondition tests → IsCondition (folded_items c tests)
  condition-proper (no_items ▸ single e) h = expression-proper e h
  condition-proper no_items h = absurd h
  condition-proper (no_items ▸ range e f) h = absurd h
  condition-proper (xs ▸ x ▸ y) h = absurd h

  test-proper : (x : Item) → IsProperTest x → IsProperTest (item_with (shorter_number c) x)
  test-proper (single e) h = expression-proper e h
  test-proper (range e f) h = (expression-proper e h.0, expression-proper f h.1)

  tests-proper : (xs : Items) → AreProperTests xs → AreProperTests (folded_items c xs)
  tests-proper no_items h = tt
  tests-proper (xs ▸ x) h = (tests-proper xs h.0, test-proper x h.1)

  mutual
    statement-proper : (s : Statement) → IsProperStatement s → AreProperStatements (folded_statement c s)
    statement-proper (statement place (Do e)) h = (tt, done-proper e h)
    statement-proper (statement place (If arms other)) h = chain-proper place (folded_chain c arms) (folded_other c other) (arms-proper arms h.1) (other-proper other h.2)
    statement-proper (statement place (Case e arms other)) h = (tt, (expression-proper e h.0, choices-proper arms h.1, other-proper other h.2))
    statement-proper (statement place (Repeat course body)) h = loop-proper place (kept (folded_course c course)) (folded_body c body) (kept-proper (folded_course c course) (course-proper course h.0)) (body-proper body h.1)
    statement-proper (statement place Next) h = (tt, tt)
    statement-proper (statement place Quit) h = (tt, tt)
    statement-proper (statement place (Return e)) h = (tt, option-proper e h)
    statement-proper (statement place (Abort e)) h = (tt, option-proper e h)

    pub body-proper : (ss : Statements) → AreProperStatements ss → AreProperStatements (folded_body c ss)
    body-proper no_statements h = tt
    body-proper (ss ▹ s) h = joined-proper (folded_body c ss) (folded_statement c s) (body-proper ss h.0) (statement-proper s h.1)

    other-proper : (other : Otherwise) → IsProperOtherwise other → IsProperOtherwise (folded_other c other)
    other-proper nothing_else h = tt
    other-proper (otherwise body) h = body-proper body h

    arms-proper : (arms : Arms) → AreProperArms arms → IsProperChain (folded_chain c arms)
    arms-proper no_arms h = tt
    arms-proper (arms ⊳ arm tests negated body) h =
        with-proper (folded_chain c arms) (condition c negated tests) (folded_items c tests) negated (folded_body c body) (arms-proper arms h.0) (condition-proper tests h.1.0) (body-proper body h.1.1)

    choices-proper : (arms : Arms) → AreProperChoices arms → AreProperChoices (folded_arms c arms)
    choices-proper no_arms h = tt
    choices-proper (arms ⊳ arm tests negated body) h =
        (choices-proper arms h.0, (h.1.0, some_item (shorter_number c) gives tests h.1.1, tests-proper tests h.1.2, body-proper body h.1.3))
