-- What is wrong with a name of a folded body is wrong with that name of the body.
use Rattle.std.proofs.Common.{◌≡◌, ℕ, zero, suc, ◌+◌, ◌==◌, Bool, true, false, not, ◌||◌, if◌then◌else◌, Option, Some, None, option_map, refl, sym, ap, ◌∙◌, arith, List, [], ◌∷◌, length-append, inl, inr}
use Rattle.std.specs.Prelude.{IsTrue, ◌⊎◌}
use Rattle.std.proofs.lemmas.Bool.Decides.{nat_tests}
use Rattle.p8_tree.specs.declared.places.Place.{Place}
use Rattle.p8_tree.specs.Expressions.{Tree, node, Form, Number, Str, Strings, Here, Var, Call, Unary, Binary, Assign, Change, Address, ObjectAddress, ObjConst, Built, Look, Variable, Named, Part, Memory, Register, Index, no_index, index, Bits, whole, bits, Item, single, range, Trees, no_trees, ◌▷◌, Items, no_items, ◌▸◌}
use Rattle.p8_tree.specs.Statements.{Course, Forever, Count, Before, After, From, Statement, statement, Do, If, Case, Repeat, Next, Quit, Return, Abort, arm, Otherwise, nothing_else, otherwise, Statements, no_statements, ◌▹◌, Arms, no_arms, ◌⊳◌}
use Rattle.p8_tree.specs.Lists.{tree_list, count_of_trees}
use Rattle.p8_tree.specs.Proper as proper
use Rattle.p8_tree.specs.Proper.{IsProperTree, IsProperForm, IsProperVariable, IsProperIndex, AreProperBits, IsProperItem, AreProperTrees, AreProperItems, IsDone, IsProperCourse, IsProperTest, AreProperTests, IsCondition, IsProperExpression, IsProperStatement, AreProperArms, AreProperChoices, IsProperOtherwise, AreProperStatements, gives_value, gives_no_value}
use Rattle.p8_tree.specs.declared.faults.Fault.{Fault}
use Rattle.p8_fold.specs.Values.{FaultInTrees}
use Rattle.p8_kinds.specs.Environments.{Environment}
use Rattle.p8_kinds.specs.Misuses.{own_misuse, misuse_of_value, misuse_of_variable, misuse_of_call, misuse_of_arguments, in_method, BrokenIn, BrokenInside, BrokenInVariable, BrokenInIndex, BrokenInBits, BrokenInItem, BrokenInTrees, BrokenInItems, MisuseIn, name_alone, MisuseDone, MisuseInOption, MisuseInItems, MisuseInCourse, MisuseInStatements, MisuseInStatement, MisuseInOtherwise, MisuseInArms, MisuseInArm}
use Rattle.p8_meaning.specs.Constants.{Constants, shorter_number}
use Rattle.p8_meaning.specs.Folding.{number_or, tree_with, form_with, variable_with, index_with, bits_with, item_with, trees_with, arguments_with, items_with, folded, folded_items, folded_inside, folded_course, holds, number_in, kept_count, kept_before, kept, loop, Chain, Going, Ended, Condition, Known, Unknown, NoTest, condition, with_arm, whole_chain, chain, joined, folded_statement, folded_body, folded_other, folded_chain, folded_arms}

-- one of two
pub either_of : {A B C D : Type 0} → (A → C) → (B → D) → A ⊎ B → C ⊎ D
either_of f g (inl a) = inl (f a)
either_of f g (inr b) = inr (g b)

-- ---- counts of arguments

counted : (es : Trees) (e : Tree) → count_of_trees (es ▷ e) ≡ count_of_trees es + 1
counted es e = length-append (tree_list es) (e ∷ [])

one-more : (xs es : Trees) (x e : Tree) → count_of_trees xs ≡ count_of_trees es → count_of_trees (xs ▷ x) ≡ count_of_trees (es ▷ e)
one-more xs es x e is = counted xs x ∙ ap (λ n. n + 1) is ∙ sym (counted es e)

listed : (number : Tree → Option ℕ) (es : Trees) → count_of_trees (trees_with number es) ≡ count_of_trees es
listed number no_trees = refl
listed number (es ▷ e) = one-more (trees_with number es) es (tree_with number e) e (listed number es)

argued : (number : Tree → Option ℕ) (code : ℕ) (es : Trees) → count_of_trees (arguments_with number code es) ≡ count_of_trees es
argued number code no_trees = refl
argued number code (no_trees ▷ e) = refl
argued number code (es ▷ d ▷ e) = one-more (trees_with number (es ▷ d)) (es ▷ d) (tree_with number e) e (listed number (es ▷ d))

-- the word CONSTANT has one argument
abbrev AreFew : Trees → ℕ → Type 0
AreFew (es ▷ d ▷ e) code = IsTrue (gives_value code || gives_no_value code)
AreFew es code = Unit {0}

or-first : (a b : Bool) → IsTrue a → IsTrue (a || b)
or-first true b h = refl
or-first false b h = absurd (cc)

few : (es : Trees) (code : ℕ) → IsTrue (proper.arguments_fit es code) → AreFew es code
few no_trees code h = tt
few (no_trees ▷ e) code h = tt
few (es ▷ d ▷ e) code h = or-first (gives_value code) (gives_no_value code) h

few-alone : (es : Trees) (code : ℕ) → IsTrue (proper.arguments_fit_alone es code) → AreFew es code
few-alone no_trees code h = tt
few-alone (no_trees ▷ e) code h = tt
few-alone (es ▷ d ▷ e) code h = h

no-constant : (code : ℕ) → IsTrue (gives_value code || gives_no_value code) → IsTrue (code == 0) → ⊥
no-constant zero h is = absurd (cc)
no-constant (suc k) h is = absurd (grind (arith, nat_tests))

-- ---- expressions

module _ (env : Environment) (f : Fault) (number : Tree → Option ℕ) where
  number-broken : (o : Option ℕ) (place : Place) (form before : Form) → (BrokenIn (in_method env) (node place form) f → BrokenIn (in_method env) (node place before) f)
      → BrokenIn (in_method env) (node place (number_or o form)) f → BrokenIn (in_method env) (node place before) f
  number-broken None place form before k h = k h
  number-broken (Some v) place form before k (inl is) = absurd (cc)
  number-broken (Some v) place form before k (inr h) = absurd h

  value-same : (v : Variable) → misuse_of_value env (variable_with number v) ≡ misuse_of_value env v
  value-same (Named name no_index at) = refl
  value-same (Named name (index e) at) = refl
  value-same (Part name size i at) = refl
  value-same (Memory size e i at) = refl
  value-same (Register register x at) = refl

  variable-same : (v : Variable) → misuse_of_variable env (variable_with number v) ≡ misuse_of_variable env v
  variable-same (Named name i at) = refl
  variable-same (Part name size i at) = refl
  variable-same (Memory size e i at) = refl
  variable-same (Register register x at) = refl

  call-same : (object : Option (List ℕ)) (method : List ℕ) (es : Trees) (first second : Place)
      → own_misuse env first (form_with number (Call false object no_index method second es)) ≡ own_misuse env first (Call false object no_index method second es)
  call-same object method es first second = ap (λ count. misuse_of_call env object method count first second) (listed number es)

  own-same : (place : Place) (form : Form) → own_misuse env place (form_with number form) ≡ own_misuse env place form
  own-same place (Number n) = refl
  own-same place (Str text) = refl
  own-same place (Strings es) = refl
  own-same place Here = refl
  own-same place (Var v) = value-same v
  own-same place (Call stops object i method at es) = call-same object method es place at
  own-same place (Unary operator e) = refl
  own-same place (Binary operator a b) = refl
  own-same place (Assign v operator e) = variable-same v
  own-same place (Change v change) = variable-same v
  own-same place (Address v) = variable-same v
  own-same place (ObjectAddress e) = refl
  own-same place (ObjConst object name at) = refl
  own-same place (Built code es) = ap (λ count. misuse_of_arguments code count place) (argued number code es)
  own-same place (Look code e xs) = refl

  constant-argument : (t : Bool) (e d : Tree) → IsTrue t → FaultInTrees env.constants (no_trees ▷ (if t then d else e)) f → FaultInTrees env.constants (no_trees ▷ d) f
  constant-argument true e d is h = h
  constant-argument false e d is h = absurd (cc)

  plain-argument : (t : Bool) (e d : Tree) → IsTrue (not t) → BrokenInTrees (in_method env) (no_trees ▷ (if t then d else e)) f → BrokenIn (in_method env) e f
  plain-argument true e d is h = absurd (cc)
  plain-argument false e d is (inl h) = absurd h
  plain-argument false e d is (inr h) = h

  mutual
    tree-broken : (e : Tree) → IsProperTree false e → BrokenIn (in_method env) (tree_with number e) f → BrokenIn (in_method env) e f
    tree-broken (node place form) proper h = number-broken (number (node place form)) place (form_with number form) form (either_of (λ is. sym (own-same place form) ∙ is) (form-broken form proper)) h

    form-broken : (form : Form) → IsProperForm false form → BrokenInside (in_method env) (form_with number form) f → BrokenInside (in_method env) form f
    form-broken (Number n) proper h = h
    form-broken (Str text) proper h = h
    form-broken (Strings es) proper h = h
    form-broken Here proper h = h
    form-broken (Var v) proper h = variable-broken v proper h
    form-broken (Call stops object i method at es) proper h = either_of (index-broken i proper.2) (trees-broken es proper.3) h
    form-broken (Unary operator e) proper h = tree-broken e proper.1 h
    form-broken (Binary operator a b) proper h = either_of (tree-broken a proper.1) (tree-broken b proper.2) h
    form-broken (Assign v operator e) proper h = either_of (variable-broken v proper.2) (tree-broken e proper.3) h
    form-broken (Change v change) proper h = variable-broken v proper.2 h
    form-broken (Address v) proper h = variable-broken v proper.1 h
    form-broken (ObjectAddress e) proper h = tree-broken e proper h
    form-broken (ObjConst object name at) proper h = h
    form-broken (Built code es) proper h = arguments-broken code es (few es code proper.0) proper.1 h
    form-broken (Look code e xs) proper h = either_of (tree-broken e proper.2) (items-broken xs proper.3) h

    variable-broken : (v : Variable) → IsProperVariable false v → BrokenInVariable (in_method env) (variable_with number v) f → BrokenInVariable (in_method env) v f
    variable-broken (Named name i at) proper h = index-broken i proper.1 h
    variable-broken (Part name size i at) proper h = index-broken i proper.2 h
    variable-broken (Memory size e i at) proper h = either_of (tree-broken e proper.1) (index-broken i proper.2) h
    variable-broken (Register register x at) proper h = bits-broken x proper.2 h

    index-broken : (i : Index) → IsProperIndex false i → BrokenInIndex (in_method env) (index_with number i) f → BrokenInIndex (in_method env) i f
    index-broken no_index proper h = h
    index-broken (index e) proper h = tree-broken e proper h

    bits-broken : (x : Bits) → AreProperBits false x → BrokenInBits (in_method env) (bits_with number x) f → BrokenInBits (in_method env) x f
    bits-broken whole proper h = h
    bits-broken (bits x) proper h = item-broken x proper h

    item-broken : (x : Item) → IsProperItem false x → BrokenInItem (in_method env) (item_with number x) f → BrokenInItem (in_method env) x f
    item-broken (single e) proper h = tree-broken e proper h
    item-broken (range e d) proper h = either_of (tree-broken e proper.0) (tree-broken d proper.1) h

    trees-broken : (es : Trees) → AreProperTrees false es → BrokenInTrees (in_method env) (trees_with number es) f → BrokenInTrees (in_method env) es f
    trees-broken no_trees proper h = h
    trees-broken (es ▷ e) proper h = either_of (trees-broken es proper.0) (tree-broken e proper.1) h

    arguments-broken : (code : ℕ) (es : Trees) → AreFew es code → AreProperTrees false es → BrokenInside (in_method env) (Built code (arguments_with number code es)) f → BrokenInside (in_method env) (Built code es) f
    arguments-broken code no_trees few proper h = h
    arguments-broken code (no_trees ▷ e) few proper h =
        either_of (λ (is : IsTrue (code == 0) × FaultInTrees env.constants (no_trees ▷ (if code == 0 then e else tree_with number e)) f). (is.0, constant-argument (code == 0) (tree_with number e) e is.0 is.1))
        (λ (is : IsTrue (not (code == 0)) × BrokenInTrees (in_method env) (no_trees ▷ (if code == 0 then e else tree_with number e)) f). (is.0, inr (tree-broken e proper.1 (plain-argument (code == 0) (tree_with number e) e is.0 is.1)))) h
    arguments-broken code (es ▷ d ▷ e) few proper h =
        either_of (λ (is : IsTrue (code == 0) × FaultInTrees env.constants (trees_with number es ▷ tree_with number d ▷ tree_with number e) f). absurd (no-constant code few is.0))
        (λ (is : IsTrue (not (code == 0)) × BrokenInTrees (in_method env) (trees_with number es ▷ tree_with number d ▷ tree_with number e) f).
        (is.0, either_of (either_of (trees-broken es proper.0.0) (tree-broken d proper.0.1)) (tree-broken e proper.1) is.1)) h

    items-broken : (xs : Items) → AreProperItems false xs → BrokenInItems (in_method env) (items_with number xs) f → BrokenInItems (in_method env) xs f
    items-broken no_items proper h = h
    items-broken (xs ▸ x) proper h = either_of (items-broken xs proper.0) (item-broken x proper.1) h

-- ---- statements

module _ (env : Environment) (f : Fault) where
  abbrev MisuseInChain : Chain → Type 0
  MisuseInChain (Going arms) = MisuseInArms env arms f
  MisuseInChain (Ended arms body) = MisuseInArms env arms f ⊎ MisuseInStatements env body f

  arm-misused : (left : Chain) (known : Condition) (tests : Items) (negated : Bool) (body : Statements)
      → MisuseInChain (with_arm left known (arm tests negated body)) → MisuseInChain left ⊎ MisuseInArm env (arm tests negated body) f
  arm-misused (Going arms) NoTest tests negated body h = h
  arm-misused (Going arms) Unknown tests negated body h = h
  arm-misused (Going arms) (Known true) tests negated body h = either_of (λ a. a) (λ b. inr b) h
  arm-misused (Going arms) (Known false) tests negated body h = inl h
  arm-misused (Ended arms last) NoTest tests negated body h = either_of (λ a. inl a) (λ b. b) h
  arm-misused (Ended arms last) Unknown tests negated body h = inl h
  arm-misused (Ended arms last) (Known b) tests negated body h = inl h

  one-misused : {A : Type 0} → ⊥ ⊎ A → A
  one-misused (inl h) = absurd h
  one-misused (inr h) = h

  whole-misused : (place : Place) (arms : Arms) (other : Otherwise) → MisuseInStatements env (whole_chain place arms other) f → MisuseInArms env arms f ⊎ MisuseInOtherwise env other f
  whole-misused place no_arms nothing_else h = absurd h
  whole-misused place no_arms (otherwise body) h = inr h
  whole-misused place (arms ⊳ x) other h = one-misused h

  chain-misused : (place : Place) (left : Chain) (other : Otherwise) → MisuseInStatements env (chain place left other) f → MisuseInChain left ⊎ MisuseInOtherwise env other f
  chain-misused place (Going arms) other h = whole-misused place arms other h
  chain-misused place (Ended arms body) other h = inl (whole-misused place arms (otherwise body) h)

  joined-misused : (first second : Statements) → MisuseInStatements env (joined first second) f → MisuseInStatements env first f ⊎ MisuseInStatements env second f
  joined-misused first no_statements h = inl h
  joined-misused first (second ▹ last) (inr h) = inr (inr h)
  joined-misused first (second ▹ last) (inl h) = either_of (λ a. a) (λ b. inl b) (joined-misused first second h)

  -- a course, where there is one, that is misused is so in another one
  abbrev IsMisused : Option Course → Course → Type 0
  IsMisused None course = Unit {0}
  IsMisused (Some left) course = MisuseInCourse env left f → MisuseInCourse env course f

  loop-misused : (place : Place) (o : Option Course) (course : Course) (body : Statements) → IsMisused o course → MisuseInStatements env (loop place o body) f → MisuseInCourse env course f ⊎ MisuseInStatements env body f
  loop-misused place None course body k h = absurd h
  loop-misused place (Some left) course body k h = either_of k (λ b. b) (one-misused h)

  count-if : (t : Bool) (e : Tree) → IsMisused (if t then None else Some (Count e)) (Count e)
  count-if true e = tt
  count-if false e = λ h. h

  count-misused : (o : Option ℕ) (e : Tree) → IsMisused (kept_count o e) (Count e)
  count-misused None e = λ h. h
  count-misused (Some n) e = count-if (n == 0) e

  before-if : (t until : Bool) (e : Tree) → IsMisused (if t then Some Forever else None) (Before until e)
  before-if true until e = λ h. absurd h
  before-if false until e = tt

  before-misused : (until : Bool) (o : Option ℕ) (e : Tree) → IsMisused (kept_before until o e) (Before until e)
  before-misused until None e = λ h. h
  before-misused until (Some n) e = before-if (holds until n) until e

  kept-misused : (course : Course) → IsMisused (kept course) course
  kept-misused Forever = λ h. h
  kept-misused (Count e) = count-misused (number_in e) e
  kept-misused (Before until e) = before-misused until (number_in e) e
  kept-misused (After until e) = λ h. h
  kept-misused (From name from to step at) = λ h. h

  module _ (c : Constants) where
    expression-misused : (e : Tree) → IsProperExpression false e → MisuseIn env (folded c e) f → MisuseIn env e f
    expression-misused e proper h = tree-broken env f (shorter_number c) e proper.0 h

    option-misused : (e : Option Tree) → proper.IfThere (IsProperExpression false) e → MisuseInOption env (option_map (folded c) e) f → MisuseInOption env e f
    option-misused None proper h = h
    option-misused (Some e) proper h = expression-misused e proper h

    inside-misused : (place : Place) (form : Form) → (BrokenInside (in_method env) (form_with (shorter_number c) form) f → BrokenInside (in_method env) form f)
        → BrokenIn (in_method env) (node place (form_with (shorter_number c) form)) f → BrokenIn (in_method env) (node place form) f
    inside-misused place form k h = either_of (λ is. sym (own-same env f (shorter_number c) place form) ∙ is) k h

    done-misused : (e : Tree) → IsDone e → MisuseDone env (name_alone (folded_inside c e)) (folded_inside c e) f → MisuseDone env (name_alone e) e f
    done-misused (node place (Var (Named name no_index at))) proper h = h
    done-misused (node place (Assign v operator e)) proper h = inside-misused place (Assign v operator e) (form-broken env f (shorter_number c) (Assign v operator e) proper.0) h
    done-misused (node place (Change v change)) proper h = inside-misused place (Change v change) (variable-broken env f (shorter_number c) v proper.0.2) h
    done-misused (node place (Call stops object i method at es)) proper h =
        inside-misused place (Call stops object i method at es) (form-broken env f (shorter_number c) (Call stops object i method at es) proper.0) h
    done-misused (node place (Built code es)) proper h =
        inside-misused place (Built code es) (arguments-broken env f (shorter_number c) code es (few-alone es code proper.0.0) proper.0.1) h
    done-misused (node place (Var (Named name (index e) at))) proper h = absurd proper.0
    done-misused (node place (Var (Part name size i at))) proper h = absurd proper.0
    done-misused (node place (Var (Memory size e i at))) proper h = absurd proper.0
    done-misused (node place (Var (Register register x at))) proper h = absurd proper.0
    done-misused (node place (Number n)) proper h = absurd proper.0
    done-misused (node place (Str text)) proper h = absurd proper.0
    done-misused (node place (Strings es)) proper h = absurd proper.0
    done-misused (node place Here) proper h = absurd proper.0
    done-misused (node place (Unary operator e)) proper h = absurd proper.0
    done-misused (node place (Binary operator a b)) proper h = absurd proper.0
    done-misused (node place (Address v)) proper h = absurd proper.0
    done-misused (node place (ObjectAddress e)) proper h = absurd proper.0
    done-misused (node place (ObjConst object name at)) proper h = absurd proper.0
    done-misused (node place (Look code e xs)) proper h = absurd proper.0

    course-misused : (course : Course) → IsProperCourse course → MisuseInCourse env (folded_course c course) f → MisuseInCourse env course f
    course-misused Forever proper h = h
    course-misused (Count e) proper h = expression-misused e proper h
    course-misused (Before until e) proper h = expression-misused e proper h
    course-misused (After until e) proper h = expression-misused e proper h
    course-misused (From name from to step at) proper h =
        either_of (λ is. is) (either_of (either_of (expression-misused from proper.1) (expression-misused to proper.2)) (option-misused step proper.3)) h

    condition-misused : (xs : Items) → IsCondition xs → MisuseInItems env (folded_items c xs) f → MisuseInItems env xs f
    condition-misused (no_items ▸ single e) proper h = either_of (λ no. no) (expression-misused e proper) h
    condition-misused no_items proper h = absurd proper
    condition-misused (no_items ▸ range e d) proper h = absurd proper
    condition-misused (xs ▸ x ▸ y) proper h = absurd proper

    test-misused : (x : Item) → IsProperTest x → BrokenInItem (in_method env) (item_with (shorter_number c) x) f → BrokenInItem (in_method env) x f
    test-misused (single e) proper h = expression-misused e proper h
    test-misused (range e d) proper h = either_of (expression-misused e proper.0) (expression-misused d proper.1) h

    tests-misused : (xs : Items) → AreProperTests xs → MisuseInItems env (folded_items c xs) f → MisuseInItems env xs f
    tests-misused no_items proper h = h
    tests-misused (xs ▸ x) proper h = either_of (tests-misused xs proper.0) (test-misused x proper.1) h

    mutual
      statement-misused : (s : Statement) → IsProperStatement s → MisuseInStatements env (folded_statement c s) f → MisuseInStatement env s f
      statement-misused (statement place (Do e)) proper h = done-misused e proper (one-misused h)
      statement-misused (statement place (If arms other)) proper h =
          either_of (chains-misused arms proper.1) (other-misused other proper.2) (chain-misused place (folded_chain c arms) (folded_other c other) h)
      statement-misused (statement place (Case e arms other)) proper h =
          either_of (either_of (expression-misused e proper.0) (arms-misused arms proper.1)) (other-misused other proper.2) (one-misused h)
      statement-misused (statement place (Repeat course body)) proper h =
          either_of (course-misused course proper.0) (body-misused body proper.1)
          (loop-misused place (kept (folded_course c course)) (folded_course c course) (folded_body c body) (kept-misused (folded_course c course)) h)
      statement-misused (statement place Next) proper h = one-misused h
      statement-misused (statement place Quit) proper h = one-misused h
      statement-misused (statement place (Return e)) proper h = option-misused e proper (one-misused h)
      statement-misused (statement place (Abort e)) proper h = option-misused e proper (one-misused h)

      pub body-misused : (ss : Statements) → AreProperStatements ss → MisuseInStatements env (folded_body c ss) f → MisuseInStatements env ss f
      body-misused no_statements proper h = h
      body-misused (ss ▹ s) proper h = either_of (body-misused ss proper.0) (statement-misused s proper.1) (joined-misused (folded_body c ss) (folded_statement c s) h)

      other-misused : (other : Otherwise) → IsProperOtherwise other → MisuseInOtherwise env (folded_other c other) f → MisuseInOtherwise env other f
      other-misused nothing_else proper h = h
      other-misused (otherwise body) proper h = body-misused body proper h

      chains-misused : (arms : Arms) → AreProperArms arms → MisuseInChain (folded_chain c arms) → MisuseInArms env arms f
      chains-misused no_arms proper h = h
      chains-misused (arms ⊳ arm tests negated body) proper h =
          either_of (chains-misused arms proper.0) (either_of (condition-misused tests proper.1.0) (body-misused body proper.1.1))
          (arm-misused (folded_chain c arms) (condition c negated tests) (folded_items c tests) negated (folded_body c body) h)

      arms-misused : (arms : Arms) → AreProperChoices arms → MisuseInArms env (folded_arms c arms) f → MisuseInArms env arms f
      arms-misused no_arms proper h = h
      arms-misused (arms ⊳ arm tests negated body) proper h =
          either_of (arms-misused arms proper.0) (either_of (tests-misused tests proper.1.2) (body-misused body proper.1.3)) h
