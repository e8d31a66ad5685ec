-- A folded body holds no more on the operand stack.
use Rattle.std.proofs.Common.{◌≡◌, ℕ, ◌+◌, ◌<◌, ◌≤◌, ◌==◌, ◌&&◌, not, max, Bool, true, false, if◌then◌else◌, Option, Some, None, option_map, refl, subst, ap, arith}
use Rattle.std.proofs.lemmas.Bool.Decides.{nat_tests}
use Rattle.p8_tree.specs.declared.places.Place.{Place}
use Rattle.p8_tree.specs.Expressions.{Tree, node, Form, Number, Str, Strings, Here, Var, Call, Unary, Binary, Assign, Change, Address, ObjectAddress, ObjConst, Built, Look, Variable, Named, Part, Memory, Register, Index, no_index, index, Bits, whole, bits, single, range, Trees, no_trees, ◌▷◌, Items, no_items, ◌▸◌}
use Rattle.p8_tree.specs.Statements.{Course, Forever, Count, Before, After, From, statement, Action, Do, If, Case, Repeat, Next, Quit, Return, Abort, arm, Otherwise, nothing_else, otherwise, Statements, no_statements, ◌▹◌, Arms, no_arms, ◌⊳◌}
use Rattle.p8_gen.specs.Names.{Names}
use Rattle.p8_gen.specs.Expressions.{starts_method}
use Rattle.p8_gen.specs.Depths.{over, arguments_of, held, held_by, held_by_naming, held_by_index, held_by_bits, held_by_trees, held_by_items, held_by_built, held_by_arguments, held_alone, held_if, held_by_test, held_by_tests, held_by_pass, held_in_loop, held_in, held_in_action, held_in_arms, held_in_cases, held_in_other}
use Rattle.p8_meaning.specs.Constants.{Constants, shorter_number}
use Rattle.p8_meaning.specs.Folding.{number_or, tree_with, form_with, variable_with, index_with, bits_with, trees_with, arguments_with, items_with, folded, folded_items, folded_inside, folded_course, holds, number_in, kept_count, kept_before, kept, loop, Chain, Going, Ended, Condition, Known, Unknown, NoTest, condition, with_arm, whole_chain, chain, joined, folded_statement, folded_body, folded_other, folded_chain, folded_arms}
use Rattle.p8_opt.proofs.Proper.{most}
use Rattle.p8_opt.proofs.Starting.{StartsNothing, counts-same, starts-same}

-- ---- numbers

sum-most : (k j a b : ℕ) → k ≡ j → a ≤ b → k + a ≤ j + b
sum-most k j a b same low = omega (arith, same, low)

over-most : (k j a b : ℕ) → k ≡ j → a ≤ b → over k a ≤ over j b
over-most k j a b same low = go (a == 0) (b == 0) refl refl
  where
    go : (s t : Bool) → (a == 0) ≡ s → (b == 0) ≡ t → (if s then 0 else k + a) ≤ (if t then 0 else j + b)
    go true t is at = omega arith
    go false false is at = omega (arith, same, low)
    go false true is at = absurd (let none : b ≡ 0 = grind (arith, nat_tests) in let some : 0 < a = grind (arith, nat_tests) in omega (arith, none, some, low))

more : (j k a b : ℕ) → j ≤ k → a ≤ b → 1 + j + a ≤ 1 + k + b
more j k a b p q = omega (arith, p, q)

-- one of two
which : (s t : Bool) (a b x y : ℕ) → s ≡ t → a ≤ x → b ≤ y → (if s then a else b) ≤ (if t then x else y)
which s t a b x y same p q = subst (λ (u : Bool). (if s then a else b) ≤ (if u then x else y)) same (go s)
  where
    go : (u : Bool) → (if u then a else b) ≤ (if u then x else y)
    go true = p
    go false = q

-- ---- expressions

module _ (n : Names) where
  -- a value is one long
  some-held : (e : Tree) → 1 ≤ held n e
  some-held (node place (Number v)) = omega arith
  some-held (node place (Str text)) = omega arith
  some-held (node place (Strings es)) = omega arith
  some-held (node place Here) = omega arith
  some-held (node place (Var v)) = omega arith
  some-held (node place (Call stops object i method at es)) = omega arith
  some-held (node place (Unary operator e)) = some-held e
  some-held (node place (Binary operator a b)) = omega arith
  some-held (node place (Assign v operator e)) = omega arith
  some-held (node place (Change v change)) = omega arith
  some-held (node place (Address v)) = omega arith
  some-held (node place (ObjectAddress e)) = some-held e
  some-held (node place (ObjConst object name at)) = omega arith
  some-held (node place (Built code es)) = omega arith
  some-held (node place (Look code e xs)) = omega arith

module _ (n : Names) (number : Tree → Option ℕ) (suits : StartsNothing n number) where
  number-held : (o : Option ℕ) (place : Place) (form before : Form) → held_by n form ≤ held_by n before → held_by n (number_or o form) ≤ held_by n before
  number-held None place form before low = low
  number-held (Some v) place form before low = some-held n (node place before)

  one-held : (t : Bool) (e d : Tree) → held n d ≤ held n e → (if t then 1 else held n (if t then e else d)) ≤ (if t then 1 else held n e)
  one-held true e d low = omega arith
  one-held false e d low = low

  or-arguments : (o : Option ℕ) (place : Place) (form : Form) → arguments_of (node place (number_or o (form_with number form))) ≤ arguments_of (node place form)
  or-arguments (Some v) place form = omega arith
  or-arguments None place (Call stops object i method at es) = let same = counts-same number es in omega (arith, same)
  or-arguments None place (Number v) = omega arith
  or-arguments None place (Str text) = omega arith
  or-arguments None place (Strings es) = omega arith
  or-arguments None place Here = omega arith
  or-arguments None place (Var v) = omega arith
  or-arguments None place (Unary operator e) = omega arith
  or-arguments None place (Binary operator a b) = omega arith
  or-arguments None place (Assign v operator e) = omega arith
  or-arguments None place (Change v change) = omega arith
  or-arguments None place (Address v) = omega arith
  or-arguments None place (ObjectAddress e) = omega arith
  or-arguments None place (ObjConst object name at) = omega arith
  or-arguments None place (Built code es) = omega arith
  or-arguments None place (Look code e xs) = omega arith

  arguments-few : (m : Tree) → arguments_of (tree_with number m) ≤ arguments_of m
  arguments-few (node place form) = or-arguments (number (node place form)) place form

  number-given : (o : Option ℕ) (place : Place) (form : Form) (k : ℕ) → held_by_arguments n (node place form) ≤ k → held_by_arguments n (node place (number_or o form)) ≤ k
  number-given None place form k low = low
  number-given (Some v) place form k low = omega arith

  mutual
    pub tree-held : (e : Tree) → held n (tree_with number e) ≤ held n e
    tree-held (node place form) = number-held (number (node place form)) place (form_with number form) form (form-held form)

    form-held : (form : Form) → held_by n (form_with number form) ≤ held_by n form
    form-held (Number v) = omega arith
    form-held (Str text) = omega arith
    form-held (Strings es) = omega arith
    form-held Here = omega arith
    form-held (Var v) = most _ _ _ _ (omega arith) (naming-held v)
    form-held (Call stops object i method at es) = most _ _ _ _ (omega arith) (most _ _ _ _ (trees-held es) (over-most _ _ _ _ (counts-same number es) (index-held i)))
    form-held (Unary operator e) = tree-held e
    form-held (Binary operator a b) = most _ _ _ _ (tree-held a) (sum-most _ _ _ _ refl (tree-held b))
    form-held (Assign v operator e) = most _ _ _ _ (tree-held e) (sum-most _ _ _ _ refl (naming-held v))
    form-held (Change v change) = most _ _ _ _ (omega arith) (naming-held v)
    form-held (Address v) = most _ _ _ _ (omega arith) (naming-held v)
    form-held (ObjectAddress e) = tree-held e
    form-held (ObjConst object name at) = omega arith
    form-held (Built code es) = most _ _ _ _ (omega arith) (built-held code es)
    form-held (Look code e xs) = most _ _ _ _ (most _ _ _ _ (omega arith) (tree-held e)) (items-held xs)

    pub naming-held : (v : Variable) → held_by_naming n (variable_with number v) ≤ held_by_naming n v
    naming-held (Named name i at) = index-held i
    naming-held (Part name size i at) = index-held i
    naming-held (Memory size e i at) = most _ _ _ _ (tree-held e) (over-most _ _ _ _ refl (index-held i))
    naming-held (Register register x at) = bits-held x

    pub index-held : (i : Index) → held_by_index n (index_with number i) ≤ held_by_index n i
    index-held no_index = omega arith
    index-held (index e) = tree-held e

    bits-held : (x : Bits) → held_by_bits n (bits_with number x) ≤ held_by_bits n x
    bits-held whole = omega arith
    bits-held (bits (single e)) = tree-held e
    bits-held (bits (range a b)) = most _ _ _ _ (tree-held a) (sum-most _ _ _ _ refl (tree-held b))

    pub trees-held : (es : Trees) → held_by_trees n (trees_with number es) ≤ held_by_trees n es
    trees-held no_trees = omega arith
    trees-held (es ▷ e) = most _ _ _ _ (trees-held es) (sum-most _ _ _ _ (counts-same number es) (tree-held e))

    items-held : (xs : Items) → held_by_items n (items_with number xs) ≤ held_by_items n xs
    items-held no_items = omega arith
    items-held (xs ▸ single e) = most _ _ _ _ (items-held xs) (sum-most _ _ _ _ refl (tree-held e))
    items-held (xs ▸ range a b) = most _ _ _ _ (items-held xs) (most _ _ _ _ (sum-most _ _ _ _ refl (tree-held a)) (sum-most _ _ _ _ refl (tree-held b)))

    pub built-held : (code : ℕ) (es : Trees) → held_by_built n code (arguments_with number code es) ≤ held_by_built n code es
    built-held code no_trees = omega arith
    built-held code (no_trees ▷ e) = one-held (code == 0) e (tree_with number e) (tree-held e)
    built-held code (no_trees ▷ m ▷ s) =
        which (not (code == 0x2C)) (not (code == 0x2C)) _ _ _ _ refl (most _ _ _ _ (tree-held m) (sum-most _ _ _ _ refl (tree-held s)))
        (which (starts_method n (tree_with number m)) (starts_method n m) _ _ _ _ (starts-same n number suits m)
        (most _ _ _ _ (sum-most _ _ _ _ refl (given-held m)) (more _ _ _ _ (arguments-few m) (tree-held s)))
        (most _ _ _ _ (sum-most _ _ _ _ refl (tree-held m)) (sum-most _ _ _ _ refl (tree-held s))))
    built-held code (no_trees ▷ id ▷ m ▷ s) =
        which (code == 0x28 && starts_method n (tree_with number m)) (code == 0x28 && starts_method n m) _ _ _ _ (ap (λ b. code == 0x28 && b) (starts-same n number suits m))
        (most _ _ _ _ (tree-held id) (most _ _ _ _ (sum-most _ _ _ _ refl (given-held m)) (more _ _ _ _ (arguments-few m) (tree-held s))))
        (most _ _ _ _ (tree-held id) (most _ _ _ _ (sum-most _ _ _ _ refl (tree-held m)) (sum-most _ _ _ _ refl (tree-held s))))
    built-held code (es ▷ a ▷ b ▷ d ▷ e) = most _ _ _ _ (trees-held (es ▷ a ▷ b ▷ d)) (sum-most _ _ _ _ (counts-same number (es ▷ a ▷ b ▷ d)) (tree-held e))

    given-held : (m : Tree) → held_by_arguments n (tree_with number m) ≤ held_by_arguments n m
    given-held (node place (Call stops object i method at es)) =
        number-given (number (node place (Call stops object i method at es))) place (form_with number (Call stops object i method at es)) (held_by_trees n es) (trees-held es)
    given-held (node place (Number v)) = number-given (number (node place (Number v))) place (Number v) 0 (omega arith)
    given-held (node place form) = number-given (number (node place form)) place (form_with number form) 0 (omega arith)

  -- an expression alone
  inside-held : (place : Place) (form : Form) → held_alone n (node place (form_with number form)) ≤ held_alone n (node place form)
  inside-held place (Call stops object i method at es) = most _ _ _ _ (trees-held es) (over-most _ _ _ _ (counts-same number es) (index-held i))
  inside-held place (Assign v operator e) = most _ _ _ _ (tree-held e) (sum-most _ _ _ _ refl (naming-held v))
  inside-held place (Change v change) = naming-held v
  inside-held place (Built code es) = built-held code es
  inside-held place (Number v) = omega arith
  inside-held place (Var v) = omega arith
  inside-held place form = omega arith

-- ---- statements

module _ (n : Names) where
  -- what a chain without its ELSE holds, with a body that ends it
  abbrev chain_held : Chain → ℕ
  chain_held (Going arms) = held_in_arms n arms
  chain_held (Ended arms body) = max (held_in_arms n arms) (held_in n body)

  with-held : (left : Chain) (known : Condition) (tests : Items) (negated : Bool) (body : Statements) (d e k : ℕ)
      → chain_held left ≤ d → held_by_test n tests ≤ e → held_in n body ≤ k → chain_held (with_arm left known (arm tests negated body)) ≤ max d (max e k)
  with-held (Going arms) NoTest tests negated body d e k p q r = most _ _ _ _ p (most _ _ _ _ q r)
  with-held (Going arms) Unknown tests negated body d e k p q r = most _ _ _ _ p (most _ _ _ _ q r)
  with-held (Going arms) (Known true) tests negated body d e k p q r = omega (arith, p, r)
  with-held (Going arms) (Known false) tests negated body d e k p q r = omega (arith, p)
  with-held (Ended arms last) NoTest tests negated body d e k p q r = most _ _ _ _ (omega (arith, p)) (most _ _ _ _ q r)
  with-held (Ended arms last) Unknown tests negated body d e k p q r = omega (arith, p)
  with-held (Ended arms last) (Known b) tests negated body d e k p q r = omega (arith, p)

  whole-held : (place : Place) (arms : Arms) (other : Otherwise) → held_in n (whole_chain place arms other) ≤ max (held_in_arms n arms) (held_in_other n other)
  whole-held place no_arms nothing_else = omega arith
  whole-held place no_arms (otherwise body) = omega arith
  whole-held place (arms ⊳ x) other = omega arith

  chain-held : (place : Place) (left : Chain) (other : Otherwise) → held_in n (chain place left other) ≤ max (chain_held left) (held_in_other n other)
  chain-held place (Going arms) other = whole-held place arms other
  chain-held place (Ended arms body) other = let low = whole-held place arms (otherwise body) in omega (arith, low)

  joined-held : (first second : Statements) → held_in n (joined first second) ≤ max (held_in n first) (held_in n second)
  joined-held first no_statements = omega arith
  joined-held first (second ▹ statement place action) = let low = joined-held first second in omega (arith, low)

  -- a loop that is left, where one is, holds at most so many around its body
  abbrev HoldsAtMost : Option Course → (body most : ℕ) → Type 0
  HoldsAtMost None body most = Unit {0}
  HoldsAtMost (Some course) body most = held_in_loop n course body ≤ most

  loop-held : (place : Place) (o : Option Course) (body : Statements) (k : ℕ) → HoldsAtMost o (held_in n body) k → held_in n (loop place o body) ≤ k
  loop-held place None body k low = omega arith
  loop-held place (Some course) body k low = omega (arith, low)

  count-if : (t : Bool) (e : Tree) (b : ℕ) → HoldsAtMost (if t then None else Some (Count e)) b (held_in_loop n (Count e) b)
  count-if true e b = tt
  count-if false e b = omega arith

  count-held : (o : Option ℕ) (e : Tree) (b : ℕ) → HoldsAtMost (kept_count o e) b (held_in_loop n (Count e) b)
  count-held None e b = omega arith
  count-held (Some v) e b = count-if (v == 0) e b

  before-if : (t until : Bool) (e : Tree) (b : ℕ) → HoldsAtMost (if t then Some Forever else None) b (held_in_loop n (Before until e) b)
  before-if true until e b = omega arith
  before-if false until e b = tt

  before-held : (until : Bool) (o : Option ℕ) (e : Tree) (b : ℕ) → HoldsAtMost (kept_before until o e) b (held_in_loop n (Before until e) b)
  before-held until None e b = omega arith
  before-held until (Some v) e b = before-if (holds until v) until e b

  kept-held : (course : Course) (b : ℕ) → HoldsAtMost (kept course) b (held_in_loop n course b)
  kept-held Forever b = omega arith
  kept-held (Count e) b = count-held (number_in e) e b
  kept-held (Before until e) b = before-held until (number_in e) e b
  kept-held (After until e) b = omega arith
  kept-held (From name from to step at) b = omega arith

  lower : (o : Option Course) (b k m : ℕ) → HoldsAtMost o b k → k ≤ m → HoldsAtMost o b m
  lower None b k m low less = tt
  lower (Some course) b k m low less = omega (arith, low, less)

  module _ (c : Constants) (suits : StartsNothing n (shorter_number c)) where
    folded-held : (e : Tree) → held n (folded c e) ≤ held n e
    folded-held e = tree-held n (shorter_number c) suits e

    option-held : (e : Option Tree) → held_if n (option_map (folded c) e) ≤ held_if n e
    option-held None = omega arith
    option-held (Some e) = folded-held e

    done-held : (e : Tree) → held_alone n (folded_inside c e) ≤ held_alone n e
    done-held (node place form) = inside-held n (shorter_number c) suits place form

    pass-held : (step : Option Tree) (a b : Tree) → held_by_pass n (option_map (folded c) step) (folded c a) (folded c b) ≤ held_by_pass n step a b
    pass-held None a b = most _ _ _ _ (folded-held a) (sum-most _ _ _ _ refl (folded-held b))
    pass-held (Some s) a b = most _ _ _ _ (folded-held s) (most _ _ _ _ (sum-most _ _ _ _ refl (folded-held a)) (sum-most _ _ _ _ refl (folded-held b)))

    course-held : (course : Course) (a b : ℕ) → a ≤ b → held_in_loop n (folded_course c course) a ≤ held_in_loop n course b
    course-held Forever a b low = low
    course-held (Count e) a b low = most _ _ _ _ (folded-held e) (sum-most _ _ _ _ refl low)
    course-held (Before until e) a b low = most _ _ _ _ (folded-held e) low
    course-held (After until e) a b low = most _ _ _ _ (folded-held e) low
    course-held (From name from to step at) a b low = most _ _ _ _ (folded-held from) (most _ _ _ _ low (pass-held step from to))

    test-held : (xs : Items) → held_by_test n (folded_items c xs) ≤ held_by_test n xs
    test-held (no_items ▸ single e) = folded-held e
    test-held no_items = omega arith
    test-held (no_items ▸ range a b) = omega arith
    test-held (xs ▸ x ▸ y) = omega arith

    tests-held : (xs : Items) → held_by_tests n (folded_items c xs) ≤ held_by_tests n xs
    tests-held no_items = omega arith
    tests-held (xs ▸ single e) = most _ _ _ _ (tests-held xs) (sum-most _ _ _ _ refl (folded-held e))
    tests-held (xs ▸ range a b) = most _ _ _ _ (tests-held xs) (most _ _ _ _ (sum-most _ _ _ _ refl (folded-held a)) (sum-most _ _ _ _ refl (folded-held b)))

    mutual
      statement-held : (place : Place) (action : Action) → held_in n (folded_statement c (statement place action)) ≤ held_in_action n action
      statement-held place (Do e) = let low = done-held e in omega (arith, low)
      statement-held place (If arms other) =
          let whole = chain-held place (folded_chain c arms) (folded_other c other) in
          let one = arms-held arms in
          let two = other-held other in
          omega (arith, whole, one, two)
      statement-held place (Case e arms other) = let one = folded-held e in let two = cases-held arms in let three = other-held other in omega (arith, one, two, three)
      statement-held place (Repeat course body) =
          loop-held place (kept (folded_course c course)) (folded_body c body) (held_in_loop n course (held_in n body))
          (lower (kept (folded_course c course)) (held_in n (folded_body c body)) (held_in_loop n (folded_course c course) (held_in n (folded_body c body))) (held_in_loop n course (held_in n body))
          (kept-held (folded_course c course) (held_in n (folded_body c body))) (course-held course (held_in n (folded_body c body)) (held_in n body) (body-held body)))
      statement-held place Next = omega arith
      statement-held place Quit = omega arith
      statement-held place (Return e) = let low = option-held e in omega (arith, low)
      statement-held place (Abort e) = let low = option-held e in omega (arith, low)

      pub body-held : (ss : Statements) → held_in n (folded_body c ss) ≤ held_in n ss
      body-held no_statements = omega arith
      body-held (ss ▹ statement place action) =
          let whole = joined-held (folded_body c ss) (folded_statement c (statement place action)) in
          let one = body-held ss in
          let two = statement-held place action in
          omega (arith, whole, one, two)

      other-held : (other : Otherwise) → held_in_other n (folded_other c other) ≤ held_in_other n other
      other-held nothing_else = omega arith
      other-held (otherwise body) = body-held body

      arms-held : (arms : Arms) → chain_held (folded_chain c arms) ≤ held_in_arms n arms
      arms-held no_arms = omega arith
      arms-held (arms ⊳ arm tests negated body) =
          with-held (folded_chain c arms) (condition c negated tests) (folded_items c tests) negated (folded_body c body) (held_in_arms n arms) (held_by_test n tests) (held_in n body)
          (arms-held arms) (test-held tests) (body-held body)

      cases-held : (arms : Arms) → held_in_cases n (folded_arms c arms) ≤ held_in_cases n arms
      cases-held no_arms = omega arith
      cases-held (arms ⊳ arm tests negated body) = most _ _ _ _ (cases-held arms) (most _ _ _ _ (tests-held tests) (body-held body))
