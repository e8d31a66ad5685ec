-- How much a method holds on the operand stack doesn't depend on which of its jumps are wide.
use Rattle.std.proofs.Common.{◌≡◌, ℕ, ◌+◌, max, ◌==◌, ◌&&◌, not, Bool, true, false, if◌then◌else◌, Option, Some, None, refl, ap, ap₂}
use Rattle.p8_tree.specs.Expressions.{Tree, node, Form, Number, Var, Call, Unary, Binary, Assign, Change, Address, ObjectAddress, Built, Look, Variable, Named, Part, Memory, Register, Index, no_index, index, whole, bits, single, range, Trees, no_trees, ◌▷◌, Items, no_items, ◌▸◌}
use Rattle.p8_tree.specs.Statements.{Course, Forever, Count, Before, After, From, statement, Action, Do, If, Case, Repeat, Next, Quit, Return, Abort, arm, Otherwise, nothing_else, otherwise, Statements, no_statements, ◌▹◌, Arms, no_arms, ◌⊳◌}
use Rattle.p8_gen.specs.Names.{Names, widened}
use Rattle.p8_gen.specs.Expressions.{starts_method, count_of}
use Rattle.p8_gen.specs.Depths.{over, arguments_of, held, held_by, held_by_naming, held_by_index, held_by_trees, held_by_items, held_by_built, held_by_arguments, held_alone, held_if, held_by_test, held_by_tests, held_by_pass, held_in_loop, held_in, held_in_action, held_in_arms, held_in_cases, held_in_other}

module _ (n : Names) (f g : ℕ → Bool) where
  -- the greater of two, and of one and so many below another
  greater : {a b c d : ℕ} → a ≡ c → b ≡ d → max a b ≡ max c d
  greater x y = ap₂ max x y

  after : (k : ℕ) {a b : ℕ} → a ≡ b → k + a ≡ k + b
  after k x = ap (λ i. k + i) x

  either : (t : Bool) {a b c d : ℕ} → a ≡ c → b ≡ d → (if t then a else b) ≡ (if t then c else d)
  either true x y = x
  either false x y = y

  mutual
    value-holds : (e : Tree) → held (widened n f) e ≡ held (widened n g) e
    value-holds (node place form) = form-holds form

    form-holds : (form : Form) → held_by (widened n f) form ≡ held_by (widened n g) form
    form-holds (Var v) = greater refl (naming-holds v)
    form-holds (Call trap object i method q args) = greater refl (greater (trees-holds args) (ap (over (count_of args)) (index-holds i)))
    form-holds (Unary operator e) = value-holds e
    form-holds (Binary operator a b) = greater (value-holds a) (after 1 (value-holds b))
    form-holds (Assign v operator e) = greater (value-holds e) (after 1 (naming-holds v))
    form-holds (Change v effect) = greater refl (naming-holds v)
    form-holds (Address v) = greater refl (naming-holds v)
    form-holds (ObjectAddress e) = value-holds e
    form-holds (Built code args) = greater refl (built-holds code args)
    form-holds (Look code e xs) = greater (greater refl (value-holds e)) (items-holds xs)
    form-holds (Number v) = refl
    form-holds _ = refl

    naming-holds : (v : Variable) → held_by_naming (widened n f) v ≡ held_by_naming (widened n g) v
    naming-holds (Named name i q) = index-holds i
    naming-holds (Part name size i q) = index-holds i
    naming-holds (Memory size e i q) = greater (value-holds e) (ap (over 1) (index-holds i))
    naming-holds (Register address whole q) = refl
    naming-holds (Register address (bits (single e)) q) = value-holds e
    naming-holds (Register address (bits (range a b)) q) = greater (value-holds a) (after 1 (value-holds b))

    index-holds : (i : Index) → held_by_index (widened n f) i ≡ held_by_index (widened n g) i
    index-holds no_index = refl
    index-holds (index e) = value-holds e

    trees-holds : (es : Trees) → held_by_trees (widened n f) es ≡ held_by_trees (widened n g) es
    trees-holds no_trees = refl
    trees-holds (es ▷ e) = greater (trees-holds es) (after (count_of es) (value-holds e))

    items-holds : (xs : Items) → held_by_items (widened n f) xs ≡ held_by_items (widened n g) xs
    items-holds no_items = refl
    items-holds (xs ▸ single e) = greater (items-holds xs) (after 2 (value-holds e))
    items-holds (xs ▸ range a b) = greater (items-holds xs) (greater (after 2 (value-holds a)) (after 3 (value-holds b)))

    built-holds : (code : ℕ) (args : Trees) → held_by_built (widened n f) code args ≡ held_by_built (widened n g) code args
    built-holds code no_trees = refl
    built-holds code (no_trees ▷ e) = either (code == 0) refl (value-holds e)
    built-holds code (no_trees ▷ m ▷ s) =
        either (not (code == 0x2C)) (greater (value-holds m) (after 1 (value-holds s)))
        (either (starts_method n m) (greater (after 1 (arguments-holds m)) (after (1 + arguments_of m) (value-holds s))) (greater (after 1 (value-holds m)) (after 2 (value-holds s))))
    built-holds code (no_trees ▷ id ▷ m ▷ s) =
        either (code == 0x28 && starts_method n m)
        (greater (value-holds id) (greater (after 1 (arguments-holds m)) (after (1 + arguments_of m) (value-holds s))))
        (greater (value-holds id) (greater (after 1 (value-holds m)) (after 2 (value-holds s))))
    built-holds code (es ▷ e) = greater (trees-holds es) (after (count_of es) (value-holds e))

    arguments-holds : (m : Tree) → held_by_arguments (widened n f) m ≡ held_by_arguments (widened n g) m
    arguments-holds (node p (Call trap object i method q args)) = trees-holds args
    arguments-holds _ = refl

  alone-holds : (e : Tree) → held_alone (widened n f) e ≡ held_alone (widened n g) e
  alone-holds (node place (Call trap object i method q args)) = greater (trees-holds args) (ap (over (count_of args)) (index-holds i))
  alone-holds (node place (Assign v operator e)) = greater (value-holds e) (after 1 (naming-holds v))
  alone-holds (node place (Change v effect)) = naming-holds v
  alone-holds (node place (Built code args)) = built-holds code args
  alone-holds _ = refl

  if-holds : (e : Option Tree) → held_if (widened n f) e ≡ held_if (widened n g) e
  if-holds None = refl
  if-holds (Some e) = value-holds e

  test-holds : (xs : Items) → held_by_test (widened n f) xs ≡ held_by_test (widened n g) xs
  test-holds (no_items ▸ single e) = value-holds e
  test-holds no_items = refl
  test-holds _ = refl

  tests-holds : (xs : Items) → held_by_tests (widened n f) xs ≡ held_by_tests (widened n g) xs
  tests-holds no_items = refl
  tests-holds (xs ▸ single e) = greater (tests-holds xs) (after 1 (value-holds e))
  tests-holds (xs ▸ range a b) = greater (tests-holds xs) (greater (after 1 (value-holds a)) (after 2 (value-holds b)))

  pass-holds : (step : Option Tree) (a b : Tree) → held_by_pass (widened n f) step a b ≡ held_by_pass (widened n g) step a b
  pass-holds None a b = greater (value-holds a) (after 1 (value-holds b))
  pass-holds (Some s) a b = greater (value-holds s) (greater (after 1 (value-holds a)) (after 2 (value-holds b)))

  loop-holds : (course : Course) {i j : ℕ} → i ≡ j → held_in_loop (widened n f) course i ≡ held_in_loop (widened n g) course j
  loop-holds Forever is = is
  loop-holds (Count e) is = greater (value-holds e) (after 1 is)
  loop-holds (Before until e) is = greater (value-holds e) is
  loop-holds (After until e) is = greater (value-holds e) is
  loop-holds (From name a b step q) is = greater (value-holds a) (greater is (pass-holds step a b))

  mutual
    pub held-same : (ss : Statements) → held_in (widened n f) ss ≡ held_in (widened n g) ss
    held-same no_statements = refl
    held-same (ss ▹ statement place action) = greater (held-same ss) (action-holds action)

    action-holds : (x : Action) → held_in_action (widened n f) x ≡ held_in_action (widened n g) x
    action-holds (Do e) = alone-holds e
    action-holds (If arms other) = greater (arms-holds arms) (other-holds other)
    action-holds (Case e arms other) = greater (value-holds e) (greater (cases-holds arms) (other-holds other))
    action-holds (Repeat course ss) = loop-holds course (held-same ss)
    action-holds Next = refl
    action-holds Quit = refl
    action-holds (Return e) = if-holds e
    action-holds (Abort e) = if-holds e

    arms-holds : (x : Arms) → held_in_arms (widened n f) x ≡ held_in_arms (widened n g) x
    arms-holds no_arms = refl
    arms-holds (arms ⊳ arm items negated ss) = greater (arms-holds arms) (greater (test-holds items) (held-same ss))

    cases-holds : (x : Arms) → held_in_cases (widened n f) x ≡ held_in_cases (widened n g) x
    cases-holds no_arms = refl
    cases-holds (arms ⊳ arm items negated ss) = greater (cases-holds arms) (greater (tests-holds items) (held-same ss))

    other-holds : (x : Otherwise) → held_in_other (widened n f) x ≡ held_in_other (widened n g) x
    other-holds nothing_else = refl
    other-holds (otherwise ss) = held-same ss
