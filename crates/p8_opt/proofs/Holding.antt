-- What a method holds on the operand stack, as the code generator counts it and as the law of its code does: the law counts no more, but
-- for a LOCKNEW whose value isn't used, which it counts as one; so it is within the limit where the generator is.
use Rattle.std.proofs.Common.{◌≡◌, ℕ, suc, ◌+◌, ◌≤◌, ◌<◌, max, Bool, true, false, not, ◌&&◌, ◌==◌, if◌then◌else◌, Option, Some, None, List, [], ◌∷◌, refl, arith}
use Rattle.std.proofs.lemmas.Bool.Decides.{nat_tests}
use Rattle.std.proofs.lemmas.List.{length-append}
use Rattle.p8_tree.specs.declared.places.Place.{Place}
use Rattle.p8_tree.specs.Expressions.{Tree, node, Number, Str, Strings, Here, Var, Call, Unary, Binary, Assign, Change, Address, ObjectAddress, ObjConst, Built, Look, Variable, Named, Part, Memory, Register, Index, no_index, index, whole, bits, Item, single, range, Trees, no_trees, ◌▷◌, Items, no_items, ◌▸◌}
use Rattle.p8_tree.specs.Lists.{tree_list, count_of_trees}
use Rattle.p8_tree.specs.Statements.{Course, Forever, Count, Before, After, From, statement, Action, Do, If, Case, Repeat, Next, Quit, Return, Abort, arm, Otherwise, nothing_else, otherwise, Statements, no_statements, ◌▹◌, Arms, no_arms, ◌⊳◌}
use Rattle.p8_tree.specs.Proper.{IsDone, IsProperAction, AreProperArms, AreProperChoices, IsProperOtherwise, AreProperStatements, IsCondition}
use Rattle.p8_tree.specs.Nesting as nesting
use Rattle.p8_gen.specs.Names.{Names}
use Rattle.p8_gen.specs.Expressions.{count_of, starts_method, is_method}
use Rattle.p8_gen.specs.Depths.{over, arguments_of, held, held_by_naming, held_by_index, held_by_bits, held_by_trees, held_by_items, held_by_built, held_by_arguments, held_alone, held_if, held_by_test, held_by_tests, held_by_pass, held_in_loop, held_in, held_in_action, held_in_arms, held_in_cases, held_in_other}
use Rattle.p8_compiled.specs.Depths as law

-- ---- numbers

over-some : (t : Bool) (b a : ℕ) → (a == 0) ≡ t → 1 ≤ a → (if t then 0 else b + a) ≡ b + a
over-some true b a is some = absurd (grind (arith, nat_tests))
over-some false b a is some = refl

over-is : (b a : ℕ) → 1 ≤ a → over b a ≡ b + a
over-is b a some = over-some (a == 0) b a refl some

most : (a b n : ℕ) → a ≤ n → b ≤ n → max a b ≤ n
most a b n f g = omega (arith, f, g)

both : (a b c d : ℕ) → a ≤ c → b ≤ d → max a b ≤ max c d
both a b c d f g = omega (arith, f, g)

counts : (es : Trees) → count_of_trees es ≡ count_of es
counts no_trees = refl
counts (es ▷ e) = let n = length-append (tree_list es) (e ∷ []) in omega (arith, n, counts es)

choice : (t : Bool) (a b c d : ℕ) → a ≤ c → b ≤ d → (if t then a else b) ≤ (if t then c else d)
choice true a b c d f g = f
choice false a b c d f g = g

-- where a name that is started is that of a method, it is so for both
started : (t u : Bool) (a b c d : ℕ) → t ≡ u → a ≤ c → b ≤ d → (if t then a else b) ≤ (if u then c else d)
started true true a b c d is f g = f
started true false a b c d is f g = absurd (cc)
started false true a b c d is f g = absurd (cc)
started false false a b c d is f g = g

one-of : (t : Bool) (a b : ℕ) → a ≤ b → 1 ≤ b → (if t then 1 else max 1 a) ≤ max 1 (if t then 1 else b)
one-of true a b f g = omega arith
one-of false a b f g = omega (arith, f)

two-of : (t u : Bool) (x a b c d g h : ℕ) → x ≤ (if u then max g (h + d) else max c (1 + d)) → a ≤ c → b ≤ d
    → (if t then 1 + x else max 1 (max a (1 + b))) ≤ max 1 (if not t then max c (1 + d) else if u then max (1 + g) (1 + h + d) else max (1 + c) (2 + d))
two-of true true x a b c d g h begun first second = omega (arith, begun)
two-of true false x a b c d g h begun first second = omega (arith, begun)
two-of false u x a b c d g h begun first second = omega (arith, first, second)

three-of : (t u : Bool) (x a b c p q r i j : ℕ) → x ≤ (if u then max i (j + r) else max q (1 + r)) → a ≤ p → b ≤ q → c ≤ r
    → (if t then max a (1 + x) else max a (max (1 + b) (2 + c))) ≤ max 1 (if t && u then max p (max (1 + i) (1 + j + r)) else max p (max (1 + q) (2 + r)))
three-of true true x a b c p q r i j begun first second third = omega (arith, begun, first)
three-of true false x a b c p q r i j begun first second third = omega (arith, begun, first)
three-of false u x a b c p q r i j begun first second third = omega (arith, first, second, third)

module _ (names : Names) (m : List ℕ → Bool) (same : (name : List ℕ) → m name ≡ is_method (names.kind name)) where
  -- what is begun, by the generator's count
  abbrev begins : (e : Tree) (first second : ℕ) → ℕ
  begins e first second = if starts_method names e then max (held_by_arguments names e) (arguments_of e + second) else max first (1 + second)

  mutual
    some : (e : Tree) → 1 ≤ held names e
    some (node p (Number n)) = omega arith
    some (node p (Str text)) = omega arith
    some (node p (Strings es)) = omega arith
    some (node p Here) = omega arith
    some (node p (Var v)) = omega arith
    some (node p (Call stops object i name q args)) = omega arith
    some (node p (Unary operator e)) = some e
    some (node p (Binary operator a b)) = omega (arith, some a)
    some (node p (Assign v operator e)) = omega (arith, some e)
    some (node p (Change v effect)) = omega arith
    some (node p (Address v)) = omega arith
    some (node p (ObjectAddress e)) = some e
    some (node p (ObjConst object name q)) = omega arith
    some (node p (Built code args)) = omega arith
    some (node p (Look code e xs)) = omega arith

  enough : (es : Trees) → count_of es ≤ held_by_trees names es
  enough no_trees = omega arith
  enough (es ▷ e) = omega (arith, some e)

  mutual
    deep : (e : Tree) → law.depth m e ≤ held names e
    deep (node p (Number n)) = omega arith
    deep (node p (Str text)) = omega arith
    deep (node p (Strings es)) = omega arith
    deep (node p Here) = omega arith
    deep (node p (Var v)) = both 1 (law.names_depth m v) 1 (held_by_naming names v) (omega arith) (deep-naming v)
    deep (node p (Call stops object no_index name q args)) =
        both 1 _ 1 _ (omega arith) (most (law.trees_depth m args) (count_of_trees args + 0) _ (omega (arith, deep-trees args)) (omega (arith, counts args, enough args)))
    deep (node p (Call stops object (index i) name q args)) =
        let o = over-is (count_of args) (held names i) (some i) in
        both 1 _ 1 _ (omega arith) (both (law.trees_depth m args) (count_of_trees args + law.depth m i) (held_by_trees names args) (over (count_of args) (held names i)) (deep-trees args) (omega (arith, o, counts args, deep i)))
    deep (node p (Unary operator e)) = most 1 (law.depth m e) (held names e) (some e) (deep e)
    deep (node p (Binary operator a b)) = both (law.depth m a) (1 + law.depth m b) (held names a) (1 + held names b) (deep a) (omega (arith, deep b))
    deep (node p (Assign v operator e)) = both (law.depth m e) (1 + law.names_depth m v) (held names e) (1 + held_by_naming names v) (deep e) (omega (arith, deep-naming v))
    deep (node p (Change v effect)) = both 1 (law.names_depth m v) 1 (held_by_naming names v) (omega arith) (deep-naming v)
    deep (node p (Address v)) = both 1 (law.names_depth m v) 1 (held_by_naming names v) (omega arith) (deep-naming v)
    deep (node p (ObjectAddress e)) = most 1 (law.depth m e) (held names e) (some e) (deep e)
    deep (node p (ObjConst object name q)) = omega arith
    deep (node p (Built code args)) = most 1 (law.built_depth m code args) (max 1 (held_by_built names code args)) (omega arith) (deep-built code args)
    deep (node p (Look code e xs)) = omega (arith, deep e, deep-items xs)

    deep-naming : (v : Variable) → law.names_depth m v ≤ held_by_naming names v
    deep-naming (Named name i q) = deep-index i
    deep-naming (Part name size i q) = deep-index i
    deep-naming (Memory size e no_index q) = most (law.depth m e) (1 + 0) _ (omega (arith, deep e)) (omega (arith, some e))
    deep-naming (Memory size e (index i) q) =
        let o = over-is 1 (held names i) (some i) in
        both (law.depth m e) (1 + law.depth m i) (held names e) (over 1 (held names i)) (deep e) (omega (arith, o, deep i))
    deep-naming (Register address whole q) = omega arith
    deep-naming (Register address (bits x) q) = deep-item x

    deep-item : (x : Item) → law.item_depth m x ≤ held_by_bits names (bits x)
    deep-item (single e) = deep e
    deep-item (range a b) = both (law.depth m a) (1 + law.depth m b) (held names a) (1 + held names b) (deep a) (omega (arith, deep b))

    deep-index : (i : Index) → law.index_depth m i ≤ held_by_index names i
    deep-index no_index = omega arith
    deep-index (index e) = deep e

    deep-trees : (es : Trees) → law.trees_depth m es ≤ held_by_trees names es
    deep-trees no_trees = omega arith
    deep-trees (es ▷ e) =
        both (law.trees_depth m es) (count_of_trees es + law.depth m e) (held_by_trees names es) (count_of es + held names e) (deep-trees es) (omega (arith, counts es, deep e))

    -- after the value and the count of a LOOK function
    deep-items : (xs : Items) → 2 + law.items_depth m xs ≤ max 2 (held_by_items names xs)
    deep-items no_items = omega arith
    deep-items (xs ▸ single e) = omega (arith, deep-items xs, deep e)
    deep-items (xs ▸ range a b) = omega (arith, deep-items xs, deep a, deep b)

    deep-built : (code : ℕ) (args : Trees) → law.built_depth m code args ≤ max 1 (held_by_built names code args)
    deep-built code no_trees = omega arith
    deep-built code (no_trees ▷ e) = one-of (code == 0) (law.depth m e) (held names e) (deep e) (some e)
    deep-built code (no_trees ▷ e ▷ f) =
        two-of (code == 0x2C) (starts_method names e) (law.begun_depth m e (law.depth m e) (law.depth m f)) (law.depth m e) (law.depth m f) (held names e) (held names f) (held_by_arguments names e) (arguments_of e) (deep-begun e f (deep e) (deep f)) (deep e) (deep f)
    deep-built code (no_trees ▷ e ▷ f ▷ g) =
        three-of (code == 0x28) (starts_method names f) (law.begun_depth m f (law.depth m f) (law.depth m g)) (law.depth m e) (law.depth m f) (law.depth m g) (held names e) (held names f) (held names g) (held_by_arguments names f) (arguments_of f) (deep-begun f g (deep f) (deep g)) (deep e) (deep f) (deep g)
    deep-built code (es ▷ d ▷ e ▷ f ▷ g) = omega arith

    deep-begun : (e f : Tree) → law.depth m e ≤ held names e → law.depth m f ≤ held names f → law.begun_depth m e (law.depth m e) (law.depth m f) ≤ begins e (held names e) (held names f)
    deep-begun (node p (Call false None i name q args)) f de df =
        both (law.trees_depth m args) (count_of_trees args + law.depth m f) (held_by_trees names args) (count_of args + held names f) (deep-trees args) (omega (arith, counts args, df))
    deep-begun (node p (Call true None i name q args)) f de df = omega (arith, de, df)
    deep-begun (node p (Call false (Some object) i name q args)) f de df = omega (arith, de, df)
    deep-begun (node p (Call true (Some object) i name q args)) f de df = omega (arith, de, df)
    deep-begun (node p (Var (Named name no_index q))) f de df =
        started (m name) (is_method (names.kind name)) _ _ _ _ (same name) (omega (arith, df)) (omega (arith, de, df))
    deep-begun (node p (Var (Named name (index e) q))) f de df = omega (arith, de, df)
    deep-begun (node p (Var (Part name size i q))) f de df = omega (arith, de, df)
    deep-begun (node p (Var (Memory size e i q))) f de df = omega (arith, de, df)
    deep-begun (node p (Var (Register address x q))) f de df = omega (arith, de, df)
    deep-begun (node p (Number n)) f de df = omega (arith, de, df)
    deep-begun (node p (Str text)) f de df = omega (arith, de, df)
    deep-begun (node p (Strings es)) f de df = omega (arith, de, df)
    deep-begun (node p Here) f de df = omega (arith, de, df)
    deep-begun (node p (Unary operator e)) f de df = omega (arith, de, df)
    deep-begun (node p (Binary operator a b)) f de df = omega (arith, de, df)
    deep-begun (node p (Assign v operator e)) f de df = omega (arith, de, df)
    deep-begun (node p (Change v effect)) f de df = omega (arith, de, df)
    deep-begun (node p (Address v)) f de df = omega (arith, de, df)
    deep-begun (node p (ObjectAddress e)) f de df = omega (arith, de, df)
    deep-begun (node p (ObjConst object name q)) f de df = omega (arith, de, df)
    deep-begun (node p (Built code args)) f de df = omega (arith, de, df)
    deep-begun (node p (Look code e xs)) f de df = omega (arith, de, df)

  -- ---- statements: a LOCKNEW alone counts one more, and below it lies no more than a count for each REPEAT around it

  alone : (e : Tree) → IsDone e → law.act_depth m e ≤ max 1 (held_alone names e)
  alone (node p (Var v)) done = omega arith
  alone (node p (Call stops object no_index name q args)) done = omega (arith, deep-trees args, counts args, enough args)
  alone (node p (Call stops object (index i) name q args)) done =
      let o = over-is (count_of args) (held names i) (some i) in omega (arith, o, deep-trees args, counts args, deep i)
  alone (node p (Change v effect)) done = omega (arith, deep-naming v)
  alone (node p (Assign v operator e)) done = omega (arith, deep e, deep-naming v)
  alone (node p (Built code args)) done = most 1 (law.built_depth m code args) (max 1 (held_by_built names code args)) (omega arith) (deep-built code args)
  alone (node p (Number n)) done = absurd done.0
  alone (node p (Str text)) done = absurd done.0
  alone (node p (Strings es)) done = absurd done.0
  alone (node p Here) done = absurd done.0
  alone (node p (Unary operator e)) done = absurd done.0
  alone (node p (Binary operator a b)) done = absurd done.0
  alone (node p (Address v)) done = absurd done.0
  alone (node p (ObjectAddress e)) done = absurd done.0
  alone (node p (ObjConst object name q)) done = absurd done.0
  alone (node p (Look code e xs)) done = absurd done.0

  if-there : (e : Option Tree) → law.value_depth m e ≤ held_if names e
  if-there None = omega arith
  if-there (Some e) = deep e

  tested : (xs : Items) → IsCondition xs → law.items_depth m xs ≤ held_by_test names xs
  tested no_items is = absurd is
  tested (no_items ▸ single e) is = omega (arith, deep e)
  tested (no_items ▸ range a b) is = absurd is
  tested (xs ▸ x ▸ single e) is = absurd is
  tested (xs ▸ x ▸ range a b) is = absurd is

  choices : (xs : Items) → 1 + law.items_depth m xs ≤ max 1 (held_by_tests names xs)
  choices no_items = omega arith
  choices (xs ▸ single e) = omega (arith, choices xs, deep e)
  choices (xs ▸ range a b) = omega (arith, choices xs, deep a, deep b)

  ends : (a b : Tree) (step : Option Tree) → law.ends_depth m a b step ≤ held_by_pass names step a b
  ends a b None = omega (arith, deep a, deep b)
  ends a b (Some e) = omega (arith, deep a, deep b, deep e)

  looped : (course : Course) (body inner n : ℕ) → body ≤ max inner (suc n) → max (law.course_depth m course) (law.held_by course + body) ≤ max (held_in_loop names course inner) (suc (suc n))
  looped Forever body inner n f = omega (arith, f)
  looped (Count e) body inner n f = omega (arith, f, deep e)
  looped (Before until e) body inner n f = omega (arith, f, deep e)
  looped (After until e) body inner n f = omega (arith, f, deep e)
  looped (From name a b step q) body inner n f = omega (arith, f, deep a, ends a b step)

  mutual
    in-body : (ss : Statements) → AreProperStatements ss → law.body_depth m ss ≤ max (held_in names ss) (suc (nesting.depth ss))
    in-body no_statements proper = omega arith
    in-body (ss ▹ statement p a) proper = omega (arith, in-body ss proper.0, in-action p a proper.1)

    in-action : (p : Place) (a : Action) → IsProperAction a → law.statement_depth m (statement p a) ≤ max (held_in_action names a) (suc (nesting.action_depth a))
    in-action p (Do e) proper = omega (arith, alone e proper)
    in-action p (If arms other) proper = omega (arith, in-arms arms proper.1, in-other other proper.2)
    in-action p (Case e arms other) proper = omega (arith, deep e, some e, in-choices arms proper.1, in-other other proper.2)
    in-action p (Repeat course ss) proper = looped course (law.body_depth m ss) (held_in names ss) (nesting.depth ss) (in-body ss proper.1)
    in-action p Next proper = omega arith
    in-action p Quit proper = omega arith
    in-action p (Return e) proper = omega (arith, if-there e)
    in-action p (Abort e) proper = omega (arith, if-there e)

    in-other : (o : Otherwise) → IsProperOtherwise o → law.other_depth m o ≤ max (held_in_other names o) (suc (nesting.other_depth o))
    in-other nothing_else proper = omega arith
    in-other (otherwise ss) proper = omega (arith, in-body ss proper)

    in-arms : (xs : Arms) → AreProperArms xs → law.chain_depth m xs ≤ max (held_in_arms names xs) (suc (nesting.arms_depth xs))
    in-arms no_arms proper = omega arith
    in-arms (xs ⊳ arm items negated ss) proper = omega (arith, in-arms xs proper.0, tested items proper.1.0, in-body ss proper.1.1)

    in-choices : (xs : Arms) → AreProperChoices xs → law.arms_depth m xs ≤ max (held_in_cases names xs) (suc (nesting.arms_depth xs))
    in-choices no_arms proper = omega arith
    in-choices (xs ⊳ arm items negated ss) proper = omega (arith, in-choices xs proper.0, choices items, in-body ss proper.1.3)

  -- a method's body that the generator lets through is within the limit
  pub within : (ss : Statements) → AreProperStatements ss → nesting.depth ss < 64 → held_in names ss ≤ 128 → law.body_depth m ss ≤ 128
  within ss proper shallow fits = omega (arith, in-body ss proper, shallow, fits)
