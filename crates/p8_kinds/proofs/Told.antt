-- What the code computes is the first fault of each part: by induction over trees, a line for each form.
use Rattle.std.proofs.Common.{◌≡◌, ◌⊎◌, inl, inr, ℕ, Bool, true, false, Option, Some, None, refl}
use Rattle.p8_tree.specs.Faults.{IsFirstFault, first_of_two}
use Rattle.std.specs.Prelude.{MatchOption, if◌then◌else◌, not, IsTrue, List}
use Rattle.p8_tree.specs.declared.places.Place.{Place}
use Rattle.p8_tree.specs.Expressions.{Tree, node, Form, Number, Str, Strings, Here, Var, Call, Unary, Binary, Assign, Change, Address, ObjectAddress, ObjConst, Built, Look, Variable, Named, Part, Memory, Register, Index, no_index, index, Bits, whole, bits, Item, single, range, Trees, no_trees, ◌▷◌, Items, no_items, ◌▸◌}
use Rattle.p8_tree.specs.Statements.{Course, Forever, Count, Before, After, From, Statement, statement, Action, Do, If, Case, Repeat, Next, Quit, Return, Abort, Arm, arm, Otherwise, nothing_else, otherwise, Statements, no_statements, ◌▹◌, Arms, no_arms, ◌⊳◌}
use Rattle.p8_tree.specs.declared.faults.Fault.{Fault}
use Rattle.p8_fold.specs.Values.{FaultInTrees, FaultInText}
use Rattle.p8_fold.specs.Verdicts as verdicts
use Rattle.p8_fold.proofs.Judging.{Tells, tells, two_told, own_told}
use Rattle.p8_fold.proofs.Judged as judged
use Rattle.p8_kinds.specs.declared.uses.Use.TheVariants as used
use Rattle.p8_kinds.specs.Environments.{Environment, kind_in}
use Rattle.p8_kinds.specs.Misuses.{Rule, in_method, misuse, name_alone, BrokenIn, BrokenInside, BrokenInVariable, BrokenInIndex, BrokenInBits, BrokenInItem, BrokenInTrees, BrokenInItems, MisuseDone, MisuseInOption, MisuseInCourse, MisuseInStatements, MisuseInStatement, MisuseInAction, MisuseInArm, MisuseInOtherwise, MisuseInArms}
use Rattle.p8_kinds.specs.FirstMisuses.{first_in, first_inside, first_in_variable, first_in_index, first_in_bits, first_in_item, first_in_trees, first_in_items, first_done, first_in_option, first_in_course, first_in_statements, first_in_statement, first_in_action, first_in_arm, first_in_otherwise, first_in_arms}

-- the same in the words of contracts
pub as_match : (S : Fault → Type 0) (o : Option Fault) → Tells o S → MatchOption o ((f : Fault) → ¬ S f) (IsFirstFault S)
as_match S None t = t
as_match S (Some f) t = t

-- the arguments of a built-in, by one rule or the other
first_rule : {A B : Type 0} → (IsTrue true × A) ⊎ (IsTrue (not true) × B) → A
first_rule (inl a) = a.1
first_rule (inr b) = let no : false ≡ true = b.0 in absurd cc

second_rule : {A B : Type 0} → (IsTrue false × A) ⊎ (IsTrue (not false) × B) → B
second_rule (inl a) = let no : false ≡ true = a.0 in absurd cc
second_rule (inr b) = b.1

built_told : (S T : Fault → Type 0) (b : Bool) (o p : Option Fault) → Tells o S → Tells p T → Tells (if b then o else p) (λ x. (IsTrue b × S x) ⊎ (IsTrue (not b) × T x))
built_told S T true o p s t = tells S (λ x. (IsTrue true × S x) ⊎ (IsTrue (not true) × T x)) o (λ x a. inl (refl, a)) (λ x. first_rule) s
built_told S T false o p s t = tells T (λ x. (IsTrue false × S x) ⊎ (IsTrue (not false) × T x)) p (λ x a. inr (refl, a)) (λ x. second_rule) t

mutual
  pub told : (r : Rule) (e : Tree) → Tells (first_in r e) (BrokenIn r e)
  told r (node p form) = two_told (λ x. r.own p form ≡ Some x) (BrokenInside r form) (r.own p form) (first_inside r form) (own_told (r.own p form)) (told_inside r form)

  told_inside : (r : Rule) (form : Form) → Tells (first_inside r form) (BrokenInside r form)
  told_inside r (Number n) = λ x b. b
  told_inside r (Str text) = λ x b. b
  told_inside r (Strings items) =
      built_told (FaultInText r.constants items) (BrokenInTrees r items) (r.is_constant 0) (verdicts.first_in_text r.constants items) (first_in_trees r items) (judged.in_text r.constants items) (told_trees r items)
  told_inside r Here = λ x b. b
  told_inside r (Var v) = told_variable r v
  told_inside r (Address v) = told_variable r v
  told_inside r (Call trap object i method place args) = two_told (BrokenInIndex r i) (BrokenInTrees r args) (first_in_index r i) (first_in_trees r args) (told_index r i) (told_trees r args)
  told_inside r (Unary operator e) = told r e
  told_inside r (Binary operator a b) = two_told (BrokenIn r a) (BrokenIn r b) (first_in r a) (first_in r b) (told r a) (told r b)
  told_inside r (Assign v operator e) = two_told (BrokenInVariable r v) (BrokenIn r e) (first_in_variable r v) (first_in r e) (told_variable r v) (told r e)
  told_inside r (Change v effect) = told_variable r v
  told_inside r (ObjectAddress e) = told r e
  told_inside r (ObjConst object name place) = λ x b. b
  told_inside r (Built code args) =
      built_told (FaultInTrees r.constants args) (BrokenInTrees r args) (r.is_constant code) (verdicts.first_in_trees r.constants args) (first_in_trees r args) (judged.in_trees r.constants args) (told_trees r args)
  told_inside r (Look code e xs) = two_told (BrokenIn r e) (BrokenInItems r xs) (first_in r e) (first_in_items r xs) (told r e) (told_items r xs)

  told_variable : (r : Rule) (v : Variable) → Tells (first_in_variable r v) (BrokenInVariable r v)
  told_variable r (Named name i place) = told_index r i
  told_variable r (Part name size i place) = told_index r i
  told_variable r (Memory size e i place) = two_told (BrokenIn r e) (BrokenInIndex r i) (first_in r e) (first_in_index r i) (told r e) (told_index r i)
  told_variable r (Register address x place) = told_bits r x

  told_index : (r : Rule) (i : Index) → Tells (first_in_index r i) (BrokenInIndex r i)
  told_index r no_index = λ x b. b
  told_index r (index e) = told r e

  told_bits : (r : Rule) (x : Bits) → Tells (first_in_bits r x) (BrokenInBits r x)
  told_bits r whole = λ x b. b
  told_bits r (bits x) = told_item r x

  told_item : (r : Rule) (x : Item) → Tells (first_in_item r x) (BrokenInItem r x)
  told_item r (single e) = told r e
  told_item r (range a b) = two_told (BrokenIn r a) (BrokenIn r b) (first_in r a) (first_in r b) (told r a) (told r b)

  told_trees : (r : Rule) (es : Trees) → Tells (first_in_trees r es) (BrokenInTrees r es)
  told_trees r no_trees = λ x b. b
  told_trees r (es ▷ e) = two_told (BrokenInTrees r es) (BrokenIn r e) (first_in_trees r es) (first_in r e) (told_trees r es) (told r e)

  told_items : (r : Rule) (xs : Items) → Tells (first_in_items r xs) (BrokenInItems r xs)
  told_items r no_items = λ x b. b
  told_items r (xs ▸ x) = two_told (BrokenInItems r xs) (BrokenInItem r x) (first_in_items r xs) (first_in_item r x) (told_items r xs) (told_item r x)

-- ---- statements

told_done : (env : Environment) (name : Option (List ℕ × Place)) (e : Tree) → Tells (first_done env name e) (MisuseDone env name e)
told_done env (Some called) e = own_told (misuse (used.Method 0) (kind_in env called.0) called.1)
told_done env None e = told (in_method env) e

told_option : (env : Environment) (e : Option Tree) → Tells (first_in_option env e) (MisuseInOption env e)
told_option env None = λ x b. b
told_option env (Some e) = told (in_method env) e

told_course : (env : Environment) (c : Course) → Tells (first_in_course env c) (MisuseInCourse env c)
told_course env Forever = λ x b. b
told_course env (Count e) = told (in_method env) e
told_course env (Before until e) = told (in_method env) e
told_course env (After until e) = told (in_method env) e
told_course env (From name a b step place) =
    let counter = misuse used.Variable (kind_in env name) place in
    let r = in_method env in
    two_told (λ x. counter ≡ Some x) (λ x. (BrokenIn r a x ⊎ BrokenIn r b x) ⊎ MisuseInOption env step x) counter (first_of_two (first_of_two (first_in r a) (first_in r b)) (first_in_option env step)) (own_told counter)
    (two_told (λ x. BrokenIn r a x ⊎ BrokenIn r b x) (MisuseInOption env step) (first_of_two (first_in r a) (first_in r b)) (first_in_option env step)
    (two_told (BrokenIn r a) (BrokenIn r b) (first_in r a) (first_in r b) (told r a) (told r b)) (told_option env step))

mutual
  pub told_statements : (env : Environment) (ss : Statements) → Tells (first_in_statements env ss) (MisuseInStatements env ss)
  told_statements env no_statements = λ x b. b
  told_statements env (ss ▹ s) = two_told (MisuseInStatements env ss) (MisuseInStatement env s) (first_in_statements env ss) (first_in_statement env s) (told_statements env ss) (told_statement env s)

  told_statement : (env : Environment) (s : Statement) → Tells (first_in_statement env s) (MisuseInStatement env s)
  told_statement env (statement p action) = told_action env action

  told_action : (env : Environment) (a : Action) → Tells (first_in_action env a) (MisuseInAction env a)
  told_action env (Do e) = told_done env (name_alone e) e
  told_action env (If arms rest) = two_told (MisuseInArms env arms) (MisuseInOtherwise env rest) (first_in_arms env arms) (first_in_otherwise env rest) (told_arms env arms) (told_otherwise env rest)
  told_action env (Case e arms rest) =
      two_told (λ x. BrokenIn (in_method env) e x ⊎ MisuseInArms env arms x) (MisuseInOtherwise env rest) (first_of_two (first_in (in_method env) e) (first_in_arms env arms)) (first_in_otherwise env rest)
      (two_told (BrokenIn (in_method env) e) (MisuseInArms env arms) (first_in (in_method env) e) (first_in_arms env arms) (told (in_method env) e) (told_arms env arms)) (told_otherwise env rest)
  told_action env (Repeat course ss) = two_told (MisuseInCourse env course) (MisuseInStatements env ss) (first_in_course env course) (first_in_statements env ss) (told_course env course) (told_statements env ss)
  told_action env Next = λ x b. b
  told_action env Quit = λ x b. b
  told_action env (Return e) = told_option env e
  told_action env (Abort e) = told_option env e

  told_arm : (env : Environment) (x : Arm) → Tells (first_in_arm env x) (MisuseInArm env x)
  told_arm env (arm tests negated ss) = two_told (BrokenInItems (in_method env) tests) (MisuseInStatements env ss) (first_in_items (in_method env) tests) (first_in_statements env ss) (told_items (in_method env) tests) (told_statements env ss)

  told_otherwise : (env : Environment) (o : Otherwise) → Tells (first_in_otherwise env o) (MisuseInOtherwise env o)
  told_otherwise env nothing_else = λ x b. b
  told_otherwise env (otherwise ss) = told_statements env ss

  told_arms : (env : Environment) (xs : Arms) → Tells (first_in_arms env xs) (MisuseInArms env xs)
  told_arms env no_arms = λ x b. b
  told_arms env (xs ⊳ x) = two_told (MisuseInArms env xs) (MisuseInArm env x) (first_in_arms env xs) (first_in_arm env x) (told_arms env xs) (told_arm env x)
