-- What is wrong with the uses of names, by two environments that say the same.
use Rattle.std.proofs.Common.{◌≡◌, ◌⊎◌, inl, inr, ℕ, true, false, not, ◌==◌, List, Option, Some, None, refl, sym, ap, ◌∙◌}
use Rattle.std.specs.Prelude.{IsTrue, is_some}
use Rattle.p8_tree.specs.declared.places.Place.{Place}
use Rattle.p8_tree.specs.Expressions.{Tree, node, Form, Number, Str, Strings, Here, Var, Call, Unary, Binary, Assign, Change, Address, ObjectAddress, ObjConst, Built, Look, Variable, Named, Part, Memory, Register, Index, no_index, index, Bits, whole, bits, Item, single, range, Trees, no_trees, ◌▷◌, Items, no_items, ◌▸◌}
use Rattle.p8_tree.specs.Statements.{Course, Forever, Count, Before, After, From, statement, Action, Do, If, Case, Repeat, Next, Quit, Return, Abort, arm, Otherwise, nothing_else, otherwise, Statements, no_statements, ◌▹◌, Arms, no_arms, ◌⊳◌}
use Rattle.p8_tree.specs.Lists.{count_of_trees}
use Rattle.p8_tree.specs.declared.faults.Fault.{Fault}
use Rattle.p8_tree.specs.Faults.{fault}
use Rattle.p8_tree.specs.declared.refusal.Refusal.TheVariants.{Unknown}
use Rattle.p8_fold.specs.Values.{FaultIn, FaultInTrees, FaultOfItem, FaultInText, fault_of_character, string_of, where_so, HasValue, IsRefused}
use Rattle.p8_fold.proofs.Judged.{one_outcome}
use Rattle.p8_kinds.specs.declared.name_kinds.NameKind.{NameKind}
use Rattle.p8_kinds.specs.declared.name_kinds.NameKind.TheVariants as kind_case
use Rattle.p8_kinds.specs.declared.uses.Use.{Use}
use Rattle.p8_kinds.specs.declared.uses.Use.TheVariants as used
use Rattle.p8_kinds.specs.Environments.{Environment, kind_in}
use Rattle.p8_kinds.specs.Misuses.{misuse, misuse_behind, misuse_of_constant, misuse_of_variable, misuse_of_value, misuse_of_call, own_misuse, in_method, BrokenIn, BrokenInside, BrokenInVariable, BrokenInIndex, BrokenInBits, BrokenInItem, BrokenInTrees, BrokenInItems, name_alone, MisuseDone, MisuseInOption, MisuseInCourse, MisuseInStatements, MisuseInAction, MisuseInOtherwise, MisuseInArms}
use Rattle.p8_opt.proofs.Alike.{Alike, value-alike}

-- where there is a fault of one kind, there is one of the other
abbrev pub Moves : (P Q : Fault → Type 0) → Type 0
Moves P Q = (f : Fault) → P f → (g : Fault) × Q g

both : {A B C D : Fault → Type 0} → Moves A C → Moves B D → Moves (λ f. A f ⊎ B f) (λ f. C f ⊎ D f)
both a b f (inl x) = let h = a f x in (h.0, inl h.1)
both a b f (inr y) = let h = b f y in (h.0, inr h.1)

nothing-there : {Q : Fault → Type 0} → Moves (λ f. ⊥) Q
nothing-there f b = absurd b

-- two environments that say the same of each name
pub record SaySame (d e : Environment) : Type 0 where
  pub kinds : (name : List ℕ) → kind_in d name ≡ kind_in e name
  pub publics : (item : ℕ) (name : List ℕ) → d.public item name ≡ e.public item name
  pub values : Alike d.constants e.constants
  pub constants : (object name : List ℕ) (item position count : ℕ) → kind_in d object ≡ Some (kind_case.Object item position count) → is_some (d.constants.constant object name) ≡ is_some (e.constants.constant object name)

module _ (d e : Environment) (same : SaySame d e) where
  variable-same : (v : Variable) → misuse_of_variable d v ≡ misuse_of_variable e v
  variable-same (Named name i place) = ap (λ k. misuse used.Variable k place) (same.kinds name)
  variable-same (Part name size i place) = ap (λ k. misuse used.Variable k place) (same.kinds name)
  variable-same (Memory size x i place) = refl
  variable-same (Register address x place) = refl

  value-same : (v : Variable) → misuse_of_value d v ≡ misuse_of_value e v
  value-same (Named name no_index place) = ap (λ k. misuse used.Value k place) (same.kinds name)
  value-same (Named name (index x) place) = variable-same (Named name (index x) place)
  value-same (Part name size i place) = variable-same (Part name size i place)
  value-same (Memory size x i place) = refl
  value-same (Register address x place) = refl

  behind-same : (k : Option NameKind) (method : List ℕ) (n : ℕ) (p q : Place) → misuse_behind d k method n p q ≡ misuse_behind e k method n p q
  behind-same None method n p q = refl
  behind-same (Some (kind_case.Const v)) method n p q = refl
  behind-same (Some (kind_case.Global size offset)) method n p q = refl
  behind-same (Some (kind_case.Local offset)) method n p q = refl
  behind-same (Some (kind_case.Label size)) method n p q = refl
  behind-same (Some (kind_case.Method number params)) method n p q = refl
  behind-same (Some (kind_case.Object item position count)) method n p q = ap (λ k. misuse (used.Method n) k q) (same.publics item method)

  call-same : (object : Option (List ℕ)) (method : List ℕ) (n : ℕ) (p q : Place) → misuse_of_call d object method n p q ≡ misuse_of_call e object method n p q
  call-same None method n p q = ap (λ k. misuse (used.Method n) k q) (same.kinds method)
  call-same (Some object) method n p q = behind-same (kind_in d object) method n p q ∙ ap (λ k. misuse_behind e k method n p q) (same.kinds object)

  constant-same : (k : Option NameKind) (object name : List ℕ) (p q : Place) → kind_in d object ≡ k → misuse_of_constant d k object name p q ≡ misuse_of_constant e k object name p q
  constant-same None object name p q is = refl
  constant-same (Some (kind_case.Const v)) object name p q is = refl
  constant-same (Some (kind_case.Global size offset)) object name p q is = refl
  constant-same (Some (kind_case.Local offset)) object name p q is = refl
  constant-same (Some (kind_case.Label size)) object name p q is = refl
  constant-same (Some (kind_case.Method number params)) object name p q is = refl
  constant-same (Some (kind_case.Object item position count)) object name p q is = ap (λ b. where_so (not b) (fault Unknown q)) (same.constants object name item position count is)

  own-same : (p : Place) (form : Form) → own_misuse d p form ≡ own_misuse e p form
  own-same p (Number n) = refl
  own-same p (Str text) = refl
  own-same p (Strings es) = refl
  own-same p Here = refl
  own-same p (Var v) = value-same v
  own-same p (Call trap object i method place args) = call-same object method (count_of_trees args) p place
  own-same p (Unary operator x) = refl
  own-same p (Binary operator x y) = refl
  own-same p (Assign v operator x) = variable-same v
  own-same p (Change v effect) = variable-same v
  own-same p (Address v) = variable-same v
  own-same p (ObjectAddress x) = refl
  own-same p (ObjConst object name place) =
      constant-same (kind_in d object) object name p place refl ∙ ap (λ k. misuse_of_constant e k object name p place) (same.kinds object)
  own-same p (Built code args) = refl
  own-same p (Look code x xs) = refl

  -- a fault of a constant expression
  by-outcome : (x : Tree) → HasValue d.constants x ⊎ IsRefused d.constants x → HasValue e.constants x ⊎ IsRefused e.constants x → Moves (FaultIn d.constants x) (FaultIn e.constants x)
  by-outcome x (inl h) o f b = absurd (h.clean f b)
  by-outcome x (inr r) (inr s) f b = (s.first, s.told.holds)
  by-outcome x (inr r) (inl h) f b = absurd (let never : None ≡ Some h.number = sym r.none ∙ value-alike d.constants e.constants same.values x ∙ h.is in cc)

  constant-moves : (x : Tree) → Moves (FaultIn d.constants x) (FaultIn e.constants x)
  constant-moves x = by-outcome x (one_outcome d.constants x) (one_outcome e.constants x)

  constants-move : (xs : Trees) → Moves (FaultInTrees d.constants xs) (FaultInTrees e.constants xs)
  constants-move no_trees = nothing-there
  constants-move (xs ▷ x) = both (constants-move xs) (constant-moves x)

  -- a fault of the items of STRING
  item-moves : (text : Option (List ℕ)) (x : Tree) → Moves (FaultOfItem d.constants text x) (FaultOfItem e.constants text x)
  item-moves (Some text) x = nothing-there
  item-moves None (node p form) = both (λ f is. (f, ap (λ v. fault_of_character v p) (sym (value-alike d.constants e.constants same.values (node p form))) ∙ is)) (constant-moves (node p form))

  text-moves : (xs : Trees) → Moves (FaultInText d.constants xs) (FaultInText e.constants xs)
  text-moves no_trees = nothing-there
  text-moves (xs ▷ x) = both (text-moves xs) (item-moves (string_of x) x)

  constant-text : (xs : Trees) → Moves (BrokenInside (in_method d) (Strings xs)) (BrokenInside (in_method e) (Strings xs))
  constant-text xs f (inl h) = let g = text-moves xs f h.1 in (g.0, inl (h.0, g.1))
  constant-text xs f (inr h) = absurd (let never : false ≡ true = h.0 in cc)

  built : {P Q : Fault → Type 0} (A B : Type 0) (xs : Trees) → Moves P Q → Moves (λ f. (A × FaultInTrees d.constants xs f) ⊎ (B × P f)) (λ f. (A × FaultInTrees e.constants xs f) ⊎ (B × Q f))
  built A B xs moves f (inl b) = let h = constants-move xs f b.1 in (h.0, inl (b.0, h.1))
  built A B xs moves f (inr b) = let h = moves f b.1 in (h.0, inr (b.0, h.1))

  own-moves : (p : Place) (form : Form) → Moves (λ f. own_misuse d p form ≡ Some f) (λ f. own_misuse e p form ≡ Some f)
  own-moves p form f is = (f, sym (own-same p form) ∙ is)

  mutual
    broken : (x : Tree) → Moves (BrokenIn (in_method d) x) (BrokenIn (in_method e) x)
    broken (node p form) = both (own-moves p form) (inside form)

    inside : (form : Form) → Moves (BrokenInside (in_method d) form) (BrokenInside (in_method e) form)
    inside (Number n) = nothing-there
    inside (Str text) = nothing-there
    inside (Strings es) = constant-text es
    inside Here = nothing-there
    inside (Var v) = in-variable v
    inside (Call trap object i method place args) = both (in-index i) (in-trees args)
    inside (Unary operator x) = broken x
    inside (Binary operator x y) = both (broken x) (broken y)
    inside (Assign v operator x) = both (in-variable v) (broken x)
    inside (Change v effect) = in-variable v
    inside (Address v) = in-variable v
    inside (ObjectAddress x) = broken x
    inside (ObjConst object name place) = nothing-there
    inside (Built code args) = built (IsTrue (code == 0)) (IsTrue (not (code == 0))) args (in-trees args)
    inside (Look code x xs) = both (broken x) (in-items xs)

    in-variable : (v : Variable) → Moves (BrokenInVariable (in_method d) v) (BrokenInVariable (in_method e) v)
    in-variable (Named name i place) = in-index i
    in-variable (Part name size i place) = in-index i
    in-variable (Memory size x i place) = both (broken x) (in-index i)
    in-variable (Register address x place) = in-bits x

    in-index : (i : Index) → Moves (BrokenInIndex (in_method d) i) (BrokenInIndex (in_method e) i)
    in-index no_index = nothing-there
    in-index (index x) = broken x

    in-bits : (x : Bits) → Moves (BrokenInBits (in_method d) x) (BrokenInBits (in_method e) x)
    in-bits whole = nothing-there
    in-bits (bits x) = in-item x

    in-item : (x : Item) → Moves (BrokenInItem (in_method d) x) (BrokenInItem (in_method e) x)
    in-item (single x) = broken x
    in-item (range x y) = both (broken x) (broken y)

    in-trees : (xs : Trees) → Moves (BrokenInTrees (in_method d) xs) (BrokenInTrees (in_method e) xs)
    in-trees no_trees = nothing-there
    in-trees (xs ▷ x) = both (in-trees xs) (broken x)

    in-items : (xs : Items) → Moves (BrokenInItems (in_method d) xs) (BrokenInItems (in_method e) xs)
    in-items no_items = nothing-there
    in-items (xs ▸ x) = both (in-items xs) (in-item x)

  -- ---- statements

  named : (way : Use) (name : List ℕ) (place : Place) → Moves (λ f. misuse way (kind_in d name) place ≡ Some f) (λ f. misuse way (kind_in e name) place ≡ Some f)
  named way name place f is = (f, ap (λ k. misuse way k place) (sym (same.kinds name)) ∙ is)

  done : (o : Option (List ℕ × Place)) (x : Tree) → Moves (MisuseDone d o x) (MisuseDone e o x)
  done (Some called) x = named (used.Method 0) called.0 called.1
  done None x = broken x

  if-there : (o : Option Tree) → Moves (MisuseInOption d o) (MisuseInOption e o)
  if-there None = nothing-there
  if-there (Some x) = broken x

  in-course : (c : Course) → Moves (MisuseInCourse d c) (MisuseInCourse e c)
  in-course Forever = nothing-there
  in-course (Count x) = broken x
  in-course (Before until x) = broken x
  in-course (After until x) = broken x
  in-course (From name a b step place) = both (named used.Variable name place) (both (both (broken a) (broken b)) (if-there step))

  mutual
    pub in-statements : (ss : Statements) → Moves (MisuseInStatements d ss) (MisuseInStatements e ss)
    in-statements no_statements = nothing-there
    in-statements (ss ▹ statement p a) = both (in-statements ss) (in-action a)

    in-action : (a : Action) → Moves (MisuseInAction d a) (MisuseInAction e a)
    in-action (Do x) = done (name_alone x) x
    in-action (If arms other) = both (in-arms arms) (in-other other)
    in-action (Case x arms other) = both (both (broken x) (in-arms arms)) (in-other other)
    in-action (Repeat course ss) = both (in-course course) (in-statements ss)
    in-action Next = nothing-there
    in-action Quit = nothing-there
    in-action (Return x) = if-there x
    in-action (Abort x) = if-there x

    in-other : (o : Otherwise) → Moves (MisuseInOtherwise d o) (MisuseInOtherwise e o)
    in-other nothing_else = nothing-there
    in-other (otherwise ss) = in-statements ss

    in-arms : (xs : Arms) → Moves (MisuseInArms d xs) (MisuseInArms e xs)
    in-arms no_arms = nothing-there
    in-arms (xs ⊳ arm tests negated ss) = both (in-arms xs) (both (in-items tests) (in-statements ss))
