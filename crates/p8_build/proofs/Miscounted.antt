-- A call that is refused for the number of its arguments is found, with its two numbers.
use Rattle.std.proofs.Common.{◌≡◌, inl, inr, ℕ, ◌==◌, ◌&&◌, Bool, true, false, List, Option, Some, None, refl, ap, sym, ◌∙◌, subst, arith}
use Rattle.std.specs.Prelude.{not, if◌then◌else◌, is_some, option_map}
use Rattle.std.specs.Option.{option_or}
use Rattle.std.proofs.lemmas.Bool.Decides.{nat_tests}
use Rattle.p8_tree.specs.declared.places.Place.{Place}
use Rattle.p8_tree.specs.Expressions.{Tree, node, Form, Number, Str, Strings, Here, Var, Call, Unary, Binary, Assign, Change, Address, ObjectAddress, ObjConst, Built, Look, Variable, Named, Part, Memory, Register, Index, no_index, index, Bits, whole, bits, Item, single, range, Trees, no_trees, ◌▷◌, Items, no_items, ◌▸◌}
use Rattle.p8_tree.specs.Statements.{Course, Forever, Count, Before, After, From, Statement, statement, Action, Do, If, Case, Repeat, Next, Quit, Return, Abort, Arm, arm, Otherwise, nothing_else, otherwise, Statements, no_statements, ◌▹◌, Arms, no_arms, ◌⊳◌}
use Rattle.p8_tree.specs.Lists.{count_of_trees}
use Rattle.p8_tree.specs.declared.faults.Fault.{Fault}
use Rattle.p8_tree.specs.Faults.{fault, is_same_place}
use Rattle.p8_tree.specs.declared.refusal.Refusal.{Refusal}
use Rattle.p8_tree.specs.declared.refusal.Refusal.TheVariants.{Unknown, WrongKind, WrongArity}
use Rattle.p8_kinds.specs.declared.name_kinds.NameKind.{NameKind}
use Rattle.p8_kinds.specs.declared.name_kinds.NameKind.TheVariants as kind
use Rattle.p8_kinds.specs.declared.uses.Use.TheVariants as used
use Rattle.p8_kinds.specs.Uses.{argument_count}
use Rattle.p8_kinds.specs.Environments.{Environment, kind_in}
use Rattle.p8_fold.specs.Values.{where_so}
use Rattle.p8_kinds.specs.Misuses.{misuse, misuse_behind, misuse_of_constant, misuse_of_variable, misuse_of_value, misuse_of_call, misuse_of_arguments, own_misuse, in_method, BrokenIn, BrokenInside, BrokenInVariable, BrokenInIndex, BrokenInBits, BrokenInItem, BrokenInTrees, BrokenInItems, name_alone, MisuseDone, MisuseInOption, MisuseInCourse, MisuseInStatements, MisuseInStatement, MisuseInAction, MisuseInArm, MisuseInOtherwise, MisuseInArms}
use Rattle.p8_build.specs.declared.sizes.Size.{Size}
use Rattle.p8_build.specs.declared.sizes.Size.TheVariants as size_case
use Rattle.p8_build.specs.Arguments.{params_of, Search, differing, told_at, of_variable, wanted_by, own_told, told_in, told_inside, in_variable, in_index, in_bits, in_item, in_trees, in_items, in_option, in_course, in_statements, in_statement, in_action, in_arm, in_otherwise, in_arms}
use Rattle.p8_build.proofs.Constancy.{unequal, other_told, other_where, other_trees, other_in_text}

-- something is told
abbrev pub IsTold : Option Size → Type 0
IsTold o = is_some o ≡ true

pub told_left : (a b : Option Size) → IsTold a → IsTold (option_or a b)
told_left (Some x) b h = refl
told_left None b h = absurd cc

not_so : false ≡ true → ⊥
not_so h = absurd cc

place_same : (p q : Place) → p ≡ q → is_same_place p q ≡ true
place_same p q e = both (p.line == q.line) (p.column == q.column) (agrees p.line q.line (ap (λ (x : Place). x.line) e)) (agrees p.column q.column (ap (λ (x : Place). x.column) e))
  where
    agrees : (a b : ℕ) → a ≡ b → (a == b) ≡ true
    agrees a b h = grind (arith, nat_tests)

    both : (a b : Bool) → a ≡ true → b ≡ true → (a && b) ≡ true
    both true true g h = refl
    both true false g h = absurd cc
    both false b g h = absurd cc

pub told_right : (a b : Option Size) → IsTold b → IsTold (option_or a b)
told_right (Some x) b h = refl
told_right None b h = h

-- ---- one call

-- a refusal by 17 of a use at a place: of a method with another number of parameters than is given
record IsMiscounted (k : Option NameKind) (place : Place) (f : Fault) (given : ℕ) : Type 0 where
  number : ℕ
  params : ℕ
  is : k ≡ Some (kind.Method number params)
  place_is : f.place ≡ place
  differ : (params == given) ≡ false

same : (f g : Fault) → Some f ≡ Some g → f ≡ g
same f g e = cc

no_fault : {A : Type 0} (f : Fault) → None ≡ Some f → A
no_fault f e = absurd cc

-- another number is none of 17
clash : {A : Type 0} (g f : Fault) → Some g ≡ Some f → (g.number == 17) ≡ false → f.number ≡ 17 → A
clash g f e other count = absurd (unequal g.number 17 other (ap (λ (x : Fault). x.number) (same g f e) ∙ count))

abbrev when_wrong : Place → Bool → Option Fault
when_wrong place right = option_map (λ (r : Refusal). fault r place) (if right then None else Some WrongArity)

miscounted : (number params given : ℕ) (place : Place) (f : Fault) → when_wrong place (params == given) ≡ Some f → IsMiscounted (Some (kind.Method number params)) place f given
miscounted number params given place f e = by (params == given) refl
  where
    by : (b : Bool) → (params == given) ≡ b → IsMiscounted (Some (kind.Method number params)) place f given
    by true t = no_fault f (sym (ap (when_wrong place) t) ∙ e)
    by false t = record {
      number = number;
      params = params;
      is = refl;
      place_is = ap (λ (x : Fault). x.place) (sym (same (fault WrongArity place) f (sym (ap (when_wrong place) t) ∙ e)));
      differ = t;
    }

-- a method that is called
called : (k : Option NameKind) (given : ℕ) (place : Place) (f : Fault) → misuse (used.Method given) k place ≡ Some f → f.number ≡ 17 → IsMiscounted k place f given
called None given place f e count = clash (fault Unknown place) f e refl count
called (Some (kind.Method number params)) given place f e count = miscounted number params given place f e
called (Some (kind.Const v)) given place f e count = clash (fault WrongKind place) f e refl count
called (Some (kind.Global size offset)) given place f e count = clash (fault WrongKind place) f e refl count
called (Some (kind.Local offset)) given place f e count = clash (fault WrongKind place) f e refl count
called (Some (kind.Label size)) given place f e count = clash (fault WrongKind place) f e refl count
called (Some (kind.Object item position many)) given place f e count = clash (fault WrongKind place) f e refl count

-- a name alone, which is a method's
alone : (k : Option NameKind) (place : Place) (f : Fault) → misuse used.Value k place ≡ Some f → f.number ≡ 17 → IsMiscounted k place f 0
alone None place f e count = clash (fault Unknown place) f e refl count
alone (Some (kind.Method number params)) place f e count = miscounted number params 0 place f e
alone (Some (kind.Const v)) place f e count = no_fault f e
alone (Some (kind.Global size offset)) place f e count = no_fault f e
alone (Some (kind.Local offset)) place f e count = no_fault f e
alone (Some (kind.Label size)) place f e count = no_fault f e
alone (Some (kind.Object item position many)) place f e count = clash (fault WrongKind place) f e refl count

-- a variable and an object have other refusals
not_variable : {A : Type 0} (k : Option NameKind) (place : Place) (f : Fault) → misuse used.Variable k place ≡ Some f → f.number ≡ 17 → A
not_variable None place f e count = clash (fault Unknown place) f e refl count
not_variable (Some (kind.Method number params)) place f e count = clash (fault WrongKind place) f e refl count
not_variable (Some (kind.Const v)) place f e count = clash (fault WrongKind place) f e refl count
not_variable (Some (kind.Global size offset)) place f e count = no_fault f e
not_variable (Some (kind.Local offset)) place f e count = no_fault f e
not_variable (Some (kind.Label size)) place f e count = no_fault f e
not_variable (Some (kind.Object item position many)) place f e count = clash (fault WrongKind place) f e refl count

-- where names are what the search knows of them
pub record Knows (q : Search) (env : Environment) : Type 0 where
  pub own : (name : List ℕ) (number params : ℕ) → kind_in env name ≡ Some (kind.Method number params) → params_of q.items name ≡ Some params
  pub behind : (object name : List ℕ) (item position many number params : ℕ) → kind_in env object ≡ Some (kind.Object item position many) → env.public item name ≡ Some (kind.Method number params)
      → wanted_by q (Some object) name ≡ Some params

-- ---- a method's statements

module _ (q : Search) (env : Environment) (knows : Knows q env) (f : Fault) (at : q.place ≡ f.place) (count : f.number ≡ 17) where
  told_when : (b c : Bool) (x : Size) → b ≡ true → c ≡ false → IsTold (if b then (if c then None else Some x) else None)
  told_when true false x p r = refl
  told_when true true x p r = absurd cc
  told_when false c x p r = absurd cc

  told_here : (place : Place) (wanted : Option ℕ) (params given : ℕ) → f.place ≡ place → wanted ≡ Some params → (params == given) ≡ false → IsTold (told_at q place (differing wanted given))
  told_here place wanted params given there is differ =
      subst (λ (w : Option ℕ). IsTold (told_at q place (differing w given))) (sym is)
      (told_when (is_same_place q.place place) (params == given) (size_case.Arguments params given) (place_same q.place place (at ∙ there)) differ)

  told_alone : (name : List ℕ) (place : Place) (given : ℕ) → IsMiscounted (kind_in env name) place f given → IsTold (told_at q place (differing (params_of q.items name) given))
  told_alone name place given h = told_here place (params_of q.items name) h.params given h.place_is (knows.own name h.number h.params h.is) h.differ

  -- a call of an object's method
  told_behind : (object name : List ℕ) (given : ℕ) (p place : Place) (k : Option NameKind) → kind_in env object ≡ k → misuse_behind env k name given p place ≡ Some f → IsTold (told_at q place (differing (wanted_by q (Some object) name) given))
  told_behind object name given p place None t e = clash (fault Unknown p) f e refl count
  told_behind object name given p place (Some (kind.Object item position many)) t e =
      let h = called (env.public item name) given place f e count in
      told_here place (wanted_by q (Some object) name) h.params given h.place_is (knows.behind object name item position many h.number h.params t h.is) h.differ
  told_behind object name given p place (Some (kind.Method number params)) t e = clash (fault WrongKind p) f e refl count
  told_behind object name given p place (Some (kind.Const v)) t e = clash (fault WrongKind p) f e refl count
  told_behind object name given p place (Some (kind.Global size offset)) t e = clash (fault WrongKind p) f e refl count
  told_behind object name given p place (Some (kind.Local offset)) t e = clash (fault WrongKind p) f e refl count
  told_behind object name given p place (Some (kind.Label size)) t e = clash (fault WrongKind p) f e refl count

  told_call : (object : Option (List ℕ)) (name : List ℕ) (given : ℕ) (p place : Place) → misuse_of_call env object name given p place ≡ Some f → IsTold (told_at q place (differing (wanted_by q object name) given))
  told_call None name given p place e = told_alone name place given (called (kind_in env name) given place f e count)
  told_call (Some object) name given p place e = told_behind object name given p place (kind_in env object) refl e

  not_constant : {A : Type 0} (k : Option NameKind) (object name : List ℕ) (p place : Place) → misuse_of_constant env k object name p place ≡ Some f → A
  not_constant None object name p place e = clash (fault Unknown p) f e refl count
  not_constant (Some (kind.Object item position many)) object name p place e = absurd (other_told (where_so (not (is_some (env.constants.constant object name))) (fault Unknown place)) f (other_where (not (is_some (env.constants.constant object name))) (fault Unknown place) (unequal 15 17 refl)) e count)
  not_constant (Some (kind.Method number params)) object name p place e = clash (fault WrongKind p) f e refl count
  not_constant (Some (kind.Const v)) object name p place e = clash (fault WrongKind p) f e refl count
  not_constant (Some (kind.Global size offset)) object name p place e = clash (fault WrongKind p) f e refl count
  not_constant (Some (kind.Local offset)) object name p place e = clash (fault WrongKind p) f e refl count
  not_constant (Some (kind.Label size)) object name p place e = clash (fault WrongKind p) f e refl count

  not_written : {A : Type 0} (v : Variable) → misuse_of_variable env v ≡ Some f → A
  not_written (Named name i place) e = not_variable (kind_in env name) place f e count
  not_written (Part name size i place) e = not_variable (kind_in env name) place f e count
  not_written (Memory size x i place) e = no_fault f e
  not_written (Register address x place) e = no_fault f e

  told_value : (v : Variable) → misuse_of_value env v ≡ Some f → IsTold (of_variable q v)
  told_value (Named name no_index place) e = told_alone name place 0 (alone (kind_in env name) place f e count)
  told_value (Named name (index i) place) e = not_variable (kind_in env name) place f e count
  told_value (Part name size i place) e = not_variable (kind_in env name) place f e count
  told_value (Memory size x i place) e = no_fault f e
  told_value (Register address x place) e = no_fault f e

  swapped : (a b : ℕ) → (a == b) ≡ false → (b == a) ≡ false
  swapped a b h = grind (arith, nat_tests)

  told_built : (code given : ℕ) (place : Place) → misuse_of_arguments code given place ≡ Some f → IsTold (told_at q place (differing (Some (argument_count code)) given))
  told_built code given place e = by (given == argument_count code) refl
    where
      by : (b : Bool) → (given == argument_count code) ≡ b → IsTold (told_at q place (differing (Some (argument_count code)) given))
      by true t = no_fault f (sym (ap (λ (b : Bool). where_so (not b) (fault WrongArity place)) t) ∙ e)
      by false t =
          told_here place (Some (argument_count code)) (argument_count code) given
          (ap (λ (x : Fault). x.place) (sym (same (fault WrongArity place) f (sym (ap (λ (b : Bool). where_so (not b) (fault WrongArity place)) t) ∙ e)))) refl (swapped given (argument_count code) t)

  own_found : (p : Place) (form : Form) → own_misuse env p form ≡ Some f → IsTold (own_told q p form)
  own_found p (Number n) e = no_fault f e
  own_found p (Str text) e = no_fault f e
  own_found p (Strings items) e = no_fault f e
  own_found p Here e = no_fault f e
  own_found p (Var v) e = told_value v e
  own_found p (Address v) e = not_written v e
  own_found p (Call trap object i method place args) e = told_call object method (count_of_trees args) p place e
  own_found p (Unary operator x) e = no_fault f e
  own_found p (Binary operator a b) e = no_fault f e
  own_found p (Assign v operator x) e = not_written v e
  own_found p (Change v effect) e = not_written v e
  own_found p (ObjectAddress x) e = no_fault f e
  own_found p (ObjConst object name place) e = not_constant (kind_in env object) object name p place e
  own_found p (Built code args) e = told_built code (count_of_trees args) p e
  own_found p (Look code x xs) e = no_fault f e

  mutual
    found_in : (e : Tree) → BrokenIn (in_method env) e f → IsTold (told_in q e)
    found_in (node p form) (inl own) = told_left (own_told q p form) (told_inside q form) (own_found p form own)
    found_in (node p form) (inr inside) = told_right (own_told q p form) (told_inside q form) (found_inside form inside)

    found_inside : (form : Form) → BrokenInside (in_method env) form f → IsTold (told_inside q form)
    found_inside (Number n) h = absurd h
    found_inside (Str text) h = absurd h
    found_inside (Strings items) (inl h) = absurd (other_in_text env.constants items f h.1 count)
    found_inside (Strings items) (inr h) = absurd (not_so h.0)
    found_inside Here h = absurd h
    found_inside (Var v) h = found_variable v h
    found_inside (Address v) h = found_variable v h
    found_inside (Call trap object i method place args) (inl h) = told_left (in_index q i) (in_trees q args) (found_index i h)
    found_inside (Call trap object i method place args) (inr h) = told_right (in_index q i) (in_trees q args) (found_trees args h)
    found_inside (Unary operator e) h = found_in e h
    found_inside (Binary operator a b) (inl h) = told_left (told_in q a) (told_in q b) (found_in a h)
    found_inside (Binary operator a b) (inr h) = told_right (told_in q a) (told_in q b) (found_in b h)
    found_inside (Assign v operator e) (inl h) = told_left (in_variable q v) (told_in q e) (found_variable v h)
    found_inside (Assign v operator e) (inr h) = told_right (in_variable q v) (told_in q e) (found_in e h)
    found_inside (Change v effect) h = found_variable v h
    found_inside (ObjectAddress e) h = found_in e h
    found_inside (ObjConst object name place) h = absurd h
    found_inside (Built code args) (inl h) = absurd (other_trees env.constants args f h.1 count)
    found_inside (Built code args) (inr h) = found_trees args h.1
    found_inside (Look code e xs) (inl h) = told_left (told_in q e) (in_items q xs) (found_in e h)
    found_inside (Look code e xs) (inr h) = told_right (told_in q e) (in_items q xs) (found_items xs h)

    found_variable : (v : Variable) → BrokenInVariable (in_method env) v f → IsTold (in_variable q v)
    found_variable (Named name i place) h = found_index i h
    found_variable (Part name size i place) h = found_index i h
    found_variable (Memory size e i place) (inl h) = told_left (told_in q e) (in_index q i) (found_in e h)
    found_variable (Memory size e i place) (inr h) = told_right (told_in q e) (in_index q i) (found_index i h)
    found_variable (Register address x place) h = found_bits x h

    found_index : (i : Index) → BrokenInIndex (in_method env) i f → IsTold (in_index q i)
    found_index no_index h = absurd h
    found_index (index e) h = found_in e h

    found_bits : (x : Bits) → BrokenInBits (in_method env) x f → IsTold (in_bits q x)
    found_bits whole h = absurd h
    found_bits (bits x) h = found_item x h

    found_item : (x : Item) → BrokenInItem (in_method env) x f → IsTold (in_item q x)
    found_item (single e) h = found_in e h
    found_item (range low high) (inl h) = told_left (told_in q low) (told_in q high) (found_in low h)
    found_item (range low high) (inr h) = told_right (told_in q low) (told_in q high) (found_in high h)

    found_trees : (es : Trees) → BrokenInTrees (in_method env) es f → IsTold (in_trees q es)
    found_trees no_trees h = absurd h
    found_trees (es ▷ e) (inl h) = told_left (in_trees q es) (told_in q e) (found_trees es h)
    found_trees (es ▷ e) (inr h) = told_right (in_trees q es) (told_in q e) (found_in e h)

    found_items : (xs : Items) → BrokenInItems (in_method env) xs f → IsTold (in_items q xs)
    found_items no_items h = absurd h
    found_items (xs ▸ x) (inl h) = told_left (in_items q xs) (in_item q x) (found_items xs h)
    found_items (xs ▸ x) (inr h) = told_right (in_items q xs) (in_item q x) (found_item x h)

  -- a whole statement: a name alone is called without arguments
  found_done : (e : Tree) → MisuseDone env (name_alone e) e f → IsTold (told_in q e)
  found_done (node p (Var (Named name no_index place))) h =
      told_left (own_told q p (Var (Named name no_index place))) (told_inside q (Var (Named name no_index place))) (told_alone name place 0 (called (kind_in env name) 0 place f h count))
  found_done (node p (Var (Named name (index i) place))) h = found_in (node p (Var (Named name (index i) place))) h
  found_done (node p (Var (Part name size i place))) h = found_in (node p (Var (Part name size i place))) h
  found_done (node p (Var (Memory size e i place))) h = found_in (node p (Var (Memory size e i place))) h
  found_done (node p (Var (Register address x place))) h = found_in (node p (Var (Register address x place))) h
  found_done (node p (Number n)) h = found_in (node p (Number n)) h
  found_done (node p (Str text)) h = found_in (node p (Str text)) h
  found_done (node p (Strings items)) h = found_in (node p (Strings items)) h
  found_done (node p Here) h = found_in (node p Here) h
  found_done (node p (Address v)) h = found_in (node p (Address v)) h
  found_done (node p (Call trap object i method place args)) h = found_in (node p (Call trap object i method place args)) h
  found_done (node p (Unary operator e)) h = found_in (node p (Unary operator e)) h
  found_done (node p (Binary operator a b)) h = found_in (node p (Binary operator a b)) h
  found_done (node p (Assign v operator e)) h = found_in (node p (Assign v operator e)) h
  found_done (node p (Change v effect)) h = found_in (node p (Change v effect)) h
  found_done (node p (ObjectAddress e)) h = found_in (node p (ObjectAddress e)) h
  found_done (node p (ObjConst object name place)) h = found_in (node p (ObjConst object name place)) h
  found_done (node p (Built code args)) h = found_in (node p (Built code args)) h
  found_done (node p (Look code e xs)) h = found_in (node p (Look code e xs)) h

  found_option : (o : Option Tree) → MisuseInOption env o f → IsTold (in_option q o)
  found_option None h = absurd h
  found_option (Some e) h = found_in e h

  found_course : (c : Course) → MisuseInCourse env c f → IsTold (in_course q c)
  found_course Forever h = absurd h
  found_course (Count e) h = found_in e h
  found_course (Before until e) h = found_in e h
  found_course (After until e) h = found_in e h
  found_course (From name a b step place) (inl h) = not_variable (kind_in env name) place f h count
  found_course (From name a b step place) (inr (inl (inl h))) =
      told_left (option_or (told_in q a) (told_in q b)) (in_option q step) (told_left (told_in q a) (told_in q b) (found_in a h))
  found_course (From name a b step place) (inr (inl (inr h))) =
      told_left (option_or (told_in q a) (told_in q b)) (in_option q step) (told_right (told_in q a) (told_in q b) (found_in b h))
  found_course (From name a b step place) (inr (inr h)) = told_right (option_or (told_in q a) (told_in q b)) (in_option q step) (found_option step h)

  mutual
    pub found_statements : (ss : Statements) → MisuseInStatements env ss f → IsTold (in_statements q ss)
    found_statements no_statements h = absurd h
    found_statements (ss ▹ s) (inl h) = told_left (in_statements q ss) (in_statement q s) (found_statements ss h)
    found_statements (ss ▹ s) (inr h) = told_right (in_statements q ss) (in_statement q s) (found_statement s h)

    found_statement : (s : Statement) → MisuseInStatement env s f → IsTold (in_statement q s)
    found_statement (statement p action) h = found_action action h

    found_action : (a : Action) → MisuseInAction env a f → IsTold (in_action q a)
    found_action (Do e) h = found_done e h
    found_action (If arms rest) (inl h) = told_left (in_arms q arms) (in_otherwise q rest) (found_arms arms h)
    found_action (If arms rest) (inr h) = told_right (in_arms q arms) (in_otherwise q rest) (found_otherwise rest h)
    found_action (Case e arms rest) (inl (inl h)) = told_left (option_or (told_in q e) (in_arms q arms)) (in_otherwise q rest) (told_left (told_in q e) (in_arms q arms) (found_in e h))
    found_action (Case e arms rest) (inl (inr h)) = told_left (option_or (told_in q e) (in_arms q arms)) (in_otherwise q rest) (told_right (told_in q e) (in_arms q arms) (found_arms arms h))
    found_action (Case e arms rest) (inr h) = told_right (option_or (told_in q e) (in_arms q arms)) (in_otherwise q rest) (found_otherwise rest h)
    found_action (Repeat course body) (inl h) = told_left (in_course q course) (in_statements q body) (found_course course h)
    found_action (Repeat course body) (inr h) = told_right (in_course q course) (in_statements q body) (found_statements body h)
    found_action Next h = absurd h
    found_action Quit h = absurd h
    found_action (Return e) h = found_option e h
    found_action (Abort e) h = found_option e h

    found_arm : (a : Arm) → MisuseInArm env a f → IsTold (in_arm q a)
    found_arm (arm tests negated body) (inl h) = told_left (in_items q tests) (in_statements q body) (found_items tests h)
    found_arm (arm tests negated body) (inr h) = told_right (in_items q tests) (in_statements q body) (found_statements body h)

    found_otherwise : (o : Otherwise) → MisuseInOtherwise env o f → IsTold (in_otherwise q o)
    found_otherwise nothing_else h = absurd h
    found_otherwise (otherwise body) h = found_statements body h

    found_arms : (xs : Arms) → MisuseInArms env xs f → IsTold (in_arms q xs)
    found_arms no_arms h = absurd h
    found_arms (xs ⊳ x) (inl h) = told_left (in_arms q xs) (in_arm q x) (found_arms xs h)
    found_arms (xs ⊳ x) (inr h) = told_right (in_arms q xs) (in_arm q x) (found_arm x h)
