-- What the code of each form of an expression does, by what its parts do.
use Rattle.std.proofs.Common.{◌≡◌, refl, sym, ap, ap₂, subst, ◌∙◌, arith, ℕ, suc, max, ◌+◌, ◌-◌, ◌*◌, ◌%◌, ◌^◌, ◌<◌, ◌≤◌, ◌==◌, Bool, true, false, if◌then◌else◌, List, [], ◌∷◌, ◌++◌, length, Option, Some, None, append-nil}
use Rattle.std.specs.Prelude.{Contains, nat_le, nat_lt, not, ◌&&◌, slice_get}
use Rattle.std.proofs.Math.ListN.{length-append}
use Rattle.std.specs.Str.{bytes_eq}
use Rattle.p8_access.specs.Courses.{Course, Finish, Stop}
use Rattle.p8_tree.specs.declared.places.Place.{Place}
use Rattle.p8_tree.specs.Names.{result_word}
use Rattle.p8_tree.specs.Expressions.{Tree, Variable, Named, Part, Memory, Register, Index, no_index, index, Bits, whole, bits, Item, single, range, Trees, Items}
use Rattle.p8_words.specs.Operators.{unary_value, unary_values, binary_value}
use Rattle.p8_kinds.specs.declared.name_kinds.NameKind.{NameKind}
use Rattle.p8_kinds.specs.declared.name_kinds.NameKind.TheVariants as kind_case
use Rattle.p8_bcog.specs.declared.marks.CallMark.{CallMark}
use Rattle.p8_bcog.specs.declared.state.SpinState.{SpinState}
use Rattle.p8_bcog.specs.declared.step.Wanted.TheVariants as wanted_case
use Rattle.p8_bcog.specs.Operands.{left_by}
use Rattle.p8_access.specs.declared.kinds.Origin.TheVariants as origin_case
use Rattle.p8_bcog.specs.declared.step.Callee as entry
use Rattle.p8_bcog.specs.Cogs as cogs
use Rattle.p8_bcog.specs.Code.{is_object, method_at}
use Rattle.p8_bcog.specs.Calls as calling
use Rattle.p8_access.specs.declared.kinds.Reason.TheVariants as Why
use Rattle.p8_tree.specs.Sources.{MethodTree}
use Rattle.std.proofs.lemmas.Bool.{lt-ltb, lt-leb, ltb-true}
use Rattle.p8_bcog.specs.Places as places
use Rattle.p8_meaning.specs.Values.{changed, gives_old, count_of, is_between, sum_of, difference, distance, toward}
use Rattle.p8_meaning.specs.Doing.{Registers, Rest, Gives, for_statement, comes_back, halts, untold, asks, tells, reads, writes_longs, given}
use Rattle.p8_meaning.specs.Programs.{File, Scope, Target, object_target, target_of, instance_at, own_target, kind_of, setting_of, locals_size}
use Rattle.p8_meaning.specs.Variables.{Location, Hub, named, fetches, stores, reduced, assigns, changes, changes_alone, replaces}
use Rattle.p8_meaning.specs.Calls.{Callee, Returned, uses, calls, method_of, starts_method}
use Rattle.p8_meaning.specs.Lives.{cleared}
use Rattle.p8_meaning.specs.Expressions as expressions
use Rattle.p8_compiled.specs.Courses.{gives, takes_none, takes_one, takes_two, takes_three, place_of, leaves_if, if_used, drops, WhereSo}
use Rattle.p8_compiled.specs.Depths as depths
use Rattle.p8_compiled.specs.Standing as standing
use Rattle.p8_compiled.specs.Standing.{Compiled, is_outa, is_dira, names_count, index_count, at_number, index_in, site, IsRegister, HasRegister, IsEffect, IsOperation}
use Rattle.p8_bcog.specs.Replay.{engine_of}
use Rattle.p8_compiled.proofs.Meets.{Reading, follows-halts, comes-back, goes-back}
use Rattle.p8_compiled.proofs.Stack.{one-is}
use Rattle.p8_compiled.proofs.Places.{Frame, at, left_on, IsThere, follows-read, follows-write, reduced-is}
use Rattle.p8_meaning.specs.Lives.{IsInstance, inner_instance}
use Rattle.p8_compiled.specs.Keeps.{Placed, MethodPlaced, ObjectPlaced}
use Rattle.p8_compiled.proofs.Calling.{Begun, Low, raise, raise_all, Room, CallsOk, Aborts, Above, GivesBack, called, back-used, called-meets}
use Rattle.p8_access.specs.declared.kinds.Width.{Width}
use Rattle.p8_access.specs.declared.kinds.Width.TheVariants.{Byte, Word, Long}
use Rattle.p8_access.specs.declared.kinds.Access.TheVariants as access_case
use Rattle.p8_access.specs.declared.kinds.Test.TheVariants as test_case
use Rattle.p8_meaning.specs.Builtins as builtins
use Rattle.p8_compiled.proofs.Builtins.{word-follows, tells-follows, measures-follow, compares-follow, fills-follow, moves-follow, waits-follow, start-follows}
use Rattle.p8_compiled.proofs.Stepping.{engine, F, by, by-course, by-gives, by-none, by-one, by-two, by-three, by-names, by-value}

-- what a change leaves, and writes
leaves-is : (effect : ℕ) (used : Bool) (value : ℕ) → nat_le 128 effect ≡ used → places.left_of effect value ≡ if_used used value
leaves-is effect used value is = ap (λ (b : Bool). if b then Some value else None) is

operation-is : {effect operator : ℕ} {used : Bool} → IsOperation effect used operator → (where_is : Location) (value right : ℕ) (st : SpinState) →
    places.uses (wanted_case.Changed effect right) (place_of where_is) value st ≡ places.writes_place (place_of where_is) (binary_value operator value right) (if_used used (reduced where_is (binary_value operator value right))) st
unfolding places.uses
operation-is {effect} {operator} {used} is where_is value right st =
    ap₂ (λ x y. places.writes_place (place_of where_is) x y st) (is.updates value right)
    (ap₂ (λ (b : Bool) x. places.left_of effect (places.reduced (place_of where_is) (if b then value else x))) is.old (is.updates value right)
    ∙ ap (places.left_of effect) (reduced-is where_is _) ∙ leaves-is effect used _ is.leaves)

change-is : {effect change : ℕ} {used : Bool} → IsEffect effect used change → (where_is : Location) (value : ℕ) (st : SpinState) →
    places.uses (wanted_case.Changed effect 0) (place_of where_is) value st ≡ places.writes_place (place_of where_is) (changed change value) (if_used used (reduced where_is (if gives_old change then value else changed change value))) st
unfolding places.uses
change-is {effect} {change} {used} is where_is value st =
    ap₂ (λ x y. places.writes_place (place_of where_is) x y st) (is.updates value)
    (ap₂ (λ (b : Bool) x. places.left_of effect (places.reduced (place_of where_is) (if b then value else x))) is.old (is.updates value)
    ∙ ap (places.left_of effect) (reduced-is where_is _) ∙ leaves-is effect used _ is.leaves)

-- a method at work: its code, its frame, what its calls mean, the methods below it, and what follows an abort
pub record Working : Type 0 where
  pub t : Compiled
  pub c : Frame
  pub callee : Callee
  pub abort : Returned → Rest
  pub placed : Placed t.memory t.cog t.program t.addresses
  pub most : ℕ
  pub ok : CallsOk t.memory t.cog t.table t.program t.addresses most c.par callee
  pub g : Begun
  pub begun : Room c.calls g.stack g.marks
  pub top : ℕ
  pub lesser : top ≤ most
  pub aborts : Aborts t.memory t.cog t.table top c.calls c.par g.stack g.marks abort
  pub is_instance : IsInstance t.program t.addresses (record { file = t.number; base = c.pbase; variables = c.vbase })
  pub is_file : slice_get t.program t.number ≡ Some t.file

module _ (w : Working) where
  open w use {t, c, callee, abort, placed, most, ok, g, begun, top, lesser, aborts, is_instance, is_file}

  -- how many longs are held, with the names of this file
  abbrev pub depth : Tree → ℕ
  depth = depths.depth (standing.names_method t)

  abbrev pub items_depth : Items → ℕ
  items_depth = depths.items_depth (standing.names_method t)

  abbrev pub item_depth : Item → ℕ
  item_depth = depths.item_depth (standing.names_method t)

  abbrev pub built_depth : ℕ → Trees → ℕ
  built_depth = depths.built_depth (standing.names_method t)

  abbrev pub begun_depth : Tree → ℕ → ℕ → ℕ
  begun_depth = depths.begun_depth (standing.names_method t)

  abbrev pub trees_depth : Trees → ℕ
  trees_depth = depths.trees_depth (standing.names_method t)

  abbrev pub names_depth : Variable → ℕ
  names_depth = depths.names_depth (standing.names_method t)

  abbrev pub index_depth : Index → ℕ
  index_depth = depths.index_depth (standing.names_method t)

  abbrev pub bits_depth : Bits → ℕ
  bits_depth = depths.bits_depth (standing.names_method t)

  -- the heights that a method may reach
  abbrev pub room : ℕ
  room = 128 * (length c.calls + 1)

  pub fits_stack : room ≤ 16384
  fits_stack = omega (arith, begun.few)

  abbrev pub marked : ℕ
  marked = 64 * (length c.calls + 1)

  pub fits_marks : marked < 16384
  fits_marks = omega (arith, begun.few)

  -- where the method is, with a bound that is small enough
  pub record Stands (b base : ℕ) (marks : List CallMark) (xs : List ℕ) : Type 0 where
    pub low : Low g base marks xs
    pub within : b ≤ top

  pub up : {b base : ℕ} {marks : List CallMark} {xs : List ℕ} → Stands b base marks xs → (value : ℕ) → Stands b base marks (xs ++ value ∷ [])
  up here value = record { low = raise here.low value; within = here.within }

  -- the scope of the method's body
  abbrev pub s : Scope
  s = standing.scope_of t (at c 0 0 [] [] cleared)

  abbrev pub E : Reading SpinState
  E = engine t.memory t.cog t.table t.hand

  abbrev pub K : ℕ → Registers → Course SpinState → Rest → Type 0
  K f own d r = F t.memory t.cog t.table t.hand f own d r

  -- what a state follows, with each bound up to b
  abbrev pub Then : (b : ℕ) → (Registers → SpinState) → Rest → Type 0
  Then b state r = (f : ℕ) (own : Registers) → f ≤ b → K f own (Finish (state own)) r

  -- what comes back to the statement at hand
  pub backs : (b : ℕ) (state : Registers → SpinState) (does : (Rest → Rest) → Rest) → Then b state (does (for_statement t.hand)) → Then b state (comes_back does)
  backs b state does m f own le = comes-back (engine_of t.memory t.cog) (λ s place. Contains t.table (s.at, place)) t.hand does (m f own le)

  finish-left : (q base : ℕ) (marks : List CallMark) (xs : List ℕ) (used : Bool) (value f : ℕ) (own : Registers) (r : Rest) → K f own (Finish (at c q base marks (left_on used xs value) own)) r → K f own (Finish (left_by (if_used used value) (at c q base marks xs own))) r
  finish-left q base marks xs true value f own r m = m
  finish-left q base marks xs false value f own r m = m

  there-is : (written : Bool) (v : Variable) → HasRegister written v → (names : List ℕ) → IsThere written (site s v names)
  there-is written (Named name i place) h names = tt
  there-is written (Part name size i place) h names = tt
  there-is written (Memory size e i place) h names = tt
  there-is written (Register register whole place) h names = h
  there-is written (Register register (bits (single e)) place) h names = h
  there-is written (Register register (bits (range e f)) place) h names = h

  readable : (register : ℕ) → IsRegister true register → IsRegister false register
  readable r is_outa = is_outa
  readable r is_dira = is_dira

  can_read : (v : Variable) → HasRegister true v → HasRegister false v
  can_read (Named name i place) h = tt
  can_read (Part name size i place) h = tt
  can_read (Memory size e i place) h = tt
  can_read (Register register x place) h = readable register h

  pub up_all : {b base : ℕ} {marks : List CallMark} {xs : List ℕ} → Stands b base marks xs → (values : List ℕ) → Stands b base marks (xs ++ values)
  up_all {xs = xs} here values = record { low = raise_all here.low values; within = here.within }

  -- ---- calls

  pub if-true : {X : Type 0} (so : Bool) (x y : X) → so ≡ true → (if so then x else y) ≡ x
  if-true so x y is = ap (λ (z : Bool). if z then x else y) is

  pub if-false : {X : Type 0} (so : Bool) (x y : X) → so ≡ false → (if so then x else y) ≡ y
  if-false so x y is = ap (λ (z : Bool). if z then x else y) is

  abbrev pub mark_of : (base : ℕ) (unused traps : Bool) → CallMark
  mark_of base unused traps = record { outer = base; unused = unused; traps = traps }

  pub opens-meets : (p q base : ℕ) (marks : List CallMark) (xs : List ℕ) (unused traps : Bool) → standing.At t p (standing.opens unused traps) q → length marks < 16384 → (b : ℕ) (r : Rest) → Then b (at c q (length xs) (mark_of base unused traps ∷ marks) xs) r → Then b (at c p base marks xs) r
  opens-meets p q base marks xs unused traps h few b r m f own le =
      by-course t.memory t.cog t.table t.hand c p q base marks (standing.opens unused traps) h xs own f r (Finish (at c q (length xs) (mark_of base unused traps ∷ marks) xs own))
      (if-false (nat_le 16384 (length marks)) _ _ (lt-leb 16384 (length marks) few)) (m f own le)

  has-mark : {base : ℕ} {marks : List CallMark} {xs : List ℕ} → Low g base marks xs → nat_lt (calling.marks_below c.calls) (suc (length marks)) ≡ true
  has-mark {marks = marks} low = lt-ltb (calling.marks_below c.calls) (suc (length marks)) (omega (arith, begun.below, ap length low.marked ∙ length-append low.opened g.marks))

  module _ (q base : ℕ) (marks : List CallMark) (xs : List ℕ) (b : ℕ) (here : Stands b base marks xs) (values : length xs ≤ room) (opened : length marks ≤ marked) (unused stops : Bool) (return : Returned → Rest)
      (back : (hand : Place) (f : ℕ) (own : Registers) → f ≤ b → (returned : Returned) (given : Option ℕ) (st : SpinState) → Above c.par xs marks own st → GivesBack returned st given → F t.memory t.cog t.table hand f own (calling.goes_back given (called c q base (length xs) (length marks) unused stops) c.calls st) (return returned)) where
    abbrev this_mark : CallMark
    this_mark = mark_of base unused stops

    -- a bytecode that comes to the call of a method
    target-meets : (p : ℕ) (course : SpinState → Course SpinState) → standing.At t p course q → (stack : List ℕ) → (target : Target) → IsInstance t.program t.addresses target.instance → (file : File) → slice_get t.program target.instance.file ≡ Some file → (tree : MethodTree) → method_of file target.method ≡ Some tree →
        (arguments : List ℕ) → length arguments ≡ length tree.params →
        ((own : Registers) → course (at c q (length xs) (this_mark ∷ marks) stack own) ≡ calling.calls_method t.memory target.instance.base target.instance.variables target.method (at c q (length xs) (this_mark ∷ marks) (xs ++ arguments) own)) →
        Then b (at c p (length xs) (this_mark ∷ marks) stack) (calls callee s stops (Some target) arguments return abort)
    target-meets p course h stack target is_instance file is_file tree is_tree arguments arity is f own le = record {
      meets =
          called-meets t.memory t.cog t.table t.program t.addresses placed most callee c ok g begun top lesser abort aborts q base xs marks here.low unused stops return b here.within back
          target is_instance file is_file tree is_tree arguments arity values opened t.hand p course h stack is (nat_lt (length c.calls + 1) 128) refl f own le;
    }

    pub own-meets : (p : ℕ) (kind : Option NameKind) (arguments : List ℕ) → standing.OwnCallAt t kind (length arguments) p q → Then b (at c p (length xs) (this_mark ∷ marks) (xs ++ arguments)) (expressions.calls_own callee s abort stops kind arguments return)
    unfolding calling.call_own
    own-meets p (Some (kind_case.Method n params)) arguments h =
        target-meets p (calling.call_own t.memory n) h.1 (xs ++ arguments) (record { instance = s.instance; method = n }) is_instance t.file is_file h.0.0 h.0.1 arguments h.0.2
        (λ own. ap (λ (so : Bool). if not so then Stop Why.Under else calling.calls_method t.memory c.pbase c.vbase n (at c q (length xs) (this_mark ∷ marks) (xs ++ arguments) own)) (has-mark here.low))
    own-meets p (Some (kind_case.Const value)) arguments h = absurd h
    own-meets p (Some (kind_case.Global size offset)) arguments h = absurd h
    own-meets p (Some (kind_case.Local offset)) arguments h = absurd h
    own-meets p (Some (kind_case.Label size)) arguments h = absurd h
    own-meets p (Some (kind_case.Object item position count)) arguments h = absurd h
    own-meets p None arguments h = absurd h

  all-true : (x y z : Bool) → x ≡ true → y ≡ true → z ≡ true → (x && y && z) ≡ true
  all-true x y z a b d = ap₂ (λ (u v : Bool). u && v && z) a b ∙ ap (λ (w : Bool). true && true && w) d

  one-false : (x y z : Bool) → y ≡ false → (x && y && z) ≡ false
  one-false true y z is = ap (λ (v : Bool). true && v && z) is
  one-false false y z is = ap (λ (v : Bool). false && v && z) is

  -- the method of an object that a call names, at an instance
  abbrev target_at : (child n place : ℕ) → Target
  target_at child n place = record { instance = instance_at t.addresses s.instance child place; method = n }

  target-is : (item place : ℕ) (name : List ℕ) (count n : ℕ) (o : standing.IsObjectMethod t item name count n) → object_target s item place name ≡ Some (target_at o.child n place)
  target-is item place name count n o = ap₂ (λ a d. target_of a d (λ file number. record { instance = instance_at t.addresses s.instance file place; method = number })) o.is_child o.is_named

  module _ (q base : ℕ) (marks : List CallMark) (xs : List ℕ) (b : ℕ) (here : Stands b base marks xs) (values : length xs ≤ room) (opened : length marks ≤ marked) (unused stops : Bool) (return : Returned → Rest)
      (back : (hand : Place) (f : ℕ) (own : Registers) → f ≤ b → (returned : Returned) (given : Option ℕ) (st : SpinState) → Above c.par xs marks own st → GivesBack returned st given → F t.memory t.cog t.table hand f own (calling.goes_back given (called c q base (length xs) (length marks) unused stops) c.calls st) (return returned))
      (object : List ℕ) (item position instances : ℕ) (kind : t.file.kind t.method object ≡ Some (kind_case.Object item position instances)) (name : List ℕ) (arguments : List ℕ) (full : length (xs ++ arguments) ≤ 16384) (n : ℕ) (o : standing.IsObjectMethod t item name (length arguments) n) where
    abbrev the_mark : CallMark
    the_mark = mark_of base unused stops

    abbrev there : List ℕ → Registers → SpinState
    there stack own = at c q (length xs) (the_mark ∷ marks) stack own

    abbrev follows_at : ℕ → Rest
    follows_at chosen = calls callee s stops (object_target s item (position + chosen) name) arguments return abort

    module _ (chosen : ℕ) (below : chosen < instances) where
      placed_there : ObjectPlaced t.memory t.cog t.program t.addresses s.instance (position + chosen) (instance_at t.addresses s.instance o.child (position + chosen))
      placed_there = placed.object s.instance is_instance t.file is_file t.method object item position instances kind chosen below o.child o.is_child

      instance-meets : (p : ℕ) (course : SpinState → Course SpinState) → standing.At t p course q → (stack : List ℕ) → ((own : Registers) → course (there stack own) ≡ calling.calls_object t.memory (position + chosen) n (there (xs ++ arguments) own)) → Then b (at c p (length xs) (the_mark ∷ marks) stack) (follows_at chosen)
      unfolding calling.calls_object
      instance-meets p course h stack is =
          subst (λ (target : Option Target). Then b (at c p (length xs) (the_mark ∷ marks) stack) (calls callee s stops target arguments return abort)) (sym (target-is item (position + chosen) name (length arguments) n o))
          (target-meets q base marks xs b here values opened unused stops return back p course h stack (target_at o.child n (position + chosen)) (inner_instance chosen is_instance is_file kind below o.is_child) o.file o.is_file o.fits.0 o.fits.1 arguments o.fits.2
          (λ own. is own ∙ ap₂ (λ u v. calling.calls_method t.memory u v n (there (xs ++ arguments) own)) placed_there.base placed_there.variables))

    -- what the bytecode does with the index
    abbrev picks : ℕ → SpinState → Course SpinState
    picks i st =
        if not (is_object t.memory st.pbase position && nat_lt i instances && is_object t.memory st.pbase (position + i)) then Stop Why.Table
        else calling.calls_object t.memory (position + i) n st

    picked-is : (v : ℕ) (own : Registers) → calling.call_indexed t.memory position instances n (there ((xs ++ arguments) ++ v ∷ []) own) ≡ picks v (there (xs ++ arguments) own)
    unfolding calling.call_indexed
    picked-is v own =
        ap (λ (so : Bool). if not so then Stop Why.Under else takes_one 0 picks (there ((xs ++ arguments) ++ v ∷ []) own)) (has-mark here.low)
        ∙ one-is (there ((xs ++ arguments) ++ v ∷ []) own) (xs ++ arguments) v 0 picks (refl, omega (arith, length-append xs arguments), omega (arith, full))

    indexed-meets : (p v : ℕ) → standing.At t p (calling.call_indexed t.memory position instances n) q → (so : Bool) → nat_lt v instances ≡ so → Then b (at c p (length xs) (the_mark ∷ marks) ((xs ++ arguments) ++ v ∷ [])) (if so then follows_at v else halts Why.Table)
    indexed-meets p v h true is =
        let below : v < instances = ltb-true v instances is in
        let first : is_object t.memory c.pbase position ≡ true = ap (is_object t.memory c.pbase) (let z : position ≡ position + 0 = omega arith in z) ∙ (placed_there 0 (omega (arith, below))).is_object in
        instance-meets v below p (calling.call_indexed t.memory position instances n) h ((xs ++ arguments) ++ v ∷ [])
        (λ own. picked-is v own
        ∙ ap (λ (so : Bool). if not so then Stop Why.Table else calling.calls_object t.memory (position + v) n (there (xs ++ arguments) own))
        (all-true (is_object t.memory c.pbase position) (nat_lt v instances) (is_object t.memory c.pbase (position + v)) first is (placed_there v below).is_object))
    indexed-meets p v h false is = λ f own le.
        by-course t.memory t.cog t.table t.hand c p q (length xs) (the_mark ∷ marks) (calling.call_indexed t.memory position instances n) h ((xs ++ arguments) ++ v ∷ []) own f (halts Why.Table) (Stop Why.Table)
        (picked-is v own ∙ ap (λ (so : Bool). if not so then Stop Why.Table else calling.calls_object t.memory (position + v) n (there (xs ++ arguments) own))
        (one-false (is_object t.memory c.pbase position) (nat_lt v instances) (is_object t.memory c.pbase (position + v)) is))
        (follows-halts E Why.Table)

    pub op-meets : (p : ℕ) (i : Index) (names : List ℕ) → length names ≡ index_count i → standing.ObjectOpAt t i position instances n p q → Then b (at c p (length xs) (the_mark ∷ marks) ((xs ++ arguments) ++ names)) (expressions.calls_of_object callee s abort stops (Some (kind_case.Object item position instances)) (index_in i (at_number names 0)) name arguments return)
    unfolding calling.call_object calling.call_indexed
    op-meets p no_index [] is h =
        subst (λ (so : Bool). Then b (at c p (length xs) (the_mark ∷ marks) ((xs ++ arguments) ++ [])) (if so then follows_at 0 else halts Why.Table)) (sym (lt-ltb 0 instances h.0))
        (instance-meets 0 h.0 p (calling.call_object t.memory position n) h.1 ((xs ++ arguments) ++ [])
        (λ own. ap (λ (so : Bool). if not so then Stop Why.Under else if not (is_object t.memory c.pbase position) then Stop Why.Table else calling.calls_object t.memory position n (there ((xs ++ arguments) ++ []) own)) (has-mark here.low)
        ∙ ap (λ (so : Bool). if not so then Stop Why.Table else calling.calls_object t.memory position n (there ((xs ++ arguments) ++ []) own)) (ap (is_object t.memory c.pbase) (let z : position ≡ position + 0 = omega arith in z) ∙ (placed_there 0 h.0).is_object)
        ∙ ap₂ (λ place (ys : List ℕ). calling.calls_object t.memory place n (there ys own)) (let z : position ≡ position + 0 = omega arith in z) (append-nil (xs ++ arguments))))
    op-meets p no_index (x ∷ names) is h = absurd (omega (arith, is))
    op-meets p (index e) [] is h = absurd (omega (arith, is))
    op-meets p (index e) (v ∷ []) is h = indexed-meets p v h (nat_lt v instances) refl
    op-meets p (index e) (x ∷ y ∷ names) is h = absurd (omega (arith, is))

  -- the call of an object's method, by the kind of the object's name
  pub object-meets : (q base : ℕ) (marks : List CallMark) (xs : List ℕ) (b : ℕ) (here : Stands b base marks xs) (values : length xs ≤ room) (opened : length marks ≤ marked) (unused stops : Bool) (return : Returned → Rest)
      (back : (hand : Place) (f : ℕ) (own : Registers) → f ≤ b → (returned : Returned) (given : Option ℕ) (st : SpinState) → Above c.par xs marks own st → GivesBack returned st given → F t.memory t.cog t.table hand f own (calling.goes_back given (called c q base (length xs) (length marks) unused stops) c.calls st) (return returned))
      (object name : List ℕ) (arguments : List ℕ) (full : length (xs ++ arguments) ≤ 16384) (p : ℕ) (i : Index) (names : List ℕ) → length names ≡ index_count i → (kind : Option NameKind) → t.file.kind t.method object ≡ kind → standing.ObjectCallAt t kind i name (length arguments) p q →
      Then b (at c p (length xs) (mark_of base unused stops ∷ marks) ((xs ++ arguments) ++ names)) (expressions.calls_of_object callee s abort stops kind (index_in i (at_number names 0)) name arguments return)
  object-meets q base marks xs b here values opened unused stops return back object name arguments full p i names is (Some (kind_case.Object item position instances)) kind h =
      op-meets q base marks xs b here values opened unused stops return back object item position instances kind name arguments full h.0 h.1 p i names is h.2
  object-meets q base marks xs b here values opened unused stops return back object name arguments full p i names is (Some (kind_case.Const value)) kind h = absurd h
  object-meets q base marks xs b here values opened unused stops return back object name arguments full p i names is (Some (kind_case.Global size offset)) kind h = absurd h
  object-meets q base marks xs b here values opened unused stops return back object name arguments full p i names is (Some (kind_case.Local offset)) kind h = absurd h
  object-meets q base marks xs b here values opened unused stops return back object name arguments full p i names is (Some (kind_case.Label size)) kind h = absurd h
  object-meets q base marks xs b here values opened unused stops return back object name arguments full p i names is (Some (kind_case.Method n params)) kind h = absurd h
  object-meets q base marks xs b here values opened unused stops return back object name arguments full p i names is None kind h = absurd h

  pub used-back : (q base : ℕ) (marks : List CallMark) (xs : List ℕ) (b : ℕ) (stops : Bool) → length xs + 1 ≤ 16384 → (k : ℕ → Rest) → ((value : ℕ) → Then b (at c q base marks (xs ++ value ∷ [])) (k value)) →
      (hand : Place) (f : ℕ) (own : Registers) → f ≤ b → (returned : Returned) (given : Option ℕ) (st : SpinState) → Above c.par xs marks own st → GivesBack returned st given →
      F t.memory t.cog t.table hand f own (calling.goes_back given (called c q base (length xs) (length marks) false stops) c.calls st) (uses returned (λ value. for_statement t.hand (k value)))
  used-back q base marks xs b stops fits k m hand f own le returned given st above is =
      back-used t.memory t.cog t.table hand c q base xs marks stops fits f own returned given st (λ value. for_statement t.hand (k value)) above is
      (λ value. goes-back (engine_of t.memory t.cog) (λ s place. Contains t.table (s.at, place)) t.hand (k value) hand (m value f own le))

  pub where-meets : (so : Bool) {A B : Type 0} (b : ℕ) (state : Registers → SpinState) (r u : Rest) → WhereSo so A B → (A → Then b state r) → (B → Then b state u) → Then b state (if so then r else u)
  where-meets true b state r u h x y = x h
  where-meets false b state r u h x y = y h

  module _ (p q base : ℕ) (marks : List CallMark) (xs : List ℕ) (low : base ≤ length xs) (b : ℕ) where
    -- a variable is read
    pub read-meets : length xs + 1 ≤ 16384 → (v : Variable) → HasRegister false v → standing.ReadAt t v p q → (names : List ℕ) → length names ≡ names_count v → (k : ℕ → Rest) →
        ((value : ℕ) → Then b (at c q base marks (xs ++ value ∷ [])) (k value)) → Then b (at c p base marks (xs ++ names)) (fetches s (site s v names) k)
    unfolding places.uses
    read-meets fits v there h names is k m f own le =
        by-names t.memory t.cog t.table t.hand c p q base marks xs own low f (fetches s (site s v names) k) (names_count v) 1 (standing.reads t v) h names is fits
        (follows-read E c q base marks xs s refl wanted_case.Pushed (site s v names) (there-is false v there names) f f own k (λ value. m value f own le))

    pub assign-meets : (used : Bool) → length xs + leaves_if used ≤ 16384 → (v : Variable) → HasRegister true v → (operator : Option ℕ) → standing.AssignAt t used operator v p q → (right : ℕ) (names : List ℕ) → length names ≡ names_count v → (k : ℕ → Rest) →
        ((value : ℕ) → Then b (at c q base marks (left_on used xs value)) (k value)) → Then b (at c p base marks ((xs ++ right ∷ []) ++ names)) (assigns s operator (site s v names) right k)
    assign-meets used fits v there None h right names is k m f own le =
        by-value t.memory t.cog t.table t.hand c p q base marks xs own low f (assigns s None (site s v names) right k) (names_count v) (leaves_if used) (standing.writes t used v) h right names is fits
        (follows-write E c q base marks xs (site s v names) (there-is true v there names) right (if_used used right) f f own (k right) (λ o. finish-left q base marks xs used right f o (k right) (m right f o le)))
    assign-meets used fits v there (Some operator) h right names is k m f own le =
        let new : ℕ → ℕ = λ value. binary_value operator value right in
        let kept : ℕ → ℕ = λ value. reduced (site s v names) (new value) in
        by-value t.memory t.cog t.table t.hand c p q base marks xs own low f (assigns s (Some operator) (site s v names) right k) (names_count v) (leaves_if used) (standing.operates t h.0 v) h.2 right names is fits
        (follows-read E c q base marks xs s refl (wanted_case.Changed h.0 right) (site s v names) (there-is false v (can_read v there) names) f f own (λ value. stores (site s v names) (new value) (k (kept value)))
        (λ value. subst (λ (d : Course SpinState). K f own d (stores (site s v names) (new value) (k (kept value)))) (sym (operation-is h.1 (site s v names) value right (at c q base marks xs own)))
        (follows-write E c q base marks xs (site s v names) (there-is true v there names) (new value) (if_used used (kept value)) f f own (k (kept value)) (λ o. finish-left q base marks xs used (kept value) f o (k (kept value)) (m (kept value) f o le)))))

    replace-meets : length xs + 1 ≤ 16384 → (v : Variable) → HasRegister true v → (value : ℕ) → standing.ReplaceAt t true value v p q → (names : List ℕ) → length names ≡ names_count v → (k : ℕ → Rest) →
        ((old : ℕ) → Then b (at c q base marks (xs ++ old ∷ [])) (k old)) → Then b (at c p base marks (xs ++ names)) (replaces s (site s v names) value k)
    unfolding places.uses
    replace-meets fits v there value h names is k m f own le =
        by-names t.memory t.cog t.table t.hand c p q base marks xs own low f (replaces s (site s v names) value k) (names_count v) 1 (standing.replaces t true value v) h names is fits
        (follows-read E c q base marks xs s refl (wanted_case.Replaced value) (site s v names) (there-is false v (can_read v there) names) f f own (λ old. stores (site s v names) value (k old))
        (λ old. follows-write E c q base marks xs (site s v names) (there-is true v there names) value (Some old) f f own (k old) (λ o. m old f o le)))

    set-meets : length xs + 0 ≤ 16384 → (v : Variable) → HasRegister true v → (value : ℕ) → standing.ReplaceAt t false value v p q → (names : List ℕ) → length names ≡ names_count v → (k : Rest) →
        Then b (at c q base marks xs) k → Then b (at c p base marks (xs ++ names)) (stores (site s v names) value k)
    set-meets fits v there value h names is k m f own le =
        by-names t.memory t.cog t.table t.hand c p q base marks xs own low f (stores (site s v names) value k) (names_count v) 0 (standing.replaces t false value v) h names is fits
        (follows-write E c q base marks xs (site s v names) (there-is true v there names) value None f f own k (λ o. m f o le))

    abbrev changes_to : (change : ℕ) → Location → (ℕ → Rest) → Rest
    changes_to change where_is k = fetches s where_is (λ old. stores where_is (changed change old) (k (reduced where_is (if gives_old change then old else changed change old))))

    update-meets : (used : Bool) → length xs + leaves_if used ≤ 16384 → (v : Variable) → HasRegister true v → (change : ℕ) → standing.UpdateAt t used change v p q → (names : List ℕ) → length names ≡ names_count v → (k : ℕ → Rest) →
        ((value : ℕ) → Then b (at c q base marks (left_on used xs value)) (k value)) → Then b (at c p base marks (xs ++ names)) (changes_to change (site s v names) k)
    update-meets used fits v there change h names is k m f own le =
        let kept : ℕ → ℕ = λ old. reduced (site s v names) (if gives_old change then old else changed change old) in
        by-names t.memory t.cog t.table t.hand c p q base marks xs own low f (changes_to change (site s v names) k) (names_count v) (leaves_if used) (standing.updates t h.0 v) h.2 names is fits
        (follows-read E c q base marks xs s refl (wanted_case.Changed h.0 0) (site s v names) (there-is false v (can_read v there) names) f f own (λ old. stores (site s v names) (changed change old) (k (kept old)))
        (λ old. subst (λ (d : Course SpinState). K f own d (stores (site s v names) (changed change old) (k (kept old)))) (sym (change-is h.1 (site s v names) old (at c q base marks xs own)))
        (follows-write E c q base marks xs (site s v names) (there-is true v there names) (changed change old) (if_used used (kept old)) f f own (k (kept old)) (λ o. finish-left q base marks xs used (kept old) f o (k (kept old)) (m (kept old) f o le)))))

    pub change-meets : length xs + 1 ≤ 16384 → (v : Variable) → HasRegister true v → (change : ℕ) → standing.ChangeAt t true change v p q → (names : List ℕ) → length names ≡ names_count v → (k : ℕ → Rest) →
        ((value : ℕ) → Then b (at c q base marks (xs ++ value ∷ [])) (k value)) → Then b (at c p base marks (xs ++ names)) (changes s change (site s v names) k)
    change-meets fits v there change h names is k m =
        where-meets (change == 0x18) b (at c p base marks (xs ++ names)) (replaces s (site s v names) 0 k) (if change == 0x1C then replaces s (site s v names) (2 ^ 32 - 1) k else changes_to change (site s v names) k) h
        (λ h0. replace-meets fits v there 0 h0 names is k m)
        (λ h1. where-meets (change == 0x1C) b (at c p base marks (xs ++ names)) (replaces s (site s v names) (2 ^ 32 - 1) k) (changes_to change (site s v names) k) h1
        (λ h0. replace-meets fits v there (2 ^ 32 - 1) h0 names is k m) (λ h2. update-meets true fits v there change h2 names is k m))

    alone-meets : length xs + 0 ≤ 16384 → (v : Variable) → HasRegister true v → (change : ℕ) (clears sets : Bool) → WhereSo clears (standing.ReplaceAt t false 0 v p q) (WhereSo sets (standing.ReplaceAt t false (2 ^ 32 - 1) v p q) (standing.UpdateAt t false change v p q)) → (names : List ℕ) → length names ≡ names_count v → (k : Rest) →
        Then b (at c q base marks xs) k → Then b (at c p base marks (xs ++ names))
        (if clears then stores (site s v names) 0 k else if sets then stores (site s v names) (2 ^ 32 - 1) k
        else (if clears then replaces s (site s v names) 0 (λ value. k) else if sets then replaces s (site s v names) (2 ^ 32 - 1) (λ value. k) else changes_to change (site s v names) (λ value. k)))
    alone-meets fits v there change true sets h names is k m = set-meets fits v there 0 h names is k m
    alone-meets fits v there change false true h names is k m = set-meets fits v there (2 ^ 32 - 1) h names is k m
    alone-meets fits v there change false false h names is k m = update-meets false fits v there change h names is (λ value. k) (λ value. m)

    pub change_alone-meets : length xs + 0 ≤ 16384 → (v : Variable) → HasRegister true v → (change : ℕ) → standing.ChangeAt t false change v p q → (names : List ℕ) → length names ≡ names_count v → (k : Rest) →
        Then b (at c q base marks xs) k → Then b (at c p base marks (xs ++ names)) (changes_alone s change (site s v names) k)
    change_alone-meets fits v there change h names is k m = alone-meets fits v there change (change == 0x18) (change == 0x1C) h names is k m

    -- a name alone
    abbrev Reads : List ℕ → Variable → (ℕ → Rest) → Type 0
    Reads name v k = Then b (at c p base marks xs) (fetches s (named s name 0) k)

    kind-meets : Stands b base marks xs → length xs ≤ room → length marks ≤ marked → length xs + 1 ≤ 16384 → (name : List ℕ) (v : Variable) → (standing.ReadAt t v p q → (k : ℕ → Rest) → ((value : ℕ) → Then b (at c q base marks (xs ++ value ∷ [])) (k value)) → Reads name v k) → (kind : Option NameKind) → standing.KindAt t v kind p q → (k : ℕ → Rest) →
        ((value : ℕ) → Then b (at c q base marks (xs ++ value ∷ [])) (k value)) → Then b (at c p base marks xs) (expressions.value_of_kind callee s abort name kind k)
    kind-meets here high few fits name v reads (Some (kind_case.Const value)) h k m f own le = by-gives t.memory t.cog t.table t.hand c p q base marks xs own low f (k value) value h fits (m value f own le)
    kind-meets here high few fits name v reads (Some (kind_case.Method n params)) h k m f own le =
        backs b (at c p base marks xs) (λ back. expressions.calls_own callee s abort false (Some (kind_case.Method n params)) [] (λ x. uses x (λ value. back (k value)))) (
        let go : ℕ → Rest = λ value. for_statement t.hand (k value) in
        let does : Rest = expressions.calls_own callee s abort false (Some (kind_case.Method n params)) [] (λ x. uses x go) in
        opens-meets p h.0 base marks xs false false h.1 (omega (arith, few, fits_marks)) b does
        (λ f own le. subst (λ (ys : List ℕ). K f own (Finish (at c h.0 (length xs) (mark_of base false false ∷ marks) ys own)) does) (append-nil xs)
        (own-meets q base marks xs b here high few false false (λ x. uses x go)
        (used-back q base marks xs b false fits k m) h.0 (Some (kind_case.Method n params)) [] h.2 f own le))) f own le
    kind-meets here high few fits name v reads (Some (kind_case.Global size offset)) h k m f own le = reads h k m f own le
    kind-meets here high few fits name v reads (Some (kind_case.Local offset)) h k m f own le = reads h k m f own le
    kind-meets here high few fits name v reads (Some (kind_case.Label size)) h k m f own le = reads h k m f own le
    kind-meets here high few fits name v reads (Some (kind_case.Object item position count)) h k m f own le = reads h k m f own le
    kind-meets here high few fits name v reads None h k m f own le = reads h k m f own le

    pub name-meets : Stands b base marks xs → length xs ≤ room → length marks ≤ marked → length xs + 1 ≤ 16384 → (name : List ℕ) (place : Place) → standing.NameAt t name (Named name no_index place) p q → (k : ℕ → Rest) →
        ((value : ℕ) → Then b (at c q base marks (xs ++ value ∷ [])) (k value)) → Then b (at c p base marks xs) (expressions.value_of_name callee s abort name k)
    name-meets here high few fits name place h k m =
        let reads : standing.ReadAt t (Named name no_index place) p q → (k : ℕ → Rest) → ((value : ℕ) → Then b (at c q base marks (xs ++ value ∷ [])) (k value)) → Reads name (Named name no_index place) k =
        λ h k m f own le. subst (λ (ys : List ℕ). K f own (Finish (at c p base marks ys own)) (fetches s (named s name 0) k)) (append-nil xs) (read-meets fits (Named name no_index place) tt h [] refl k m f own le) in
        where-meets (bytes_eq name result_word) b (at c p base marks xs) (fetches s (named s name 0) k) (expressions.value_of_kind callee s abort name (t.file.kind t.method name) k) h
        (λ h0. reads h0 k m) (λ h1. kind-meets here high few fits name (Named name no_index place) reads (t.file.kind t.method name) h1 k m)

  -- ---- built-ins, by what lies on the stack

  module _ (q base : ℕ) (marks : List CallMark) (xs : List ℕ) (low : base ≤ length xs) (fits : length xs + 1 ≤ 16384) (b : ℕ) where
    abbrev Leaves : (used : Bool) → (ℕ → Rest) → Type 0
    Leaves used k = (value : ℕ) → Then b (at c q base marks (left_on used xs value)) (k value)

    -- a value that is left, or dropped at once
    kept-meets : (state : Registers → SpinState) (r : Rest) (Ends : ℕ → Type 0) (k : ℕ → Rest) → ((e : ℕ) → Ends e → ((value : ℕ) → Then b (at c e base marks (xs ++ value ∷ [])) (k value)) → Then b state r) → (used : Bool) → standing.Kept t used Ends q → Leaves used k → Then b state r
    kept-meets state r Ends k m true h n = m q h n
    kept-meets state r Ends k m false h n =
        m h.0 h.1 (λ value f own le. by-one t.memory t.cog t.table t.hand c h.0 q base marks xs own low f (k value) 0 drops h.2 value (omega (arith, fits)) (n value f own le))

    -- what leaves no value
    no_value-meets : (state : Registers → SpinState) (r : Rest) (used : Bool) {A : Type 0} → standing.Alone used A → (A → (used ≡ false) → Then b state r) → Then b state r
    no_value-meets state r true h m = absurd h
    no_value-meets state r false h m = m h refl

    left-none : (used : Bool) → used ≡ false → (k : ℕ → Rest) → Leaves used k → Then b (at c q base marks xs) (k 0)
    left-none used is k n = subst (λ (u : Bool). Then b (at c q base marks (left_on u xs 0)) (k 0)) is (n 0)

    fits_used : (used : Bool) → length xs + leaves_if used ≤ 16384
    fits_used true = fits
    fits_used false = omega (arith, fits)

    -- CLKFREQ and CLKMODE
    hub-meets : (p e : ℕ) (width : Width) (address p1 : ℕ) → standing.At t p (gives address) p1 → standing.At t p1 (takes_one 1 (standing.reads_hub width)) e → (k : ℕ → Rest) → ((value : ℕ) → Then b (at c e base marks (xs ++ value ∷ [])) (k value)) → Then b (at c p base marks xs) (reads width (address % 2 ^ 16) k)
    unfolding places.uses
    hub-meets p e width address p1 h h1 k m f own le =
        by-gives t.memory t.cog t.table t.hand c p p1 base marks xs own low f (reads width (address % 2 ^ 16) k) address h fits
        (by-one t.memory t.cog t.table t.hand c p1 e base marks xs own low f (reads width (address % 2 ^ 16) k) 1 (standing.reads_hub width) h1 address fits
        (follows-read E c e base marks xs s refl wanted_case.Pushed (Hub width (address % 2 ^ 16)) tt f f own k (λ value. m value f own le)))

    pub constant-meets : (used : Bool) (value p : ℕ) → standing.Alone (not used) (standing.At t p (gives value) q) → (k : ℕ → Rest) → Leaves used k → Then b (at c p base marks xs) (k value)
    constant-meets true value p h k n f own le = by-gives t.memory t.cog t.table t.hand c p q base marks xs own low f (k value) value h fits (n value f own le)
    constant-meets false value p h k n f own le = absurd h

    pub none-meets : (used : Bool) (code p : ℕ) → standing.NoneAt t used code p q → (k : ℕ → Rest) → Leaves used k → Then b (at c p base marks xs) (builtins.does_none code k)
    none-meets used code p h k n =
        let state : Registers → SpinState = at c p base marks xs in
        where-meets (code == 0x3F) b state (asks access_case.CogId k) (if code == 0xC0 then reads Long 0 k else if code == 0x80 then reads Byte 4 k else if code == 0x29 then asks access_case.LockNew k else untold) h
        (λ h0. kept-meets state (asks access_case.CogId k) (λ e. standing.At t p (takes_none 1 standing.cog_id) e) k (λ e h1 m f own le. by-none t.memory t.cog t.table t.hand c p e base marks xs own low f (asks access_case.CogId k) 1 standing.cog_id h1 fits (word-follows t.memory t.cog t.table t.hand c e base marks xs f own true access_case.CogId k (λ value. m value f own le))) used h0 n)
        (λ h2. where-meets (code == 0xC0) b state (reads Long 0 k) (if code == 0x80 then reads Byte 4 k else if code == 0x29 then asks access_case.LockNew k else untold) h2
        (λ h0. kept-meets state (reads Long 0 k) (λ e. (p1 : ℕ) × standing.At t p (gives 0) p1 × standing.At t p1 (takes_one 1 (standing.reads_hub Long)) e) k (λ e h1 m. hub-meets p e Long 0 h1.0 h1.1 h1.2 k m) used h0 n)
        (λ h3. where-meets (code == 0x80) b state (reads Byte 4 k) (if code == 0x29 then asks access_case.LockNew k else untold) h3
        (λ h0. kept-meets state (reads Byte 4 k) (λ e. (p1 : ℕ) × standing.At t p (gives 4) p1 × standing.At t p1 (takes_one 1 (standing.reads_hub Byte)) e) k (λ e h1 m. hub-meets p e Byte 4 h1.0 h1.1 h1.2 k m) used h0 n)
        (λ h4. where-meets (code == 0x29) b state (asks access_case.LockNew k) untold h4
        (λ h0 f own le. by-none t.memory t.cog t.table t.hand c p q base marks xs own low f (asks access_case.LockNew k) (leaves_if used) (standing.word_if used access_case.LockNew) h0 (fits_used used) (word-follows t.memory t.cog t.table t.hand c q base marks xs f own used access_case.LockNew k (λ value. n value f own le)))
        (λ h5. absurd h5))))

    pub one-meets : (used : Bool) (code p a : ℕ) → standing.OneAt t used code p q → (k : ℕ → Rest) → Leaves used k → Then b (at c p base marks (xs ++ a ∷ [])) (builtins.does_one code a k)
    one-meets used code p a h k n =
        let state : Registers → SpinState = at c p base marks (xs ++ a ∷ []) in
        let text : Rest = builtins.measures (builtins.room_from (a % 2 ^ 16)) (a % 2 ^ 16) 0 k in
        let stops : Rest = tells (access_case.CogStop (a % 8)) (k 0) in
        let frees : Rest = tells (access_case.LockRet (a % 8)) (k 0) in
        let waits : Rest = tells (access_case.Wait (test_case.Count a)) (k 0) in
        let sets : Rest = asks (access_case.LockSet (a % 8)) k in
        let clears : Rest = asks (access_case.LockClr (a % 8)) k in
        let after5 : Rest = if code == 0x2B then clears else untold in
        let after4 : Rest = if code == 0x2A then sets else after5 in
        let after3 : Rest = if code == 0x23 then waits else after4 in
        let after2 : Rest = if code == 0x22 then frees else after3 in
        let after1 : Rest = if code == 0x21 then stops else after2 in
        where-meets (code == 0x16) b state text after1 h
        (λ h0. kept-meets state text (λ e. standing.At t p (takes_one 1 standing.measures_text) e) k (λ e h1 m f own le. by-one t.memory t.cog t.table t.hand c p e base marks xs own low f text 1 standing.measures_text h1 a fits (measures-follow t.memory t.cog t.table t.hand c e base marks xs f own _ _ 0 k (λ value. m value f own le))) used h0 n)
        (λ h1. where-meets (code == 0x21) b state stops after2 h1
        (λ h0. no_value-meets state stops used h0 (λ h0 is f own le. by-one t.memory t.cog t.table t.hand c p q base marks xs own low f stops 0 standing.stops_cog h0 a (omega (arith, fits)) (tells-follows t.memory t.cog t.table t.hand c q base marks xs f own (access_case.CogStop (a % 8)) (k 0) (left-none used is k n f own le))))
        (λ h2. where-meets (code == 0x22) b state frees after3 h2
        (λ h0. no_value-meets state frees used h0 (λ h0 is f own le. by-one t.memory t.cog t.table t.hand c p q base marks xs own low f frees 0 standing.returns_lock h0 a (omega (arith, fits)) (tells-follows t.memory t.cog t.table t.hand c q base marks xs f own (access_case.LockRet (a % 8)) (k 0) (left-none used is k n f own le))))
        (λ h3. where-meets (code == 0x23) b state waits after4 h3
        (λ h0. no_value-meets state waits used h0 (λ h0 is f own le. by-one t.memory t.cog t.table t.hand c p q base marks xs own low f waits 0 standing.waits_until h0 a (omega (arith, fits)) (tells-follows t.memory t.cog t.table t.hand c q base marks xs f own (access_case.Wait (test_case.Count a)) (k 0) (left-none used is k n f own le))))
        (λ h4. where-meets (code == 0x2A) b state sets after5 h4
        (λ h0 f own le. by-one t.memory t.cog t.table t.hand c p q base marks xs own low f sets (leaves_if used) (standing.sets_lock used) h0 a (fits_used used) (word-follows t.memory t.cog t.table t.hand c q base marks xs f own used (access_case.LockSet (a % 8)) k (λ value. n value f own le)))
        (λ h5. where-meets (code == 0x2B) b state clears untold h5
        (λ h0 f own le. by-one t.memory t.cog t.table t.hand c p q base marks xs own low f clears (leaves_if used) (standing.clears_lock used) h0 a (fits_used used) (word-follows t.memory t.cog t.table t.hand c q base marks xs f own used (access_case.LockClr (a % 8)) k (λ value. n value f own le)))
        (λ h6. absurd h6))))))

    pub two-meets : (used : Bool) (code p x y : ℕ) → standing.TwoAt t used code p q → (k : ℕ → Rest) → Leaves used k → Then b (at c p base marks ((xs ++ x ∷ []) ++ y ∷ [])) (builtins.does_two code x y k)
    two-meets used code p x y h k n =
        let state : Registers → SpinState = at c p base marks ((xs ++ x ∷ []) ++ y ∷ []) in
        let texts : Rest = builtins.compares (builtins.room_from (x % 2 ^ 16)) (x % 2 ^ 16) (y % 2 ^ 16) k in
        where-meets (code == 0x17) b state texts untold h
        (λ h0. kept-meets state texts (λ e. standing.At t p (takes_two 1 standing.compares_texts) e) k (λ e h1 m f own le. by-two t.memory t.cog t.table t.hand c p e base marks xs own low f texts 1 standing.compares_texts h1 x y fits (compares-follow t.memory t.cog t.table t.hand c e base marks xs f own _ _ _ k (λ value. m value f own le))) used h0 n)
        (λ h1. absurd h1)

    pub three-meets : (used : Bool) (code p x y z : ℕ) → standing.ThreeAt t used code p q → (k : ℕ → Rest) → Leaves used k → Then b (at c p base marks (((xs ++ x ∷ []) ++ y ∷ []) ++ z ∷ [])) (builtins.does_three code x y z k)
    three-meets used code p x y z h k n =
        let state : Registers → SpinState = at c p base marks (((xs ++ x ∷ []) ++ y ∷ []) ++ z ∷ []) in
        let fills : Width → Rest = λ width. builtins.fills width (x % 2 ^ 16) y (count_of z) (k 0) in
        let moves : Width → Rest = λ width. builtins.moves width (x % 2 ^ 16) (y % 2 ^ 16) (count_of z) (k 0) in
        let equal : Rest = builtins.waits_for z (test_case.PinsEqual x y) (k 0) in
        let differ : Rest = builtins.waits_for z (test_case.PinsDiffer x y) (k 0) in
        let after7 : Rest = if code == 0x1F then differ else untold in
        let after6 : Rest = if code == 0x1E then moves Long else after7 in
        let after5 : Rest = if code == 0x1D then moves Word else after6 in
        let after4 : Rest = if code == 0x1C then moves Byte else after5 in
        let after3 : Rest = if code == 0x1B then equal else after4 in
        let after2 : Rest = if code == 0x1A then fills Long else after3 in
        let after1 : Rest = if code == 0x19 then fills Word else after2 in
        where-meets (code == 0x18) b state (fills Byte) after1 h (fills-meet Byte)
        (λ h1. where-meets (code == 0x19) b state (fills Word) after2 h1 (fills-meet Word)
        (λ h2. where-meets (code == 0x1A) b state (fills Long) after3 h2 (fills-meet Long)
        (λ h3. where-meets (code == 0x1B) b state equal after4 h3
        (λ h0. no_value-meets state equal used h0 (λ h0 is f own le. by-three t.memory t.cog t.table t.hand c p q base marks xs own low f equal 0 standing.waits_equal h0 x y z (omega (arith, fits)) (waits-follow t.memory t.cog t.table t.hand c q base marks xs f own z (test_case.PinsEqual x y) (k 0) (left-none used is k n f own le))))
        (λ h4. where-meets (code == 0x1C) b state (moves Byte) after5 h4 (moves-meet Byte)
        (λ h5. where-meets (code == 0x1D) b state (moves Word) after6 h5 (moves-meet Word)
        (λ h6. where-meets (code == 0x1E) b state (moves Long) after7 h6 (moves-meet Long)
        (λ h7. where-meets (code == 0x1F) b state differ untold h7
        (λ h0. no_value-meets state differ used h0 (λ h0 is f own le. by-three t.memory t.cog t.table t.hand c p q base marks xs own low f differ 0 standing.waits_differ h0 x y z (omega (arith, fits)) (waits-follow t.memory t.cog t.table t.hand c q base marks xs f own z (test_case.PinsDiffer x y) (k 0) (left-none used is k n f own le))))
        (λ h8. absurd h8))))))))
      where
        fills-meet : (width : Width) → standing.Alone used (standing.At t p (takes_three 0 (standing.fills_row width)) q) → Then b (at c p base marks (((xs ++ x ∷ []) ++ y ∷ []) ++ z ∷ [])) (builtins.fills width (x % 2 ^ 16) y (count_of z) (k 0))
        fills-meet width h0 = no_value-meets (at c p base marks (((xs ++ x ∷ []) ++ y ∷ []) ++ z ∷ [])) (builtins.fills width (x % 2 ^ 16) y (count_of z) (k 0)) used h0
            (λ h0 is f own le. by-three t.memory t.cog t.table t.hand c p q base marks xs own low f (builtins.fills width (x % 2 ^ 16) y (count_of z) (k 0)) 0 (standing.fills_row width) h0 x y z (omega (arith, fits)) (fills-follow t.memory t.cog t.table t.hand c q base marks xs f own (count_of z) width (x % 2 ^ 16) y (k 0) (left-none used is k n f own le)))

        moves-meet : (width : Width) → standing.Alone used (standing.At t p (takes_three 0 (standing.moves_row width)) q) → Then b (at c p base marks (((xs ++ x ∷ []) ++ y ∷ []) ++ z ∷ [])) (builtins.moves width (x % 2 ^ 16) (y % 2 ^ 16) (count_of z) (k 0))
        moves-meet width h0 = no_value-meets (at c p base marks (((xs ++ x ∷ []) ++ y ∷ []) ++ z ∷ [])) (builtins.moves width (x % 2 ^ 16) (y % 2 ^ 16) (count_of z) (k 0)) used h0
            (λ h0 is f own le. by-three t.memory t.cog t.table t.hand c p q base marks xs own low f (builtins.moves width (x % 2 ^ 16) (y % 2 ^ 16) (count_of z) (k 0)) 0 (standing.moves_row width) h0 x y z (omega (arith, fits)) (moves-follow t.memory t.cog t.table t.hand c q base marks xs f own (count_of z) width (x % 2 ^ 16) (y % 2 ^ 16) (k 0) (left-none used is k n f own le)))

    -- ---- starts

    -- Propeller Assembly, by the cog's number, the address and PAR
    pasm-meets : (used : Bool) (p id code par : ℕ) → standing.At t p (takes_three (leaves_if used) (standing.starts_pasm used)) q → (k : ℕ → Rest) → Leaves used k → Then b (at c p base marks (((xs ++ id ∷ []) ++ code ∷ []) ++ par ∷ [])) (builtins.starts_pasm id code par k)
    pasm-meets used p id code par h k n f own le =
        by-three t.memory t.cog t.table t.hand c p q base marks xs own low f (builtins.starts_pasm id code par k) (leaves_if used) (standing.starts_pasm used) h id code par (fits_used used)
        (word-follows t.memory t.cog t.table t.hand c q base marks xs f own used _ k (λ value. n value f own le))

    -- a method of the same object
    pub start-meets : (used : Bool) (kind : Option NameKind) (p id : ℕ) (arguments : List ℕ) (stack : ℕ) → standing.StartAt t used kind (length arguments) p q → (k : ℕ → Rest) → Leaves used k → Then b (at c p base marks (((xs ++ id ∷ []) ++ arguments) ++ stack ∷ [])) (starts_method s id (own_target s kind) arguments stack k)
    start-meets used (Some (kind_case.Method n params)) p id arguments stack h k m =
        let target : Target = record { instance = s.instance; method = n } in
        let placed_there : MethodPlaced t.memory t.cog t.program t.addresses placed.table target t.file h.0.0 = placed.method target is_instance t.file is_file h.0.0 h.0.1 in
        let begun : entry.Callee = method_at t.memory c.pbase c.vbase n in
        let starts : ℕ → ℕ → Rest = λ code locals. writes_longs ((builtins.long_address stack + 4) % 2 ^ 16) arguments (asks (access_case.CogInit (builtins.cog_named id) (origin_case.Spin code c.pbase c.vbase (builtins.long_address stack) ((4 * length arguments + locals) % 2 ^ 16))) k) in
        kept-meets (at c p base marks (((xs ++ id ∷ []) ++ arguments) ++ stack ∷ [])) (starts_method s id (own_target s (Some (kind_case.Method n params))) arguments stack k) (λ e. standing.At t p (cogs.start_method t.memory n (length arguments)) e) k
        (λ e h1 m f own le. by t.memory t.cog t.table t.hand c p e base marks (cogs.start_method t.memory n (length arguments)) h1 (((xs ++ id ∷ []) ++ arguments) ++ stack ∷ []) own f (starts_method s id (own_target s (Some (kind_case.Method n params))) arguments stack k)
        (subst (λ (o : Option MethodTree). K f own (cogs.start_method t.memory n (length arguments) (at c e base marks (((xs ++ id ∷ []) ++ arguments) ++ stack ∷ []) own)) (given o (λ tree. starts ((c.pbase + t.addresses.code t.number n) % 2 ^ 16) (locals_size (setting_of t.file 0) tree.locals)))) (sym h.0.1)
        (subst (λ (code : ℕ). K f own (cogs.start_method t.memory n (length arguments) (at c e base marks (((xs ++ id ∷ []) ++ arguments) ++ stack ∷ []) own)) (starts code (locals_size (setting_of t.file 0) h.0.0.locals))) (sym placed_there.entry)
        (subst (λ (locals : ℕ). K f own (cogs.start_method t.memory n (length arguments) (at c e base marks (((xs ++ id ∷ []) ++ arguments) ++ stack ∷ []) own)) (starts begun.entry locals)) placed_there.locals
        (start-follows t.memory t.cog t.table t.hand c e base marks xs f own low id arguments stack n fits placed_there.is_method k (λ value. m value f own le)))))) used h.1 m
    start-meets used (Some (kind_case.Const value)) p id arguments stack h k m = absurd h
    start-meets used (Some (kind_case.Global size offset)) p id arguments stack h k m = absurd h
    start-meets used (Some (kind_case.Local offset)) p id arguments stack h k m = absurd h
    start-meets used (Some (kind_case.Label size)) p id arguments stack h k m = absurd h
    start-meets used (Some (kind_case.Object item position count)) p id arguments stack h k m = absurd h
    start-meets used None p id arguments stack h k m = absurd h

  -- a choice that heights depend on
  pub where-deep : (so : Bool) {A B : Type 0} (x y : ℕ) (xs : List ℕ) (b : ℕ) (state : Registers → SpinState) (r u : Rest) → length xs + max 1 (if so then x else y) ≤ room → WhereSo so A B → (A → length xs + max 1 x ≤ room → Then b state r) → (B → length xs + max 1 y ≤ room → Then b state u) → Then b state (if so then r else u)
  where-deep true x y xs b state r u fits h m n = m h fits
  where-deep false x y xs b state r u fits h m n = n h fits

  -- what gives a value, by where its code stands
  abbrev pub Gives_at : (b base : ℕ) (marks : List CallMark) (deep : ℕ) → ((p q : ℕ) → Type 0) → Gives ℕ → Type 0
  Gives_at b base marks deep At_place gives =
      (p q : ℕ) → At_place p q → (xs : List ℕ) → Stands b base marks xs → length xs + deep ≤ room → (k : ℕ → Rest) → ((value : ℕ) → Then b (at c q base marks (xs ++ value ∷ [])) (k value)) → Then b (at c p base marks xs) (gives k)

  pub begun_pasm-meets : (b base : ℕ) (marks : List CallMark) (used : Bool) (id : ℕ) (First Second : (p q : ℕ) → Type 0) (first second : Gives ℕ) (deep high : ℕ) → Gives_at b base marks deep First first → Gives_at b base marks high Second second →
      (p q : ℕ) → standing.PasmAt t used First Second p q → (xs : List ℕ) → Stands b base marks xs → length xs + (1 + max deep (1 + high)) ≤ room → (k : ℕ → Rest) → ((value : ℕ) → Then b (at c q base marks (left_on used xs value)) (k value)) → Then b (at c p base marks (xs ++ id ∷ [])) (expressions.begins_pasm callee s abort id first second k)
  begun_pasm-meets b base marks used id First Second first second deep high m n p q h xs here fits k goes =
      m p h.0 h.2 (xs ++ id ∷ []) (up here id) (omega (arith, fits, length-append xs (id ∷ []))) (λ code. second (λ par. builtins.starts_pasm id code par k))
      (λ code. n h.0 h.1 h.3 ((xs ++ id ∷ []) ++ code ∷ []) (up (up here id) code) (omega (arith, fits, length-append xs (id ∷ []), length-append (xs ++ id ∷ []) (code ∷ []))) (λ par. builtins.starts_pasm id code par k)
      (λ par. pasm-meets q base marks xs here.low.low (omega (arith, fits, fits_stack)) b used h.1 id code par h.4 k goes))

  pub begun_name-meets : (b base : ℕ) (marks : List CallMark) (used : Bool) (id : ℕ) (name : List ℕ) (kind : Option NameKind) → kind_of s name ≡ kind → (First Second : (p q : ℕ) → Type 0) (first second : Gives ℕ) (deep high : ℕ) → Gives_at b base marks deep First first → Gives_at b base marks high Second second →
      (p q : ℕ) → standing.BeginsNameAt t used kind First Second p q → (xs : List ℕ) → Stands b base marks xs → length xs + (1 + (if standing.is_method_kind kind then high else max deep (1 + high))) ≤ room → (k : ℕ → Rest) → ((value : ℕ) → Then b (at c q base marks (left_on used xs value)) (k value)) → Then b (at c p base marks (xs ++ id ∷ [])) (expressions.begins_name callee s abort id name kind first second k)
  begun_name-meets b base marks used id name (Some (kind_case.Method i params)) is First Second first second deep high m n p q h xs here fits k goes =
      n p h.0 h.1 (xs ++ id ∷ []) (up here id) (omega (arith, fits, length-append xs (id ∷ []))) (λ stack. starts_method s id (own_target s (kind_of s name)) [] stack k)
      (λ stack f own le. subst (λ (kind : Option NameKind). K f own (Finish (at c h.0 base marks ((xs ++ id ∷ []) ++ stack ∷ []) own)) (starts_method s id (own_target s kind) [] stack k)) (sym is)
      (subst (λ (ys : List ℕ). K f own (Finish (at c h.0 base marks (ys ++ stack ∷ []) own)) (starts_method s id (own_target s (Some (kind_case.Method i params))) [] stack k)) (append-nil (xs ++ id ∷ []))
      (start-meets q base marks xs here.low.low (omega (arith, fits, fits_stack)) b used (Some (kind_case.Method i params)) h.0 id [] stack h.2 k goes f own le)))
  begun_name-meets b base marks used id name (Some (kind_case.Const value)) is First Second first second deep high m n p q h xs here fits k goes = begun_pasm-meets b base marks used id First Second first second deep high m n p q h xs here fits k goes
  begun_name-meets b base marks used id name (Some (kind_case.Global size offset)) is First Second first second deep high m n p q h xs here fits k goes = begun_pasm-meets b base marks used id First Second first second deep high m n p q h xs here fits k goes
  begun_name-meets b base marks used id name (Some (kind_case.Local offset)) is First Second first second deep high m n p q h xs here fits k goes = begun_pasm-meets b base marks used id First Second first second deep high m n p q h xs here fits k goes
  begun_name-meets b base marks used id name (Some (kind_case.Label size)) is First Second first second deep high m n p q h xs here fits k goes = begun_pasm-meets b base marks used id First Second first second deep high m n p q h xs here fits k goes
  begun_name-meets b base marks used id name (Some (kind_case.Object item position count)) is First Second first second deep high m n p q h xs here fits k goes = begun_pasm-meets b base marks used id First Second first second deep high m n p q h xs here fits k goes
  begun_name-meets b base marks used id name None is First Second first second deep high m n p q h xs here fits k goes = begun_pasm-meets b base marks used id First Second first second deep high m n p q h xs here fits k goes

  -- an item that is tried
  tried : (so : Bool) (found_value count wanted target q base : ℕ) (marks : List CallMark) (xs : List ℕ) (f : ℕ) (own : Registers) (r u : Rest) → K f own (Finish (at c target base marks (xs ++ found_value ∷ []) own)) r → K f own (Finish (at c q base marks ((xs ++ wanted ∷ []) ++ count ∷ []) own)) u →
      K f own (Finish (if so then at c target base marks (xs ++ found_value ∷ []) own else at c q base marks ((xs ++ wanted ∷ []) ++ count ∷ []) own)) (if so then r else u)
  tried true found_value count wanted target q base marks xs f own r u m n = m
  tried false found_value count wanted target q base marks xs f own r u m n = n

  module _ (wanted count : ℕ) where
    pub item-tried : (goes : Bool) (value target q base : ℕ) (marks : List CallMark) (xs : List ℕ) (f : ℕ) (own : Registers) (found none : ℕ → Rest) → ((x : ℕ) → K f own (Finish (at c target base marks (xs ++ x ∷ []) own)) (found x)) → ((x : ℕ) → K f own (Finish (at c q base marks ((xs ++ wanted ∷ []) ++ x ∷ []) own)) (none x)) →
        K f own (standing.tries_item goes target wanted count value (at c q base marks xs own)) (expressions.tries goes wanted count value found none)
    item-tried true value target q base marks xs f own found none m n = tried (wanted == count) value (sum_of count 1) wanted target q base marks xs f own (found value) (none (sum_of count 1)) (m value) (n (sum_of count 1))
    item-tried false value target q base marks xs f own found none m n = tried (wanted == value) count (sum_of count 1) wanted target q base marks xs f own (found count) (none (sum_of count 1)) (m count) (n (sum_of count 1))

    pub both-tried : (goes : Bool) (low high target q base : ℕ) (marks : List CallMark) (xs : List ℕ) (f : ℕ) (own : Registers) (found none : ℕ → Rest) → ((x : ℕ) → K f own (Finish (at c target base marks (xs ++ x ∷ []) own)) (found x)) → ((x : ℕ) → K f own (Finish (at c q base marks ((xs ++ wanted ∷ []) ++ x ∷ []) own)) (none x)) →
        K f own (standing.tries_both goes target wanted count low high (at c q base marks xs own)) (expressions.tries_range goes wanted count low high found none)
    both-tried true low high target q base marks xs f own found none m n =
        let x : ℕ = toward low high (difference wanted count) in
        let next : ℕ = expressions.behind_range count low high in
        tried (nat_le (difference wanted count) (distance low high)) x next wanted target q base marks xs f own (found x) (none next) (m x) (n next)
    both-tried false low high target q base marks xs f own found none m n =
        let x : ℕ = sum_of count (distance wanted low) in
        let next : ℕ = expressions.behind_range count low high in
        tried (is_between wanted low high) x next wanted target q base marks xs f own (found x) (none next) (m x) (n next)

  -- the sign `+` gives its operand
  pub signed_same : (operator a : ℕ) → operator ≡ 0xEC → unary_value operator a ≡ a
  unfolding unary_values
  signed_same operator a is = ap (λ (o : ℕ). unary_value o a) is

  pub where-is : (so : Bool) {A B X : Type 0} → WhereSo so A B → (A → so ≡ true → X) → (B → X) → X
  where-is true h x y = x h refl
  where-is false h x y = y h

  -- a longer stack
  pub longer : (xs : List ℕ) (value : ℕ) → length (xs ++ value ∷ []) ≡ length xs + 1
  longer xs value = length-append xs (value ∷ [])
