-- Each form of a method keeps it that a greater bound tells more.
use Rattle.std.proofs.Common.{refl, arith, ℕ, zero, suc, ◌+◌, ◌-◌, ◌%◌, ◌^◌, ◌≤◌, ◌==◌, Bool, true, false, if◌then◌else◌, nat_lt, List, [], ◌∷◌, Option, Some, None}
use Rattle.std.specs.Prelude.{slice_get}
use Rattle.std.specs.Str.{bytes_eq}
use Rattle.p8_access.specs.declared.kinds.Width.{Width}
use Rattle.p8_access.specs.declared.kinds.Width.TheVariants.{Byte, Word, Long}
use Rattle.p8_access.specs.declared.kinds.Test.{Test}
use Rattle.p8_access.specs.declared.kinds.Test.TheVariants.{PinsEqual, PinsDiffer}
use Rattle.p8_access.specs.declared.kinds.Access.TheVariants as asked
use Rattle.p8_access.specs.declared.kinds.Reason.TheVariants as Why
use Rattle.p8_access.specs.declared.kinds.Test.TheVariants as test_case
use Rattle.p8_tree.specs.Names.{result_word}
use Rattle.p8_tree.specs.Expressions.{Tree, node, Number, Str, Strings, Here, Var, Call, Unary, Binary, Assign, Change, Address, ObjectAddress, ObjConst, Built, Look, Variable, Named, Part, Memory, Register, Index, no_index, index, Bits, whole, bits, Item, single, range, Trees, no_trees, ◌▷◌, Items, no_items, ◌▸◌}
use Rattle.p8_tree.specs.Sources.{MethodTree}
use Rattle.p8_tree.specs.declared.places.Place.{Place}
use Rattle.p8_tree.specs.Statements.{Course as Loop, Forever, Count, Before, After, From, Statement, statement, Action, Do, If, Case, Repeat, Next, Quit, Return, Abort, arm, Otherwise, nothing_else, otherwise, Statements, no_statements, ◌▹◌, Arms, no_arms, ◌⊳◌}
use Rattle.p8_kinds.specs.declared.name_kinds.NameKind.{NameKind}
use Rattle.p8_kinds.specs.declared.name_kinds.NameKind.TheVariants as kind_case
use Rattle.p8_meaning.specs.Values.{count_of, difference, is_between, holds, stepped, with_pins, pins_of}
use Rattle.p8_meaning.specs.Programs.{Program, Addresses, Scope, Target, kind_of, own_target, object_target}
use Rattle.p8_meaning.specs.Doing.{aligned, Rest, Gives, untold, next_address}
use Rattle.p8_meaning.specs.Variables.{Location, Hub, Pins, element, named, part, own_word, fetches, stores, reads_register, writes_register, assigns, replaces, changes, changes_alone}
use Rattle.p8_meaning.specs.Builtins.{fills, moves, measures, compares, waits_for, new_cog, does_none, does_one, does_two, does_three}
use Rattle.p8_meaning.specs.Calls.{Returned, Value, Result, uses, used, unused, Callee, calls, starts_method, method_of}
use Rattle.p8_meaning.specs.Loops.{passes, counted}
use Rattle.p8_meaning.specs.Expressions as expressions
use Rattle.p8_meaning.specs.Statements as statements
use Rattle.p8_meaning.specs.Statements.{Body, for_itself}
use Rattle.p8_meaning.specs.Lives.{meaning, begins, scope_with, stops, cleared, life_of}
use Rattle.p8_meaning.proofs.Growing.{Grows, Goes, Leads, untold-goes, for_statement-goes, costs-goes, halts-goes, if-goes, asks-goes, tells-goes, reads-goes, writes-goes, writes_longs-goes, given-goes}

-- ---- variables

reads_register-goes : (par register : ℕ) {k l : ℕ → Rest} → Leads k l → Goes (reads_register par register k) (reads_register par register l)
reads_register-goes par register g =
    if-goes (register == 0x1F1) (asks-goes asked.Clock tt g)
    (if-goes (register == 0x1F2) (asks-goes asked.PinsIn tt g)
    (record { by = λ b c le own. (g (own_word par register own)).by b c le own }))

writes_register-goes : (register high low value : ℕ) {r t : Rest} → Goes r t → Goes (writes_register register high low value r) (writes_register register high low value t)
writes_register-goes register high low value g =
    if-goes (register == 0x1F4) (record { by = λ b c le own. (refl, tt, λ answer. g.by b c le (record own { outa = with_pins high low value own.outa })) })
    (if-goes (register == 0x1F6) (record { by = λ b c le own. (refl, tt, λ answer. g.by b c le (record own { dira = with_pins high low value own.dira })) }) g)

fetches-goes : (s : Scope) (p : Location) {k l : ℕ → Rest} → Leads k l → Goes (fetches s p k) (fetches s p l)
fetches-goes s (Hub width address) g = reads-goes width address g
fetches-goes s (Pins register high low) g = reads_register-goes s.par register (λ word. g (pins_of high low word))

stores-goes : (p : Location) (value : ℕ) {r t : Rest} → Goes r t → Goes (stores p value r) (stores p value t)
stores-goes (Hub width address) value g = writes-goes width address value g
stores-goes (Pins register high low) value g = writes_register-goes register high low value g

assigns-goes : (s : Scope) (operator : Option ℕ) (p : Location) (right : ℕ) {k l : ℕ → Rest} → Leads k l → Goes (assigns s operator p right k) (assigns s operator p right l)
assigns-goes s None p right g = stores-goes p right (g right)
assigns-goes s (Some operator) p right g = fetches-goes s p (λ old. stores-goes p _ (g _))

replaces-goes : (s : Scope) (p : Location) (value : ℕ) {k l : ℕ → Rest} → Leads k l → Goes (replaces s p value k) (replaces s p value l)
replaces-goes s p value g = fetches-goes s p (λ old. stores-goes p value (g old))

changes-goes : (s : Scope) (change : ℕ) (p : Location) {k l : ℕ → Rest} → Leads k l → Goes (changes s change p k) (changes s change p l)
changes-goes s change p g =
    if-goes (change == 0x18) (replaces-goes s p 0 g)
    (if-goes (change == 0x1C) (replaces-goes s p _ g)
    (fetches-goes s p (λ old. stores-goes p _ (g _))))

changes_alone-goes : (s : Scope) (change : ℕ) (p : Location) {r t : Rest} → Goes r t → Goes (changes_alone s change p r) (changes_alone s change p t)
changes_alone-goes s change p g =
    if-goes (change == 0x18) (stores-goes p 0 g)
    (if-goes (change == 0x1C) (stores-goes p _ g)
    (changes-goes s change p (λ value. g)))

-- ---- built-ins

fills-goes : (left : ℕ) (width : Width) (address value : ℕ) {r t : Rest} → Goes r t → Goes (fills width address value left r) (fills width address value left t)
fills-goes zero width address value g = record { by = λ b c le own. g.by b c le own }
fills-goes (suc left) width address value g = record {
  by = λ b c le own.
      (writes-goes width address value (fills-goes left width (next_address width address) value g)).by b c le own;
}

moves-goes : (left : ℕ) (width : Width) (to from : ℕ) {r t : Rest} → Goes r t → Goes (moves width to from left r) (moves width to from left t)
moves-goes zero width to from g = record { by = λ b c le own. g.by b c le own }
moves-goes (suc left) width to from g = record {
  by = λ b c le own.
      (reads-goes width from (λ word. writes-goes width to word (moves-goes left width (next_address width to) (next_address width from) g))).by b c le own;
}

measures-goes : (room address count : ℕ) {k l : ℕ → Rest} → Leads k l → Goes (measures room address count k) (measures room address count l)
measures-goes zero address count g = record { by = λ b c le own. (refl, tt) }
measures-goes (suc room) address count g = record {
  by = λ b c le own.
      (asks-goes (asked.Read Byte (aligned Byte address)) tt (λ byte. if-goes (byte == 0) (g count) (measures-goes room (address + 1) (count + 1) g))).by b c le own;
}

compares-goes : (room first second : ℕ) {k l : ℕ → Rest} → Leads k l → Goes (compares room first second k) (compares room first second l)
compares-goes zero first second g = record { by = λ b c le own. (refl, tt) }
compares-goes (suc room) first second g = record {
  by = λ b c le own.
      (asks-goes (asked.Read Byte (aligned Byte first)) tt (λ one. reads-goes Byte second (λ other.
      if-goes (one == other) (if-goes (one == 0) (g (2 ^ 32 - 1)) (compares-goes room (first + 1) (second + 1) g)) (g 0)))).by b c le own;
}

waits_for-goes : (port : ℕ) (test : Test) {r t : Rest} → Goes r t → Goes (waits_for port test r) (waits_for port test t)
waits_for-goes port test g = if-goes (port == 0) (tells-goes (asked.Wait test) tt g) (halts-goes Why.Port tt)

does_none-goes : (code : ℕ) {k l : ℕ → Rest} → Leads k l → Goes (does_none code k) (does_none code l)
does_none-goes code g =
    if-goes (code == 0x3F) (asks-goes asked.CogId tt g)
    (if-goes (code == 0xC0) (reads-goes Long 0 g)
    (if-goes (code == 0x80) (reads-goes Byte 4 g)
    (if-goes (code == 0x29) (asks-goes asked.LockNew tt g) (untold-goes untold))))

does_one-goes : (code a : ℕ) {k l : ℕ → Rest} → Leads k l → Goes (does_one code a k) (does_one code a l)
does_one-goes code a g =
    if-goes (code == 0x16) (measures-goes _ _ 0 g)
    (if-goes (code == 0x21) (tells-goes (asked.CogStop (a % 8)) tt (g 0))
    (if-goes (code == 0x22) (tells-goes (asked.LockRet (a % 8)) tt (g 0))
    (if-goes (code == 0x23) (tells-goes (asked.Wait (test_case.Count a)) tt (g 0))
    (if-goes (code == 0x2A) (asks-goes (asked.LockSet (a % 8)) tt g)
    (if-goes (code == 0x2B) (asks-goes (asked.LockClr (a % 8)) tt g) (untold-goes untold))))))

does_two-goes : (code a b : ℕ) {k l : ℕ → Rest} → Leads k l → Goes (does_two code a b k) (does_two code a b l)
does_two-goes code a b g = if-goes (code == 0x17) (compares-goes _ _ _ g) (untold-goes untold)

does_three-goes : (code a b c : ℕ) {k l : ℕ → Rest} → Leads k l → Goes (does_three code a b c k) (does_three code a b c l)
does_three-goes code a b c g =
    if-goes (code == 0x18) (fills-goes (count_of c) Byte (a % 2 ^ 16) b (g 0))
    (if-goes (code == 0x19) (fills-goes (count_of c) Word (a % 2 ^ 16) b (g 0))
    (if-goes (code == 0x1A) (fills-goes (count_of c) Long (a % 2 ^ 16) b (g 0))
    (if-goes (code == 0x1B) (waits_for-goes c (PinsEqual a b) (g 0))
    (if-goes (code == 0x1C) (moves-goes (count_of c) Byte (a % 2 ^ 16) (b % 2 ^ 16) (g 0))
    (if-goes (code == 0x1D) (moves-goes (count_of c) Word (a % 2 ^ 16) (b % 2 ^ 16) (g 0))
    (if-goes (code == 0x1E) (moves-goes (count_of c) Long (a % 2 ^ 16) (b % 2 ^ 16) (g 0))
    (if-goes (code == 0x1F) (waits_for-goes c (PinsDiffer a b) (g 0)) (untold-goes untold))))))))

-- ---- calls

uses-goes : (x : Returned) {k l : ℕ → Rest} → Leads k l → Goes (uses x k) (uses x l)
uses-goes (Value value) g = g value
uses-goes (Result frame) g = reads-goes Long frame g

starts_method-goes : (s : Scope) (id : ℕ) (target : Option Target) (arguments : List ℕ) (stack : ℕ) {k l : ℕ → Rest} → Leads k l → Goes (starts_method s id target arguments stack k) (starts_method s id target arguments stack l)
starts_method-goes s id target arguments stack g =
    given-goes target (λ t. given-goes (method_of s.file t.method) (λ m. writes_longs-goes arguments _ (asks-goes (asked.CogInit _ _) tt g)))

-- what a called method does is told further by a greater bound, where what follows it is
pub record CalleeGoes (callee other : Callee) : Type 0 where
  pub by : (target : Target) (arguments : List ℕ) (frame active : ℕ) {r t p q : Returned → Rest} → Leads r t → Leads p q →
      Goes (callee target arguments frame active r p) (other target arguments frame active t q)

if-leads : (x : Bool) {r t p q : Returned → Rest} → Leads r t → Leads p q → Leads (if x then r else p) (if x then t else q)
if-leads true g h = g
if-leads false g h = h

-- ---- LOOKUP and LOOKDOWN

tries-goes : (up : Bool) (wanted count value : ℕ) {f g n m : ℕ → Rest} → Leads f g → Leads n m → Goes (expressions.tries up wanted count value f n) (expressions.tries up wanted count value g m)
tries-goes true wanted count value found none = if-goes (wanted == count) (found _) (none _)
tries-goes false wanted count value found none = if-goes (wanted == value) (found _) (none _)

tries_range-goes : (up : Bool) (wanted count low high : ℕ) {f g n m : ℕ → Rest} → Leads f g → Leads n m → Goes (expressions.tries_range up wanted count low high f n) (expressions.tries_range up wanted count low high g m)
tries_range-goes true wanted count low high found none = if-goes _ (found _) (none _)
tries_range-goes false wanted count low high found none = if-goes _ (found _) (none _)

-- ---- expressions

-- what gives a value is told further, where what follows it is
pub record GivesMore {A : Type 0} (x y : Gives A) : Type 0 where
  pub by : {k l : A → Rest} → Leads k l → Goes (x k) (y l)

used-goes : {x y : Gives Returned} → GivesMore x y → {k l : ℕ → Rest} → Leads k l → Goes (used x k) (used y l)
used-goes h g = record { by = λ b c le own. (h.by (λ x. uses-goes x (λ value. for_statement-goes own.statement (g value)))).by b c le own }

unused-goes : {x y : Gives Returned} → GivesMore x y → {r t : Rest} → Goes r t → Goes (unused x r) (unused y t)
unused-goes h g = record { by = λ b c le own. (h.by (λ x. for_statement-goes own.statement g)).by b c le own }

module _ (callee other : Callee) (s : Scope) (abort aborts : Returned → Rest) (callee_goes : CalleeGoes callee other) (abort_goes : Leads abort aborts) where
  calls-goes : (trap : Bool) (target : Option Target) (arguments : List ℕ) {r t : Returned → Rest} → Leads r t → Goes (calls callee s trap target arguments r abort) (calls other s trap target arguments t aborts)
  calls-goes trap target arguments g = given-goes target (λ t.
      if-goes (nat_lt s.active 128) (costs-goes (callee_goes.by t arguments s.frame_end (s.active + 1) g (if-leads trap g abort_goes))) (halts-goes Why.Deep tt))

  calls_own-goes : (trap : Bool) (kind : Option NameKind) (arguments : List ℕ) {r t : Returned → Rest} → Leads r t → Goes (expressions.calls_own callee s abort trap kind arguments r) (expressions.calls_own other s aborts trap kind arguments t)
  calls_own-goes trap kind arguments g = calls-goes trap (own_target s kind) arguments g

  calls_of_object-goes : (trap : Bool) (kind : Option NameKind) (number : ℕ) (method : List ℕ) (arguments : List ℕ) {r t : Returned → Rest} → Leads r t → Goes (expressions.calls_of_object callee s abort trap kind number method arguments r) (expressions.calls_of_object other s aborts trap kind number method arguments t)
  calls_of_object-goes trap (Some (kind_case.Object item position count)) number method arguments g =
      if-goes (nat_lt number count) (calls-goes trap (object_target s item (position + number) method) arguments g) (halts-goes Why.Table tt)
  calls_of_object-goes trap (Some (kind_case.Const value)) number method arguments g = untold-goes untold
  calls_of_object-goes trap (Some (kind_case.Global size offset)) number method arguments g = untold-goes untold
  calls_of_object-goes trap (Some (kind_case.Local offset)) number method arguments g = untold-goes untold
  calls_of_object-goes trap (Some (kind_case.Label size)) number method arguments g = untold-goes untold
  calls_of_object-goes trap (Some (kind_case.Method n params)) number method arguments g = untold-goes untold
  calls_of_object-goes trap None number method arguments g = untold-goes untold

  makes_call-goes : (trap : Bool) (object : Option (List ℕ)) (method : List ℕ) {xs ys : Gives (List ℕ)} {x y : Gives ℕ} → GivesMore xs ys → GivesMore x y → {r t : Returned → Rest} → Leads r t → Goes (expressions.makes_call callee s abort trap object method xs x r) (expressions.makes_call other s aborts trap object method ys y t)
  makes_call-goes trap None method arguments number g = arguments.by (λ values. calls_own-goes trap (kind_of s method) values g)
  makes_call-goes trap (Some object) method arguments number g =
      arguments.by (λ values. number.by (λ n. calls_of_object-goes trap (kind_of s object) n method values g))

  value_of_kind-goes : (name : List ℕ) (kind : Option NameKind) {k l : ℕ → Rest} → Leads k l → Goes (expressions.value_of_kind callee s abort name kind k) (expressions.value_of_kind other s aborts name kind l)
  value_of_kind-goes name (Some (kind_case.Const value)) g = g value
  value_of_kind-goes name (Some (kind_case.Method n params)) g = used-goes (record { by = calls_own-goes false (Some (kind_case.Method n params)) [] }) g
  value_of_kind-goes name (Some (kind_case.Global size offset)) g = fetches-goes s (named s name 0) g
  value_of_kind-goes name (Some (kind_case.Local offset)) g = fetches-goes s (named s name 0) g
  value_of_kind-goes name (Some (kind_case.Label size)) g = fetches-goes s (named s name 0) g
  value_of_kind-goes name (Some (kind_case.Object item position count)) g = fetches-goes s (named s name 0) g
  value_of_kind-goes name None g = fetches-goes s (named s name 0) g

  value_of_name-goes : (name : List ℕ) {k l : ℕ → Rest} → Leads k l → Goes (expressions.value_of_name callee s abort name k) (expressions.value_of_name other s aborts name l)
  value_of_name-goes name g = if-goes (bytes_eq name result_word) (fetches-goes s (named s name 0) g) (value_of_kind-goes name (kind_of s name) g)

  begins_method-goes : (id : ℕ) (method : List ℕ) {xs ys : Gives (List ℕ)} {x y : Gives ℕ} → GivesMore xs ys → GivesMore x y → {k l : ℕ → Rest} → Leads k l → Goes (expressions.begins_method callee s abort id method xs x k) (expressions.begins_method other s aborts id method ys y l)
  begins_method-goes id method arguments second g =
      arguments.by (λ values. second.by (λ stack. starts_method-goes s id (own_target s (kind_of s method)) values stack g))

  begins_pasm-goes : (id : ℕ) {x y p q : Gives ℕ} → GivesMore x y → GivesMore p q → {k l : ℕ → Rest} → Leads k l → Goes (expressions.begins_pasm callee s abort id x p k) (expressions.begins_pasm other s aborts id y q l)
  begins_pasm-goes id first second g = first.by (λ code. second.by (λ par. asks-goes (asked.CogInit _ _) tt g))

  begins_name-goes : (id : ℕ) (name : List ℕ) (kind : Option NameKind) {x y p q : Gives ℕ} → GivesMore x y → GivesMore p q → {k l : ℕ → Rest} → Leads k l → Goes (expressions.begins_name callee s abort id name kind x p k) (expressions.begins_name other s aborts id name kind y q l)
  begins_name-goes id name (Some (kind_case.Method n params)) first second g = begins_method-goes id name (record { by = λ h. h [] }) second g
  begins_name-goes id name (Some (kind_case.Const value)) first second g = begins_pasm-goes id first second g
  begins_name-goes id name (Some (kind_case.Global size offset)) first second g = begins_pasm-goes id first second g
  begins_name-goes id name (Some (kind_case.Local offset)) first second g = begins_pasm-goes id first second g
  begins_name-goes id name (Some (kind_case.Label size)) first second g = begins_pasm-goes id first second g
  begins_name-goes id name (Some (kind_case.Object item position count)) first second g = begins_pasm-goes id first second g
  begins_name-goes id name None first second g = begins_pasm-goes id first second g

  mutual
    pub evaluates-goes : (e : Tree) {k l : ℕ → Rest} → Leads k l → Goes (expressions.evaluates callee s abort e k) (expressions.evaluates other s aborts e l)
    evaluates-goes (node place (Number n)) g = g n
    evaluates-goes (node place (Str text)) g = g _
    evaluates-goes (node place (Strings es)) g = g _
    evaluates-goes (node place Here) g = untold-goes untold
    evaluates-goes (node place (Var v)) g = evaluates_variable-goes v g
    evaluates-goes (node place (Call trap object i method at arguments)) g =
        used-goes (record { by = makes_call-goes trap object method (record { by = evaluates_all-goes arguments }) (record { by = indexes-goes i }) }) g
    evaluates-goes (node place (Unary operator e)) g = evaluates-goes e (λ a. g _)
    evaluates-goes (node place (Binary operator left right)) g = evaluates-goes left (λ a. evaluates-goes right (λ b. g _))
    evaluates-goes (node place (Assign v operator e)) g = evaluates-goes e (λ right. locates-goes v (λ p. assigns-goes s operator p right g))
    evaluates-goes (node place (Change v change)) g = locates-goes v (λ p. changes-goes s change p g)
    evaluates-goes (node place (Address v)) g = locates-goes v (λ p. g _)
    evaluates-goes (node place (ObjectAddress e)) g = evaluates-goes e (λ offset. g _)
    evaluates-goes (node place (ObjConst object name at)) g = g _
    evaluates-goes (node place (Built code arguments)) g = does-goes code arguments g
    evaluates-goes (node place (Look code e items)) g =
        evaluates-goes e (λ wanted. looks-goes (expressions.goes_up code) wanted items g (λ count. g 0) (expressions.first_count code))

    evaluates_variable-goes : (v : Variable) {k l : ℕ → Rest} → Leads k l → Goes (expressions.evaluates_variable callee s abort v k) (expressions.evaluates_variable other s aborts v l)
    evaluates_variable-goes (Named name no_index place) g = value_of_name-goes name g
    evaluates_variable-goes (Named name (index e) place) g = evaluates-goes e (λ number. fetches-goes s (named s name number) g)
    evaluates_variable-goes (Part name size i place) g = indexes-goes i (λ number. fetches-goes s (part s name size number) g)
    evaluates_variable-goes (Memory size e i place) g = evaluates-goes e (λ address. indexes-goes i (λ number. fetches-goes s (element size address number) g))
    evaluates_variable-goes (Register register x place) g = selects-goes register x (λ p. fetches-goes s p g)

    locates-goes : (v : Variable) {k l : Location → Rest} → Leads k l → Goes (expressions.locates callee s abort v k) (expressions.locates other s aborts v l)
    locates-goes (Named name i place) g = indexes-goes i (λ number. g _)
    locates-goes (Part name size i place) g = indexes-goes i (λ number. g _)
    locates-goes (Memory size e i place) g = evaluates-goes e (λ address. indexes-goes i (λ number. g _))
    locates-goes (Register register x place) g = selects-goes register x g

    indexes-goes : (i : Index) {k l : ℕ → Rest} → Leads k l → Goes (expressions.indexes callee s abort i k) (expressions.indexes other s aborts i l)
    indexes-goes no_index g = g 0
    indexes-goes (index e) g = evaluates-goes e g

    selects-goes : (register : ℕ) (x : Bits) {k l : Location → Rest} → Leads k l → Goes (expressions.selects callee s abort register x k) (expressions.selects other s aborts register x l)
    selects-goes register whole g = g _
    selects-goes register (bits (single e)) g = evaluates-goes e (λ pin. g _)
    selects-goes register (bits (range e f)) g = evaluates-goes e (λ high. evaluates-goes f (λ low. g _))

    evaluates_all-goes : (es : Trees) {k l : List ℕ → Rest} → Leads k l → Goes (expressions.evaluates_all callee s abort es k) (expressions.evaluates_all other s aborts es l)
    evaluates_all-goes no_trees g = g []
    evaluates_all-goes (es ▷ e) g = evaluates_all-goes es (λ values. evaluates-goes e (λ value. g _))

    does-goes : (code : ℕ) (es : Trees) {k l : ℕ → Rest} → Leads k l → Goes (expressions.does callee s abort code es k) (expressions.does other s aborts code es l)
    does-goes code no_trees g = does_none-goes code g
    does-goes code (no_trees ▷ e) g = if-goes (code == 0) (g _) (evaluates-goes e (λ a. does_one-goes code a g))
    does-goes code (no_trees ▷ e ▷ f) g =
        if-goes (code == 0x2C) (begins-goes new_cog e (record { by = evaluates-goes e }) (record { by = evaluates-goes f }) g)
        (evaluates-goes e (λ a. evaluates-goes f (λ b. does_two-goes code a b g)))
    does-goes code (no_trees ▷ e ▷ f ▷ d) g =
        if-goes (code == 0x28) (evaluates-goes e (λ id. begins-goes id f (record { by = evaluates-goes f }) (record { by = evaluates-goes d }) g))
        (evaluates-goes e (λ a. evaluates-goes f (λ b. evaluates-goes d (λ c. does_three-goes code a b c g))))
    does-goes code (es ▷ a ▷ e ▷ f ▷ d) g = untold-goes untold

    begins-goes : (id : ℕ) (e : Tree) {x y p q : Gives ℕ} → GivesMore x y → GivesMore p q → {k l : ℕ → Rest} → Leads k l → Goes (expressions.begins callee s abort id e x p k) (expressions.begins other s aborts id e y q l)
    begins-goes id (node place (Call false None i method at arguments)) first second g =
        begins_method-goes id method (record { by = evaluates_all-goes arguments }) second g
    begins-goes id (node place (Call false (Some object) i method at arguments)) first second g = begins_pasm-goes id first second g
    begins-goes id (node place (Call true object i method at arguments)) first second g = begins_pasm-goes id first second g
    begins-goes id (node place (Var (Named name no_index at))) first second g = begins_name-goes id name (kind_of s name) first second g
    begins-goes id (node place (Var (Named name (index e) at))) first second g = begins_pasm-goes id first second g
    begins-goes id (node place (Var (Part name size i at))) first second g = begins_pasm-goes id first second g
    begins-goes id (node place (Var (Memory size e i at))) first second g = begins_pasm-goes id first second g
    begins-goes id (node place (Var (Register register x at))) first second g = begins_pasm-goes id first second g
    begins-goes id (node place (Number n)) first second g = begins_pasm-goes id first second g
    begins-goes id (node place (Str text)) first second g = begins_pasm-goes id first second g
    begins-goes id (node place (Strings es)) first second g = begins_pasm-goes id first second g
    begins-goes id (node place Here) first second g = begins_pasm-goes id first second g
    begins-goes id (node place (Unary operator e)) first second g = begins_pasm-goes id first second g
    begins-goes id (node place (Binary operator e f)) first second g = begins_pasm-goes id first second g
    begins-goes id (node place (Assign v operator e)) first second g = begins_pasm-goes id first second g
    begins-goes id (node place (Change v change)) first second g = begins_pasm-goes id first second g
    begins-goes id (node place (Address v)) first second g = begins_pasm-goes id first second g
    begins-goes id (node place (ObjectAddress e)) first second g = begins_pasm-goes id first second g
    begins-goes id (node place (ObjConst object name at)) first second g = begins_pasm-goes id first second g
    begins-goes id (node place (Built code arguments)) first second g = begins_pasm-goes id first second g
    begins-goes id (node place (Look code e items)) first second g = begins_pasm-goes id first second g

    looks-goes : (up : Bool) (wanted : ℕ) (xs : Items) {f g n m : ℕ → Rest} → Leads f g → Leads n m → Leads (expressions.looks callee s abort up wanted xs f n) (expressions.looks other s aborts up wanted xs g m)
    looks-goes up wanted no_items found none count = none count
    looks-goes up wanted (xs ▸ x) found none count = looks-goes up wanted xs found (looks_at-goes up wanted x found none) count

    looks_at-goes : (up : Bool) (wanted : ℕ) (x : Item) {f g n m : ℕ → Rest} → Leads f g → Leads n m → Leads (expressions.looks_at callee s abort up wanted x f n) (expressions.looks_at other s aborts up wanted x g m)
    looks_at-goes up wanted (single e) found none count = evaluates-goes e (λ value. tries-goes up wanted count value found none)
    looks_at-goes up wanted (range e f) found none count = evaluates-goes e (λ low. evaluates-goes f (λ high. tries_range-goes up wanted count low high found none))

  pub acts-goes : (e : Tree) {r t : Rest} → Goes r t → Goes (expressions.acts callee s abort e r) (expressions.acts other s aborts e t)
  acts-goes (node place (Var (Named name no_index at))) g = unused-goes (record { by = calls_own-goes false (kind_of s name) [] }) g
  acts-goes (node place (Call trap object i method at arguments)) g =
      unused-goes (record { by = makes_call-goes trap object method (record { by = evaluates_all-goes arguments }) (record { by = indexes-goes i }) }) g
  acts-goes (node place (Change v change)) g = locates-goes v (λ p. changes_alone-goes s change p g)
  acts-goes (node place (Var (Named name (index e) at))) g = evaluates-goes (node place (Var (Named name (index e) at))) (λ x. g)
  acts-goes (node place (Var (Part name size i at))) g = evaluates-goes (node place (Var (Part name size i at))) (λ x. g)
  acts-goes (node place (Var (Memory size e i at))) g = evaluates-goes (node place (Var (Memory size e i at))) (λ x. g)
  acts-goes (node place (Var (Register register x at))) g = evaluates-goes (node place (Var (Register register x at))) (λ x. g)
  acts-goes (node place (Number n)) g = g
  acts-goes (node place (Str text)) g = g
  acts-goes (node place (Strings es)) g = g
  acts-goes (node place Here) g = untold-goes untold
  acts-goes (node place (Unary operator e)) g = evaluates-goes (node place (Unary operator e)) (λ x. g)
  acts-goes (node place (Binary operator e f)) g = evaluates-goes (node place (Binary operator e f)) (λ x. g)
  acts-goes (node place (Assign v operator e)) g = evaluates-goes (node place (Assign v operator e)) (λ x. g)
  acts-goes (node place (Address v)) g = evaluates-goes (node place (Address v)) (λ x. g)
  acts-goes (node place (ObjectAddress e)) g = evaluates-goes (node place (ObjectAddress e)) (λ x. g)
  acts-goes (node place (ObjConst object name at)) g = g
  acts-goes (node place (Built code arguments)) g = does-goes code arguments (λ x. g)
  acts-goes (node place (Look code e items)) g = evaluates-goes (node place (Look code e items)) (λ x. g)

-- ---- loops: a pass is told further where what follows it is

pub record PassGoes (pass other : Rest → Rest) : Type 0 where
  pub by : {r t : Rest} → Goes r t → Goes (pass r) (other t)

pub passes-goes : (most more : ℕ) → most ≤ more → {pass other : Rest → Rest} → PassGoes pass other → Goes (passes most pass) (passes more other)
passes-goes zero more le h = record { by = λ b c le own. tt }
passes-goes (suc most) zero le h = absurd (omega (arith, le))
passes-goes (suc most) (suc more) le h = record { by = λ b c at_most own. (h.by (costs-goes (passes-goes most more (omega (arith, le)) h))).by b c at_most own }

pub counted-goes : (count : ℕ) {pass other : Rest → Rest} → PassGoes pass other → {r t : Rest} → Goes r t → Goes (counted count pass r) (counted count other t)
counted-goes zero h g = record { by = λ b c le own. (h.by g).by b c le own }
counted-goes (suc more) h g = record { by = λ b c le own. (h.by (costs-goes (counted-goes more h g))).by b c le own }

-- a body, by what follows NEXT, QUIT and itself
pub record BodyGoes (body other : Body) : Type 0 where
  pub by : {n m q p r t : Rest} → Goes n m → Goes q p → Goes r t → Goes (body n q r) (other m p t)

for_itself-goes : (place : Place) {body other : Body} → BodyGoes body other → {n m q p r t : Rest} → Goes n m → Goes q p → Goes r t → Goes (for_itself place body n q r) (for_itself place other m p t)
for_itself-goes place h next quit g = record {
  by = λ b c le own.
      let back : Place = own.statement in
      (h.by (for_statement-goes back next) (for_statement-goes back quit) (for_statement-goes back g)).by b c le (record own { statement = place });
}

module _ (most more : ℕ) (le : most ≤ more) (callee other : Callee) (s : Scope) (return returns abort aborts : Returned → Rest) (callee_goes : CalleeGoes callee other) (return_goes : Leads return returns) (abort_goes : Leads abort aborts) where
  value-goes : (e : Tree) {k l : ℕ → Rest} → Leads k l → Goes (statements.value_of most callee s return abort e k) (statements.value_of more other s returns aborts e l)
  value-goes e g = evaluates-goes callee other s abort aborts callee_goes abort_goes e g

  decides-goes : (negated : Bool) (e : Tree) {m n u v : Rest} → Goes m n → Goes u v → Goes (statements.decides most callee s return abort negated e m u) (statements.decides more other s returns aborts negated e n v)
  decides-goes negated e met unmet = value-goes e (λ value. if-goes (holds negated value) met unmet)

  fits-goes : (value : ℕ) (x : Item) {m n u v : Rest} → Goes m n → Goes u v → Goes (statements.fits most callee s return abort value x m u) (statements.fits more other s returns aborts value x n v)
  fits-goes value (single e) met unmet = value-goes e (λ x. if-goes (value == x) met unmet)
  fits-goes value (range e f) met unmet = value-goes e (λ low. value-goes f (λ high. if-goes (is_between value low high) met unmet))

  fits_one-goes : (value : ℕ) (xs : Items) {m n u v : Rest} → Goes m n → Goes u v → Goes (statements.fits_one most callee s return abort value xs m u) (statements.fits_one more other s returns aborts value xs n v)
  fits_one-goes value no_items met unmet = unmet
  fits_one-goes value (xs ▸ x) met unmet = fits_one-goes value xs met (fits-goes value x met unmet)

  step_of-goes : (step : Option Tree) {k l : ℕ → Rest} → Leads k l → Goes (statements.step_of most callee s return abort step k) (statements.step_of more other s returns aborts step l)
  step_of-goes None g = g 1
  step_of-goes (Some e) g = value-goes e g

  steps-goes : (counter : Location) (by from to : ℕ) {a b r t : Rest} → Goes a b → Goes r t → Goes (statements.steps most callee s return abort counter by from to a r) (statements.steps more other s returns aborts counter by from to b t)
  steps-goes counter by from to again g =
      fetches-goes s counter (λ old. stores-goes counter (stepped old by from to) (if-goes (is_between (stepped old by from to) from to) again g))

  ends_pass-goes : (counter : Location) (from to : Tree) (step : Option Tree) {a b r t : Rest} → Goes a b → Goes r t → Goes (statements.ends_pass most callee s return abort counter from to step a r) (statements.ends_pass more other s returns aborts counter from to step b t)
  ends_pass-goes counter from to step again g =
      step_of-goes step (λ by. value-goes from (λ a. value-goes to (λ b. steps-goes counter by a b again g)))

  repeats-goes : (loop : Loop) {body bodies : Body} → BodyGoes body bodies → {r t : Rest} → Goes r t → Goes (statements.repeats most callee s return abort loop body r) (statements.repeats more other s returns aborts loop bodies t)
  repeats-goes Forever h g = passes-goes most more le (record { by = λ again. h.by again g again })
  repeats-goes (Count e) h g = value-goes e (λ count. if-goes (count == 0) g (counted-goes (difference count 1) (record { by = λ again. h.by again g again }) g))
  repeats-goes (Before until e) h g = passes-goes most more le (record { by = λ again. decides-goes until e (h.by again g again) g })
  repeats-goes (After until e) h g = passes-goes most more le (record { by = λ again. h.by (decides-goes until e again g) g (decides-goes until e again g) })
  repeats-goes (From name from to step place) h g =
      value-goes from (λ first. stores-goes (named s name 0) first
      (passes-goes most more le (record { by = λ again. h.by (ends_pass-goes (named s name 0) from to step again g) g (ends_pass-goes (named s name 0) from to step again g) })))

  mutual
    executes-goes : (x : Statement) {n m q p r t : Rest} → Goes n m → Goes q p → Goes r t → Goes (statements.executes most callee s return abort x n q r) (statements.executes more other s returns aborts x m p t)
    executes-goes (statement place action) next quit g = for_itself-goes place (record { by = acts_out-goes action }) next quit g

    acts_out-goes : (x : Action) {n m q p r t : Rest} → Goes n m → Goes q p → Goes r t → Goes (statements.acts_out most callee s return abort x n q r) (statements.acts_out more other s returns aborts x m p t)
    acts_out-goes (Do e) next quit g = acts-goes callee other s abort aborts callee_goes abort_goes e g
    acts_out-goes (If arms rest) next quit g = chooses-goes arms next quit g (executes_other-goes rest next quit g)
    acts_out-goes (Case e arms rest) next quit g =
        value-goes e (λ value. matches-goes value arms next quit g (executes_other-goes rest next quit g))
    acts_out-goes (Repeat loop body) next quit g = repeats-goes loop (record { by = executes_all-goes body }) g
    acts_out-goes Next next quit g = next
    acts_out-goes Quit next quit g = quit
    acts_out-goes (Return None) next quit g = return_goes (Result s.frame)
    acts_out-goes (Return (Some e)) next quit g = value-goes e (λ value. return_goes (Value value))
    acts_out-goes (Abort None) next quit g = abort_goes (Result s.frame)
    acts_out-goes (Abort (Some e)) next quit g = value-goes e (λ value. abort_goes (Value value))

    pub executes_all-goes : (body : Statements) {n m q p r t : Rest} → Goes n m → Goes q p → Goes r t → Goes (statements.executes_all most callee s return abort body n q r) (statements.executes_all more other s returns aborts body m p t)
    executes_all-goes no_statements next quit g = g
    executes_all-goes (body ▹ last) next quit g = executes_all-goes body next quit (executes-goes last next quit g)

    executes_other-goes : (rest : Otherwise) {n m q p r t : Rest} → Goes n m → Goes q p → Goes r t → Goes (statements.executes_other most callee s return abort rest n q r) (statements.executes_other more other s returns aborts rest m p t)
    executes_other-goes nothing_else next quit g = g
    executes_other-goes (otherwise body) next quit g = executes_all-goes body next quit g

    chooses-goes : (arms : Arms) {n m q p r t u v : Rest} → Goes n m → Goes q p → Goes r t → Goes u v → Goes (statements.chooses most callee s return abort arms n q r u) (statements.chooses more other s returns aborts arms m p t v)
    chooses-goes no_arms next quit g rest = rest
    chooses-goes (arms ⊳ arm (no_items ▸ single e) negated body) next quit g rest =
        chooses-goes arms next quit g (decides-goes negated e (executes_all-goes body next quit g) rest)
    chooses-goes (arms ⊳ arm no_items negated body) next quit g rest = untold-goes untold
    chooses-goes (arms ⊳ arm (no_items ▸ range e f) negated body) next quit g rest = untold-goes untold
    chooses-goes (arms ⊳ arm (xs ▸ x ▸ y) negated body) next quit g rest = untold-goes untold

    matches-goes : (value : ℕ) (arms : Arms) {n m q p r t u v : Rest} → Goes n m → Goes q p → Goes r t → Goes u v → Goes (statements.matches most callee s return abort value arms n q r u) (statements.matches more other s returns aborts value arms m p t v)
    matches-goes value no_arms next quit g rest = rest
    matches-goes value (arms ⊳ arm xs negated body) next quit g rest =
        matches-goes value arms next quit g (fits_one-goes value xs (executes_all-goes body next quit g) rest)

-- ---- methods

begins-goes_on : (most more : ℕ) → most ≤ more → (callee other : Callee) → CalleeGoes callee other → (s : Scope) (m : MethodTree) (arguments : List ℕ) {r t p q : Returned → Rest} → Leads r t → Leads p q → Goes (begins most callee s m arguments r p) (begins more other s m arguments t q)
begins-goes_on most more le callee other callee_goes s m arguments {r} {t} {p} {q} return abort =
    writes_longs-goes (0 ∷ arguments) s.frame
    (executes_all-goes most more le callee other s r t p q callee_goes return abort m.body (untold-goes untold) (untold-goes untold) (for_statement-goes m.place (return (Result s.frame))))

pub meaning-goes : (program : Program) (addresses : Addresses) (par : ℕ) (most more : ℕ) → most ≤ more → CalleeGoes (meaning most program addresses par) (meaning more program addresses par)
meaning-goes program addresses par zero more le = record { by = λ target arguments frame active return abort. untold-goes _ }
meaning-goes program addresses par (suc most) zero le = absurd (omega (arith, le))
meaning-goes program addresses par (suc most) (suc more) le = record {
  by = λ target arguments frame active return abort.
      given-goes (slice_get program target.instance.file) (λ file. given-goes (method_of file target.method) (λ m.
      begins-goes_on (suc most) (suc more) le _ _ (meaning-goes program addresses par most more (omega (arith, le)))
      (scope_with program addresses par target file m frame active) m arguments return abort));
}

stops-goes : (cog : ℕ) → Leads (stops cog) (stops cog)
stops-goes cog returned = tells-goes (asked.CogStop cog) tt (untold-goes untold)

pub life-goes : (program : Program) (addresses : Addresses) (target : Target) (frame cog f g : ℕ) → f ≤ g → Grows (life_of program addresses target frame cog f) (life_of program addresses target frame cog g)
life-goes program addresses target frame cog f g le =
    ((meaning-goes program addresses frame (suc f) (suc g) (omega (arith, le))).by target [] frame 1 (stops-goes cog) (stops-goes cog)).by f g le cleared
