-- A source starts methods of its project alone: a property of what is still to be done, which each form keeps.
use Rattle.std.proofs.Common.{◌≡◌, refl, arith, ℕ, zero, suc, ◌+◌, ◌-◌, ◌*◌, ◌%◌, ◌^◌, ◌<◌, ◌==◌, Bool, true, false, if◌then◌else◌, nat_lt, ltb-true, List, [], ◌∷◌, ◌++◌, Option, Some, None}
use Rattle.std.specs.Prelude.{All}
use Rattle.std.proofs.lemmas.List.Elements.{All-push}
use Rattle.p8_access.specs.declared.kinds.Width.{Width}
use Rattle.p8_access.specs.declared.kinds.Width.TheVariants.{Byte, Word, Long}
use Rattle.p8_access.specs.declared.kinds.Test.{Test}
use Rattle.p8_access.specs.declared.kinds.Test.TheVariants as test_case
use Rattle.p8_access.specs.declared.kinds.Reason.{Reason}
use Rattle.p8_access.specs.declared.kinds.Reason.TheVariants as Why
use Rattle.p8_access.specs.declared.kinds.Access.{Access}
use Rattle.p8_access.specs.declared.kinds.Access.TheVariants as asked
use Rattle.p8_access.specs.declared.kinds.Answer.{Answer}
use Rattle.p8_access.specs.Proper.{bytes_in, IsNumber, IsLongAddress}
use Rattle.p8_access.specs.Lives.{is_last}
use Rattle.p8_access.specs.Courses.{Course, Finish, Stop, Ask, Told, told}
use Rattle.p8_meaning.specs.Bounds.{made_of}
use Rattle.p8_meaning.specs.Values.{count_of, with_pins, pins_of}
use Rattle.p8_meaning.specs.Programs.{Program, Addresses, Scope}
use Rattle.p8_tree.specs.declared.places.Place.{Place}
use Rattle.p8_meaning.specs.Doing.{aligned, Registers, Rest, course_of, untold, for_statement, costs, halts, word_in, asks, tells, is_readable, reads, writes, writes_longs, next_address, given}
use Rattle.p8_meaning.specs.Variables.{Location, Hub, Pins, own_word, fetches, stores, reads_register, writes_register, assigns, replaces, changes, changes_alone}
use Rattle.p8_meaning.specs.Builtins.{fills, moves, measures, compares, waits_for, long_address, does_none, does_one, does_two, does_three}
use Rattle.p8_meaning.specs.Calls.{Returned, Value, Result, uses}
use Rattle.p8_meaning.specs.Expressions as expressions
use Rattle.p8_meaning.specs.Loops.{passes, counted}
use Rattle.p8_compiled.proofs.Starts.{StaysInProject}

-- 0 to 7 names a cog
pub named-number : (id : ℕ) (b : Bool) → nat_lt id 8 ≡ b → IsNumber (if b then Some id else None)
named-number id true is = ltb-true id 8 is
named-number id false is = tt

-- a frame that begins at a multiple of 4
pub long-frame : (stack : ℕ) → IsLongAddress (long_address stack)
long-frame stack = (omega arith, omega arith)

-- the size of a frame with so many arguments
pub size-is : (arguments parameters locals : ℕ) → arguments ≡ parameters → 4 * parameters + locals < 2 ^ 16 → (4 * arguments + locals) % 2 ^ 16 ≡ 4 * parameters + locals
size-is arguments parameters locals same below = omega (arith, same, below)

module _ (program : Program) (addresses : Addresses) where
  abbrev P : Access → Type 0
  P access = StaysInProject program addresses access

  -- all accesses that a course may ask
  abbrev pub Only : Course (Unit {0}) → Type 0
  Only (Finish u) = Unit {0}
  Only (Stop reason) = Unit {0}
  Only (Ask access go) = P access × ((answer : Answer) → Only (go answer))

  pub record Holds (r : Rest) : Type 0 where
    pub by : (b : ℕ) (own : Registers) → Only (course_of (r b own))

  abbrev pub Leads : {A : Type 0} → (A → Rest) → Type 0
  Leads k = (x : _) → Holds (k x)

  -- ---- what tells of courses

  if-made : (b : Bool) (x y : Told (Unit {0})) → All P (made_of x) → All P (made_of y) → All P (made_of (if b then x else y))
  if-made true x y h k = h
  if-made false x y h k = k

  pub only-made : (cog : ℕ) (made : List Access) (c : Course (Unit {0})) → Only c → (answers : List Answer) → All P made → All P (made_of (told cog made c answers))
  only-made cog made (Finish u) h answers all = all
  only-made cog made (Stop reason) h [] all = all
  only-made cog made (Stop reason) h (answer ∷ left) all = All-push P made (asked.Halt reason) all tt
  only-made cog made (Ask access go) h [] all = all
  only-made cog made (Ask access go) h (answer ∷ left) all =
      if-made (is_last cog access) _ _ (All-push P made access all h.0)
      (only-made cog (made ++ access ∷ []) (go answer) (h.1 answer) left (All-push P made access all h.0))

  -- ---- the words of Doing

  pub untold-holds : Holds untold
  untold-holds = record { by = λ b own. tt }

  costs-by : (r : Rest) → Holds r → (b : ℕ) (own : Registers) → Only (course_of (costs r b own))
  costs-by r g zero own = tt
  costs-by r g (suc b) own = g.by b own

  pub costs-holds : {r : Rest} → Holds r → Holds (costs r)
  costs-holds {r} g = record { by = costs-by r g }

  pub for_statement-holds : (place : Place) {r : Rest} → Holds r → Holds (for_statement place r)
  for_statement-holds place g = record { by = λ b own. g.by b (record own { statement = place }) }

  pub halts-holds : (reason : Reason) → Holds (halts reason)
  halts-holds reason = record { by = λ b own. tt }

  pub if-holds : (x : Bool) {r t : Rest} → Holds r → Holds t → Holds (if x then r else t)
  if-holds true g h = g
  if-holds false g h = h

  -- where the test is known to hold
  pub known-holds : (x : Bool) {r t : Rest} → (x ≡ true → Holds r) → Holds t → Holds (if x then r else t)
  known-holds true g h = g refl
  known-holds false g h = h

  pub asks-holds : (access : Access) → P access → {k : ℕ → Rest} → Leads k → Holds (asks access k)
  asks-holds access said g = record { by = λ b own. (said, λ answer. (g (word_in answer)).by b own) }

  pub tells-holds : (access : Access) → P access → {r : Rest} → Holds r → Holds (tells access r)
  tells-holds access said g = record { by = λ b own. (said, λ answer. g.by b own) }

  pub reads-holds : (width : Width) (address : ℕ) {k : ℕ → Rest} → Leads k → Holds (reads width address k)
  reads-holds width address g = if-holds (is_readable width address) (asks-holds (asked.Read width (aligned width address)) tt g) (halts-holds (Why.Rom (aligned width address)))

  pub writes-holds : (width : Width) (address value : ℕ) {r : Rest} → Holds r → Holds (writes width address value r)
  writes-holds width address value g = tells-holds (asked.Write width (aligned width address) (value % 256 ^ bytes_in width)) tt g

  pub writes_longs-holds : (values : List ℕ) (address : ℕ) {r : Rest} → Holds r → Holds (writes_longs address values r)
  writes_longs-holds [] address g = g
  writes_longs-holds (value ∷ values) address g = writes-holds Long address value (writes_longs-holds values (next_address Long address) g)

  -- where what is there is known
  pub given-holds : {A : Type 0} (o : Option A) {k : A → Rest} → ((x : A) → o ≡ Some x → Holds (k x)) → Holds (given o k)
  given-holds None g = untold-holds
  given-holds (Some x) g = g x refl

  -- ---- variables

  reads_register-holds : (par register : ℕ) {k : ℕ → Rest} → Leads k → Holds (reads_register par register k)
  reads_register-holds par register g =
      if-holds (register == 0x1F1) (asks-holds asked.Clock tt g)
      (if-holds (register == 0x1F2) (asks-holds asked.PinsIn tt g)
      (record { by = λ b own. (g (own_word par register own)).by b own }))

  writes_register-holds : (register high low value : ℕ) {r : Rest} → Holds r → Holds (writes_register register high low value r)
  writes_register-holds register high low value g =
      if-holds (register == 0x1F4) (record { by = λ b own. (tt, λ answer. g.by b (record own { outa = with_pins high low value own.outa })) })
      (if-holds (register == 0x1F6) (record { by = λ b own. (tt, λ answer. g.by b (record own { dira = with_pins high low value own.dira })) }) g)

  pub fetches-holds : (s : Scope) (p : Location) {k : ℕ → Rest} → Leads k → Holds (fetches s p k)
  fetches-holds s (Hub width address) g = reads-holds width address g
  fetches-holds s (Pins register high low) g = reads_register-holds s.par register (λ word. g (pins_of high low word))

  pub stores-holds : (p : Location) (value : ℕ) {r : Rest} → Holds r → Holds (stores p value r)
  stores-holds (Hub width address) value g = writes-holds width address value g
  stores-holds (Pins register high low) value g = writes_register-holds register high low value g

  pub assigns-holds : (s : Scope) (operator : Option ℕ) (p : Location) (right : ℕ) {k : ℕ → Rest} → Leads k → Holds (assigns s operator p right k)
  assigns-holds s None p right g = stores-holds p right (g right)
  assigns-holds s (Some operator) p right g = fetches-holds s p (λ old. stores-holds p _ (g _))

  replaces-holds : (s : Scope) (p : Location) (value : ℕ) {k : ℕ → Rest} → Leads k → Holds (replaces s p value k)
  replaces-holds s p value g = fetches-holds s p (λ old. stores-holds p value (g old))

  pub changes-holds : (s : Scope) (change : ℕ) (p : Location) {k : ℕ → Rest} → Leads k → Holds (changes s change p k)
  changes-holds s change p g =
      if-holds (change == 0x18) (replaces-holds s p 0 g)
      (if-holds (change == 0x1C) (replaces-holds s p _ g)
      (fetches-holds s p (λ old. stores-holds p _ (g _))))

  pub changes_alone-holds : (s : Scope) (change : ℕ) (p : Location) {r : Rest} → Holds r → Holds (changes_alone s change p r)
  changes_alone-holds s change p g =
      if-holds (change == 0x18) (stores-holds p 0 g)
      (if-holds (change == 0x1C) (stores-holds p _ g)
      (changes-holds s change p (λ value. g)))

  -- ---- built-ins

  fills-holds : (left : ℕ) (width : Width) (address value : ℕ) {r : Rest} → Holds r → Holds (fills width address value left r)
  fills-holds zero width address value g = record { by = λ b own. g.by b own }
  fills-holds (suc left) width address value g =
      record { by = λ b own. (writes-holds width address value (fills-holds left width (next_address width address) value g)).by b own }

  moves-holds : (left : ℕ) (width : Width) (to from : ℕ) {r : Rest} → Holds r → Holds (moves width to from left r)
  moves-holds zero width to from g = record { by = λ b own. g.by b own }
  moves-holds (suc left) width to from g = record {
    by = λ b own.
        (reads-holds width from (λ word. writes-holds width to word (moves-holds left width (next_address width to) (next_address width from) g))).by b own;
  }

  measures-holds : (room address count : ℕ) {k : ℕ → Rest} → Leads k → Holds (measures room address count k)
  measures-holds zero address count g = record { by = λ b own. tt }
  measures-holds (suc room) address count g = record {
    by = λ b own.
        (asks-holds (asked.Read Byte (aligned Byte address)) tt (λ byte. if-holds (byte == 0) (g count) (measures-holds room (address + 1) (count + 1) g))).by b own;
  }

  compares-holds : (room first second : ℕ) {k : ℕ → Rest} → Leads k → Holds (compares room first second k)
  compares-holds zero first second g = record { by = λ b own. tt }
  compares-holds (suc room) first second g = record {
    by = λ b own.
        (asks-holds (asked.Read Byte (aligned Byte first)) tt (λ one. reads-holds Byte second (λ other.
        if-holds (one == other) (if-holds (one == 0) (g (2 ^ 32 - 1)) (compares-holds room (first + 1) (second + 1) g)) (g 0)))).by b own;
  }

  waits_for-holds : (port : ℕ) (test : Test) {r : Rest} → Holds r → Holds (waits_for port test r)
  waits_for-holds port test g = if-holds (port == 0) (tells-holds (asked.Wait test) tt g) (halts-holds Why.Port)

  pub does_none-holds : (code : ℕ) {k : ℕ → Rest} → Leads k → Holds (does_none code k)
  does_none-holds code g =
      if-holds (code == 0x3F) (asks-holds asked.CogId tt g)
      (if-holds (code == 0xC0) (reads-holds Long 0 g)
      (if-holds (code == 0x80) (reads-holds Byte 4 g)
      (if-holds (code == 0x29) (asks-holds asked.LockNew tt g) untold-holds)))

  pub does_one-holds : (code a : ℕ) {k : ℕ → Rest} → Leads k → Holds (does_one code a k)
  does_one-holds code a g =
      if-holds (code == 0x16) (measures-holds _ _ 0 g)
      (if-holds (code == 0x21) (tells-holds (asked.CogStop (a % 8)) tt (g 0))
      (if-holds (code == 0x22) (tells-holds (asked.LockRet (a % 8)) tt (g 0))
      (if-holds (code == 0x23) (tells-holds (asked.Wait (test_case.Count a)) tt (g 0))
      (if-holds (code == 0x2A) (asks-holds (asked.LockSet (a % 8)) tt g)
      (if-holds (code == 0x2B) (asks-holds (asked.LockClr (a % 8)) tt g) untold-holds)))))

  pub does_two-holds : (code a b : ℕ) {k : ℕ → Rest} → Leads k → Holds (does_two code a b k)
  does_two-holds code a b g = if-holds (code == 0x17) (compares-holds _ _ _ g) untold-holds

  pub does_three-holds : (code a b c : ℕ) {k : ℕ → Rest} → Leads k → Holds (does_three code a b c k)
  does_three-holds code a b c g =
      if-holds (code == 0x18) (fills-holds (count_of c) Byte (a % 2 ^ 16) b (g 0))
      (if-holds (code == 0x19) (fills-holds (count_of c) Word (a % 2 ^ 16) b (g 0))
      (if-holds (code == 0x1A) (fills-holds (count_of c) Long (a % 2 ^ 16) b (g 0))
      (if-holds (code == 0x1B) (waits_for-holds c (test_case.PinsEqual a b) (g 0))
      (if-holds (code == 0x1C) (moves-holds (count_of c) Byte (a % 2 ^ 16) (b % 2 ^ 16) (g 0))
      (if-holds (code == 0x1D) (moves-holds (count_of c) Word (a % 2 ^ 16) (b % 2 ^ 16) (g 0))
      (if-holds (code == 0x1E) (moves-holds (count_of c) Long (a % 2 ^ 16) (b % 2 ^ 16) (g 0))
      (if-holds (code == 0x1F) (waits_for-holds c (test_case.PinsDiffer a b) (g 0)) untold-holds)))))))

  -- ---- what a call gives, and LOOKUP and LOOKDOWN

  pub uses-holds : (x : Returned) {k : ℕ → Rest} → Leads k → Holds (uses x k)
  uses-holds (Value value) g = g value
  uses-holds (Result frame) g = reads-holds Long frame g

  pub tries-holds : (up : Bool) (wanted count value : ℕ) {f n : ℕ → Rest} → Leads f → Leads n → Holds (expressions.tries up wanted count value f n)
  tries-holds true wanted count value found none = if-holds (wanted == count) (found _) (none _)
  tries-holds false wanted count value found none = if-holds (wanted == value) (found _) (none _)

  pub tries_range-holds : (up : Bool) (wanted count low high : ℕ) {f n : ℕ → Rest} → Leads f → Leads n → Holds (expressions.tries_range up wanted count low high f n)
  tries_range-holds true wanted count low high found none = if-holds _ (found _) (none _)
  tries_range-holds false wanted count low high found none = if-holds _ (found _) (none _)

  -- ---- loops, by what a pass keeps

  pub record PassHolds (pass : Rest → Rest) : Type 0 where
    pub by : {r : Rest} → Holds r → Holds (pass r)

  pub passes-holds : (most : ℕ) {pass : Rest → Rest} → PassHolds pass → Holds (passes most pass)
  passes-holds zero h = record { by = λ b own. tt }
  passes-holds (suc most) h = record { by = λ b own. (h.by (costs-holds (passes-holds most h))).by b own }

  pub counted-holds : (count : ℕ) {pass : Rest → Rest} → PassHolds pass → {r : Rest} → Holds r → Holds (counted count pass r)
  counted-holds zero h g = record { by = λ b own. (h.by g).by b own }
  counted-holds (suc more) h g = record { by = λ b own. (h.by (costs-holds (counted-holds more h g))).by b own }
