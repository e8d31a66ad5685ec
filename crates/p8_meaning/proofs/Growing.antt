-- A greater bound tells more: a relation between what is still to be done with a bound and with a greater one, which each form keeps.
use Rattle.std.proofs.Common.{◌≡◌, refl, sym, ap, subst, ◌∙◌, arith, ℕ, zero, suc, ◌≤◌, ◌%◌, ◌^◌, Bool, true, false, if◌then◌else◌, List, [], ◌∷◌, ◌++◌, Option, Some, None, append_assoc, append-nil}
use Rattle.p8_access.specs.declared.kinds.Width.{Width}
use Rattle.p8_access.specs.declared.kinds.Width.TheVariants.{Long}
use Rattle.std.specs.Prelude.{All}
use Rattle.std.proofs.lemmas.List.Elements.{All-push}
use Rattle.p8_access.specs.declared.kinds.Reason.{Reason}
use Rattle.p8_access.specs.declared.kinds.Reason.TheVariants as Why
use Rattle.p8_access.specs.declared.kinds.Access.{Access}
use Rattle.p8_access.specs.declared.kinds.Access.TheVariants as asked
use Rattle.p8_access.specs.declared.kinds.Access.TheVariants.{Read, Write}
use Rattle.p8_access.specs.Proper.{bytes_in}
use Rattle.p8_meaning.specs.Halts.{IsSourceHalt, IsSourceAccess, AreSourceAccesses}
use Rattle.p8_access.specs.declared.kinds.Answer.{Answer}
use Rattle.p8_access.specs.Lives.{is_last}
use Rattle.p8_access.specs.Courses.{Course, Finish, Stop, Ask, Told, Wants, Closes, told}
use Rattle.p8_tree.specs.declared.places.Place.{Place}
use Rattle.p8_meaning.specs.Doing.{aligned, Registers, Rest, course_of, untold, for_statement, costs, halts, word_in, asks, tells, is_readable, reads, writes, writes_longs, next_address, given}
use Rattle.p8_meaning.specs.Bounds.{made_of, IsSettled, IsBeginning}

-- the second asks what the first asks, and goes on where the first isn't told
abbrev pub Grows : Course (Unit {0}) → Course (Unit {0}) → Type 0
Grows (Finish u) other = Unit {0}
Grows (Stop reason) (Finish u) = ⊥
Grows (Stop reason) (Stop other) = (reason ≡ other) × IsSourceHalt reason
Grows (Stop reason) (Ask access go) = ⊥
Grows (Ask access go) (Finish u) = ⊥
Grows (Ask access go) (Stop reason) = ⊥
Grows (Ask access go) (Ask other on) = (access ≡ other) × IsSourceAccess access × ((answer : Answer) → Grows (go answer) (on answer))

-- of what is still to be done, by a bound and one that is no lesser
pub record Goes (r t : Rest) : Type 0 where
  pub by : (b c : ℕ) → b ≤ c → (own : Registers) → Grows (course_of (r b own)) (course_of (t c own))

abbrev pub Leads : {A : Type 0} → (k l : A → Rest) → Type 0
Leads k l = (x : _) → Goes (k x) (l x)

-- ---- what tells of courses

module _ (cog : ℕ) where
  begins_itself : (made : List Access) → IsBeginning made made
  begins_itself made = ([], sym (append-nil made))

  begins_longer : (made : List Access) (access : Access) (whole : List Access) → IsBeginning (made ++ access ∷ []) whole → IsBeginning made whole
  begins_longer made access whole h = (access ∷ h.0, h.1 ∙ append_assoc made (access ∷ []) h.0)

  if_begins : (b : Bool) (made : List Access) (x y : Told (Unit {0})) → IsBeginning made (made_of x) → IsBeginning made (made_of y) → IsBeginning made (made_of (if b then x else y))
  if_begins true made x y h i = h
  if_begins false made x y h i = i

  -- what was made before stands first
  first_made : (made : List Access) (c : Course (Unit {0})) (answers : List Answer) → IsBeginning made (made_of (told cog made c answers))
  first_made made (Finish u) answers = begins_itself made
  first_made made (Stop reason) [] = begins_itself made
  first_made made (Stop reason) (answer ∷ left) = begins_longer made (asked.Halt reason) _ (begins_itself (made ++ asked.Halt reason ∷ []))
  first_made made (Ask access go) [] = begins_itself made
  first_made made (Ask access go) (answer ∷ left) =
      if_begins (is_last cog access) made _ _
      (begins_longer made access _ (begins_itself (made ++ access ∷ [])))
      (begins_longer made access _ (first_made (made ++ access ∷ []) (go answer) left))

  both_begin : (b : Bool) (x y z : Told (Unit {0})) → IsBeginning (made_of y) (made_of z) → IsBeginning (made_of (if b then x else y)) (made_of (if b then x else z))
  both_begin true x y z h = begins_itself (made_of x)
  both_begin false x y z h = h

  beginning_is : (a b : List Access) → a ≡ b → IsBeginning a b
  beginning_is a b same = ([], sym same ∙ sym (append-nil a))

  pub longer : (made : List Access) (c d : Course (Unit {0})) → Grows c d → (answers : List Answer) → IsBeginning (made_of (told cog made c answers)) (made_of (told cog made d answers))
  longer made (Finish u) d h answers = first_made made d answers
  longer made (Stop reason) (Finish u) h answers = absurd h
  longer made (Stop reason) (Stop other) h [] = begins_itself made
  longer made (Stop reason) (Stop other) h (answer ∷ left) = beginning_is _ _ (ap (λ r. made ++ asked.Halt r ∷ []) h.0)
  longer made (Stop reason) (Ask access go) h answers = absurd h
  longer made (Ask access go) (Finish u) h answers = absurd h
  longer made (Ask access go) (Stop reason) h answers = absurd h
  longer made (Ask access go) (Ask other on) h [] = begins_itself made
  longer made (Ask access go) (Ask other on) h (answer ∷ left) =
      subst (λ (x : Access). IsBeginning (made_of (told cog made (Ask access go) (answer ∷ left))) (made_of (told cog made (Ask x on) (answer ∷ left)))) h.0
      (both_begin (is_last cog access) _ _ _ (longer (made ++ access ∷ []) (go answer) (on answer) (h.2 answer) left))

  if_settled : (b : Bool) (x y z : Told (Unit {0})) → IsSettled (if b then x else y) → (IsSettled y → z ≡ y) → (if b then x else z) ≡ (if b then x else y)
  if_settled true x y z h same = refl
  if_settled false x y z h same = same h

  pub settled : (made : List Access) (c d : Course (Unit {0})) → Grows c d → (answers : List Answer) → IsSettled (told cog made c answers) → told cog made d answers ≡ told cog made c answers
  settled made (Finish u) d h answers done = absurd done
  settled made (Stop reason) (Finish u) h answers done = absurd h
  settled made (Stop reason) (Stop other) h [] done = ap (λ r. Wants made (asked.Halt r)) (sym h.0)
  settled made (Stop reason) (Stop other) h (answer ∷ left) done = ap (λ r. Closes (made ++ asked.Halt r ∷ [])) (sym h.0)
  settled made (Stop reason) (Ask access go) h answers done = absurd h
  settled made (Ask access go) (Finish u) h answers done = absurd h
  settled made (Ask access go) (Stop reason) h answers done = absurd h
  settled made (Ask access go) (Ask other on) h [] done = ap (Wants made) (sym h.0)
  settled made (Ask access go) (Ask other on) h (answer ∷ left) done =
      subst (λ (x : Access). told cog made (Ask x on) (answer ∷ left) ≡ told cog made (Ask access go) (answer ∷ left)) h.0
      (if_settled (is_last cog access) _ _ _ done (λ d. settled (made ++ access ∷ []) (go answer) (on answer) (h.2 answer) left d))

if_own : (b : Bool) (x y : Told (Unit {0})) → AreSourceAccesses x → AreSourceAccesses y → AreSourceAccesses (if b then x else y)
if_own true x y h i = h
if_own false x y h i = i

-- what a source asks
pub own-accesses : (cog : ℕ) (made : List Access) (c d : Course (Unit {0})) → Grows c d → (answers : List Answer) → All IsSourceAccess made → AreSourceAccesses (told cog made c answers)
own-accesses cog made (Finish u) d h answers all = all
own-accesses cog made (Stop reason) (Finish u) h answers all = absurd h
own-accesses cog made (Stop reason) (Stop other) h [] all = (all, h.1)
own-accesses cog made (Stop reason) (Stop other) h (answer ∷ left) all = All-push IsSourceAccess made (asked.Halt reason) all h.1
own-accesses cog made (Stop reason) (Ask access go) h answers all = absurd h
own-accesses cog made (Ask access go) (Finish u) h answers all = absurd h
own-accesses cog made (Ask access go) (Stop reason) h answers all = absurd h
own-accesses cog made (Ask access go) (Ask other on) h [] all = (all, h.1)
own-accesses cog made (Ask access go) (Ask other on) h (answer ∷ left) all =
    if_own (is_last cog access) _ _ (All-push IsSourceAccess made access all h.1) (own-accesses cog (made ++ access ∷ []) (go answer) (on answer) (h.2 answer) left (All-push IsSourceAccess made access all h.1))

-- ---- what the words of Doing keep

pub untold-goes : (t : Rest) → Goes untold t
untold-goes t = record { by = λ b c le own. tt }

costs-by : (r t : Rest) → Goes r t → (b c : ℕ) → b ≤ c → (own : Registers) → Grows (course_of (costs r b own)) (course_of (costs t c own))
costs-by r t g zero c le own = tt
costs-by r t g (suc b) zero le own = absurd (omega (arith, le))
costs-by r t g (suc b) (suc c) le own = g.by b c (omega (arith, le)) own

pub costs-goes : {r t : Rest} → Goes r t → Goes (costs r) (costs t)
costs-goes {r} {t} g = record { by = costs-by r t g }

pub for_statement-goes : (place : Place) {r t : Rest} → Goes r t → Goes (for_statement place r) (for_statement place t)
for_statement-goes place g = record { by = λ b c le own. g.by b c le (record own { statement = place }) }

pub halts-goes : (reason : Reason) → IsSourceHalt reason → Goes (halts reason) (halts reason)
halts-goes reason said = record { by = λ b c le own. (refl, said) }

pub if-goes : (x : Bool) {r t p q : Rest} → Goes r t → Goes p q → Goes (if x then r else p) (if x then t else q)
if-goes true g h = g
if-goes false g h = h

pub asks-goes : (access : Access) → IsSourceAccess access → {k l : ℕ → Rest} → Leads k l → Goes (asks access k) (asks access l)
asks-goes access said g = record { by = λ b c le own. (refl, said, λ answer. (g (word_in answer)).by b c le own) }

pub tells-goes : (access : Access) → IsSourceAccess access → {r t : Rest} → Goes r t → Goes (tells access r) (tells access t)
tells-goes access said g = record { by = λ b c le own. (refl, said, λ answer. g.by b c le own) }

pub reads-goes : (width : Width) (address : ℕ) {k l : ℕ → Rest} → Leads k l → Goes (reads width address k) (reads width address l)
reads-goes width address g = if-goes (is_readable width address) (asks-goes (Read width (aligned width address)) tt g) (halts-goes (Why.Rom (aligned width address)) tt)

pub writes-goes : (width : Width) (address value : ℕ) {r t : Rest} → Goes r t → Goes (writes width address value r) (writes width address value t)
writes-goes width address value g = tells-goes (Write width (aligned width address) (value % 256 ^ bytes_in width)) tt g

pub writes_longs-goes : (values : List ℕ) (address : ℕ) {r t : Rest} → Goes r t → Goes (writes_longs address values r) (writes_longs address values t)
writes_longs-goes [] address g = g
writes_longs-goes (value ∷ values) address g = writes-goes Long address value (writes_longs-goes values (next_address Long address) g)

pub given-goes : {A : Type 0} (o : Option A) {k l : A → Rest} → Leads k l → Goes (given o k) (given o l)
given-goes None g = untold-goes untold
given-goes (Some x) g = g x
