-- When bytecodes do what is still to be done by a source, with a bound: after so many of them, no fewer than the bound, they have made the
-- same accesses, and ask the same one next. Each is asked by a bytecode that is made from the statement for which the source asks it.
use Rattle.std.proofs.Common.{◌≡◌, refl, sym, ap, subst, ◌∙◌, arith, ℕ, zero, suc, ◌+◌, ◌<◌, ◌≤◌, Bool, true, false, if◌then◌else◌, List, [], ◌∷◌, ◌++◌, map, Some}
use Rattle.p8_tree.specs.declared.places.Place.{Place}
use Rattle.p8_access.specs.declared.kinds.Reason.{Reason}
use Rattle.p8_access.specs.declared.kinds.Access.{Access}
use Rattle.p8_access.specs.declared.kinds.Answer.{Answer}
use Rattle.p8_access.specs.declared.order.Turn.{Turn}
use Rattle.p8_access.specs.Lives.{is_last}
use Rattle.p8_access.specs.Courses.{Course, Finish, Stop, Ask, Told, Wants, Leaves, Closes, told}
use Rattle.p8_access.specs.Timing.{Outcome, Asks, Goes, Ends, behind, played}
use Rattle.p8_access.specs.Replays.{Engine, step, after, told_step, told_after, answer_of}
use Rattle.p8_access.specs.Replaying.{after-asks, after-ends}
use Rattle.p8_meaning.specs.Doing.{Deeds, Untold, HaltsFor, AsksFor, course_of, statement_after, Registers, Rest, for_statement, comes_back, halts as source_halts, asks as source_asks, word_in}
use Rattle.p8_compiled.specs.Keeps.{forgets}

-- from within a course that is made from the statement at a place on
pub data Meets {S : Type 0} (e : Engine S) (line : S → Place → Type 0) : ℕ → Place → Course S → Deeds → Type 0 where
  is_untold : {at : Place} (s : S) → Meets e line zero at (Finish s) Untold
  goes_on : {f g : ℕ} {at : Place} {s : S} {t : Deeds} (next : Place) → line s next → g ≤ suc f → Meets e line f next (e.next s) t → Meets e line g at (Finish s) t
  halts : {f : ℕ} {at : Place} (reason : Reason) → Meets e line f at (Stop reason) (HaltsFor at reason)
  asks : {f : ℕ} {at : Place} (access : Access) {go : Answer → Course S} {on : Answer → Deeds} → ((answer : Answer) → Meets e line f at (go answer) (on answer)) → Meets e line f at (Ask access go) (AsksFor at access on)
  -- after its stop of itself a cog does nothing
  ends : {f : ℕ} {at : Place} (access : Access) {go : Answer → Course S} {on : Answer → Deeds} → is_last e.cog access ≡ true → Meets e line f at (Ask access go) (AsksFor at access on)

module _ {S : Type 0} (e : Engine S) (line : S → Place → Type 0) where
  none-less : {at : Place} (s : S) (g : ℕ) → g ≤ 0 → Meets e line g at (Finish s) Untold
  none-less s zero le = is_untold s
  none-less s (suc g) le = absurd (omega (arith, le))

  pub less-meets : {f g : ℕ} {at : Place} {d : Course S} {t : Deeds} → g ≤ f → Meets e line f at d t → Meets e line g at d t
  less-meets {g = g} le (is_untold s) = none-less s g le
  less-meets le (goes_on next made l m) = goes_on next made (omega (arith, le, l)) m
  less-meets le (halts reason) = halts reason
  less-meets le (asks access m) = asks access (λ answer. less-meets le (m answer))
  less-meets le (ends access last) = ends access last

  -- between two courses the place doesn't matter
  pub any-place : {f : ℕ} {at other : Place} {s : S} {t : Deeds} → Meets e line f at (Finish s) t → Meets e line f other (Finish s) t
  any-place (is_untold s) = is_untold s
  any-place (goes_on next made l m) = goes_on next made l m

  -- ---- the accesses

  after-wants : (j : ℕ) (made : List Access) (access : Access) → told_after e j (Wants made access) ≡ Wants made access
  unfolding told_after
  after-wants zero made access = refl
  after-wants (suc j) made access = ap (told_step e) (after-wants j made access)

  after-closes : (j : ℕ) (made : List Access) → told_after e j (Closes made) ≡ Closes made
  unfolding told_after
  after-closes zero made = refl
  after-closes (suc j) made = ap (told_step e) (after-closes j made)

  -- one course first, and then the others
  told-first : (j : ℕ) (t : Told S) → told_after e (suc j) t ≡ told_after e j (told_step e t)
  unfolding told_after
  told-first zero t = refl
  told-first (suc j) t = ap (told_step e) (told-first j t)

  abbrev Makes : (f : ℕ) → (made : List Access) → Course S → Deeds → List Answer → Type 0
  Makes f made d t answers = (j : ℕ) × (f ≤ j) × (forgets (told_after e j (told e.cog made d answers)) ≡ told e.cog made (course_of t) answers)

  if-makes : (f : ℕ) (b : Bool) (made : List Access) (answers : List Answer) (d : Course S) (t : Deeds) → Makes f made d t answers →
      (j : ℕ) × (f ≤ j) × (forgets (told_after e j (if b then Closes made else told e.cog made d answers)) ≡ (if b then Closes made else told e.cog made (course_of t) answers))
  if-makes f true made answers d t m = (f, omega arith, ap forgets (after-closes f made))
  if-makes f false made answers d t m = m

  pub makes : {f : ℕ} {at : Place} {d : Course S} {t : Deeds} → Meets e line f at d t → (made : List Access) (answers : List Answer) → Makes f made d t answers
  unfolding told_after
  makes (is_untold s) made answers = (0, omega arith, refl)
  makes (goes_on {s = s} next made_from le m) made answers =
      let r = makes m made answers in
      (suc r.0, omega (arith, le, r.1), ap forgets (told-first r.0 (Leaves made s answers)) ∙ r.2)
  makes {f} (halts reason) made [] = (f, omega arith, ap forgets (after-wants f made _))
  makes {f} (halts reason) made (answer ∷ left) = (f, omega arith, ap forgets (after-closes f _))
  makes {f} (asks access m) made [] = (f, omega arith, ap forgets (after-wants f made access))
  makes {f} (asks access {go} {on} m) made (answer ∷ left) = if-makes f (is_last e.cog access) (made ++ access ∷ []) left (go answer) (on answer) (makes (m answer) (made ++ access ∷ []) left)
  makes {f} (ends access last) made [] = (f, omega arith, ap forgets (after-wants f made access))
  makes {f} (ends access {go} {on} last) made (answer ∷ left) =
      subst (λ (b : Bool). (j : ℕ) × (f ≤ j) × (forgets (told_after e j (if b then Closes (made ++ access ∷ []) else told e.cog (made ++ access ∷ []) (go answer) left)) ≡ (if b then Closes (made ++ access ∷ []) else told e.cog (made ++ access ∷ []) (course_of (on answer)) left))) (sym last)
      (f, omega arith, ap forgets (after-closes f _))

  -- ---- the statements

  after-first : (n : ℕ) (o : Outcome S) → after e (suc n) o ≡ after e n (step e o)
  unfolding after
  after-first zero o = refl
  after-first (suc n) o = ap (step e) (after-first n o)

  -- within a bytecode
  asks-within : {f : ℕ} {at : Place} {d : Course S} {t : Deeds} → Meets e line f at d t → (clock : ℕ) (turns : List Turn) (due : ℕ) (access : Access)
      → played e.cog clock d turns ≡ Asks due access → statement_after t (map answer_of turns) ≡ Some at
  asks-within (is_untold s) clock turns due access here = absurd (let x : Goes s clock turns ≡ Asks due access = here in cc)
  asks-within (goes_on {s = s} next made_from le m) clock turns due access here = absurd (let x : Goes s clock turns ≡ Asks due access = here in cc)
  asks-within (halts reason) clock [] due access here = refl
  asks-within (halts reason) clock (turn ∷ turns) due access here = absurd (let x : Ends ≡ Asks due access = here in cc)
  asks-within (asks a m) clock [] due access here = refl
  asks-within (asks a {go} {on} m) clock (turn ∷ turns) due access here =
      if-asks (is_last e.cog a) here (λ h. asks-within (m turn.answer) (behind clock a turn.key.clock) turns due access h)
    where
      if-asks : (b : Bool) {o : Outcome S} {X : Type 0} → (if b then Ends else o) ≡ Asks due access → (o ≡ Asks due access → X) → X
      if-asks true h k = absurd (cc)
      if-asks false h k = k h
  asks-within (ends a last) clock [] due access here = refl
  asks-within (ends a {go} {on} last) clock (turn ∷ turns) due access here =
      absurd (let x : Ends ≡ Asks due access = ap (λ (b : Bool). if b then Ends else played e.cog (behind clock a turn.key.clock) (go turn.answer) turns) (sym last) ∙ here in cc)

  -- the next access is asked for a statement from which the course that begins here is made
  abbrev pub IsMadeFor : S → Deeds → List Turn → Type 0
  IsMadeFor s t turns = (place : Place) × line s place × (statement_after t (map answer_of turns) ≡ Some place)

  -- after some bytecodes
  pub asks-after : {f : ℕ} {at : Place} {d : Course S} {t : Deeds} → Meets e line f at d t → (n clock : ℕ) (turns : List Turn) (s : S) (begin : ℕ) (left : List Turn) (due : ℕ) (access : Access)
      → n < f → after e n (played e.cog clock d turns) ≡ Goes s begin left → after e (suc n) (played e.cog clock d turns) ≡ Asks due access → IsMadeFor s t turns
  unfolding after
  asks-after (is_untold x) n clock turns s begin left due access lt here there = absurd (omega (arith, lt))
  asks-after (goes_on {s = x} next made_from le m) zero clock turns s begin left due access lt here there =
      let same : x ≡ s = cc in
      (next, subst (λ y. line y next) same made_from, asks-within m (clock + e.cost x) turns due access there)
  asks-after (goes_on {f} {s = x} next made_from le m) (suc n) clock turns s begin left due access lt here there =
      asks-after m n (clock + e.cost x) turns s begin left due access (omega (arith, le, lt)) (sym (after-first n (Goes x clock turns)) ∙ here) (sym (after-first (suc n) (Goes x clock turns)) ∙ there)
  asks-after (halts reason) n clock [] s begin left due access lt here there = absurd (let x : Asks clock _ ≡ Goes s begin left = sym (after-asks e n clock _) ∙ here in cc)
  asks-after (halts reason) n clock (turn ∷ turns) s begin left due access lt here there = absurd (let x : Ends ≡ Goes s begin left = sym (after-ends e n) ∙ here in cc)
  asks-after (asks a m) n clock [] s begin left due access lt here there = absurd (let x : Asks _ a ≡ Goes s begin left = sym (after-asks e n _ a) ∙ here in cc)
  asks-after (asks a {go} {on} m) n clock (turn ∷ turns) s begin left due access lt here there =
      if-goes (is_last e.cog a) _ here there (λ h k. asks-after (m turn.answer) n (behind clock a turn.key.clock) turns s begin left due access lt h k)
    where
      if-goes : (b : Bool) (o : Outcome S) {X : Type 0} → after e n (if b then Ends else o) ≡ Goes s begin left → after e (suc n) (if b then Ends else o) ≡ Asks due access
          → (after e n o ≡ Goes s begin left → after e (suc n) o ≡ Asks due access → X) → X
      if-goes true o h k x = absurd (let y : Ends ≡ Goes s begin left = sym (after-ends e n) ∙ h in cc)
      if-goes false o h k x = x h k
  asks-after (ends a last) n clock [] s begin left due access lt here there = absurd (let x : Asks _ a ≡ Goes s begin left = sym (after-asks e n _ a) ∙ here in cc)
  asks-after (ends a {go} {on} last) n clock (turn ∷ turns) s begin left due access lt here there =
      let over : (if is_last e.cog a then Ends else played e.cog (behind clock a turn.key.clock) (go turn.answer) turns) ≡ Ends =
      ap (λ (b : Bool). if b then Ends else played e.cog (behind clock a turn.key.clock) (go turn.answer) turns) last in
      absurd (let x : Ends ≡ Goes s begin left = sym (after-ends e n) ∙ ap (after e n) (sym over) ∙ here in cc)

-- ---- the same of what is still to be done, with this bound and these registers; there are at least so many bytecodes

-- courses, the statement that each is made from, and the statement at hand
pub record Reading (S : Type 0) : Type 1 where
  pub engine : Engine S
  pub line : S → Place → Type 0
  pub hand : Place

module _ {S : Type 0} (e : Reading S) where
  abbrev pub MeetsHere : ℕ → Course S → Deeds → Type 0
  MeetsHere f d t = Meets e.engine e.line f e.hand d t

  pub weaken : {f g : ℕ} {d : Course S} {t : Deeds} → g ≤ f → MeetsHere f d t → MeetsHere g d t
  weaken le m = less-meets e.engine e.line le m

  pub meets-untold : (s : S) → MeetsHere 0 (Finish s) Untold
  meets-untold s = is_untold s

  pub meets-halt : (f : ℕ) (reason : Reason) → MeetsHere f (Stop reason) (HaltsFor e.hand reason)
  meets-halt f reason = halts reason

  pub meets-ask : (f : ℕ) (access : Access) {go : Answer → Course S} {on : Answer → Deeds} → ((answer : Answer) → MeetsHere f (go answer) (on answer)) → MeetsHere f (Ask access go) (AsksFor e.hand access on)
  meets-ask f access m = asks access m

  pub meets-last : (f : ℕ) (access : Access) {go : Answer → Course S} {on : Answer → Deeds} → is_last e.engine.cog access ≡ true → MeetsHere f (Ask access go) (AsksFor e.hand access on)
  meets-last f access last = ends access last

  pub record Follows (count f : ℕ) (own : Registers) (d : Course S) (r : Rest) : Type 0 where
    pub meets : MeetsHere count d (r f (record own { statement = e.hand }))

  pub follows-if : (b : Bool) {count f : ℕ} {own : Registers} {d c : Course S} {r t : Rest} → Follows count f own d r → Follows count f own c t → Follows count f own (if b then d else c) (if b then r else t)
  follows-if true m n = m
  follows-if false m n = n

  pub follows-halts : {count f : ℕ} {own : Registers} (reason : Reason) → Follows count f own (Stop reason) (source_halts reason)
  follows-halts reason = record { meets = meets-halt _ reason }

  pub follows-asks : {count f : ℕ} {own : Registers} (access : Access) {go : Answer → Course S} (on : ℕ → Rest) → ((answer : Answer) → Follows count f own (go answer) (on (word_in answer))) → Follows count f own (Ask access go) (source_asks access on)
  follows-asks access on m = record { meets = meets-ask _ access (λ answer. (m answer).meets) }

-- what comes back to the statement at hand, and goes on for it
module _ {S : Type 0} (engine : Engine S) (line : S → Place → Type 0) (hand : Place) where
  abbrev reads : Place → Reading S
  reads at = record { engine = engine; line = line; hand = at }

  pub comes-back : {count f : ℕ} {own : Registers} {d : Course S} (does : (Rest → Rest) → Rest) → Follows (reads hand) count f own d (does (for_statement hand)) → Follows (reads hand) count f own d (comes_back does)
  comes-back does m = record { meets = m.meets }

  pub goes-back : {count f : ℕ} {own : Registers} {s : S} (r : Rest) (at : Place) → Follows (reads hand) count f own (Finish s) r → Follows (reads at) count f own (Finish s) (for_statement hand r)
  goes-back r at m = record { meets = any-place engine line m.meets }
