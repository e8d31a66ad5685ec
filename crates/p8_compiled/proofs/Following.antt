-- A life that goes course by course, followed turn by turn: as long as each turn is that of the access which is asked, the reading with clocks
-- and the one without stand at the same course, and few courses have been begun.
use Rattle.std.proofs.Common.{◌≡◌, refl, sym, ap, subst, ◌∙◌, arith, ℕ, zero, suc, ◌+◌, ◌*◌, ◌<◌, ◌≤◌, Bool, true, false, if◌then◌else◌, List, [], ◌∷◌, ◌++◌, map, append_assoc, append-nil}
use Rattle.p8_access.specs.declared.kinds.Access.{Access}
use Rattle.p8_access.specs.declared.kinds.Access.TheVariants as access_case
use Rattle.p8_access.specs.declared.kinds.Answer.{Answer}
use Rattle.p8_access.specs.declared.order.Turn.{Turn}
use Rattle.p8_access.specs.Lives.{is_last, IsOnTime}
use Rattle.p8_access.specs.Courses.{Course, Finish, Stop, Ask, Closes, told}
use Rattle.p8_access.specs.Timing.{Outcome, Asks, Goes, Ends, earliest, behind, played}
use Rattle.p8_access.specs.Replays.{Engine, step, after, replayed, told_step, told_after, retold, answer_of}
use Rattle.p8_access.specs.Replaying.{earliest-from, behind-later, after-asks, after-ends, asked-from}
use Rattle.p8_meaning.specs.Bounds.{made_of}
use Rattle.p8_compiled.specs.Told.{access_of}

pub map-push : {X Y : Type 0} (f : X → Y) (xs : List X) (x : X) → map f (xs ++ x ∷ []) ≡ map f xs ++ f x ∷ []
map-push f [] x = refl
map-push f (y ∷ ys) x = ap (λ zs. f y ∷ zs) (map-push f ys x)

module _ {S : Type 0} (e : Engine S) (start : ℕ) (first : Course S) where
  -- after these turns so many courses are done after the first, and this one is at hand at this clock
  pub record StandsAt (turns : List Turn) (count clock : ℕ) (course : Course S) : Type 0 where
    pub timed : (more : List Turn) → replayed e start first count (turns ++ more) ≡ played e.cog clock course more
    pub untimed : (more : List Answer) → retold e first count (map answer_of turns ++ more) ≡ told e.cog (map access_of turns) course more
    pub paced : 32 * count ≤ clock

  -- the life is over by these turns
  pub record IsOver (turns : List Turn) (count : ℕ) : Type 0 where
    pub timed : replayed e start first count turns ≡ Ends
    pub untimed : retold e first count (map answer_of turns) ≡ Closes (map access_of turns)

  -- each of these turns is that of an access which was asked, below a limit of clocks
  pub data Follows (limit : ℕ) (turns : List Turn) : Type 0 where
    going : (count clock : ℕ) (course : Course S) → count ≤ limit → StandsAt turns count clock course → Follows limit turns
    over : (count : ℕ) → count ≤ limit → IsOver turns count → Follows limit turns

  pub follows-none : (limit : ℕ) → Follows limit []
  unfolding after told_after
  follows-none limit = going 0 start first (omega arith) (record { timed = λ more. refl; untimed = λ more. refl; paced = omega arith })

  -- ---- the next access

  -- where the next access is asked
  pub record Asker (turns : List Turn) (due : ℕ) (access : Access) : Type 0 where
    pub count : ℕ
    pub clock : ℕ
    pub course : Course S
    pub stands : StandsAt turns count clock course
    pub asks : played e.cog clock course [] ≡ Asks due access

  after-first : (n : ℕ) (o : Outcome S) → after e (suc n) o ≡ after e n (step e o)
  unfolding after
  after-first zero o = refl
  after-first (suc n) o = ap (step e) (after-first n o)

  next-course : (paced : (s : S) → 32 ≤ e.cost s) (turns : List Turn) (count clock : ℕ) (s : S) → StandsAt turns count clock (Finish s) → StandsAt turns (suc count) (clock + e.cost s) (e.next s)
  unfolding after told_after
  next-course paced turns count clock s h = record {
    timed = λ more. ap (step e) (h.timed more);
    untimed = λ more. ap (told_step e) (h.untimed more);
    paced = omega (arith, h.paced, paced s);
  }

  pub find-asker : (paced : (s : S) → 32 ≤ e.cost s) (turns : List Turn) (due : ℕ) (access : Access) (n count clock : ℕ) (course : Course S) → StandsAt turns count clock course → after e n (played e.cog clock course []) ≡ Asks due access → Asker turns due access
  unfolding after
  find-asker paced turns due access n count clock (Stop reason) h asks =
      record { count = count; clock = clock; course = Stop reason; stands = h; asks = sym (after-asks e n clock (access_case.Halt reason)) ∙ asks }
  find-asker paced turns due access n count clock (Ask a go) h asks =
      record { count = count; clock = clock; course = Ask a go; stands = h; asks = sym (after-asks e n (earliest e.cog clock a) a) ∙ asks }
  find-asker paced turns due access zero count clock (Finish s) h asks = absurd (let x : Goes s clock [] ≡ Asks due access = asks in cc)
  find-asker paced turns due access (suc n) count clock (Finish s) h asks =
      find-asker paced turns due access n (suc count) (clock + e.cost s) (e.next s) (next-course paced turns count clock s h) (sym (after-first n (Goes s clock [])) ∙ asks)

  -- ---- its turn

  module _ (limit : ℕ) (turns : List Turn) (turn : Turn) (count clock : ℕ) (few : count ≤ limit) where
    accesses-push : (access : Access) → turn.access ≡ access → map access_of (turns ++ turn ∷ []) ≡ map access_of turns ++ access ∷ []
    accesses-push access same = map-push access_of turns turn ∙ ap (λ (a : Access). map access_of turns ++ a ∷ []) same

    closes : (course : Course S) → StandsAt turns count clock course → (access : Access) → turn.access ≡ access →
        played e.cog clock course (turn ∷ []) ≡ Ends → told e.cog (map access_of turns) course (turn.answer ∷ []) ≡ Closes (map access_of turns ++ access ∷ []) → Follows limit (turns ++ turn ∷ [])
    closes course h access same ends shut = over count few (record {
      timed = h.timed (turn ∷ []) ∙ ends;
      untimed =
          ap (retold e first count) (map-push answer_of turns turn)
          ∙ h.untimed (turn.answer ∷ []) ∙ shut ∙ ap Closes (sym (accesses-push access same));
    })

    asked : (access : Access) (go : Answer → Course S) → StandsAt turns count clock (Ask access go) → turn.access ≡ access → IsOnTime access (earliest e.cog clock access) turn.key.clock →
        earliest e.cog clock access ≤ turn.key.clock → (last : Bool) → is_last e.cog access ≡ last → Follows limit (turns ++ turn ∷ [])
    asked access go h same on late true is =
        closes (Ask access go) h access same
        (ap (λ (b : Bool). if b then Ends else played e.cog (behind clock access turn.key.clock) (go turn.answer) []) is)
        (ap (λ (b : Bool). if b then Closes (map access_of turns ++ access ∷ []) else told e.cog (map access_of turns ++ access ∷ []) (go turn.answer) []) is)
    asked access go h same on late false is = going count (behind clock access turn.key.clock) (go turn.answer) few (record {
      timed = λ more.
          ap (replayed e start first count) (append_assoc turns (turn ∷ []) more)
          ∙ h.timed (turn ∷ more)
          ∙ ap (λ (b : Bool). if b then Ends else played e.cog (behind clock access turn.key.clock) (go turn.answer) more) is;
      untimed = λ more.
          ap (λ (answers : List Answer). retold e first count (answers ++ more)) (map-push answer_of turns turn)
          ∙ ap (retold e first count) (append_assoc (map answer_of turns) (turn.answer ∷ []) more)
          ∙ h.untimed (turn.answer ∷ more)
          ∙ ap (λ (b : Bool). if b then Closes (map access_of turns ++ access ∷ []) else told e.cog (map access_of turns ++ access ∷ []) (go turn.answer) more) is
          ∙ ap (λ (made : List Access). told e.cog made (go turn.answer) more) (sym (accesses-push access same));
      paced = omega (arith, h.paced, earliest-from e.cog clock access, late, behind-later e.cog clock access turn.key.clock on);
    })

    answered : (course : Course S) → StandsAt turns count clock course → (due : ℕ) (access : Access) → played e.cog clock course [] ≡ Asks due access → turn.access ≡ access → IsOnTime access due turn.key.clock → due ≤ turn.key.clock → Follows limit (turns ++ turn ∷ [])
    answered (Finish s) h due access asks same on late = absurd (let x : Goes s clock [] ≡ Asks due access = asks in cc)
    answered (Stop reason) h due access asks same on late =
        let halts : access ≡ access_case.Halt reason = cc in
        closes (Stop reason) h (access_case.Halt reason) (same ∙ halts) refl refl
    answered (Ask a go) h due access asks same on late =
        let when : due ≡ earliest e.cog clock a = cc in
        let what : access ≡ a = cc in
        asked a go h (same ∙ what) (subst (λ (d : ℕ). IsOnTime a d turn.key.clock) when (subst (λ (x : Access). IsOnTime x due turn.key.clock) what on)) (subst (λ (d : ℕ). d ≤ turn.key.clock) when late) (is_last e.cog a) refl

  -- an access is asked at its clock or later
  pub due-from : (clock : ℕ) (course : Course S) (due : ℕ) (access : Access) → played e.cog clock course [] ≡ Asks due access → clock ≤ due
  due-from clock (Finish s) due access asks = absurd (let x : Goes s clock [] ≡ Asks due access = asks in cc)
  due-from clock (Stop reason) due access asks = let when : clock ≡ due = cc in omega (arith, when)
  due-from clock (Ask a go) due access asks = let when : earliest e.cog clock a ≡ due = cc in omega (arith, when, earliest-from e.cog clock a)

  module _ (paced : (s : S) → 32 ≤ e.cost s) (limit : ℕ) (turns : List Turn) (turn : Turn) (n due : ℕ) (asks : replayed e start first n turns ≡ Asks due turn.access) (on : IsOnTime turn.access due turn.key.clock) (late : due ≤ turn.key.clock) (below : turn.key.clock < limit) where
    taken : Asker turns due turn.access → Follows limit (turns ++ turn ∷ [])
    taken a = answered limit turns turn a.count a.clock (omega (arith, a.stands.paced, due-from a.clock a.course due turn.access a.asks, late, below)) a.course a.stands due turn.access a.asks refl on late

    -- the turn of the access that is asked next
    pub follows-more : Follows limit turns → Follows limit (turns ++ turn ∷ [])
    follows-more (going count clock course few h) =
        let here : replayed e start first count turns ≡ played e.cog clock course [] = ap (replayed e start first count) (sym (append-nil turns)) ∙ h.timed [] in
        taken (find-asker paced turns due turn.access n count clock course h (asked-from e start first turns count n due turn.access _ here asks))
    follows-more (over count few h) =
        let none : Ends ≡ Asks due turn.access = sym (after-ends e n) ∙ asked-from e start first turns count n due turn.access _ h.timed asks in
        absurd cc

  -- ---- what has been made

  -- some number of courses within the limit makes these accesses of the answers
  pub record Makes (limit : ℕ) (turns : List Turn) : Type 0 where
    pub count : ℕ
    pub few : count ≤ limit
    pub makes : made_of (retold e first count (map answer_of turns)) ≡ map access_of turns

  made-told : (made : List Access) (course : Course S) → made_of (told e.cog made course []) ≡ made
  made-told made (Finish s) = refl
  made-told made (Stop reason) = refl
  made-told made (Ask access go) = refl

  pub follows-makes : (limit : ℕ) (turns : List Turn) → Follows limit turns → Makes limit turns
  follows-makes limit turns (going count clock course few h) = record {
    count = count;
    few = few;
    makes = ap (λ (answers : List Answer). made_of (retold e first count answers)) (sym (append-nil (map answer_of turns))) ∙ ap made_of (h.untimed []) ∙ made-told (map access_of turns) course;
  }
  follows-makes limit turns (over count few h) = record { count = count; few = few; makes = ap made_of h.untimed }
