-- internal: what follows from a replay. No public contract cites it.
use Rattle.std.proofs.Common.{◌≡◌, ◌⊎◌, inl, inr, ℕ, zero, suc, ◌+◌, ◌<◌, ◌≤◌, Bool, true, false, List, [], ◌∷◌, ◌++◌, refl, sym, ◌∙◌, ap, subst}
use Rattle.std.proofs.Common.{arith, add_comm, add-one, if◌then◌else◌}
use Rattle.std.proofs.lemmas.Grind.{common_steps}
use Rattle.p8_access.specs.declared.kinds.Access.{Access}
use Rattle.p8_access.specs.declared.kinds.Access.TheVariants.{PinsIn, OutSet, DirSet, Wait, Clock, Halt}
use Rattle.p8_access.specs.declared.order.Turn.{Turn}
use Rattle.p8_access.specs.Lives.{is_last, IsOnTime, IsTurnAt}
use Rattle.p8_access.specs.Courses.{Course, Finish, Stop, Ask}
use Rattle.p8_access.specs.Timing.{Outcome, Asks, Goes, Ends, earliest, behind, played}
use Rattle.p8_access.specs.Replays.{Engine, step, after, replayed}

-- ---- clocks

-- an access isn't before the clock at which it is asked, and within the next window
pub earliest-from : (cog p : ℕ) (access : Access) → p ≤ earliest cog p access
earliest-from cog p PinsIn = omega arith
earliest-from cog p Clock = omega arith
earliest-from cog p (OutSet value) = omega arith
earliest-from cog p (DirSet value) = omega arith
earliest-from cog p (Wait test) = omega arith
earliest-from cog p (Halt reason) = omega arith
earliest-from cog p _ = omega arith

pub earliest-near : (cog p : ℕ) (access : Access) → earliest cog p access ≤ p + 16
earliest-near cog p PinsIn = omega arith
earliest-near cog p Clock = omega arith
earliest-near cog p (OutSet value) = omega arith
earliest-near cog p (DirSet value) = omega arith
earliest-near cog p (Wait test) = omega arith
earliest-near cog p (Halt reason) = omega arith
earliest-near cog p _ = omega arith

-- what comes after a turn that is on time is later than it, and not far after
pub behind-later : (cog p : ℕ) (access : Access) (turn : ℕ) → IsOnTime access (earliest cog p access) turn → turn + 1 ≤ behind p access turn
behind-later cog p PinsIn turn on = omega (arith, on)
behind-later cog p Clock turn on = omega (arith, on)
behind-later cog p (OutSet value) turn on = omega (arith, on)
behind-later cog p (DirSet value) turn on = omega (arith, on)
behind-later cog p (Wait test) turn on = omega arith
behind-later cog p (Halt reason) turn on = omega arith
behind-later cog p _ turn on = omega arith

pub behind-near : (cog p : ℕ) (access : Access) (turn : ℕ) → IsOnTime access (earliest cog p access) turn → behind p access turn ≤ turn + 7
behind-near cog p PinsIn turn on = omega (arith, on)
behind-near cog p Clock turn on = omega (arith, on)
behind-near cog p (OutSet value) turn on = omega (arith, on)
behind-near cog p (DirSet value) turn on = omega (arith, on)
behind-near cog p (Wait test) turn on = omega arith
behind-near cog p (Halt reason) turn on = omega arith
behind-near cog p _ turn on = omega arith

-- ---- one course

-- nothing that comes is before this clock, and no turn is left
abbrev pub IsFrom : {S : Type 0} → ℕ → Outcome S → Type 0
IsFrom clock (Goes s c []) = clock ≤ c
IsFrom clock (Goes s c (turn ∷ left)) = ⊥
IsFrom clock (Asks c access) = clock ≤ c
IsFrom clock Ends = Unit {0}

if-from : {S : Type 0} (clock : ℕ) (b : Bool) (o : Outcome S) → IsFrom clock o → IsFrom clock (if b then Ends else o)
if-from clock true o from = tt
if-from clock false o from = from

pub played-from : {S : Type 0} (cog p least : ℕ) (course : Course S) → least ≤ p → IsFrom least (played cog p course [])
played-from cog p least (Finish s) le = le
played-from cog p least (Stop reason) le = le
played-from cog p least (Ask access go) le = omega (arith, le, earliest-from cog p access)

-- more turns after: they are left where the outcome doesn't wait for one
abbrev pub more : {S : Type 0} → Outcome S → List Turn → Outcome S
more (Goes s clock left) extra = Goes s clock (left ++ extra)
more (Asks clock access) extra = Asks clock access
more Ends extra = Ends

abbrev pub Moves : {S : Type 0} → Outcome S → Type 0
Moves (Goes s clock left) = Unit {0}
Moves (Asks clock access) = ⊥
Moves Ends = Unit {0}

if-more : {S : Type 0} (b : Bool) (o p : Outcome S) (extra : List Turn) → (Moves o → p ≡ more o extra) → Moves (if b then Ends else o) →
    (if b then Ends else p) ≡ more (if b then Ends else o) extra
if-more true o p extra same moves = refl
if-more false o p extra same moves = same moves

played-more : {S : Type 0} (cog p : ℕ) (course : Course S) (ts extra : List Turn) → Moves (played cog p course ts) →
    played cog p course (ts ++ extra) ≡ more (played cog p course ts) extra
played-more cog p (Finish s) ts extra moves = refl
played-more cog p (Stop reason) [] extra moves = absurd moves
played-more cog p (Stop reason) (turn ∷ ts) extra moves = refl
played-more cog p (Ask access go) [] extra moves = absurd moves
played-more cog p (Ask access go) (turn ∷ ts) extra moves =
    if-more (is_last cog access) _ _ extra (played-more cog (behind p access turn.key.clock) (go turn.answer) ts extra) moves

if-asks : {S : Type 0} (b : Bool) (o : Outcome S) (clock : ℕ) (access : Access) → (if b then Ends else o) ≡ Asks clock access →
    (b ≡ false) × (o ≡ Asks clock access)
if-asks true o clock access e = absurd (let x : Ends ≡ Asks clock access = e in cc)
if-asks false o clock access e = (refl, e)

-- with the turn of the access that it asks, a course comes to what is later than that turn
pub played-then : {S : Type 0} (cog p : ℕ) (course : Course S) (ts : List Turn) (turn : Turn) (clock : ℕ) (access : Access) →
    IsOnTime access clock turn.key.clock → played cog p course ts ≡ Asks clock access → IsFrom (turn.key.clock + 1) (played cog p course (ts ++ turn ∷ []))
played-then cog p (Finish s) ts turn clock access on asks = absurd (let e : Goes s p ts ≡ Asks clock access = asks in cc)
played-then cog p (Stop reason) [] turn clock access on asks = tt
played-then cog p (Stop reason) (first ∷ ts) turn clock access on asks = tt
played-then cog p (Ask a go) [] turn clock access on asks =
    let same : earliest cog p a ≡ clock = cc in
    let what : a ≡ access = cc in
    if-from (turn.key.clock + 1) (is_last cog a) (played cog (behind p a turn.key.clock) (go turn.answer) [])
    (played-from cog (behind p a turn.key.clock) (turn.key.clock + 1) (go turn.answer)
    (behind-later cog p a turn.key.clock (subst (λ (k : ℕ). IsOnTime a k turn.key.clock) (sym same)
    (subst (λ (x : Access). IsOnTime x clock turn.key.clock) (sym what) on))))
played-then cog p (Ask a go) (first ∷ ts) turn clock access on asks =
    if-from (turn.key.clock + 1) (is_last cog a) _
    (played-then cog (behind p a first.key.clock) (go first.answer) ts turn clock access on (if-asks (is_last cog a) _ clock access asks).1)

-- ---- many courses

-- one course more
pub after-one : {S : Type 0} (e : Engine S) (n : ℕ) (o : Outcome S) → after e (n + 1) o ≡ step e (after e n o)
unfolding after
after-one e n o = rw add-one refl

-- m courses after k
pub after-plus : {S : Type 0} (e : Engine S) (m k : ℕ) (o : Outcome S) → after e (m + k) o ≡ after e m (after e k o)
unfolding after
after-plus e zero k o = grind (arith, common_steps)
after-plus e (suc m) k o =
    let sum : suc m + k ≡ suc (m + k) = omega arith in
    rw sum (ap (step e) (after-plus e m k o))

-- what has stopped stays as it is
pub after-asks : {S : Type 0} (e : Engine S) (n clock : ℕ) (access : Access) → after e n (Asks clock access) ≡ Asks clock access
unfolding after
after-asks e zero clock access = refl
after-asks e (suc n) clock access = ap (step e) (after-asks e n clock access)

pub after-ends : {S : Type 0} (e : Engine S) (n : ℕ) → after e n Ends ≡ Ends
unfolding after
after-ends e zero = refl
after-ends e (suc n) = ap (step e) (after-ends e n)

pub from-below : {S : Type 0} (a b : ℕ) (o : Outcome S) → a ≤ b → IsFrom b o → IsFrom a o
from-below a b (Goes s c []) le from = omega arith
from-below a b (Goes s c (turn ∷ left)) le from = from
from-below a b (Asks c access) le from = omega arith
from-below a b Ends le from = tt

pub step-from : {S : Type 0} (e : Engine S) (clock : ℕ) (o : Outcome S) → IsFrom clock o → IsFrom clock (step e o)
step-from e clock (Goes s c []) from = played-from e.cog (c + e.cost s) clock (e.next s) (omega (arith, from))
step-from e clock (Goes s c (turn ∷ left)) from = absurd from
step-from e clock (Asks c access) from = from
step-from e clock Ends from = from

pub after-from : {S : Type 0} (e : Engine S) (n clock : ℕ) (o : Outcome S) → IsFrom clock o → IsFrom clock (after e n o)
unfolding after
after-from e zero clock o from = from
after-from e (suc n) clock o from = step-from e clock _ (after-from e n clock o from)

step-moves : {S : Type 0} (e : Engine S) (o : Outcome S) → Moves (step e o) → Moves o
step-moves e (Goes s clock left) moves = tt
step-moves e (Asks clock access) moves = moves
step-moves e Ends moves = tt

after-moves : {S : Type 0} (e : Engine S) (n : ℕ) (o : Outcome S) → Moves (after e n o) → Moves o
unfolding after
after-moves e zero o moves = moves
after-moves e (suc n) o moves = after-moves e n o (step-moves e (after e n o) moves)

step-more : {S : Type 0} (e : Engine S) (o : Outcome S) (extra : List Turn) → Moves (step e o) → step e (more o extra) ≡ more (step e o) extra
step-more e (Goes s clock left) extra moves = played-more e.cog (clock + e.cost s) (e.next s) left extra moves
step-more e (Asks clock access) extra moves = refl
step-more e Ends extra moves = refl

after-more : {S : Type 0} (e : Engine S) (n : ℕ) (o : Outcome S) (extra : List Turn) → Moves (after e n o) → after e n (more o extra) ≡ more (after e n o) extra
unfolding after
after-more e zero o extra moves = refl
after-more e (suc n) o extra moves =
    ap (step e) (after-more e n o extra (step-moves e _ moves)) ∙ step-more e (after e n o) extra moves

-- ---- a life

module _ {S : Type 0} (e : Engine S) (start : ℕ) (first : Course S) where
  -- where a turn comes, it is left for the course that has been reached
  pub turn-kept : (k : ℕ) (ts : List Turn) (turn : Turn) (s : S) (clock : ℕ) (left : List Turn) → replayed e start first k ts ≡ Goes s clock left →
      replayed e start first k (ts ++ turn ∷ []) ≡ Goes s clock (left ++ turn ∷ [])
  turn-kept k ts turn s clock left reached =
      let moves : Moves (replayed e start first k ts) = subst Moves (sym reached) tt in
      let begun : Moves (played e.cog start first ts) = after-moves e k (played e.cog start first ts) moves in
      ap (after e k) (played-more e.cog start first ts (turn ∷ []) begun)
      ∙ after-more e k (played e.cog start first ts) (turn ∷ []) moves
      ∙ ap (λ (o : Outcome S). more o (turn ∷ [])) reached

  -- and is taken by that course
  pub turn-taken : (k : ℕ) (ts : List Turn) (turn : Turn) (s : S) (clock : ℕ) (left : List Turn) → replayed e start first k ts ≡ Goes s clock left →
      replayed e start first (k + 1) (ts ++ turn ∷ []) ≡ played e.cog (clock + e.cost s) (e.next s) (left ++ turn ∷ [])
  turn-taken k ts turn s clock left reached =
      after-one e k _ ∙ ap (step e) (turn-kept k ts turn s clock left reached)

  -- what is asked at all is asked from what has been reached
  pub asked-from : (ts : List Turn) (k n clock : ℕ) (access : Access) (o : Outcome S) → replayed e start first k ts ≡ o →
      replayed e start first n ts ≡ Asks clock access → after e n o ≡ Asks clock access
  asked-from ts k n clock access o reached asks =
      ap (after e n) (sym reached) ∙ sym (after-plus e n k _)
      ∙ ap (λ (count : ℕ). replayed e start first count ts) (add_comm n k)
      ∙ after-plus e k n _ ∙ ap (after e k) asks ∙ after-asks e k clock access

  -- and not before it
  pub not-before : (ts : List Turn) (k : ℕ) (o : Outcome S) (until : ℕ) → replayed e start first k ts ≡ o → IsFrom until o →
      (n clock : ℕ) (access : Access) → replayed e start first n ts ≡ Asks clock access → until ≤ clock
  not-before ts k o until reached from n clock access asks =
      subst (IsFrom until) (asked-from ts k n clock access o reached asks) (after-from e n until o from)

  pub begin-bounds : (ts : List Turn) (until : ℕ) → IsFrom until (played e.cog start first ts) → (n clock : ℕ) (access : Access) →
      replayed e start first n ts ≡ Asks clock access → until ≤ clock
  unfolding after
  begin-bounds ts until from n clock access asks =
      not-before ts zero (played e.cog start first ts) until refl from n clock access asks

  -- one access is asked
  pub one-asked : (ts : List Turn) (m n c d : ℕ) (a b : Access) → replayed e start first m ts ≡ Asks c a → replayed e start first n ts ≡ Asks d b →
      (c ≡ d) × (a ≡ b)
  one-asked ts m n c d a b one other =
      let same : Asks c a ≡ Asks d b = sym (after-asks e n c a) ∙ asked-from ts m n d b (Asks c a) one other in
      (cc, cc)

  -- nothing is asked before the start
  pub asked-first : (n c : ℕ) (a : Access) → replayed e start first n [] ≡ Asks c a → start ≤ c
  asked-first n c a asked = begin-bounds [] start (played-from e.cog start start first (omega arith)) n c a asked

  -- a course that has been reached and asks this
  abbrev pub Asker : Outcome S → ℕ → Access → Type 0
  Asker o clock access =
      (k : ℕ) × (at : S) × (begin : ℕ) × (left : List Turn) × (after e k o ≡ Goes at begin left) ×
      (played e.cog (begin + e.cost at) (e.next at) left ≡ Asks clock access)

  asker-step : (n : ℕ) (from : Outcome S) (clock : ℕ) (access : Access) (o : Outcome S) →
      (after e n from ≡ Asks clock access → (from ≡ Asks clock access) ⊎ Asker from clock access) → after e n from ≡ o →
      step e o ≡ Asks clock access → (from ≡ Asks clock access) ⊎ Asker from clock access
  asker-step n from clock access (Goes at begin left) before reached asks = inr (n, at, begin, left, reached, asks)
  asker-step n from clock access (Asks c a) before reached asks = before (reached ∙ asks)
  asker-step n from clock access Ends before reached asks = absurd (let x : Ends ≡ Asks clock access = asks in cc)

  -- what asks is where a walk begins, or a course on the way
  asker : (n : ℕ) (from : Outcome S) (clock : ℕ) (access : Access) → after e n from ≡ Asks clock access → (from ≡ Asks clock access) ⊎ Asker from clock access
  unfolding after
  asker zero from clock access asks = inl asks
  asker (suc n) from clock access asks = asker-step n from clock access (after e n from) (asker n from clock access) refl asks

  later-by : (ts : List Turn) (turn : Turn) (c d n : ℕ) (a b : Access) → IsOnTime a c turn.key.clock →
      (played e.cog start first ts ≡ Asks c a) ⊎ Asker (played e.cog start first ts) c a → replayed e start first n (ts ++ turn ∷ []) ≡ Asks d b →
      turn.key.clock + 1 ≤ d
  later-by ts turn c d n a b on (inl begins) other =
      begin-bounds (ts ++ turn ∷ []) (turn.key.clock + 1) (played-then e.cog start first ts turn c a on begins) n d b other
  later-by ts turn c d n a b on (inr w) other =
      not-before (ts ++ turn ∷ []) (w.0 + 1) _ (turn.key.clock + 1)
      (turn-taken w.0 ts turn w.1 w.2 w.3 w.4)
      (played-then e.cog (w.2 + e.cost w.1) (e.next w.1) w.3 turn c a on w.5)
      n d b other

  -- what is asked after a turn comes later than it
  pub asked-later : (ts : List Turn) (turn : Turn) (m n c d : ℕ) (a b : Access) → replayed e start first m ts ≡ Asks c a → IsTurnAt c a turn →
      replayed e start first n (ts ++ turn ∷ []) ≡ Asks d b → turn.key.clock < d
  asked-later ts turn m n c d a b one at other =
      let le : turn.key.clock + 1 ≤ d = later-by ts turn c d n a b at.1 (asker m (played e.cog start first ts) c a one) other in
      omega (arith, le)
