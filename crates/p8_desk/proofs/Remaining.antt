-- What is left of a run falls with each try.
use Rattle.std.proofs.Common.{◌≡◌, ◌≢◌, inl, inr, ⊎_elim, ◌∙◌, ap, sym, subst, refl, ℕ, zero, suc, ◌+◌, ◌-◌, ◌*◌, ◌<◌, ◌≤◌, ◌∷◌, length, Some, arith}
use mathlib.Core.Logic.{dite}
use native.Mathlib.Decide.{ℕ_discrete}
use Rattle.p8_access.specs.declared.order.Key.{Key}
use Rattle.p8_access.specs.declared.order.Turn.{Turn}
use Rattle.p8_access.specs.declared.kinds.Origin.{Origin}
use Rattle.p8_access.specs.declared.lives.Next.{Next}
use Rattle.p8_access.specs.declared.lives.Next.TheVariants.{At, Quiet, More}
use Rattle.p8_access.specs.Lives.{Begun, PasmBegun, SpinBegun}
use Rattle.p8_access.specs.declared.states.CogState.{CogState}
use Rattle.p8_access.specs.declared.states.CogState.TheVariants.{Running}
use Rattle.p8_access.specs.Worlds.{World}
use Rattle.p8_access.specs.Hub.{cog_state}
use Rattle.p8_access.proofs.Nexts.{same_key}
use Rattle.p8_ledger.specs.declared.steps.Step.{Step}
use Rattle.p8_ledger.specs.declared.steps.Step.TheVariants.{Took, Said}
use Rattle.p8_ledger.specs.Records.{Record, turns, said, says, cog_of, HasFront, HasFrontIn, IsLeastFront, NoFront}
use Rattle.p8_desk.specs.declared.turned.Turned.{Turned}
use Rattle.p8_desk.specs.declared.turned.Turned.TheVariants.{Done, Held, After, Ahead, Over}
use Rattle.p8_desk.specs.Gathering.{open_by, open_in, rest_of, names_none, left_to_do, next_cog}
use Rattle.p8_desk.specs.Tries.{pace_of, most_of, GoesOn, Says, Speaks, Answers, seen_by}
use Rattle.p8_desk.proofs.Lookups.{test-same, test-apart, some-same, none-some}

module _ (limit : ℕ) where
  -- a step of a cog changes what its promise leaves open, and no other
  open-beside : (k : ℕ) (step : Step) (s : Record) → k ≤ cog_of step → open_in limit k (step ∷ s) ≡ open_in limit k s
  open-beside zero step s le = refl
  open-beside (suc k) step s le =
      let before = open-beside k step s (omega arith) in
      let other : said k (step ∷ s) ≡ said k s = rw (test-apart (cog_of step) k (λ e. omega arith)) refl in
      λ i. before i + open_by limit (other i)

  open-within : (k : ℕ) (step : Step) (s : Record) → cog_of step < k → open_in limit k (step ∷ s) + open_by limit (said (cog_of step) s) ≡ open_in limit k s + open_by limit (says step)
  open-within zero step s lt = absurd (omega arith)
  open-within (suc k) step s lt = dite (ℕ_discrete (cog_of step) k)
      (λ (here : cog_of step ≡ k).
      let before = open-beside k step s (omega arith) in
      let own : said k (step ∷ s) ≡ says step = rw (test-same (cog_of step) k here) refl in
      let now : open_by limit (said k (step ∷ s)) ≡ open_by limit (says step) = ap (open_by limit) own in
      let was : open_by limit (said (cog_of step) s) ≡ open_by limit (said k s) = ap (λ (m : ℕ). open_by limit (said m s)) here in
      sums _ _ _ _ _ _ before now was)
      (λ (ne : cog_of step ≢ k).
      let more = open-within k step s (omega arith) in
      let other : open_by limit (said k (step ∷ s)) ≡ open_by limit (said k s) = rw (test-apart (cog_of step) k ne) refl in
      sums-beside _ _ _ _ _ _ more other)
    where
      sums : (a b c d e f : ℕ) → a ≡ b → c ≡ d → e ≡ f → (a + c) + e ≡ (b + f) + d
      sums a b c d e f p q r = omega arith

      sums-beside : (a b c d e f : ℕ) → a + e ≡ b + f → c ≡ d → (a + c) + e ≡ (b + d) + f
      sums-beside a b c d e f p q = omega arith

  pub open-most : (next : Next) → open_by limit next ≤ 1 + limit
  open-most (At clock access) = omega arith
  open-most Quiet = omega arith
  open-most (More bound) = omega arith

  -- a saying leaves no more open than the promise before it, and less where that was below the limit
  pub goes-down : (pace most old : ℕ) (next : Next) → 1 ≤ pace → GoesOn pace most limit old next → open_by limit next ≤ open_by limit (More old)
  goes-down pace most old (At clock access) p g = omega arith
  goes-down pace most old Quiet p g = omega arith
  goes-down pace most old (More bound) p g = let rise = g.1 in omega arith

  pub goes-below : (pace most old : ℕ) (next : Next) → 1 ≤ pace → old < limit → GoesOn pace most limit old next → open_by limit next < open_by limit (More old)
  goes-below pace most old (At clock access) p lt g = omega arith
  goes-below pace most old Quiet p lt g = omega arith
  goes-below pace most old (More bound) p lt g = let rise = g.1 in omega arith

has-pace : (life : Begun) → 1 ≤ pace_of life
has-pace (PasmBegun loaded) = omega arith
has-pace (SpinBegun entered) = omega arith

-- a saying
pub said-less : (w : World) (n : ℕ) (next : Next) (r : Record) → n < 8 → Says w r n next → rest_of w (Said n next ∷ r) ≤ rest_of w r
said-less w n next r near says =
    let sum = open-within w.clocks 8 (Said n next) r near in
    let last : open_by w.clocks (said n r) ≡ open_by w.clocks (More says.owes.promise.0) = ap (open_by w.clocks) says.owes.promise.1 in
    let less = goes-down w.clocks (pace_of says.life) (most_of says.life) says.owes.promise.0 next (has-pace says.life) says.goes_on in
    weigh ((w.turns - length (turns r)) * (w.clocks + 2)) _ _ _ _ _ sum last less
  where
    weigh : (x a b c d e : ℕ) → a + c ≡ b + d → c ≡ e → d ≤ e → x + a ≤ x + b
    weigh x a b c d e p q r = omega arith

pub said-below : (w : World) (n : ℕ) (next : Next) (r : Record) (says : Says w r n next) → n < 8 → says.owes.promise.0 < w.clocks → rest_of w (Said n next ∷ r) < rest_of w r
said-below w n next r says near lt =
    let sum = open-within w.clocks 8 (Said n next) r near in
    let last : open_by w.clocks (said n r) ≡ open_by w.clocks (More says.owes.promise.0) = ap (open_by w.clocks) says.owes.promise.1 in
    let less = goes-below w.clocks (pace_of says.life) (most_of says.life) says.owes.promise.0 next (has-pace says.life) lt says.goes_on in
    weigh ((w.turns - length (turns r)) * (w.clocks + 2)) _ _ _ _ _ sum last less
  where
    weigh : (x a b c d e : ℕ) → a + c ≡ b + d → c ≡ e → d < e → x + a < x + b
    weigh x a b c d e p q r = omega arith

-- a turn
fewer : (all made each : ℕ) → made < all → (all - made) * each ≡ (all - suc made) * each + each
fewer all made each lt = let e : all - made ≡ suc (all - suc made) = omega arith in ap (λ (k : ℕ). k * each) e ∙ more (all - suc made)
  where
    more : (k : ℕ) → suc k * each ≡ k * each + each
    more k = omega arith

pub took-below : (w : World) (turn : Turn) (r : Record) → turn.key.cog < 8 → length (turns r) < w.turns → rest_of w (Took turn ∷ r) < rest_of w r
took-below w turn r near room =
    let sum = open-within w.clocks 8 (Took turn) r near in
    let most = open-most w.clocks (says (Took turn)) in
    let f = fewer w.turns (length (turns r)) (w.clocks + 2) room in
    weigh _ _ _ _ _ _ w.clocks f sum most
  where
    weigh : (x y a b c d limit : ℕ) → x ≡ y + (limit + 2) → a + c ≡ b + d → d ≤ 1 + limit → y + a < x + b
    weigh x y a b c d limit p q r = omega arith

-- the cog with the least front runs, and its last word is a promise: that is below the limit
promised : (w : World) (r : Record) (n clock old : ℕ) → HasFront w r n clock → (origin : Origin) × (cog_state w (turns r) n ≡ Running origin) → said n r ≡ More old → old < w.clocks
promised w r n clock old front runs word =
    let in_state : HasFrontIn w (turns r) n (Running runs.0) (More old) clock = subst (λ (y : CogState × Next). HasFrontIn w (turns r) n y.0 y.1 clock) (λ i. (runs.1 i, word i)) front in
    in_state.1

-- two least fronts are one
one-least : (w : World) (r : Record) (a b : Key) → IsLeastFront w r a → IsLeastFront w r b → a ≡ b
one-least w r a b x y = same_key a b (λ before. y.least a.cog a.clock x.there before) (λ before. x.least b.cog b.clock y.there before)

-- a record is at most as long, and shorter after a turn
after-answer : (w : World) (n : ℕ) (s : Record) (answer : Turned) → n < 8 → Answers w s n answer → rest_of w (seen_by answer s) ≤ rest_of w s
after-answer w n s (Done turn) near a = let lt = took-below w turn s (let cog : turn.key.cog ≡ n = a.1 in omega arith) a.0.room in omega arith
after-answer w n s (After other bound) near a = omega arith
after-answer w n s (Ahead bound) near a = omega arith
after-answer w n s Over near a = omega arith
after-answer w n s (Held by) near a = absurd a

-- the cog that has the least front
record IsNamed (w : World) (r : Record) (n : ℕ) : Type 0 where
  room : length (turns r) < w.turns
  clock : ℕ
  least : IsLeastFront w r (record { clock = clock; cog = n })

names-it : (w : World) (before r : Record) (m n bound : ℕ) → length (turns before) < w.turns → IsLeastFront w before (record { clock = bound; cog = m }) → m ≡ n → r ≡ before → IsNamed w r n
names-it w before r m n bound room least same is = record {
  room = subst (λ (t : Record). length (turns t) < w.turns) (sym is) room;
  clock = bound;
  least = subst (λ (y : Record × ℕ). IsLeastFront w y.0 (record { clock = bound; cog = y.1 })) (λ i. (sym is i, same i)) least;
}

-- it says something, or makes a turn
named-falls : (w : World) (n : ℕ) (next : Next) (r s : Record) (answer : Turned) → n < 8 → IsNamed w r n → Speaks w n next r s → Answers w s n answer → rest_of w (seen_by answer s) < rest_of w r
named-falls w n next r s answer near named (inl spoke) a =
    let says = spoke.1 in
    let below = promised w r n named.clock says.owes.promise.0 named.least.there says.owes.runs says.owes.promise.1 in
    let lt = said-below w n next r says near below in
    let same : rest_of w s ≡ rest_of w (Said n next ∷ r) = ap (rest_of w) spoke.0 in
    let le = after-answer w n s answer near a in
    weigh _ _ _ _ le same lt
  where
    weigh : (a b c d : ℕ) → a ≤ b → b ≡ c → c < d → a < d
    weigh a b c d p q r = omega arith
named-falls w n next r s answer near named (inr silent) a = subst (λ (t : Record). rest_of w (seen_by answer t) < rest_of w r) (sym silent.0) (by-answer answer (subst (λ (t : Record). Answers w t n answer) silent.0 a))
  where
    by-answer : (answer : Turned) → Answers w r n answer → rest_of w (seen_by answer r) < rest_of w r
    by-answer (Done turn) x = took-below w turn r (let cog : turn.key.cog ≡ n = x.1 in omega arith) x.0.room
    by-answer (Ahead bound) x = absurd (silent.1 (record { room = x.0; runs = x.2; promise = (bound, x.3) }))
    by-answer (After other bound) x = absurd (x.2 (ap (λ (k : Key). k.cog) (one-least w r _ _ x.1 named.least)))
    by-answer Over x = absurd (⊎_elim (λ (full : length (turns r) ≡ w.turns). (let room = named.room in omega arith)) (λ (none : NoFront w r). none n named.clock named.least.there) x.0)
    by-answer (Held by) x = absurd x

names-one : (answer : Turned) → names_none answer ≤ 1
names-one (Done turn) = omega arith
names-one (Held by) = omega arith
names-one (After other bound) = omega arith
names-one (Ahead bound) = omega arith
names-one Over = omega arith

named-less : (w : World) (n : ℕ) (next : Next) (r s : Record) (answer : Turned) → n < 8 → IsNamed w r n → Speaks w n next r s → Answers w s n answer → left_to_do w (seen_by answer s) answer < 2 * rest_of w r + 0
named-less w n next r s answer near named spoken a = weigh _ _ _ (names-one answer) (named-falls w n next r s answer near named spoken a)
  where
    weigh : (a b c : ℕ) → a ≤ 1 → b < c → 2 * b + a < 2 * c + 0
    weigh a b c p q = omega arith

spoken-most : (w : World) (n : ℕ) (next : Next) (r s : Record) → n < 8 → Speaks w n next r s → rest_of w s ≤ rest_of w r
spoken-most w n next r s near (inl spoke) =
    let le = said-less w n next r near spoke.1 in
    let same : rest_of w s ≡ rest_of w (Said n next ∷ r) = ap (rest_of w) spoke.0 in
    subst (λ (k : ℕ). k ≤ rest_of w r) (sym same) le
spoken-most w n next r s near (inr silent) = subst (λ (t : Record). rest_of w t ≤ rest_of w r) (sym silent.0) (omega arith)

-- a try of the cog that is to try next leaves less to do
pub tries-fall : (w : World) (m n : ℕ) (last : Turned) (before : Record) (next : Next) (r s : Record) (answer : Turned) → n < 8 → Answers w before m last → next_cog m last ≡ Some n → r ≡ seen_by last before → Speaks w n next r s → Answers w s n answer
    → left_to_do w (seen_by answer s) answer < left_to_do w r last
tries-fall w m n (Held by) before next r s answer near told names is spoken a = absurd told
tries-fall w m n Over before next r s answer near told names is spoken a = absurd (none-some n names)
tries-fall w m n (Ahead bound) before next r s answer near told names is spoken a = named-less w n next r s answer near (names-it w before r m n bound told.0 told.1 (some-same _ _ names) is) spoken a
tries-fall w m n (After other bound) before next r s answer near told names is spoken a = named-less w n next r s answer near (names-it w before r other n bound told.0 told.1 (some-same _ _ names) is) spoken a
tries-fall w m n (Done turn) before next r s answer near told names is spoken a = by-answer answer a
  where
    le : rest_of w s ≤ rest_of w r
    le = spoken-most w n next r s near spoken

    weigh : (a b : ℕ) → a ≤ b → 2 * a + 0 < 2 * b + 1
    weigh a b p = omega arith

    by-answer : (answer : Turned) → Answers w s n answer → left_to_do w (seen_by answer s) answer < left_to_do w r (Done turn)
    by-answer (Done new) x = weigh-turn _ _ _ (took-below w new s (let cog : new.key.cog ≡ n = x.1 in omega arith) x.0.room) le
      where
        weigh-turn : (a b c : ℕ) → a < b → b ≤ c → 2 * a + 1 < 2 * c + 1
        weigh-turn a b c p q = omega arith
    by-answer (After other bound) x = weigh _ _ le
    by-answer (Ahead bound) x = weigh _ _ le
    by-answer Over x = weigh _ _ le
    by-answer (Held by) x = absurd x
