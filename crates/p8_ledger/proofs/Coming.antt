-- When a cog's next turn may come, and when it does.
use Rattle.std.proofs.Common.{◌≡◌, ap, sym, ℕ, zero, suc, ◌<◌, ◌≤◌, List, [], ◌∷◌, Option, Some, None, arith, inl, inr}
use Rattle.p8_access.specs.declared.lives.Next.{Next}
use Rattle.p8_access.specs.declared.lives.Next.TheVariants.{At, Quiet, More}
use Rattle.p8_access.specs.declared.kinds.Test.{Test}
use Rattle.p8_access.specs.declared.kinds.Access.{Access}
use Rattle.p8_access.specs.declared.kinds.Access.TheVariants.{Begin, Load, Read, Wait}
use Rattle.p8_access.specs.declared.order.Key.{Key}
use Rattle.p8_access.specs.declared.order.Turn.{Turn}
use Rattle.p8_access.specs.declared.kinds.Answer.{Answer}
use Rattle.p8_access.specs.Proper.{IsProper}
use Rattle.p8_access.specs.Lives.{IsMade, IsOnTime, IsAnnounced}
use Rattle.p8_access.specs.declared.states.CogState.{CogState}
use Rattle.p8_access.specs.declared.states.CogState.TheVariants.{Stopped, Starting, Running}
use Rattle.p8_access.specs.Worlds.{World}
use Rattle.p8_access.specs.Hub.{cog_state}
use Rattle.p8_access.specs.Histories.{IsAfter, IsDue}
use Rattle.p8_ledger.specs.Waiting.{test_in, newest_key, IsBehind, IsTimely, IsNextAt}
use Rattle.p8_ledger.specs.Records.{Record, turns, said}
use Rattle.p8_ledger.specs.Coming.{MayBe, MayComeIn, IsFrom, waits_for, WaitsFrom}

-- what isn't less
not-less : (x y : ℕ) → (x < y → ⊥) → y ≤ x
not-less x zero p = omega arith
not-less zero (suc y) p = absurd (p (omega arith))
not-less (suc x) (suc y) p = let le : y ≤ x = not-less x y (λ l. p (omega arith)) in omega arith

module _ (w : World) (past : List Turn) (n : ℕ) where
  -- what is due may come
  pub due-may : (access : Access) (earliest clock : ℕ) → IsDue w past n access earliest clock → MayBe w past n (test_in access) earliest clock
  due-may (Wait test) earliest clock due = record { not_before = due.not_before; after = due.after; holds = due.holds }
  due-may _ earliest clock due = due

  -- what may come at no earlier clock is due
  pub may-due : (access : Access) (earliest clock : ℕ) → MayBe w past n (test_in access) earliest clock → ((u : ℕ) → u < clock → MayBe w past n (test_in access) earliest u → ⊥) → IsDue w past n access earliest clock
  may-due (Wait test) earliest clock may first = record {
    not_before = may.not_before;
    after = may.after;
    holds = may.holds;
    least = λ u le after holds. not-less u clock (λ l. first u l (record { not_before = le; after = after; holds = holds }));
  }
  may-due _ earliest clock may first = may

  -- nothing comes before its earliest clock
  pub may-late : (test : Option Test) (earliest clock : ℕ) → MayBe w past n test earliest clock → earliest ≤ clock
  may-late None earliest clock may = omega arith
  may-late (Some test) earliest clock may = may.not_before

  -- an access comes on time
  pub may-timely : (test : Option Test) (earliest clock : ℕ) → MayBe w past n test earliest clock → IsTimely test earliest clock
  may-timely None earliest clock may = sym may
  may-timely (Some test) earliest clock may = may.not_before

  -- what is due is on time
  pub due-timely : (access : Access) (earliest clock : ℕ) → IsDue w past n access earliest clock → IsTimely (test_in access) earliest clock
  due-timely access earliest clock due = may-timely (test_in access) earliest clock (due-may access earliest clock due)

-- the turn of an access is on time
pub timely : (access : Access) (earliest clock : ℕ) → IsTimely (test_in access) earliest clock → IsOnTime access earliest clock
timely (Wait test) earliest clock on = on
timely _ earliest clock on = on

-- what a life makes is well formed
pub made-proper : (access : Access) → IsMade access → IsProper access
made-proper Begin made = absurd made
made-proper Load made = absurd made
made-proper (Read width address) made = made.0
made-proper _ made = made

-- what is next at a clock is announced
pub next-announced : (next : Option (ℕ × Access)) (clock cog : ℕ) (access : Access) (answer : Answer) → IsNextAt next clock (Some access) → IsAnnounced next (record { key = record { clock = clock; cog = cog }; access = access; answer = answer })
next-announced None clock cog access answer at = absurd (let e : Some access ≡ None = at in cc)
next-announced (Some asked) clock cog access answer at = (at.0, timely asked.1 asked.0 clock at.1)

module _ (w : World) (r : Record) (from : ℕ) (late : (n clock : ℕ) → IsAfter (turns r) (record { clock = clock; cog = n }) → from ≤ clock) where
  from-may : (n : ℕ) (test : Option Test) (earliest clock : ℕ) → MayBe w (turns r) n test earliest clock → IsFrom test from clock
  from-may n None earliest clock may = tt
  from-may n (Some test) earliest clock may = late n clock may.after

  from-in : (n : ℕ) (s : CogState) (next : Next) (clock : ℕ) → MayComeIn w (turns r) n s next clock → IsFrom (waits_for s next) from clock
  from-in n Stopped next clock may = tt
  from-in n (Starting since origin) next clock may = tt
  from-in n (Running origin) (At earliest access) clock may = from-may n (test_in access) earliest clock may
  from-in n (Running origin) Quiet clock may = tt
  from-in n (Running origin) (More bound) clock may = tt

  -- waits don't end before the last turn
  pub waits-from : WaitsFrom w r from
  waits-from n clock comes = from-in n (cog_state w (turns r) n) (said n r) clock comes.may

abbrev clock_in : Option Key → ℕ
clock_in None = 0
clock_in (Some key) = key.clock

-- what comes after a key isn't earlier
pub behind-from : (past : List Turn) (key : Key) → Some key ≡ newest_key past → (n clock : ℕ) → IsAfter past (record { clock = clock; cog = n }) → key.clock ≤ clock
behind-from [] key newest n clock after = absurd (let e : Some key ≡ None = newest in cc)
behind-from (turn ∷ past) key newest n clock after =
    let same : key.clock ≡ turn.key.clock = ap clock_in newest in
    elim after [ inl less ↦ omega arith | inr same_clock ↦ (let e : turn.key.clock ≡ clock = same_clock.0 in omega arith) ]

-- to come after the newest turn is to come after the past
pub behind-after : (past : List Turn) (key : Key) → IsBehind (newest_key past) key → IsAfter past key
behind-after [] key behind = tt
behind-after (turn ∷ past) key behind = behind

pub after-behind : (past : List Turn) (key : Key) → IsAfter past key → IsBehind (newest_key past) key
after-behind [] key after = tt
after-behind (turn ∷ past) key after = after
