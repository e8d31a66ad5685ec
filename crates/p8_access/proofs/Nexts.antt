-- A cog has one next access, and keys are compared.
use Rattle.std.proofs.Common.{◌≡◌, ◌∙◌, ap, sym, subst, refl, ℕ, zero, suc, ◌<◌, ◌≤◌, List, Some, arith, inl, inr, ◌⊎◌}
use Rattle.p8_access.specs.declared.kinds.Access.{Access}
use Rattle.p8_access.specs.declared.kinds.Access.TheVariants.{Begin, Load, Read, Write, CogId, CogInit, CogStop, LockNew, LockRet, LockSet, LockClr, ClkSet, PinsIn, OutSet, DirSet, Wait, Clock, Halt}
use Rattle.p8_access.specs.declared.kinds.Test.{Test}
use Rattle.p8_access.specs.declared.order.Key.{Key}
use Rattle.p8_access.specs.declared.order.Turn.{Turn}
use Rattle.p8_access.specs.Windows.{Before}
use Rattle.p8_access.specs.Lives.{Begun, IsOnTime}
use Rattle.p8_access.specs.declared.states.CogState.{CogState}
use Rattle.p8_access.specs.declared.states.CogState.TheVariants.{Stopped, Starting, Running}
use Rattle.p8_access.specs.Worlds.{World}
use Rattle.p8_access.specs.Hub.{cog_state}
use Rattle.p8_access.specs.Histories.{IsWoken, IsDue, IsNextIn, IsNextRunning, IsNext, since_begin}

-- keys one by one
abbrev pub key_of : ℕ → ℕ → Key
key_of clock cog = record { clock = clock; cog = cog }

-- of two keys that don't come one before the other both are one
pub same_key : (a b : Key) → (Before a b → ⊥) → (Before b a → ⊥) → a ≡ b
same_key a b p q =
    let p0 : a.clock < b.clock → ⊥ = λ l. p (inl l) in
    let q0 : b.clock < a.clock → ⊥ = λ l. q (inl l) in
    let clock : a.clock ≡ b.clock = omega arith in
    let p1 : a.cog < b.cog → ⊥ = λ l. p (inr (clock, l)) in
    let q1 : b.cog < a.cog → ⊥ = λ l. q (inr (sym clock, l)) in
    let cog : a.cog ≡ b.cog = omega arith in
    λ i. record { clock = clock i; cog = cog i }

-- what isn't greater is less or equal
pub nat_apart : (a b : ℕ) → (b < a → ⊥) → (a < b) ⊎ (a ≡ b)
nat_apart zero zero p = inr refl
nat_apart zero (suc b) p = inl (omega arith)
nat_apart (suc a) zero p = absurd (p (omega arith))
nat_apart (suc a) (suc b) p =
    elim (nat_apart a b (λ l. p (omega arith))) [ inl l ↦ inl (omega arith) | inr e ↦ inr (ap suc e) ]

-- of two keys of different cogs one comes before the other
pub other_key : (a b : Key) → (a.cog ≡ b.cog → ⊥) → (Before b a → ⊥) → Before a b
other_key a b differ q =
    let q0 : b.clock < a.clock → ⊥ = λ l. q (inl l) in
    elim (nat_apart a.clock b.clock q0) [
      | inl less ↦ inl less
      | inr clock ↦ inr (clock, (let q1 : b.cog < a.cog → ⊥ = λ l. q (inr (sym clock, l)) in omega arith))
    ]

module _ (w : World) (past : List Turn) (n : ℕ) where
  -- a wait ends at one clock
  pub one-woken : (test : Test) (earliest c d : ℕ) → IsWoken w past n test earliest c → IsWoken w past n test earliest d → c ≡ d
  one-woken test earliest c d p q =
      let le : c ≤ d = p.least d q.not_before q.after q.holds in
      let ge : d ≤ c = q.least c p.not_before p.after p.holds in
      omega arith

  pub one-due : (access : Access) (earliest c d : ℕ) → IsDue w past n access earliest c → IsDue w past n access earliest d → c ≡ d
  one-due (Wait test) earliest c d p q = one-woken test earliest c d p q
  one-due Begin earliest c d p q = p ∙ sym q
  one-due Load earliest c d p q = p ∙ sym q
  one-due (Read width address) earliest c d p q = p ∙ sym q
  one-due (Write width address value) earliest c d p q = p ∙ sym q
  one-due CogId earliest c d p q = p ∙ sym q
  one-due (CogInit target origin) earliest c d p q = p ∙ sym q
  one-due (CogStop cog) earliest c d p q = p ∙ sym q
  one-due LockNew earliest c d p q = p ∙ sym q
  one-due (LockRet lock) earliest c d p q = p ∙ sym q
  one-due (LockSet lock) earliest c d p q = p ∙ sym q
  one-due (LockClr lock) earliest c d p q = p ∙ sym q
  one-due (ClkSet mode) earliest c d p q = p ∙ sym q
  one-due PinsIn earliest c d p q = p ∙ sym q
  one-due (OutSet value) earliest c d p q = p ∙ sym q
  one-due (DirSet value) earliest c d p q = p ∙ sym q
  one-due Clock earliest c d p q = p ∙ sym q
  one-due (Halt reason) earliest c d p q = p ∙ sym q

  -- an access isn't due before its earliest clock
  pub due-late : (access : Access) (earliest clock : ℕ) → IsDue w past n access earliest clock → earliest ≤ clock
  due-late (Wait test) earliest clock due = due.not_before
  due-late Begin earliest clock due = omega arith
  due-late Load earliest clock due = omega arith
  due-late (Read width address) earliest clock due = omega arith
  due-late (Write width address value) earliest clock due = omega arith
  due-late CogId earliest clock due = omega arith
  due-late (CogInit target origin) earliest clock due = omega arith
  due-late (CogStop cog) earliest clock due = omega arith
  due-late LockNew earliest clock due = omega arith
  due-late (LockRet lock) earliest clock due = omega arith
  due-late (LockSet lock) earliest clock due = omega arith
  due-late (LockClr lock) earliest clock due = omega arith
  due-late (ClkSet mode) earliest clock due = omega arith
  due-late PinsIn earliest clock due = omega arith
  due-late (OutSet value) earliest clock due = omega arith
  due-late (DirSet value) earliest clock due = omega arith
  due-late Clock earliest clock due = omega arith
  due-late (Halt reason) earliest clock due = omega arith

  -- an access is due on time
  pub due-on_time : (access : Access) (earliest clock : ℕ) → IsDue w past n access earliest clock → IsOnTime access earliest clock
  due-on_time (Wait test) earliest clock due = due.not_before
  due-on_time Begin earliest clock due = sym due
  due-on_time Load earliest clock due = sym due
  due-on_time (Read width address) earliest clock due = sym due
  due-on_time (Write width address value) earliest clock due = sym due
  due-on_time CogId earliest clock due = sym due
  due-on_time (CogInit target origin) earliest clock due = sym due
  due-on_time (CogStop cog) earliest clock due = sym due
  due-on_time LockNew earliest clock due = sym due
  due-on_time (LockRet lock) earliest clock due = sym due
  due-on_time (LockSet lock) earliest clock due = sym due
  due-on_time (LockClr lock) earliest clock due = sym due
  due-on_time (ClkSet mode) earliest clock due = sym due
  due-on_time PinsIn earliest clock due = sym due
  due-on_time (OutSet value) earliest clock due = sym due
  due-on_time (DirSet value) earliest clock due = sym due
  due-on_time Clock earliest clock due = sym due
  due-on_time (Halt reason) earliest clock due = sym due

pub some-injective : (a b : Begun) → Some a ≡ Some b → a ≡ b
some-injective a b e = cc

module _ (asked : Begun → List Turn → ℕ → Access → Type 0) (w : World) (past : List Turn) (one_asked : (b : Begun) (ts : List Turn) (c d : ℕ) (a e : Access) → asked b ts c a → asked b ts d e → (c ≡ d) × (a ≡ e)) where
  one-running : (n c d : ℕ) (a e : Access) → IsNextRunning asked w past n c a → IsNextRunning asked w past n d e → (c ≡ d) × (a ≡ e)
  one-running n c d a e p q =
      let life : q.life ≡ p.life = some-injective _ _ (sym q.began ∙ p.began) in
      let asks = subst (λ (b : Begun). asked b (since_begin past n) q.earliest e) life q.asks in
      let same = one_asked p.life (since_begin past n) p.earliest q.earliest a e p.asks asks in
      let due : IsDue w past n e p.earliest d = subst (λ (c : ℕ). IsDue w past n e c d) (sym same.0) q.due in
      let due' : IsDue w past n a p.earliest d = subst (λ (x : Access). IsDue w past n x p.earliest d) (sym same.1) due in
      (one-due w past n a p.earliest c d p.due due', same.1)

  one-next-in : (n : ℕ) (state : CogState) (c d : ℕ) (a e : Access) → IsNextIn asked w past n state c a → IsNextIn asked w past n state d e → (c ≡ d) × (a ≡ e)
  one-next-in n Stopped c d a e p q = absurd p
  one-next-in n (Starting since origin) c d a e p q = (p.0 ∙ sym q.0, p.1 ∙ sym q.1)
  one-next-in n (Running origin) c d a e p q = one-running n c d a e p q

  -- a cog has one next access
  pub one-next : (n c d : ℕ) (a e : Access) → IsNext asked w past n c a → IsNext asked w past n d e → (c ≡ d) × (a ≡ e)
  one-next n c d a e p q = one-next-in n (cog_state w past n) c d a e p.next q.next
