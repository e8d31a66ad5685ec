-- What one turn changes of a cog and its life.
use Rattle.std.proofs.Common.{◌≡◌, ap, refl, ℕ, ◌==◌, ◌&&◌, Bool, true, false, List, [], ◌∷◌, ◌++◌, Some, None, arith, inl, inr, ◌⊎◌, if◌then◌else◌}
use Rattle.std.proofs.lemmas.Bool.Decides.{nat_tests}
use Rattle.p8_access.specs.declared.kinds.Origin.{Origin}
use Rattle.p8_access.specs.declared.kinds.Access.{Access}
use Rattle.p8_access.specs.declared.kinds.Access.TheVariants.{Begin, Load, Read, Write, CogId, CogInit, CogStop, LockNew, LockRet, LockSet, LockClr, ClkSet, PinsIn, OutSet, DirSet, Wait, Clock, Halt}
use Rattle.p8_access.specs.declared.kinds.Answer.{Answer}
use Rattle.p8_access.specs.declared.order.Turn.{Turn}
use Rattle.p8_access.specs.Worlds.{World}
use Rattle.p8_access.specs.Hub.{is_number, Change, Starts, Runs, change_by, cog_state, origin_of}
use Rattle.p8_access.specs.Histories.{begins_life, is_begin, begun, begun_at, since_begin}

-- a cog is another one, or the same
pub decided : (a b : ℕ) → ((a == b) ≡ true) ⊎ ((a == b) ≡ false)
decided a b = elim (a == b) as (λ t. (t ≡ true) ⊎ (t ≡ false)) [ true ↦ inl refl | false ↦ inr refl ]

pub same-cog : (a b : ℕ) → (a == b) ≡ true → a ≡ b
same-cog a b e = grind (arith, nat_tests)

pub differ-cog : (a b : ℕ) → (a == b) ≡ false → a ≡ b → ⊥
differ-cog a b e f = grind (arith, nat_tests)

pub picked : (b : Bool) (c d : Change) → (if b then Some c else None) ≡ Some d → (b ≡ true) × (c ≡ d)
picked true c d e = (refl, cc)
picked false c d e = absurd cc

pub not-picked : (b : Bool) (c : Change) → (if b then Some c else None) ≡ None → b ≡ false
not-picked true c e = absurd cc
not-picked false c e = refl

-- a start comes at the turn's clock
pub starts-at : (n clock cog : ℕ) (access : Access) (answer : Answer) (since : ℕ) (origin : Origin) → change_by n clock cog access answer ≡ Some (Starts since origin) → since ≡ clock
starts-at n clock cog (CogInit target o) answer since origin e = let p = picked (is_number n answer) _ _ e in cc
starts-at n clock cog Begin answer since origin e = let p = picked (cog == n) _ _ e in cc
starts-at n clock cog Load answer since origin e = let p = picked (cog == n) _ _ e in cc
starts-at n clock cog (CogStop target) answer since origin e = let p = picked (target == n) _ _ e in cc
starts-at n clock cog (Halt reason) answer since origin e = let p = picked (cog == n) _ _ e in cc
starts-at n clock cog (Read width address) answer since origin e = absurd cc
starts-at n clock cog (Write width address value) answer since origin e = absurd cc
starts-at n clock cog CogId answer since origin e = absurd cc
starts-at n clock cog LockNew answer since origin e = absurd cc
starts-at n clock cog (LockRet lock) answer since origin e = absurd cc
starts-at n clock cog (LockSet lock) answer since origin e = absurd cc
starts-at n clock cog (LockClr lock) answer since origin e = absurd cc
starts-at n clock cog (ClkSet mode) answer since origin e = absurd cc
starts-at n clock cog PinsIn answer since origin e = absurd cc
starts-at n clock cog (OutSet value) answer since origin e = absurd cc
starts-at n clock cog (DirSet value) answer since origin e = absurd cc
starts-at n clock cog (Wait test) answer since origin e = absurd cc
starts-at n clock cog Clock answer since origin e = absurd cc

-- a life begins with a Begin or a Load of its own cog
pub runs-begins : (n clock cog : ℕ) (access : Access) (answer : Answer) → change_by n clock cog access answer ≡ Some Runs → ((cog == n) && is_begin access) ≡ true
runs-begins n clock cog (CogInit target o) answer e = let p = picked (is_number n answer) _ _ e in absurd cc
runs-begins n clock cog Begin answer e = ap (λ (b : Bool). b && true) (picked (cog == n) _ _ e).0
runs-begins n clock cog Load answer e = ap (λ (b : Bool). b && true) (picked (cog == n) _ _ e).0
runs-begins n clock cog (CogStop target) answer e = let p = picked (target == n) _ _ e in absurd cc
runs-begins n clock cog (Halt reason) answer e = let p = picked (cog == n) _ _ e in absurd cc
runs-begins n clock cog (Read width address) answer e = absurd cc
runs-begins n clock cog (Write width address value) answer e = absurd cc
runs-begins n clock cog CogId answer e = absurd cc
runs-begins n clock cog LockNew answer e = absurd cc
runs-begins n clock cog (LockRet lock) answer e = absurd cc
runs-begins n clock cog (LockSet lock) answer e = absurd cc
runs-begins n clock cog (LockClr lock) answer e = absurd cc
runs-begins n clock cog (ClkSet mode) answer e = absurd cc
runs-begins n clock cog PinsIn answer e = absurd cc
runs-begins n clock cog (OutSet value) answer e = absurd cc
runs-begins n clock cog (DirSet value) answer e = absurd cc
runs-begins n clock cog (Wait test) answer e = absurd cc
runs-begins n clock cog Clock answer e = absurd cc

and-false : (b : Bool) → (b && false) ≡ false
and-false true = refl
and-false false = refl

-- a turn that changes nothing of a cog begins no life of it
pub none-begins : (n clock cog : ℕ) (access : Access) (answer : Answer) → change_by n clock cog access answer ≡ None → ((cog == n) && is_begin access) ≡ false
none-begins n clock cog Begin answer e = ap (λ (b : Bool). b && true) (not-picked (cog == n) _ e)
none-begins n clock cog Load answer e = ap (λ (b : Bool). b && true) (not-picked (cog == n) _ e)
none-begins n clock cog (Read width address) answer e = and-false (cog == n)
none-begins n clock cog (Write width address value) answer e = and-false (cog == n)
none-begins n clock cog CogId answer e = and-false (cog == n)
none-begins n clock cog (CogInit target origin) answer e = and-false (cog == n)
none-begins n clock cog (CogStop target) answer e = and-false (cog == n)
none-begins n clock cog LockNew answer e = and-false (cog == n)
none-begins n clock cog (LockRet lock) answer e = and-false (cog == n)
none-begins n clock cog (LockSet lock) answer e = and-false (cog == n)
none-begins n clock cog (LockClr lock) answer e = and-false (cog == n)
none-begins n clock cog (ClkSet mode) answer e = and-false (cog == n)
none-begins n clock cog PinsIn answer e = and-false (cog == n)
none-begins n clock cog (OutSet value) answer e = and-false (cog == n)
none-begins n clock cog (DirSet value) answer e = and-false (cog == n)
none-begins n clock cog (Wait test) answer e = and-false (cog == n)
none-begins n clock cog Clock answer e = and-false (cog == n)
none-begins n clock cog (Halt reason) answer e = and-false (cog == n)

module _ (w : World) (past : List Turn) (turn : Turn) (n : ℕ) where
  pub begun-same : begins_life n turn ≡ false → begun w (turn ∷ past) n ≡ begun w past n
  begun-same begins = rw begins refl

  pub begun-new : begins_life n turn ≡ true → begun w (turn ∷ past) n ≡ Some (begun_at w n turn.key.clock (origin_of (cog_state w past n)))
  begun-new begins = rw begins refl

  pub since_begin-new : begins_life n turn ≡ true → since_begin (turn ∷ past) n ≡ []
  since_begin-new begins = rw begins refl

  pub since_begin-own : begins_life n turn ≡ false → (turn.key.cog == n) ≡ true → since_begin (turn ∷ past) n ≡ since_begin past n ++ turn ∷ []
  since_begin-own begins own = rw (begins, own) refl

  pub since_begin-other : begins_life n turn ≡ false → (turn.key.cog == n) ≡ false → since_begin (turn ∷ past) n ≡ since_begin past n
  since_begin-other begins other = rw (begins, other) refl

pub other-test : (a b : ℕ) → (a ≡ b → ⊥) → (a == b) ≡ false
other-test a b differ = grind (arith, nat_tests)

pub own-test : (a b : ℕ) → a ≡ b → (a == b) ≡ true
own-test a b same = grind (arith, nat_tests)

-- another cog's turn begins no life of this one
pub other-begins : (turn : Turn) (n : ℕ) → (turn.key.cog ≡ n → ⊥) → begins_life n turn ≡ false
other-begins turn n differ = ap (λ (b : Bool). b && is_begin turn.access) (other-test turn.key.cog n differ)
