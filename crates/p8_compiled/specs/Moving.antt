-- How a choice of wide jumps moves the places of a method's code.
use Rattle.std.specs.Prelude.{◌≡◌, ℕ, zero, suc, ◌+◌, Bool, List, length, slice_get, Some}
use Rattle.p8_bytecode.specs.Reading.{offset_size}

-- how many bytes the offsets of the first jumps have
abbrev pub spent : (wide : ℕ → Bool) → (jumps : ℕ) → ℕ
spent wide zero = 0
spent wide (suc n) = spent wide n + offset_size (wide n)

-- One place of a code by two choices: the same bytes beside offsets stand before it, and the same jumps.
pub record IsSamePlace (a b : ℕ → Bool) (x y : ℕ) : Type 0 where
  pub bytes : ℕ
  pub jumps : ℕ
  pub one : x ≡ bytes + spent a jumps
  pub other : y ≡ bytes + spent b jumps

-- The way of the jump of this number by two choices, from the place after it to the place that it jumps to.
pub record IsSameWay (a b : ℕ → Bool) (number : ℕ) (v w : ℕ × ℕ) : Type 0 where
  pub bytes : ℕ
  pub one : v.0 ≡ bytes + spent a (number + 1)
  pub other : w.0 ≡ bytes + spent b (number + 1)
  pub to : IsSamePlace a b v.1 w.1

-- The ways of all jumps.
pub record AreSameWays (a b : ℕ → Bool) (vs ws : List (ℕ × ℕ)) : Type 0 where
  pub count : length vs ≡ length ws
  pub each : (number : ℕ) (v w : ℕ × ℕ) → slice_get vs number ≡ Some v → slice_get ws number ≡ Some w → IsSameWay a b number v w
