-- A sink over a stream, as contracts see it (this project's profile).
use Rattle.std.specs.Prelude.{ℕ, List, Option}

-- the bytes that the stream holds, where it tells them, and the count of faults
pub record Stream : Type 0 where
  pub contents : Option (List ℕ)
  pub faults : ℕ
