-- Environments that tell the same are the same.
use Rattle.std.proofs.Common.{◌≡◌, ℕ, List}
use Rattle.p8_kinds.specs.Environments.{Environment}

pub same_environments : (d e : Environment) → ((n : List ℕ) → d.kind n ≡ e.kind n) → ((item : ℕ) (n : List ℕ) → d.public item n ≡ e.public item n) → d.constants ≡ e.constants → d ≡ e
same_environments d e kinds publics constants = λ i. record { kind = λ n. kinds n i; public = λ item n. publics item n i; constants = constants i }
