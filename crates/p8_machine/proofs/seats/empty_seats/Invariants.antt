use Rattle.std.proofs.Common.{◌≡◌, ◌+◌, ◌*◌, ℕ, Some, length, slice_get}
use Rattle.p8_cog.specs.declared.cog_life.CogLife.{CogLife}
use Rattle.p8_cog.specs.WholeLives.{cog_of}
use Rattle.p8_machine.proofs.seats.empty_seats.Given as goal

abbrev pub invariant-loop-cog : goal.invariant-loop-cog
invariant-loop-cog l = record {
  length : length l.lives.items ≡ l.cog;
  left : l.region + 16384 * l.cog ≡ l.fn.region;
  own : (n : ℕ) (life : CogLife) → slice_get l.lives.items n ≡ Some life → cog_of life ≡ n;
}
