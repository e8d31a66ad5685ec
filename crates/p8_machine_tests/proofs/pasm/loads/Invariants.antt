use Rattle.std.proofs.Common.{◌≡◌}
use Rattle.p8_cog.specs.Whole.{cog_of}
use Rattle.p8_machine_tests.proofs.pasm.loads.Given as goal

abbrev pub invariant-loop-k : goal.invariant-loop-k
invariant-loop-k l = record { own : cog_of l.life ≡ 0 }
