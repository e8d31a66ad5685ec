use Rattle.std.proofs.Common.{◌≡◌, ◌++◌, ℕ, map}
use Rattle.std.specs.List.{range_with_len, flat_map}
use Rattle.p8_wave.specs.Variables.{cog_variables}
use Rattle.p8_wave.specs.Sections.{still}
use Rattle.p8_wave.specs.Parts.{together}
use Rattle.p8_wave.proofs.parts.push_cogs.Given as goal

abbrev pub invariant-loop-cog : goal.invariant-loop-cog
invariant-loop-cog l = together l.parts.items ≡ together l.initial.parts.items ++ flat_map (λ (n : ℕ). map still (cog_variables n)) (range_with_len 0 l.cog)
