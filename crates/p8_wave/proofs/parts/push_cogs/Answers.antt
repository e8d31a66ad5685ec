use Rattle.std.proofs.Common.{◌∙◌, ◌++◌, ap, ℕ, List, map}
use Rattle.p8_wave.specs.declared.entries.Entry.{Entry}
use Rattle.p8_wave.specs.Variables.{cog_variables}
use Rattle.p8_wave.specs.Sections.{still}
use Rattle.p8_wave.specs.Parts.{together}
use Rattle.p8_wave.proofs.Lists.{flat_map_step}
use Rattle.p8_wave.proofs.Together.{together-more}
use Rattle.p8_wave.proofs.parts.push_cogs.Goals as goal

pub loop-cog-preserved : goal.loop-cog-preserved
loop-cog-preserved c =
    flat_map_step (λ (n : ℕ). map still (cog_variables n)) c.loop-cog.cog _ (together c.loop-cog.parts.items) _ c.loop-cog.invariant
    (ap together c.in_ok-push_part.ensures ∙ together-more c.loop-cog.parts.items c.in_ok-part.part ∙ ap (λ (xs : List Entry). together c.loop-cog.parts.items ++ xs) c.in_ok-part.ensures)
