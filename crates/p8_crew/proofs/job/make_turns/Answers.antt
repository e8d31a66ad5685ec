use Rattle.std.proofs.Common.{◌∙◌, refl, []}
use Rattle.p8_crew.specs.Jobs.{Makes}
use Rattle.p8_crew.proofs.Turning.{one-more-call, ran-out}
use Rattle.p8_crew.proofs.job.make_turns.Goals as goal

pub loop-init : goal.loop-init
loop-init g c = record { owns = c.requires; cog = refl; makes = ([], Makes.no_turn) }

pub loop-preserved : goal.loop-preserved
loop-preserved g c =
    let inv = c.loop.invariant in record {
      owns = c.turn.ensures.owns;
      cog = c.turn.ensures.cog ∙ inv.cog;
      makes = one-more-call _ _ _ _ _ _ c.in-Some-turn.field-0 inv.cog inv.makes c.in-Some-turn.ensures.done;
    }

pub returns-in-None-turn-clause-ran : goal.returns-in-None-turn-clause-ran
returns-in-None-turn-clause-ran g c =
    let inv = c.loop.invariant in ran-out _ _ _ _ _ inv.cog c.in-None-turn.ensures.over inv.makes c.in-None-turn.ensures.none
