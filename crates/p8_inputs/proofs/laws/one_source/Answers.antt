use Rattle.p8_inputs.proofs.Outcomes.{one-outcome}
use Rattle.p8_inputs.proofs.laws.one_source.Goals as goal

pub returns : goal.returns
returns c =
    one-outcome c.one_outcome.ensures c.one_build.ensures.built c.one_build.ensures.measured c.one_build.ensures.never_both
    c.one_short_build.ensures c.one_for_each_project.ensures c.one_legend.ensures c.one_hints.ensures
