use Rattle.p8_legend.proofs.OneLegend.{legend-one}
use Rattle.p8_legend.proofs.laws.one_legend.Goals as goal

pub returns : goal.returns
returns c = λ sources files distinct no_ring a b is is_too. legend-one sources files (c.one_for_each_project.ensures files distinct no_ring) a b is is_too
