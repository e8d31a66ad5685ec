use Rattle.p8_hint.proofs.OneText.{hints-one}
use Rattle.p8_hint.proofs.laws.one_hints.Goals as goal

pub returns : goal.returns
returns c = λ sources files distinct no_ring a b is is_too. hints-one sources files (c.one_for_each_project.ensures files distinct no_ring) a b is is_too
