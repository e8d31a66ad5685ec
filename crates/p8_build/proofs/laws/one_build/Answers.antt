use Rattle.p8_build.proofs.Uniqueness.{one_built, one_refused, never_both}
use Rattle.p8_build.proofs.Measured.{one_measured}
use Rattle.p8_build.proofs.laws.one_build.Goals as goal

pub returns-clause-built : goal.returns-clause-built
returns-clause-built c = λ files distinct no_ring. one_built files (c.one_for_each_project.ensures files distinct no_ring)

pub returns-clause-refused : goal.returns-clause-refused
returns-clause-refused c = λ files distinct no_ring. one_refused files (c.one_for_each_project.ensures files distinct no_ring)

pub returns-clause-measured : goal.returns-clause-measured
returns-clause-measured c = λ files distinct no_ring. one_measured files (c.one_for_each_project.ensures files distinct no_ring)

pub returns-clause-never_both : goal.returns-clause-never_both
returns-clause-never_both c = λ files distinct no_ring. never_both files (c.one_for_each_project.ensures files distinct no_ring)
