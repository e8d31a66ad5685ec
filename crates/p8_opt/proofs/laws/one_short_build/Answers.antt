use Rattle.std.proofs.Common.{sym}
use Rattle.p8_opt.proofs.Once.{built-once}
use Rattle.p8_opt.proofs.laws.one_short_build.Goals as goal

pub returns : goal.returns
returns c = λ files distinct no_ring k l os ps a b. built-once files k l os ps a b (sym (c.one_for_each_project.ensures files distinct no_ring a.children b.children a.seen b.seen))
