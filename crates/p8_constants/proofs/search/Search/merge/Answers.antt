use Rattle.std.proofs.Common.{subst}
use Rattle.p8_constants.specs.Searches.{IsCut}
use Rattle.p8_constants.proofs.Following.{merging}
use Rattle.p8_constants.proofs.search.Search.merge.Goals as goal

pub returns-clause-state : goal.returns-clause-state
returns-clause-state c =
    let cut : IsCut c.self.inside.boundaries.items c.args.position c.boundaries_up_to-kept.result = subst (λ bs. IsCut bs c.args.position c.boundaries_up_to-kept.result) c.deref.ensures.value c.boundaries_up_to-kept.ensures in
    λ g t k reached open_. merging g c.args.self.now t c.args.position c.boundaries_up_to-kept.result k reached open_ _ _ _ _ _ _ c.self.view_is cut c.truncate.ensures.items
