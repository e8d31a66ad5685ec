use Rattle.std.proofs.Common.{◌∙◌}
use Rattle.p8_fold.proofs.Bytes.{at_others}
use Rattle.p8_fold.proofs.consts.leave.Goals as goal

pub returns-clause-others : goal.returns-clause-others
returns-clause-others c =
    λ n differs. at_others c.as_slice.result.now c.args.names.now c.remove.new.self _ c.remove.ensures.updates n (λ same. differs (same ∙ c.as_slice.ensures))
