use Rattle.std.proofs.Common.{◌≡◌, ◌∙◌, rules}
use Rattle.p8_fold.proofs.Bytes.{at_others}
use Rattle.p8_gen.proofs.labels.enter.Goals as goal

pub returns-clause-others : goal.returns-clause-others
returns-clause-others c =
    let key : c.in_ok-key.key.items ≡ c.args.label.now.name = search rules in
    λ n differs. at_others c.in_ok-key.key.items c.args.offsets.now c.insert.new.self _ c.in_ok-insert.ensures.updates n (λ same. differs (same ∙ key))
