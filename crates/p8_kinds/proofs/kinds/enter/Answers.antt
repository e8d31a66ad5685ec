use Rattle.std.proofs.Common.{◌≡◌, ◌∙◌, ap, rules}
use Rattle.p8_fold.proofs.Bytes.{at_others}
use Rattle.p8_kinds.specs.Entries.{at_bytes}
use Rattle.p8_kinds.proofs.kinds.enter.Goals as goal

pub returns-clause-old : goal.returns-clause-old
returns-clause-old c =
    let key : c.in_ok-key.key.items ≡ c.args.name.now = search rules in
    c.in_ok-old.ensures.old ∙ ap (λ n. at_bytes n c.args.names.now) key

pub returns-clause-others : goal.returns-clause-others
returns-clause-others c =
    let key : c.in_ok-key.key.items ≡ c.args.name.now = search rules in
    λ n differs. at_others c.in_ok-key.key.items c.args.names.now c.insert.new.self _ c.in_ok-old.ensures.updates n (λ same. differs (same ∙ key))
