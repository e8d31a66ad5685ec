use Rattle.std.proofs.Common.{◌≡◌, ◌∙◌, ap, sym, rules, Some}
use Rattle.p8_fold.proofs.Bytes.{at_bytes-empty}
use Rattle.p8_kinds.specs.Entries.{names_at, in_names}
use Rattle.p8_kinds.proofs.Scopes.{at_other_numbers, at_other_names}
use Rattle.p8_kinds.proofs.kinds.enter_first.Goals as goal

pub returns-clause-old : goal.returns-clause-old
returns-clause-old c = sym (ap (in_names c.args.name.now) c.requires)

pub returns-clause-others : goal.returns-clause-others
returns-clause-others c =
    let here : names_at c.args.method c.insert.new.self ≡ Some c.enter.new.names = search rules in
    at_other_names c.args.scopes.now c.insert.new.self c.args.method c.enter.new.names here (at_other_numbers c.args.method c.args.scopes.now c.insert.new.self _ c.in_ok-insert.ensures.updates)
    c.args.name.now (λ n differs. c.in_ok-enter.ensures.others n differs ∙ at_bytes-empty c.new-names.result n c.new-names.ensures.empty ∙ sym (ap (in_names n) c.requires))
