use Rattle.std.proofs.Common.{◌≡◌, ◌∙◌, ap, sym, rules, Some}
use Rattle.p8_fold.specs.ConstantEntries.{at_bytes, at_both}
use Rattle.p8_fold.proofs.Bytes.{at_others, at_other_names, at_bytes-empty}
use Rattle.p8_fold.proofs.consts.enter_first.Goals as goal

pub returns-clause-others : goal.returns-clause-others
returns-clause-others c =
    let key : c.in_ok-key.key.items ≡ c.args.object.now = search rules in
    let here : at_bytes c.args.object.now c.insert.new.self ≡ Some c.enter.new.names = search rules in
    at_other_names c.args.objects.now c.insert.new.self c.args.object.now c.enter.new.names here
    (λ n differs. at_others c.in_ok-key.key.items c.args.objects.now c.insert.new.self _ c.in_ok-insert.ensures.updates n (λ same. differs (same ∙ key)))
    c.args.name.now (λ n differs. c.in_ok-enter.ensures.others n differs ∙ at_bytes-empty c.new-names.result n c.new-names.ensures.empty ∙ sym (ap (at_both n) c.requires))
