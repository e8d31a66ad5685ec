use Rattle.std.proofs.Common.{◌≡◌, ◌+◌, ◌∙◌, ap, arith}
use Rattle.std.specs.Prelude.{min}
use Rattle.p8_tree.specs.Views.{child_of}
use Rattle.p8_fold.specs.ConstantEntries.{setting_of}
use Rattle.p8_constants.specs.FileItems.{object}
use Rattle.p8_constants.specs.Rules.{count_in}
use Rattle.p8_names.specs.Kinds.{greatest_offset, greatest_number}
use Rattle.p8_names.proofs.Advancing.{next_more, same_number}
use Rattle.p8_names.proofs.next_kinds.behind_object.Goals as goal

pub returns : goal.returns
returns c = λ all before h.
    let x = child_of c.args.object.now in
    let s = setting_of c.args.consts.now in
    let old = c.args.next.now in
    let count : c.instances_of.result ≡ count_in s x.count + 0 = c.instances_of.ensures ∙ (let e : count_in s x.count ≡ count_in s x.count + 0 = omega arith in e) in
    next_more s all before (object x) old _
    (same_number old.long _ greatest_offset h.long) (same_number old.word _ greatest_offset h.word) (same_number old.byte _ greatest_offset h.byte)
    (same_number old.public _ greatest_number h.public) (same_number old.private _ greatest_number h.private)
    c.in_ok-next.ensures
    (c.behind_instances-next.ensures ∙ ap (λ n. min (old.position + n) greatest_number) count) h
