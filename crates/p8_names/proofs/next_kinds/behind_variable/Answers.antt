use Rattle.std.proofs.Common.{◌+◌, ◌==◌, ◌∙◌, ap, arith}
use Rattle.std.specs.Prelude.{min, if◌then◌else◌}
use Rattle.p8_tree.specs.Views.{declared_of}
use Rattle.p8_fold.specs.ConstantEntries.{setting_of}
use Rattle.p8_constants.specs.FileItems.{variable}
use Rattle.p8_names.specs.Kinds.{greatest_offset, greatest_number}
use Rattle.p8_names.proofs.Advancing.{next_more, same_number}
use Rattle.p8_names.proofs.next_kinds.behind_variable.Goals as goal

pub returns : goal.returns
returns c = λ all before h.
    let size = c.args.item.now.size in
    let old = c.args.next.now in
    next_more (setting_of c.args.consts.now) all before (variable (declared_of c.args.item.now)) old _
    (c.advanced-next.ensures ∙ ap (λ b. min (old.long + b) greatest_offset) (c.bytes_where.ensures.exact ∙ ap (λ b. if size == 4 then b else 0) c.bytes_of-bytes.ensures.exact))
    (c.advanced-next-2.ensures ∙ ap (λ b. min (old.word + b) greatest_offset) (c.bytes_where-2.ensures.exact ∙ ap (λ b. if size == 2 then b else 0) c.bytes_of-bytes.ensures.exact))
    (c.advanced-next-3.ensures ∙ ap (λ b. min (old.byte + b) greatest_offset) (c.bytes_where-3.ensures.exact ∙ ap (λ b. if size == 1 then b else 0) c.bytes_of-bytes.ensures.exact))
    (same_number old.public _ greatest_number h.public) (same_number old.private _ greatest_number h.private) (omega arith) (same_number old.position _ greatest_number h.position) h
