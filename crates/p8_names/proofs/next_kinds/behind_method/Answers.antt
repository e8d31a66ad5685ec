use Rattle.std.proofs.Common.{◌+◌, ◌∙◌, ap, arith}
use Rattle.std.specs.Prelude.{min}
use Rattle.p8_tree.specs.Views.{method_of}
use Rattle.p8_fold.specs.ConstantEntries.{setting_of}
use Rattle.p8_constants.specs.FileItems.{method}
use Rattle.p8_names.specs.Kinds.{greatest_offset, greatest_number}
use Rattle.p8_names.proofs.Advancing.{next_more, same_number, one_where, one_unless}
use Rattle.p8_names.proofs.next_kinds.behind_method.Goals as goal

pub returns : goal.returns
returns c = λ all before h.
    let m = method_of c.args.method.now in
    let old = c.args.next.now in
    next_more (setting_of c.args.consts.now) all before (method m) old _
    (same_number old.long _ greatest_offset h.long) (same_number old.word _ greatest_offset h.word) (same_number old.byte _ greatest_offset h.byte)
    (c.counted-next.ensures ∙ ap (λ n. min (old.public + n) greatest_number) (one_where m.public m))
    (c.counted-next-2.ensures ∙ ap (λ n. min (old.private + n) greatest_number) (one_unless m.public m))
    (omega arith) (same_number old.position _ greatest_number h.position) h
