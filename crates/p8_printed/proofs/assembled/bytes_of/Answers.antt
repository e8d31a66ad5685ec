use Rattle.std.proofs.Common.{ap, ◌∙◌, sym, subst}
use Rattle.p8_tree.specs.Views.{source_of}
use Rattle.p8_tree.specs.Faults.{IsFirstFault}
use Rattle.p8_kinds.specs.FileSettings.{file_setting}
use Rattle.p8_dat.specs.Blocks.{dat_bytes, IsDatFault}
use Rattle.p8_printed.specs.ReadBack.{start}
use Rattle.p8_printed.proofs.Bytes.{bytes_are, clean}
use Rattle.p8_tree.proofs.Failing.{only_memory}
use Rattle.p8_printed.proofs.assembled.bytes_of.Goals as goal

pub returns-in-Ok-clause-bytes : goal.returns-in-Ok-clause-bytes
returns-in-Ok-clause-bytes c =
    let base = file_setting c.args.named.now.kinds c.args.named.now.children.now in
    c.in-Ok.ensures.bytes ∙ ap (dat_bytes base start) c.requires.2 ∙ bytes_are base c.args.long c.requires.0 c.requires.1 c.ranges.long.fits

pub returns-in-Err-clause-accepted : goal.returns-in-Err-clause-accepted
returns-in-Err-clause-accepted c =
    let base = file_setting c.args.named.now.kinds c.args.named.now.children.now in
    only_memory (IsFirstFault (IsDatFault base start (source_of c.args.named.now.file.now)))
    (λ f first. subst (λ s. ¬ IsDatFault base start s f) (sym c.requires.2) (clean base c.args.long c.requires.0 c.requires.1 c.ranges.long.fits f) first.holds)
    c.in-Err.fail c.in-Err.ensures.refused
