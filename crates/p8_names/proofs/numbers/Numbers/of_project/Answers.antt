use Rattle.std.proofs.Common.{arith}
use Rattle.p8_tree.specs.Views.{named_sources_of}
use Rattle.p8_fold.specs.ConstantEntries.{at_bytes}
use Rattle.p8_names.proofs.Numbering.{entered, item_named, all_numbered}
use Rattle.p8_names.proofs.numbers.Numbers.of_project.Goals as goal

pub loop-index-preserved : goal.loop-index-preserved
loop-index-preserved c =
    entered (named_sources_of c.args.project.now) c.loop-index.index c.file-item.result.name (λ n. at_bytes n c.loop-index.numbers.names) (λ n. at_bytes n c.enter.new.self.names)
    (item_named c.args.project.now.files c.as_slice-file-items.result.now c.loop-index.index c.file-item.result c.as_slice-file-items.ensures c.loop-index-test.true c.file-item.is)
    c.loop-index.invariant c.in_ok-enter.ensures.entered c.in_ok-enter.ensures.others

pub returns : goal.returns
returns c =
    all_numbered c.args.project.now.files c.as_slice-file-items.result.now c.loop-index.index (λ n. at_bytes n c.loop-index.numbers.names) c.as_slice-file-items.ensures (λ lt. omega (arith, c.loop-index-test.false, lt)) c.loop-index.invariant
