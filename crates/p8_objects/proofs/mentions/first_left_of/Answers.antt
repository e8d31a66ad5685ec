use Rattle.std.proofs.Common.{map, arith}
use Rattle.p8_tree.specs.Views.{child_of}
use Rattle.p8_objects.specs.Standing.{IsFinished}
use Rattle.p8_objects.specs.Mentioned.{sources_of}
use Rattle.p8_objects.proofs.Elements.{mapped_at, is_within_mapped, each_more}
use Rattle.p8_objects.proofs.Finishing.{true_not_false, first_left_by_number}
use Rattle.p8_objects.proofs.mentions.first_left_of.Goals as goal

pub returns-then-not-is_finished : goal.returns-then-not-is_finished
returns-then-not-is_finished c =
    first_left_by_number (map child_of c.args.items.now) c.loop-item.item-index
    (mapped_at child_of c.args.items.now c.loop-item.item-index c.item-item.result (omega arith) c.item-item.is) c.loop-item.invariant
    (λ e. true_not_false (c.is_finished.ensures.1 e) c.if-not-is_finished.true)

pub loop-item-preserved : goal.loop-item-preserved
loop-item-preserved c =
    each_more (λ x. IsFinished (sources_of c.args.files.now) c.args.done.now x.file) (map child_of c.args.items.now) c.loop-item.item-index (child_of c.item-item.result)
    (mapped_at child_of c.args.items.now c.loop-item.item-index c.item-item.result (omega arith) c.item-item.is) (c.is_finished.ensures.0 c.if-not-is_finished.false) c.loop-item.invariant

pub returns : goal.returns
returns c = record { each = λ k x at. c.loop-item.invariant k x (let w = is_within_mapped child_of c.args.items.now at in omega arith) at }
