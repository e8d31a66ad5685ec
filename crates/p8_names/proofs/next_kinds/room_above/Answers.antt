use Rattle.std.proofs.Common.{◌≤◌, arith}
use Rattle.p8_fold.specs.ConstantEntries.{setting_of}
use Rattle.p8_constants.proofs.Walking.{item_is}
use Rattle.p8_names.specs.Counting.{HasSize}
use Rattle.p8_names.specs.Kinds.{greatest_offset}
use Rattle.p8_names.proofs.Advancing.{room_more, room_end}
use Rattle.p8_names.proofs.next_kinds.room_above.Goals as goal

pub bytes_above-requires : goal.bytes_above-requires
bytes_above-requires c = item_is HasSize c.args.items.now c.loop-item.item-index c.item-item.result c.requires (omega arith) c.item-item.is

pub loop-item-preserved : goal.loop-item-preserved
loop-item-preserved c =
    let bound : c.advanced-room.result ≤ greatest_offset = grind (arith, c.advanced-room.ensures) in (
      bound,
      room_more (setting_of c.args.consts.now) c.args.size c.args.items.now c.loop-item.item-index c.item-item.result c.loop-item.room c.advanced-room.result c.bytes_above.result _
          (omega arith) c.item-item.is c.bytes_above.ensures.exact c.advanced-room.ensures c.loop-item.invariant.1,
    )

pub returns : goal.returns
returns c = room_end (setting_of c.args.consts.now) c.args.size c.args.items.now c.loop-item.item-index c.loop-item.room _ (omega arith) c.loop-item.invariant.0 c.loop-item.invariant.1
