use Rattle.std.proofs.Common.{◌++◌, map}
use Rattle.p8_map.specs.Strings.{item_text, joined, stretches_of}
use Rattle.p8_map.proofs.Stretches.{one-item}
use Rattle.p8_map.proofs.strings.push_stretches.Goals as goal

pub loop-text-preserved : goal.loop-text-preserved
loop-text-preserved c =
    one-item c.loop-text.text.now c.split_at.result.0.now c.split_at.result.1.now c.loop-text.out.items c.push_item.new.out.items c.push_comma.new.out.items
    (c.args.out.now.items ++ joined (map item_text (stretches_of c.args.text.now))) c.stretch.result c.in-len1-up.len_at_least c.stretch.ensures.is c.split_at.ensures.front c.split_at.ensures.back
    c.loop-text.invariant c.in_ok-push_item.ensures c.in_ok-push_comma.ensures
