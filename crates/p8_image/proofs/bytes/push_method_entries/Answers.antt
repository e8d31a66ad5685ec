use Rattle.std.proofs.Common.{◌+◌, drop, length, arith}
use Rattle.std.proofs.lemmas.Grind.{common_steps}
use Rattle.p8_image.proofs.Words.{kept_entries}
use Rattle.p8_image.proofs.bytes.push_method_entries.Goals as goal

pub loop-method-preserved : goal.loop-method-preserved
loop-method-preserved c =
    let h = kept_entries (c.loop-method.offset + length c.method-item.result.code) (drop (c.loop-method.method-index + 1) c.args.methods.now) in
    grind (arith, common_steps, h)
