use Rattle.std.proofs.Common.{◌∙◌, ap}
use Rattle.p8_image.proofs.Memories.{memory-filled}
use Rattle.p8_image.proofs.image.memory_of.Goals as goal

pub returns : goal.returns
returns c =
    c.in_ok-resize.ensures.items
    ∙ memory-filled c.args.bytes.now c.in_ok-memory.memory.items _ _ c.requires c.in_ok-memory.memory.ok.0 (c.from-frame.ensures ∙ ap (λ h. h.dbase) c.read.ensures) c.in_ok-memory.ensures.value c.in_ok-memory.ensures.length
