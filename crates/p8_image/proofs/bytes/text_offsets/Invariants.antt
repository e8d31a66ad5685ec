use Rattle.std.proofs.Common.{◌≡◌, ◌++◌, drop, map}
use Rattle.p8_image.specs.Keeping.{kept}
use Rattle.p8_image.specs.Layout.{places_from, text_size}
use Rattle.p8_image.proofs.bytes.text_offsets.Given as goal

abbrev pub invariant-loop-text : goal.invariant-loop-text
invariant-loop-text l =
    (l.offsets.items ++ map kept (places_from text_size l.offset (drop l.text-index l.texts)) ≡ map kept (places_from text_size l.initial.offset l.texts))
    × (kept l.offset ≡ l.offset)
