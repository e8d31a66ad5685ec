use Rattle.std.proofs.Common.{◌≡◌, ◌++◌, drop}
use Rattle.p8_image.specs.Layout.{texts_of}
use Rattle.p8_image.proofs.bytes.push_texts.Given as goal

abbrev pub invariant-loop-text : goal.invariant-loop-text
invariant-loop-text l = l.out.items ++ texts_of (drop l.text-index l.texts) ≡ l.initial.out.items ++ texts_of l.texts
