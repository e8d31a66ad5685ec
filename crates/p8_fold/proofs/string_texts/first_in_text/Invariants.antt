use Rattle.std.proofs.Common.{◌≡◌, take}
use Rattle.p8_tree.specs.Views.{trees_of}
use Rattle.p8_fold.specs.ConstantEntries.{setting_of}
use Rattle.p8_fold.specs.Verdicts.{first_in_text}
use Rattle.p8_fold.proofs.string_texts.first_in_text.Given as goal

abbrev pub invariant-loop-item : goal.invariant-loop-item
invariant-loop-item l = l.first ≡ first_in_text (setting_of l.consts) (trees_of (take l.item-index l.items))
