use Rattle.std.proofs.Common.{◌≡◌, ◌++◌, take}
use Rattle.p8_tree.specs.Views.{trees_of}
use Rattle.p8_fold.specs.ConstantEntries.{setting_of}
use Rattle.p8_fold.specs.Values.{text_of_items}
use Rattle.p8_fold.proofs.string_texts.put_text.Given as goal

abbrev pub invariant-loop-item : goal.invariant-loop-item
invariant-loop-item l = l.text.items ≡ l.initial.text.items ++ text_of_items (setting_of l.consts) (trees_of (take l.item-index l.items))
