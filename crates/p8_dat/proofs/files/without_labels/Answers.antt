use Rattle.std.proofs.Common.{map, ap, ◌∙◌}
use Rattle.std.specs.List.{fold}
use Rattle.p8_tree.specs.Views.{block_of}
use Rattle.p8_fold.specs.ConstantEntries.{setting_of}
use Rattle.p8_dat.specs.Names.{hidden}
use Rattle.p8_dat.specs.Blocks.{dat_lines}
use Rattle.p8_dat.specs.Placing.{unplaced}
use Rattle.p8_dat.proofs.Settings.{stands_elsewhere}
use Rattle.p8_dat.proofs.files.without_labels.Goals as goal

pub returns : goal.returns
returns c =
    stands_elsewhere (setting_of c.hide_blocks.new.counts) (setting_of c.here.new.self) _ c.here.ensures.here c.here.ensures.names
    ∙ ap unplaced (c.in_ok-hide_blocks.ensures ∙ ap (λ bs. fold hidden (setting_of c.args.counts.now) (dat_lines (map block_of bs))) c.as_slice.ensures)
