use Rattle.std.proofs.Common.{◌≡◌, ◌++◌, map, ap, sym, ◌∙◌, rules}
use Rattle.std.specs.List.{fold}
use Rattle.p8_tree.specs.Views.{source_of}
use Rattle.p8_fold.specs.ConstantEntries.{setting_of}
use Rattle.p8_dat.specs.Names.{with_common, regions}
use Rattle.p8_dat.specs.Blocks.{counts_setting, placed_lines, regions_bytes}
use Rattle.p8_dat.specs.Placing.{placed_of, unplaced}
use Rattle.p8_dat.proofs.WholeFiles.{hidden_at_first, values_are, file_bytes, file_told}
use Rattle.p8_dat.proofs.files.assemble_file.Goals as goal

pub put_regions-requires : goal.put_regions-requires
put_regions-requires c =
    hidden_at_first (setting_of c.args.values.now) (setting_of c.enter_common.new.consts) c.as_slice-2.result.now c.as_slice-3.result.now (c.as_slice-3.ensures.value ∙ sym c.as_slice-2.ensures.value) c.in_ok-enter_common.ensures

pub returns-clause-bytes : goal.returns-clause-bytes
returns-clause-bytes c =
    let base = setting_of c.args.values.now in
    let file = source_of c.args.file.now in
    let xs = map placed_of c.place_blocks.new.places.items in
    let counts : setting_of c.without_labels.new.counts ≡ counts_setting base file = c.in_ok-without_labels.ensures ∙ ap (λ s. counts_setting s file) c.requires.same in
    let places : xs ≡ placed_lines base c.args.start file = search rules in
    let values : unplaced (setting_of c.enter_common.new.consts) ≡ fold with_common base xs =
    values_are base (setting_of c.enter_common.new.consts) c.place_blocks.new.places.items c.as_slice-2.result.now c.requires.here c.as_slice-2.ensures.value c.in_ok-enter_common.ensures in
    file_bytes base _ _ c.args.start file xs c.as_slice-3.result.now _ counts values places (ap (λ ps. map placed_of ps) c.as_slice-3.ensures.value) (c.in_ok-put_regions.ensures.bytes ∙ ap (λ bs. bs ++ regions_bytes (setting_of c.without_labels.new.counts) (unplaced (setting_of c.enter_common.new.consts)) (regions (map placed_of c.as_slice-3.result.now))) c.new.ensures.items)

pub returns-clause-fault : goal.returns-clause-fault
returns-clause-fault c =
    let base = setting_of c.args.values.now in
    let file = source_of c.args.file.now in
    let xs = map placed_of c.place_blocks.new.places.items in
    let counts : setting_of c.without_labels.new.counts ≡ counts_setting base file = c.in_ok-without_labels.ensures ∙ ap (λ s. counts_setting s file) c.requires.same in
    let places : xs ≡ placed_lines base c.args.start file = search rules in
    let values : unplaced (setting_of c.enter_common.new.consts) ≡ fold with_common base xs =
    values_are base (setting_of c.enter_common.new.consts) c.place_blocks.new.places.items c.as_slice-2.result.now c.requires.here c.as_slice-2.ensures.value c.in_ok-enter_common.ensures in
    file_told base _ _ c.args.start file xs c.as_slice-3.result.now _ counts values places (ap (λ ps. map placed_of ps) c.as_slice-3.ensures.value) c.in_ok-put_regions.ensures.fault
