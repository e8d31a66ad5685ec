use Rattle.std.proofs.Common.{◌≡◌, subst}
use Rattle.p8_tree.specs.Views.{source_of}
use Rattle.p8_fold.specs.ConstantEntries.{setting_of}
use Rattle.p8_fold.specs.Meanings.{Setting}
use Rattle.p8_constants.specs.Constants.{IsConstantFault}
use Rattle.p8_constants.specs.Standing.{items_of, IsFirstOf}
use Rattle.p8_names.specs.Settings.{outside}
use Rattle.p8_names.proofs.RightSettings.{outside_is, is_right}
use Rattle.p8_names.proofs.beginning.meanings.Goals as goal

pub returns-clause-setting : goal.returns-clause-setting
returns-clause-setting c =
    let file = source_of c.args.file.now in
    let children = c.args.children.now.items in
    let o = setting_of c.in_ok-outside.outside in
    let found = c.in_ok-constants_of.ensures in
    let is : o ≡ outside file children = outside_is file (items_of c.args.items.now) children c.as_slice.result.now o c.requires.all c.as_slice.ensures c.in_ok-outside.ensures in
    is_right file children o _ is (record { others = found.outside; constants = found.constants; nothing = found.others; behind = found.objects; here = found.here })

pub returns-clause-fault : goal.returns-clause-fault
returns-clause-fault c =
    let file = source_of c.args.file.now in
    let children = c.args.children.now.items in
    let o = setting_of c.in_ok-outside.outside in
    let is : o ≡ outside file children = outside_is file (items_of c.args.items.now) children c.as_slice.result.now o c.requires.all c.as_slice.ensures c.in_ok-outside.ensures in
    subst (λ (u : Setting). IsFirstOf c.in_ok-constants_of.field-0.fault (IsConstantFault u file)) is c.in_ok-constants_of.ensures.fault
