use Rattle.std.proofs.Common.{◌≡◌, ℕ, List, ap, ◌∙◌, sym, subst}
use Rattle.std.specs.Prelude.{All}
use Rattle.p8_tree.specs.Views.{source_of}
use Rattle.p8_fold.specs.ConstantEntries.{setting_of}
use Rattle.p8_constants.specs.FileItems.{items}
use Rattle.p8_constants.specs.Standing.{items_of}
use Rattle.p8_kinds.specs.Kinds.{own}
use Rattle.p8_names.specs.Kinds.{file_kind}
use Rattle.p8_names.specs.Counting.{HasSize}
use Rattle.p8_names.proofs.Shown.{is_shown, sizes_fit}
use Rattle.p8_names.proofs.beginning.begin.Goals as goal

pub file_kinds-requires-clause-sizes : goal.file_kinds-requires-clause-sizes
file_kinds-requires-clause-sizes c =
    let file = source_of c.args.file.now in
    let is : items_of c.deref-3.result.now ≡ items file = ap items_of c.deref-3.ensures.value ∙ c.in_ok-items.ensures in
    subst (All HasSize) (sym is) (sizes_fit file c.requires)

pub returns : goal.returns
returns c =
    let file = source_of c.args.file.now in
    let children = c.args.children.now in
    let kinds = c.in_ok-kinds.kinds in
    let s = setting_of c.in_ok-consts.field-0.consts in
    let is : items_of c.deref-3.result.now ≡ items file = ap items_of c.deref-3.ensures.value ∙ c.in_ok-items.ensures in
    let of_file : (n : List ℕ) → own kinds 0 n ≡ file_kind s (items file) n = subst (λ xs. (n : List ℕ) → own kinds 0 n ≡ file_kind s xs n) is c.in_ok-kinds.ensures.file in
    record {
      all = c.in_ok-items.ensures;
      table = c.in_ok-predefined.ensures;
      setting = c.in_ok-consts.ensures.setting;
      of_file = of_file;
      of_methods = c.in_ok-kinds.ensures.methods;
      publics = c.in_ok-publics.ensures;
      shown = is_shown file children.items s kinds c.requires c.in_ok-consts.ensures.setting of_file;
      constants = c.in_ok-consts.ensures.fault;
    }
