-- internal: what is known of a file's names before their uses are looked at.
use Rattle.std.specs.Prelude.{◌≡◌, ◌<◌, ℕ, List, None}
use Rattle.p8_tree.specs.Sources.{Source}
use Rattle.p8_fold.specs.ConstantEntries.{setting_of}
use Rattle.p8_constants.specs.Constants.{IsConstantFault}
use Rattle.p8_constants.specs.FileItems.{items}
use Rattle.p8_constants.specs.Names.{predefined}
use Rattle.p8_constants.specs.Standing.{items_of, valued, IsFirstOf}
use Rattle.p8_kinds.specs.declared.children.Children.{Children}
use Rattle.p8_kinds.specs.Kinds.{own}
use Rattle.p8_kinds.specs.Publics.{public_of}
use Rattle.p8_names.specs.Settings.{IsSetting, outside}
use Rattle.p8_names.specs.Kinds.{file_kind}
use Rattle.p8_names.specs.Looking.{IsShown}
use Rattle.p8_names.specs.declared.beginning.Begun.{Begun}

pub record IsBegun (file : Source) (children : Children) (begun : Begun) : Type 0 where
  pub all : items_of begun.items.items ≡ items file
  pub table : valued begun.predefined.items ≡ predefined
  pub setting : IsSetting file children.items (setting_of begun.scope.consts)
  pub of_file : (n : List ℕ) → own begun.scope.kinds 0 n ≡ file_kind (setting_of begun.scope.consts) (items file) n
  pub of_methods : (m : ℕ) (n : List ℕ) → 0 < m → own begun.scope.kinds m n ≡ None
  pub publics : (item : ℕ) (n : List ℕ) → own begun.scope.publics item n ≡ public_of children item n
  pub shown : IsShown begun.scope.kinds (setting_of begun.scope.consts)
  pub constants : IsFirstOf begun.fault (IsConstantFault (outside file children.items) file)
