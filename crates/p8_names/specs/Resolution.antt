-- What resolving the names of a file gives.
use Rattle.std.specs.Prelude.{◌≡◌, ℕ, ◌≤◌, Bool, List, length}
use Rattle.p8_tree.specs.Sources.{Source}
use Rattle.p8_tree.specs.declared.faults.Fault.{Fault}
use Rattle.p8_fold.specs.Meanings.{Setting}
use Rattle.p8_constants.specs.FileItems.{items}
use Rattle.p8_kinds.specs.declared.children.Children.{Children}
use Rattle.p8_kinds.specs.declared.kinds.Kinds.{Kinds}
use Rattle.p8_kinds.specs.Kinds.{own}
use Rattle.p8_names.specs.Settings.{IsSetting}
use Rattle.p8_names.specs.Kinds.{kinds, methods}
use Rattle.p8_names.specs.Faults.{IsNameFault}

-- the names of an accepted file: each has its kind, and nothing is wrong with any
pub record IsNamed (file : Source) (children : Children) (top : Bool) (found : Kinds) : Type 0 where
  -- what the names mean where a constant is needed
  pub setting : Setting
  pub right : IsSetting file children.items setting
  -- what each name of the file, at 0, and of each method, at its number, is
  pub each : (method : ℕ) (n : List ℕ) → method ≤ length (methods (items file)) → own found method n ≡ kinds setting (items file) method n
  pub clean : (f : Fault) → ¬ IsNameFault file children top f
