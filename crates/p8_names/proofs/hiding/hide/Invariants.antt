use Rattle.std.proofs.Common.{◌≡◌, ℕ, List, drop}
use Rattle.p8_fold.specs.ConstantEntries.{setting_of}
use Rattle.p8_constants.specs.Names.{spelled}
use Rattle.p8_constants.specs.Standing.{all_defined_of}
use Rattle.p8_names.proofs.Showing.{KeepsRest, hidden}
use Rattle.p8_names.proofs.hiding.hide.Given as goal

abbrev pub invariant-loop-defined : goal.invariant-loop-defined
invariant-loop-defined l =
    ((n : List ℕ) → hidden (setting_of l.initial.consts) (spelled (all_defined_of l.names)) n ≡ hidden (setting_of l.consts) (spelled (all_defined_of (drop l.defined-index l.names))) n)
    × KeepsRest (setting_of l.initial.consts) (setting_of l.consts)
