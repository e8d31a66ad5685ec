use Rattle.std.proofs.Common.{drop}
use Rattle.std.specs.Prelude.{option_map}
use Rattle.p8_fold.specs.ConstantEntries.{setting_of}
use Rattle.p8_constants.specs.Names.{spelled}
use Rattle.p8_constants.specs.Standing.{all_defined_of}
use Rattle.p8_kinds.specs.Kinds.{own}
use Rattle.p8_kinds.specs.FileSettings.{meaning_of_kind}
use Rattle.p8_names.proofs.Showing.{KeepsRest, Shown}
use Rattle.p8_names.proofs.hiding.restore.Given as goal

abbrev pub invariant-loop-defined : goal.invariant-loop-defined
invariant-loop-defined l =
    Shown (λ n. option_map meaning_of_kind (own l.kinds 0 n)) (setting_of l.consts) (spelled (all_defined_of (drop l.defined-index l.names)))
    × KeepsRest (setting_of l.initial.consts) (setting_of l.consts)
