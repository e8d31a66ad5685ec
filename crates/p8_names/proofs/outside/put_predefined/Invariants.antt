use Rattle.std.proofs.Common.{◌≤◌, length, drop}
use Rattle.std.specs.Map.{lookup}
use Rattle.std.specs.Str.{bytes_eq}
use Rattle.p8_fold.specs.ConstantEntries.{setting_of}
use Rattle.p8_constants.specs.Standing.{valued}
use Rattle.p8_names.specs.Changes.{HasNames, over}
use Rattle.p8_names.proofs.outside.put_predefined.Given as goal

abbrev pub invariant-loop-at : goal.invariant-loop-at
invariant-loop-at l = (l.at ≤ length l.constants) × HasNames (setting_of l.initial.consts) (setting_of l.consts) (λ n. over (lookup (bytes_eq n) (valued (drop l.at l.constants))) ((setting_of l.initial.consts).name n))
