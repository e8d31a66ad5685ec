use Rattle.std.proofs.Common.{take}
use Rattle.p8_fold.specs.ConstantEntries.{setting_of}
use Rattle.p8_kinds.specs.FileSettings.{constant_among, HasEntered}
use Rattle.p8_kinds.proofs.settings.enter_constants.Given as goal

abbrev pub invariant-loop-constant : goal.invariant-loop-constant
invariant-loop-constant l = HasEntered (setting_of l.initial.consts) (setting_of l.consts) l.object (constant_among (take l.constant-index l.constants))
