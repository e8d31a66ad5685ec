use Rattle.std.proofs.Common.{◌≡◌, take}
use Rattle.p8_tree.specs.Views.{arms_of, statements_of}
use Rattle.p8_hint.specs.Spots.{arms_quit, quit}
use Rattle.p8_hint.proofs.openers.+quits.Given as goal

abbrev pub invariant-quit-loop-statement : goal.invariant-quit-loop-statement
invariant-quit-loop-statement l = l.found ≡ quit (statements_of (take l.statement-index l.statements))

abbrev pub invariant-arms_quit-loop-arm : goal.invariant-arms_quit-loop-arm
invariant-arms_quit-loop-arm l = l.found ≡ arms_quit (arms_of (take l.arm-index l.arms))
