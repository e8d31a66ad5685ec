-- How far the reading has come.
use Rattle.std.proofs.Common.{length}
use Rattle.p8_pins.proofs.Scripting.{IsReading}
use Rattle.p8_pins.proofs.pin_script.PinScript.read.Given as goal

abbrev pub invariant-texts : goal.invariant-texts
invariant-texts l = IsReading l.bytes l.rest l.script l.line

abbrev pub decreases-texts : goal.decreases-texts
decreases-texts l = length l.rest
