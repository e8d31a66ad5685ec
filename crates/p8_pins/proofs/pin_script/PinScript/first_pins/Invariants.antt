-- No clock before the next line matches.
use Rattle.p8_pins.proofs.Walks.{IsClear}
use Rattle.p8_pins.proofs.pin_script.PinScript.first_pins.Given as goal

abbrev pub invariant-loop-i : goal.invariant-loop-i
invariant-loop-i l = IsClear l.self l.dira l.outputs l.test l.from l.i
