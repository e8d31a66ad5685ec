-- The clock at a place, where there is one.
use Rattle.std.proofs.Common.{◌∙◌, sym}
use Rattle.p8_pins.proofs.Levels.{later-beyond, later-there}
use Rattle.p8_pins.proofs.pin_script.PinScript.is_later.Goals as goal

pub returns-in-None : goal.returns-in-None
returns-in-None c = λ inside. later-beyond c.args.self.now c.args.place c.args.clock (sym c.clock_of.ensures ∙ c.in-None.is) inside

pub returns-in-Some : goal.returns-in-Some
returns-in-Some c = later-there c.args.self.now c.args.place c.args.clock c.in-Some.line (sym c.clock_of.ensures ∙ c.in-Some.is)
