use Rattle.p8_wave.proofs.Pins.{told_pins}
use Rattle.p8_wave.proofs.signals.Signals.pins.Goals as goal

pub returns : goal.returns
returns c = λ w past signals. rw (c.outputs.ensures, c.directions.ensures) (told_pins w past c.args.self.now signals c.args.levels)
