use Rattle.p8_wave.proofs.Same.{pins-same}
use Rattle.p8_wave.proofs.snapshot.Snapshot.has_pins_of.Goals as goal

pub returns : goal.returns
returns c = pins-same c.args.self.now c.args.other.now
