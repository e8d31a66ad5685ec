use Rattle.std.proofs.Common.{◌∙◌, ap}
use Rattle.p8_pins.specs.Levels.{is_high}
use Rattle.p8_pins.specs.LevelChanges.{Ahead}
use Rattle.p8_pins.proofs.cursor.Cursor.is_high.Goals as goal

pub returns : goal.returns
unfolding is_high
returns c = ap (λ (ahead : Ahead). is_high c.args.pin ahead.pins) c.self.view_is
