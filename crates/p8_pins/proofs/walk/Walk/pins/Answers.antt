use Rattle.p8_pins.specs.Levels.{by}
use Rattle.p8_pins.proofs.Walking.{after-at, told-at}
use Rattle.p8_pins.proofs.walk.Walk.pins.Goals as goal

pub returns : goal.returns
returns c = λ script past clock at.
    told-at script past clock c.args.self.now at c.pins.result (c.pins.ensures (by past clock) (after-at script past clock c.args.self.now at))
