use Rattle.p8_prop.specs.Works.{world_in}
use Rattle.p8_prop.proofs.Coming.{made-told}
use Rattle.p8_prop.proofs.work.made_work.Goals as goal

pub returns : goal.returns
returns c files alone = (
  record { clocks = c.in_ok-start.ensures.clocks; turns = c.in_ok-start.ensures.turns; first = c.in_ok-start.ensures.proper; can_be_told = tt },
  made-told files alone c.args.seed (world_in c.in_ok-start.start) c.in_ok-start.ensures.world,
)
