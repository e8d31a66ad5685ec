use Rattle.std.proofs.Common.{refl, ap, reverse, ℕ, List}
use Rattle.p8_access.specs.declared.lives.Next.TheVariants.{More}
use Rattle.p8_access.specs.declared.order.Turn.{Turn}
use Rattle.p8_region.specs.Bounded.{Bounded}
use Rattle.p8_ledger.specs.Worlds.{world_of}
use Rattle.p8_ledger.proofs.Stepping.{open-cogs}
use Rattle.p8_ledger.proofs.Granting.{open-truth, open-sayings}
use Rattle.p8_ledger.proofs.ledger.Ledger.open.Goals as goal

pub returns : goal.returns
returns c =
    let w = world_of c.args.start.now.boot c.args.start.now.script c.args.start.now.limits in
    let hub = c.in_ok-hub.ensures.stands w refl refl in
    let cogs = open-cogs w c.requires.first in
    record {
      world = ap (λ (m : List ℕ). world_of (record { ram = m; first = c.args.start.now.boot.first }) c.args.start.now.script c.args.start.now.limits) c.share.ensures;
      log = ap (λ (t : Bounded Turn). reverse t.list) c.requires.log;
      hub = hub;
      sayings = open-sayings;
      truth = open-truth w;
      legal = tt;
      origins = cogs.0;
      others = cogs.1;
      fronts = λ n near. c.open-fronts.ensures w n (More 0) hub near (open-sayings n near);
    }
