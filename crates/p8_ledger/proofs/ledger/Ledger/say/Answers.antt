use Rattle.std.proofs.Common.{◌≡◌, ap, sym, refl, ◌∷◌}
use Rattle.std.proofs.Math.ListN.{set}
use Rattle.p8_access.specs.Worlds.{World}
use Rattle.p8_access.specs.Hub.{cog_state}
use Rattle.p8_ledger.specs.declared.steps.Step.TheVariants.{Said}
use Rattle.p8_ledger.specs.Records.{turns, said}
use Rattle.p8_ledger.proofs.Fronting.{renewed, spoken-front}
use Rattle.p8_ledger.proofs.Rows.{set-there}
use Rattle.p8_ledger.proofs.Telling.{say-truth, said-beside}
use Rattle.p8_ledger.proofs.Granting.{sayings-after, front-as}
use Rattle.p8_ledger.proofs.ledger.Ledger.say.Goals as goal

pub returns-clause-found : goal.returns-clause-found
returns-clause-found c = λ w r found is runs.
    let sayings = sayings-after c.args.self.now.sayings (Said c.args.cog c.args.next) r c.requires.cog found.sayings in
    let limit : c.args.self.now.limits.clocks ≡ w.clocks = ap (λ (w : World). w.clocks) found.world in
    record {
      world = found.world;
      log = found.log;
      hub = found.hub;
      sayings = sayings;
      truth = say-truth w r c.args.cog c.args.next found.truth is;
      legal = found.legal;
      origins = found.origins;
      others = found.others;
      fronts = λ n near.
          front-as c.say.new.self n c.args.self.now.limits.clocks w.clocks (cog_state w (turns r) n) (said n (Said c.args.cog c.args.next ∷ r)) (said n (Said c.args.cog c.args.next ∷ r)) (sym limit) refl
          (renewed c.args.self.now.fronts c.say.new.self w (turns r) (set c.args.self.now.sayings c.args.cog c.args.next) c.args.cog c.args.self.now.limits.clocks (λ s there. spoken-front c.say.new.self c.args.cog c.args.self.now.limits.clocks runs.0 (cog_state w (turns r) c.args.cog) c.args.next s runs.1 (set-there c.args.self.now.sayings c.args.cog c.args.next s there) c.say.ensures.own) c.say.ensures.others n (said n (Said c.args.cog c.args.next ∷ r)) (sayings n near)
          (λ differ. front-as c.args.self.now.fronts n w.clocks c.args.self.now.limits.clocks (cog_state w (turns r) n) (said n r) (said n (Said c.args.cog c.args.next ∷ r)) limit (said-beside (Said c.args.cog c.args.next) r n (λ e. differ (sym e))) (found.fronts n near)));
    }
