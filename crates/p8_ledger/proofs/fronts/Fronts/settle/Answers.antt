use Rattle.std.proofs.Common.{◌∷◌}
use Rattle.p8_ledger.proofs.Fronting.{renewed, kept-front, another}
use Rattle.p8_ledger.proofs.fronts.Fronts.settle.Goals as goal

pub returns-in-Some : goal.returns-in-Some
returns-in-Some c = record {
  fronts = λ w past n said hub at kept.
      renewed c.renew.new.self c.renew-in-Some.new.self w (c.args.turn.now ∷ past) c.args.sayings.now c.in-Some.other c.args.until (λ s there. c.renew-in-Some.ensures.own w (c.args.turn.now ∷ past) s hub there) c.renew-in-Some.ensures.others n said at
      (λ apart. renewed c.args.self.now c.renew.new.self w (c.args.turn.now ∷ past) c.args.sayings.now c.args.turn.now.key.cog c.args.until (λ s there. c.renew.ensures.own w (c.args.turn.now ∷ past) s hub there) c.renew.ensures.others n said at
      (λ differ. kept-front c.args.self.now w past c.args.turn.now n c.args.until said (c.changed_cog.ensures.others n differ (another c.changed_cog.result c.in-Some.other n c.in-Some.is apart)) (kept differ)));
}

pub returns-in_default : goal.returns-in_default
returns-in_default c = record {
  fronts = λ w past n said hub at kept.
      renewed c.args.self.now c.renew.new.self w (c.args.turn.now ∷ past) c.args.sayings.now c.args.turn.now.key.cog c.args.until (λ s there. c.renew.ensures.own w (c.args.turn.now ∷ past) s hub there) c.renew.ensures.others n said at
      (λ differ. kept-front c.args.self.now w past c.args.turn.now n c.args.until said (c.changed_cog.ensures.others n differ (c.in_default.not-Some n)) (kept differ));
}
