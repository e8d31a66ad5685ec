use Rattle.std.proofs.Common.{◌≡◌, ◌∙◌, subst, ap, sym}
use Rattle.p8_desk.specs.Passes.{PassValue, Owns}
use Rattle.p8_desk.specs.Tries.{Waited}
use Rattle.p8_desk.proofs.Waiting.{waited-on}
use Rattle.p8_desk.proofs.desk.Desk.turn.Goals as goal

pub loop-preserved : goal.loop-preserved
loop-preserved g c =
    let same : c.wait.new.pass ≡ c.try_turn-answer.new.pass = c.wait.ensures in record {
      owns = subst (λ (p : PassValue). Owns c.args.self.now p) (sym same) c.try_turn-answer.ensures.owns;
      cog = ap (λ (p : PassValue). p.cog) same ∙ c.try_turn-answer.ensures.cog ∙ c.loop.invariant.cog;
      waited = subst (λ (p : PassValue). Waited c.args.pass.now.steps p.steps) (sym same) (waited-on _ _ _ _ _ _ c.loop.invariant.waited c.try_turn-answer.ensures.tried c.in_default.not-Done c.in_default.not-Over);
    }
