use Rattle.std.proofs.Common.{arith, ap, ◌∙◌, ◌≡◌, ◌<◌, ◌+◌, ◌++◌, ◌∷◌, List, ℕ, length, get_or, take, reverse, subst, sym}
use Rattle.std.proofs.lemmas.Grind.{common_steps}
use Rattle.p8_access.specs.declared.order.Turn.{Turn}
use Rattle.p8_access.specs.Worlds.{World}
use Rattle.p8_report.specs.Origins.{AreOrigins}
use Rattle.p8_report.specs.Text.{line_of, lines_of}
use Rattle.p8_report.proofs.lines.lines.Goals as goal

next : (turns : List Turn) (i : ℕ) (d : Turn) → i < length turns → reverse (take (i + 1) turns) ≡ get_or turns i d ∷ reverse (take i turns)
next turns i d h = grind (arith, common_steps)

one_more : (w : World) (turns : List Turn) (i : ℕ) (d : Turn) (old new : List ℕ) → i < length turns → new ≡ old ++ line_of w (reverse (take i turns)) (get_or turns i d) → old ≡ lines_of w (reverse (take i turns)) → new ≡ lines_of w (reverse (take (i + 1) turns))
one_more w turns i d old new h line before =
    line ∙ ap (λ (xs : List ℕ). xs ++ line_of w (reverse (take i turns)) (get_or turns i d)) before ∙ sym (ap (lines_of w) (next turns i d h))

pub loop-turn-preserved : goal.loop-turn-preserved
loop-turn-preserved c = record {
  at = c.in_ok-at.ensures.room;
  text = λ w first.
      one_more w c.args.turns.now c.loop-turn.turn-index _ _ _ c.loop-turn-test.true (c.in_ok-at.ensures.text w (reverse (take c.loop-turn.turn-index c.args.turns.now)) (c.loop-turn.invariant.origins w first)) (c.loop-turn.invariant.text w first);
  origins = λ w first.
      let past = reverse (take c.loop-turn.turn-index c.args.turns.now) in
      subst (λ (turns : List Turn). AreOrigins w turns c.record_turn.new.self) (sym (next c.args.turns.now c.loop-turn.turn-index _ c.loop-turn-test.true)) (c.record_turn.ensures w past (c.loop-turn.invariant.origins w first));
}
