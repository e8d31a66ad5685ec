use Rattle.std.proofs.Common.{◌≡◌, sym, subst, ℕ, ◌≤◌, List}
use Rattle.p8_access.specs.Worlds.{Line, level_at}
use Rattle.p8_pins.specs.Matches.{IsBefore}
use Rattle.p8_wave.proofs.Picturing.{gone, before_end}
use Rattle.p8_wave.proofs.Taking.{left_later}
use Rattle.p8_wave.proofs.courses.Course.go.Goals as goal

pub returns-clause-at : goal.returns-clause-at
returns-clause-at c = λ w past before lines rises order at.
    gone w past before c.args.clock c.args.turns.now c.take_turns-left.result.now c.args.self.now c.take_turns-left.new.signals c.span_near-self.result rises order at c.take_turns-left.ensures.left (c.take_turns-left.ensures.signals w) (before_end c.args.clock _ c.span_near-self.ensures.later)
    (subst (λ (script : List Line). (u : ℕ) → c.args.clock ≤ u → IsBefore u c.span_near-self.result.end → level_at script u ≡ c.span_near-self.result.levels) (sym lines) c.span_near-self.ensures.same)

pub returns-clause-turn : goal.returns-clause-turn
returns-clause-turn c = rw c.take_turns-left.ensures.left (left_later c.args.clock c.args.turns.now)

pub returns-clause-line : goal.returns-clause-line
returns-clause-line c = before_end c.args.clock _ c.span_near-self.ensures.later
