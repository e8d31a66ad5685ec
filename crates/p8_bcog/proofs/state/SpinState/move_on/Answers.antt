use Rattle.std.proofs.Common.{ℕ, sym, ap, ◌∙◌, arith}
use Rattle.p8_bcog.specs.Moves.{moves}
use Rattle.p8_bcog.proofs.Looping.{moves_none, moves_more}
use Rattle.p8_bcog.proofs.state.SpinState.move_on.Goals as goal

pub returns-then-left-eq0-clause-does : goal.returns-then-left-eq0-clause-does
returns-then-left-eq0-clause-does c =
    sym (ap (λ (left : ℕ). moves c.args.width c.args.to c.args.from left c.args.self.now) c.if-left-eq0.true
    ∙ moves_none c.args.width c.args.to c.args.from c.args.self.now)

pub returns-clause-does : goal.returns-clause-does
returns-clause-does c =
    c.reading.ensures.does c.args.self.now
    ∙ sym (moves_more c.args.width c.args.to c.args.from c.args.left c.args.self.now (omega arith))
