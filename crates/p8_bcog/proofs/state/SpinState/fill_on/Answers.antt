use Rattle.std.proofs.Common.{ℕ, ◌-◌, sym, ap, ◌∙◌, arith}
use Rattle.p8_access.specs.declared.kinds.Access.{Access}
use Rattle.p8_bcog.specs.declared.step.Later.TheVariants.{Filled}
use Rattle.p8_bcog.specs.Accesses.{write_of}
use Rattle.p8_bcog.specs.Moves.{fills}
use Rattle.p8_bcog.specs.Laters.{then_on}
use Rattle.p8_bcog.proofs.Looping.{fills_none, fills_more}
use Rattle.p8_bcog.proofs.state.SpinState.fill_on.Goals as goal

pub returns-then-left-eq0-clause-does : goal.returns-then-left-eq0-clause-does
returns-then-left-eq0-clause-does c =
    sym (ap (λ (left : ℕ). fills c.args.width c.args.address c.args.value left c.args.self.now) c.if-left-eq0.true
    ∙ fills_none c.args.width c.args.address c.args.value c.args.self.now)

pub returns-clause-does : goal.returns-clause-does
returns-clause-does c =
    ap (λ (a : Access). then_on a (Filled c.args.width c.next_address.result c.args.value (c.args.left - 1)) c.args.self.now) c.write_of.ensures.access
    ∙ ap (λ (a : ℕ). then_on (write_of c.args.width c.args.address c.args.value) (Filled c.args.width a c.args.value (c.args.left - 1)) c.args.self.now) c.next_address.ensures
    ∙ sym (fills_more c.args.width c.args.address c.args.value c.args.left c.args.self.now (omega arith))
