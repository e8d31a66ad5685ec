use Rattle.std.proofs.Common.{ℕ, ◌+◌, slice_index, sym, ap, ◌∙◌, arith}
use Rattle.p8_access.specs.declared.kinds.Width.TheVariants.{Long}
use Rattle.p8_access.specs.declared.kinds.Access.{Access}
use Rattle.p8_bcog.specs.declared.step.Later.TheVariants.{Arguments}
use Rattle.p8_bcog.specs.Accesses.{write_of}
use Rattle.p8_bcog.specs.Laters.{then_on}
use Rattle.p8_bcog.proofs.Looping.{gives_none, gives_more}
use Rattle.p8_bcog.proofs.state.SpinState.give_on.Goals as goal

pub returns-then-next-end-clause-does : goal.returns-then-next-end-clause-does
returns-then-next-end-clause-does c =
    c.give.ensures.does
    ∙ gives_none c.args.address c.args.next c.args.end c.args.given c.args.self.now (omega arith)

pub returns-clause-does : goal.returns-clause-does
returns-clause-does c =
    ap (λ (a : Access). then_on a (Arguments c.next_address.result (c.args.next + 1) c.args.end c.args.given) c.args.self.now) (c.write_of.ensures.access ∙ ap (λ (v : ℕ). write_of Long c.args.address v) c.at.ensures)
    ∙ ap (λ (a : ℕ). then_on (write_of Long c.args.address (slice_index c.args.self.now.stack c.args.next)) (Arguments a (c.args.next + 1) c.args.end c.args.given) c.args.self.now) c.next_address.ensures
    ∙ sym (gives_more c.args.address c.args.next c.args.end c.args.given c.args.self.now (omega arith) c.requires.end)
