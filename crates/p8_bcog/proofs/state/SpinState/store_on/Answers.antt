use Rattle.std.proofs.Common.{ℕ, ap, ◌∙◌}
use Rattle.p8_access.specs.declared.kinds.Access.{Access}
use Rattle.p8_bcog.specs.declared.step.Later.TheVariants.{Moved}
use Rattle.p8_bcog.specs.Accesses.{write_of, next_address}
use Rattle.p8_bcog.specs.Laters.{then_on}
use Rattle.p8_bcog.proofs.Looping.{stored_is}
use Rattle.p8_bcog.proofs.state.SpinState.store_on.Goals as goal

pub returns-clause-does : goal.returns-clause-does
returns-clause-does c =
    ap (λ (a : Access). then_on a (Moved c.args.width c.next_address.result c.next_address-2.result c.args.left) c.args.self.now) c.write_of.ensures.access
    ∙ ap (λ (a : ℕ). then_on (write_of c.args.width c.args.to c.args.element) (Moved c.args.width a c.next_address-2.result c.args.left) c.args.self.now) c.next_address.ensures
    ∙ ap (λ (a : ℕ). then_on (write_of c.args.width c.args.to c.args.element) (Moved c.args.width (next_address c.args.width c.args.to) a c.args.left) c.args.self.now) c.next_address-2.ensures
    ∙ stored_is c.args.width c.args.to c.args.from c.args.left c.args.element c.args.self.now
