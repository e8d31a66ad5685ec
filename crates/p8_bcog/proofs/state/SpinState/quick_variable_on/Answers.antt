use Rattle.std.proofs.Common.{ℕ, ap, sym, ◌∙◌}
use Rattle.p8_access.specs.declared.kinds.Width.TheVariants.{Long}
use Rattle.p8_bcog.specs.declared.variable_place.VariablePlace.TheVariants.{Memory}
use Rattle.p8_bcog.specs.Changes.{pushes, pops, changes_alone}
use Rattle.p8_bcog.proofs.FirstBytes.{quick-push, quick-pop, quick-count}
use Rattle.p8_bcog.proofs.state.SpinState.quick_variable_on.Goals as goal

pub returns-in-0-clause-does : goal.returns-in-0-clause-does
returns-in-0-clause-does c = λ rest. quick-push c.args.byte c.args.operand rest c.args.self.now c.pass.new.self _ (sym c.names_long.ensures ∙ c.if-not-names_long.false) c.in-0.is c.pass.ensures (c.push_long.ensures.does ∙ ap (λ (a : ℕ). pushes 0 (Memory Long a) c.pass.new.self) c.short_address-address.ensures)

pub returns-in-1-clause-does : goal.returns-in-1-clause-does
returns-in-1-clause-does c = λ rest. quick-pop c.args.byte c.args.operand rest c.args.self.now c.pass-in-1.new.self _ (sym c.names_long.ensures ∙ c.if-not-names_long.false) c.in-1.is c.pass-in-1.ensures (c.pop_long.ensures.does ∙ ap (λ (a : ℕ). pops 0 (Memory Long a) c.pass-in-1.new.self) c.short_address-address.ensures)

pub returns-in-2-clause-does : goal.returns-in-2-clause-does
returns-in-2-clause-does c = λ rest. quick-count c.args.byte c.args.operand rest c.args.self.now c.pass-in-2.new.self _ (sym c.names_long.ensures ∙ c.if-not-names_long.false) c.in-2.is (sym c.counts.ensures ∙ c.if-counts.true) c.pass-in-2.ensures (c.change_long.ensures.does ∙ ap (λ (a : ℕ). changes_alone 0 c.args.operand (Memory Long a) c.pass-in-2.new.self) c.short_address-address.ensures)
