use Rattle.std.proofs.Common.{◌≡◌, subst, true}
use Rattle.p8_wave.specs.declared.variables.Scope.{Scope}
use Rattle.p8_wave.specs.Variables.{is_in}
use Rattle.p8_wave.proofs.Same.{pins-in, locks-in}
use Rattle.p8_wave.proofs.snapshot.Snapshot.is_same_in.Goals as goal

pub returns-in-Pins : goal.returns-in-Pins
returns-in-Pins c = λ told v is.
    pins-in c.args.self.now c.args.other.now (c.has_pins_of.ensures told) v (subst (λ (scope : Scope). is_in scope v ≡ true) c.in-Pins.is is)

pub returns-in-Locks : goal.returns-in-Locks
returns-in-Locks c = λ told v is.
    locks-in c.args.self.now c.args.other.now (c.has_locks_of.ensures.set told) (c.has_locks_of.ensures.taken told) v (subst (λ (scope : Scope). is_in scope v ≡ true) c.in-Locks.is is)
