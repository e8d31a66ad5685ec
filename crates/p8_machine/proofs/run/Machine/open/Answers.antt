use Rattle.p8_machine.proofs.Announced.{nothing-announced}
use Rattle.p8_machine.proofs.run.Machine.open.Goals as goal

pub invariant_of-result : goal.invariant_of-result
invariant_of-result c = record {
  announced = λ n life said here is asked told. absurd (nothing-announced c.in_ok-ledger.ledger.sayings c.in_ok-ledger.ledger.eight c.in_ok-ledger.ensures.sayings n said is asked told);
}
