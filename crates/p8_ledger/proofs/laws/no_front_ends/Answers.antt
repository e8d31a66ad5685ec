use Rattle.std.proofs.Common.{inl, inr}
use Rattle.p8_ledger.proofs.Telling.{none-over}
use Rattle.p8_ledger.proofs.laws.no_front_ends.Goals as goal

pub returns : goal.returns
returns c = λ w r truth legal over. record {
  legal = legal;
  over = elim over [ inl full ↦ inl full | inr none ↦ none-over w r truth none ];
}
