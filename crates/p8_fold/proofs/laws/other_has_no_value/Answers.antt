use Rattle.std.proofs.Common.{ap, inl}
use Rattle.p8_fold.specs.Meanings.{value_of_meaning, given}
use Rattle.p8_fold.specs.Values.{unless, fault_of_name}
use Rattle.p8_fold.proofs.laws.other_has_no_value.Goals as goal

pub returns : goal.returns
returns c = λ s name p q other. (ap (given value_of_meaning) other, inl (ap (λ m. unless (given value_of_meaning m) (fault_of_name m q)) other))
