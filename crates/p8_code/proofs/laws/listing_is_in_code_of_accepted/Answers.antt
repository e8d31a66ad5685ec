use Rattle.p8_code.proofs.Accepted.{code-holds, short-code-holds}
use Rattle.p8_code.proofs.laws.listing_is_in_code_of_accepted.Goals as goal

pub returns-clause-code : goal.returns-clause-code
returns-clause-code c = λ texts files text beside is. code-holds texts files beside text is

pub returns-clause-short_code : goal.returns-clause-short_code
returns-clause-short_code c = λ texts files text beside is. short-code-holds texts files beside text is
