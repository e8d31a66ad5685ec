use Rattle.std.proofs.Common.{refl}
use Rattle.std.specs.Fmt.{digits}
use Rattle.p8_prop.proofs.Explaining.{known}
use Rattle.p8_prop.proofs.laws.each_refusal_is_explained.Goals as goal

pub returns-clause-known : goal.returns-clause-known
returns-clause-known c r = (known r).0

pub returns-clause-told : goal.returns-clause-told
returns-clause-told c r = (known r).1

pub returns-clause-page : goal.returns-clause-page
unfolding digits
returns-clause-page c = refl
