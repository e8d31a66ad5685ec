use Rattle.std.proofs.Common.{◌≡◌, false, true, refl, ap}
use Rattle.p8_grammar.specs.Views.{mark_of}
use Rattle.p8_expr.proofs.Stepping.{no_equal}
use Rattle.p8_expr.proofs.lookahead.is_equal.Goals as goal

pub returns-in-Equal : goal.returns-in-Equal
returns-in-Equal c = (λ t. ap mark_of c.in-Equal.is, λ e. refl)

pub returns-in_default : goal.returns-in_default
returns-in_default c = (λ t. (let e : false ≡ true = t in absurd cc), no_equal c.args.mark c.in_default.not-Equal)
