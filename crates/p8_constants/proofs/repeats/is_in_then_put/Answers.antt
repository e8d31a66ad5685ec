use Rattle.std.proofs.Common.{◌++◌, sym, subst}
use Rattle.std.specs.Prelude.{IsTrue, Contains, ◌↔◌}
use Rattle.p8_constants.proofs.Repeating.{in_either}
use Rattle.p8_constants.proofs.repeats.is_in_then_put.Goals as goal

pub returns-clause-told : goal.returns-clause-told
returns-clause-told c = λ before s behind h.
    subst (λ b. IsTrue b ↔ Contains (before ++ behind) c.args.name.now) (sym c.either.ensures)
    (in_either c.has-in_shared.result c.in_ok-in_own.in_own before behind c.args.name.now (c.has-in_shared.ensures before s) (c.in_ok-in_own.ensures.told behind h))
