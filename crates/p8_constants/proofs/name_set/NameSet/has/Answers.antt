use Rattle.std.proofs.Common.{sym, subst}
use Rattle.std.specs.Prelude.{IsTrue, Contains, ◌↔◌}
use Rattle.p8_constants.proofs.name_set.NameSet.has.Goals as goal

pub returns : goal.returns
returns c = λ names h. subst (λ b. IsTrue b ↔ Contains names c.args.name.now) (sym c.contains_key.ensures) (h.each c.args.name.now)
