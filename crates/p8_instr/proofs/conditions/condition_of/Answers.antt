use Rattle.std.proofs.Common.{◌<◌, IfSome, subst, sym}
use Rattle.p8_instr.specs.Conditions.{conditions}
use Rattle.p8_instr.proofs.Entries.{field-below}
use Rattle.p8_instr.proofs.conditions.condition_of.Goals as goal

pub returns-clause-value : goal.returns-clause-value
unfolding conditions
returns-clause-value c = c.entry_in.ensures

pub returns-clause-in_range : goal.returns-clause-in_range
returns-clause-in_range c =
    subst (λ found. IfSome found (λ field. field < 16)) (sym (returns-clause-value c)) (field-below c.args.word.now)
