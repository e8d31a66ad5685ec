use Rattle.std.proofs.Common.{IfSome, subst, sym}
use Rattle.p8_instr.specs.Instruction.{FitsFields}
use Rattle.p8_instr.specs.Mnemonics.{mnemonics}
use Rattle.p8_instr.proofs.Entries.{FitsFields-default}
use Rattle.p8_instr.proofs.mnemonics.default_of.Goals as goal

pub returns-clause-value : goal.returns-clause-value
unfolding mnemonics
returns-clause-value c = c.entry_in.ensures

pub returns-clause-in_range : goal.returns-clause-in_range
returns-clause-in_range c =
    subst (λ found. IfSome found FitsFields) (sym (returns-clause-value c)) (FitsFields-default c.args.word.now)
