use Rattle.p8_instr.specs.Mnemonics.{mnemonics}
use Rattle.p8_instr.proofs.Naming.{named_below}
use Rattle.p8_instr.proofs.mnemonics.mnemonic.Goals as goal

pub returns-clause-value : goal.returns-clause-value
unfolding mnemonics
returns-clause-value c = c.mnemonic_in.ensures

pub returns-clause-found : goal.returns-clause-found
returns-clause-found c =
    named_below c.args.opcode c.args.writes_result c.mnemonic_in.result (returns-clause-value c)
