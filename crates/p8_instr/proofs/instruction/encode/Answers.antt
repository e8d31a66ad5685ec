use Rattle.std.proofs.Common.{ap, ◌∙◌}
use Rattle.p8_instr.specs.Instruction.{instr_of}
use Rattle.p8_instr.proofs.Packing.{encoded, instr_of-long_of}
use Rattle.p8_instr.proofs.instruction.encode.Goals as goal

pub returns-clause-value : goal.returns-clause-value
returns-clause-value c =
    encoded c.args.i c.requires c.from.result c.from-2.result c.from-3.result c.from-4.result c.from-5.result c.from.ensures c.from-2.ensures c.from-3.ensures c.from-4.ensures c.from-5.ensures

pub returns-clause-decoded : goal.returns-clause-decoded
returns-clause-decoded c = ap instr_of (returns-clause-value c) ∙ instr_of-long_of c.args.i c.requires
