use Rattle.std.proofs.Common.{◌∙◌, arith}
use Rattle.std.proofs.lemmas.Grind.{common_steps}
use Rattle.p8_bytecode.proofs.ReadBack.{placed}
use Rattle.p8_bytecode.proofs.reading.take_op.Goals as goal

pub returns-in_err-op-clause-value : goal.returns-in_err-op-clause-value
returns-in_err-op-clause-value c = grind (arith, common_steps)

pub returns-clause-value : goal.returns-clause-value
returns-clause-value c = grind (arith, common_steps)

pub returns-in_err-op-clause-stands : goal.returns-in_err-op-clause-stands
returns-in_err-op-clause-stands c =
    λ op size s. returns-in_err-op-clause-value c ∙ placed c.args.bytes.now c.args.at op size s

pub returns-clause-stands : goal.returns-clause-stands
returns-clause-stands c = λ op size s. returns-clause-value c ∙ placed c.args.bytes.now c.args.at op size s
