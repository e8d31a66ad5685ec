use Rattle.std.proofs.Common.{ℕ, Option, IfSome, subst, sym, arith}
use Rattle.std.proofs.lemmas.Grind.{common_steps}
use Rattle.p8_bytecode.specs.declared.op.Op.{Op}
use Rattle.p8_bytecode.specs.Spelling.{Stands}
use Rattle.p8_bytecode.proofs.Standing.{AreBytes, what-is-read-stands}
use Rattle.p8_bytecode.proofs.reading.op_in.Goals as goal

pub returns-clause-value : goal.returns-clause-value
returns-clause-value c = grind (arith, common_steps)

pub returns-clause-whole : goal.returns-clause-whole
returns-clause-whole c =
    let P : Option (Op × ℕ) → Type 0 = λ read. IfSome read (λ r. Stands c.args.bytes.now r.0 r.1) in
    let bytes : AreBytes c.args.bytes.now = λ i. omega (arith, c.type_inv.bytes i) in
    subst P (sym (returns-clause-value c)) (what-is-read-stands c.args.bytes.now bytes)
