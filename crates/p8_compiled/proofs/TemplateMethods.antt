-- The code of a method stands for the method.
use Rattle.std.proofs.Common.{◌≡◌, refl, subst, arith, ℕ, ◌+◌, false, [], IsTrue, None}
use Rattle.p8_tree.specs.Statements.{Statements}
use Rattle.p8_tree.specs.Proper.{AreProperStatements}
use Rattle.p8_tree.specs.Nesting.{leave_loops}
use Rattle.p8_tree.specs.declared.faults.Fault.{Fault}
use Rattle.p8_kinds.specs.Misuses.{MisuseInStatements}
use Rattle.p8_gen.specs.Names.{Names}
use Rattle.p8_gen.specs.Pieces.{empty, nowhere}
use Rattle.p8_compiled.specs.Standing.{Compiled, with_hand}
use Rattle.p8_compiled.specs.Bodies.{MethodAt}
use Rattle.p8_gen.specs.Methods.{method_code}
use Rattle.p8_compiled.specs.Placing.{HasCode, HasLines, IsNear, AreOps}
use Rattle.p8_compiled.specs.Agreeing.{Agrees, environment}
use Rattle.p8_compiled.proofs.Standing.{both, of}
use Rattle.p8_compiled.proofs.Bytecodes.{return-result-stand}
use Rattle.p8_compiled.proofs.Statements.{body-stand, on-statement}

first-place : (base : ℕ) → base + 0 ≡ base
first-place base = omega arith

pub method-stands : (n : Names) (t : Compiled) (base : ℕ) → Agrees n t → (ss : Statements) → AreProperStatements ss → IsTrue (leave_loops false ss) → ((f : Fault) → MisuseInStatements (environment n) ss f → ⊥) → HasCode t.memory base (method_code n ss) → HasLines t.table base (method_code n ss).lines → MethodAt (with_hand t n.statement) ss base
method-stands n t base a ss is loops clean has lines =
    let m = (both (body-stand (with_hand t n.statement) base nowhere n (on-statement n t n.statement a) None ss is loops clean) (of n.statement (return-result-stand t.memory t.cog base t.table n.statement))).by empty refl (record { code = has; lines = lines }) in
    subst (MethodAt (with_hand t n.statement) ss) (first-place base) (m.1.0, _, m.1.1, m.1.2)

no-ops : AreOps []
no-ops k d lt = absurd (omega (arith, lt))

pub operations-exist : (n : Names) (t : Compiled) → Agrees n t → (ss : Statements) → AreProperStatements ss → IsTrue (leave_loops false ss) → ((f : Fault) → MisuseInStatements (environment n) ss f → ⊥) → IsNear (method_code n ss) → AreOps (method_code n ss).ops
operations-exist n t a ss is loops clean near =
    ((both (body-stand t 16 nowhere n a None ss is loops clean) (of n.statement (return-result-stand t.memory t.cog 16 t.table n.statement))).exist empty near).1 no-ops
