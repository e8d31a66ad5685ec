use Rattle.std.proofs.Common.{◌≡◌, List, take, map}
use Rattle.p8_bytecode.specs.declared.op.Op.{Op}
use Rattle.p8_gen.specs.Uses.{use_of}
use Rattle.p8_stmt.specs.Spelled.{placed, IsSpelled}
use Rattle.p8_stmt.proofs.spelling.place_uses.Given as goal

abbrev pub invariant-loop-text : goal.invariant-loop-text
invariant-loop-text l = (ops : List Op) → IsSpelled l.spelled ops → map use_of l.placed ≡ map (placed ops) (map use_of (take l.text-index l.uses))
