use Rattle.std.proofs.Common.{◌≡◌, ◌++◌, length, take, drop}
use Rattle.std.specs.Prelude.{flat_map}
use Rattle.p8_bytecode.specs.Spelling.{spelled}
use Rattle.p8_stmt.specs.Spelled.{begins_of}
use Rattle.p8_stmt.proofs.spelling.put_ops.Given as goal

abbrev pub invariant-loop-op : goal.invariant-loop-op
invariant-loop-op l =
    (l.bytes.items ≡ flat_map spelled (take l.op-index l.ops)) × (l.begins.items ++ begins_of (length l.bytes.items) (drop l.op-index l.ops) ≡ begins_of 0 l.ops)
