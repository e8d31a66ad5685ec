-- When all bytecodes of a piece of code are ones that there are.
use Rattle.std.specs.Prelude.{◌≡◌, ℕ, ◌^◌, ◌<◌, List, [], IfSome, All}
use Rattle.p8_bytecode.specs.declared.op.Op.{Op}
use Rattle.p8_bytecode.specs.Spelling.{IsOp}
use Rattle.p8_kinds.specs.declared.name_kinds.NameKind.{NameKind}
use Rattle.p8_kinds.specs.declared.name_kinds.NameKind.TheVariants as kinds
use Rattle.p8_gen.specs.Names.{Names}
use Rattle.p8_gen.specs.Pieces.{Written}
use Rattle.p8_gen.specs.Expressions.{method_number}

-- the numbers of methods and the places of objects, and how many parameters or instances there are, have a byte
abbrev pub HasBytes : NameKind → Type 0
HasBytes (kinds.Method number params) = (number < 2 ^ 8) × (params < 2 ^ 8)
HasBytes (kinds.Object item position count) = (position < 2 ^ 8) × (count < 2 ^ 8)
HasBytes _ = Unit {0}

pub record HaveBytes (names : Names) : Type 0 where
  pub kinds : (name : List ℕ) → IfSome (names.kind name) HasBytes
  pub publics : (item : ℕ) (name : List ℕ) → method_number (names.public item name) < 2 ^ 8

-- a bytecode that there is, if its number has 32 bits
pub record IsWhole (op : Op) : Type 0 where
  pub is_op : op.first < 2 ^ 32 → IsOp op

-- all bytecodes of a code are ones that there are, if no jump goes too far
pub record AreWhole (w : Written) : Type 0 where
  pub each : w.too_far ≡ [] → All IsWhole w.ops
