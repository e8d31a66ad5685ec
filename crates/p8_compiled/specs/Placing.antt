-- Where a memory has the bytes of a method's code.
use Rattle.std.specs.Prelude.{Contains, ◌≡◌, ℕ, ◌+◌, ◌≤◌, List, [], ◌++◌, length, drop, All}
use Rattle.p8_tree.specs.declared.places.Place.{Place}
use Rattle.p8_bytecode.specs.declared.op.Op.{Op}
use Rattle.p8_bytecode.specs.Spelling.{IsOp}
use Rattle.p8_bcog.specs.Code.{code_of}
use Rattle.p8_gen.specs.Pieces.{Written}
use Rattle.p8_gen.specs.Methods.{bytes_of}

-- From the address `base` on, where bytecodes may stand, a memory has the bytes of the code. The code ends where its bytes do, and
-- no jump of it goes too far.
pub record HasCode (memory : List ℕ) (base : ℕ) (w : Written) : Type 0 where
  pub begins : 16 ≤ base
  pub rest : List ℕ
  pub bytes : drop base (code_of memory) ≡ bytes_of w ++ rest
  pub ends : w.end ≡ length (bytes_of w)
  pub near : w.too_far ≡ []

-- A line of a code that stands from the address `base` on is among those of a table, which has addresses.
abbrev pub IsLine : (table : List (ℕ × Place)) (base : ℕ) → ℕ × Place → Type 0
IsLine table base x = Contains table (base + x.0, x.1)

abbrev pub HasLines : (table : List (ℕ × Place)) (base : ℕ) → List (ℕ × Place) → Type 0
HasLines table base lines = All (IsLine table base) lines

-- code whose places lie within the lower half of memory, with no jump that goes too far
pub record IsNear (w : Written) : Type 0 where
  pub low : w.end ≤ 32768
  pub near : w.too_far ≡ []

-- bytecodes that there are
abbrev pub AreOps : List Op → Type 0
AreOps ops = All IsOp ops
