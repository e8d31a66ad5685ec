-- Where bytecodes begin among their bytes: internal.
use Rattle.std.specs.Prelude.{◌≡◌, ℕ, ◌+◌, List, [], ◌∷◌, length, flat_map, take}
use Rattle.p8_tree.specs.declared.places.Place.{Place}
use Rattle.p8_bytecode.specs.declared.op.Op.{Op}
use Rattle.p8_bytecode.specs.Spelling.{spelled}
use Rattle.p8_stmt.specs.declared.spelling.Spelled.{Spelled}

-- where each bytecode begins, after so many bytes
abbrev pub begins_of : (before : ℕ) → List Op → List ℕ
begins_of before [] = []
begins_of before (op ∷ ops) = before ∷ begins_of (before + length (spelled op)) ops

-- a use of a text by a bytecode's number, and by where its operand stands among the bytes
abbrev pub placed : List Op → ℕ × Place → ℕ × Place
placed ops u = (length (flat_map spelled (take u.0 ops)) + 1, u.1)

-- the bytes of these bytecodes, and where each begins
pub record IsSpelled (s : Spelled) (ops : List Op) : Type 0 where
  pub bytes : s.bytes.items ≡ flat_map spelled ops
  pub begins : s.begins.items ≡ begins_of 0 ops
