-- Paths along the bytes of a method's code, and the stack that they come with.
use Rattle.std.specs.Prelude.{◌≡◌, ℕ, ◌+◌, ◌%◌, ◌^◌, ◌≤◌, nat_lt, if◌then◌else◌, List, [], Option, Some, None, Contains}
use Rattle.p8_tree.specs.declared.places.Place.{Place}
use Rattle.p8_bytecode.specs.declared.op.Op.{Op}
use Rattle.p8_bytecode.specs.Reading.{op_at}
use Rattle.p8_depth.specs.Stack.{Stack, holds, column, onward, IsEnough}

-- a jump counts from the byte behind its bytecode; an offset is a word in two's complement
abbrev pub target : Op → (behind : ℕ) → ℕ
target op behind = (behind + (if nat_lt op.code 0x40 then op.first else op.second)) % 2 ^ 32

abbrev pub onward_by : Option (Op × ℕ) → Stack → List (ℕ × Stack)
onward_by None s = []
onward_by (Some read) s = onward (column read.0) read.1 (target read.0 read.1) s

-- the places to which the bytecode at a place leads
abbrev pub onward_from : (bytes : List ℕ) (place : ℕ) → Stack → List (ℕ × Stack)
onward_from bytes place s = onward_by (op_at bytes place) s

-- A path comes to a place with a stack. It begins at one of these places with so many longs and no mark, and goes on from bytecode to
-- bytecode, past each jump that depends on a value and along it.
pub data Comes (bytes : List ℕ) (entries : List (ℕ × ℕ)) : ℕ → Stack → Type 0 where
  begins : {place longs : ℕ} → Contains entries (place, longs) → Comes bytes entries place (holds longs [])
  goes_on : {place next : ℕ} {s t : Stack} → Comes bytes entries place s → Contains (onward_from bytes place s) (next, t) → Comes bytes entries next t

-- a path comes to where this line of code begins
abbrev pub IsComeTo : (bytes : List ℕ) (entries : List (ℕ × ℕ)) → ℕ × Place → Type 0
IsComeTo bytes entries line = (s : Stack) × Comes bytes entries line.0 s

abbrev pub IsEnoughFor : Option (Op × ℕ) → Stack → Type 0
IsEnoughFor None s = Unit {0}
IsEnoughFor (Some read) s = IsEnough (column read.0) s

-- The greatest number of longs that lie on the stack along any path: no path comes anywhere with more, and some path comes with as many.
-- And wherever a path comes there is all that the bytecode takes.
pub record IsDepth (bytes : List ℕ) (entries : List (ℕ × ℕ)) (depth : ℕ) : Type 0 where
  pub most : {place : ℕ} {s : Stack} → Comes bytes entries place s → s.longs ≤ depth
  pub place : ℕ
  pub held : Stack
  pub comes : Comes bytes entries place held
  pub as_many : held.longs ≡ depth
  pub enough : {place : ℕ} {s : Stack} → Comes bytes entries place s → IsEnoughFor (op_at bytes place) s
