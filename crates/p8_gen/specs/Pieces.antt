-- Pieces of code: what each form of the source appends to the code so far.
--
-- A place is counted in bytes from the first byte of the method. A jump's offset is counted from the byte after it to the
-- place that it jumps to. It has two bytes where the jump is wide, and else one. The jumps of a method are numbered from 0 in the
-- order in which they are written, and which of them are wide is a function of the number. So how long a piece is depends on the
-- number of its first jump, but neither on where it stands nor on where its jumps go.
-- Source: the public Spin bytecode listing of the Propeller P8X32A; the choice of widths is this project's profile.
use Rattle.std.specs.Prelude.{ℕ, ◌+◌, ◌-◌, ◌%◌, ◌^◌, Bool, nat_le, nat_lt, ◌&&◌, if◌then◌else◌, List, [], ◌∷◌, ◌++◌, length}
use Rattle.p8_tree.specs.declared.places.Place.{Place}
use Rattle.p8_bytecode.specs.declared.op.Op.{Op}
use Rattle.p8_bytecode.specs.Reading.{bare, offset_size}
use Rattle.p8_bytecode.specs.Spelling.{spelled}

-- the code of a method so far
pub record Written : Type 0 where
  -- its bytecodes
  pub ops : List Op
  -- how many bytes they have, which is the place where the next one begins
  pub end : ℕ
  -- which of them push the address of a text, by their numbers, and where each text stands in the source
  pub texts : List (ℕ × Place)
  -- the statements of which a jump goes too far for its width, each as often as one does
  pub too_far : List Place
  -- how many jumps it has, which is the number of the next one
  pub jumps : ℕ
  -- the ways of its jumps: for each the place after it, and the place that it jumps to
  pub ways : List (ℕ × ℕ)
  -- the statement from which the next bytecode is made
  pub statement : Place
  -- its lines: for each bytecode the place where it begins, and the statement that it is made from
  pub lines : List (ℕ × Place)

-- a place before every source
abbrev pub nowhere : Place
nowhere = record { line = 0; column = 0 }

abbrev pub empty : Written
empty = record { ops = []; end = 0; texts = []; too_far = []; jumps = 0; ways = []; statement = nowhere; lines = [] }

-- code of which nothing is known but where it ends and how many jumps it has
abbrev pub from_place : (end jumps : ℕ) → Written
from_place end jumps = record empty { end = end; jumps = jumps }

-- a piece, by the code with it after the code before it
abbrev pub Piece : Type 0
Piece = Written → Written

infixl 40 ◌⨾◌
abbrev pub nothing : Piece
nothing w = w

-- one piece and then another
abbrev pub ◌⨾◌ : Piece → Piece → Piece
◌⨾◌ a b w = b (a w)

-- a piece that is told where it begins
abbrev pub from_start : (ℕ → Piece) → Piece
from_start piece w = piece w.end w

-- a piece that is told where it ends, which doesn't depend on what it is told
abbrev pub up_to_end : (ℕ → Piece) → Piece
up_to_end piece w = piece (piece 0 w).end w

-- a piece that is told where it ends and how many jumps come before that, which doesn't depend on what it is told
abbrev pub up_to_jumps : (ℕ → ℕ → Piece) → Piece
up_to_jumps piece w = piece (piece 0 0 w).end (piece 0 0 w).jumps w

-- the piece of a statement: its bytecodes are made from this statement, but for those of statements inside it, and after it the one
-- around it goes on
abbrev pub of_statement : Place → Piece → Piece
of_statement place piece w = record (piece (record w { statement = place })) { statement = w.statement }

-- ---- bytecodes

abbrev pub one : Op → Piece
one op w = record w { ops = w.ops ++ op ∷ []; end = w.end + length (spelled op); lines = w.lines ++ (w.end, w.statement) ∷ [] }

-- one with its byte alone
abbrev pub byte : ℕ → Piece
byte code = one (bare code)

-- one with a number after it
abbrev pub with_number : (code number : ℕ) → Piece
with_number code number = one (record (bare code) { first = number })

-- the address of the text that stands at this place of the source, by its offset in the object
abbrev pub text : Place → (pos : ℕ) → Piece
text place pos w = record (with_number 0x87 pos w) { texts = w.texts ++ (length w.ops, place) ∷ [] }

-- ---- jumps

-- the offset from one place to another, as a word in two's complement
abbrev pub offset : (from to : ℕ) → ℕ
offset from to = (to + 2 ^ 32 - from) % 2 ^ 32

-- an offset has 15 bits in the wide form, and 7 in the other
abbrev pub reach : (wide : Bool) → ℕ
reach wide = if wide then 16384 else 64

abbrev pub is_near : (wide : Bool) (from to : ℕ) → Bool
is_near wide from to = nat_le from (to + reach wide) && nat_lt to (from + reach wide)

-- a statement's jump, told of where it goes too far
abbrev pub told : (wide : Bool) → Place → (from to : ℕ) → List Place
told wide statement from to = if is_near wide from to then [] else statement ∷ []

-- a bytecode that jumps to a place and ends at another one
abbrev pub jump_by : (wide : Bool) → Place → Op → (end to : ℕ) → Piece
jump_by wide statement op end to w = record w {
  ops = w.ops ++ op ∷ [];
  end = end;
  too_far = w.too_far ++ told wide statement end to;
  jumps = w.jumps + 1;
  ways = w.ways ++ (end, to) ∷ [];
  lines = w.lines ++ (w.end, w.statement) ∷ [];
}

-- how many bytes a jump has
abbrev pub jump_size : (wide : Bool) → ℕ
jump_size wide = 1 + offset_size wide

-- where the next bytecode ends, if it is a jump
abbrev pub end_of_jump : (wide : ℕ → Bool) → Written → ℕ
end_of_jump wide w = w.end + jump_size (wide w.jumps)

-- a jump to a place
abbrev pub jump : (wide : ℕ → Bool) → Place → (code to : ℕ) → Piece
jump wide statement code to w =
    jump_by (wide w.jumps) statement (record (bare code) { first = offset (end_of_jump wide w) to; long_form = wide w.jumps }) (end_of_jump wide w) to w

-- where a change of a variable ends that jumps as well, as REPEAT's step does
abbrev pub end_of_jumping : (wide : ℕ → Bool) → Op → Written → ℕ
end_of_jumping wide op w = w.end + length (spelled (record op { long_form = wide w.jumps }))

abbrev pub jumping : (wide : ℕ → Bool) → Place → (to : ℕ) → Op → Piece
jumping wide statement to op w =
    jump_by (wide w.jumps) statement (record op { second = offset (end_of_jumping wide op w) to; long_form = wide w.jumps }) (end_of_jumping wide op w) to w
