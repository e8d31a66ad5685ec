-- A statement's code in a memory, with its lines.
use Rattle.std.specs.Prelude.{ℕ, ◌+◌, Bool, true, false, Option, Some, None}
use Rattle.p8_tree.specs.declared.places.Place.{Place}
use Rattle.p8_tree.specs.Statements.{Statement}
use Rattle.p8_bytecode.specs.declared.op.Op.{Op}
use Rattle.p8_gen.specs.Pieces.{Written}
use Rattle.p8_gen.specs.Statements.{Loop}
use Rattle.p8_compiled.specs.Standing.{Compiled}
use Rattle.p8_compiled.specs.Bodies.{Inner, outside, plain, with_count, StatementAt}
use Rattle.p8_legend.specs.Lines.{places_of, AddsLines}
use Rattle.p8_legend.specs.Asking.{HasLine, IsFetched}

-- the innermost loop round a statement, where code stands at a base
abbrev pub loop_at : (counted : Bool) → (next quit : ℕ) → Inner
loop_at true next quit = with_count next quit
loop_at false next quit = plain next quit

abbrev pub around : (base : ℕ) → Option Loop → Inner
around base None = outside
around base (Some loop) = loop_at loop.counted (base + loop.next) (base + loop.quit)

-- From where the code before a statement ends to where the statement's ends, a memory has what the statement does. The bytecodes there have lines
-- of the statement and of those inside it, and each of them stands where its line says.
pub record StandsByLines (t : Compiled) (base : ℕ) (x : Statement) (inner : Inner) (before after : Written) : Type 0 where
  pub means : StatementAt t x inner (base + before.end) (base + after.end)
  pub adds : AddsLines (places_of x) before after
  pub stand : (op : Op) (line : ℕ × Place) → HasLine adds.ops adds.lines op line → IsFetched t.memory (base + line.0) op
