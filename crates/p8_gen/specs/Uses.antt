-- A use of a text in code, as a number and a place; the way of a jump, as two places; a line of code, as where it begins and whose it is.
use Rattle.std.specs.Prelude.{ℕ}
use Rattle.p8_tree.specs.declared.places.Place.{Place}
use Rattle.p8_gen.specs.declared.code.StringUse.{StringUse}
use Rattle.p8_gen.specs.declared.writer.Line.{Line}
use Rattle.p8_gen.specs.declared.writer.Jump.{Jump}

abbrev pub way_of : Jump → ℕ × ℕ
way_of way = (way.from, way.to)

abbrev pub use_of : StringUse → ℕ × Place
use_of u = (u.at, u.place)

abbrev pub line_of : Line → ℕ × Place
line_of line = (line.offset, line.statement)
