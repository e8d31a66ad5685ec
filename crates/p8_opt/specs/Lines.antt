-- From which statements the bytecodes of a project's image are made: a table of addresses, each with the place of a statement. The layout is
-- that of the image.
use Rattle.std.specs.Prelude.{◌≡◌, ℕ, ◌+◌, List, [], ◌∷◌, ◌++◌, length, map}
use Rattle.p8_tree.specs.declared.places.Place.{Place}
use Rattle.p8_gen.specs.declared.writer.Line.{Line}
use Rattle.p8_stmt.specs.declared.code.MethodCode.{MethodCode}
use Rattle.p8_image.specs.declared.parts.ObjectPart.{ObjectPart}
use Rattle.p8_image.specs.Layout.{codes_offset, size_of}
use Rattle.p8_build.specs.Files.{CompiledFile}
use Rattle.p8_access.specs.Worlds.{World}
use Rattle.p8_meaning.specs.Programs.{Program, Addresses}
use Rattle.p8_compiled.specs.Keeps.{Placed}
use Rattle.p8_compiled.specs.Told.{IsWorldOf}

-- a line of a code that stands at an address
abbrev pub line_at : (address : ℕ) → Line → ℕ × Place
line_at address line = (address + line.offset, line.statement)

-- the lines of codes, one after the other from an address on
abbrev pub lines_of_codes : (address : ℕ) → List MethodCode → List (ℕ × Place)
lines_of_codes address [] = []
lines_of_codes address (code ∷ codes) = map (line_at address) code.lines ++ lines_of_codes (address + length code.bytes) codes

-- those of objects, one after the other from a base on, with the codes of their files
abbrev pub lines_from : (base : ℕ) → List ObjectPart → List CompiledFile → List (ℕ × Place)
lines_from base (object ∷ objects) (x ∷ xs) = lines_of_codes (base + codes_offset object) x.codes ++ lines_from (base + size_of object) objects xs
lines_from base _ _ = []

-- those of a project's image
abbrev pub lines_of : List ObjectPart → List CompiledFile → List (ℕ × Place)
lines_of objects xs = lines_from 16 objects xs

-- a world that begins with a project, in whose memory each bytecode of a method is made, by this table, from the statement of its line
pub record IsWorldByLines (program : Program) (addresses : Addresses) (table : List (ℕ × Place)) (w : World) : Type 0 where
  pub world : IsWorldOf program addresses w
  pub placed : (cog : ℕ) → Placed w.memory cog program addresses
  pub tables : (cog : ℕ) → (placed cog).table ≡ table
