-- The line table of a project: for each object at its base, for each of its methods at its entry, the lines of its code.
-- The layout is that of the image; addresses are mod 65,536, which is exact in an image that fits the hub.
use Rattle.std.specs.Prelude.{◌≡◌, ℕ, ◌+◌, ◌<◌, ◌≤◌, List, [], ◌∷◌, ◌++◌, length, map, slice_get, Some}
use Rattle.p8_tree.specs.Projects.{NamedSource}
use Rattle.p8_kinds.specs.declared.children.Children.{Children}
use Rattle.p8_names.specs.Children.{AreChildren}
use Rattle.p8_gen.specs.declared.writer.Line.{Line}
use Rattle.p8_stmt.specs.declared.code.MethodCode.{MethodCode}
use Rattle.p8_image.specs.declared.parts.ObjectPart.{ObjectPart}
use Rattle.p8_image.specs.Layout.{codes_offset, size_of}
use Rattle.p8_image.specs.Listing.{address_after}
use Rattle.p8_build.specs.Files.{CompiledFile}
use Rattle.p8_build.specs.Builds.{AreCompiled, objects_of}
use Rattle.p8_legend.specs.declared.table.LineRow.{LineRow}
use Rattle.p8_legend.specs.declared.table.LineTable.{LineTable}

-- where a line ends: where the next one begins, or where the code ends, which has so many bytes
abbrev pub end_of : (size : ℕ) → List Line → ℕ
end_of size [] = size
end_of size (next ∷ rest) = next.offset

-- the row of a line of code that stands at an address, and ends at a place
abbrev pub line_row : (file method at end : ℕ) → Line → LineRow
line_row file method at end line = record {
  address = address_after at line.offset;
  end = address_after at end;
  file = file;
  method = method;
  place = line.statement;
}

-- the rows of a code of so many bytes
abbrev pub line_rows : (file method at size : ℕ) → List Line → List LineRow
line_rows file method at size [] = []
line_rows file method at size (line ∷ rest) = line_row file method at (end_of size rest) line ∷ line_rows file method at size rest

-- the rows of methods from a number on, whose codes stand one after the other from an address on
abbrev pub code_rows : (file method at : ℕ) → List MethodCode → List LineRow
code_rows file method at [] = []
code_rows file method at (code ∷ codes) = line_rows file method at (length code.bytes) code.lines ++
    code_rows file (method + 1) (address_after at (length code.bytes)) codes

-- the rows of objects, one after the other from a base on, with the codes of their methods
abbrev pub rows_from : (file base : ℕ) → List ObjectPart → List (List MethodCode) → List LineRow
rows_from file base (object ∷ objects) (codes ∷ others) =
    code_rows file 1 (address_after base (codes_offset object)) codes ++ rows_from (file + 1) (address_after base (size_of object)) objects others
rows_from file base _ _ = []

-- the codes of a project's files
abbrev pub codes_of : List CompiledFile → List (List MethodCode)
codes_of xs = map (λ (x : CompiledFile). x.codes) xs

-- the table of a project that is accepted
pub record IsLineTable (files : List NamedSource) (table : LineTable) : Type 0 where
  pub children : List Children
  pub seen : AreChildren files children
  pub compiled : List CompiledFile
  pub each : AreCompiled files children compiled
  pub rows : table.rows ≡ rows_from 0 16 (objects_of files children compiled) (codes_of compiled)

-- no two rows hold one address: each ends after it begins, and those behind it begin at or after its end
pub record AreApart (rows : List LineRow) : Type 0 where
  pub some : (i : ℕ) (a : LineRow) → slice_get rows i ≡ Some a → a.address < a.end
  pub behind : (i j : ℕ) (a b : LineRow) → i < j → slice_get rows i ≡ Some a → slice_get rows j ≡ Some b → a.end ≤ b.address

-- the row of the bytecode that stands at an address
pub record IsRowAt (rows : List LineRow) (address : ℕ) (row : LineRow) : Type 0 where
  pub number : ℕ
  pub stands : slice_get rows number ≡ Some row
  pub begins : row.address ≤ address
  pub ends : address < row.end
