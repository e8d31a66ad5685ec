-- The lines of DAT in an image, each with its place in the source (this project's profile). All addresses are told mod 65,536, which is exact in an image that
-- fits the hub.
use Rattle.std.specs.Prelude.{ℕ, suc, ◌+◌, ◌≡◌, ◌<◌, ◌≤◌, List, [], ◌∷◌, ◌++◌, drop, slice_get, Some, codes}
use Rattle.std.specs.Fmt.{decimal}
use Rattle.p8_tree.specs.Projects.{NamedSource}
use Rattle.p8_kinds.specs.declared.children.Children.{Children}
use Rattle.p8_dat.specs.declared.assembling.LineBegin.{LineBegin}
use Rattle.p8_image.specs.declared.parts.ObjectPart.{ObjectPart}
use Rattle.p8_image.specs.Layout.{codes_offset, size_of}
use Rattle.p8_image.specs.Listing.{address_after}
use Rattle.p8_image.specs.Places.{base_of}
use Rattle.p8_build.specs.Files.{CompiledFile, line_begins, object_of, setting_of}
use Rattle.p8_build.specs.Builds.{IsFile, objects_of}
use Rattle.p8_map.specs.declared.names.FileNames.{FileNames}
use Rattle.p8_legend.specs.ProjectLegends.{Named, and_one}

-- a line stands up to the next one, and the last one up to the codes
abbrev pub line_end : (base codes_at : ℕ) → List LineBegin → ℕ
line_end base codes_at [] = codes_at
line_end base codes_at (line ∷ lines) = address_after base line.offset

-- the file and the line
abbrev pub line_text : (file : List ℕ) → LineBegin → List ℕ
line_text file line = file ++ codes ":" ++ decimal line.place.line

-- the lines of an object's DAT
abbrev pub with_dat : Named → (file : List ℕ) → (base codes_at : ℕ) → List LineBegin → Named
with_dat so_far file base codes_at [] = so_far
with_dat so_far file base codes_at (line ∷ lines) =
    with_dat (and_one so_far (address_after base line.offset) (line_end base codes_at lines) (line_text file line)) file base codes_at lines

-- those of objects that stand one after the other from a base on
abbrev pub with_dats : Named → (base : ℕ) → List FileNames → List ObjectPart → List (List LineBegin) → Named
with_dats so_far base (names ∷ files) (object ∷ objects) (lines ∷ others) =
    with_dats (with_dat so_far names.file base (address_after base (codes_offset object)) lines) (address_after base (size_of object)) files objects others
with_dats so_far base _ _ _ = so_far

-- where the lines of each file's DAT begin in its object
abbrev pub dats_of : List NamedSource → List Children → List CompiledFile → List (List LineBegin)
dats_of (file ∷ files) (seen ∷ children) (x ∷ xs) =
    line_begins (setting_of seen x) file.tree ∷ dats_of files children xs
dats_of _ _ _ = []

-- ---- the line that has an address

-- where the next of an object's lines begins, and else its codes
abbrev pub next_begin : (codes_at : ℕ) → List LineBegin → ℕ
next_begin codes_at [] = codes_at
next_begin codes_at (line ∷ lines) = line.offset

-- A line of a file's DAT has an address in the image: its contents begin there or before, by where the file's object stands, and the next line's behind it.
pub record HasAddress (files : List NamedSource) (children : List Children) (compiled : List CompiledFile) (file : NamedSource) (line : LineBegin)
    (address : ℕ) : Type 0 where
  pub f : ℕ
  pub seen : Children
  pub there : IsFile files children f file seen
  pub x : CompiledFile
  pub is_compiled : slice_get compiled f ≡ Some x
  pub k : ℕ
  pub is_line : slice_get (line_begins (setting_of seen x) file.tree) k ≡ Some line
  pub begins : base_of (objects_of files children compiled) f + line.offset ≤ address
  pub ends : address < base_of (objects_of files children compiled) f +
      next_begin (codes_offset (object_of files file.tree seen x)) (drop (suc k) (line_begins (setting_of seen x) file.tree))
