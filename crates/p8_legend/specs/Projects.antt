-- The legend of a project, by its sources.
use Rattle.std.specs.Prelude.{◌≡◌, ℕ, List, [], Some}
use Rattle.p8_tree.specs.Projects.{NamedSource}
use Rattle.p8_kinds.specs.declared.children.Children.{Children}
use Rattle.p8_names.specs.Children.{AreChildren}
use Rattle.p8_image.specs.declared.clocks.Clock.{Clock}
use Rattle.p8_image.specs.Headers.{word_at}
use Rattle.p8_image.specs.Layout.{header_by, image_of}
use Rattle.p8_image.specs.Projects.{FitsHub}
use Rattle.p8_build.specs.Files.{CompiledFile}
use Rattle.p8_build.specs.Builds.{AreCompiled, objects_of, clock_by}
use Rattle.p8_legend.specs.declared.legend.Legend.{Legend}
use Rattle.p8_legend.specs.Rows.{codes_of, rows_from}
use Rattle.p8_map.specs.Projects.{names_of}
use Rattle.p8_legend.specs.ProjectLegends.{Named, names_in, with_rows}
use Rattle.p8_legend.specs.DatLines.{dats_of, with_dats}
use Rattle.p8_legend.specs.Frames.{with_locals}

-- the project is accepted, and this is the legend of its image, by the names of its files, whose bytes these are, and the lines of their codes
pub record IsLegendOf (sources : List (List ℕ)) (files : List NamedSource) (legend : Legend) : Type 0 where
  pub children : List Children
  pub seen : AreChildren files children
  pub compiled : List CompiledFile
  pub each : AreCompiled files children compiled
  pub clock : Clock
  pub clock_is : clock_by compiled ≡ Some clock
  pub fits : FitsHub (header_by (objects_of files children compiled))
  pub names : (legend.names.ranges, legend.names.texts)
      ≡ names_in (word_at (image_of clock (objects_of files children compiled)) 8) (names_of sources files children compiled)
      (objects_of files children compiled)
  pub places : (legend.places.ranges, legend.places.texts)
      ≡ with_rows ([], []) (names_of sources files children compiled) (rows_from 0 16 (objects_of files children compiled) (codes_of compiled))
  pub lines : (legend.lines.ranges, legend.lines.texts)
      ≡ with_dats ([], []) 16 (names_of sources files children compiled) (objects_of files children compiled) (dats_of files children compiled)
  pub locals : (legend.locals.ranges, legend.locals.texts)
      ≡ with_locals ([], []) (image_of clock (objects_of files children compiled)) (names_of sources files children compiled)
      (rows_from 0 16 (objects_of files children compiled) (codes_of compiled))

-- the same ranges with the same texts
pub record AreSame (a b : Legend) : Type 0 where
  pub names : ◌≡◌ {A = Named} (a.names.ranges, a.names.texts) (b.names.ranges, b.names.texts)
  pub places : ◌≡◌ {A = Named} (a.places.ranges, a.places.texts) (b.places.ranges, b.places.texts)
  pub lines : ◌≡◌ {A = Named} (a.lines.ranges, a.lines.texts) (b.lines.ranges, b.lines.texts)
  pub locals : ◌≡◌ {A = Named} (a.locals.ranges, a.locals.texts) (b.locals.ranges, b.locals.texts)
