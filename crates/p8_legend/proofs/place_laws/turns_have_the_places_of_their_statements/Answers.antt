use Rattle.std.proofs.Common.{refl}
use Rattle.p8_build.specs.Builds.{objects_of}
use Rattle.p8_legend.specs.declared.table.LineTable.{LineTable}
use Rattle.p8_legend.specs.Rows.{rows_from, codes_of, IsLineTable}
use Rattle.p8_legend.proofs.place_laws.turns_have_the_places_of_their_statements.Goals as goal

pub returns : goal.returns
returns c = λ sources files long proper some distinct mentioned no_ring image is legend of w memory first history legal later turn past is_history origin running entered begins address asked target frame is_origin.
    let table : LineTable = record { rows = rows_from 0 16 (objects_of files of.children of.compiled) (codes_of of.compiled) } in
    let its : IsLineTable files table = record { children = of.children; seen = of.seen; compiled = of.compiled; each = of.each; rows = refl } in
    let named = c.turns_are_asked_for_the_statements_of_their_rows.ensures files proper some distinct mentioned no_ring image is table its w memory first history legal later turn past is_history origin running entered begins address asked target frame is_origin in
    record {
      file_number = named.row.file;
      method_number = named.row.method;
      place = named.row.place;
      names = named.names;
      tells = (c.places_are_those_of_rows.ensures sources files long distinct no_ring legend of table its).told address named.row named.is_at;
    }
