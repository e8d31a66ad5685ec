use Rattle.std.proofs.Common.{◌≡◌, ◌∙◌, sym, ap, subst, List, []}
use Rattle.p8_kinds.specs.declared.children.Children.{Children}
use Rattle.p8_build.specs.Builds.{AreCompiled, objects_of}
use Rattle.p8_map.specs.Projects.{names_of}
use Rattle.p8_legend.specs.Rows.{rows_from, codes_of}
use Rattle.p8_legend.specs.ProjectLegends.{with_rows}
use Rattle.p8_legend.proofs.OneLegend.{legend-built}
use Rattle.p8_legend.proofs.RowLines.{one-rows}
use Rattle.p8_legend.proofs.Telling.{tells-rows}
use Rattle.p8_legend.proofs.place_laws.places_are_those_of_rows.Goals as goal

pub returns : goal.returns
returns c = λ sources files long distinct no_ring legend is table of.
    let objects = objects_of files is.children is.compiled in
    let apart = c.table_tells_each_address_once.ensures files distinct no_ring is.clock objects table (legend-built sources files legend is) of in
    let all = c.rows_are_of_their_methods.ensures files table of in
    let same : of.children ≡ is.children = c.one_for_each_project.ensures files distinct no_ring of.children is.children of.seen is.seen in
    let each : AreCompiled files is.children of.compiled = subst (λ (cs : List Children). AreCompiled files cs of.compiled) same of.each in
    let rows : table.rows ≡ rows_from 0 16 objects (codes_of is.compiled) =
    of.rows ∙ ap (λ (cs : List Children). rows_from 0 16 (objects_of files cs of.compiled) (codes_of of.compiled)) same ∙ one-rows files is.children of.compiled is.compiled is.seen.one_each each is.each in
    tells-rows sources files is.children is.compiled table.rows legend.places long is.seen.one_each is.each.count apart all (is.places ∙ ap (with_rows ([], []) (names_of sources files is.children is.compiled)) (sym rows))
