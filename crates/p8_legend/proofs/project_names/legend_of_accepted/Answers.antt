use Rattle.std.proofs.Common.{◌≡◌, ap, ◌∙◌, List, [], map}
use Rattle.p8_tree.specs.Views.{named_source_of}
use Rattle.p8_legend.specs.ProjectLegends.{names_in, with_rows}
use Rattle.p8_build.specs.declared.accepting.AcceptedFile.{AcceptedFile}
use Rattle.p8_legend.specs.DatLines.{with_dats}
use Rattle.p8_legend.specs.Frames.{with_locals}
use Rattle.p8_legend.specs.Projects.{IsLegendOf}
use Rattle.p8_legend.proofs.OfAccepted.{if-all, legend-told}
use Rattle.p8_legend.proofs.project_names.legend_of_accepted.Goals as goal

pub returns : goal.returns
returns c =
    let files = map named_source_of c.args.files.now in
    let image = c.bytes-image.result.now in
    let at = c.variables_at.result in
    let shown = c.as_slice.result.now in
    let objects = c.as_slice-2.result.now in
    let rows = c.in_ok-table.table.rows in
    if-all c.legend_of_parts.result
    (λ legend. (legend.names.ranges, legend.names.texts) ≡ names_in at shown objects) (λ legend. (legend.places.ranges, legend.places.texts) ≡ with_rows ([], []) shown rows)
    (λ legend. (legend.lines.ranges, legend.lines.texts) ≡ with_dats ([], []) 16 shown objects (map (λ (f : AcceptedFile). f.dat.lines) c.as_slice-3.result.now))
    (λ legend. (legend.locals.ranges, legend.locals.texts) ≡ with_locals ([], []) image shown rows) (IsLegendOf c.args.sources.now files)
    c.legend_of_parts.ensures.names c.legend_of_parts.ensures.places c.legend_of_parts.ensures.lines c.legend_of_parts.ensures.locals
    (λ legend names places lines locals. legend-told c.args.sources.now files c.args.accepted.now c.requires.accepted shown (c.as_slice.ensures ∙ c.in_ok-names.ensures)
    rows c.in_ok-table.ensures.rows image c.bytes-image.ensures.bytes at c.variables_at.ensures objects c.as_slice-2.ensures legend names places
    (lines ∙ ap (λ (fs : List AcceptedFile). with_dats ([], []) 16 shown objects (map (λ (f : AcceptedFile). f.dat.lines) fs)) c.as_slice-3.ensures) locals)
