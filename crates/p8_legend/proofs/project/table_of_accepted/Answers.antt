use Rattle.std.proofs.Common.{◌≡◌, ◌∙◌, ap, ap₂, List, map}
use Rattle.std.proofs.lemmas.Result.{IfOk-weaker}
use Rattle.p8_image.specs.declared.parts.ObjectPart.{ObjectPart}
use Rattle.p8_build.specs.declared.accepting.AcceptedFile.{AcceptedFile}
use Rattle.p8_build.specs.Accepted.{compiled_file}
use Rattle.p8_legend.specs.Rows.{rows_from, codes_of}
use Rattle.p8_legend.proofs.OfAccepted.{codes-are, table-told}
use Rattle.p8_legend.proofs.project.table_of_accepted.Goals as goal

-- the rows by what was read of the accepted project
same : (objects own : List ObjectPart) (found files : List AcceptedFile) → objects ≡ own → found ≡ files
    → rows_from 0 16 objects (map (λ (f : AcceptedFile). f.codes) found) ≡ rows_from 0 16 own (codes_of (map compiled_file files))
same objects own found files one other = ap₂ (rows_from 0 16) one (ap (map (λ (f : AcceptedFile). f.codes)) other ∙ codes-are files)

pub returns-clause-rows : goal.returns-clause-rows
returns-clause-rows c =
    let a = c.args.accepted.now in
    IfOk-weaker c.rows_of.result _ _ (λ table rows. rows ∙ same c.as_slice-objects.result.now a.built.objects c.as_slice.result.now a.files c.as_slice-objects.ensures c.as_slice.ensures) c.rows_of.ensures

pub returns-clause-table : goal.returns-clause-table
returns-clause-table c = λ files is.
    let a = c.args.accepted.now in
    IfOk-weaker c.rows_of.result _ _
    (λ table rows. table-told files a is table (rows ∙ same c.as_slice-objects.result.now a.built.objects c.as_slice.result.now a.files c.as_slice-objects.ensures c.as_slice.ensures))
    c.rows_of.ensures
