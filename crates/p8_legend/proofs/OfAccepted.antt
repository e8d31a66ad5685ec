-- The rows and the legend that were made are those of the accepted project.
use Rattle.std.proofs.Common.{◌≡◌, ◌∙◌, refl, sym, ap, ap₂, ℕ, suc, List, [], ◌∷◌, map, length, slice_get, Some, arith}
use Rattle.std.proofs.lemmas.List.{length-map}
use Rattle.std.specs.Prelude.{Result, Ok, Err, IfOk}
use Rattle.p8_tree.specs.Projects.{NamedSource}
use Rattle.p8_image.specs.declared.parts.ObjectPart.{ObjectPart}
use Rattle.p8_image.specs.Headers.{word_at}
use Rattle.p8_image.specs.Layout.{image_of}
use Rattle.p8_image.specs.Loading.{ImageValue}
use Rattle.p8_stmt.specs.declared.code.MethodCode.{MethodCode}
use Rattle.p8_build.specs.declared.accepting.AcceptedFile.{AcceptedFile}
use Rattle.p8_build.specs.declared.building.Accepted.{Accepted}
use Rattle.p8_build.specs.Accepted.{IsAccepted, compiled_file, compiled_files}
use Rattle.p8_kinds.specs.declared.children.Children.{Children}
use Rattle.p8_kinds.specs.FileSettings.{file_setting}
use Rattle.p8_dat.specs.declared.assembling.LineBegin.{LineBegin}
use Rattle.p8_build.specs.Files.{line_begins}
use Rattle.p8_build.specs.Builds.{IsFile, objects_of}
use Rattle.p8_map.specs.declared.names.FileNames.{FileNames}
use Rattle.p8_map.specs.Projects.{names_of}
use Rattle.p8_legend.specs.declared.legend.Legend.{Legend}
use Rattle.p8_legend.specs.declared.table.LineTable.{LineTable}
use Rattle.p8_legend.specs.declared.table.LineRow.{LineRow}
use Rattle.p8_legend.specs.Rows.{codes_of, rows_from, IsLineTable}
use Rattle.p8_legend.specs.ProjectLegends.{names_in, with_rows}
use Rattle.p8_legend.specs.DatLines.{dats_of, with_dats}
use Rattle.p8_legend.specs.Frames.{with_locals}
use Rattle.p8_legend.specs.Projects.{IsLegendOf}

pub if-all : {X E : Type 0} (r : Result X E) (P Q R S T : X → Type 0) → IfOk r P → IfOk r Q → IfOk r R → IfOk r S → ((x : X) → P x → Q x → R x → S x → T x) → IfOk r T
if-all (Ok x) P Q R S T p q r s f = f x p q r s
if-all (Err e) P Q R S T p q r s f = tt

-- the codes of files, as what they are compiled to has them
pub codes-are : (fs : List AcceptedFile) → map (λ (f : AcceptedFile). f.codes) fs ≡ codes_of (map compiled_file fs)
codes-are [] = refl
codes-are (f ∷ fs) = ap (λ (cs : List (List MethodCode)). f.codes ∷ cs) (codes-are fs)

pub table-told : (files : List NamedSource) (a : Accepted) → IsAccepted files a → (table : LineTable) → table.rows ≡ rows_from 0 16 a.built.objects (codes_of (compiled_files a)) → IsLineTable files table
table-told files a is table rows = record {
  children = a.children;
  seen = is.seen;
  compiled = compiled_files a;
  each = is.each;
  rows = rows ∙ ap (λ (os : List ObjectPart). rows_from 0 16 os (codes_of (compiled_files a))) is.finished.objects_are;
}

-- where the lines of DAT begin, as the files have it
abbrev begins_in : List AcceptedFile → List (List LineBegin)
begins_in fs = map (λ (f : AcceptedFile). f.dat.lines) fs

dats-are : (files : List NamedSource) (cs : List Children) (fs : List AcceptedFile) → length cs ≡ length files → length fs ≡ length files
    → ((i : ℕ) (file : NamedSource) (seen : Children) (f : AcceptedFile) → IsFile files cs i file seen → slice_get fs i ≡ Some f → f.dat.lines ≡ line_begins (file_setting f.kinds seen) file.tree)
    → begins_in fs ≡ dats_of files cs (map compiled_file fs)
dats-are [] cs [] beside count each = refl
dats-are [] cs (f ∷ fs) beside count each = absurd (omega (arith, count))
dats-are (file ∷ files) [] fs beside count each = absurd (omega (arith, beside))
dats-are (file ∷ files) (c ∷ cs) [] beside count each = absurd (omega (arith, count))
dats-are (file ∷ files) (c ∷ cs) (f ∷ fs) beside count each =
    ap (λ (ls : List LineBegin). ls ∷ begins_in fs) (each 0 file c f (record { stands = refl; beside = refl }) refl)
    ∙ ap (λ (rest : List (List LineBegin)). line_begins (file_setting f.kinds c) file.tree ∷ rest)
    (dats-are files cs fs (omega (arith, beside)) (omega (arith, count)) (λ i other seen x is. each (suc i) other seen x (record { stands = is.stands; beside = is.beside })))

pub legend-told : (sources : List (List ℕ)) (files : List NamedSource) (a : Accepted) → IsAccepted files a
    → (shown : List FileNames) → shown ≡ names_of sources files a.children (compiled_files a)
    → (rows : List LineRow) → rows ≡ rows_from 0 16 a.built.objects (codes_of (compiled_files a))
    → (image : List ℕ) → image ≡ a.built.image.file → (at : ℕ) → at ≡ word_at image 8 → (objects : List ObjectPart) → objects ≡ a.built.objects → (legend : Legend)
    → (legend.names.ranges, legend.names.texts) ≡ names_in at shown objects → (legend.places.ranges, legend.places.texts) ≡ with_rows ([], []) shown rows
    → (legend.lines.ranges, legend.lines.texts) ≡ with_dats ([], []) 16 shown objects (map (λ (f : AcceptedFile). f.dat.lines) a.files)
    → (legend.locals.ranges, legend.locals.texts) ≡ with_locals ([], []) image shown rows → IsLegendOf sources files legend
legend-told sources files a is shown shown_are rows rows_are image image_is at at_is objects objects_are legend names places lines locals =
    let compiled : List ObjectPart = objects_of files a.children (compiled_files a) in
    let done = is.finished in
    let many : length a.files ≡ length files = sym (length-map a.files compiled_file) ∙ is.each.count in
    let begins : begins_in a.files ≡ dats_of files a.children (compiled_files a) = dats-are files a.children a.files is.seen.one_each many (λ i file seen f there at. (is.tables i file seen f there at).lines) in
    let bytes : image ≡ image_of done.clock compiled = image_is ∙ ap (λ (x : ImageValue). x.file) done.image in
    let all : rows ≡ rows_from 0 16 compiled (codes_of (compiled_files a)) = rows_are ∙ ap (λ (os : List ObjectPart). rows_from 0 16 os (codes_of (compiled_files a))) done.objects_are in
    record {
      children = a.children;
      seen = is.seen;
      compiled = compiled_files a;
      each = is.each;
      clock = done.clock;
      clock_is = done.is;
      fits = done.fits;
      names = names
          ∙ ap (λ (n : ℕ). names_in n shown objects) (at_is ∙ ap (λ (xs : List ℕ). word_at xs 8) bytes)
          ∙ ap (λ (os : List ObjectPart). names_in (word_at (image_of done.clock compiled) 8) shown os) (objects_are ∙ done.objects_are)
          ∙ ap (λ (ns : List FileNames). names_in (word_at (image_of done.clock compiled) 8) ns compiled) shown_are;
      places = places ∙ ap₂ (with_rows ([], [])) shown_are all;
      lines = lines ∙ (λ i. with_dats ([], []) 16 (shown_are i) ((objects_are ∙ done.objects_are) i) (begins i));
      locals = locals ∙ (λ i. with_locals ([], []) (bytes i) (shown_are i) (all i));
    }
