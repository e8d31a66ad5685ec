-- Each row of a table is of a statement of the method that it names.
use Rattle.std.proofs.Common.{◌≡◌, refl, sym, ap, ◌∙◌, subst, arith, ℕ, suc, ◌+◌, List, [], ◌∷◌, ◌++◌, length, slice_get, Some}
use Rattle.std.specs.Prelude.{All, Contains, map, option_map}
use Rattle.std.proofs.lemmas.List.{length-map}
use Rattle.std.proofs.lemmas.List.Elements.{All-append, All-cons, All-head, All-nil, All-tail}
use Rattle.std.proofs.lemmas.Option.{same_Some, slice_get_within, slice_get-map}
use Rattle.p8_tree.specs.declared.places.Place.{Place}
use Rattle.p8_tree.specs.Projects.{NamedSource}
use Rattle.p8_tree.specs.Sources.{MethodTree}
use Rattle.p8_constants.specs.FileItems.{items}
use Rattle.p8_names.specs.Kinds.{numbered}
use Rattle.p8_gen.specs.declared.writer.Line.{Line}
use Rattle.p8_gen.specs.Names.{Names}
use Rattle.p8_gen.specs.Uses.{line_of}
use Rattle.p8_stmt.specs.declared.code.MethodCode.{MethodCode}
use Rattle.p8_stmt.specs.Methods.{IsCodeOf}
use Rattle.p8_image.specs.declared.parts.ObjectPart.{ObjectPart}
use Rattle.p8_image.specs.Layout.{codes_offset, size_of}
use Rattle.p8_build.specs.Builds.{objects_of}
use Rattle.p8_build.specs.Files.{CompiledFile, method_names}
use Rattle.p8_build.proofs.Lists.{element}
use Rattle.p8_legend.specs.declared.table.LineTable.{LineTable}
use Rattle.p8_legend.specs.declared.table.LineRow.{LineRow}
use Rattle.p8_image.specs.Listing.{address_after}
use Rattle.p8_legend.specs.Rows.{end_of, line_row, line_rows, code_rows, rows_from, codes_of, IsLineTable}
use Rattle.p8_legend.specs.Lines.{places_of_body}
use Rattle.p8_legend.specs.Origins.{IsPlaceIn, IsRowOf}
use Rattle.p8_legend.proofs.Lined.{method-lines}

-- what is so of all lines, by their statements
abbrev AllMade : (Place → Type 0) → List Line → Type 0
AllMade P lines = All (λ (line : Line). P line.statement) lines

-- a property of rows, by the numbers of file and method, and the place
module _ (Q : (file method : ℕ) → Place → Type 0) where
  abbrev Fits : LineRow → Type 0
  Fits row = Q row.file row.method row.place

  lines-fit : (file method at size : ℕ) (lines : List Line) → AllMade (Q file method) lines → All Fits (line_rows file method at size lines)
  lines-fit file method at size [] all = All-nil Fits
  lines-fit file method at size (line ∷ lines) all =
      All-cons Fits (line_row file method at (end_of size lines) line) (line_rows file method at size lines)
      (All-head (λ (l : Line). Q file method l.statement) line lines all) (lines-fit file method at size lines (All-tail (λ (l : Line). Q file method l.statement) line lines all))

  codes-fit : (file method at : ℕ) (codes : List MethodCode) → ((k : ℕ) (code : MethodCode) → slice_get codes k ≡ Some code → AllMade (Q file (method + k)) code.lines) → All Fits (code_rows file method at codes)
  codes-fit file method at [] each = All-nil Fits
  codes-fit file method at (code ∷ codes) each =
      let here : method + 0 ≡ method = omega arith in
      All-append Fits (line_rows file method at (length code.bytes) code.lines) (code_rows file (method + 1) (address_after at (length code.bytes)) codes)
      (lines-fit file method at (length code.bytes) code.lines (subst (λ m. AllMade (Q file m) code.lines) here (each 0 code refl)))
      (codes-fit file (method + 1) (address_after at (length code.bytes)) codes (λ k c there. subst (λ m. AllMade (Q file m) c.lines) (next method k) (each (suc k) c there)))
    where
      next : (m k : ℕ) → m + suc k ≡ m + 1 + k
      next m k = omega arith

  objects-fit : (file base : ℕ) (objects : List ObjectPart) (others : List (List MethodCode))
      → ((i : ℕ) (codes : List MethodCode) → slice_get others i ≡ Some codes → (k : ℕ) (code : MethodCode) → slice_get codes k ≡ Some code → AllMade (Q (file + i) (1 + k)) code.lines) → All Fits (rows_from file base objects others)
  objects-fit file base [] others each = All-nil Fits
  objects-fit file base (object ∷ objects) [] each = All-nil Fits
  objects-fit file base (object ∷ objects) (codes ∷ others) each =
      let here : file + 0 ≡ file = omega arith in
      All-append Fits (code_rows file 1 (address_after base (codes_offset object)) codes) (rows_from (file + 1) (address_after base (size_of object)) objects others)
      (codes-fit file 1 (address_after base (codes_offset object)) codes (λ k c there. subst (λ f. AllMade (Q f (1 + k)) c.lines) here (each 0 codes refl k c there)))
      (objects-fit (file + 1) (address_after base (size_of object)) objects others (λ i cs at k c there. subst (λ f. AllMade (Q f (1 + k)) c.lines) (next file i) (each (suc i) cs at k c there)))
    where
      next : (f i : ℕ) → f + suc i ≡ f + 1 + i
      next f i = omega arith

-- ---- the lines of a method

made-of : (P : Place → Type 0) (lines : List Line) → All (λ (line : ℕ × Place). P line.1) (map line_of lines) → AllMade P lines
made-of P [] all = All-nil (λ (l : Line). P l.statement)
made-of P (line ∷ lines) all =
    All-cons (λ (l : Line). P l.statement) line lines (All-head (λ (l : ℕ × Place). P l.1) (line_of line) (map line_of lines) all)
    (made-of P lines (All-tail (λ (l : ℕ × Place). P l.1) (line_of line) (map line_of lines) all))

code-made : (names : Names) (m : MethodTree) (code : MethodCode) → IsCodeOf names m code → AllMade (Contains (places_of_body m.body ++ names.statement ∷ [])) code.lines
code-made names m code is =
    let P : Place → Type 0 = Contains (places_of_body m.body ++ names.statement ∷ []) in
    let adds = method-lines names m.body in
    let all : All (λ (line : ℕ × Place). P line.1) adds.lines = λ k d lt. (adds.each k d lt).made in
    made-of P code.lines (subst (All (λ (line : ℕ × Place). P line.1)) (sym (is.lines ∙ adds.behind)) all)

-- ---- the rows of a project

pub rows-of : (files : List NamedSource) (table : LineTable) → IsLineTable files table → All (IsRowOf files) table.rows
rows-of files table is =
    subst (All (IsRowOf files)) (sym is.rows) (objects-fit (IsPlaceIn files) 0 16 (objects_of files is.children is.compiled) (codes_of is.compiled) each)
  where
    each : (i : ℕ) (codes : List MethodCode) → slice_get (codes_of is.compiled) i ≡ Some codes → (k : ℕ) (code : MethodCode) → slice_get codes k ≡ Some code → AllMade (IsPlaceIn files (0 + i) (1 + k)) code.lines
    each i codes at k code there =
        let number : i ≡ 0 + i = omega arith in
        let inside = slice_get_within (codes_of is.compiled) i codes at in
        let long = length-map is.compiled (λ (x : CompiledFile). x.codes) in
        let counted = is.each.count in
        let beside = is.seen.one_each in
        let x = element is.compiled i (omega (arith, inside, long)) in
        let f = element files i (omega (arith, inside, long, counted)) in
        let c = element is.children i (omega (arith, inside, long, counted, beside)) in
        let comp = is.each.each i f.0 c.0 x.0 (record { stands = f.1; beside = c.1 }) x.1 in
        let own : x.0.codes ≡ codes = same_Some x.0.codes codes (sym (slice_get-map (λ (y : CompiledFile). y.codes) is.compiled i ∙ ap (option_map (λ (y : CompiledFile). y.codes)) x.1) ∙ at) in
        let here : slice_get x.0.codes k ≡ Some code = ap (λ cs. slice_get cs k) own ∙ there in
        let within = slice_get_within x.0.codes k code here in
        let count = comp.code.count in
        let m = element (numbered (items f.0.tree)) k (omega (arith, within, count)) in
        let made = code-made (method_names c.0 x.0 k m.0) m.0 code (comp.code.each k m.0 code m.1 here) in
        λ j d lt. record {
          file = f.0;
          is_file = ap (slice_get files) (sym number) ∙ f.1;
          method = m.0;
          number = k;
          counted = omega arith;
          is_method = m.1;
          stands = made j d lt;
        }
