-- The rows of a project's line table are the lines of its image's codes, at their addresses.
use Rattle.std.proofs.Common.{◌≡◌, refl, sym, ap, ap₂, ◌∙◌, subst, arith, ℕ, zero, suc, ◌+◌, ◌<◌, ◌≤◌, ◌==◌, List, [], ◌∷◌, ◌++◌, length, length-append, slice_get, Option, Some, get_or}
use Rattle.std.specs.Prelude.{Contains, map, flat_map, drop}
use Rattle.std.proofs.lemmas.List.{map-append}
use Rattle.p8_tree.specs.declared.places.Place.{Place}
use Rattle.p8_tree.specs.Projects.{NamedSource}
use Rattle.p8_bytecode.specs.declared.op.Op.{Op}
use Rattle.p8_bytecode.specs.Spelling.{spelled}
use Rattle.p8_kinds.specs.declared.children.Children.{Children}
use Rattle.p8_names.specs.Children.{AreChildren}
use Rattle.p8_gen.specs.declared.writer.Line.{Line}
use Rattle.p8_stmt.specs.declared.code.MethodCode.{MethodCode}
use Rattle.p8_image.specs.declared.clocks.Clock.{Clock}
use Rattle.p8_image.specs.declared.parts.ObjectPart.{ObjectPart}
use Rattle.p8_image.specs.Layout.{total, codes_offset, size_of, header_by}
use Rattle.p8_image.specs.Projects.{FitsHub}
use Rattle.p8_build.specs.Files.{CompiledFile}
use Rattle.p8_build.specs.Builds.{AreCompiled, objects_of, IsBuilt}
use Rattle.p8_build.proofs.One.{alike, same_codes, same_labels}
use Rattle.p8_build.proofs.Wholes.{one_objects}
use Rattle.p8_opt.specs.Lines.{line_at, lines_of_codes, lines_from, lines_of}
use Rattle.p8_legend.specs.declared.table.LineRow.{LineRow}
use Rattle.p8_legend.specs.declared.table.LineTable.{LineTable}
use Rattle.p8_image.specs.Listing.{address_after}
use Rattle.p8_legend.specs.Rows.{line_rows, code_rows, rows_from, codes_of, IsLineTable, AreApart}
use Rattle.p8_legend.specs.Lines.{begins_from}
use Rattle.p8_legend.specs.Naming.{NamesStatement}
use Rattle.p8_legend.proofs.LinesApart.{no-lines, AreAllTiled, AreFilled, bytes_in, filled, objects-fit}

abbrev line_in : LineRow → ℕ × Place
line_in row = (row.address, row.place)

-- ---- the rows of a code

module _ (file method at size : ℕ) (room : at + size < 65536) where
  code-lines : (begin : ℕ) (lines : List Line) (ops : List Op) → map (λ (line : Line). line.offset) lines ≡ begins_from begin ops → size ≡ begin + length (flat_map spelled ops)
      → map line_in (line_rows file method at size lines) ≡ map (line_at at) lines
  code-lines begin [] ops begins ends = refl
  code-lines begin (line ∷ lines) [] begins ends = no-lines line.offset _ begins
  code-lines begin (line ∷ lines) (op ∷ ops) begins ends =
      let long : length (flat_map spelled (op ∷ ops)) ≡ length (spelled op) + length (flat_map spelled ops) = length-append (spelled op) (flat_map spelled ops) in
      let here : line.offset ≡ begin = ap (λ ns. get_or ns 0 0) begins in
      let rest : map (λ (line : Line). line.offset) lines ≡ begins_from (begin + length (spelled op)) ops = ap (drop 1) begins in
      let left : size ≡ begin + length (spelled op) + length (flat_map spelled ops) = omega (arith, ends, long) in
      let first : address_after at line.offset ≡ at + line.offset = omega (arith, here, room, ends, long) in
      ap (λ n. (n, line.statement) ∷ map line_in (line_rows file method at size lines)) first
      ∙ ap (λ ls. (at + line.offset, line.statement) ∷ ls) (code-lines (begin + length (spelled op)) lines ops rest left)

-- ---- those of methods

codes-lines : (file method at : ℕ) (codes : List MethodCode) → AreAllTiled codes → at + total bytes_in codes < 65536 → map line_in (code_rows file method at codes) ≡ lines_of_codes at codes
codes-lines file method at [] all room = refl
codes-lines file method at (code ∷ codes) all room =
    let t = all 0 code refl in
    let ends = t.ends in
    let size : length code.bytes ≡ 0 + length (flat_map spelled t.ops) = omega (arith, ends) in
    let own = code-lines file method at (length code.bytes) (omega (arith, room)) 0 code.lines t.ops t.begins size in
    let next : address_after at (length code.bytes) ≡ at + length code.bytes = omega (arith, room) in
    map-append line_in (line_rows file method at (length code.bytes) code.lines) (code_rows file (method + 1) (address_after at (length code.bytes)) codes)
    ∙ ap₂ (λ (xs ys : List (ℕ × Place)). xs ++ ys) own
    (ap (λ n. map line_in (code_rows file (method + 1) n codes)) next ∙ codes-lines file (method + 1) (at + length code.bytes) codes (λ k c there. all (suc k) c there) (omega (arith, room)))

-- ---- those of objects

objects-lines : (file base : ℕ) (objects : List ObjectPart) (xs : List CompiledFile) → AreFilled objects (codes_of xs) → base + total size_of objects < 65536 → map line_in (rows_from file base objects (codes_of xs)) ≡ lines_from base objects xs
objects-lines file base [] xs are room = refl
objects-lines file base (object ∷ objects) [] are room = refl
objects-lines file base (object ∷ objects) (x ∷ xs) are room =
    let same = are.1 in
    let offset : ℕ = codes_offset object in
    let held : offset + total bytes_in x.codes ≤ size_of object = omega (arith, same) in
    let first : address_after base offset ≡ base + offset = omega (arith, held, room) in
    let next : address_after base (size_of object) ≡ base + size_of object = omega (arith, room) in
    map-append line_in (code_rows file 1 (address_after base offset) x.codes) (rows_from (file + 1) (address_after base (size_of object)) objects (codes_of xs))
    ∙ ap₂ (λ (front rest : List (ℕ × Place)). front ++ rest)
    (ap (λ n. map line_in (code_rows file 1 n x.codes)) first ∙ codes-lines file 1 (base + offset) x.codes are.0 (omega (arith, held, room)))
    (ap (λ n. map line_in (rows_from (file + 1) n objects (codes_of xs))) next ∙ objects-lines (file + 1) (base + size_of object) objects xs are.2 (omega (arith, room)))

-- ---- a row for each line

row-of : (rows : List LineRow) (x : ℕ × Place) → Contains (map line_in rows) x → (k : ℕ) × (row : LineRow) × (slice_get rows k ≡ Some row) × (line_in row ≡ x)
row-of [] x (k, lt, is) = absurd (omega (arith, lt))
row-of (row ∷ rows) x (zero, lt, is) = (0, row, refl, is)
row-of (row ∷ rows) x (suc k, lt, is) =
    let m = row-of rows x (k, omega (arith, lt), is) in
    (suc m.0, m.1, m.2, m.3)

names-by : (rows : List LineRow) → AreApart rows → (address : ℕ) (place : Place) (statement : Option Place) → Contains (map line_in rows) (address, place) → statement ≡ Some place → NamesStatement rows address statement
names-by rows apart address place statement has is =
    let m = row-of rows (address, place) has in
    let at : m.1.address ≡ address = ap (λ (x : ℕ × Place). x.0) m.3 in
    let some = apart.some m.0 m.1 m.2 in
    record {
      row = m.1;
      is_at = record { number = m.0; stands = m.2; begins = omega (arith, at); ends = omega (arith, at, some) };
      begins = at;
      names = is ∙ ap (λ (x : ℕ × Place). Some x.1) (sym m.3);
    }

-- ---- a project's codes are the same, however they were found

codes-same : (fs : List NamedSource) (cs : List Children) (xs ys : List CompiledFile) → length cs ≡ length fs → length xs ≡ length fs → length ys ≡ length fs
    → ((i : ℕ) (f : NamedSource) (c : Children) (x y : CompiledFile) → slice_get fs i ≡ Some f → slice_get cs i ≡ Some c → slice_get xs i ≡ Some x → slice_get ys i ≡ Some y → x.codes ≡ y.codes) → codes_of xs ≡ codes_of ys
codes-same [] cs [] [] a b d each = refl
codes-same [] cs (x ∷ xs) ys a b d each = absurd (omega (arith, b))
codes-same [] cs [] (y ∷ ys) a b d each = absurd (omega (arith, d))
codes-same (f ∷ fs) [] xs ys a b d each = absurd (omega (arith, a))
codes-same (f ∷ fs) (c ∷ cs) [] ys a b d each = absurd (omega (arith, b))
codes-same (f ∷ fs) (c ∷ cs) (x ∷ xs) [] a b d each = absurd (omega (arith, d))
codes-same (f ∷ fs) (c ∷ cs) (x ∷ xs) (y ∷ ys) a b d each =
    ap₂ (λ (c : List MethodCode) (others : List (List MethodCode)). c ∷ others) (each 0 f c x y refl refl refl refl)
    (codes-same fs cs xs ys (omega (arith, a)) (omega (arith, b)) (omega (arith, d)) (λ i g e z w at_g at_e at_z at_w. each (suc i) g e z w at_g at_e at_z at_w))

one-codes : (files : List NamedSource) (children : List Children) (xs ys : List CompiledFile) → length children ≡ length files → AreCompiled files children xs → AreCompiled files children ys → codes_of xs ≡ codes_of ys
one-codes files children xs ys beside a b =
    codes-same files children xs ys beside a.count b.count (λ i f c x y at_f at_c at_x at_y.
    let p = a.each i f c x (record { stands = at_f; beside = at_c }) at_x in
    let q = b.each i f c y (record { stands = at_f; beside = at_c }) at_y in
    let same = alike f.tree c (i == 0) x.kinds y.kinds p.names q.names in
    same_codes f.tree c x y same (same_labels f.tree c x y same p.dat q.dat) p.code q.code)

-- and so are its rows
pub one-rows : (files : List NamedSource) (children : List Children) (xs ys : List CompiledFile) → length children ≡ length files → AreCompiled files children xs → AreCompiled files children ys
    → rows_from 0 16 (objects_of files children xs) (codes_of xs) ≡ rows_from 0 16 (objects_of files children ys) (codes_of ys)
one-rows files children xs ys beside a b = ap₂ (rows_from 0 16) (one_objects files children xs ys beside a b) (one-codes files children xs ys beside a b)

-- ---- a project

-- the table has the lines of the image's codes
pub table-lines : (files : List NamedSource) → ((a b : List Children) → AreChildren files a → AreChildren files b → a ≡ b) → (clock : Clock) (objects : List ObjectPart) (table : LineTable) → (built : IsBuilt files clock objects) → IsLineTable files table
    → map line_in table.rows ≡ lines_of (objects_of files built.children built.compiled) built.compiled
table-lines files view clock objects table built is =
    let same : is.children ≡ built.children = view is.children built.children is.seen built.seen in
    let each : AreCompiled files built.children is.compiled = subst (λ (cs : List Children). AreCompiled files cs is.compiled) same is.each in
    let beside = built.seen.one_each in
    let all : List ObjectPart = objects_of files built.children built.compiled in
    let objects_same : objects_of files is.children is.compiled ≡ all =
    ap (λ (cs : List Children). objects_of files cs is.compiled) same ∙ one_objects files built.children is.compiled built.compiled beside each built.each in
    let fits : 16 + total size_of all ≤ 32768 = objects-fit all (subst (λ (os : List ObjectPart). FitsHub (header_by os)) built.objects_are built.fits) in
    let are : AreFilled all (codes_of built.compiled) =
    filled files files built.children built.compiled (λ i f c x at_f at_c at_x. record { top = i == 0; is = built.each.each i f c x (record { stands = at_f; beside = at_c }) at_x }) beside built.each.count in
    ap (map line_in) (is.rows ∙ ap₂ (rows_from 0 16) objects_same (one-codes files built.children is.compiled built.compiled beside each built.each))
    ∙ objects-lines 0 16 all built.compiled are (omega (arith, fits))

pub row-names : (files : List NamedSource) → ((a b : List Children) → AreChildren files a → AreChildren files b → a ≡ b) → (clock : Clock) (objects : List ObjectPart) (table : LineTable) → (built : IsBuilt files clock objects) → IsLineTable files table
    → AreApart table.rows → (address : ℕ) (place : Place) (statement : Option Place) → Contains (lines_of (objects_of files built.children built.compiled) built.compiled) (address, place) → statement ≡ Some place → NamesStatement table.rows address statement
row-names files view clock objects table built is apart address place statement has names =
    names-by table.rows apart address place statement (subst (λ (xs : List (ℕ × Place)). Contains xs (address, place)) (sym (table-lines files view clock objects table built is)) has) names
