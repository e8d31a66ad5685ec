-- Each byte of each method's code has a row.
use Rattle.std.proofs.Common.{◌≡◌, refl, sym, ap, ap₂, ◌∙◌, subst, arith, inl, inr, ℕ, zero, suc, ◌+◌, ◌<◌, ◌≤◌, ◌==◌, List, [], ◌∷◌, ◌++◌, length, length-append, slice_get, get_or, slice_index, Some}
use Rattle.std.specs.Prelude.{map, flat_map, drop, take}
use Rattle.std.proofs.lemmas.Bool.{cases_lt}
use Rattle.std.proofs.lemmas.Option.{none-some, same_Some}
use Rattle.p8_tree.specs.Projects.{NamedSource}
use Rattle.p8_tree.specs.Sources.{MethodTree}
use Rattle.p8_bytecode.specs.declared.op.Op.{Op}
use Rattle.p8_bytecode.specs.Spelling.{spelled}
use Rattle.p8_kinds.specs.declared.children.Children.{Children}
use Rattle.p8_constants.specs.FileItems.{items}
use Rattle.p8_names.specs.Kinds.{numbered}
use Rattle.p8_names.specs.Children.{AreChildren}
use Rattle.p8_gen.specs.declared.writer.Line.{Line}
use Rattle.p8_stmt.specs.declared.code.MethodCode.{MethodCode}
use Rattle.p8_image.specs.declared.clocks.Clock.{Clock}
use Rattle.p8_image.specs.declared.parts.MethodPart.{MethodPart}
use Rattle.p8_image.specs.declared.parts.ObjectPart.{ObjectPart}
use Rattle.p8_image.specs.Layout.{total, code_size, codes_offset, code_offset, size_of, places_from, bases_of, header_by}
use Rattle.p8_image.specs.Projects.{FitsHub}
use Rattle.p8_build.specs.Strings.{Texts}
use Rattle.p8_build.specs.Parts.{method_parts, strings_of}
use Rattle.p8_build.specs.Files.{CompiledFile}
use Rattle.p8_build.specs.Builds.{AreCompiled, objects_from, objects_of, IsBuilt}
use Rattle.p8_build.proofs.Wholes.{one_objects}
use Rattle.p8_legend.specs.declared.table.LineRow.{LineRow}
use Rattle.p8_legend.specs.declared.table.LineTable.{LineTable}
use Rattle.p8_image.specs.Listing.{address_after}
use Rattle.p8_legend.specs.Rows.{end_of, line_row, line_rows, code_rows, rows_from, codes_of, IsLineTable}
use Rattle.p8_legend.specs.Covering.{HasRow}
use Rattle.p8_legend.specs.Lines.{begins_from}
use Rattle.p8_legend.proofs.LinesApart.{next-is, no-lines, bytes_in, AreAllTiled, AreFilled, filled, objects-fit}

-- ---- rows among more

front-get : (xs ys : List LineRow) (n : ℕ) (row : LineRow) → slice_get xs n ≡ Some row → slice_get (xs ++ ys) n ≡ Some row
front-get [] ys n row is = absurd (none-some row is)
front-get (x ∷ xs) ys zero row is = is
front-get (x ∷ xs) ys (suc n) row is = front-get xs ys n row is

back-get : (xs ys : List LineRow) (n : ℕ) (row : LineRow) → slice_get ys n ≡ Some row → (m : ℕ) × (slice_get (xs ++ ys) m ≡ Some row)
back-get [] ys n row is = (n, is)
back-get (x ∷ xs) ys n row is = let found = back-get xs ys n row is in (suc found.0, found.1)

in-front : (xs ys : List LineRow) (address file method : ℕ) → HasRow xs address file method → HasRow (xs ++ ys) address file method
in-front xs ys address file method h = record {
  row = h.row;
  is_at = record { number = h.is_at.number; stands = front-get xs ys h.is_at.number h.row h.is_at.stands; begins = h.is_at.begins; ends = h.is_at.ends };
  file_is = h.file_is;
  method_is = h.method_is;
}

behind : (xs ys : List LineRow) (address file method : ℕ) → HasRow ys address file method → HasRow (xs ++ ys) address file method
behind xs ys address file method h =
    let found = back-get xs ys h.is_at.number h.row h.is_at.stands in
    record {
      row = h.row;
      is_at = record { number = found.0; stands = found.1; begins = h.is_at.begins; ends = h.is_at.ends };
      file_is = h.file_is;
      method_is = h.method_is;
    }

-- ---- the bytes of a code

module _ (file method at size : ℕ) (room : at + size < 65536) where
  cover-lines : (begin : ℕ) (lines : List Line) (ops : List Op) → map (λ (line : Line). line.offset) lines ≡ begins_from begin ops → size ≡ begin + length (flat_map spelled ops)
      → (o : ℕ) → begin ≤ o → o < size → HasRow (line_rows file method at size lines) (at + o) file method
  cover-lines begin [] [] begins ends o least most = absurd (omega (arith, ends, least, most))
  cover-lines begin [] (op ∷ ops) begins ends o least most = no-lines begin _ (sym begins)
  cover-lines begin (line ∷ lines) [] begins ends o least most = no-lines line.offset _ begins
  cover-lines begin (line ∷ lines) (op ∷ ops) begins ends o least most =
      let long : length (flat_map spelled (op ∷ ops)) ≡ length (spelled op) + length (flat_map spelled ops) = length-append (spelled op) (flat_map spelled ops) in
      let here : line.offset ≡ begin = ap (λ ns. get_or ns 0 0) begins in
      let rest : map (λ (line : Line). line.offset) lines ≡ begins_from (begin + length (spelled op)) ops = ap (drop 1) begins in
      let left : size ≡ begin + length (spelled op) + length (flat_map spelled ops) = omega (arith, ends, long) in
      let next : end_of size lines ≡ begin + length (spelled op) = next-is size (begin + length (spelled op)) lines ops rest left in
      let first : address_after at line.offset ≡ at + begin = omega (arith, here, room, ends, long) in
      let last : address_after at (end_of size lines) ≡ at + (begin + length (spelled op)) = omega (arith, next, room, left) in
      elim (cases_lt o (begin + length (spelled op))) [
        | inl within ↦ record {
          row = line_row file method at (end_of size lines) line;
          is_at = record { number = 0; stands = refl; begins = omega (arith, first, least); ends = omega (arith, last, within) };
          file_is = refl;
          method_is = refl;
        }
        | inr beyond ↦
            behind (line_row file method at (end_of size lines) line ∷ []) (line_rows file method at size lines) (at + o) file method
            (cover-lines (begin + length (spelled op)) lines ops rest left o beyond most)
      ]

cover-codes : (file method at : ℕ) (codes : List MethodCode) → AreAllTiled codes → at + total bytes_in codes < 65536
    → (k : ℕ) (code : MethodCode) → slice_get codes k ≡ Some code → (o : ℕ) → o < length code.bytes → HasRow (code_rows file method at codes) (at + total bytes_in (take k codes) + o) file (method + k)
cover-codes file method at [] all room k code there o less = absurd (none-some code there)
cover-codes file method at (c ∷ codes) all room zero code there o less =
    let t = all 0 c refl in
    let ends = t.ends in
    let size : length c.bytes ≡ 0 + length (flat_map spelled t.ops) = omega (arith, ends) in
    let same : length c.bytes ≡ length code.bytes = ap (λ (x : MethodCode). length x.bytes) (same_Some c code there) in
    let own = cover-lines file method at (length c.bytes) (omega (arith, room)) 0 c.lines t.ops t.begins size o (omega arith) (omega (arith, less, same)) in
    let place : at + o ≡ at + 0 + o = omega arith in
    let number : method ≡ method + 0 = omega arith in
    in-front (line_rows file method at (length c.bytes) c.lines) (code_rows file (method + 1) (address_after at (length c.bytes)) codes) (at + 0 + o) file (method + 0)
    (subst (λ a. HasRow (line_rows file method at (length c.bytes) c.lines) a file (method + 0)) place (subst (HasRow (line_rows file method at (length c.bytes) c.lines) (at + o) file) number own))
cover-codes file method at (c ∷ codes) all room (suc k) code there o less =
    let next : address_after at (length c.bytes) ≡ at + length c.bytes = omega (arith, room) in
    let others = cover-codes file (method + 1) (at + length c.bytes) codes (λ j x is. all (suc j) x is) (omega (arith, room)) k code there o less in
    let place : at + length c.bytes + total bytes_in (take k codes) + o ≡ at + (length c.bytes + total bytes_in (take k codes)) + o = omega arith in
    let number : method + 1 + k ≡ method + suc k = omega arith in
    let rest : List LineRow = code_rows file (method + 1) (address_after at (length c.bytes)) codes in
    behind (line_rows file method at (length c.bytes) c.lines) rest (at + (length c.bytes + total bytes_in (take k codes)) + o) file (method + suc k)
    (subst (λ a. HasRow rest a file (method + suc k)) place
    (subst (HasRow rest (at + length c.bytes + total bytes_in (take k codes) + o) file) number
    (subst (λ n. HasRow (code_rows file (method + 1) n codes) (at + length c.bytes + total bytes_in (take k codes) + o) file (method + 1 + k)) (sym next) others)))

cover-objects : (file base : ℕ) (objects : List ObjectPart) (others : List (List MethodCode)) → AreFilled objects others → base + total size_of objects < 65536
    → (i : ℕ) (object : ObjectPart) (codes : List MethodCode) → slice_get objects i ≡ Some object → slice_get others i ≡ Some codes → (k : ℕ) (code : MethodCode) → slice_get codes k ≡ Some code → (o : ℕ) → o < length code.bytes
    → HasRow (rows_from file base objects others) (slice_index (places_from size_of base objects) i + (codes_offset object + total bytes_in (take k codes)) + o) (file + i) (1 + k)
cover-objects file base [] others are room i object codes at_o at_c k code there o less = absurd (none-some object at_o)
cover-objects file base (x ∷ objects) [] are room i object codes at_o at_c k code there o less = absurd (none-some codes at_c)
cover-objects file base (x ∷ objects) (cs ∷ others) are room zero object codes at_o at_c k code there o less =
    let same = are.1 in
    let held : codes_offset x + total bytes_in cs ≤ size_of x = omega (arith, same) in
    let first : address_after base (codes_offset x) ≡ base + codes_offset x = omega (arith, held, room) in
    let here : slice_get cs k ≡ Some code = ap (λ ys. slice_get ys k) (same_Some cs codes at_c) ∙ there in
    let own = cover-codes file 1 (base + codes_offset x) cs are.0 (omega (arith, held, room)) k code here o less in
    let place : base + codes_offset x + total bytes_in (take k cs) + o ≡ base + (codes_offset x + total bytes_in (take k cs)) + o = omega arith in
    let number : file ≡ file + 0 = omega arith in
    let rows : List LineRow = code_rows file 1 (address_after base (codes_offset x)) cs in
    subst (λ (y : ObjectPart). HasRow (rows_from file base (x ∷ objects) (cs ∷ others)) (base + (codes_offset y + total bytes_in (take k codes)) + o) (file + 0) (1 + k)) (same_Some x object at_o)
    (subst (λ (ys : List MethodCode). HasRow (rows_from file base (x ∷ objects) (cs ∷ others)) (base + (codes_offset x + total bytes_in (take k ys)) + o) (file + 0) (1 + k)) (same_Some cs codes at_c)
    (in-front rows (rows_from (file + 1) (address_after base (size_of x)) objects others) (base + (codes_offset x + total bytes_in (take k cs)) + o) (file + 0) (1 + k)
    (subst (λ a. HasRow rows a (file + 0) (1 + k)) place
    (subst (λ f. HasRow rows (base + codes_offset x + total bytes_in (take k cs) + o) f (1 + k)) number
    (subst (λ n. HasRow (code_rows file 1 n cs) (base + codes_offset x + total bytes_in (take k cs) + o) file (1 + k)) (sym first) own)))))
cover-objects file base (x ∷ objects) (cs ∷ others) are room (suc i) object codes at_o at_c k code there o less =
    let next : address_after base (size_of x) ≡ base + size_of x = omega (arith, room) in
    let rest = cover-objects (file + 1) (base + size_of x) objects others are.2 (omega (arith, room)) i object codes at_o at_c k code there o less in
    let address : ℕ = slice_index (places_from size_of (base + size_of x) objects) i + (codes_offset object + total bytes_in (take k codes)) + o in
    let number : file + 1 + i ≡ file + suc i = omega arith in
    behind (code_rows file 1 (address_after base (codes_offset x)) cs) (rows_from (file + 1) (address_after base (size_of x)) objects others) address (file + suc i) (1 + k)
    (subst (λ f. HasRow (rows_from (file + 1) (address_after base (size_of x)) objects others) address f (1 + k)) number
    (subst (λ n. HasRow (rows_from (file + 1) n objects others) address (file + 1 + i) (1 + k)) (sym next) rest))

-- ---- an object's methods have the bytes of their codes

record AreOfCodes (object : ObjectPart) (codes : List MethodCode) : Type 0 where
  bytes : map (λ (m : MethodPart). m.code) object.methods ≡ map (λ (c : MethodCode). c.bytes) codes

parts-bytes : (strings : Texts) (ms : List MethodTree) (codes : List MethodCode) → length codes ≡ length ms → map (λ (m : MethodPart). m.code) (method_parts strings ms codes) ≡ map (λ (c : MethodCode). c.bytes) codes
parts-bytes strings [] [] is = refl
parts-bytes strings (m ∷ ms) [] is = refl
parts-bytes strings [] (code ∷ codes) is = absurd (omega (arith, is))
parts-bytes strings (m ∷ ms) (code ∷ codes) is = ap (λ bs. code.bytes ∷ bs) (parts-bytes strings ms codes (omega (arith, is)))

no-bytes : (bs : List ℕ) (rest : List (List ℕ)) {Goal : Type 0} → bs ∷ rest ≡ [] → Goal
no-bytes bs rest is = let none = ap length is in absurd (omega (arith, none))

same-totals : (ms : List MethodPart) (codes : List MethodCode) → map (λ (m : MethodPart). m.code) ms ≡ map (λ (c : MethodCode). c.bytes) codes → (k : ℕ) → total code_size (take k ms) ≡ total bytes_in (take k codes)
same-totals ms codes is zero = refl
same-totals [] [] is (suc k) = refl
same-totals (m ∷ ms) [] is (suc k) = no-bytes m.code _ is
same-totals [] (c ∷ codes) is (suc k) = no-bytes c.bytes _ (sym is)
same-totals (m ∷ ms) (c ∷ codes) is (suc k) = ap₂ (λ a b. a + b) (ap (λ bs. length (get_or bs 0 [])) is) (same-totals ms codes (ap (drop 1) is) k)

code-there : (ms : List MethodPart) (codes : List MethodCode) → map (λ (m : MethodPart). m.code) ms ≡ map (λ (c : MethodCode). c.bytes) codes → (k : ℕ) (m : MethodPart) → slice_get ms k ≡ Some m → (c : MethodCode) × (slice_get codes k ≡ Some c) × (m.code ≡ c.bytes)
code-there [] codes is k m at = absurd (none-some m at)
code-there (x ∷ ms) [] is k m at = no-bytes x.code _ is
code-there (x ∷ ms) (c ∷ codes) is zero m at = (c, refl, ap (λ (y : MethodPart). y.code) (sym (same_Some x m at)) ∙ ap (λ bs. get_or bs 0 []) is)
code-there (x ∷ ms) (c ∷ codes) is (suc k) m at = code-there ms codes (ap (drop 1) is) k m at

of-codes : (all files : List NamedSource) (children : List Children) (xs : List CompiledFile)
    → ((i : ℕ) (file : NamedSource) (seen : Children) (x : CompiledFile) → slice_get files i ≡ Some file → slice_get children i ≡ Some seen → slice_get xs i ≡ Some x → length x.codes ≡ length (numbered (items file.tree)))
    → (i : ℕ) (object : ObjectPart) → slice_get (objects_from all files children xs) i ≡ Some object → (codes : List MethodCode) × (slice_get (codes_of xs) i ≡ Some codes) × AreOfCodes object codes
of-codes all [] children xs each i object at = absurd (none-some object at)
of-codes all (file ∷ files) [] xs each i object at = absurd (none-some object at)
of-codes all (file ∷ files) (seen ∷ children) [] each i object at = absurd (none-some object at)
of-codes all (file ∷ files) (seen ∷ children) (x ∷ xs) each zero object at =
    (x.codes, refl, subst (λ (o : ObjectPart). AreOfCodes o x.codes) (same_Some _ object at) (record { bytes = parts-bytes (strings_of file.tree) (numbered (items file.tree)) x.codes (each 0 file seen x refl refl refl) }))
of-codes all (file ∷ files) (seen ∷ children) (x ∷ xs) each (suc i) object at = of-codes all files children xs (λ j f c y at_f at_c at_y. each (suc j) f c y at_f at_c at_y) i object at

-- ---- a project

pub table-covers : (files : List NamedSource) → ((a b : List Children) → AreChildren files a → AreChildren files b → a ≡ b) → (clock : Clock) (objects : List ObjectPart) (table : LineTable) → IsBuilt files clock objects → IsLineTable files table
    → (i : ℕ) (object : ObjectPart) → slice_get objects i ≡ Some object → (k : ℕ) (method : MethodPart) → slice_get object.methods k ≡ Some method → (o : ℕ) → o < length method.code
    → HasRow table.rows (slice_index (bases_of objects) i + code_offset object k + o) i (k + 1)
table-covers files view clock objects table built is i object at k method at_m o less =
    let same : built.children ≡ is.children = view built.children is.children built.seen is.seen in
    let each : AreCompiled files is.children built.compiled = subst (λ (cs : List Children). AreCompiled files cs built.compiled) same built.each in
    let beside = is.seen.one_each in
    let all : List ObjectPart = objects_of files is.children is.compiled in
    let objects-same : objects ≡ all =
    built.objects_are ∙ ap (λ (cs : List Children). objects_of files cs built.compiled) same ∙ one_objects files is.children built.compiled is.compiled beside each is.each in
    let fits : 16 + total size_of all ≤ 32768 = objects-fit all (subst (λ (os : List ObjectPart). FitsHub (header_by os)) objects-same built.fits) in
    let are : AreFilled all (codes_of is.compiled) =
    filled files files is.children is.compiled (λ j f c x at_f at_c at_x. record { top = j == 0; is = is.each.each j f c x (record { stands = at_f; beside = at_c }) at_x }) beside is.each.count in
    let here : slice_get all i ≡ Some object = ap (λ os. slice_get os i) (sym objects-same) ∙ at in
    let found = of-codes files files is.children is.compiled (λ j f c x at_f at_c at_x. (is.each.each j f c x (record { stands = at_f; beside = at_c }) at_x).code.count) i object here in
    let code = code-there object.methods found.0 found.2.bytes k method at_m in
    let long : length method.code ≡ length code.0.bytes = ap length code.2 in
    let row = cover-objects 0 16 all (codes_of is.compiled) are (omega (arith, fits)) i object found.0 here found.1 k code.0 code.1 o (omega (arith, less, long)) in
    let file : 0 + i ≡ i = omega arith in
    let number : 1 + k ≡ k + 1 = omega arith in
    let bytes : total bytes_in (take k found.0) ≡ total code_size (take k object.methods) = sym (same-totals object.methods found.0 found.2.bytes k) in
    subst (λ (rows : List LineRow). HasRow rows (slice_index (bases_of objects) i + code_offset object k + o) i (k + 1)) (sym is.rows)
    (subst (λ (os : List ObjectPart). HasRow (rows_from 0 16 all (codes_of is.compiled)) (slice_index (bases_of os) i + code_offset object k + o) i (k + 1)) (sym objects-same)
    (subst (λ n. HasRow (rows_from 0 16 all (codes_of is.compiled)) (slice_index (bases_of all) i + (codes_offset object + n) + o) i (k + 1)) bytes
    (subst (HasRow (rows_from 0 16 all (codes_of is.compiled)) (slice_index (bases_of all) i + (codes_offset object + total bytes_in (take k found.0)) + o) i) number
    (subst (λ f. HasRow (rows_from 0 16 all (codes_of is.compiled)) (slice_index (bases_of all) i + (codes_offset object + total bytes_in (take k found.0)) + o) f (1 + k)) file row))))
