-- The rows of a table stand one after the other.
use Rattle.std.proofs.Common.{◌≡◌, refl, sym, ap, ◌∙◌, subst, arith, ℕ, zero, suc, ◌+◌, ◌<◌, ◌≤◌, ◌==◌, Bool, List, [], ◌∷◌, ◌++◌, length, length-append, slice_get, Some, get_or}
use Rattle.std.specs.Prelude.{map, flat_map, drop}
use Rattle.std.proofs.lemmas.Option.{none-some, same_Some, slice_get_within}
use Rattle.p8_tree.specs.Projects.{NamedSource}
use Rattle.p8_tree.specs.Sources.{MethodTree, Source}
use Rattle.p8_bytecode.specs.declared.op.Op.{Op}
use Rattle.p8_bytecode.specs.Spelling.{spelled}
use Rattle.p8_kinds.specs.declared.children.Children.{Children}
use Rattle.p8_constants.specs.FileItems.{items}
use Rattle.p8_names.specs.Kinds.{numbered}
use Rattle.p8_names.specs.Children.{AreChildren}
use Rattle.p8_gen.specs.declared.writer.Line.{Line}
use Rattle.p8_gen.specs.Methods.{method_code}
use Rattle.p8_gen.specs.Names.{Names}
use Rattle.p8_gen.specs.Uses.{line_of}
use Rattle.p8_stmt.specs.declared.code.MethodCode.{MethodCode}
use Rattle.p8_stmt.specs.Methods.{IsCodeOf}
use Rattle.p8_image.specs.declared.clocks.Clock.{Clock}
use Rattle.p8_image.specs.declared.parts.ObjectPart.{ObjectPart}
use Rattle.p8_image.specs.Layout.{total, code_size, codes_offset, size_of, header_by}
use Rattle.p8_image.specs.Projects.{FitsHub}
use Rattle.p8_build.specs.Strings.{Texts}
use Rattle.p8_build.specs.Parts.{method_parts, strings_of}
use Rattle.p8_build.specs.Files.{CompiledFile, IsCompiled, method_names}
use Rattle.p8_build.specs.Builds.{AreCompiled, objects_from, objects_of, IsBuilt}
use Rattle.p8_build.proofs.Lists.{element}
use Rattle.p8_build.proofs.Wholes.{one_objects}
use Rattle.p8_legend.specs.declared.table.LineRow.{LineRow}
use Rattle.p8_legend.specs.declared.table.LineTable.{LineTable}
use Rattle.p8_image.specs.Listing.{address_after}
use Rattle.p8_legend.specs.Rows.{end_of, line_rows, code_rows, rows_from, codes_of, IsLineTable, AreApart}
use Rattle.p8_legend.specs.Lines.{begin_of, begins_from}
use Rattle.p8_legend.proofs.Lined.{lines-begin}

-- rows that stand one after the other, from an address up to another one
abbrev pub Follow : (low high : ℕ) → List LineRow → Type 0
Follow low high [] = low ≤ high
Follow low high (row ∷ rows) = (low ≤ row.address) × (row.address < row.end) × Follow row.end high rows

lower : (low start high : ℕ) (rows : List LineRow) → start ≤ low → Follow low high rows → Follow start high rows
lower low start high [] less is = omega (arith, less, is)
lower low start high (row ∷ rows) less is = let begins = is.0 in (omega (arith, less, begins), is.1, is.2)

joined : (low mid high : ℕ) (xs ys : List LineRow) → Follow low mid xs → Follow mid high ys → Follow low high (xs ++ ys)
joined low mid high [] ys x y = lower mid low high ys x y
joined low mid high (row ∷ xs) ys x y = (x.0, x.1, joined row.end mid high xs ys x.2 y)

-- ---- such rows are apart

stands : (low high : ℕ) (rows : List LineRow) → Follow low high rows → (i : ℕ) (a : LineRow) → slice_get rows i ≡ Some a → (low ≤ a.address) × (a.address < a.end)
stands low high [] is i a at = absurd (none-some a at)
stands low high (row ∷ rows) is zero a at = subst (λ (r : LineRow). (low ≤ r.address) × (r.address < r.end)) (same_Some row a at) (is.0, is.1)
stands low high (row ∷ rows) is (suc i) a at =
    let there = stands row.end high rows is.2 i a at in
    let begins = is.0 in
    let some = is.1 in
    let behind = there.0 in
    (omega (arith, begins, some, behind), there.1)

follows : (low high : ℕ) (rows : List LineRow) → Follow low high rows → (i j : ℕ) (a b : LineRow) → i < j → slice_get rows i ≡ Some a → slice_get rows j ≡ Some b → a.end ≤ b.address
follows low high [] is i j a b lt at_a at_b = absurd (none-some a at_a)
follows low high (row ∷ rows) is i zero a b lt at_a at_b = absurd (omega (arith, lt))
follows low high (row ∷ rows) is zero (suc j) a b lt at_a at_b = subst (λ (r : LineRow). r.end ≤ b.address) (same_Some row a at_a) (stands row.end high rows is.2 j b at_b).0
follows low high (row ∷ rows) is (suc i) (suc j) a b lt at_a at_b = follows row.end high rows is.2 i j a b (omega (arith, lt)) at_a at_b

are-apart : (low high : ℕ) (rows : List LineRow) → Follow low high rows → AreApart rows
are-apart low high rows is = record { some = λ i a at. (stands low high rows is i a at).1; behind = follows low high rows is }

-- ---- the rows of a code

pub no-lines : (place : ℕ) (rest : List ℕ) {Goal : Type 0} → place ∷ rest ≡ [] → Goal
no-lines place rest is = let none = ap length is in absurd (omega (arith, none))

-- where the first line ends there begins the next one
pub next-is : (size begin : ℕ) (lines : List Line) (ops : List Op) → map (λ (line : Line). line.offset) lines ≡ begins_from begin ops → size ≡ begin + length (flat_map spelled ops) → end_of size lines ≡ begin
next-is size begin [] [] begins ends = omega (arith, ends)
next-is size begin [] (op ∷ ops) begins ends = no-lines begin _ (sym begins)
next-is size begin (line ∷ lines) [] begins ends = no-lines line.offset _ begins
next-is size begin (line ∷ lines) (op ∷ ops) begins ends = ap (λ ns. get_or ns 0 0) begins

module _ (file method at size : ℕ) (room : at + size < 65536) where
  follow-lines : (begin : ℕ) (lines : List Line) (ops : List Op) → map (λ (line : Line). line.offset) lines ≡ begins_from begin ops → size ≡ begin + length (flat_map spelled ops) → Follow (at + begin) (at + size) (line_rows file method at size lines)
  follow-lines begin [] [] begins ends = omega (arith, ends)
  follow-lines begin [] (op ∷ ops) begins ends = no-lines begin _ (sym begins)
  follow-lines begin (line ∷ lines) [] begins ends = no-lines line.offset _ begins
  follow-lines begin (line ∷ lines) (op ∷ ops) begins ends =
      let some : 1 ≤ length (spelled op) = omega arith in
      let long : length (flat_map spelled (op ∷ ops)) ≡ length (spelled op) + length (flat_map spelled ops) = length-append (spelled op) (flat_map spelled ops) in
      let here : line.offset ≡ begin = ap (λ ns. get_or ns 0 0) begins in
      let rest : map (λ (line : Line). line.offset) lines ≡ begins_from (begin + length (spelled op)) ops = ap (drop 1) begins in
      let left : size ≡ begin + length (spelled op) + length (flat_map spelled ops) = omega (arith, ends, long) in
      let next : end_of size lines ≡ begin + length (spelled op) = next-is size (begin + length (spelled op)) lines ops rest left in
      let first : address_after at line.offset ≡ at + begin = omega (arith, here, room, ends, long) in
      let last : address_after at (end_of size lines) ≡ at + (begin + length (spelled op)) = omega (arith, next, room, left) in (
        omega (arith, first),
        omega (arith, first, last, some),
        subst (λ n. Follow n (at + size) (line_rows file method at size lines)) (sym last) (follow-lines (begin + length (spelled op)) lines ops rest left),
      )

-- a method's code whose lines begin where its bytecodes do
pub record IsTiled (code : MethodCode) : Type 0 where
  pub ops : List Op
  pub begins : map (λ (line : Line). line.offset) code.lines ≡ begins_from 0 ops
  pub ends : length code.bytes ≡ length (flat_map spelled ops)

offsets : (lines : List Line) → map begin_of (map line_of lines) ≡ map (λ (line : Line). line.offset) lines
offsets [] = refl
offsets (line ∷ lines) = ap (λ ns. line.offset ∷ ns) (offsets lines)

tiled : (names : Names) (m : MethodTree) (code : MethodCode) → IsCodeOf names m code → IsTiled code
tiled names m code is = record {
  ops = (method_code names m.body).ops;
  begins = sym (offsets code.lines) ∙ ap (map begin_of) is.lines ∙ lines-begin names m.body;
  ends = ap length is.bytes;
}

-- ---- the rows of methods, one code after the other

abbrev pub bytes_in : MethodCode → ℕ
bytes_in code = length code.bytes

abbrev pub AreAllTiled : List MethodCode → Type 0
AreAllTiled codes = (k : ℕ) (code : MethodCode) → slice_get codes k ≡ Some code → IsTiled code

follow-codes : (file method at : ℕ) (codes : List MethodCode) → AreAllTiled codes → at + total bytes_in codes < 65536 → Follow at (at + total bytes_in codes) (code_rows file method at codes)
follow-codes file method at [] all room = omega arith
follow-codes file method at (code ∷ codes) all room =
    let t = all 0 code refl in
    let ends = t.ends in
    let size : length code.bytes ≡ 0 + length (flat_map spelled t.ops) = omega (arith, ends) in
    let own = follow-lines file method at (length code.bytes) (omega (arith, room)) 0 code.lines t.ops t.begins size in
    let next : address_after at (length code.bytes) ≡ at + length code.bytes = omega (arith, room) in
    let others = follow-codes file (method + 1) (at + length code.bytes) codes (λ k c there. all (suc k) c there) (omega (arith, room)) in
    let begin : at + 0 ≡ at = omega arith in
    let end : at + length code.bytes + total bytes_in codes ≡ at + total bytes_in (code ∷ codes) = omega arith in
    joined at (at + length code.bytes) (at + total bytes_in (code ∷ codes)) (line_rows file method at (length code.bytes) code.lines) (code_rows file (method + 1) (address_after at (length code.bytes)) codes)
    (subst (λ n. Follow n (at + length code.bytes) (line_rows file method at (length code.bytes) code.lines)) begin own)
    (subst (λ n. Follow (at + length code.bytes) (at + total bytes_in (code ∷ codes)) (code_rows file (method + 1) n codes)) (sym next)
    (subst (λ n. Follow (at + length code.bytes) n (code_rows file (method + 1) (at + length code.bytes) codes)) end others))

-- ---- the rows of objects

-- objects with the codes of their methods
abbrev pub AreFilled : List ObjectPart → List (List MethodCode) → Type 0
AreFilled (object ∷ objects) (codes ∷ others) = AreAllTiled codes × (total code_size object.methods ≡ total bytes_in codes) × AreFilled objects others
AreFilled objects others = Unit {0}

follow-objects : (file base : ℕ) (objects : List ObjectPart) (others : List (List MethodCode)) → AreFilled objects others → base + total size_of objects < 65536 → Follow base (base + total size_of objects) (rows_from file base objects others)
follow-objects file base [] others are room = omega arith
follow-objects file base (object ∷ objects) [] are room = omega arith
follow-objects file base (object ∷ objects) (codes ∷ others) are room =
    let same = are.1 in
    let offset : ℕ = codes_offset object in
    let held : offset + total bytes_in codes ≤ size_of object = omega (arith, same) in
    let first : address_after base offset ≡ base + offset = omega (arith, held, room) in
    let next : address_after base (size_of object) ≡ base + size_of object = omega (arith, room) in
    let own = follow-codes file 1 (base + offset) codes are.0 (omega (arith, held, room)) in
    let rest = follow-objects (file + 1) (base + size_of object) objects others are.2 (omega (arith, room)) in
    let end : base + size_of object + total size_of objects ≡ base + total size_of (object ∷ objects) = omega arith in
    joined base (base + offset + total bytes_in codes) (base + total size_of (object ∷ objects)) (code_rows file 1 (address_after base offset) codes) (rows_from (file + 1) (address_after base (size_of object)) objects others)
    (subst (λ n. Follow base (base + offset + total bytes_in codes) (code_rows file 1 n codes)) (sym first) (lower (base + offset) base (base + offset + total bytes_in codes) (code_rows file 1 (base + offset) codes) (omega arith) own))
    (subst (λ n. Follow (base + offset + total bytes_in codes) (base + total size_of (object ∷ objects)) (rows_from (file + 1) n objects others)) (sym next)
    (lower (base + size_of object) (base + offset + total bytes_in codes) (base + total size_of (object ∷ objects)) (rows_from (file + 1) (base + size_of object) objects others) (omega (arith, held))
    (subst (λ n. Follow (base + size_of object) n (rows_from (file + 1) (base + size_of object) objects others)) end rest)))

-- ---- the objects of a project

-- a file is compiled to this, whether it is the top file or none
pub record IsOne (source : Source) (seen : Children) (x : CompiledFile) : Type 0 where
  pub top : Bool
  pub is : IsCompiled source seen top x

sizes : (strings : Texts) (ms : List MethodTree) (codes : List MethodCode) → length codes ≡ length ms → total code_size (method_parts strings ms codes) ≡ total bytes_in codes
sizes strings [] [] is = refl
sizes strings (m ∷ ms) [] is = absurd (omega (arith, is))
sizes strings [] (code ∷ codes) is = absurd (omega (arith, is))
sizes strings (m ∷ ms) (code ∷ codes) is = ap (λ n. length code.bytes + n) (sizes strings ms codes (omega (arith, is)))

tiled-file : (source : Source) (seen : Children) (x : CompiledFile) → IsOne source seen x → AreAllTiled x.codes
tiled-file source seen x one = λ k code there.
    let inside = slice_get_within x.codes k code there in
    let counted = one.is.code.count in
    let m = element (numbered (items source)) k (omega (arith, inside, counted)) in
    tiled (method_names seen x k m.0) m.0 code (one.is.code.each k m.0 code m.1 there)

pub filled : (all files : List NamedSource) (children : List Children) (xs : List CompiledFile)
    → ((i : ℕ) (file : NamedSource) (seen : Children) (x : CompiledFile) → slice_get files i ≡ Some file → slice_get children i ≡ Some seen → slice_get xs i ≡ Some x → IsOne file.tree seen x)
    → length children ≡ length files → length xs ≡ length files → AreFilled (objects_from all files children xs) (codes_of xs)
filled all [] children xs each beside count = tt
filled all (file ∷ files) [] xs each beside count = absurd (omega (arith, beside))
filled all (file ∷ files) (seen ∷ children) [] each beside count = absurd (omega (arith, count))
filled all (file ∷ files) (seen ∷ children) (x ∷ xs) each beside count =
    let one = each 0 file seen x refl refl refl in (
      tiled-file file.tree seen x one,
      sizes (strings_of file.tree) (numbered (items file.tree)) x.codes one.is.code.count,
      filled all files children xs (λ i f c y at_f at_c at_y. each (suc i) f c y at_f at_c at_y) (omega (arith, beside)) (omega (arith, count)),
    )

-- an image that fits the hub has its objects there
pub objects-fit : (objects : List ObjectPart) → FitsHub (header_by objects) → 16 + total size_of objects ≤ 32768
objects-fit [] fits = omega arith
objects-fit (top ∷ objects) fits = omega (arith, fits)

pub table-apart : (files : List NamedSource) → ((a b : List Children) → AreChildren files a → AreChildren files b → a ≡ b) → (clock : Clock) (objects : List ObjectPart) (table : LineTable) → IsBuilt files clock objects → IsLineTable files table → AreApart table.rows
table-apart files view clock objects table built is =
    let same : built.children ≡ is.children = view built.children is.children built.seen is.seen in
    let each : AreCompiled files is.children built.compiled = subst (λ (cs : List Children). AreCompiled files cs built.compiled) same built.each in
    let beside = is.seen.one_each in
    let objects-same : objects ≡ objects_of files is.children is.compiled =
    built.objects_are ∙ ap (λ (cs : List Children). objects_of files cs built.compiled) same ∙ one_objects files is.children built.compiled is.compiled beside each is.each in
    let fits : 16 + total size_of (objects_of files is.children is.compiled) ≤ 32768 = objects-fit (objects_of files is.children is.compiled) (subst (λ (os : List ObjectPart). FitsHub (header_by os)) objects-same built.fits) in
    let are : AreFilled (objects_of files is.children is.compiled) (codes_of is.compiled) =
    filled files files is.children is.compiled (λ i f c x at_f at_c at_x. record { top = i == 0; is = is.each.each i f c x (record { stands = at_f; beside = at_c }) at_x }) beside is.each.count in
    subst AreApart (sym is.rows) (are-apart 16 _ _ (follow-objects 0 16 (objects_of files is.children is.compiled) (codes_of is.compiled) are (omega (arith, fits))))
