-- The table of an image has the lines of each method's code, at the place of the code.
use Rattle.std.proofs.Common.{◌≡◌, ℕ, zero, suc, ◌+◌, ◌<◌, List, [], ◌∷◌, ◌++◌, length, take, slice_get, slice_index, Some, refl, sym, ap, ◌∙◌, subst, arith}
use Rattle.std.specs.Prelude.{All, Contains, map, slice_index_or}
use Rattle.std.proofs.lemmas.List.Elements.{All-cons, All-head, All-nil, All-tail, All-contains_itself, Contains-append_left, Contains-append_right}
use Rattle.std.proofs.lemmas.Option.{none-some, same_Some}
use Rattle.p8_tree.specs.declared.places.Place.{Place}
use Rattle.p8_tree.specs.Sources.{MethodTree}
use Rattle.p8_gen.specs.declared.writer.Line.{Line}
use Rattle.p8_gen.specs.Uses.{line_of}
use Rattle.p8_stmt.specs.declared.code.MethodCode.{MethodCode}
use Rattle.p8_image.specs.declared.parts.ObjectPart.{ObjectPart}
use Rattle.p8_image.specs.Layout.{total, code_size, codes_offset, size_of, places_from}
use Rattle.p8_build.specs.Strings.{Texts}
use Rattle.p8_build.specs.Parts.{method_parts}
use Rattle.p8_build.specs.Files.{CompiledFile}
use Rattle.p8_compiled.specs.Placing.{IsLine, HasLines}
use Rattle.p8_opt.specs.Lines.{line_at, lines_of_codes, lines_from}

abbrev bytes_in : MethodCode → ℕ
bytes_in code = length code.bytes

-- a table with more lines has these, too
more : (table larger : List (ℕ × Place)) → ((x : ℕ × Place) → Contains table x → Contains larger x) → (base : ℕ) (lines : List (ℕ × Place)) → HasLines table base lines → HasLines larger base lines
more table larger each base lines has = λ k d lt. each (base + (slice_index_or lines k d).0, (slice_index_or lines k d).1) (has k d lt)

in-front : (table rest : List (ℕ × Place)) (base : ℕ) (lines : List (ℕ × Place)) → HasLines table base lines → HasLines (table ++ rest) base lines
in-front table rest base lines has = more table (table ++ rest) (λ x. Contains-append_left table rest x) base lines has

behind : (before table : List (ℕ × Place)) (base : ℕ) (lines : List (ℕ × Place)) → HasLines table base lines → HasLines (before ++ table) base lines
behind before table base lines has = more table (before ++ table) (λ x. Contains-append_right before table x) base lines has

-- ---- a code

each-line : (table : List (ℕ × Place)) (base : ℕ) (lines : List Line) → All (Contains table) (map (line_at base) lines) → HasLines table base (map line_of lines)
each-line table base [] all = All-nil (IsLine table base)
each-line table base (line ∷ lines) all =
    All-cons (IsLine table base) (line_of line) (map line_of lines) (All-head (Contains table) (line_at base line) (map (line_at base) lines) all)
    (each-line table base lines (All-tail (Contains table) (line_at base line) (map (line_at base) lines) all))

own-lines : (base : ℕ) (lines : List Line) → HasLines (map (line_at base) lines) base (map line_of lines)
own-lines base lines = each-line (map (line_at base) lines) base lines (All-contains_itself (map (line_at base) lines))

codes-lines : (base : ℕ) (codes : List MethodCode) (k : ℕ) (code : MethodCode) → slice_get codes k ≡ Some code → HasLines (lines_of_codes base codes) (base + total bytes_in (take k codes)) (map line_of code.lines)
codes-lines base [] k code at = absurd (none-some code at)
codes-lines base (c ∷ codes) zero code at =
    let first : base ≡ base + 0 = omega arith in
    let table : List (ℕ × Place) = lines_of_codes base (c ∷ codes) in
    subst (λ (n : ℕ). HasLines table n (map line_of code.lines)) first
    (subst (λ (x : MethodCode). HasLines table base (map line_of x.lines)) (same_Some c code at)
    (in-front (map (line_at base) c.lines) (lines_of_codes (base + length c.bytes) codes) base (map line_of c.lines) (own-lines base c.lines)))
codes-lines base (c ∷ codes) (suc k) code at =
    let place : base + length c.bytes + total bytes_in (take k codes) ≡ base + (length c.bytes + total bytes_in (take k codes)) = omega arith in
    subst (λ (n : ℕ). HasLines (lines_of_codes base (c ∷ codes)) n (map line_of code.lines)) place
    (behind (map (line_at base) c.lines) (lines_of_codes (base + length c.bytes) codes) (base + length c.bytes + total bytes_in (take k codes)) (map line_of code.lines)
    (codes-lines (base + length c.bytes) codes k code at))

-- ---- all codes

objects-lines : (base : ℕ) (objects : List ObjectPart) (xs : List CompiledFile) (i : ℕ) (object : ObjectPart) (x : CompiledFile) → slice_get objects i ≡ Some object → slice_get xs i ≡ Some x
    → (k : ℕ) (code : MethodCode) → slice_get x.codes k ≡ Some code
    → HasLines (lines_from base objects xs) (slice_index (places_from size_of base objects) i + (codes_offset object + total bytes_in (take k x.codes))) (map line_of code.lines)
objects-lines base [] xs i object x at_o at_x k code at = absurd (none-some object at_o)
objects-lines base (o ∷ objects) [] i object x at_o at_x k code at = absurd (none-some x at_x)
objects-lines base (o ∷ objects) (y ∷ xs) zero object x at_o at_x k code at =
    let table : List (ℕ × Place) = lines_from base (o ∷ objects) (y ∷ xs) in
    let own : List (ℕ × Place) = lines_of_codes (base + codes_offset o) y.codes in
    let place : base + codes_offset o + total bytes_in (take k y.codes) ≡ base + (codes_offset o + total bytes_in (take k y.codes)) = omega arith in
    let here : slice_get y.codes k ≡ Some code = subst (λ (z : CompiledFile). slice_get z.codes k ≡ Some code) (sym (same_Some y x at_x)) at in
    subst (λ (p : ObjectPart). HasLines table (base + (codes_offset p + total bytes_in (take k x.codes))) (map line_of code.lines)) (same_Some o object at_o)
    (subst (λ (z : CompiledFile). HasLines table (base + (codes_offset o + total bytes_in (take k z.codes))) (map line_of code.lines)) (same_Some y x at_x)
    (subst (λ (n : ℕ). HasLines table n (map line_of code.lines)) place
    (in-front own (lines_from (base + size_of o) objects xs) (base + codes_offset o + total bytes_in (take k y.codes)) (map line_of code.lines)
    (codes-lines (base + codes_offset o) y.codes k code here))))
objects-lines base (o ∷ objects) (y ∷ xs) (suc i) object x at_o at_x k code at =
    behind (lines_of_codes (base + codes_offset o) y.codes) (lines_from (base + size_of o) objects xs) _ (map line_of code.lines)
    (objects-lines (base + size_of o) objects xs i object x at_o at_x k code at)

-- the codes before one have the bytes of the methods before it
same-totals : (strings : Texts) (ms : List MethodTree) (codes : List MethodCode) (k : ℕ) → k < length ms → k < length codes → total code_size (take k (method_parts strings ms codes)) ≡ total bytes_in (take k codes)
same-totals strings ms codes zero less few = refl
same-totals strings [] codes (suc k) less few = absurd (omega (arith, less))
same-totals strings (m ∷ ms) [] (suc k) less few = absurd (omega (arith, few))
same-totals strings (m ∷ ms) (code ∷ codes) (suc k) less few = ap (λ n. length code.bytes + n) (same-totals strings ms codes k (omega (arith, less)) (omega (arith, few)))

pub method-lines : (objects : List ObjectPart) (xs : List CompiledFile) (i : ℕ) (object : ObjectPart) (x : CompiledFile) → slice_get objects i ≡ Some object → slice_get xs i ≡ Some x
    → (strings : Texts) (ms : List MethodTree) → object.methods ≡ method_parts strings ms x.codes → (k : ℕ) → k < length ms → k < length x.codes → (code : MethodCode) → slice_get x.codes k ≡ Some code
    → HasLines (lines_from 16 objects xs) (slice_index (places_from size_of 16 objects) i + (codes_offset object + total code_size (take k object.methods))) (map line_of code.lines)
method-lines objects xs i object x at_o at_x strings ms methods k less few code at =
    subst (λ (n : ℕ). HasLines (lines_from 16 objects xs) (slice_index (places_from size_of 16 objects) i + (codes_offset object + n)) (map line_of code.lines))
    (sym (ap (λ parts. total code_size (take k parts)) methods ∙ same-totals strings ms x.codes k less few))
    (objects-lines 16 objects xs i object x at_o at_x k code at)
