-- What the table of an object says, where it stands in a memory.
use Rattle.std.proofs.Common.{◌≡◌, ◌<◌, ◌≤◌, ℕ, zero, suc, ◌+◌, ◌-◌, ◌*◌, ◌/◌, ◌%◌, ◌^◌, List, [], ◌∷◌, ◌++◌, length, take, slice_get, slice_index, append_assoc, length-append, Some, refl, sym, ap, ◌∙◌, subst, arith}
use Rattle.std.proofs.lemmas.List.{get_or-append-add, get_or_append_left}
use Rattle.p8_bcog.specs.Code.{byte_at, word_at, method_end, first_word, second_word}
use Rattle.p8_image.specs.declared.parts.MethodPart.{MethodPart}
use Rattle.p8_image.specs.declared.parts.ObjectPart.{ObjectPart}
use Rattle.p8_image.specs.Layout.{total, word, size_of, code_size, codes_offset, code_offset, own_variables, inner_offset, bases_of, variables_of, method_entries, inner_entries, table_bytes}
use Rattle.p8_image.specs.Places.{Stands}

-- ---- bytes that stand in a memory

pub byte-of : (memory : List ℕ) (p i : ℕ) (xs : List ℕ) → Stands memory p xs → i < length xs → slice_index memory (p + i) ≡ slice_index xs i
byte-of memory p i xs s inside =
    ap (λ m. slice_index m (p + i)) s.is
    ∙ ap (λ k. slice_index (s.before ++ xs ++ s.after) (k + i)) (sym s.there)
    ∙ get_or_append_left (s.before ++ xs) s.after 0 (length s.before + i) (let l = length-append s.before xs in omega (arith, l, inside))
    ∙ get_or-append-add s.before xs i 0

pub front : (memory : List ℕ) (p : ℕ) (xs ys : List ℕ) → Stands memory p (xs ++ ys) → Stands memory p xs
front memory p xs ys s = record { before = s.before; after = ys ++ s.after; is = s.is ∙ simp append_assoc; there = s.there }

pub back : (memory : List ℕ) (p n : ℕ) (xs ys : List ℕ) → length xs ≡ n → Stands memory p (xs ++ ys) → Stands memory (p + n) ys
back memory p n xs ys size s = record {
  before = s.before ++ xs;
  after = s.after;
  is = s.is ∙ simp append_assoc;
  there = let l = length-append s.before xs in omega (arith, l, s.there, size);
}

pub moved : (memory : List ℕ) (p q : ℕ) (xs : List ℕ) → p ≡ q → Stands memory p xs → Stands memory q xs
moved memory p q xs is s = subst (λ (k : ℕ). Stands memory k xs) is s

-- what stands in a memory ends in it
pub stands-fits : (memory : List ℕ) (p : ℕ) (xs : List ℕ) → Stands memory p xs → p + length xs ≤ length memory
stands-fits memory p xs s =
    let whole : length memory ≡ length (s.before ++ xs ++ s.after) = ap length s.is in
    let first = length-append (s.before ++ xs) s.after in
    let second = length-append s.before xs in
    omega (arith, whole, first, second, s.there)

bytes-word : (n : ℕ) → n % 256 + 256 * (n / 256 % 256) ≡ n % 2 ^ 16
bytes-word n = omega arith

-- two words that stand in the lower half of a memory
pub words-of : (memory : List ℕ) (p n k : ℕ) → length memory ≡ 32768 → Stands memory p (word n ++ word k) → (word_at memory p ≡ n % 2 ^ 16) × (word_at memory (p + 2) ≡ k % 2 ^ 16)
words-of memory p n k size s =
    let fits : p + 4 ≤ 32768 = omega (arith, size, stands-fits memory p (word n ++ word k) s) in
    let at : (i : ℕ) → i < 4 → byte_at memory (p + i) ≡ slice_index (word n ++ word k) i =
    λ i less. let low : (p + i) % 2 ^ 16 ≡ p + i = omega (arith, fits, less) in ap (λ a. slice_index memory a) low ∙ byte-of memory p i (word n ++ word k) s less in
    let zero_at : byte_at memory p ≡ n % 256 = ap (λ a. byte_at memory a) (sym (add-none p)) ∙ at 0 (omega arith) in
    let three : p + 2 + 1 ≡ p + 3 = omega arith in (
      ap (λ b. b + 256 * byte_at memory (p + 1)) zero_at ∙ ap (λ b. n % 256 + 256 * b) (at 1 (omega arith)) ∙ bytes-word n,
      ap (λ b. b + 256 * byte_at memory (p + 2 + 1)) (at 2 (omega arith)) ∙ ap (λ a. k % 256 + 256 * byte_at memory a) three ∙ ap (λ b. k % 256 + 256 * b) (at 3 (omega arith)) ∙ bytes-word k,
    )
  where
    add-none : (p : ℕ) → p + 0 ≡ p
    add-none p = omega arith

-- ---- entries

entries-length : (offset : ℕ) (methods : List MethodPart) → length (method_entries offset methods) ≡ 4 * length methods
entries-length offset [] = refl
entries-length offset (m ∷ ms) = let rest = entries-length (offset + length m.code) ms in omega (arith, rest)

method-entry : (memory : List ℕ) (p offset : ℕ) (methods : List MethodPart) → Stands memory p (method_entries offset methods)
    → (k : ℕ) (method : MethodPart) → slice_get methods k ≡ Some method → Stands memory (p + 4 * k) (word (offset + total code_size (take k methods)) ++ word method.locals)
method-entry memory p offset [] s k method is = absurd (cc)
method-entry memory p offset (m ∷ ms) s zero method is =
    let same : m ≡ method = cc in
    let here = front memory p (word offset ++ word m.locals) (method_entries (offset + length m.code) ms) s in
    let none : p ≡ p + 4 * 0 = omega arith in
    let plus : offset ≡ offset + 0 = omega arith in
    subst (λ (x : MethodPart). Stands memory (p + 4 * 0) (word (offset + 0) ++ word x.locals)) same
    (subst (λ (o : ℕ). Stands memory (p + 4 * 0) (word o ++ word m.locals)) plus (moved memory p (p + 4 * 0) (word offset ++ word m.locals) none here))
method-entry memory p offset (m ∷ ms) s (suc k) method is =
    let rest = back memory p 4 (word offset ++ word m.locals) (method_entries (offset + length m.code) ms) refl s in
    let there = method-entry memory (p + 4) (offset + length m.code) ms rest k method is in
    let place : p + 4 + 4 * k ≡ p + 4 * suc k = omega arith in
    let plus : offset + length m.code + total code_size (take k ms) ≡ offset + (length m.code + total code_size (take k ms)) = omega arith in
    subst (λ (o : ℕ). Stands memory (p + 4 * suc k) (word o ++ word method.locals)) plus (moved memory (p + 4 + 4 * k) (p + 4 * suc k) _ place there)

inner-entry : (memory bases variables : List ℕ) (base p offset : ℕ) (instances : List ℕ) → Stands memory p (inner_entries bases variables base offset instances)
    → (i g : ℕ) → slice_get instances i ≡ Some g
    → Stands memory (p + 4 * i) (word (slice_index bases g + 65536 - base % 65536) ++ word (offset + total (slice_index variables) (take i instances)))
inner-entry memory bases variables base p offset [] s i g is = absurd (cc)
inner-entry memory bases variables base p offset (f ∷ fs) s zero g is =
    let same : f ≡ g = cc in
    let way = λ (x : ℕ). slice_index bases x + 65536 - base % 65536 in
    let here = front memory p (word (way f) ++ word offset) (inner_entries bases variables base (offset + slice_index variables f) fs) s in
    let none : p ≡ p + 4 * 0 = omega arith in
    let plus : offset ≡ offset + 0 = omega arith in
    subst (λ (x : ℕ). Stands memory (p + 4 * 0) (word (way x) ++ word (offset + 0))) same
    (subst (λ (o : ℕ). Stands memory (p + 4 * 0) (word (way f) ++ word o)) plus (moved memory p (p + 4 * 0) (word (way f) ++ word offset) none here))
inner-entry memory bases variables base p offset (f ∷ fs) s (suc i) g is =
    let way = λ (x : ℕ). slice_index bases x + 65536 - base % 65536 in
    let rest = back memory p 4 (word (way f) ++ word offset) (inner_entries bases variables base (offset + slice_index variables f) fs) refl s in
    let there = inner-entry memory bases variables base (p + 4) (offset + slice_index variables f) fs rest i g is in
    let place : p + 4 + 4 * i ≡ p + 4 * suc i = omega arith in
    let plus : offset + slice_index variables f + total (slice_index variables) (take i fs) ≡ offset + (slice_index variables f + total (slice_index variables) (take i fs)) = omega arith in
    subst (λ (o : ℕ). Stands memory (p + 4 * suc i) (word (way g) ++ word o)) plus (moved memory (p + 4 + 4 * i) (p + 4 * suc i) _ place there)

-- ---- a table

pub record TableSays (memory : List ℕ) (objects : List ObjectPart) (base : ℕ) (object : ObjectPart) : Type 0 where
  pub methods : (k : ℕ) (method : MethodPart) → slice_get object.methods k ≡ Some method
      → (first_word memory base (suc k) ≡ code_offset object k % 2 ^ 16) × (second_word memory base (suc k) ≡ method.locals % 2 ^ 16)
  pub instances : (i g : ℕ) → slice_get object.instances i ≡ Some g
      → (first_word memory base (suc (length object.methods) + i) ≡ (slice_index (bases_of objects) g + 65536 - base % 65536) % 2 ^ 16)
      × (second_word memory base (suc (length object.methods) + i) ≡ inner_offset objects object i % 2 ^ 16)
  pub method_count : method_end memory base ≡ (length object.methods + 1) % 256
  pub instance_count : byte_at memory (base + 3) ≡ length object.instances % 256

pub table-says : (memory : List ℕ) (objects : List ObjectPart) (base : ℕ) (object : ObjectPart) → length memory ≡ 32768
    → Stands memory base (table_bytes (bases_of objects) (variables_of objects) base object) → TableSays memory objects base object
table-says memory objects base object size s =
    let bases = bases_of objects in
    let variables = variables_of objects in
    let entries = method_entries (codes_offset object) object.methods in
    let inner = inner_entries bases variables base (own_variables object) object.instances in
    let counts : List ℕ = word (size_of object) ++ (length object.methods + 1) % 256 ∷ length object.instances % 256 ∷ [] in
    let table = table_bytes bases variables base object in
    let four : 4 ≤ length table = more-than-four counts (entries ++ inner) refl in
    let low : base + 4 ≤ 32768 = omega (arith, four, size, stands-fits memory base table s) in
    let at : (i : ℕ) → i < 4 → byte_at memory (base + i) ≡ slice_index table i =
    λ i less. let small : (base + i) % 2 ^ 16 ≡ base + i = omega (arith, low, less) in ap (λ a. slice_index memory a) small ∙ byte-of memory base i table s (omega (arith, less, four)) in
    let both = back memory base 4 counts (entries ++ inner) refl s in
    let methods_stand = front memory (base + 4) entries inner both in
    let inner_stand = back memory (base + 4) (4 * length object.methods) entries inner (entries-length (codes_offset object) object.methods) both in
    record {
      methods = λ k method is.
          let there = method-entry memory (base + 4) (codes_offset object) object.methods methods_stand k method is in
          let place : base + 4 + 4 * k ≡ base + 4 * suc k = omega arith in
          words-of memory (base + 4 * suc k) (code_offset object k) method.locals size (moved memory (base + 4 + 4 * k) (base + 4 * suc k) _ place there);
      instances = λ i g is.
          let there = inner-entry memory bases variables base (base + 4 + 4 * length object.methods) (own_variables object) object.instances inner_stand i g is in
          let place : base + 4 + 4 * length object.methods + 4 * i ≡ base + 4 * (suc (length object.methods) + i) = omega arith in
          words-of memory (base + 4 * (suc (length object.methods) + i)) (slice_index bases g + 65536 - base % 65536) (inner_offset objects object i) size
          (moved memory (base + 4 + 4 * length object.methods + 4 * i) (base + 4 * (suc (length object.methods) + i)) _ place there);
      method_count = at 2 (omega arith);
      instance_count = at 3 (omega arith);
    }
  where
    more-than-four : (xs ys : List ℕ) → length xs ≡ 4 → 4 ≤ length (xs ++ ys)
    more-than-four xs ys is = let l = length-append xs ys in omega (arith, l, is)
