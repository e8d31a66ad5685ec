-- What stands in the memory of an image, and which memory is that of an `.eeprom` file.
use Rattle.std.proofs.Common.{◌≡◌, ◌<◌, ◌≤◌, ℕ, zero, suc, ◌+◌, ◌-◌, ◌*◌, ◌%◌, ◌==◌, Bool, true, false, ◌&&◌, nat_le, nat_lt, if◌then◌else◌, List, [], ◌∷◌, ◌++◌, length, take, replicate, slice_index, slice_set, sum, append_assoc, append-nil, length-append, Option, Some, None, refl, sym, subst, ap, ◌∙◌, arith}
use Rattle.std.proofs.lemmas.Bool.Decides.{nat_tests}
use Rattle.std.proofs.lemmas.List.{get_or_append_left, get_or-take, length-set, set-get_or, length-take-le, take-append-le, take_all}
use Rattle.std.proofs.lemmas.List.Sums.{sum_by-append, sum_by-set}
use Rattle.p8_access.specs.Boots.{ram_of}
use Rattle.p8_image.specs.declared.faults.LoadFault.{LoadFault}
use Rattle.p8_image.specs.declared.faults.LoadFault.TheVariants.{BadLength, BadChecksum}
use Rattle.p8_image.specs.declared.header.Header.{Header}
use Rattle.p8_image.specs.Headers.{word_at, header_of}
use Rattle.p8_image.specs.Loading.{IsImage, IsEeprom, first_unmet, demands, eeprom_demands, header_demands, ends_at_a_long, memory_of, frame_mark, with_checksum, binary_of}
use Rattle.p8_image.specs.Places.{Stands}
use Rattle.p8_image.proofs.Imaging.{no_fault, same_header}

-- ---- what a loader demands

abbrev AreMet : List (Bool × LoadFault) → Type 0
AreMet [] = Unit {0}
AreMet (d ∷ ds) = (d.0 ≡ true) × AreMet ds

first-met : (b : Bool) (f : LoadFault) (rest : Option LoadFault) → (if b then rest else Some f) ≡ None → (b ≡ true) × (rest ≡ None)
first-met true f rest is = (refl, is)
first-met false f rest is = absurd (cc)

are-met : (ds : List (Bool × LoadFault)) → first_unmet ds ≡ None → AreMet ds
are-met [] is = tt
are-met (d ∷ ds) is = let h = first-met d.0 d.1 (first_unmet ds) is in (h.0, are-met ds h.1)

equal-of : (a b : ℕ) → (a == b) ≡ true → a ≡ b
equal-of a b is = grind (arith, nat_tests)

at-most : (a b : ℕ) → nat_le a b ≡ true → a ≤ b
at-most a b is = grind (arith, nat_tests)

below : (a b : ℕ) → nat_lt a b ≡ true → a < b
below a b is = grind (arith, nat_tests)

both : (a b : Bool) → (a && b) ≡ true → (a ≡ true) × (b ≡ true)
both true b is = (refl, is)
both false b is = absurd (cc)

three : (a b c : Bool) → (a && b && c) ≡ true → (a ≡ true) × (b ≡ true) × (c ≡ true)
three true true c is = (refl, refl, is)
three true false c is = absurd (cc)
three false b c is = absurd (cc)

-- the places of a header whose demands are met
pub record HasPlaces (h : Header) : Type 0 where
  pub pbase : h.pbase ≡ 16
  pub dbase_low : h.vbase + 8 ≤ h.dbase
  pub dbase_high : h.dbase ≤ 32764
  pub dbase_multiple : h.dbase % 4 ≡ 0
  pub pcurr_low : 24 ≤ h.pcurr
  pub pcurr_high : h.pcurr < h.vbase
  pub dcurr_low : h.dbase + 4 ≤ h.dcurr
  pub dcurr_high : h.dcurr ≤ 32768
  pub dcurr_multiple : h.dcurr % 4 ≡ 0

has-places : (h : Header) (e : Bool) → AreMet (header_demands h e) → HasPlaces h
has-places h e met =
    let dbase = three (nat_le (h.vbase + 8) h.dbase) (nat_le h.dbase 32764) (h.dbase % 4 == 0) met.1.1.0 in
    let pcurr = both (nat_le 24 h.pcurr) (nat_lt h.pcurr h.vbase) met.1.1.1.0 in
    let dcurr = three (nat_le (h.dbase + 4) h.dcurr) (nat_le h.dcurr 32768) (h.dcurr % 4 == 0) met.1.1.1.1.0 in
    record {
      pbase = equal-of h.pbase 16 met.0;
      dbase_low = at-most (h.vbase + 8) h.dbase dbase.0;
      dbase_high = at-most h.dbase 32764 dbase.1;
      dbase_multiple = equal-of (h.dbase % 4) 0 dbase.2;
      pcurr_low = at-most 24 h.pcurr pcurr.0;
      pcurr_high = below h.pcurr h.vbase pcurr.1;
      dcurr_low = at-most (h.dbase + 4) h.dcurr dcurr.0;
      dcurr_high = at-most h.dcurr 32768 dcurr.1;
      dcurr_multiple = equal-of (h.dcurr % 4) 0 dcurr.2;
    }

pub places-of : (bytes : List ℕ) → IsImage bytes → HasPlaces (header_of bytes)
places-of bytes is = has-places (header_of bytes) ((header_of bytes).vbase == length bytes) (are-met (demands bytes) is).1.1

pub eeprom-places : (memory : List ℕ) → IsEeprom memory → HasPlaces (header_of memory)
eeprom-places memory is = has-places (header_of memory) (ends_at_a_long (header_of memory)) (are-met (eeprom_demands memory) is).1.1

-- an image ends where its header says that the variables begin
pub ends-at : (bytes : List ℕ) → IsImage bytes → (header_of bytes).vbase ≡ length bytes
ends-at bytes is = let h = are-met (demands bytes) is in equal-of (header_of bytes).vbase (length bytes) h.1.1.1.0

length-multiple : (bytes : List ℕ) → IsImage bytes → length bytes % 4 ≡ 0
length-multiple bytes is =
    equal-of (length bytes % 4) 0 (three (nat_le 16 (length bytes)) (nat_le (length bytes) 32768) (length bytes % 4 == 0) (are-met (demands bytes) is).0).2

checksum-of : (bytes : List ℕ) → IsImage bytes → sum bytes % 256 ≡ 20
checksum-of bytes is = equal-of (sum bytes % 256) 20 (are-met (demands bytes) is).1.0

-- ---- an image in a memory

abbrev pub after : List ℕ → List ℕ
after bytes = replicate ((header_of bytes).dbase - 8 - length bytes) 0 ++ frame_mark ++ frame_mark

abbrev pub filling : List ℕ → List ℕ
filling bytes = replicate (32768 - length (bytes ++ after bytes)) 0

in-parts : (bytes zeros : List ℕ) → bytes ++ zeros ++ frame_mark ++ frame_mark ≡ bytes ++ (zeros ++ frame_mark ++ frame_mark)
in-parts bytes zeros =
    append_assoc (bytes ++ zeros) frame_mark frame_mark ∙ append_assoc bytes zeros (frame_mark ++ frame_mark)
    ∙ ap (λ ys. bytes ++ ys) (sym (append_assoc zeros frame_mark frame_mark))

filled : (bytes : List ℕ) → memory_of bytes ≡ bytes ++ after bytes ++ filling bytes
filled bytes = ap ram_of (in-parts bytes (replicate ((header_of bytes).dbase - 8 - length bytes) 0))

pub memory-is : (bytes : List ℕ) → memory_of bytes ≡ bytes ++ (after bytes ++ filling bytes)
memory-is bytes = filled bytes ∙ append_assoc bytes (after bytes) (filling bytes)

-- what stands in an image stands in the memory
pub stands-in : (bytes : List ℕ) (p : ℕ) (xs : List ℕ) → Stands bytes p xs → Stands (memory_of bytes) p xs
stands-in bytes p xs s = record {
  before = s.before;
  after = s.after ++ (after bytes ++ filling bytes);
  is = memory-is bytes ∙ ap (λ ys. ys ++ (after bytes ++ filling bytes)) s.is ∙ append_assoc (s.before ++ xs) s.after (after bytes ++ filling bytes);
  there = s.there;
}

replicate-length : (n v : ℕ) → length (replicate n v) ≡ n
replicate-length zero v = refl
replicate-length (suc n) v = ap suc (replicate-length n v)

-- how an image lies in the hub
pub record Lies (bytes : List ℕ) : Type 0 where
  pub low : 16 ≤ length bytes
  pub below : length bytes + 8 ≤ (header_of bytes).dbase
  pub high : (header_of bytes).dbase ≤ 32764
  pub ends : (header_of bytes).vbase ≡ length bytes

pub memory-length : (bytes : List ℕ) → Lies bytes → length (memory_of bytes) ≡ 32768
memory-length bytes lies =
    let n = (header_of bytes).dbase - 8 - length bytes in
    let whole : length (memory_of bytes) ≡ length (bytes ++ after bytes ++ filling bytes) = ap length (filled bytes) in
    let zeros = replicate-length n 0 in
    let one = length-append bytes (after bytes) in
    let two = length-append (replicate n 0 ++ frame_mark) frame_mark in
    let mark = length-append (replicate n 0) frame_mark in
    let four : length frame_mark ≡ 4 = refl in
    let three = length-append (bytes ++ after bytes) (filling bytes) in
    let rest = replicate-length (32768 - length (bytes ++ after bytes)) 0 in
    omega (arith, whole, zeros, one, two, mark, four, three, rest, lies.below, lies.high)

pub byte-is : (bytes : List ℕ) (i : ℕ) → i < length bytes → slice_index (memory_of bytes) i ≡ slice_index bytes i
byte-is bytes i less = ap (λ m. slice_index m i) (memory-is bytes) ∙ get_or_append_left bytes (after bytes ++ filling bytes) 0 i less

-- an image lies so in its memory
pub lies-of : (bytes : List ℕ) → IsImage bytes → Lies bytes
lies-of bytes is =
    let ends = ends-at bytes is in
    let places = places-of bytes is in
    record {
      low = omega (arith, ends, places.pcurr_low, places.pcurr_high);
      below = omega (arith, ends, places.dbase_low);
      high = places.dbase_high;
      ends = ends;
    }

pub length-of-memory : (bytes : List ℕ) → IsImage bytes → length (memory_of bytes) ≡ 32768
length-of-memory bytes is = memory-length bytes (lies-of bytes is)

-- the header of an image is that of its memory
word-is : (bytes : List ℕ) (i : ℕ) → i + 1 < length bytes → word_at (memory_of bytes) i ≡ word_at bytes i
word-is bytes i less =
    ap (λ (a : ℕ). a + 256 * slice_index (memory_of bytes) (i + 1)) (byte-is bytes i (omega arith))
    ∙ ap (λ (b : ℕ). slice_index bytes i + 256 * b) (byte-is bytes (i + 1) less)

pub header-of-memory : (bytes : List ℕ) → IsImage bytes → header_of (memory_of bytes) ≡ header_of bytes
header-of-memory bytes is =
    let low = (lies-of bytes is).low in
    same_header _ _ _ _ _ _ _ _ _ _ (word-is bytes 6 (omega arith)) (word-is bytes 8 (omega arith)) (word-is bytes 10 (omega arith))
    (word-is bytes 12 (omega arith)) (word-is bytes 14 (omega arith))

-- the bytes of a memory, up to the first frame and after it
pub memory-filled : (bytes items : List ℕ) (frame count : ℕ) → IsImage bytes → count ≡ length items → frame ≡ (header_of bytes).dbase
    → items ≡ bytes ++ replicate (frame - 8 - length bytes) 0 ++ frame_mark ++ frame_mark → length items ≡ frame
    → take 32768 items ++ replicate (32768 - count) 0 ≡ memory_of bytes
memory-filled bytes items frame count is n f e l =
    let high = (places-of bytes is).dbase_high in
    let same : items ≡ bytes ++ replicate ((header_of bytes).dbase - 8 - length bytes) 0 ++ frame_mark ++ frame_mark =
    e ∙ ap (λ (n : ℕ). bytes ++ replicate (n - 8 - length bytes) 0 ++ frame_mark ++ frame_mark) f in
    ap (λ (k : ℕ). take 32768 items ++ replicate (32768 - k) 0) n
    ∙ ap (λ (xs : List ℕ). xs ++ replicate (32768 - length items) 0) (take_all 32768 items (omega (arith, high, f, l))) ∙ ap ram_of same

-- a memory of 32,768 bytes is filled already
pub filled-already : (memory : List ℕ) → length memory ≡ 32768 → ram_of memory ≡ memory
filled-already memory l = ap (λ (k : ℕ). memory ++ replicate (32768 - k) 0) l ∙ append-nil memory

-- ---- the `.binary` file of a memory

-- a checksum moves no place
header-set : (xs : List ℕ) (v : ℕ) → header_of (slice_set xs 5 v) ≡ header_of xs
header-set [] v = refl
header-set (a ∷ []) v = refl
header-set (a ∷ b ∷ []) v = refl
header-set (a ∷ b ∷ c ∷ []) v = refl
header-set (a ∷ b ∷ c ∷ d ∷ []) v = refl
header-set (a ∷ b ∷ c ∷ d ∷ e ∷ []) v = refl
header-set (a ∷ b ∷ c ∷ d ∷ e ∷ f ∷ rest) v = refl

sum-set : (xs : List ℕ) (v : ℕ) → 6 ≤ length xs → sum (slice_set xs 5 v) ≡ sum (slice_set xs 5 0) + v
sum-set xs v l =
    let with : sum (slice_set xs 5 v) + slice_index xs 5 ≡ sum xs + v = sum_by-set (λ (x : ℕ). x) xs 5 v 0 (omega arith) in
    let without : sum (slice_set xs 5 0) + slice_index xs 5 ≡ sum xs + 0 = sum_by-set (λ (x : ℕ). x) xs 5 0 0 (omega arith) in
    omega (arith, with, without)

word-take : (xs : List ℕ) (n i : ℕ) → i + 1 < n → word_at (take n xs) i ≡ word_at xs i
word-take xs n i less =
    ap (λ (a : ℕ). a + 256 * slice_index (take n xs) (i + 1)) (get_or-take n xs i 0 (omega arith))
    ∙ ap (λ (b : ℕ). slice_index xs i + 256 * b) (get_or-take n xs (i + 1) 0 less)

header-take : (xs : List ℕ) (n : ℕ) → 16 ≤ n → header_of (take n xs) ≡ header_of xs
header-take xs n l =
    same_header _ _ _ _ _ _ _ _ _ _ (word-take xs n 6 (omega arith)) (word-take xs n 8 (omega arith)) (word-take xs n 10 (omega arith))
    (word-take xs n 12 (omega arith)) (word-take xs n 14 (omega arith))

pub header-of-binary : (memory : List ℕ) → IsEeprom memory → header_of (binary_of memory) ≡ header_of memory
header-of-binary memory is =
    let places = eeprom-places memory is in
    header-set (take (header_of memory).vbase memory) _ ∙ header-take memory (header_of memory).vbase (omega (arith, places.pcurr_low, places.pcurr_high))

eeprom-length : (memory : List ℕ) → IsEeprom memory → length memory ≡ 32768
eeprom-length memory is = equal-of (length memory) 32768 (are-met (eeprom_demands memory) is).0

pub length-of-eeprom : (memory : List ℕ) → IsEeprom memory → length memory ≡ 32768
length-of-eeprom memory is = eeprom-length memory is

-- so many bytes of a memory are its file
pub file-length : (memory : List ℕ) → IsEeprom memory → length (take (header_of memory).vbase memory) ≡ (header_of memory).vbase
file-length memory is =
    let places = eeprom-places memory is in
    let whole = eeprom-length memory is in
    length-take-le (header_of memory).vbase memory (omega (arith, whole, places.dbase_low, places.dbase_high))

pub binary-is-image : (memory : List ℕ) → IsEeprom memory → IsImage (binary_of memory)
binary-is-image memory is =
    let h = header_of memory in
    let places = eeprom-places memory is in
    let ends = both (nat_le 16 h.vbase) (h.vbase % 4 == 0) (are-met (eeprom_demands memory) is).1.1.1.0 in
    let low = at-most 16 h.vbase ends.0 in
    let multiple = equal-of (h.vbase % 4) 0 ends.1 in
    let file = take h.vbase memory in
    let taken = file-length memory is in
    let checksum = (0x14 + 256 - sum (slice_set file 5 0) % 256) % 256 in
    let size : length (binary_of memory) ≡ h.vbase = length-set file 5 checksum ∙ taken in
    let all : sum (binary_of memory) ≡ sum (slice_set file 5 0) + checksum = sum-set file checksum (omega (arith, taken, low)) in
    no_fault (binary_of memory) h
    (omega (arith, size, low)) (omega (arith, size, places.dbase_low, places.dbase_high)) (omega (arith, size, multiple))
    (omega (arith, all)) places.pbase (sym size) places.dbase_low places.dbase_high places.dbase_multiple
    places.pcurr_low places.pcurr_high places.dcurr_low places.dcurr_high places.dcurr_multiple
    (header-of-binary memory is)

-- ---- there and back

met-eeprom : (length sum : ℕ) (h : Header) → length ≡ 32768 → sum % 256 ≡ 0 → 16 ≤ h.vbase → h.vbase % 4 ≡ 0 → HasPlaces h
    → first_unmet ((length == 32768, BadLength length) ∷ (sum % 256 == 0, BadChecksum (sum % 256)) ∷ header_demands h (ends_at_a_long h)) ≡ None
met-eeprom length sum h a b c d places =
    let e = places.pbase in
    let f = places.dbase_low in
    let g = places.dbase_high in
    let i = places.dbase_multiple in
    let j = places.pcurr_low in
    let k = places.pcurr_high in
    let l = places.dcurr_low in
    let m = places.dcurr_high in
    let n = places.dcurr_multiple in
    grind (arith, nat_tests)

sum-zeros : (n : ℕ) → sum (replicate n 0) ≡ 0
sum-zeros zero = refl
sum-zeros (suc n) = sum-zeros n

sum-of-memory : (bytes : List ℕ) → sum (memory_of bytes) ≡ sum bytes + 2028
sum-of-memory bytes =
    let n = (header_of bytes).dbase - 8 - length bytes in
    let filler = 32768 - length (bytes ++ after bytes) in
    let whole : sum (memory_of bytes) ≡ sum (bytes ++ after bytes ++ filling bytes) = ap sum (filled bytes) in
    let one = sum_by-append (λ (x : ℕ). x) (bytes ++ after bytes) (filling bytes) in
    let two = sum_by-append (λ (x : ℕ). x) bytes (after bytes) in
    let three = sum_by-append (λ (x : ℕ). x) (replicate n 0 ++ frame_mark) frame_mark in
    let four = sum_by-append (λ (x : ℕ). x) (replicate n 0) frame_mark in
    let zeros = sum-zeros n in
    let fill = sum-zeros filler in
    let mark : sum frame_mark ≡ 1014 = refl in
    omega (arith, whole, one, two, three, four, zeros, fill, mark)

pub memory-is-eeprom : (bytes : List ℕ) → IsImage bytes → IsEeprom (memory_of bytes)
memory-is-eeprom bytes is =
    let header = header-of-memory bytes is in
    let places = places-of bytes is in
    let ends = ends-at bytes is in
    let multiple = length-multiple bytes is in
    let checksum = checksum-of bytes is in
    let all = sum-of-memory bytes in
    ap (λ (h : Header). first_unmet ((length (memory_of bytes) == 32768, BadLength (length (memory_of bytes))) ∷
    (sum (memory_of bytes) % 256 == 0, BadChecksum (sum (memory_of bytes) % 256)) ∷ header_demands h (ends_at_a_long h))) header
    ∙ met-eeprom (length (memory_of bytes)) (sum (memory_of bytes)) (header_of bytes) (length-of-memory bytes is) (omega (arith, all, checksum))
    (omega (arith, places.pcurr_low, places.pcurr_high)) (omega (arith, ends, multiple)) places

-- the checksum of an image stands in its place
checksum-stands : (xs : List ℕ) → 6 ≤ length xs → sum xs % 256 ≡ 20 → slice_index xs 5 < 256 → with_checksum xs ≡ xs
checksum-stands xs l s b =
    let with : sum (slice_set xs 5 0) + slice_index xs 5 ≡ sum xs + 0 = sum_by-set (λ (x : ℕ). x) xs 5 0 0 (omega arith) in
    let same : (0x14 + 256 - sum (slice_set xs 5 0) % 256) % 256 ≡ slice_index xs 5 = omega (arith, with) in
    ap (slice_set xs 5) same ∙ set-get_or xs 5 0

pub there-and-back : (bytes : List ℕ) → IsImage bytes → slice_index bytes 5 < 256 → binary_of (memory_of bytes) ≡ bytes
there-and-back bytes is b =
    let ends = ends-at bytes is in
    let low = (lies-of bytes is).low in
    let vbase : (header_of (memory_of bytes)).vbase ≡ length bytes = ap (λ (h : Header). h.vbase) (header-of-memory bytes is) ∙ ends in
    let front : take (length bytes) (memory_of bytes) ≡ bytes =
    ap (take (length bytes)) (memory-is bytes) ∙ take-append-le (length bytes) bytes (after bytes ++ filling bytes) (omega arith) ∙ take_all (length bytes) bytes (omega arith) in
    ap (λ (n : ℕ). with_checksum (take n (memory_of bytes))) vbase ∙ ap with_checksum front
    ∙ checksum-stands bytes (omega (arith, low)) (checksum-of bytes is) b

-- what is kept of an `.eeprom` file
pub eeprom-stands : (file memory bytes : List ℕ) → IsEeprom bytes → file ≡ binary_of bytes → memory ≡ bytes
    → IsImage file × (length memory ≡ 32768) × (header_of memory ≡ header_of file)
eeprom-stands file memory bytes is e m =
    let P : List ℕ → Type 0 = λ xs. IsImage xs in
    (subst P (sym e) (binary-is-image bytes is), ap (λ (xs : List ℕ). length xs) m ∙ length-of-eeprom bytes is, ap header_of m ∙ sym (header-of-binary bytes is) ∙ ap header_of (sym e))
