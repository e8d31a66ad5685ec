-- A bytecode that is read from bytes has operands below 2 ^ 32, and ends where the bytes do at the latest.
use Rattle.std.proofs.Common.{◌≡◌, refl, arith, ℕ, suc, ◌+◌, ◌-◌, ◌*◌, ◌%◌, ◌^◌, ◌<◌, ◌≤◌, min, Bool, true, false, nat_lt, if◌then◌else◌, List, []}
use Rattle.std.proofs.Common.{◌∷◌, length, drop, Option, Some, None}
use Rattle.std.specs.Prelude.{option_map}
use Rattle.std.specs.List.{All}
use Rattle.std.proofs.lemmas.Bool.{ltb-true}
use Rattle.std.proofs.lemmas.List.{length-drop, length-take}
use Rattle.std.proofs.lemmas.List.Elements.{All-head, All-tail, All-take, All-drop}
use Rattle.p8_bytecode.specs.declared.op.Op.{Op}
use Rattle.p8_bytecode.specs.declared.operands.Operands.{Operands}
use Rattle.p8_bytecode.specs.declared.operands.Operands.TheVariants.{Nothing, Offset, OneByte, TwoBytes, ThreeBytes, SevenBits, Word, Triple, Long}
use Rattle.p8_bytecode.specs.declared.operands.Operands.TheVariants.{Register, ShortVariable, Variable}
use Rattle.p8_bytecode.specs.Table.{operands_of, is_register, is_effect, is_step}
use Rattle.p8_bytecode.specs.Reading.{bare, sign_extended, offset_in, offset_size, stepping, effect_in, changing, changes_variable, has_base}
use Rattle.p8_bytecode.specs.Reading.{changes_register, variable_in, jump_in, operands_in, coded, op_in, op_at}
use Rattle.p8_bcog.specs.Code.{code_end, code_of, fetched}

abbrev pub IsByte : ℕ → Type 0
IsByte b = b < 256

-- what was read, of so many bytes
abbrev Reads : (most : ℕ) → Option (Op × ℕ) → Type 0
Reads most None = Unit {0}
Reads most (Some read) = (read.0.first < 2 ^ 32) × (read.1 ≤ most)

reads-if : (b : Bool) (most : ℕ) (x y : Option (Op × ℕ)) → Reads most x → Reads most y → Reads most (if b then x else y)
reads-if true most x y h k = h
reads-if false most x y h k = k

reads-where : (b : Bool) (most : ℕ) (x y : Option (Op × ℕ)) → (b ≡ true → Reads most x) → Reads most y → Reads most (if b then x else y)
reads-where true most x y h k = h refl
reads-where false most x y h k = k

-- ---- offsets

abbrev IsOffset : (most : ℕ) → Option (ℕ × Bool) → Type 0
IsOffset most None = Unit {0}
IsOffset most (Some offset) = (offset.0 < 2 ^ 32) × (offset_size offset.1 ≤ most)

extended-if : (bits n : ℕ) (b : Bool) → nat_lt n (2 ^ (bits - 1)) ≡ b → n < 2 ^ bits → 2 ^ bits ≤ 2 ^ 32 → (if b then n else n + (2 ^ 32 - 2 ^ bits)) < 2 ^ 32
extended-if bits n true e h k = omega (arith, h, k)
extended-if bits n false e h k = omega (arith, h, k)

short-offset : (byte : ℕ) → byte < 128 → sign_extended 7 byte < 2 ^ 32
short-offset byte h = extended-if 7 byte (nat_lt byte (2 ^ (7 - 1))) refl h (omega arith)

long-offset : (byte low : ℕ) → low < 256 → sign_extended 15 (byte % 128 * 256 + low) < 2 ^ 32
long-offset byte low h = extended-if 15 (byte % 128 * 256 + low) (nat_lt (byte % 128 * 256 + low) (2 ^ (15 - 1))) refl (omega (arith, h)) (omega arith)

offset-one : (byte : ℕ) (b : Bool) → nat_lt byte 128 ≡ b → IsOffset 1 (if b then Some (sign_extended 7 byte, false) else None)
offset-one byte true e = (short-offset byte (ltb-true byte 128 e), omega arith)
offset-one byte false e = tt

offset-two : (byte low more : ℕ) (b : Bool) → nat_lt byte 128 ≡ b → low < 256 →
    IsOffset (suc (suc more)) (if b then Some (sign_extended 7 byte, false) else Some (sign_extended 15 (byte % 128 * 256 + low), true))
offset-two byte low more true e h = (short-offset byte (ltb-true byte 128 e), omega arith)
offset-two byte low more false e h = (long-offset byte low h, omega arith)

offset-read : (bytes : List ℕ) → All IsByte bytes → IsOffset (length bytes) (offset_in bytes)
offset-read [] are = tt
offset-read (byte ∷ []) are = offset-one byte (nat_lt byte 128) refl
offset-read (byte ∷ low ∷ rest) are =
    offset-two byte low (length rest) (nat_lt byte 128) refl (All-head IsByte low rest (All-tail IsByte byte (low ∷ rest) are))

-- ---- effects

step-read : (op : Op) (size most : ℕ) (o : Option (ℕ × Bool)) → op.first < 2 ^ 32 → IsOffset most o → Reads (size + most) (stepping op size o)
step-read op size most None h is = tt
step-read op size most (Some offset) h is = (h, let le = is.1 in omega (arith, le))

more-read : (a b : ℕ) (o : Option (Op × ℕ)) → a ≤ b → Reads a o → Reads b o
more-read a b None le h = tt
more-read a b (Some read) le h = (h.0, let k = h.1 in omega (arith, le, k))

effect-read : (op : Op) (size : ℕ) (bytes : List ℕ) → op.first < 2 ^ 32 → All IsByte bytes → Reads (size + length bytes) (effect_in op size bytes)
effect-read op size [] h are = tt
effect-read op size (effect ∷ rest) h are =
    let stepped = step-read (record op { effect = effect }) (size + 1) (length rest) (offset_in rest) h (offset-read rest (All-tail IsByte effect rest are)) in
    reads-if (is_step effect) (size + length (effect ∷ rest)) _ _
    (more-read (size + 1 + length rest) (size + length (effect ∷ rest)) (stepping (record op {
      effect =
          effect;
    }) (size + 1) (offset_in rest)) (omega arith) stepped)
    (reads-if (is_effect effect) (size + length (effect ∷ rest)) _ _ (h, omega arith) tt)

changing-read : (changes : Bool) (op : Op) (size : ℕ) (bytes : List ℕ) → op.first < 2 ^ 32 → All IsByte bytes →
    Reads (size + length bytes) (changing changes op size bytes)
changing-read true op size bytes h are = effect-read op size bytes h are
changing-read false op size bytes h are = (h, omega arith)

-- ---- whole bytecodes

nothing-below : 0 < 2 ^ 32
nothing-below = omega arith

variable-read : (code : ℕ) (bytes : List ℕ) → All IsByte bytes → Reads (length bytes) (variable_in code bytes)
variable-read code [] are = tt
variable-read code (byte ∷ []) are =
    let b : byte < 256 = All-head IsByte byte [] are in
    reads-if (nat_lt byte 128) 1 _ _ (changing-read (changes_variable code) (record (bare code) {
      first =
          byte;
    }) 1 [] (omega (arith, b)) (All-tail IsByte byte [] are)) tt
variable-read code (byte ∷ low ∷ rest) are =
    let tail = All-tail IsByte byte (low ∷ rest) are in
    let b : byte < 256 = All-head IsByte byte (low ∷ rest) are in
    let l : low < 256 = All-head IsByte low rest tail in
    reads-if (nat_lt byte 128) (suc (suc (length rest))) _ _
    (more-read (1 + length (low ∷ rest)) (suc (suc (length rest))) (changing (changes_variable code) (record (bare code) {
      first =
          byte;
    }) 1 (low ∷ rest)) (omega arith)
    (changing-read (changes_variable code) (record (bare code) { first = byte }) 1 (low ∷ rest) (omega (arith, b)) tail))
    (more-read (2 + length rest) (suc (suc (length rest))) (changing (changes_variable code) (record (bare code) {
      first =
          byte % 128 * 256 + low;
    }) 2 rest) (omega arith)
    (changing-read (changes_variable code) (record (bare code) { first = byte % 128 * 256 + low }) 2 rest (omega (arith, l)) (All-tail IsByte low rest tail)))

jump-read : (code most : ℕ) (o : Option (ℕ × Bool)) → IsOffset most o → Reads most (jump_in code o)
jump-read code most None is = tt
jump-read code most (Some offset) is = is

operands-read : (operands : Operands) (code : ℕ) (bytes : List ℕ) → All IsByte bytes → Reads (length bytes) (operands_in operands code bytes)
operands-read Nothing code bytes are = (nothing-below, omega arith)
operands-read Offset code bytes are = jump-read code (length bytes) (offset_in bytes) (offset-read bytes are)
operands-read OneByte code (a ∷ rest) are = let h : a < 256 = All-head IsByte a rest are in (omega (arith, h), omega arith)
operands-read OneByte code [] are = tt
operands-read TwoBytes code (a ∷ b ∷ rest) are = let h : a < 256 = All-head IsByte a (b ∷ rest) are in (omega (arith, h), omega arith)
operands-read TwoBytes code (a ∷ []) are = tt
operands-read TwoBytes code [] are = tt
operands-read ThreeBytes code (a ∷ b ∷ c ∷ rest) are = let h : a < 256 = All-head IsByte a (b ∷ c ∷ rest) are in (omega (arith, h), omega arith)
operands-read ThreeBytes code (a ∷ b ∷ []) are = tt
operands-read ThreeBytes code (a ∷ []) are = tt
operands-read ThreeBytes code [] are = tt
operands-read SevenBits code (a ∷ rest) are =
    let h : a < 256 = All-head IsByte a rest are in reads-if (nat_lt a 128) (length (a ∷ rest)) _ _ (omega (arith, h), omega arith) tt
operands-read SevenBits code [] are = tt
operands-read Word code (a ∷ b ∷ rest) are =
    let h : a < 256 = All-head IsByte a (b ∷ rest) are in
    let k : b < 256 = All-head IsByte b rest (All-tail IsByte a (b ∷ rest) are) in (omega (arith, h, k), omega arith)
operands-read Word code (a ∷ []) are = tt
operands-read Word code [] are = tt
operands-read Triple code (a ∷ b ∷ c ∷ rest) are =
    let tail = All-tail IsByte a (b ∷ c ∷ rest) are in
    let h : a < 256 = All-head IsByte a (b ∷ c ∷ rest) are in
    let k : b < 256 = All-head IsByte b (c ∷ rest) tail in
    let l : c < 256 = All-head IsByte c rest (All-tail IsByte b (c ∷ rest) tail) in (omega (arith, h, k, l), omega arith)
operands-read Triple code (a ∷ b ∷ []) are = tt
operands-read Triple code (a ∷ []) are = tt
operands-read Triple code [] are = tt
operands-read Long code (a ∷ b ∷ c ∷ d ∷ rest) are =
    let tail = All-tail IsByte a (b ∷ c ∷ d ∷ rest) are in
    let last = All-tail IsByte b (c ∷ d ∷ rest) tail in
    let h : a < 256 = All-head IsByte a (b ∷ c ∷ d ∷ rest) are in
    let k : b < 256 = All-head IsByte b (c ∷ d ∷ rest) tail in
    let l : c < 256 = All-head IsByte c (d ∷ rest) last in
    let m : d < 256 = All-head IsByte d rest (All-tail IsByte c (d ∷ rest) last) in (omega (arith, h, k, l, m), omega arith)
operands-read Long code (a ∷ b ∷ c ∷ []) are = tt
operands-read Long code (a ∷ b ∷ []) are = tt
operands-read Long code (a ∷ []) are = tt
operands-read Long code [] are = tt
operands-read Register code (a ∷ rest) are =
    let h : a < 256 = All-head IsByte a rest are in
    reads-if (is_register code a) (length (a ∷ rest)) _ _
    (more-read (1 + length rest) (length (a ∷ rest)) (changing (changes_register a) (record (bare code) { first = a }) 1 rest) (omega arith)
    (changing-read (changes_register a) (record (bare code) { first = a }) 1 rest (omega (arith, h)) (All-tail IsByte a rest are))) tt
operands-read Register code [] are = tt
operands-read ShortVariable code bytes are =
    more-read (0 + length bytes) (length bytes) (changing (changes_variable code) (bare code) 0 bytes) (omega arith)
    (changing-read (changes_variable code) (bare code) 0 bytes nothing-below are)
operands-read Variable code bytes are =
    reads-if (has_base code) (length bytes) _ _ (variable-read code bytes are)
    (more-read (0 + length bytes) (length bytes) (changing (changes_variable code) (bare code) 0 bytes) (omega arith)
    (changing-read (changes_variable code) (bare code) 0 bytes nothing-below are))

coded-read : (o : Option Operands) (code : ℕ) (bytes : List ℕ) → All IsByte bytes → Reads (length bytes) (coded o code bytes)
coded-read None code bytes are = tt
coded-read (Some operands) code bytes are = operands-read operands code bytes are

-- what was read begins with a byte of its own
abbrev Stands : (length : ℕ) → Option (Op × ℕ) → Type 0
Stands most None = Unit {0}
Stands most (Some read) = (read.0.first < 2 ^ 32) × (1 ≤ read.1) × (read.1 ≤ most)

one-more : (most : ℕ) (o : Option (Op × ℕ)) → Reads most o → Stands (suc most) (option_map (λ read. (read.0, 1 + read.1)) o)
one-more most None h = tt
one-more most (Some read) h = (h.0, omega arith, let k = h.1 in omega (arith, k))

op-read : (bytes : List ℕ) → All IsByte bytes → Stands (length bytes) (op_in bytes)
op-read [] are = tt
op-read (code ∷ bytes) are =
    one-more (length bytes) (coded (operands_of code) code bytes) (coded-read (operands_of code) code bytes (All-tail IsByte code bytes are))

-- a bytecode that was found, and where it ends
abbrev pub IsFound : Option (Op × ℕ) → Type 0
IsFound None = Unit {0}
IsFound (Some found) = (found.0.first < 2 ^ 32) × (found.1 < 65536)

found-at : (place left most : ℕ) (o : Option (Op × ℕ)) → left ≡ most - place → most ≤ 32768 → Stands left o →
    IsFound (option_map (λ read. (read.0, place + read.1)) o)
found-at place left most None same le h = tt
found-at place left most (Some read) same le h = (h.0, let a = h.1 in let b = h.2 in omega (arith, same, le, a, b))

op-found : (code : List ℕ) (place : ℕ) → All IsByte code → length code ≤ 32768 → IsFound (op_at code place)
op-found code place are le =
    found-at place (length (drop place code)) (length code) (op_in (drop place code)) (length-drop place code) le
    (op-read (drop place code) (All-drop IsByte place code are))

found-if : (b : Bool) (o : Option (Op × ℕ)) → IsFound o → IsFound (if b then None else o)
found-if true o h = tt
found-if false o h = h

pub fetched-found : (memory : List ℕ) (address : ℕ) → All IsByte memory → IsFound (fetched memory address)
fetched-found memory address are =
    let long : length (code_of memory) ≡ min (code_end memory) (length memory) = length-take (code_end memory) memory in
    found-if (nat_lt address 16) (op_at (code_of memory) address)
    (op-found (code_of memory) address (All-take IsByte (code_end memory) memory are) (omega (arith, long)))
