-- What is read at the head of some bytes stands there, spelled whole.
use Rattle.std.proofs.Common.{◌≡◌, ℕ, suc, ◌+◌, ◌*◌, ◌/◌, ◌%◌, ◌^◌, ◌<◌, ◌≤◌, Bool, true, false, cond, if◌then◌else◌, ◌||◌, nat_lt, List, [], ◌∷◌, ◌++◌, length, get_or, Option, Some, None, option_map, IfSome, refl, sym, ap, ◌∙◌, subst, arith}
use Rattle.std.proofs.lemmas.Bool.Decides.{nat_tests}
use Rattle.std.proofs.lemmas.Option.{IfSome_then}
use Rattle.p8_bytecode.specs.declared.op.Op.{Op}
use Rattle.p8_bytecode.specs.declared.operands.Operands.{Operands}
use Rattle.p8_bytecode.specs.declared.operands.Operands.TheVariants.{Nothing, Offset, OneByte, TwoBytes, ThreeBytes, SevenBits, Word, Triple, Long, Register, ShortVariable, Variable}
use Rattle.p8_bytecode.specs.Table.{operands_of, is_register, is_effect, is_step}
use Rattle.p8_bytecode.specs.Reading.{bare, sign_extended, offset_in, offset_size, stepping, changing, changes_variable, has_base, changes_register, variable_in, jump_in, coded, op_in}
use Rattle.p8_bytecode.specs.Spelling.{IsOffset, IsStep, IsChange, IsPlace, FitsOperands, offset_bytes, place_bytes, effect_bytes, operand_bytes, Stands}

-- each of these numbers is a byte
abbrev pub AreBytes : List ℕ → Type 0
AreBytes bytes = (i : ℕ) → get_or bytes i 0 < 256

rest-bytes : (b : ℕ) (bytes : List ℕ) → AreBytes (b ∷ bytes) → AreBytes bytes
rest-bytes b bytes h = λ i. h (suc i)

IfSome-cond : {T : Type 0} (P : T → Type 0) (b : Bool) (x y : Option T)
    → (b ≡ true → IfSome x P) → (b ≡ false → IfSome y P) → IfSome (cond b x y) P
IfSome-cond P true x y hx hy = hx refl
IfSome-cond P false x y hx hy = hy refl

within : (n m : ℕ) → nat_lt n m ≡ true → n < m
within n m h = grind (arith, nat_tests)

beyond : (n m : ℕ) → nat_lt n m ≡ false → m ≤ n
beyond n m h = grind (arith, nat_tests)

-- ---- offsets

sign_extended-low-7 : (n : ℕ) → n < 2 ^ 7 → sign_extended 7 n % 2 ^ 7 ≡ n
sign_extended-low-7 n h = grind (arith, nat_tests)

sign_extended-low-15 : (n : ℕ) → n < 2 ^ 15 → sign_extended 15 n % 2 ^ 15 ≡ n
sign_extended-low-15 n h = grind (arith, nat_tests)

-- the two bytes that have these lowest 15 bits
long-bytes : (word high low : ℕ) → word % 2 ^ 15 ≡ high % 128 * 256 + low → 128 ≤ high → high < 256 → low < 256
    → (high ≡ 128 + word / 256 % 128) × (low ≡ word % 256)
long-bytes word high low e h h2 l = (omega arith, omega arith)

two-bytes : (a b c d : ℕ) (rest : List ℕ) → a ≡ c → b ≡ d → ◌≡◌ {A = List ℕ} (a ∷ b ∷ rest) (c ∷ d ∷ rest)
two-bytes a b c d rest p q = λ k. p k ∷ q k ∷ rest

record HasOffset (bytes : List ℕ) (offset : ℕ) (long_form : Bool) : Type 0 where
  is_offset : IsOffset long_form offset
  rest : List ℕ
  spelled : bytes ≡ offset_bytes long_form offset ++ rest

short-offset : (byte : ℕ) (rest : List ℕ) → byte < 128 → HasOffset (byte ∷ rest) (sign_extended 7 byte) false
short-offset byte rest h =
    let low : sign_extended 7 byte % 2 ^ 7 ≡ byte = sign_extended-low-7 byte h in
    record { is_offset = ap (sign_extended 7) (sym low); rest = rest; spelled = ap (λ b. b ∷ rest) (sym low) }

long-offset : (high low : ℕ) (rest : List ℕ) → 128 ≤ high → high < 256 → low < 256
    → HasOffset (high ∷ low ∷ rest) (sign_extended 15 (high % 128 * 256 + low)) true
long-offset high low rest h h2 l =
    let number : ℕ = high % 128 * 256 + low in
    let below : sign_extended 15 number % 2 ^ 15 ≡ number = sign_extended-low-15 number (omega arith) in
    record {
      is_offset = ap (sign_extended 15) (sym below);
      rest = rest;
      spelled =
          let both : (high ≡ 128 + sign_extended 15 number / 256 % 128) × (low ≡ sign_extended 15 number % 256) =
          long-bytes (sign_extended 15 number) high low below h h2 l in
          two-bytes high low _ _ rest both.0 both.1;
    }

offset-stands : (bytes : List ℕ) → AreBytes bytes → IfSome (offset_in bytes) (λ read. HasOffset bytes read.0 read.1)
offset-stands [] h = tt
offset-stands (byte ∷ []) h =
    IfSome-cond _ (nat_lt byte 128) _ _ (λ e. short-offset byte [] (within byte 128 e)) (λ e. tt)
offset-stands (byte ∷ low ∷ rest) h =
    IfSome-cond _ (nat_lt byte 128) _ _ (λ e. short-offset byte (low ∷ rest) (within byte 128 e))
    (λ e. long-offset byte low rest (beyond byte 128 e) (h 0) (h 1))

-- ---- effects

abbrev start : ℕ → ℕ → Op
start code first = record (bare code) { first = first }

abbrev step_bytes : Bool → Op → List ℕ
step_bytes step op = if step then offset_bytes op.long_form op.second else []

record HasEffect (step known : Bool) (code first size effect : ℕ) (bytes : List ℕ) (op : Op) (end : ℕ) : Type 0 where
  same_code : op.code ≡ code
  same_first : op.first ≡ first
  no_third : op.third ≡ 0
  same_effect : op.effect ≡ effect
  is_known : known ≡ true
  is_step : IsStep step op
  rest : List ℕ
  spelled : bytes ≡ step_bytes step op ++ rest
  ends : end ≡ size + length (effect ∷ step_bytes step op)

offset-length : (long_form : Bool) (offset : ℕ) → length (offset_bytes long_form offset) ≡ offset_size long_form
offset-length true offset = refl
offset-length false offset = refl

stepping-stands : (known : Bool) (code first size effect : ℕ) (bytes : List ℕ) (read : Option (ℕ × Bool)) → known ≡ true
    → IfSome read (λ o. HasOffset bytes o.0 o.1)
    → IfSome (stepping (record (start code first) { effect = effect }) (size + 1) read)
    (λ read. HasEffect true known code first size effect bytes read.0 read.1)
stepping-stands known code first size effect bytes None k h = tt
stepping-stands known code first size effect bytes (Some o) k h = record {
  same_code = refl;
  same_first = refl;
  no_third = refl;
  same_effect = refl;
  is_known = k;
  is_step = h.is_offset;
  rest = h.rest;
  spelled = h.spelled;
  ends = omega (arith, offset-length o.1 o.0);
}

effect-stands : (step known : Bool) (code first size effect : ℕ) (bytes : List ℕ) → AreBytes bytes → (step ≡ true → known ≡ true)
    → IfSome (cond step (stepping (record (start code first) { effect = effect }) (size + 1) (offset_in bytes))
    (cond known (Some (record (start code first) { effect = effect }, size + 1)) None))
    (λ read. HasEffect step known code first size effect bytes read.0 read.1)
effect-stands true known code first size effect bytes h k =
    stepping-stands known code first size effect bytes (offset_in bytes) (k refl) (offset-stands bytes h)
effect-stands false true code first size effect bytes h k = record {
  same_code = refl;
  same_first = refl;
  no_third = refl;
  same_effect = refl;
  is_known = refl;
  is_step = (refl, refl);
  rest = bytes;
  spelled = refl;
  ends = omega arith;
}
effect-stands false false code first size effect bytes h k = tt

record HasChange (changes : Bool) (code first size : ℕ) (bytes : List ℕ) (op : Op) (end : ℕ) : Type 0 where
  same_code : op.code ≡ code
  same_first : op.first ≡ first
  no_third : op.third ≡ 0
  change : IsChange changes op
  rest : List ℕ
  spelled : bytes ≡ effect_bytes changes op ++ rest
  ends : end ≡ size + length (effect_bytes changes op)

change-from-effect : (code first size effect : ℕ) (bytes : List ℕ) (op : Op) (end : ℕ)
    → HasEffect (is_step effect) (is_effect effect) code first size effect bytes op end → HasChange true code first size (effect ∷ bytes) op end
change-from-effect code first size effect bytes op end h =
    let P : ℕ → Type 0 = λ e. (is_effect e ≡ true) × IsStep (is_step e) op in
    let Q : ℕ → Type 0 = λ e. (effect ∷ bytes) ≡ (e ∷ step_bytes (is_step e) op) ++ h.rest in
    let R : ℕ → Type 0 = λ e. end ≡ size + length (e ∷ step_bytes (is_step e) op) in
    record {
      same_code = h.same_code;
      same_first = h.same_first;
      no_third = h.no_third;
      change = subst P (sym h.same_effect) (h.is_known, h.is_step);
      rest = h.rest;
      spelled = subst Q (sym h.same_effect) (ap (λ bs. effect ∷ bs) h.spelled);
      ends = subst R (sym h.same_effect) h.ends;
    }

known-step : (step other : Bool) → step ≡ true → (step || other) ≡ true
known-step true other e = refl
known-step false other e = absurd (cc)

change-stands : (changes : Bool) (code first size : ℕ) (bytes : List ℕ) → AreBytes bytes
    → IfSome (changing changes (start code first) size bytes) (λ read. HasChange changes code first size bytes read.0 read.1)
change-stands true code first size [] h = tt
change-stands true code first size (effect ∷ bytes) h =
    IfSome_then _ (effect-stands (is_step effect) (is_effect effect) code first size effect bytes (rest-bytes effect bytes h) (known-step (is_step effect) _))
    (λ read. change-from-effect code first size effect bytes read.0 read.1)
change-stands false code first size bytes h = record {
  same_code = refl;
  same_first = refl;
  no_third = refl;
  change = (refl, refl, refl);
  rest = bytes;
  spelled = refl;
  ends = omega arith;
}

-- ---- variables

abbrev variable_bytes : Bool → Bool → Bool → Op → List ℕ
variable_bytes based changes long_place op = (if based then place_bytes long_place op.first else []) ++ effect_bytes changes op

record HasVariable (based : Bool) (code : ℕ) (bytes : List ℕ) (op : Op) (end : ℕ) : Type 0 where
  same_code : op.code ≡ code
  no_third : op.third ≡ 0
  place : IsPlace based op.first
  change : IsChange (changes_variable code) op
  long_place : Bool
  fits : long_place ≡ false → op.first < 128
  rest : List ℕ
  spelled : bytes ≡ variable_bytes based (changes_variable code) long_place op ++ rest
  ends : end ≡ length (variable_bytes based (changes_variable code) long_place op)

short-variable : (code byte : ℕ) (bytes : List ℕ) (op : Op) (end : ℕ) → byte < 128
    → HasChange (changes_variable code) code byte 1 bytes op end → HasVariable true code (byte ∷ bytes) op end
short-variable code byte bytes op end h c = record {
  same_code = c.same_code;
  no_third = c.no_third;
  place = omega (arith, c.same_first);
  change = c.change;
  long_place = false;
  fits = λ _. omega (arith, c.same_first);
  rest = c.rest;
  spelled = ap (λ b. b ∷ bytes) (sym c.same_first) ∙ ap (λ bs. op.first ∷ bs) c.spelled;
  ends = c.ends ∙ omega arith;
}

place-bytes : (place high low : ℕ) → place ≡ high % 128 * 256 + low → 128 ≤ high → high < 256 → low < 256
    → (high ≡ 128 + place / 256) × (low ≡ place % 256)
place-bytes place high low e h h2 l = (omega arith, omega arith)

long-variable : (code high low : ℕ) (bytes : List ℕ) (op : Op) (end : ℕ) → 128 ≤ high → high < 256 → low < 256
    → HasChange (changes_variable code) code (high % 128 * 256 + low) 2 bytes op end → HasVariable true code (high ∷ low ∷ bytes) op end
long-variable code high low bytes op end h h2 l c =
    let both : (high ≡ 128 + op.first / 256) × (low ≡ op.first % 256) = place-bytes op.first high low c.same_first h h2 l in
    record {
      same_code = c.same_code;
      no_third = c.no_third;
      place = omega (arith, c.same_first);
      change = c.change;
      long_place = true;
      fits = λ e. absurd (cc);
      rest = c.rest;
      spelled =
          two-bytes high low _ _ bytes both.0 both.1 ∙ ap (λ bs. (128 + op.first / 256) ∷ (op.first % 256) ∷ bs) c.spelled;
      ends = c.ends ∙ omega arith;
    }

no-base : (code : ℕ) (bytes : List ℕ) (op : Op) (end : ℕ) → HasChange (changes_variable code) code 0 0 bytes op end → HasVariable false code bytes op end
no-base code bytes op end c = record {
  same_code = c.same_code;
  no_third = c.no_third;
  place = c.same_first;
  change = c.change;
  long_place = true;
  fits = λ e. absurd (cc);
  rest = c.rest;
  spelled = c.spelled;
  ends = c.ends ∙ omega arith;
}

variable-stands : (based : Bool) (code : ℕ) (bytes : List ℕ) → AreBytes bytes
    → IfSome (cond based (variable_in code bytes) (changing (changes_variable code) (bare code) 0 bytes))
    (λ read. HasVariable based code bytes read.0 read.1)
variable-stands false code bytes h =
    IfSome_then _ (change-stands (changes_variable code) code 0 0 bytes h) (λ read. no-base code bytes read.0 read.1)
variable-stands true code [] h = tt
variable-stands true code (byte ∷ []) h =
    IfSome-cond _ (nat_lt byte 128) _ _
    (λ e. IfSome_then _ (change-stands (changes_variable code) code byte 1 [] (rest-bytes byte [] h))
    (λ read. short-variable code byte [] read.0 read.1 (within byte 128 e)))
    (λ e. tt)
variable-stands true code (byte ∷ low ∷ bytes) h =
    IfSome-cond _ (nat_lt byte 128) _ _
    (λ e. IfSome_then _ (change-stands (changes_variable code) code byte 1 (low ∷ bytes) (rest-bytes byte (low ∷ bytes) h))
    (λ read. short-variable code byte (low ∷ bytes) read.0 read.1 (within byte 128 e)))
    (λ e. IfSome_then _
    (change-stands (changes_variable code) code (byte % 128 * 256 + low) 2 bytes (rest-bytes low bytes (rest-bytes byte (low ∷ bytes) h)))
    (λ read. long-variable code byte low bytes read.0 read.1 (beyond byte 128 e) (h 0) (h 1)))

-- ---- whole operations

record HasOperands (found : Option Operands) (code : ℕ) (bytes : List ℕ) (op : Op) (end : ℕ) : Type 0 where
  same_code : op.code ≡ code
  operands : FitsOperands found op
  long_place : Bool
  fits : long_place ≡ false → op.first < 128
  rest : List ℕ
  spelled : bytes ≡ operand_bytes found long_place op ++ rest
  ends : end ≡ length (operand_bytes found long_place op)

-- an operation without a variable's offset
plain : (found : Option Operands) (code : ℕ) (bytes : List ℕ) (op : Op) (end : ℕ) → op.code ≡ code → FitsOperands found op
    → (rest : List ℕ) → bytes ≡ operand_bytes found true op ++ rest → end ≡ length (operand_bytes found true op) → HasOperands found code bytes op end
plain found code bytes op end same operands rest spelled ends = record {
  same_code = same;
  operands = operands;
  long_place = true;
  fits = λ e. absurd (cc);
  rest = rest;
  spelled = spelled;
  ends = ends;
}

jump-stands : (code : ℕ) (bytes : List ℕ) (read : Option (ℕ × Bool)) → IfSome read (λ o. HasOffset bytes o.0 o.1)
    → IfSome (jump_in code read) (λ read. HasOperands (Some Offset) code bytes read.0 read.1)
jump-stands code bytes None h = tt
jump-stands code bytes (Some o) h =
    plain (Some Offset) code bytes _ _ refl (refl, h.is_offset) h.rest h.spelled (sym (offset-length o.1 o.0))

short-from-variable : (code : ℕ) (bytes : List ℕ) (op : Op) (end : ℕ) → HasVariable false code bytes op end
    → HasOperands (Some ShortVariable) code bytes op end
short-from-variable code bytes op end v =
    let Change : ℕ → Type 0 = λ c. IsChange (changes_variable c) op in
    let Spelled : ℕ → Type 0 = λ c. bytes ≡ effect_bytes (changes_variable c) op ++ v.rest in
    let Ends : ℕ → Type 0 = λ c. end ≡ length (effect_bytes (changes_variable c) op) in
    plain (Some ShortVariable) code bytes op end v.same_code (v.place, v.no_third, subst Change (sym v.same_code) v.change)
    v.rest (subst Spelled (sym v.same_code) v.spelled) (subst Ends (sym v.same_code) v.ends)

from-variable : (code : ℕ) (bytes : List ℕ) (op : Op) (end : ℕ) → HasVariable (has_base code) code bytes op end
    → HasOperands (Some Variable) code bytes op end
from-variable code bytes op end v =
    let Change : ℕ → Type 0 = λ c. IsPlace (has_base c) op.first × IsChange (changes_variable c) op in
    let Spelled : ℕ → Type 0 = λ c. bytes ≡ variable_bytes (has_base c) (changes_variable c) v.long_place op ++ v.rest in
    let Ends : ℕ → Type 0 = λ c. end ≡ length (variable_bytes (has_base c) (changes_variable c) v.long_place op) in
    let change : Change op.code = subst Change (sym v.same_code) (v.place, v.change) in
    record {
      same_code = v.same_code;
      operands = (v.no_third, change.0, change.1);
      long_place = v.long_place;
      fits = v.fits;
      rest = v.rest;
      spelled = subst Spelled (sym v.same_code) v.spelled;
      ends = subst Ends (sym v.same_code) v.ends;
    }

from-register : (code byte : ℕ) (bytes : List ℕ) (op : Op) (end : ℕ) → is_register code byte ≡ true
    → HasChange (changes_register byte) code byte 1 bytes op end → HasOperands (Some Register) code (byte ∷ bytes) op end
from-register code byte bytes op end e c =
    let Code : ℕ → Type 0 = λ n. is_register n byte ≡ true in
    let Change : ℕ → Type 0 = λ n. (is_register op.code n ≡ true) × IsChange (changes_register n) op in
    let Spelled : ℕ → Type 0 = λ n. (byte ∷ bytes) ≡ (n ∷ effect_bytes (changes_register n) op) ++ c.rest in
    let Ends : ℕ → Type 0 = λ n. end ≡ length (n ∷ effect_bytes (changes_register n) op) in
    let change : Change op.first = subst Change (sym c.same_first) (subst Code (sym c.same_code) e, c.change) in
    plain (Some Register) code (byte ∷ bytes) op end c.same_code (c.no_third, change.0, change.1) c.rest
    (subst Spelled (sym c.same_first) (ap (λ bs. byte ∷ bs) c.spelled))
    (subst Ends (sym c.same_first) (c.ends ∙ omega arith))

three-bytes : (a b c x y z : ℕ) (rest : List ℕ) → a ≡ x → b ≡ y → c ≡ z → ◌≡◌ {A = List ℕ} (a ∷ b ∷ c ∷ rest) (x ∷ y ∷ z ∷ rest)
three-bytes a b c x y z rest p q r = λ k. p k ∷ q k ∷ r k ∷ rest

four-bytes : (a b c d x y z w : ℕ) (rest : List ℕ) → a ≡ x → b ≡ y → c ≡ z → d ≡ w
    → ◌≡◌ {A = List ℕ} (a ∷ b ∷ c ∷ d ∷ rest) (x ∷ y ∷ z ∷ w ∷ rest)
four-bytes a b c d x y z w rest p q r t = λ k. p k ∷ q k ∷ r k ∷ t k ∷ rest

-- numbers of two, three and four bytes
word : (code a b : ℕ) (rest : List ℕ) → a < 256 → b < 256
    → HasOperands (Some Word) code (a ∷ b ∷ rest) (record (bare code) { first = a * 2 ^ 8 + b }) 2
word code a b rest ha hb =
    plain (Some Word) code _ _ _ refl (refl, omega arith) rest (two-bytes a b _ _ rest (omega arith) (omega arith)) refl

triple : (code a b c : ℕ) (rest : List ℕ) → a < 256 → b < 256 → c < 256
    → HasOperands (Some Triple) code (a ∷ b ∷ c ∷ rest) (record (bare code) { first = a * 2 ^ 16 + b * 2 ^ 8 + c }) 3
triple code a b c rest ha hb hc =
    plain (Some Triple) code _ _ _ refl (refl, omega arith) rest
    (three-bytes a b c _ _ _ rest (omega arith) (omega arith) (omega arith)) refl

long : (code a b c d : ℕ) (rest : List ℕ) → a < 256 → b < 256 → c < 256 → d < 256
    → HasOperands (Some Long) code (a ∷ b ∷ c ∷ d ∷ rest) (record (bare code) { first = a * 2 ^ 24 + b * 2 ^ 16 + c * 2 ^ 8 + d }) 4
long code a b c d rest ha hb hc hd =
    plain (Some Long) code _ _ _ refl (refl, omega arith) rest
    (four-bytes a b c d _ _ _ _ rest (omega arith) (omega arith) (omega arith) (omega arith)) refl

operands-stand : (found : Option Operands) (code : ℕ) (bytes : List ℕ) → AreBytes bytes
    → IfSome (coded found code bytes) (λ read. HasOperands found code bytes read.0 read.1)
operands-stand None code bytes h = tt
operands-stand (Some Nothing) code bytes h = plain (Some Nothing) code bytes _ _ refl refl bytes refl refl
operands-stand (Some Offset) code bytes h = jump-stands code bytes (offset_in bytes) (offset-stands bytes h)
operands-stand (Some OneByte) code [] h = tt
operands-stand (Some OneByte) code (a ∷ rest) h = plain (Some OneByte) code _ _ _ refl (refl, h 0) rest refl refl
operands-stand (Some TwoBytes) code [] h = tt
operands-stand (Some TwoBytes) code (a ∷ []) h = tt
operands-stand (Some TwoBytes) code (a ∷ b ∷ rest) h = plain (Some TwoBytes) code _ _ _ refl (refl, h 0, h 1) rest refl refl
operands-stand (Some ThreeBytes) code [] h = tt
operands-stand (Some ThreeBytes) code (a ∷ []) h = tt
operands-stand (Some ThreeBytes) code (a ∷ b ∷ []) h = tt
operands-stand (Some ThreeBytes) code (a ∷ b ∷ c ∷ rest) h = plain (Some ThreeBytes) code _ _ _ refl (refl, h 0, h 1, h 2) rest refl refl
operands-stand (Some SevenBits) code [] h = tt
operands-stand (Some SevenBits) code (a ∷ rest) h =
    IfSome-cond _ (nat_lt a 128) _ _ (λ e. plain (Some SevenBits) code _ _ _ refl (refl, within a 128 e) rest refl refl) (λ e. tt)
operands-stand (Some Word) code [] h = tt
operands-stand (Some Word) code (a ∷ []) h = tt
operands-stand (Some Word) code (a ∷ b ∷ rest) h = word code a b rest (h 0) (h 1)
operands-stand (Some Triple) code [] h = tt
operands-stand (Some Triple) code (a ∷ []) h = tt
operands-stand (Some Triple) code (a ∷ b ∷ []) h = tt
operands-stand (Some Triple) code (a ∷ b ∷ c ∷ rest) h = triple code a b c rest (h 0) (h 1) (h 2)
operands-stand (Some Long) code [] h = tt
operands-stand (Some Long) code (a ∷ []) h = tt
operands-stand (Some Long) code (a ∷ b ∷ []) h = tt
operands-stand (Some Long) code (a ∷ b ∷ c ∷ []) h = tt
operands-stand (Some Long) code (a ∷ b ∷ c ∷ d ∷ rest) h = long code a b c d rest (h 0) (h 1) (h 2) (h 3)
operands-stand (Some Register) code [] h = tt
operands-stand (Some Register) code (byte ∷ bytes) h =
    IfSome-cond _ (is_register code byte) _ _
    (λ e. IfSome_then _ (change-stands (changes_register byte) code byte 1 bytes (rest-bytes byte bytes h))
    (λ read. from-register code byte bytes read.0 read.1 e))
    (λ e. tt)
operands-stand (Some ShortVariable) code bytes h =
    IfSome_then _ (variable-stands false code bytes h) (λ read. short-from-variable code bytes read.0 read.1)
operands-stand (Some Variable) code bytes h =
    IfSome_then _ (variable-stands (has_base code) code bytes h) (λ read. from-variable code bytes read.0 read.1)

from-operands : (code : ℕ) (bytes : List ℕ) (op : Op) (end : ℕ) → HasOperands (operands_of code) code bytes op end → Stands (code ∷ bytes) op (1 + end)
from-operands code bytes op end o =
    let Fits : ℕ → Type 0 = λ c. FitsOperands (operands_of c) op in
    let Spelled : ℕ → Type 0 = λ c. (code ∷ bytes) ≡ (c ∷ operand_bytes (operands_of c) o.long_place op) ++ o.rest in
    let Ends : ℕ → Type 0 = λ c. 1 + end ≡ length (c ∷ operand_bytes (operands_of c) o.long_place op) in
    record {
      is_op = record { operands = subst Fits (sym o.same_code) o.operands };
      long_place = o.long_place;
      fits = o.fits;
      rest = o.rest;
      spelled = subst Spelled (sym o.same_code) (ap (λ bs. code ∷ bs) o.spelled);
      ends = subst Ends (sym o.same_code) (omega (arith, o.ends));
    }

IfSome-map : {T : Type 0} (P : T → Type 0) (f : T → T) (read : Option T) → IfSome read (λ r. P (f r)) → IfSome (option_map f read) P
IfSome-map P f None h = tt
IfSome-map P f (Some r) h = h

pub what-is-read-stands : (bytes : List ℕ) → AreBytes bytes → IfSome (op_in bytes) (λ read. Stands bytes read.0 read.1)
what-is-read-stands [] h = tt
what-is-read-stands (code ∷ bytes) h =
    IfSome-map _ (λ read. (read.0, 1 + read.1)) (coded (operands_of code) code bytes)
    (IfSome_then _ (operands-stand (operands_of code) code bytes (rest-bytes code bytes h)) (λ read. from-operands code bytes read.0 read.1))
