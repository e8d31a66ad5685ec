-- The frames that a row of bytes is received as.
use Rattle.std.proofs.Common.{◌≡◌, ◌∙◌, ap, sym, refl, ℕ, zero, suc, ◌+◌, ◌*◌, ◌/◌, ◌%◌, ◌^◌, ◌==◌, ◌<◌, ◌≤◌, ◌&&◌, Bool, true, false, not, if◌then◌else◌, List, [], ◌∷◌, ◌++◌, Some, codes, length, filter, flat_map, All, add_comm, arith}
use Rattle.std.specs.Prelude.{slice_get}
use Rattle.std.specs.Int.{bit_at}
use Rattle.std.specs.Fmt.{decimal}
use Rattle.std.proofs.Math.Nat.{mul-suc, suc-mul}
use Rattle.std.proofs.lemmas.Nat.{mod-pow-add}
use Rattle.std.proofs.lemmas.Nat.Bits.{bit_at-lt}
use Rattle.std.proofs.lemmas.List.Elements.{All-head, All-tail}
use Rattle.p8_instr.specs.Numerals.{hex}
use Rattle.p8_pins.specs.Levels.{is_high}
use Rattle.p8_serial.specs.Serial.{stop_of, frames, number_at, byte_at, is_good, frame_text, frames_text}
use Rattle.p8_serial.specs.Typed.{has_bit, frame_of, line_at, lines_from}
use Rattle.p8_serial.specs.Laws.{received, received_text}
use Rattle.p8_serial.specs.Receiving.{falls}
use Rattle.p8_serial.proofs.Edges.{skips-if, begins}
use Rattle.p8_serial.proofs.Rows.{last_of, clock_after, high-is, Sends, sends-at, sends-next}

-- a frame without its start bit
rest_of : ℕ → List Bool
rest_of byte =
    has_bit byte 0 ∷ has_bit byte 1 ∷ has_bit byte 2 ∷ has_bit byte 3 ∷ has_bit byte 4 ∷ has_bit byte 5 ∷ has_bit byte 6 ∷ has_bit byte 7 ∷ true ∷ []

frame-parts : (byte : ℕ) → frame_of byte ≡ false ∷ rest_of byte
unfolding frame_of rest_of
frame-parts byte = refl

-- where the frames of bytes begin
pub starts : ℕ → ℕ → List ℕ → List ℕ
starts bits clock [] = []
starts bits clock (byte ∷ bytes) = clock ∷ starts bits (clock + 10 * bits) bytes

-- no bit of a row begins after a clock
InTime : (bits after clock : ℕ) → List Bool → Type 0
InTime bits after clock [] = Unit {0}
InTime bits after clock (bit ∷ row) = (clock ≤ after) × InTime bits after (clock + bits) row

module _ (pin bits end : ℕ) where
  skip-fall : (after clock : ℕ) (before bit : Bool) (rest : List Bool) → clock ≤ after
      → frames bits end after (falls pin before (line_at pin clock bit ∷ lines_from pin bits (clock + bits) bit rest)) ≡ frames bits end after (falls pin bit (lines_from pin bits (clock + bits) bit rest))
  skip-fall after clock before bit rest le =
      let high = is_high pin (line_at pin clock bit).levels in let later = lines_from pin bits (clock + bits) bit rest in
      skips-if bits end (before && not high) after clock (falls pin high later) le ∙ ap (λ (h : Bool). frames bits end after (falls pin h later)) (high-is pin bits bit)

  skip-bit : (after clock : ℕ) (before bit : Bool) (rest : List Bool) → clock ≤ after
      → frames bits end after (falls pin before (lines_from pin bits clock before (bit ∷ rest))) ≡ frames bits end after (falls pin bit (lines_from pin bits (clock + bits) bit rest))
  skip-bit after clock true true rest le = refl
  skip-bit after clock false false rest le = refl
  skip-bit after clock true false rest le = skip-fall after clock true false rest le
  skip-bit after clock false true rest le = skip-fall after clock false true rest le

  skip-row : (bits_ : List Bool) (after clock : ℕ) (before : Bool) (rest : List Bool) → InTime bits after clock bits_
      → frames bits end after (falls pin before (lines_from pin bits clock before (bits_ ++ rest))) ≡ frames bits end after (falls pin (last_of before bits_) (lines_from pin bits (clock_after bits clock bits_) (last_of before bits_) rest))
  unfolding InTime last_of clock_after
  skip-row [] after clock before rest time = refl
  skip-row (bit ∷ bits_) after clock before rest time = skip-bit after clock before bit (bits_ ++ rest) time.0 ∙ skip-row bits_ after (clock + bits) bit rest time.1

  rest-clock : (clock byte : ℕ) → clock_after bits (clock + bits) (rest_of byte) ≡ clock + 10 * bits
  unfolding rest_of clock_after
  rest-clock clock byte = omega arith

  rest-last : (byte : ℕ) → last_of false (rest_of byte) ≡ true
  unfolding rest_of last_of
  rest-last byte = refl

  in-time : (clock byte : ℕ) → InTime bits (stop_of bits clock) (clock + bits) (rest_of byte)
  unfolding InTime rest_of
  in-time clock byte =
      (omega arith, (omega arith, (omega arith, (omega arith, (omega arith, (omega arith, (omega arith, (omega arith, (omega arith, tt)))))))))

  one-frame : (after clock byte : ℕ) (rest : List Bool) → after < clock → stop_of bits clock < end
      → frames bits end after (falls pin true (lines_from pin bits clock true (frame_of byte ++ rest))) ≡ clock ∷ frames bits end (stop_of bits clock) (falls pin true (lines_from pin bits (clock + 10 * bits) true rest))
  one-frame after clock byte rest later counts =
      let stop = stop_of bits clock in
      let behind = lines_from pin bits (clock + bits) false (rest_of byte ++ rest) in
      ap (λ (f : List Bool). frames bits end after (falls pin true (lines_from pin bits clock true (f ++ rest)))) (frame-parts byte)
      ∙ ap (λ (h : Bool). frames bits end after (if true && not h then clock ∷ falls pin h behind else falls pin h behind)) (high-is pin bits false)
      ∙ begins bits end after clock (falls pin false behind) later counts
      ∙ ap (λ (s : List ℕ). clock ∷ s) (
      skip-row (rest_of byte) stop (clock + bits) false rest (in-time clock byte)
      ∙ ap (λ (h : Bool). frames bits end stop (falls pin h (lines_from pin bits (clock_after bits (clock + bits) (rest_of byte)) h rest))) (rest-last byte)
      ∙ ap (λ (c : ℕ). frames bits end stop (falls pin true (lines_from pin bits c true rest))) (rest-clock clock byte)
      )

  pub all-frames : (bytes : List ℕ) (after clock : ℕ) → 1 ≤ bits → after < clock → clock + 10 * bits * length bytes < end → frames bits end after (falls pin true (lines_from pin bits clock true (flat_map frame_of bytes))) ≡ starts bits clock bytes
  unfolding starts
  all-frames [] after clock some later ends = refl
  all-frames (byte ∷ bytes) after clock some later ends =
      let more : 10 * bits * suc (length bytes) ≡ 10 * bits * length bytes + 10 * bits = mul-suc (10 * bits) (length bytes) in
      one-frame after clock byte (flat_map frame_of bytes) later (omega (arith, ends, more, some))
      ∙ ap (λ (s : List ℕ). clock ∷ s) (all-frames bytes (stop_of bits clock) (clock + 10 * bits) some (omega (arith, some)) (omega (arith, ends, more)))

-- the number in the first bits of a byte
number_of : ℕ → ℕ → ℕ
number_of byte zero = 0
number_of byte (suc i) = number_of byte i + (if has_bit byte i then 2 ^ i else 0)

if-one : (x p : ℕ) → x < 2 → (if x == 1 then p else 0) ≡ x * p
if-one zero p less = omega arith
if-one (suc zero) p less = omega arith
if-one (suc (suc x)) p less = absurd (omega (arith, less))

number-is : (byte n : ℕ) → number_of byte n ≡ byte % 2 ^ n
unfolding number_of
number-is byte zero = omega arith
number-is byte (suc i) =
    ap (λ (x : ℕ). x + (if has_bit byte i then 2 ^ i else 0)) (number-is byte i)
    ∙ ap (λ (x : ℕ). byte % 2 ^ i + x) (if-one (bit_at byte i) (2 ^ i) (bit_at-lt byte i))
    ∙ add_comm (byte % 2 ^ i) (bit_at byte i * 2 ^ i)
    ∙ sym (mod-pow-add byte 1 i)
    ∙ ap (λ (k : ℕ). byte % 2 ^ k) (omega arith)

byte-is : (byte : ℕ) → byte < 256 → number_of byte 8 ≡ byte
byte-is byte small = number-is byte 8 ∙ omega (arith, small)

frame-bit : (byte i : ℕ) (rest : List Bool) → i < 8 → slice_get (frame_of byte ++ rest) (suc i) ≡ Some (has_bit byte i)
unfolding frame_of
frame-bit byte zero rest h = refl
frame-bit byte (suc zero) rest h = refl
frame-bit byte (suc (suc zero)) rest h = refl
frame-bit byte (suc (suc (suc zero))) rest h = refl
frame-bit byte (suc (suc (suc (suc zero)))) rest h = refl
frame-bit byte (suc (suc (suc (suc (suc zero))))) rest h = refl
frame-bit byte (suc (suc (suc (suc (suc (suc zero)))))) rest h = refl
frame-bit byte (suc (suc (suc (suc (suc (suc (suc zero))))))) rest h = refl
frame-bit byte (suc (suc (suc (suc (suc (suc (suc (suc i)))))))) rest h = absurd (omega (arith, h))

frame-stop : (byte : ℕ) (rest : List Bool) → slice_get (frame_of byte ++ rest) 9 ≡ Some true
unfolding frame_of
frame-stop byte rest = refl

module _ (pin bits : ℕ) (some : 1 ≤ bits) (whole : ℕ → Bool) where
  module _ (clock byte : ℕ) (rest : List Bool) (s : Sends pin bits whole clock true (frame_of byte ++ rest)) where
    more : (i : ℕ) → (i + 1) * bits ≡ i * bits + bits
    more i = ap (λ (k : ℕ). k * bits) (omega arith) ∙ suc-mul i bits

    bit-heard : (i : ℕ) → i < 8 → whole (clock + (i + 1) * bits + bits / 2) ≡ has_bit byte i
    bit-heard i h =
        sends-at pin bits whole (frame_of byte ++ rest) clock (suc i) (clock + (i + 1) * bits + bits / 2) true (has_bit byte i) s (frame-bit byte i rest h)
        (omega (arith, suc-mul i bits, more i)) (omega (arith, suc-mul i bits, more i, some))

    number-heard : (n : ℕ) → n ≤ 8 → number_at whole bits clock n ≡ number_of byte n
    unfolding number_of
    number-heard zero le = refl
    number-heard (suc i) le =
        ap (λ (x : ℕ). x + (if whole (clock + (i + 1) * bits + bits / 2) then 2 ^ i else 0)) (number-heard i (omega (arith, le)))
        ∙ ap (λ (b : Bool). number_of byte i + (if b then 2 ^ i else 0)) (bit-heard i (omega (arith, le)))

    good-heard : is_good whole bits clock ≡ true
    good-heard = sends-at pin bits whole (frame_of byte ++ rest) clock 9 (stop_of bits clock) true true s (frame-stop byte rest) (omega arith) (omega (arith, some))

    text-heard : byte < 256 → frame_text whole bits clock ≡ decimal clock ++ codes " " ++ hex 2 byte ++ 10 ∷ []
    text-heard small =
        ap (λ (g : Bool). decimal clock ++ codes " " ++ (if g then hex 2 (byte_at whole bits clock) else codes "framing") ++ 10 ∷ []) good-heard
        ∙ ap (λ (b : ℕ). decimal clock ++ codes " " ++ hex 2 b ++ 10 ∷ []) (number-heard 8 (omega arith) ∙ byte-is byte small)

  lines-heard : (bytes : List ℕ) (clock : ℕ) → All (λ byte. byte < 256) bytes → Sends pin bits whole clock true (flat_map frame_of bytes) → flat_map (frame_text whole bits) (starts bits clock bytes) ≡ received bits clock bytes
  unfolding starts
  lines-heard [] clock fit s = refl
  lines-heard (byte ∷ bytes) clock fit s =
      ap (λ (line : List ℕ). line ++ flat_map (frame_text whole bits) (starts bits (clock + 10 * bits) bytes)) (text-heard clock byte (flat_map frame_of bytes) s (All-head (λ b. b < 256) byte bytes fit))
      ∙ ap (λ (lines : List ℕ). (decimal clock ++ codes " " ++ hex 2 byte ++ 10 ∷ []) ++ lines)
      (lines-heard bytes (clock + 10 * bits) (All-tail (λ b. b < 256) byte bytes fit) (sends-next pin bits whole clock byte (flat_map frame_of bytes) s))

  count-heard : (bytes : List ℕ) (clock : ℕ) → Sends pin bits whole clock true (flat_map frame_of bytes) → length (filter (is_good whole bits) (starts bits clock bytes)) ≡ length bytes
  unfolding starts
  count-heard [] clock s = refl
  count-heard (byte ∷ bytes) clock s =
      ap (λ (g : Bool). length (if g then clock ∷ filter (is_good whole bits) (starts bits (clock + 10 * bits) bytes) else filter (is_good whole bits) (starts bits (clock + 10 * bits) bytes))) (good-heard clock byte (flat_map frame_of bytes) s)
      ∙ ap suc (count-heard bytes (clock + 10 * bits) (sends-next pin bits whole clock byte (flat_map frame_of bytes) s))

  pub all-heard : (bytes : List ℕ) (clock : ℕ) → All (λ byte. byte < 256) bytes → Sends pin bits whole clock true (flat_map frame_of bytes) → frames_text whole bits (starts bits clock bytes) ≡ received_text bytes bits clock
  all-heard bytes clock fit s =
      ap (λ (lines : List ℕ). lines ++ codes "bytes " ++ decimal (length (filter (is_good whole bits) (starts bits clock bytes))) ++ 10 ∷ []) (lines-heard bytes clock fit s)
      ∙ ap (λ (n : ℕ). received bits clock bytes ++ codes "bytes " ++ decimal n ++ 10 ∷ []) (count-heard bytes clock s)
