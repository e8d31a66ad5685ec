-- Units of UTF-16 by their bytes.
use Rattle.std.proofs.Common.{◌≡◌, ℕ, zero, suc, ◌+◌, ◌*◌, ◌/◌, ◌<◌, ◌≤◌, Bool, true, List, [], ◌∷◌, length, take, drop, get_or, refl, sym, ap, ◌∙◌, arith}
use Rattle.std.specs.Prelude.{◌==◌, if◌then◌else◌}
use Rattle.p8_lexer.specs.Characters.{units, decoded}

double : (n : ℕ) → 2 * suc n ≡ suc (suc (2 * n))
double n = omega arith

pub units-length : (bytes : List ℕ) → length (units bytes) ≡ length bytes / 2
units-length [] = refl
units-length (low ∷ []) = refl
units-length (low ∷ high ∷ bytes) = omega (arith, units-length bytes)

pub units-at : (bytes : List ℕ) (i : ℕ) → i < length (units bytes) → get_or (units bytes) i 0 ≡ (if get_or bytes (2 * i + 1) 0 == 0 then get_or bytes (2 * i) 0 else 63)
units-at [] i h = absurd (omega arith)
units-at (low ∷ []) i h = absurd (omega arith)
units-at (low ∷ high ∷ bytes) zero h = refl
units-at (low ∷ high ∷ bytes) (suc i) h =
    let e : 2 * suc i ≡ suc (suc (2 * i)) = omega arith in
    let f : 2 * suc i + 1 ≡ suc (suc (2 * i + 1)) = omega arith in
    rw (f, e) (units-at bytes i (omega arith))

pub units-drop : (n : ℕ) (bytes : List ℕ) → units (drop (2 * n) bytes) ≡ drop n (units bytes)
units-drop zero bytes = refl
units-drop (suc n) [] = rw (double n) refl
units-drop (suc n) (low ∷ []) = rw (double n) refl
units-drop (suc n) (low ∷ high ∷ bytes) = rw (double n) (units-drop n bytes)

pub units-take : (n : ℕ) (bytes : List ℕ) → units (take (2 * n) bytes) ≡ take n (units bytes)
units-take zero bytes = refl
units-take (suc n) [] = rw (double n) refl
units-take (suc n) (low ∷ []) = rw (double n) refl
units-take (suc n) (low ∷ high ∷ bytes) = rw (double n) (ap (λ us. (if high == 0 then low else 63) ∷ us) (units-take n bytes))

-- the characters of a part of a file, in the one encoding and in the other
module _ (utf16 : Bool) (bytes text : List ℕ) (view : decoded utf16 bytes ≡ text) where
  pub in_units : utf16 ≡ true → text ≡ units bytes
  in_units u = sym view ∙ ap (λ u. decoded u bytes) u

  pub unit_within : utf16 ≡ true → (i : ℕ) → i < length text → 2 * i + 1 < length bytes
  unit_within u i h = omega (arith, ap length (in_units u), units-length bytes)

  pub unit_at : utf16 ≡ true → (i : ℕ) → i < length text → get_or text i 0 ≡ (if get_or bytes (2 * i + 1) 0 == 0 then get_or bytes (2 * i) 0 else 63)
  unit_at u i h = ap (λ t. get_or t i 0) (in_units u) ∙ units-at bytes i (omega (arith, ap length (in_units u)))

  pub units_within : utf16 ≡ true → (n : ℕ) → n ≤ length text → 2 * n ≤ length bytes
  units_within u n h = omega (arith, ap length (in_units u), units-length bytes)

  pub units_behind : utf16 ≡ true → (n : ℕ) → units (drop (2 * n) bytes) ≡ drop n text
  units_behind u n = units-drop n bytes ∙ ap (drop n) (sym (in_units u))

  pub units_before : utf16 ≡ true → (n : ℕ) → units (take (2 * n) bytes) ≡ take n text
  units_before u n = units-take n bytes ∙ ap (take n) (sym (in_units u))
