-- Lists of lines whose clocks rise.
use Rattle.std.proofs.Common.{◌≡◌, ◌∙◌, ap, refl, ℕ, zero, suc, ◌+◌, ◌<◌, ◌≤◌, inl, inr, List, [], ◌∷◌, ◌++◌, length, arith, length-append}
use Rattle.std.specs.List.Sorted.{IsStrictlyIncreasing}
use Rattle.std.proofs.lemmas.Bool.{cases_lt}
use Rattle.std.proofs.lemmas.List.{length-map}
use Rattle.p8_access.specs.Worlds.{Line}
use Rattle.p8_pins.specs.Scripts.{clocks_of}
use Rattle.p8_pins.specs.Changes.{clock_of}

-- the clocks of two parts of a script
pub clock_of-front : (a b : List Line) (k : ℕ) → k < length a → clock_of (a ++ b) k ≡ clock_of a k
clock_of-front [] b k h = absurd (omega arith)
clock_of-front (x ∷ a) b zero h = refl
clock_of-front (x ∷ a) b (suc k) h = clock_of-front a b k (omega arith)

pub clock_of-seam : (a : List Line) (line : Line) (b : List Line) → clock_of (a ++ line ∷ b) (length a) ≡ line.clock
clock_of-seam [] line b = refl
clock_of-seam (x ∷ a) line b = clock_of-seam a line b

pub length-clocks : (script : List Line) → length (clocks_of script) ≡ length script
length-clocks script = length-map script (λ (line : Line). line.clock)

pub rising-front : (a b : List Line) → IsStrictlyIncreasing (clocks_of (a ++ b)) → IsStrictlyIncreasing (clocks_of a)
rising-front a b rising k h =
    let within : k + 1 < length a = omega (arith, length-clocks a) in
    let step = rising k (omega (arith, length-clocks (a ++ b), length-append a b)) in
    omega (arith, clock_of-front a b k (omega arith), clock_of-front a b (k + 1) within)

-- each clock is less than each later one
pub clock_of-lt : (script : List Line) (i j : ℕ) → IsStrictlyIncreasing (clocks_of script) → i < j → j < length script → clock_of script i < clock_of script j
clock_of-lt script i zero rising lt h = absurd (omega arith)
clock_of-lt script i (suc j) rising lt h =
    let step : clock_of script j < clock_of script (j + 1) = rising j (omega (arith, length-clocks script)) in
    let here : clock_of script (j + 1) ≡ clock_of script (suc j) = ap (clock_of script) (omega arith) in
    elim (cases_lt i j) [
      | inl before ↦ omega (arith, clock_of-lt script i j rising before (omega arith))
      | inr past ↦ (let same : clock_of script i ≡ clock_of script j = ap (clock_of script) (omega arith) in omega arith)
    ]

-- a line follows a script exactly where the longer list rises
pub rising-more : (script : List Line) (line : Line) → IsStrictlyIncreasing (clocks_of script) → ((k : ℕ) → k < length script → clock_of script k < line.clock) → IsStrictlyIncreasing (clocks_of (script ++ line ∷ []))
rising-more script line rising later k h =
    let len : length (clocks_of (script ++ line ∷ [])) ≡ length script + 1 = length-clocks (script ++ line ∷ []) ∙ length-append script (line ∷ []) in
    elim (cases_lt (k + 1) (length script)) [
      | inl inside ↦ omega (arith, rising k (omega (arith, length-clocks script)), clock_of-front script (line ∷ []) k (omega arith), clock_of-front script (line ∷ []) (k + 1) inside)
      | inr last ↦
          (let at : clock_of (script ++ line ∷ []) (k + 1) ≡ line.clock = ap (clock_of (script ++ line ∷ [])) (omega arith) ∙ clock_of-seam script line [] in
          omega (arith, later k (omega arith), clock_of-front script (line ∷ []) k (omega arith)))
    ]

pub rising-later : (script : List Line) (line : Line) → IsStrictlyIncreasing (clocks_of (script ++ line ∷ [])) → (k : ℕ) → k < length script → clock_of script k < line.clock
rising-later script line rising k h =
    omega (arith, clock_of-lt (script ++ line ∷ []) k (length script) rising h (omega (arith, length-append script (line ∷ []))), clock_of-front script (line ∷ []) k h, clock_of-seam script line [])

-- the clocks don't fall
pub clock_of-le : (lines : List Line) (i j : ℕ) → IsStrictlyIncreasing (clocks_of lines) → i ≤ j → j < length lines → clock_of lines i ≤ clock_of lines j
clock_of-le lines i j rising le h =
    elim (cases_lt i j) [
      | inl before ↦ omega (arith, clock_of-lt lines i j rising before h)
      | inr same ↦ (let e : clock_of lines i ≡ clock_of lines j = ap (clock_of lines) {x = i} {y = j} (omega arith) in omega arith)
    ]
