-- Clocks at which a test holds.
use Rattle.std.proofs.Common.{◌≡◌, ◌∙◌, refl, ap, ℕ, zero, suc, ◌+◌, ◌-◌, ◌<◌, ◌≤◌, List, [], ◌∷◌, ◌++◌, Bool, true, false, ◌||◌, if◌then◌else◌, filter, arith}
use Rattle.std.specs.List.{range_with_len, list_any}
use Rattle.std.proofs.lemmas.List.Elements.{filter-append}
use Rattle.std.proofs.lemmas.List.Folds.{list_any-append}

split : (a m n : ℕ) → range_with_len a (m + n) ≡ range_with_len a m ++ range_with_len (a + m) n
split a zero n = let e : 0 + n ≡ n = omega arith in let z : a + 0 ≡ a = omega arith in rw (e, z) refl
split a (suc m) n =
    let e : suc m + n ≡ suc (m + n) = omega arith in
    let z : a + suc m ≡ a + 1 + m = omega arith in
    rw (e, z) (ap (λ xs. a ∷ xs) (split (a + 1) m n))

swapped : (a b : Bool) → (a || (b || false)) ≡ (b || a)
swapped true true = refl
swapped true false = refl
swapped false true = refl
swapped false false = refl

module _ (f : ℕ → Bool) where
  -- nothing from a clock on
  pub none : (a n : ℕ) → ((u : ℕ) → a ≤ u → u < a + n → f u ≡ false) → filter f (range_with_len a n) ≡ []
  none a zero quiet = refl
  none a (suc n) quiet =
      let here : f a ≡ false = quiet a (omega arith) (omega arith) in
      rw here (none (a + 1) n (λ u low high. quiet u (omega arith) (omega arith)))

  pub none_any : (a n : ℕ) → ((u : ℕ) → a ≤ u → u < a + n → f u ≡ false) → list_any f (range_with_len a n) ≡ false
  none_any a zero quiet = refl
  none_any a (suc n) quiet =
      let here : f a ≡ false = quiet a (omega arith) (omega arith) in
      rw here (none_any (a + 1) n (λ u low high. quiet u (omega arith) (omega arith)))

  one : (c : ℕ) (tail : List ℕ) → tail ≡ [] → (if f c then c ∷ tail else tail) ≡ (if f c then c ∷ [] else [])
  one c tail empty = rw empty refl

  -- from one clock on up to the next, of which it holds at the first at most
  module _ (last before clock : ℕ) (first : clock ≡ before + 1) (later : clock ≤ last) (quiet : (u : ℕ) → clock < u → u ≤ last → f u ≡ false) where
    pub more_clocks : filter f (range_with_len 1 last) ≡ filter f (range_with_len 1 before) ++ (if f clock then clock ∷ [] else [])
    more_clocks =
        let count : last ≡ before + suc (last - clock) = omega arith in
        let from : 1 + before ≡ clock = omega arith in
        ap (λ n. filter f (range_with_len 1 n)) count
        ∙ ap (filter f) (split 1 before (suc (last - clock)))
        ∙ filter-append f (range_with_len 1 before) (range_with_len (1 + before) (suc (last - clock)))
        ∙ ap (λ a. filter f (range_with_len 1 before) ++ filter f (range_with_len a (suc (last - clock)))) from
        ∙ ap (λ xs. filter f (range_with_len 1 before) ++ xs) (one clock _ (none (clock + 1) (last - clock) (λ u low high. quiet u (omega arith) (omega arith))))

    pub more_any : list_any f (range_with_len 1 last) ≡ (f clock || list_any f (range_with_len 1 before))
    more_any =
        let count : last ≡ before + suc (last - clock) = omega arith in
        let from : 1 + before ≡ clock = omega arith in
        let nothing = none_any (clock + 1) (last - clock) (λ u low high. quiet u (omega arith) (omega arith)) in
        ap (λ n. list_any f (range_with_len 1 n)) count
        ∙ ap (list_any f) (split 1 before (suc (last - clock)))
        ∙ list_any-append f (range_with_len 1 before) (range_with_len (1 + before) (suc (last - clock)))
        ∙ ap (λ a. list_any f (range_with_len 1 before) || list_any f (range_with_len a (suc (last - clock)))) from
        ∙ ap (λ b. list_any f (range_with_len 1 before) || (f clock || b)) nothing
        ∙ swapped (list_any f (range_with_len 1 before)) (f clock)

-- up to the last clock
pub all_any : (f : ℕ → Bool) (last : ℕ) → f 0 ≡ false → list_any f (range_with_len 1 last) ≡ (f last || list_any f (range_with_len 1 (last - 1)))
all_any f zero never = rw never refl
all_any f (suc last) never = more_any f (suc last) (suc last - 1) (suc last) (omega arith) (omega arith) (λ u up below. absurd (omega arith))
