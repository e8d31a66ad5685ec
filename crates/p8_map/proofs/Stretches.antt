-- A text as items, stretch by stretch.
use Rattle.std.proofs.Common.{◌≡◌, ◌∙◌, refl, sym, ap, arith, ℕ, suc, ◌≤◌, ◌&&◌, Bool, true, false, if◌then◌else◌, List, [], ◌∷◌, ◌++◌, length, map, append-nil, append_assoc}
use Rattle.std.specs.Prelude.{take, drop, codes}
use Rattle.p8_map.specs.Stretches.{quotables, stretch_size, comma}
use Rattle.p8_map.specs.Strings.{is_quotable, in_front, stretches_of, item_text, joined}

-- ---- the first stretch

chosen : (b d : Bool) (x y : List (List ℕ)) → b ≡ false → (if b && d then x else y) ≡ y
chosen true d x y is = absurd (cc)
chosen false d x y is = refl

-- a byte that can't stand in quotes stands alone
alone : (c : ℕ) (stretches : List (List ℕ)) → is_quotable c ≡ false → in_front c stretches ≡ (c ∷ []) ∷ stretches
alone c [] is = refl
alone c ([] ∷ stretches) is = refl
alone c ((d ∷ ds) ∷ stretches) is = chosen (is_quotable c) (is_quotable d) ((c ∷ d ∷ ds) ∷ stretches) ((c ∷ []) ∷ (d ∷ ds) ∷ stretches) is

before : (b e : Bool) (c d : ℕ) (ds : List ℕ) (rest : List (List ℕ)) → b ≡ true
    → (if b && e then (c ∷ d ∷ ds) ∷ rest else (c ∷ []) ∷ (d ∷ ds) ∷ rest) ≡ (if e then (c ∷ d ∷ ds) ∷ rest else (c ∷ []) ∷ (d ∷ ds) ∷ rest)
before true e c d ds rest is = refl
before false e c d ds rest is = absurd (cc)

-- the first stretch goes on as far as its characters can stand in quotes
quoted-parts : (c : ℕ) (text : List ℕ) → is_quotable c ≡ true → stretches_of (c ∷ text) ≡ (c ∷ take (quotables text) text) ∷ stretches_of (drop (quotables text) text)
quoted-parts c [] is = refl
quoted-parts c (d ∷ ds) is = next (is_quotable d) refl (λ other. quoted-parts d ds other)
  where
    next : (e : Bool) → is_quotable d ≡ e → (is_quotable d ≡ true → stretches_of (d ∷ ds) ≡ (d ∷ take (quotables ds) ds) ∷ stretches_of (drop (quotables ds) ds))
        → stretches_of (c ∷ d ∷ ds) ≡ (c ∷ take (if e then suc (quotables ds) else 0) (d ∷ ds)) ∷ stretches_of (drop (if e then suc (quotables ds) else 0) (d ∷ ds))
    next true other rest =
        let n = quotables ds in
        ap (in_front c) (rest other) ∙ before (is_quotable c) (is_quotable d) c d (take n ds) (stretches_of (drop n ds)) is
        ∙ ap (λ e. if e then (c ∷ d ∷ take n ds) ∷ stretches_of (drop n ds) else (c ∷ []) ∷ (d ∷ take n ds) ∷ stretches_of (drop n ds)) other
    next false other rest =
        let own = alone d (stretches_of ds) other in
        ap (in_front c) own ∙ before (is_quotable c) (is_quotable d) c d [] (stretches_of ds) is
        ∙ ap (λ e. if e then (c ∷ d ∷ []) ∷ stretches_of ds else (c ∷ []) ∷ (d ∷ []) ∷ stretches_of ds) other ∙ ap (λ rest. (c ∷ []) ∷ rest) (sym own)

parts : (c : ℕ) (text : List ℕ) → stretches_of (c ∷ text) ≡ take (stretch_size (c ∷ text)) (c ∷ text) ∷ stretches_of (drop (stretch_size (c ∷ text)) (c ∷ text))
parts c text = by (is_quotable c) refl
  where
    by : (b : Bool) → is_quotable c ≡ b → stretches_of (c ∷ text) ≡ take (if b then suc (quotables text) else 1) (c ∷ text) ∷ stretches_of (drop (if b then suc (quotables text) else 1) (c ∷ text))
    by true is = quoted-parts c text is
    by false is = alone c (stretches_of text) is

-- ---- items

abbrev items : List ℕ → List ℕ
items text = joined (map item_text (stretches_of text))

one-or-more : (item : List ℕ) (rest : List ℕ) → joined (item ∷ map item_text (stretches_of rest)) ≡ item ++ (comma rest ++ items rest)
one-or-more item [] = sym (append-nil item)
one-or-more item (c ∷ rest) = ap (λ xs. joined (item ∷ map item_text xs)) (parts c rest) ∙ ap (λ xs. item ++ (codes ", " ++ joined (map item_text xs))) (sym (parts c rest))

-- the items of a text, with the first one apart
pub first-item : (c : ℕ) (text : List ℕ) → items (c ∷ text) ≡ item_text (take (stretch_size (c ∷ text)) (c ∷ text)) ++ (comma (drop (stretch_size (c ∷ text)) (c ∷ text)) ++ items (drop (stretch_size (c ∷ text)) (c ∷ text)))
first-item c text =
    let n = stretch_size (c ∷ text) in
    ap (λ xs. joined (map item_text xs)) (parts c text) ∙ one-or-more (item_text (take n (c ∷ text))) (drop n (c ∷ text))

-- one item more
pub one-item : (text item rest out with_item more initial : List ℕ) (n : ℕ) → 1 ≤ length text → n ≡ stretch_size text → item ≡ take n text → rest ≡ drop n text
    → out ++ items text ≡ initial → with_item ≡ out ++ item_text item → more ≡ with_item ++ comma rest → more ++ items rest ≡ initial
one-item [] item rest out with_item more initial n some size_is item_is rest_is so_far first second = absurd (omega (arith, some))
one-item (c ∷ text) item rest out with_item more initial n some size_is item_is rest_is so_far first second =
    let whole : items (c ∷ text) ≡ item_text item ++ (comma rest ++ items rest) =
    first-item c text ∙ ap (λ k. item_text (take k (c ∷ text)) ++ (comma (drop k (c ∷ text)) ++ items (drop k (c ∷ text)))) (sym size_is)
    ∙ ap (λ i. item_text i ++ (comma (drop n (c ∷ text)) ++ items (drop n (c ∷ text)))) (sym item_is) ∙ ap (λ r. item_text item ++ (comma r ++ items r)) (sym rest_is) in
    ap (λ m. m ++ items rest) second ∙ append_assoc with_item (comma rest) (items rest) ∙ ap (λ m. m ++ (comma rest ++ items rest)) first
    ∙ append_assoc out (item_text item) (comma rest ++ items rest) ∙ ap (λ m. out ++ m) (sym whole) ∙ so_far
