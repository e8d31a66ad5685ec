-- One element, one item and one line more.
use Rattle.std.proofs.Common.{◌≡◌, ℕ, zero, suc, ◌-◌, ◌<◌, Bool, true, false, nat_lt, List, [], ◌∷◌, ◌++◌, length, take, drop, get_or, map, Option, Some, None, refl, sym, ap, ◌∙◌, append_assoc, arith}
use Rattle.std.specs.Prelude.{if◌then◌else◌}
use Rattle.std.proofs.lemmas.Bool.Decides.{nat_tests}
use Rattle.p8_tree.specs.Sources.{Line}
use Rattle.p8_fold.specs.Meanings.{Setting}
use Rattle.std.proofs.lemmas.Slice.{first_rest}
use Rattle.p8_tree.specs.Names.{is_local}
use Rattle.p8_kinds.specs.declared.kinds.Kinds.{Kinds}
use Rattle.p8_kinds.specs.declared.name_kinds.Label.{Label}
use Rattle.p8_dat.specs.declared.spots.Spot.{Spot}
use Rattle.p8_dat.specs.declared.placing.Placed as code
use Rattle.p8_dat.specs.Labels.{label_of, with_label_of, labels_of}
use Rattle.p8_dat.specs.Placing.{placed_of}
use Rattle.p8_dat.specs.Spots.{limit, advanced, Placed, placed_line, placed, behind, behind_lines}
use Rattle.p8_dat.specs.Bytes.{spots, element, value_bytes, zeros}

pub zeros_more : (n : ℕ) → 0 < n → zeros n ≡ 0 ∷ zeros (n - 1)
zeros_more zero h = absurd (omega arith)
zeros_more (suc n) h = let less : n ≡ suc n - 1 = omega arith in ap (λ k. 0 ∷ zeros k) less

pub spots_more : (size n : ℕ) (p : Spot) → 0 < n → p.offset < limit → spots size n p ≡ p ∷ spots size (n - 1) (advanced size p)
spots_more size zero p h lt = absurd (omega arith)
spots_more size (suc n) p h lt =
    let below : nat_lt p.offset limit ≡ true = grind (arith, nat_tests) in
    let less : n ≡ suc n - 1 = omega arith in
    ap (λ b. if b then p ∷ spots size n (advanced size p) else []) below ∙ ap (λ k. p ∷ spots size k (advanced size p)) less

-- one element of a row
pub next_bytes : (size left v : ℕ) (p q : Spot) (old new : List ℕ) → 0 < left → p.offset < limit → q ≡ advanced size p → new ≡ old ++ element size v p → new ++ value_bytes size v (spots size (left - 1) q) ≡ old ++ value_bytes size v (spots size left p)
next_bytes size left v p q old new more lt is put =
    ap (λ q. new ++ value_bytes size v (spots size (left - 1) q)) is
    ∙ ap (λ new. new ++ value_bytes size v (spots size (left - 1) (advanced size p))) put
    ∙ append_assoc old _ _ ∙ ap (λ ps. old ++ value_bytes size v ps) (sym (spots_more size left p more lt))

pub next_zero : (n : ℕ) (old new : List ℕ) → 0 < n → new ≡ old ++ 0 ∷ [] → new ++ zeros (n - 1) ≡ old ++ zeros n
next_zero n old new more put = ap (λ new. new ++ zeros (n - 1)) put ∙ append_assoc old _ _ ∙ ap (λ zs. old ++ zs) (sym (zeros_more n more))

-- ---- lines after lines

pub placed-append : (s : Setting) (xs ys : List Line) (p : Spot) → placed s (xs ++ ys) p ≡ placed s xs p ++ placed s ys (behind_lines s xs p)
placed-append s [] ys p = refl
placed-append s (x ∷ xs) ys p = ap (λ r. placed_line s x p ∷ r) (placed-append s xs ys (behind s x p))

pub next_block : (s : Setting) (xs ys : List Line) (p q : Spot) (old new : List Placed) → new ≡ old ++ placed s xs p → q ≡ behind_lines s xs p → new ++ placed s ys q ≡ old ++ placed s (xs ++ ys) p
next_block s xs ys p q old new put is =
    ap (λ new. new ++ placed s ys q) put ∙ ap (λ q. (old ++ placed s xs p) ++ placed s ys q) is ∙ append_assoc old _ _ ∙ ap (λ r. old ++ r) (sym (placed-append s xs ys p))

-- ---- one label more

with_label_of-append : (kinds : Kinds) (label : Option (List ℕ)) (p : Spot) (rest : List Label) → with_label_of kinds label p [] ++ rest ≡ with_label_of kinds label p rest
with_label_of-append kinds None p rest = refl
with_label_of-append kinds (Some n) p rest = by_test (is_local n)
  where
    by_test : (b : Bool) → (if b then [] else label_of kinds n p ∷ []) ++ rest ≡ (if b then rest else label_of kinds n p ∷ rest)
    by_test true = refl
    by_test false = refl

pub next_label : (kinds : Kinds) (ps rest : List code.Placed) (x : code.Placed) (old new : List Label) → 0 < length ps → x ≡ get_or ps 0 x → rest ≡ take (length ps - 1) (drop 1 ps)
    → new ≡ old ++ with_label_of kinds (placed_of x).line.label x.at [] → new ++ labels_of kinds (map placed_of rest) ≡ old ++ labels_of kinds (map placed_of ps)
next_label kinds ps rest x old new some first behind put =
    ap (λ new. new ++ labels_of kinds (map placed_of rest)) put ∙ append_assoc old _ _
    ∙ ap (λ ls. old ++ ls)
    (with_label_of-append kinds (placed_of x).line.label x.at (labels_of kinds (map placed_of rest))
    ∙ ap (λ x. with_label_of kinds (placed_of x).line.label x.at (labels_of kinds (map placed_of rest))) first
    ∙ ap (λ rest. with_label_of kinds (placed_of (get_or ps 0 x)).line.label (get_or ps 0 x).at (labels_of kinds (map placed_of rest))) behind
    ∙ sym (ap (λ ps. labels_of kinds (map placed_of ps)) (first_rest ps x some)))
