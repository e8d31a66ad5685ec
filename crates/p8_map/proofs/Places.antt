-- Places and sizes mod 65,536.
use Rattle.std.proofs.Common.{◌≡◌, ◌∙◌, ap, ap₂, sym, refl, arith, ℕ, zero, suc, ◌+◌, ◌%◌, List, [], ◌∷◌, length, map, replicate, slice_index, add-one}
use Rattle.p8_image.specs.declared.parts.ObjectPart.{ObjectPart}
use Rattle.p8_image.specs.Layout.{total, own_variables, variables_within, whole_longs}
use Rattle.p8_image.specs.Listing.{address_after}
use Rattle.p8_map.specs.Map.{low}

pub address_after_twice : (place a b : ℕ) → address_after (address_after place a) b ≡ address_after place (a + b)
address_after_twice place a b = omega arith

pub address_after_low : (place bytes : ℕ) → address_after place (bytes % 65536) ≡ address_after place bytes
address_after_low place bytes = omega arith

pub low_whole : (a b : ℕ) → a % 65536 ≡ b % 65536 → whole_longs a % 65536 ≡ whole_longs b % 65536
low_whole a b same = omega arith

low-at : (sizes : List ℕ) (f : ℕ) → slice_index (low sizes) f ≡ slice_index sizes f % 65536
low-at [] f = refl
low-at (size ∷ sizes) zero = refl
low-at (size ∷ sizes) (suc f) = low-at sizes f

low-total : (sizes : List ℕ) (a : ℕ) (instances : List ℕ)
    → (a + total (slice_index (low sizes)) instances) % 65536 ≡ (a + total (slice_index sizes) instances) % 65536
low-total sizes a [] = refl
low-total sizes a (f ∷ instances) =
    let here : slice_index (low sizes) f ≡ slice_index sizes f % 65536 = low-at sizes f in
    let rest : (a + slice_index sizes f + total (slice_index (low sizes)) instances) % 65536 ≡ (a + slice_index sizes f + total (slice_index sizes) instances) % 65536 =
    low-total sizes (a + slice_index sizes f) instances in
    omega arith

-- one depth more of objects inside objects, over sizes mod 65,536
abbrev pub deepened : List ObjectPart → List ℕ → List ℕ
deepened objects sizes = map (λ (object : ObjectPart). (own_variables object + total (slice_index sizes) object.instances) % 65536) objects

low-deepened : (objects : List ObjectPart) (sizes : List ℕ)
    → deepened objects (low sizes) ≡ low (map (λ (object : ObjectPart). own_variables object + total (slice_index sizes) object.instances) objects)
low-deepened [] sizes = refl
low-deepened (object ∷ objects) sizes =
    ap₂ (λ (n : ℕ) (more : List ℕ). n ∷ more) (low-total sizes (own_variables object) object.instances) (low-deepened objects sizes)

pub one_more : (objects : List ObjectPart) (depth : ℕ) → low (variables_within (depth + 1) objects) ≡ deepened objects (low (variables_within depth objects))
unfolding variables_within
one_more objects depth =
    ap (λ (n : ℕ). low (variables_within n objects)) (add-one depth) ∙ sym (low-deepened objects (variables_within depth objects))

low-zeros : (n : ℕ) → low (replicate n 0) ≡ replicate n 0
low-zeros zero = refl
low-zeros (suc n) = ap (λ (xs : List ℕ). 0 ∷ xs) (low-zeros n)

-- at no depth nothing is counted
pub nothing_yet : (objects : List ObjectPart) → low (variables_within 0 objects) ≡ replicate (length objects) 0
unfolding variables_within
nothing_yet objects = low-zeros (length objects)
