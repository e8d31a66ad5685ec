-- The variables of objects inside objects, one depth after the other.
use Rattle.std.proofs.Common.{◌≡◌, ℕ, zero, suc, ◌+◌, ◌∙◌, List, [], ◌∷◌, length, replicate, map, slice_index, refl, ap, sym, arith, add_assoc, add-one, add-zero}
use Rattle.p8_image.specs.Keeping.{kept, deepened}
use Rattle.p8_image.specs.Layout.{total, own_variables, variables_within}
use Rattle.p8_image.specs.declared.parts.ObjectPart.{ObjectPart}
use Rattle.p8_image.proofs.Keeping.{kept_add, kept_added}
use Rattle.p8_image.proofs.Words.{kept_at}

kept_inner_total : (sizes : List ℕ) (a : ℕ) (instances : List ℕ)
    → kept (a + total (slice_index (map kept sizes)) instances) ≡ kept (a + total (slice_index sizes) instances)
kept_inner_total sizes a [] = refl
kept_inner_total sizes a (f ∷ instances) =
    let rest = kept_inner_total sizes (a + slice_index (map kept sizes) f) instances in
    let here : kept (a + slice_index (map kept sizes) f) ≡ kept (a + slice_index sizes f) =
    ap (λ (n : ℕ). kept (a + n)) (kept_at sizes f) ∙ kept_added a (slice_index sizes f) in
    let others = total (slice_index sizes) instances in
    ap kept (sym (add_assoc a (slice_index (map kept sizes) f) (total (slice_index (map kept sizes)) instances)))
    ∙ rest
    ∙ sym (kept_add (a + slice_index (map kept sizes) f) others)
    ∙ ap (λ (n : ℕ). kept (n + others)) here
    ∙ kept_add (a + slice_index sizes f) others
    ∙ ap kept (add_assoc a (slice_index sizes f) others)

kept_deepened : (objects : List ObjectPart) (sizes : List ℕ)
    → deepened objects (map kept sizes) ≡ map kept (map (λ (object : ObjectPart). own_variables object + total (slice_index sizes) object.instances) objects)
kept_deepened [] sizes = refl
kept_deepened (object ∷ objects) sizes =
    let here = kept_inner_total sizes (own_variables object) object.instances in
    let rest = kept_deepened objects sizes in
    cc

pub one_more : (objects : List ObjectPart) (depth : ℕ) → map kept (variables_within (depth + 1) objects) ≡ deepened objects (map kept (variables_within depth objects))
unfolding variables_within
one_more objects depth =
    ap (λ (n : ℕ). map kept (variables_within n objects)) (add-one depth) ∙ sym (kept_deepened objects (variables_within depth objects))

pub nothing_more : (objects : List ObjectPart) (depth more : ℕ) (sizes : List ℕ) → sizes ≡ map kept (variables_within depth objects) → deepened objects sizes ≡ sizes
    → sizes ≡ map kept (variables_within (depth + more) objects)
nothing_more objects depth zero sizes h e = h ∙ ap (λ (n : ℕ). map kept (variables_within n objects)) (sym (add-zero depth))
nothing_more objects depth (suc more) sizes h e =
    let before = nothing_more objects depth more sizes h e in
    let place : depth + more + 1 ≡ depth + suc more = omega arith in
    sym e ∙ ap (deepened objects) before ∙ sym (one_more objects (depth + more)) ∙ ap (λ (n : ℕ). map kept (variables_within n objects)) place

kept_zeros : (n : ℕ) → map kept (replicate n 0) ≡ replicate n 0
unfolding kept
kept_zeros zero = refl
kept_zeros (suc n) = ap (λ (xs : List ℕ). 0 ∷ xs) (kept_zeros n)

-- at no depth nothing is counted
pub nothing_yet : (objects : List ObjectPart) → map kept (variables_within 0 objects) ≡ replicate (length objects) 0
unfolding variables_within
nothing_yet objects = kept_zeros (length objects)
