-- Where the methods of a project's objects are no longer, its header tells no greater places.
use Rattle.std.proofs.Common.{◌≡◌, ℕ, zero, suc, ◌+◌, ◌*◌, ◌≤◌, List, [], ◌∷◌, length, map, replicate, slice_index, refl, ap, ◌∙◌, arith}
use Rattle.p8_image.specs.declared.parts.MethodPart.{MethodPart}
use Rattle.p8_image.specs.declared.parts.ObjectPart.{ObjectPart}
use Rattle.p8_image.specs.Layout.{total, whole_longs, code_size, texts_offset, text_size, size_of, own_variables, variables_within, variables_of, frame_size, header_by}

-- a method with the same frame, and with no more code
pub record IsNoLonger (o p : MethodPart) : Type 0 where
  pub code : length p.code ≤ length o.code
  pub parameters : p.parameters ≡ o.parameters
  pub locals : p.locals ≡ o.locals

abbrev pub AreNoLonger : List MethodPart → List MethodPart → Type 0
AreNoLonger [] [] = Unit {0}
AreNoLonger (o ∷ os) (p ∷ ps) = IsNoLonger o p × AreNoLonger os ps
AreNoLonger _ _ = ⊥

-- an object with such methods, and with the rest the same
pub record IsNoGreater (o p : ObjectPart) : Type 0 where
  pub variables : p.variables ≡ o.variables
  pub dat : p.dat ≡ o.dat
  pub texts : p.texts ≡ o.texts
  pub instances : p.instances ≡ o.instances
  pub methods : AreNoLonger o.methods p.methods

abbrev pub AreNoGreater : List ObjectPart → List ObjectPart → Type 0
AreNoGreater [] [] = Unit {0}
AreNoGreater (o ∷ os) (p ∷ ps) = IsNoGreater o p × AreNoGreater os ps
AreNoGreater _ _ = ⊥

-- ---- methods

as-many : (os ps : List MethodPart) → AreNoLonger os ps → length ps ≡ length os
as-many [] [] are = refl
as-many [] (p ∷ ps) are = absurd are
as-many (o ∷ os) [] are = absurd are
as-many (o ∷ os) (p ∷ ps) are = ap suc (as-many os ps are.1)

no-more-code : (os ps : List MethodPart) → AreNoLonger os ps → total code_size ps ≤ total code_size os
no-more-code [] [] are = omega arith
no-more-code [] (p ∷ ps) are = absurd are
no-more-code (o ∷ os) [] are = absurd are
no-more-code (o ∷ os) (p ∷ ps) are = let one = are.0.code in let rest = no-more-code os ps are.1 in omega (arith, one, rest)

same-frame : (os ps : List MethodPart) → AreNoLonger os ps → frame_size ps ≡ frame_size os
same-frame [] [] are = refl
same-frame [] (p ∷ ps) are = absurd are
same-frame (o ∷ os) [] are = absurd are
same-frame (o ∷ os) (p ∷ ps) are = let one = are.0.parameters in let two = are.0.locals in omega (arith, one, two)

-- ---- objects

whole-more : (a b : ℕ) → a ≤ b → whole_longs a ≤ whole_longs b
whole-more a b le = omega (arith, le)

no-greater : (o p : ObjectPart) → IsNoGreater o p → size_of p ≤ size_of o
no-greater o p is =
    let many = as-many o.methods p.methods is.methods in
    let inside = ap length is.instances in
    let dat = ap (λ xs. whole_longs (length xs)) is.dat in
    let texts = ap (total text_size) is.texts in
    let code = no-more-code o.methods p.methods is.methods in
    whole-more (texts_offset p + total text_size p.texts) (texts_offset o + total text_size o.texts) (omega (arith, many, inside, dat, texts, code))

all-no-greater : (os ps : List ObjectPart) → AreNoGreater os ps → total size_of ps ≤ total size_of os
all-no-greater [] [] are = omega arith
all-no-greater [] (p ∷ ps) are = absurd are
all-no-greater (o ∷ os) [] are = absurd are
all-no-greater (o ∷ os) (p ∷ ps) are = let one = no-greater o p are.0 in let rest = all-no-greater os ps are.1 in omega (arith, one, rest)

as-many-objects : (os ps : List ObjectPart) → AreNoGreater os ps → length ps ≡ length os
as-many-objects [] [] are = refl
as-many-objects [] (p ∷ ps) are = absurd are
as-many-objects (o ∷ os) [] are = absurd are
as-many-objects (o ∷ os) (p ∷ ps) are = ap suc (as-many-objects os ps are.1)

-- ---- variables

abbrev with_inner : List ℕ → ObjectPart → ℕ
with_inner table object = own_variables object + total (slice_index table) object.instances

same-inner : (table other : List ℕ) → other ≡ table → (o p : ObjectPart) → IsNoGreater o p → with_inner other p ≡ with_inner table o
same-inner table other same o p is =
    ap (λ (t : List ℕ). with_inner t p) same
    ∙ ap (λ vs. whole_longs (total (λ v. v.size * v.count) vs) + total (slice_index table) p.instances) is.variables
    ∙ ap (λ is. own_variables o + total (slice_index table) is) is.instances

same-tables : (table other : List ℕ) → other ≡ table → (os ps : List ObjectPart) → AreNoGreater os ps → map (with_inner other) ps ≡ map (with_inner table) os
same-tables table other same [] [] are = refl
same-tables table other same [] (p ∷ ps) are = absurd are
same-tables table other same (o ∷ os) [] are = absurd are
same-tables table other same (o ∷ os) (p ∷ ps) are =
    ap (λ n. n ∷ map (with_inner other) ps) (same-inner table other same o p are.0) ∙ ap (λ ns. with_inner table o ∷ ns) (same-tables table other same os ps are.1)

same-within : (depth : ℕ) (os ps : List ObjectPart) → AreNoGreater os ps → variables_within depth ps ≡ variables_within depth os
unfolding variables_within
same-within zero os ps are = ap (λ n. replicate n 0) (as-many-objects os ps are)
same-within (suc depth) os ps are = same-tables (variables_within depth os) (variables_within depth ps) (same-within depth os ps are) os ps are

same-variables : (os ps : List ObjectPart) → AreNoGreater os ps → variables_of ps ≡ variables_of os
same-variables os ps are = ap (λ d. variables_within d ps) (as-many-objects os ps are) ∙ same-within (length os) os ps are

-- ---- the header

pub no-later : (os ps : List ObjectPart) → AreNoGreater os ps → (header_by ps).dcurr ≤ (header_by os).dcurr
no-later [] [] are = omega arith
no-later [] (p ∷ ps) are = absurd are
no-later (o ∷ os) [] are = absurd are
no-later (o ∷ os) (p ∷ ps) are =
    let sizes = all-no-greater (o ∷ os) (p ∷ ps) are in
    let variables = ap (λ vs. slice_index vs 0) (same-variables (o ∷ os) (p ∷ ps) are) in
    let frame = same-frame o.methods p.methods are.0.methods in
    omega (arith, sizes, variables, frame)
