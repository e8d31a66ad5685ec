-- The bytes of an image depend on the last 16 bits of numbers alone.
use Rattle.std.proofs.Common.{◌≡◌, ◌<◌, ℕ, zero, suc, ◌+◌, ◌-◌, ◌/◌, ◌%◌, ◌∙◌, List, [], ◌∷◌, ◌++◌, length, take, replicate, map, slice_index, slice_set, refl, ap, sym, arith, get_or, drop, add-one, drop-cons, append_assoc}
use Rattle.p8_image.specs.Keeping.{kept}
use Rattle.p8_image.specs.Layout.{word, padded, whole_longs, method_entries, inner_entries, linked, codes_of, places_from, object_bytes, objects_bytes, size_of, own_variables, codes_offset, text_offsets, texts_offset, text_size, texts_of}
use Rattle.p8_image.specs.declared.parts.MethodPart.{MethodPart}
use Rattle.p8_image.specs.declared.parts.TextUse.{TextUse}
use Rattle.p8_image.specs.declared.parts.ObjectPart.{ObjectPart}
use Rattle.p8_image.proofs.Keeping.{kept_mod, kept_add, kept_twice}

pub same_word : (a b : ℕ) → a % 65536 ≡ b % 65536 → word a ≡ word b
same_word a b h =
    let low : a % 256 ≡ b % 256 = omega arith in
    let high : a / 256 % 256 ≡ b / 256 % 256 = omega arith in
    cc

pub kept_word : (n : ℕ) → word (kept n) ≡ word n
kept_word n = same_word (kept n) n (kept_mod n)

pub same_entries : (a b : ℕ) → a % 65536 ≡ b % 65536 → (methods : List MethodPart) → method_entries a methods ≡ method_entries b methods
same_entries a b h [] = refl
same_entries a b h (method ∷ methods) =
    let here = same_word a b h in
    let rest = same_entries (a + length method.code) (b + length method.code) (omega arith) methods in
    cc

pub kept_entries : (n : ℕ) (methods : List MethodPart) → method_entries (kept n) methods ≡ method_entries n methods
kept_entries n methods = same_entries (kept n) n (kept_mod n) methods

-- two lists with the same last 16 bits
pub record Same (xs ys : List ℕ) : Type 0 where
  pub at : (i : ℕ) → slice_index xs i % 65536 ≡ slice_index ys i % 65536

pub same_inner : (xs ys vs ws : List ℕ) → Same xs ys → Same vs ws → (a b : ℕ) → a % 65536 ≡ b % 65536 → (o p : ℕ) → o % 65536 ≡ p % 65536
    → (instances : List ℕ) → inner_entries xs vs a o instances ≡ inner_entries ys ws b p instances
same_inner xs ys vs ws hx hv a b h o p k [] = refl
same_inner xs ys vs ws hx hv a b h o p k (f ∷ instances) =
    let at_base = hx.at f in
    let at_variables = hv.at f in
    let way = same_word (slice_index xs f + 65536 - a % 65536) (slice_index ys f + 65536 - b % 65536) (omega arith) in
    let offset = same_word o p k in
    let rest = same_inner xs ys vs ws hx hv a b h (o + slice_index vs f) (p + slice_index ws f) (omega arith) instances in
    cc

pub same_linked : (f g : ℕ → ℕ) → ((k : ℕ) → f k % 65536 ≡ g k % 65536) → (uses : List TextUse) (code : List ℕ) → linked f uses code ≡ linked g uses code
same_linked f g h [] code = refl
same_linked f g h (place ∷ uses) code =
    let this = h place.text in
    let high : 128 + f place.text / 256 % 128 ≡ 128 + g place.text / 256 % 128 = omega arith in
    let low : f place.text % 256 ≡ g place.text % 256 = omega arith in
    ap (λ (byte : ℕ). linked f uses (slice_set (slice_set code place.at byte) (place.at + 1) (f place.text % 256))) high
    ∙ ap (λ (byte : ℕ). linked f uses (slice_set (slice_set code place.at (128 + g place.text / 256 % 128)) (place.at + 1) byte)) low
    ∙ same_linked f g h uses _

-- what stands in a list that is kept
pub kept_at : (xs : List ℕ) (i : ℕ) → slice_index (map kept xs) i ≡ kept (slice_index xs i)
unfolding kept
kept_at [] i = refl
kept_at (x ∷ xs) zero = refl
kept_at (x ∷ xs) (suc i) = kept_at xs i

pub kept_same : (xs : List ℕ) → Same (map kept xs) xs
kept_same xs = record { at = λ i. ap (λ (n : ℕ). n % 65536) (kept_at xs i) ∙ kept_mod (slice_index xs i) }

pub same_here : (xs : List ℕ) → Same xs xs
same_here xs = record { at = λ i. refl }

three : (k : ℕ) → k < 4 → take {A = ℕ} k (0 ∷ 0 ∷ 0 ∷ []) ≡ replicate k 0
three zero h = refl
three (suc zero) h = refl
three (suc (suc zero)) h = refl
three (suc (suc (suc zero))) h = refl
three (suc (suc (suc (suc k)))) h = absurd (omega arith)

-- three zeros are enough
pub zeros : (n : ℕ) → take {A = ℕ} ((4 - n % 4) % 4) (0 ∷ 0 ∷ 0 ∷ []) ≡ replicate (whole_longs n - n) 0
zeros n =
    let same : (4 - n % 4) % 4 ≡ whole_longs n - n = omega arith in
    three ((4 - n % 4) % 4) (omega arith) ∙ ap (λ (k : ℕ). replicate k 0) same

pub kept_inner : (bases variables : List ℕ) (base offset : ℕ) (instances : List ℕ)
    → inner_entries bases variables base (kept offset) instances ≡ inner_entries bases variables base offset instances
kept_inner bases variables base offset instances =
    same_inner bases bases variables variables (same_here bases) (same_here variables) base base refl (kept offset) offset (kept_mod offset) instances

-- what is kept of places depends on what is kept of the first
pub same_places : {A : Type 0} (size : A → ℕ) (a b : ℕ) → kept a ≡ kept b → (xs : List A) → map kept (places_from size a xs) ≡ map kept (places_from size b xs)
same_places size a b h [] = refl
same_places size a b h (x ∷ xs) =
    let next : kept (a + size x) ≡ kept (b + size x) = sym (kept_add a (size x)) ∙ ap (λ (n : ℕ). kept (n + size x)) h ∙ kept_add b (size x) in
    let rest = same_places size (a + size x) (b + size x) next xs in
    cc

pub same_objects : (xs ys vs ws : List ℕ) → Same xs ys → Same vs ws → (a b : ℕ) → kept a ≡ kept b → (objects : List ObjectPart)
    → objects_bytes xs vs a objects ≡ objects_bytes ys ws b objects
same_objects xs ys vs ws hx hv a b h [] = refl
same_objects xs ys vs ws hx hv a b h (object ∷ objects) =
    let base : a % 65536 ≡ b % 65536 = sym (kept_mod a) ∙ ap (λ (n : ℕ). n % 65536) h ∙ kept_mod b in
    let inner = same_inner xs ys vs ws hx hv a b base (own_variables object) (own_variables object) refl object.instances in
    let next : kept (a + size_of object) ≡ kept (b + size_of object) =
    sym (kept_add a (size_of object)) ∙ ap (λ (n : ℕ). kept (n + size_of object)) h ∙ kept_add b (size_of object) in
    let rest = same_objects xs ys vs ws hx hv (a + size_of object) (b + size_of object) next objects in
    ap (λ (entries : List ℕ).
    padded (word (size_of object) ++ (length object.methods + 1) % 256 ∷ length object.instances % 256 ∷ []
    ++ method_entries (codes_offset object) object.methods
    ++ entries
    ++ padded object.dat
    ++ codes_of (slice_index (text_offsets object)) object.methods
    ++ texts_of object.texts) ++ objects_bytes xs vs (a + size_of object) objects) inner
    ∙ ap (λ (others : List ℕ). object_bytes ys ws b object ++ others) rest

pub same_codes : (xs ys : List ℕ) → Same xs ys → (methods : List MethodPart) → codes_of (slice_index xs) methods ≡ codes_of (slice_index ys) methods
same_codes xs ys h [] = refl
same_codes xs ys h (method ∷ methods) =
    let here = same_linked (slice_index xs) (slice_index ys) h.at method.uses method.code in
    let rest = same_codes xs ys h methods in
    cc

-- the codes of an object with offsets of its texts that are kept
pub kept_codes : (offsets : List ℕ) (place : ℕ) (object : ObjectPart) → place ≡ kept (texts_offset object)
    → offsets ≡ map kept (places_from text_size place object.texts)
    → codes_of (slice_index offsets) object.methods ≡ codes_of (slice_index (text_offsets object)) object.methods
kept_codes offsets place object p q =
    let first : kept place ≡ kept (texts_offset object) = ap kept p ∙ kept_twice (texts_offset object) in
    let all : offsets ≡ map kept (text_offsets object) = q ∙ same_places text_size place (texts_offset object) first object.texts in
    ap (λ (xs : List ℕ). codes_of (slice_index xs) object.methods) all
    ∙ same_codes (map kept (text_offsets object)) (text_offsets object) (kept_same (text_offsets object)) object.methods

-- what is left of a list at one of its places
pub from_here : {A : Type 0} (xs : List A) (i : ℕ) (x : A) → i < length xs → x ≡ get_or xs i x → drop i xs ≡ x ∷ drop (i + 1) xs
from_here xs i x h e = rw (add-one, drop-cons xs i x) (cc)

pub kept_counts : (n : ℕ) → (n % 256 + 1) % 256 ≡ (n + 1) % 256
kept_counts n = omega arith

-- four parts, one appended after the other
pub four_parts : (a b c d out0 out1 out2 out3 out4 : List ℕ) → out0 ≡ [] → out1 ≡ out0 ++ a → out2 ≡ out1 ++ b → out3 ≡ out2 ++ c → out4 ≡ out3 ++ d
    → out4 ≡ a ++ b ++ c ++ d
four_parts a b c d out0 out1 out2 out3 out4 e0 e1 e2 e3 e4 =
    e4 ∙ ap (λ (out : List ℕ). out ++ d) (e3 ∙ ap (λ (out : List ℕ). out ++ c) (e2 ∙ ap (λ (out : List ℕ). out ++ b) (e1 ∙ ap (λ (out : List ℕ). out ++ a) e0)))

-- one more part after what was appended
pub more : (out xs ys out1 out2 : List ℕ) → out1 ≡ out ++ xs → out2 ≡ out1 ++ ys → out2 ≡ out ++ (xs ++ ys)
more out xs ys out1 out2 e f = f ∙ ap (λ (o : List ℕ). o ++ ys) e ∙ append_assoc out xs ys
