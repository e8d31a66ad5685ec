-- Objects of an image one after the other, and where a code ends.
use Rattle.std.proofs.Common.{◌≡◌, ◌∙◌, ap, sym, refl, arith, ℕ, zero, suc, ◌+◌, ◌-◌, ◌<◌, ◌≤◌, Bool, true, false, List, [], ◌∷◌, ◌++◌, length, append_assoc, take, drop}
use Rattle.std.specs.Prelude.{◌==◌, ◌&&◌, ◌||◌, nat_lt, max, if◌then◌else◌, slice_index}
use Rattle.std.proofs.lemmas.Bool.Decides.{nat_tests}
use Rattle.std.proofs.lemmas.List.{length-drop, length-take-le}
use Rattle.p8_bytecode.specs.Reading.{op_at}
use Rattle.p8_image.specs.Headers.{word_at}
use Rattle.p8_image.specs.Listing.{address_after, longs_of, line_size, pieces_of}
use Rattle.p8_image.proofs.Cutting.{pieces-step}
use Rattle.p8_code.specs.Listing.{long_lines}
use Rattle.p8_code.specs.Images.{image_object, image_objects, inner_line, inner_lines, image_method, image_methods, code_size, is_no_object, reach}

-- ---- one more of so many

pub inner-more : (base : ℕ) (object : List ℕ) (n left : ℕ) → 0 < left → inner_lines base object n left ≡ inner_line base object n ++ inner_lines base object (n + 1) (left - 1)
inner-more base object n zero some = absurd (omega arith)
inner-more base object n (suc left) some = let less : left ≡ suc left - 1 = omega arith in ap (λ k. inner_line base object n ++ inner_lines base object (n + 1) k) less

pub methods-more : (base : ℕ) (object : List ℕ) (n left : ℕ) → 0 < left → image_methods base object n left ≡ image_method base object n ++ image_methods base object (n + 1) (left - 1)
methods-more base object n zero some = absurd (omega arith)
methods-more base object n (suc left) some = let less : left ≡ suc left - 1 = omega arith in ap (λ k. image_method base object n ++ image_methods base object (n + 1) k) less

-- one piece of a text more
pub one-more : (out next whole item rest more : List ℕ) → next ≡ out ++ item → rest ≡ item ++ more → out ++ rest ≡ whole → next ++ more ≡ whole
one-more out next whole item rest more put is so_far =
    ap (λ (o : List ℕ). o ++ more) put ∙ append_assoc out item more ∙ ap (λ (o : List ℕ). out ++ o) (sym is) ∙ so_far

-- ---- objects

shorter : (size : ℕ) (bytes : List ℕ) (most : ℕ) → 4 ≤ size → length bytes ≤ suc most → length (drop size bytes) ≤ most
shorter size bytes most some within = let left : length (drop size bytes) ≡ length bytes - size = length-drop size bytes in omega arith

-- no object begins where there are no bytes
pub no-objects : (most base : ℕ) (bytes : List ℕ) → length bytes ≤ 0 → image_objects most base bytes ≡ []
no-objects zero base bytes none = refl
no-objects (suc most) base [] none = refl
no-objects (suc most) base (b ∷ bytes) none = absurd (omega arith)

-- the first object, where one begins, and longs where none does
by-size : (a b : Bool) (x y : List ℕ) → (a ≡ true) → (if a || b then x else y) ≡ x
by-size true b x y is = refl
by-size false b x y is = absurd (cc)

by-rest : (a b : Bool) (x y : List ℕ) → (b ≡ true) → (if a || b then x else y) ≡ x
by-rest true true x y is = refl
by-rest true false x y is = absurd (cc)
by-rest false true x y is = refl
by-rest false false x y is = absurd (cc)

by-none : (a b : Bool) (x y : List ℕ) → a ≡ false → b ≡ false → (if a || b then x else y) ≡ y
by-none false false x y is fits = refl
by-none true b x y is fits = absurd (cc)
by-none false true x y is fits = absurd (cc)

-- an object more, where the rest comes to the same
with-rest : (m n base : ℕ) (bytes : List ℕ) (b : Bool) → nat_lt (word_at bytes 0) 4 ≡ b
    → (4 ≤ word_at bytes 0 → image_objects m (address_after base (word_at bytes 0)) (drop (word_at bytes 0) bytes) ≡ image_objects n (address_after base (word_at bytes 0)) (drop (word_at bytes 0) bytes))
    → image_objects (suc m) base bytes ≡ image_objects (suc n) base bytes
with-rest m n base bytes true small rest =
    by-size (nat_lt (word_at bytes 0) 4) (nat_lt (length bytes) (word_at bytes 0)) (long_lines (λ text. text) 0 [] base (longs_of bytes))
    (image_object base (take (word_at bytes 0) bytes) ++ image_objects m (address_after base (word_at bytes 0)) (drop (word_at bytes 0) bytes)) small
    ∙ sym (by-size (nat_lt (word_at bytes 0) 4) (nat_lt (length bytes) (word_at bytes 0)) (long_lines (λ text. text) 0 [] base (longs_of bytes))
    (image_object base (take (word_at bytes 0) bytes) ++ image_objects n (address_after base (word_at bytes 0)) (drop (word_at bytes 0) bytes)) small)
with-rest m n base bytes false small rest =
    let some : 4 ≤ word_at bytes 0 = grind (arith, nat_tests) in
    ap (λ (others : List ℕ). if nat_lt (word_at bytes 0) 4 || nat_lt (length bytes) (word_at bytes 0) then long_lines (λ text. text) 0 [] base (longs_of bytes) else image_object base (take (word_at bytes 0) bytes) ++ others)
    (rest some)

-- how many objects there may be doesn't matter where there may be enough
same-objects : (m n base : ℕ) (bytes : List ℕ) → length bytes ≤ m → length bytes ≤ n → image_objects m base bytes ≡ image_objects n base bytes
same-objects zero n base bytes p q = sym (no-objects n base bytes p)
same-objects (suc m) zero base bytes p q = no-objects (suc m) base bytes q
same-objects (suc m) (suc n) base bytes p q =
    with-rest m n base bytes (nat_lt (word_at bytes 0) 4) refl
    (λ some. same-objects m n (address_after base (word_at bytes 0)) (drop (word_at bytes 0) bytes) (shorter (word_at bytes 0) bytes m some p) (shorter (word_at bytes 0) bytes n some q))

-- the first object and those behind it
objects-step : (base : ℕ) (bytes : List ℕ) (size : ℕ) → size ≡ word_at bytes 0 → 4 ≤ size → size ≤ length bytes
    → image_objects (length bytes) base bytes ≡ image_object base (take size bytes) ++ image_objects (length (drop size bytes)) (address_after base size) (drop size bytes)
objects-step base [] size is some within = absurd (omega (arith, some, within))
objects-step base (b ∷ bytes) size is some within =
    let all = b ∷ bytes in
    let small : nat_lt (word_at all 0) 4 ≡ false = grind (arith, nat_tests, is) in
    let fits : nat_lt (length all) (word_at all 0) ≡ false = grind (arith, nat_tests, is) in
    by-none (nat_lt (word_at all 0) 4) (nat_lt (length all) (word_at all 0)) _ _ small fits
    ∙ ap (λ (n : ℕ). image_object base (take n all) ++ image_objects (length bytes) (address_after base n) (drop n all)) (sym is)
    ∙ ap (λ (rest : List ℕ). image_object base (take size all) ++ rest)
    (same-objects (length bytes) (length (drop size all)) (address_after base size) (drop size all) (shorter size all (length bytes) some (omega arith)) (omega arith))

-- longs, where none begins
pub objects-end : (base : ℕ) (bytes : List ℕ) → is_no_object bytes (word_at bytes 0) ≡ true → image_objects (length bytes) base bytes ≡ long_lines (λ text. text) 0 [] base (longs_of bytes)
objects-end base [] ends = refl
objects-end base (b ∷ bytes) ends =
    let all = b ∷ bytes in
    ap (λ (c : Bool). if c then long_lines (λ text. text) 0 [] base (longs_of all) else image_object base (take (word_at all 0) all) ++ image_objects (length bytes) (address_after base (word_at all 0)) (drop (word_at all 0) all)) ends

-- an object more
pub one-object : (base : ℕ) (bytes : List ℕ) (size : ℕ) (out next whole rest : List ℕ) (there : ℕ) → size ≡ word_at bytes 0 → 4 ≤ size → size ≤ length bytes
    → next ≡ out ++ image_object base (take size bytes) → there ≡ address_after base size → rest ≡ drop size bytes → out ++ image_objects (length bytes) base bytes ≡ whole
    → next ++ image_objects (length rest) there rest ≡ whole
one-object base bytes size out next whole rest there is some within e_next e_there e_rest so_far =
    (λ i. next ++ image_objects (length (e_rest i)) (e_there i) (e_rest i))
    ∙ one-more out next whole (image_object base (take size bytes)) (image_objects (length bytes) base bytes) (image_objects (length (drop size bytes)) (address_after base size) (drop size bytes))
    e_next (objects-step base bytes size is some within) so_far

-- ---- where a code ends

first-of : (bytes : List ℕ) (size : ℕ) → 1 ≤ size → slice_index (take size bytes) 0 ≡ slice_index bytes 0
first-of [] zero some = refl
first-of [] (suc size) some = refl
first-of (b ∷ bytes) zero some = absurd (omega arith)
first-of (b ∷ bytes) (suc size) some = refl

-- the first bytecode of a code, and how much of the rest is code
code-step : (ahead : ℕ) (code : List ℕ) (size : ℕ) (ends : Bool) → size ≡ line_size code → 1 ≤ size → 1 ≤ length code → size ≤ length code
    → ends ≡ ((slice_index code 0 == 0x32) && nat_lt ahead size)
    → code_size ahead (pieces_of code)
    ≡ size + (if ends then 0 else code_size (max (ahead - size) (reach (op_at (take size code) 0))) (pieces_of (drop size code)))
code-step ahead code size ends is one some within e_ends =
    let cut : pieces_of code ≡ take size code ∷ pieces_of (drop size code) =
    pieces-step code some ∙ ap (λ (s : ℕ). take s code ∷ pieces_of (drop s code)) (sym is) in
    let long : length (take size code) ≡ size = length-take-le size code within in
    ap (code_size ahead) cut
    ∙ ap (λ (s : ℕ). s + (if (slice_index (take size code) 0 == 0x32) && nat_lt ahead s then 0 else code_size (max (ahead - s) (reach (op_at (take size code) 0))) (pieces_of (drop size code)))) long
    ∙ ap (λ (c : ℕ). size + (if (c == 0x32) && nat_lt ahead size then 0 else code_size (max (ahead - size) (reach (op_at (take size code) 0))) (pieces_of (drop size code)))) (first-of code size one)
    ∙ ap (λ (b : Bool). size + (if b then 0 else code_size (max (ahead - size) (reach (op_at (take size code) 0))) (pieces_of (drop size code)))) (sym e_ends)

module _ (before ahead : ℕ) (code : List ℕ) (size : ℕ) (ends : Bool) (whole after : ℕ)
    (is : size ≡ line_size code) (one : 1 ≤ size) (some : 1 ≤ length code) (within : size ≤ length code) (e_ends : ends ≡ ((slice_index code 0 == 0x32) && nat_lt ahead size))
    (e_after : after ≡ before + size) (so_far : before + code_size ahead (pieces_of code) ≡ whole) where
  -- the code ends here
  pub code-ends : ends ≡ true → after ≡ whole
  code-ends h =
      let step : code_size ahead (pieces_of code) ≡ size + 0 =
      code-step ahead code size ends is one some within e_ends
      ∙ ap (λ (b : Bool). size + (if b then 0 else code_size (max (ahead - size) (reach (op_at (take size code) 0))) (pieces_of (drop size code)))) h in
      omega (arith, step, e_after, so_far)

  -- it goes on
  pub code-goes-on : ends ≡ false → (next : ℕ) (rest : List ℕ) → next ≡ max (ahead - size) (reach (op_at (take size code) 0)) → rest ≡ drop size code → after + code_size next (pieces_of rest) ≡ whole
  code-goes-on h next rest e_next e_rest =
      let left : ℕ = code_size (max (ahead - size) (reach (op_at (take size code) 0))) (pieces_of (drop size code)) in
      let step : code_size ahead (pieces_of code) ≡ size + left =
      code-step ahead code size ends is one some within e_ends
      ∙ ap (λ (b : Bool). size + (if b then 0 else left)) h in
      let same : code_size next (pieces_of rest) ≡ left = (λ i. code_size (e_next i) (pieces_of (e_rest i))) in
      omega (arith, step, e_after, so_far, same)
