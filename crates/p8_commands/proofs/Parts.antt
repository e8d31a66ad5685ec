-- A text that is cut at a byte, and the parts of what is left.
use Rattle.std.proofs.Common.{◌≡◌, ◌∙◌, ap, sym, refl, subst, ℕ, ◌+◌, ◌<◌, Bool, true, false, cond, List, [], ◌∷◌, length, nat_lt, bit_or, Option, Some, None, arith}
use Rattle.std.specs.Prelude.{◌==◌, option_and_then}
use Rattle.std.specs.Borrow.{Bor}
use Rattle.std.specs.List.{slice_split, onto_first, position_or_len, position_from}
use Rattle.std.proofs.lemmas.Bool.Decides.{nat_tests}
use Rattle.std.proofs.lemmas.Grind.{common_steps}
use Rattle.std.proofs.lemmas.Iterator.Adapters.{position_from-zero}
use Rattle.std.proofs.lemmas.List.Splits.{slice_split_first}
use Rattle.p8_commands.specs.Naming.{name_of}
use Rattle.p8_commands.specs.Pins.{cut_at, cut_by, mask_with, mask_of_part}

abbrev pub is_comma : ℕ → Bool
is_comma code = code == 44

abbrev pub parts_of : Option (List ℕ) → List (List ℕ)
parts_of None = []
parts_of (Some text) = slice_split is_comma text

-- the parts of what is left, and how much that is
abbrev pub parts_left : Option (Bor (List ℕ)) → List (List ℕ)
parts_left left = parts_of (name_of left)

abbrev pub size_of : Option (List ℕ) → ℕ
size_of None = 0
size_of (Some text) = length text + 1

abbrev pub size_left : Option (Bor (List ℕ)) → ℕ
size_left left = size_of (name_of left)

no-comma : (i code : ℕ) (text : List ℕ) (b : Bool) → cond b (Some i) (position_from is_comma (i + 1) text) ≡ None
    → (position_from is_comma (i + 1) text ≡ None → slice_split is_comma text ≡ text ∷ [])
    → cond b ([] ∷ slice_split is_comma text) (onto_first code (slice_split is_comma text)) ≡ (code ∷ text) ∷ []
no-comma i code text true none rest = absurd (cc)
no-comma i code text false none rest = ap (onto_first code) (rest none)

-- a text without a comma is one part
one-part : (i : ℕ) (text : List ℕ) → position_from is_comma i text ≡ None → slice_split is_comma text ≡ text ∷ []
one-part i [] none = refl
one-part i (code ∷ text) none = no-comma i code text (is_comma code) none (λ n. one-part (i + 1) text n)

-- a cut takes off the first part, and leaves less
module _ (text : List ℕ) where
  abbrev place : ℕ
  place = position_or_len is_comma text

  abbrev cut : Bool → List ℕ × Option (List ℕ)
  cut b = cut_by text (cond b (Some place) None)

  parts-cut : (b : Bool) → nat_lt place (length text) ≡ b → slice_split is_comma text ≡ (cut b).0 ∷ parts_of (cut b).1
  parts-cut true found = slice_split_first is_comma text 0 (grind (arith, nat_tests, found))
  parts-cut false found = one-part 0 text (sym (position_from-zero is_comma text) ∙ ap (λ (b : Bool). cond b (Some place) None) found)

  size-cut : (b : Bool) → nat_lt place (length text) ≡ b → size_of (cut b).1 < length text + 1
  size-cut true found =
      let within : place < length text = grind (arith, nat_tests, found) in
      grind (arith, common_steps, within)
  size-cut false found = omega arith

  pub less-left : (left : Option (Bor (List ℕ))) → name_of left ≡ (cut_at 44 text).1 → size_left left < length text + 1
  less-left left is = subst (λ (o : Option (List ℕ)). size_of o < length text + 1) (sym is) (size-cut (nat_lt place (length text)) refl)

  -- the mask goes on with the first part
  module _ (mask : ℕ) (all : Option ℕ) (part : List ℕ) (left : Option (Bor (List ℕ))) (goes_on : mask_with mask (slice_split is_comma text) ≡ all) (first : part ≡ (cut_at 44 text).0) (rest : name_of left ≡ (cut_at 44 text).1) where
    with-part : option_and_then (λ more. mask_with (bit_or mask more) (parts_left left)) (mask_of_part part) ≡ all
    with-part =
        ap (λ (xs : List ℕ). option_and_then (λ more. mask_with (bit_or mask more) (parts_left left)) (mask_of_part xs)) first
        ∙ ap (λ (o : Option (List ℕ)). mask_with mask ((cut_at 44 text).0 ∷ parts_of o)) rest
        ∙ ap (mask_with mask) (sym (parts-cut (nat_lt place (length text)) refl))
        ∙ goes_on

    pub with-more : (more : ℕ) → mask_of_part part ≡ Some more → mask_with (bit_or mask more) (parts_left left) ≡ all
    with-more more is = ap (option_and_then (λ n. mask_with (bit_or mask n) (parts_left left))) (sym is) ∙ with-part

    pub with-none : mask_of_part part ≡ None → None ≡ all
    with-none is = ap (option_and_then (λ n. mask_with (bit_or mask n) (parts_left left))) (sym is) ∙ with-part
