-- How large a method is, and whether that is too large.
use Rattle.std.proofs.Common.{◌≡◌, ◌⊎◌, inl, inr, ℕ, ◌+◌, ◌-◌, ◌^◌, ◌<◌, ◌||◌, nat_lt, min, Bool, true, false, refl, ap, ◌∙◌, arith}
use Rattle.std.proofs.lemmas.Bool.Decides.{nat_tests}
use Rattle.p8_tree.specs.declared.places.Place.{Place}
use Rattle.p8_tree.specs.Sources.{MethodTree}
use Rattle.p8_tree.specs.declared.faults.Fault.{Fault}
use Rattle.p8_tree.specs.Faults.{fault}
use Rattle.p8_tree.specs.declared.refusal.Refusal.TheVariants.{FrameTooLarge}
use Rattle.p8_gen.specs.Depths.{held_in}
use Rattle.p8_gen.specs.Names.{Names}
use Rattle.p8_stmt.specs.Methods.{frame_longs, size_of, most_longs, most_held, IsMethodFault, jump_too_far, frame_too_large, holds_too_much}

-- a test on a number that stops at a greater limit
pub cut_test : (n limit most : ℕ) → most < limit → nat_lt most (min n limit) ≡ nat_lt most n
cut_test n limit most h = grind (arith, nat_tests)

-- the longs of a frame, by those of its locals as far as they are told
pub frame_cut : (p n limit : ℕ) → min (1 + p + min n limit) limit ≡ min (1 + p + n) limit
frame_cut p n limit = omega arith

-- what a size is tested for
abbrev pub is_large : Names → MethodTree → Bool
is_large n m = nat_lt most_longs (size_of n m).longs || nat_lt most_held (size_of n m).held

some-large : (a b : Bool) → (a || b) ≡ true → (a ≡ true) ⊎ (b ≡ true)
some-large true b h = inl refl
some-large false b h = inr h

over : (n limit most : ℕ) → most < limit → nat_lt most (min n limit) ≡ true → most < n
over n limit most l h = grind (arith, nat_tests)

above : (n limit most : ℕ) → most < limit → most < n → nat_lt most (min n limit) ≡ true
above n limit most l h = grind (arith, nat_tests)

-- a method that is too large is refused at its name
pub large_refused : (n : Names) (m : MethodTree) → is_large n m ≡ true → IsMethodFault n m (fault FrameTooLarge m.place)
large_refused n m h = elim (some-large (nat_lt most_longs (size_of n m).longs) (nat_lt most_held (size_of n m).held) h) [
  | inl a ↦ frame_too_large (over (frame_longs n m) (2 ^ 32 - 1) most_longs (omega arith) a) refl
  | inr b ↦ holds_too_much (over (held_in n m.body) (2 ^ 16 - 1) most_held (omega arith) b) refl
]

or-left : (a b : Bool) → a ≡ true → (a || b) ≡ true
or-left true b h = refl
or-left false b h = absurd cc

or-right : (a b : Bool) → b ≡ true → (a || b) ≡ true
or-right true b h = refl
or-right false b h = h

-- a method that is refused with 26 is too large, and is refused at its name
pub refused_large : (n : Names) (m : MethodTree) (p : Place) → IsMethodFault n m (fault FrameTooLarge p) → (m.place ≡ p) × (is_large n m ≡ true)
refused_large n m p (jump_too_far q c same) = absurd (numbers 25 refl (ap (λ (f : Fault). f.number) same))
  where
    numbers : (n : ℕ) → n ≡ 25 → n ≡ 26 → ⊥
    numbers n a b = omega (arith, a, b)
refused_large n m p (frame_too_large large same) =
    (ap (λ (f : Fault). f.place) same, or-left (nat_lt most_longs (size_of n m).longs) (nat_lt most_held (size_of n m).held) (above (frame_longs n m) (2 ^ 32 - 1) most_longs (omega arith) large))
refused_large n m p (holds_too_much much same) =
    (ap (λ (f : Fault). f.place) same, or-right (nat_lt most_longs (size_of n m).longs) (nat_lt most_held (size_of n m).held) (above (held_in n m.body) (2 ^ 16 - 1) most_held (omega arith) much))
