-- The rounds that only widen come to the least choice of wide jumps.
use Rattle.std.proofs.Common.{◌≡◌, ℕ, zero, suc, refl, sym, ap, ◌∙◌, subst, ◌+◌, ◌<◌, ◌≤◌, ◌&&◌, ◌||◌, nat_le, nat_lt, Bool, true, false, not, List, [], ◌∷◌, length, replicate, Some, slice_get, ◌⊎◌, inl, inr, arith}
use Rattle.std.specs.Prelude.{count_by, unwrap_or, Contains}
use Rattle.std.proofs.lemmas.Bool.{cases_lt}
use Rattle.std.proofs.lemmas.Bool.Decides.{nat_tests}
use Rattle.std.proofs.lemmas.Grind.{common_steps}
use Rattle.std.proofs.lemmas.List.{length-replicate}
use Rattle.std.proofs.lemmas.Option.{same_Some, none-some, slice_get_within}
use Rattle.p8_tree.specs.declared.places.Place.{Place}
use Rattle.p8_tree.specs.Sources.{MethodTree}
use Rattle.p8_tree.specs.Statements.{Statements}
use Rattle.p8_tree.specs.declared.faults.Fault.{Fault}
use Rattle.p8_tree.specs.Faults.{fault}
use Rattle.p8_tree.specs.declared.refusal.Refusal.TheVariants.{JumpTooFar}
use Rattle.p8_gen.specs.Methods.{method_code}
use Rattle.p8_gen.specs.Names.{Names, widened, all_wide, wide_in}
use Rattle.p8_gen.specs.Pieces.{is_near, reach}
use Rattle.p8_stmt.specs.Methods.{IsCodeOf, IsMethodFault, jump_too_far, frame_too_large, holds_too_much, rebodied, most_held}
use Rattle.p8_stmt.specs.declared.code.MethodCode.{MethodCode}
use Rattle.p8_stmt.specs.Jumps.{Fits, IsLeast, IsShortCode}
use Rattle.p8_stmt.specs.Rounds.{widened_from, after_round, IsBelowAll}
use Rattle.p8_stmt.proofs.Choices.{GoesNoFarther, method-ways, method-jumps, method-ends, method-told, method-measured}
use Rattle.p8_stmt.proofs.Held.{held-same}

-- ---- choices as lists

-- an entry of a list
record Entry {X : Type 0} (xs : List X) (k : ℕ) : Type 0 where
  entry : X
  is : slice_get xs k ≡ Some entry

entry_at : {X : Type 0} (xs : List X) (k : ℕ) → k < length xs → Entry xs k
entry_at [] k lt = absurd (omega (arith, lt))
entry_at (x ∷ xs) zero lt = record { entry = x; is = refl }
entry_at (x ∷ xs) (suc k) lt = let e = entry_at xs k (omega (arith, lt)) in record { entry = e.entry; is = e.is }

wide-at : (ws : List Bool) (k : ℕ) → k < length ws → wide_in ws k ≡ true → slice_get ws k ≡ Some true
wide-at [] k lt is = absurd (omega (arith, lt))
wide-at (b ∷ bs) zero lt is = ap Some is
wide-at (b ∷ bs) (suc k) lt is = wide-at bs k (omega (arith, lt)) is

wide-past : (ws : List Bool) (k : ℕ) → length ws ≤ k → wide_in ws k ≡ true
wide-past [] k le = refl
wide-past (b ∷ bs) zero le = absurd (omega (arith, le))
wide-past (b ∷ bs) (suc k) le = wide-past bs k (omega (arith, le))

-- what a choice has of the other's entries it has as a function
as-functions : (ws others : List Bool) → length others ≡ length ws → ((k : ℕ) → slice_get ws k ≡ Some true → slice_get others k ≡ Some true) → (k : ℕ) → wide_in ws k ≡ true → wide_in others k ≡ true
as-functions ws others long less k is = elim (cases_lt k (length ws)) [
  | inl lt ↦ ap (λ o. unwrap_or o true) (less k (wide-at ws k lt is))
  | inr le ↦ wide-past others k (omega (arith, le, long))
]

pub none-wide : (n k : ℕ) → ¬ (slice_get (replicate n false) k ≡ Some true)
none-wide zero k at = absurd cc
none-wide (suc n) zero at = absurd cc
none-wide (suc n) (suc k) at = none-wide n k at

narrow-one : (ys : List Bool) → count_by not (false ∷ ys) ≡ 1 + count_by not ys
narrow-one ys = grind (arith, common_steps)

wide-one : (ys : List Bool) → count_by not (true ∷ ys) ≡ count_by not ys
wide-one ys = grind (arith, common_steps)

-- a choice with more entries has fewer narrow ones, or is the same
pub fewer-narrow : (xs ys : List Bool) → length ys ≡ length xs → ((k : ℕ) → slice_get xs k ≡ Some true → slice_get ys k ≡ Some true) → (ys ≡ xs) ⊎ (count_by not ys < count_by not xs)
fewer-narrow [] [] long less = inl refl
fewer-narrow [] (b ∷ ys) long less = absurd (omega (arith, long))
fewer-narrow (a ∷ xs) [] long less = absurd (omega (arith, long))
fewer-narrow (true ∷ xs) (false ∷ ys) long less = absurd (let here : Some false ≡ Some true = less 0 refl in cc)
fewer-narrow (true ∷ xs) (true ∷ ys) long less = elim (fewer-narrow xs ys (omega (arith, long)) (λ k. less (suc k))) [
  | inl same ↦ inl (ap (λ zs. true ∷ zs) same)
  | inr fewer ↦ inr (omega (arith, fewer, wide-one xs, wide-one ys))
]
fewer-narrow (false ∷ xs) (true ∷ ys) long less = elim (fewer-narrow xs ys (omega (arith, long)) (λ k. less (suc k))) [
  | inl same ↦ inr (let count = ap (count_by not) same in omega (arith, count, narrow-one xs, wide-one ys))
  | inr fewer ↦ inr (omega (arith, fewer, narrow-one xs, wide-one ys))
]
fewer-narrow (false ∷ xs) (false ∷ ys) long less = elim (fewer-narrow xs ys (omega (arith, long)) (λ k. less (suc k))) [
  | inl same ↦ inl (ap (λ zs. false ∷ zs) same)
  | inr fewer ↦ inr (omega (arith, fewer, narrow-one xs, narrow-one ys))
]

-- two choices that have each other's wide jumps are one
same-choice : (xs ys : List Bool) → length ys ≡ length xs → ((k : ℕ) → slice_get xs k ≡ Some true → slice_get ys k ≡ Some true) → ((k : ℕ) → slice_get ys k ≡ Some true → slice_get xs k ≡ Some true) → xs ≡ ys
same-choice xs ys long less more = elim (fewer-narrow xs ys long less) [
  | inl same ↦ sym same
  | inr fewer ↦ elim (fewer-narrow ys xs (sym long) more) [
    | inl same ↦ same
    | inr other ↦ absurd (omega (arith, fewer, other))
  ]
]

-- ---- a round

pub length-round : (ws : List Bool) (i : ℕ) (vs : List (ℕ × ℕ)) → length (widened_from ws i vs) ≡ length vs
length-round ws i [] = refl
length-round ws i (v ∷ vs) = ap suc (length-round ws (suc i) vs)

round-at : (ws : List Bool) (i : ℕ) (vs : List (ℕ × ℕ)) (k : ℕ) (v : ℕ × ℕ) → slice_get vs k ≡ Some v → slice_get (widened_from ws i vs) k ≡ Some (wide_in ws (i + k) || not (is_near false v.0 v.1))
round-at ws i [] k v at = absurd (none-some v at)
round-at ws i (x ∷ vs) zero v at =
    let is : x ≡ v = same_Some x v at in
    let place : i ≡ i + 0 = omega arith in
    ap (λ (z : ℕ × ℕ). Some (wide_in ws i || not (is_near false z.0 z.1))) is ∙ ap (λ n. Some (wide_in ws n || not (is_near false v.0 v.1))) place
round-at ws i (x ∷ vs) (suc k) v at =
    let place : suc i + k ≡ i + suc k = omega arith in
    round-at ws (suc i) vs k v at ∙ ap (λ n. Some (wide_in ws n || not (is_near false v.0 v.1))) place

-- ---- offsets

both-true : (a b : Bool) → (a && b) ≡ true → (a ≡ true) × (b ≡ true)
both-true true b is = (refl, is)
both-true false b is = absurd cc

both-are : (a b : Bool) → a ≡ true → b ≡ true → (a && b) ≡ true
both-are a b x y = ap (λ t. t && b) x ∙ y

le-is : (a b : ℕ) → nat_le a b ≡ true → a ≤ b
le-is a b h = grind (arith, nat_tests)

is-le : (a b : ℕ) → a ≤ b → nat_le a b ≡ true
is-le a b h = grind (arith, nat_tests)

lt-is : (a b : ℕ) → nat_lt a b ≡ true → a < b
lt-is a b h = grind (arith, nat_tests)

is-lt : (a b : ℕ) → a < b → nat_lt a b ≡ true
is-lt a b h = grind (arith, nat_tests)

some-reach : (wide : Bool) → 0 < reach wide
some-reach true = omega arith
some-reach false = omega arith

-- what goes no farther than what has room has room
nearer : (wide : Bool) (v w : ℕ × ℕ) → GoesNoFarther v w → is_near wide w.0 w.1 ≡ true → is_near wide v.0 v.1 ≡ true
nearer wide v w no_farther near =
    let tests = both-true (nat_le w.0 (w.1 + reach wide)) (nat_lt w.1 (w.0 + reach wide)) near in
    let back : w.0 ≤ w.1 + reach wide = le-is w.0 (w.1 + reach wide) tests.0 in
    let forth : w.1 < w.0 + reach wide = lt-is w.1 (w.0 + reach wide) tests.1 in
    let some = some-reach wide in
    elim no_farther.goes [
      | inl on ↦
          let a = on.one in let c = on.fewer in
          both-are _ _ (is-le v.0 (v.1 + reach wide) (omega (arith, back, c))) (is-lt v.1 (v.0 + reach wide) (omega (arith, a, some)))
      | inr on ↦
          let a = on.one in let c = on.fewer in
          both-are _ _ (is-le v.0 (v.1 + reach wide) (omega (arith, a))) (is-lt v.1 (v.0 + reach wide) (omega (arith, forth, c)))
    ]

-- ---- the least choice

or-true : (a b : Bool) → (a || b) ≡ true → (a ≡ true) ⊎ (b ≡ true)
or-true true b is = inl refl
or-true false b is = inr is

not-true : (a : Bool) → not a ≡ true → a ≡ false
not-true true is = absurd cc
not-true false is = refl

module _ (n : Names) (ss : Statements) where
  jumps-are : (f : ℕ → Bool) → (method_code (widened n f) ss).jumps ≡ (method_code n ss).jumps
  jumps-are f = sym (method-jumps (λ k. false) f (λ k is. absurd cc) n ss) ∙ method-jumps (λ k. false) n.wide (λ k is. absurd cc) n ss

  pub ways-are : (f : ℕ → Bool) → length (method_code (widened n f) ss).ways ≡ (method_code n ss).jumps
  ways-are f = (method-told n f ss).counted ∙ jumps-are f

  way_at : (f : ℕ → Bool) (k : ℕ) → k < (method_code n ss).jumps → Entry (method_code (widened n f) ss).ways k
  way_at f k lt = let count = ways-are f in entry_at (method_code (widened n f) ss).ways k (omega (arith, lt, count))

  -- a jump whose offset has no room in one byte is wide by every choice that fits and has these wide jumps
  must-be-wide : (f g : ℕ → Bool) → ((k : ℕ) → f k ≡ true → g k ≡ true) → Fits n ss g → (k : ℕ) (v : ℕ × ℕ) → slice_get (method_code (widened n f) ss).ways k ≡ Some v → is_near false v.0 v.1 ≡ false → g k ≡ true
  must-be-wide f g more fits k v at far = go (g k) refl
    where
      go : (b : Bool) → g k ≡ b → g k ≡ true
      go true is = is
      go false is =
          let inside = slice_get_within (method_code (widened n f) ss).ways k v at in
          let count = ways-are f in
          let w = way_at g k (omega (arith, inside, count)) in
          let near : is_near (g k) w.entry.0 w.entry.1 ≡ true = ((method-told n g ss).fit fits).each k w.entry w.is in
          let short : is_near false w.entry.0 w.entry.1 ≡ true = ap (λ b. is_near b w.entry.0 w.entry.1) (sym is) ∙ near in
          let here : is_near false v.0 v.1 ≡ true = nearer false v w.entry ((method-ways f g more n ss).each k v w.entry at w.is) short in
          absurd cc

  module _ (ws : List Bool) (below : IsBelowAll n ss ws) where
    pub next-count : length (after_round n ss ws) ≡ (method_code n ss).jumps
    next-count = length-round ws 0 (method_code (widened n (wide_in ws)) ss).ways ∙ ways-are (wide_in ws)

    -- a round keeps what is wide
    pub next-keeps : (k : ℕ) → slice_get ws k ≡ Some true → slice_get (after_round n ss ws) k ≡ Some true
    next-keeps k at =
        let inside = slice_get_within ws k true at in
        let count = below.count in
        let v = way_at (wide_in ws) k (omega (arith, inside, count)) in
        let wide : wide_in ws k ≡ true = ap (λ o. unwrap_or o true) at in
        round-at ws 0 (method_code (widened n (wide_in ws)) ss).ways k v.entry v.is ∙ ap (λ b. Some (b || not (is_near false v.entry.0 v.entry.1))) (ap (wide_in ws) (zero-plus k) ∙ wide)
      where
        zero-plus : (k : ℕ) → 0 + k ≡ k
        zero-plus k = omega arith

    -- and adds only what must be wide
    pub next-below : IsBelowAll n ss (after_round n ss ws)
    next-below = record {
      count = next-count;
      least = λ other long fits k at.
          let inside = slice_get_within (after_round n ss ws) k true at in
          let all = next-count in
          let many = below.count in
          let long_other : length other ≡ length ws = long ∙ all ∙ sym many in
          let v = way_at (wide_in ws) k (omega (arith, inside, all)) in
          let more = as-functions ws other long_other (below.least other long_other fits) in
          let is : (wide_in ws (0 + k) || not (is_near false v.entry.0 v.entry.1)) ≡ true =
          same_Some _ _ (sym (round-at ws 0 (method_code (widened n (wide_in ws)) ss).ways k v.entry v.is) ∙ at) in
          let place : 0 + k ≡ k = omega arith in
          let wide : wide_in other k ≡ true = elim (or-true (wide_in ws (0 + k)) (not (is_near false v.entry.0 v.entry.1)) is) [
            | inl was ↦ more k (ap (wide_in ws) (sym place) ∙ was)
            | inr far ↦ must-be-wide (wide_in ws) (wide_in other) more fits k v.entry v.is (not-true (is_near false v.entry.0 v.entry.1) far)
          ] in
          wide-at other k (omega (arith, inside, long)) wide;
    }

    pub next-narrower : ¬ (after_round n ss ws ≡ ws) → count_by not (after_round n ss ws) < count_by not ws
    next-narrower other = elim (fewer-narrow ws (after_round n ss ws) (next-count ∙ sym below.count) next-keeps) [
      | inl same ↦ absurd (other same)
      | inr fewer ↦ fewer
    ]

    -- where it adds nothing each offset fits, if each does with all jumps wide
    pub settled : after_round n ss ws ≡ ws → Fits n ss all_wide → IsLeast n ss ws
    settled same fits = record {
      count = below.count;
      fits = (method-told n (wide_in ws) ss).near (record { each = λ k v at. go k v at (wide_in ws k) refl });
      least = below.least;
    }
      where
        go : (k : ℕ) (v : ℕ × ℕ) → slice_get (method_code (widened n (wide_in ws)) ss).ways k ≡ Some v → (b : Bool) → wide_in ws k ≡ b → is_near (wide_in ws k) v.0 v.1 ≡ true
        go k v at true is =
            let inside = slice_get_within (method_code (widened n (wide_in ws)) ss).ways k v at in
            let count = ways-are (wide_in ws) in
            let w = way_at all_wide k (omega (arith, inside, count)) in
            let near : is_near true w.entry.0 w.entry.1 ≡ true = ((method-told n all_wide ss).fit fits).each k w.entry w.is in
            ap (λ b. is_near b v.0 v.1) is ∙ nearer true v w.entry ((method-ways (wide_in ws) all_wide (λ k wide. refl) n ss).each k v w.entry at w.is) near
        go k v at false is =
            let here : slice_get ws k ≡ Some (wide_in ws (0 + k) || not (is_near false v.0 v.1)) = ap (λ xs. slice_get xs k) (sym same) ∙ round-at ws 0 (method_code (widened n (wide_in ws)) ss).ways k v at in
            let place : 0 + k ≡ k = omega arith in
            let value : wide_in ws k ≡ (wide_in ws (0 + k) || not (is_near false v.0 v.1)) = ap (λ o. unwrap_or o true) here in
            let far : not (is_near false v.0 v.1) ≡ false = ap (λ b. b || not (is_near false v.0 v.1)) (sym (ap (wide_in ws) place ∙ is)) ∙ sym value ∙ is in
            ap (λ b. is_near b v.0 v.1) is ∙ not-false (is_near false v.0 v.1) far
          where
            not-false : (a : Bool) → not a ≡ false → a ≡ true
            not-false true h = refl
            not-false false h = absurd cc

  -- a choice by which none is wide
  pub none-below : (f : ℕ → Bool) (count : ℕ) → count ≡ length (method_code (widened n f) ss).ways → IsBelowAll n ss (replicate count false)
  none-below f count is = record { count = length-replicate count false ∙ is ∙ ways-are f; least = λ other long fits k at. absurd (none-wide count k at) }

-- ---- short codes

no-places : (ps : List Place) → ((p : Place) → ¬ Contains ps p) → ps ≡ []
no-places [] none = refl
no-places (p ∷ ps) none = absurd (none p (0, omega arith, refl))

none-there : (ps : List Place) (p : Place) → ps ≡ [] → ¬ Contains ps p
none-there ps p none (k, lt, same) = let long = ap length none in absurd (omega (arith, lt, long))

module _ (n : Names) (m : MethodTree) (ss : Statements) where
  -- with all jumps wide each offset fits
  pub accepted-fits : ((f : Fault) → ¬ IsMethodFault n (rebodied m ss) f) → (method_code n ss).too_far ≡ []
  accepted-fits clean = no-places (method_code n ss).too_far (λ p has. clean (fault JumpTooFar p) (jump_too_far p has refl))

  pub no-fault : ((f : Fault) → ¬ IsMethodFault n (rebodied m ss) f) → (g : ℕ → Bool) → Fits n ss g → (f : Fault) → ¬ IsMethodFault (widened n g) (rebodied m ss) f
  no-fault clean g fits f (jump_too_far p has is) = none-there (method_code (widened n g) ss).too_far p fits has
  no-fault clean g fits f (frame_too_large large is) = clean f (frame_too_large large is)
  no-fault clean g fits f (holds_too_much large is) = clean f (holds_too_much (subst (λ (k : ℕ). most_held < k) (held-same n g n.wide ss) large) is)

  pub one-choice : (a b : MethodCode) → (x : IsShortCode n m ss a) → (y : IsShortCode n m ss b) → x.widths ≡ y.widths
  one-choice a b x y =
      let long : length y.widths ≡ length x.widths = y.least.count ∙ sym x.least.count in
      same-choice x.widths y.widths long (x.least.least y.widths long y.least.fits) (y.least.least x.widths (sym long) x.least.fits)

  pub no-longer : (a b : MethodCode) → (x : IsShortCode n m ss a) → IsCodeOf (widened n all_wide) (rebodied m ss) b → length a.bytes ≤ length b.bytes
  no-longer a b x y =
      let fewer = method-ends (wide_in x.widths) all_wide (λ k wide. refl) n ss in
      let short : length a.bytes ≡ (method_code (widened n (wide_in x.widths)) ss).end = ap length x.code_is.bytes ∙ sym (method-measured n (wide_in x.widths) ss) in
      let plain : length b.bytes ≡ (method_code (widened n all_wide) ss).end = ap length y.bytes ∙ sym (method-measured n all_wide ss) in
      omega (arith, fewer, short, plain)
