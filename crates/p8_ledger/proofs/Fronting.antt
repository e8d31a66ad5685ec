-- Which fronts a turn leaves as they were.
use Rattle.std.proofs.Common.{◌≡◌, ◌∙◌, ap, sym, subst, refl, ℕ, ◌≤◌, Bool, if◌then◌else◌, List, [], ◌∷◌, Option, Some, None, slice_get, slice_index, inl, inr}
use Rattle.p8_access.specs.declared.kinds.Origin.{Origin}
use Rattle.p8_access.specs.declared.kinds.Test.{Test}
use Rattle.p8_access.specs.declared.lives.Next.{Next}
use Rattle.p8_access.specs.declared.order.Turn.{Turn}
use Rattle.p8_access.specs.declared.states.CogState.{CogState}
use Rattle.p8_access.specs.declared.states.CogState.TheVariants.{Stopped, Starting, Running}
use Rattle.p8_access.specs.Worlds.{World}
use Rattle.p8_access.specs.Hub.{Change, change_of, changed, cog_state}
use Rattle.p8_access.proofs.Changes.{decided, same-cog, differ-cog, other-test}
use Rattle.p8_ledger.specs.declared.fronts.Fronts.{Fronts}
use Rattle.p8_ledger.specs.Fronts.{IsSaidFront, IsFront, IsFrontIn}

-- a front that is as it was is right for a state that is as it was
pub same-front : (old new : Fronts) (n limit : ℕ) (state : CogState) (said : Next) → slice_index new.clocks n ≡ slice_index old.clocks n → IsFrontIn old n limit state said → IsFrontIn new n limit state said
same-front old new n limit state said same front =
    (front.0, subst (λ (c : ℕ). IsFront n limit state said c front.0) (sym same) front.1)

some-number : (a b : ℕ) → Some a ≡ Some b → a ≡ b
some-number a b e = cc

-- the fronts with one renewed
pub renewed : (old new : Fronts) (w : World) (past : List Turn) (sayings : List Next) (cog limit : ℕ) → ((said : Next) → slice_get sayings cog ≡ Some said → IsFrontIn new cog limit (cog_state w past cog) said) → ((n : ℕ) → (n ≡ cog → ⊥) → slice_index new.clocks n ≡ slice_index old.clocks n) → (n : ℕ) (said : Next) → slice_get sayings n ≡ Some said → ((n ≡ cog → ⊥) → IsFrontIn old n limit (cog_state w past n) said) → IsFrontIn new n limit (cog_state w past n) said
renewed old new w past sayings cog limit own others n said at kept =
    elim (decided n cog) [
      | inl is ↦
          (let same : n ≡ cog = same-cog n cog is in
          let there = subst (λ (m : ℕ). slice_get sayings m ≡ Some said) same at in
          subst (λ (m : ℕ). IsFrontIn new m limit (cog_state w past m) said) (sym same) (own said there))
      | inr other ↦ same-front old new n limit (cog_state w past n) said (others n (differ-cog n cog other)) (kept (differ-cog n cog other))
    ]

-- a turn that starts or stops no other cog leaves the fronts of the others right, and so does one that
-- does for those of others than that
pub kept-front : (old : Fronts) (w : World) (past : List Turn) (turn : Turn) (n limit : ℕ) (said : Next) → change_of n turn ≡ None → IsFrontIn old n limit (cog_state w past n) said → IsFrontIn old n limit (cog_state w (turn ∷ past) n) said
kept-front old w past turn n limit said none front =
    subst (λ (s : CogState). IsFrontIn old n limit s said) (sym (ap (λ (c : Option Change). changed (cog_state w past n) c) none)) front

pub another : (started : Option ℕ) (other n : ℕ) → started ≡ Some other → (n ≡ other → ⊥) → started ≡ Some n → ⊥
another started other n is differ same = differ (some-number n other (sym same ∙ is))

-- a running cog has the front of what it says
pub spoken-front : (fronts : Fronts) (n limit : ℕ) (origin : Origin) (state : CogState) (next said : Next) → state ≡ Running origin → said ≡ next → (test : Option Test) × IsSaidFront limit next (slice_index fronts.clocks n) test → IsFrontIn fronts n limit state said
spoken-front fronts n limit origin state next said runs is front =
    subst (λ (s : CogState). IsFrontIn fronts n limit s said) (sym runs)
    (subst (λ (s : Next). (test : Option Test) × IsSaidFront limit s (slice_index fronts.clocks n) test) (sym is) front)

-- a cog that isn't the first is stopped before the first turn
pub idle-front : (fronts : Fronts) (w : World) (n limit : ℕ) (said : Next) → (n ≡ 0 → ⊥) → limit ≤ slice_index fronts.clocks n → IsFrontIn fronts n limit (cog_state w [] n) said
idle-front fronts w n limit said differ late =
    subst (λ (s : CogState). IsFrontIn fronts n limit s said) (sym (ap (λ (b : Bool). if b then Starting 0 w.first else Stopped) (other-test n 0 differ))) (None, (late, refl))
