-- The place behind a turn, by what its cog runs.
use Rattle.std.proofs.Common.{◌≡◌, ◌∙◌, refl, sym, ap, ℕ, Bool, true, false, if◌then◌else◌, ◌==◌, Option, Some, None, List, [], ◌∷◌}
use Rattle.std.proofs.lemmas.Option.{same_Some}
use Rattle.p8_access.specs.declared.kinds.Origin.{Origin}
use Rattle.p8_access.specs.declared.kinds.Origin.TheVariants.{Pasm, Spin}
use Rattle.p8_access.specs.declared.order.Turn.{Turn}
use Rattle.p8_access.specs.declared.states.CogState.{CogState}
use Rattle.p8_access.specs.declared.states.CogState.TheVariants.{Stopped, Starting, Running}
use Rattle.p8_access.specs.Hub.{Change, Starts, Runs, Stops, change_of, changed, cog_state, origin_of}
use Rattle.p8_access.specs.Histories.{begun, begun_at}
use Rattle.p8_access.specs.Lives.{Entered, Loaded, PasmBegun, SpinBegun}
use Rattle.p8_access.specs.Worlds.{World}
use Rattle.p8_access.proofs.Changes.{begun-new, begun-same, none-begins, runs-begins}
use Rattle.p8_legend.specs.declared.legend.Legend.{Legend}
use Rattle.p8_legend.specs.Legends.{place_text}
use Rattle.p8_view.specs.Words.{place_for}

-- a running cog's life began with what the cog was started with
record HasBegun (w : World) (past : List Turn) (n : ℕ) (origin : Origin) : Type 0 where
  clock : ℕ
  is : begun w past n ≡ Some (begun_at w n clock origin)

started : (b : Bool) (w : World) (origin : Origin) → (if b then Starting 0 w.first else Stopped) ≡ Running origin → ⊥
started true w origin is = absurd cc
started false w origin is = absurd cc

origin-is : (a b : Origin) → Running a ≡ Running b → a ≡ b
origin-is a b is = ap origin_of is

by-change : (w : World) (past : List Turn) (turn : Turn) (n : ℕ) (origin : Origin) (change : Option Change) → change_of n turn ≡ change → changed (cog_state w past n) change ≡ Running origin
    → (cog_state w past n ≡ Running origin → HasBegun w past n origin) → HasBegun w (turn ∷ past) n origin
by-change w past turn n origin None is running before =
    let h = before running in
    record { clock = h.clock; is = begun-same w past turn n (none-begins n turn.key.clock turn.key.cog turn.access turn.answer is) ∙ h.is }
by-change w past turn n origin (Some Runs) is running before = record {
  clock = turn.key.clock;
  is = begun-new w past turn n (runs-begins n turn.key.clock turn.key.cog turn.access turn.answer is)
      ∙ ap (λ (o : Origin). Some (begun_at w n turn.key.clock o)) (origin-is (origin_of (cog_state w past n)) origin running);
}
by-change w past turn n origin (Some (Starts since other)) is running before = absurd (let e : Starting since other ≡ Running origin = running in cc)
by-change w past turn n origin (Some Stops) is running before = absurd (let e : Stopped ≡ Running origin = running in cc)

running-began : (w : World) (past : List Turn) (n : ℕ) (origin : Origin) → cog_state w past n ≡ Running origin → HasBegun w past n origin
running-began w [] n origin running = absurd (started (n == 0) w origin running)
running-began w (turn ∷ past) n origin running = by-change w past turn n origin (change_of n turn) refl running (running-began w past n origin)

spin-by : (legend : Legend) (counter : Option ℕ) (w : World) (n clock : ℕ) (origin : Origin) (entered : Entered) → begun_at w n clock origin ≡ SpinBegun entered → place_for legend origin counter ≡ place_text legend.places counter
spin-by legend counter w n clock (Pasm code par) entered is = absurd cc
spin-by legend counter w n clock (Spin entry pbase vbase frame size) entered is = refl

pasm-by : (legend : Legend) (counter : Option ℕ) (w : World) (n clock : ℕ) (origin : Origin) (loaded : Loaded) → begun_at w n clock origin ≡ PasmBegun loaded → place_for legend origin counter ≡ place_text legend.lines counter
pasm-by legend counter w n clock (Pasm code par) loaded is = refl
pasm-by legend counter w n clock (Spin entry pbase vbase frame size) loaded is = absurd cc

module _ (legend : Legend) (counter : Option ℕ) (w : World) (past : List Turn) (n : ℕ) (origin : Origin) (running : cog_state w past n ≡ Running origin) where
  abbrev of-state : CogState → List ℕ
  of-state state = place_for legend (origin_of state) counter

  pub spin-place : (entered : Entered) → begun w past n ≡ Some (SpinBegun entered) → place_for legend (origin_of (cog_state w past n)) counter ≡ place_text legend.places counter
  spin-place entered begins =
      let h = running-began w past n origin running in
      ap of-state running ∙ spin-by legend counter w n h.clock origin entered (same_Some (begun_at w n h.clock origin) (SpinBegun entered) (sym h.is ∙ begins))

  pub pasm-place : (loaded : Loaded) → begun w past n ≡ Some (PasmBegun loaded) → place_for legend (origin_of (cog_state w past n)) counter ≡ place_text legend.lines counter
  pasm-place loaded begins =
      let h = running-began w past n origin running in
      ap of-state running ∙ pasm-by legend counter w n h.clock origin loaded (same_Some (begun_at w n h.clock origin) (PasmBegun loaded) (sym h.is ∙ begins))

-- without a counter there is none
pub no-place : (legend : Legend) (own : Origin) (counter : Option ℕ) → counter ≡ None → place_for legend own counter ≡ []
no-place legend (Pasm code par) counter none = ap (place_text legend.lines) none
no-place legend (Spin entry pbase vbase frame size) counter none = ap (place_text legend.places) none
