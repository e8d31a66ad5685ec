-- The picture of a run, by the changes of its pins.
use Rattle.std.proofs.Common.{◌≡◌, ◌∙◌, ap, ap₂, ℕ, ◌-◌, Bool, List, ◌++◌, codes, min}
use Rattle.p8_access.specs.declared.order.Turn.{Turn}
use Rattle.p8_access.specs.Worlds.{Line, World, level_at}
use Rattle.p8_pins.specs.Levels.{is_high, high_at, end_of}
use Rattle.p8_pins.specs.LevelChanges.{Tells}
use Rattle.p8_wave.specs.declared.grid.Column.{Column}
use Rattle.p8_wave.specs.declared.view.View.{View}
use Rattle.p8_wave.specs.Ending.{end_text}
use Rattle.p8_wave.specs.Plot.{columns_of, picture_of, plot_of, shown_of}
use Rattle.p8_wave.specs.Scale.{rate}

module _ (w : World) (past : List Turn) (view : View) (end : ℕ) (lines : List Line) (tells : Tells w past lines) (is : end ≡ min view.to (end_of w past)) where
  -- the picture, drawn along the changes
  pub told-picture : (text : List ℕ) (columns : List Column) (frequency shown : ℕ) → columns ≡ columns_of view.columns view.from end → frequency ≡ rate w → shown ≡ end - view.from
      → text ≡ picture_of (λ pin t. is_high pin (level_at lines t)) view.ascii columns view.pins frequency shown → text ≡ shown_of w past view end
  told-picture text columns frequency shown are told so_many drawn =
      drawn
      ∙ ap (λ (high : ℕ → ℕ → Bool). picture_of high view.ascii columns view.pins frequency shown) (λ i pin t. is_high pin (tells.pins t i))
      ∙ ap (λ (cs : List Column). picture_of (high_at w past) view.ascii cs view.pins frequency shown) are
      ∙ ap₂ (λ (f n : ℕ). picture_of (high_at w past) view.ascii (columns_of view.columns view.from end) view.pins f n) told so_many

  -- and with what ended the run behind it
  pub told-plot : (text all ended : List ℕ) → text ≡ shown_of w past view end → ended ≡ end_text w past → all ≡ text ++ (ended ++ codes "\n") → all ≡ plot_of w past view
  unfolding plot_of
  told-plot text all ended drawn told both =
      both
      ∙ ap₂ (λ (t e : List ℕ). t ++ (e ++ codes "\n")) drawn told
      ∙ ap (λ (e : ℕ). shown_of w past view e ++ (end_text w past ++ codes "\n")) is
