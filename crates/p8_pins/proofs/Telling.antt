-- Changes that tell the pins of a run.
use Rattle.std.proofs.Common.{◌≡◌, ◌∙◌, ap, sym, subst, ℕ, ◌<◌, ◌≤◌, inl, inr, min, List, [], ◌∷◌, ◌++◌, None, Some, arith}
use Rattle.std.proofs.lemmas.Bool.{cases_lt}
use Rattle.std.proofs.lemmas.List.{map-append}
use Rattle.p8_access.specs.declared.order.Turn.{Turn}
use Rattle.p8_access.specs.Worlds.{Line, World, level_at}
use Rattle.p8_access.specs.Pins.{dira, outputs, pins_with}
use Rattle.p8_pins.specs.Levels.{by, pins_when}
use Rattle.p8_pins.specs.LevelChanges.{line_of, lines_of, Tells, Within}
use Rattle.p8_pins.specs.Walks.{IsStill, pins_along, HasTold}
use Rattle.p8_pins.specs.declared.change.Change.{Change}
use Rattle.p8_pins.proofs.Passing.{passes, more-before, more-from, within-more, rise-more}

within-all : (clock t : ℕ) (lines : List Line) → clock ≤ t → Within clock lines → Within t lines
within-all clock t [] le within = tt
within-all clock t (line ∷ lines) le within = (omega (arith, within.0, le), within-all clock t lines le within.1)

module _ (script : List Line) (past : List Turn) where
  pub told-first : (pins : ℕ) (items : List Change) → items ≡ (record { clock = 0; pins = pins }) ∷ [] → pins ≡ pins_along script past 0 → HasTold script past 0 (lines_of items)
  told-first pins items is told = subst (λ (cs : List Change). HasTold script past 0 (lines_of cs)) (sym is) (record {
    rise = (omega arith, tt);
    within = (omega arith, tt);
    pins = λ t. passes 0 t (record { clock = 0; levels = pins }) [] (omega arith) ∙ told ∙ ap (pins_along script past) (omega arith);
  })

  told-line : (clock : ℕ) (line : Line) (lines : List Line) → clock < line.clock → IsStill script past clock (Some line.clock) → line.levels ≡ pins_along script past line.clock → HasTold script past clock lines → (t : ℕ) → level_at (lines ++ line ∷ []) t ≡ pins_along script past (min t line.clock)
  told-line clock line lines later still told h t = elim (cases_lt t line.clock) [
    | inl before ↦ more-before 0 t lines line before ∙ h.pins t ∙ elim (cases_lt clock t) [
      | inl between ↦ ap (pins_along script past) (omega (arith, between)) ∙ sym (still t (omega (arith, between)) before) ∙ ap (pins_along script past) (omega (arith, before))
      | inr early ↦ ap (pins_along script past) (omega (arith, early, before))
    ]
    | inr from ↦ more-from 0 t lines line (within-all clock t lines (omega (arith, later, from)) h.within) from ∙ told ∙ ap (pins_along script past) (omega (arith, from))
  ]

  pub told-more : (clock next pins : ℕ) (old new : List Change) → clock < next → IsStill script past clock (Some next) → pins ≡ pins_along script past next → new ≡ old ++ (record { clock = next; pins = pins }) ∷ [] → HasTold script past clock (lines_of old) → HasTold script past next (lines_of new)
  told-more clock next pins old new later still told is h =
      let line : Line = record { clock = next; levels = pins } in
      let lines : lines_of new ≡ lines_of old ++ line ∷ [] = ap lines_of is ∙ map-append line_of old ((record { clock = next; pins = pins }) ∷ []) in
      subst (HasTold script past next) (sym lines) (record {
        rise = rise-more 0 clock (lines_of old) line (omega arith) later h.within h.rise;
        within = within-more clock next (lines_of old) line (omega (arith, later)) (omega arith) h.within;
        pins = told-line clock line (lines_of old) later still told h;
      })

  pub told-all : (w : World) (clock : ℕ) (lines : List Line) → w.script ≡ script → IsStill script past clock None → HasTold script past clock lines → Tells w past lines
  unfolding pins_when
  told-all w clock lines same still h = record {
    rise = h.rise;
    pins = λ t. h.pins t ∙ elim (cases_lt clock t) [
      | inl later ↦ ap (pins_along script past) (omega (arith, later)) ∙ sym (still t (omega (arith, later)) tt)
      | inr early ↦ ap (pins_along script past) (omega (arith, early))
    ] ∙ ap (λ (lines : List Line). pins_with (dira (by past t)) (outputs (by past t)) (level_at lines t)) (sym same);
  }
