-- The whole text of a wave.
use Rattle.std.proofs.Common.{◌≡◌, ◌∙◌, ap, ℕ, List, [], ◌++◌, ◌||◌, Option, filter, map, codes}
use Rattle.std.specs.List.{flat_map}
use Rattle.p8_access.specs.declared.order.Turn.{Turn}
use Rattle.p8_access.specs.Worlds.{World}
use Rattle.p8_wave.specs.declared.entries.Entry.{Entry}
use Rattle.p8_wave.specs.declared.walks.Walk.{Walk}
use Rattle.p8_wave.specs.declared.variables.Selection.{Selection}
use Rattle.p8_wave.specs.declared.variables.Variable.{Variable}
use Rattle.p8_wave.specs.declared.variables.Scope.{Scope}
use Rattle.p8_wave.specs.Variables.{scopes, variables}
use Rattle.p8_wave.specs.Values.{changes, shown}
use Rattle.p8_wave.specs.Scale.{frequency, period_of, scale_text}
use Rattle.p8_wave.specs.Wave.{head_text, first_text, signals_of, changes_text}
use Rattle.p8_wave.specs.Sections.{entry_of, head_of, first_of, IsWalked}
use Rattle.p8_wave.specs.Parts.{together}
use Rattle.p8_wave.proofs.Sectioning.{all_variables, scope_all, shown_entries, values_shown}

module _ (w : World) (past : List Turn) (selection : Selection) (f : ℕ) (period : Option ℕ) (walk : Walk) (told : f ≡ frequency w) (is_period : period ≡ period_of f) (walked : IsWalked w past (variables selection.pins_only) walk) (es e₁ e₂ e₃ : List Entry)
    (is_shown : es ≡ filter (λ (e : Entry). selection.all || e.changes) e₁) (is₁ : e₁ ≡ together walk.sections.parts.items) (is₂ : e₂ ≡ es) (is₃ : e₃ ≡ es) where
  shown_es : es ≡ map (entry_of (changes w past)) (shown w past selection)
  shown_es = is_shown ∙ ap (filter (λ (e : Entry). selection.all || e.changes)) (is₁ ∙ walked.entries) ∙ shown_entries (changes w past) selection.all (variables selection.pins_only)

  head : head_of f period e₂ ≡ head_text w (shown w past selection)
  head =
      ap (λ p. head_of f p e₂) is_period ∙ ap (λ n. head_of n (period_of n) e₂) told ∙ ap (head_of (frequency w) (period_of (frequency w))) (is₂ ∙ shown_es)
      ∙ ap (λ xs. codes "$version Propeller P8X32A $end\n" ++ scale_text (frequency w) (period_of (frequency w)) ++ xs ++ codes "$enddefinitions $end\n") (λ i. flat_map (λ (scope : Scope). scope_all (changes w past) scope (shown w past selection) i) scopes)

  first : first_of walk.first e₃ ≡ first_text w past (shown w past selection)
  first =
      ap (first_of walk.first) (is₃ ∙ shown_es)
      ∙ ap (λ xs. codes "#0\n$dumpvars\n" ++ xs ++ codes "$end\n") (values_shown w past 0 walk.first walked.first (changes w past) (λ (v : Variable). selection.all || changes w past v) (variables selection.pins_only) (all_variables selection.pins_only))

  pub whole : (start out₁ out₂ out₃ last : List ℕ) → start ≡ [] → out₁ ≡ start ++ head_of f period e₂ → out₂ ≡ out₁ ++ first_of walk.first e₃ → last ≡ walk.sections.text.items → out₃ ≡ out₂ ++ last → out₃ ≡ signals_of w past selection
  whole start out₁ out₂ out₃ last empty one two is_last three =
      three ∙ ap (λ xs. out₂ ++ xs) (is_last ∙ walked.text)
      ∙ ap (λ xs. xs ++ changes_text w past (variables selection.pins_only)) (two ∙ ap (λ xs. out₁ ++ xs) first ∙ ap (λ xs. xs ++ first_text w past (shown w past selection)) (one ∙ ap (λ xs. xs ++ head_of f period e₂) empty ∙ head))
