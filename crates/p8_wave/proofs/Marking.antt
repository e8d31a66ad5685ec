-- The marks of a pin, column by column.
use Rattle.std.proofs.Common.{◌≡◌, ◌∙◌, ap, sym, subst, ℕ, ◌+◌, ◌<◌, ◌≤◌, Bool, List, ◌∷◌, ◌++◌, length, get_or, drop, flat_map, append_assoc}
use Rattle.std.proofs.lemmas.List.{drop_more}
use Rattle.p8_access.specs.Worlds.{level_at, levels_after}
use Rattle.p8_pins.specs.declared.change.Change.{Change}
use Rattle.p8_pins.specs.Levels.{is_high}
use Rattle.p8_pins.specs.LevelChanges.{lines_of, Ahead, RiseFrom}
use Rattle.p8_wave.specs.declared.grid.Column.{Column}
use Rattle.p8_wave.specs.declared.pin_level.PinLevel.{PinLevel}
use Rattle.p8_wave.specs.Plot.{mark_of, text_of_mark}
use Rattle.p8_wave.specs.Tracing.{Follow, IsFrom, IsBefore}

pub opened : (pin : ℕ) (changes : List Change) (columns : List Column) (trace : Ahead) → trace.pins ≡ 0 → trace.changes ≡ lines_of changes → RiseFrom 0 (lines_of changes) → Follow 0 columns → IsBefore (λ t. is_high pin (level_at (lines_of changes) t)) pin trace columns
opened pin changes columns trace low all rise follow = record {
  from = 0;
  at = record {
    levels = λ t le. ap (is_high pin) (ap (λ (p : ℕ). levels_after p trace.changes t) low ∙ ap (λ ls. level_at ls t) all);
    rise = subst (RiseFrom 0) (sym all) rise;
  };
  follow = follow;
}

module _ (whole : ℕ → Bool) (pin : ℕ) (columns : List Column) (i : ℕ) (d : Column) (inside : i < length columns) (old : Ahead) (before : IsBefore whole pin old (drop i columns)) where
  next-follow : Follow before.from (get_or columns i d ∷ drop (i + 1) columns)
  next-follow = subst (Follow before.from) (drop_more columns i d inside) before.follow

  pub marked : (mark : PinLevel) → ((w : ℕ → Bool) (from : ℕ) → from ≤ (get_or columns i d).first → IsFrom w pin from old → mark ≡ mark_of w (get_or columns i d)) → mark ≡ mark_of whole (get_or columns i d)
  marked mark shows = shows whole before.from next-follow.0 before.at

  pub goes-past : (new : Ahead) → ((w : ℕ → Bool) (from : ℕ) → from ≤ (get_or columns i d).first → IsFrom w pin from old → IsFrom w pin (get_or columns i d).end new) → IsBefore whole pin new (drop (i + 1) columns)
  goes-past new goes = record {
    from = (get_or columns i d).end;
    at = goes whole before.from next-follow.0 before.at;
    follow = next-follow.2;
  }

  pub one-mark : (ascii : Bool) (mark : PinLevel) (out more text all : List ℕ)
      → ((w : ℕ → Bool) (from : ℕ) → from ≤ (get_or columns i d).first → IsFrom w pin from old → mark ≡ mark_of w (get_or columns i d))
      → out ++ flat_map (λ (column : Column). text_of_mark ascii (mark_of whole column)) (drop i columns) ≡ all
      → more ≡ out ++ text → text ≡ text_of_mark ascii mark
      → more ++ flat_map (λ (column : Column). text_of_mark ascii (mark_of whole column)) (drop (i + 1) columns) ≡ all
  one-mark ascii mark out more text all shows so_far is told =
      let f : Column → List ℕ = λ column. text_of_mark ascii (mark_of whole column) in
      ap (λ (xs : List ℕ). xs ++ flat_map f (drop (i + 1) columns)) (is ∙ ap (λ (xs : List ℕ). out ++ xs) (told ∙ ap (text_of_mark ascii) (marked mark shows)))
      ∙ append_assoc out (f (get_or columns i d)) (flat_map f (drop (i + 1) columns))
      ∙ ap (λ (cs : List Column). out ++ flat_map f cs) (sym (drop_more columns i d inside))
      ∙ so_far
