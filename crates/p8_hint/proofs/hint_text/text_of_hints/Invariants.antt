use Rattle.std.proofs.Common.{◌≡◌, ◌++◌, drop}
use Rattle.std.specs.List.{flat_map}
use Rattle.p8_hint.specs.Hints.{text_with}
use Rattle.p8_hint.specs.Shown.{shown_line}
use Rattle.p8_hint.proofs.hint_text.text_of_hints.Given as goal

abbrev pub invariant-loop-hint : goal.invariant-loop-hint
invariant-loop-hint l =
    l.out.items ++ flat_map (λ h. text_with l.file (shown_line l.lines h.place.line) h) (drop l.hint-index l.hints) ≡ flat_map (λ h. text_with l.file (shown_line l.lines h.place.line) h) l.hints
