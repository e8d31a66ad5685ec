use Rattle.std.proofs.Common.{◌≡◌, ◌∙◌, ap, sym, ℕ, List, [], ◌∷◌, map, ◌++◌, if◌then◌else◌}
use Rattle.std.specs.List.{range_with_len, flat_map}
use Rattle.std.proofs.lemmas.List.{append-nil}
use Rattle.p8_wave.specs.declared.entries.Entry.{Entry}
use Rattle.p8_wave.specs.declared.variables.Variable.TheVariants.{Pin}
use Rattle.p8_wave.specs.Variables.{cog_variables, lock_variables}
use Rattle.p8_wave.specs.Sections.{still}
use Rattle.p8_wave.specs.Parts.{together}
use Rattle.p8_wave.proofs.Lists.{all_entries}
use Rattle.p8_wave.proofs.Together.{together-more}
use Rattle.p8_wave.proofs.parts.parts.Goals as goal
use Rattle.p8_wave.proofs.parts.parts.Goals.{then-not-pins_only+in_ok-push_cogs, else-not-pins_only}

pub returns : goal.returns
returns c =
    let pins : List Entry = map (λ (n : ℕ). still (Pin n)) (range_with_len 0 32) in
    let cogs : List Entry = flat_map (λ (n : ℕ). map still (cog_variables n)) (range_with_len 0 8) in
    let locks : List Entry = flat_map (λ (n : ℕ). map still (lock_variables n)) (range_with_len 0 8) in
    let pushed : together c.push_part.new.parts.items ≡ pins =
    ap together (c.in_ok-push_part.ensures ∙ ap (λ (xs : List (List Entry)). xs ++ c.in_ok-pins.pins ∷ []) c.new-parts.ensures.items) ∙ append-nil c.in_ok-pins.pins ∙ c.in_ok-pins.ensures in
    let joined : together c.if-not-pins_only.parts.items ≡ pins ++ (if c.args.pins_only then [] else cogs) = elim c.if-not-pins_only.branch [
      | then-not-pins_only+in_ok-push_cogs w ↦ rw (w.parts-is, w.if-not-pins_only.true) (w.in_ok-push_cogs.ensures ∙ ap (λ (xs : List Entry). xs ++ cogs) pushed)
      | else-not-pins_only w ↦ rw (w.parts-is, w.if-not-pins_only.false) (pushed ∙ sym (append-nil pins))
    ] in
    ap together c.in_ok-push_part-2.ensures ∙ together-more c.if-not-pins_only.parts.items c.in_ok-locks.locks
    ∙ ap (λ (xs : List Entry). xs ++ c.in_ok-locks.locks) joined ∙ ap (λ (xs : List Entry). (pins ++ (if c.args.pins_only then [] else cogs)) ++ xs) c.in_ok-locks.ensures ∙ all_entries c.args.pins_only
