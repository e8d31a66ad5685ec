use Rattle.std.proofs.Common.{◌++◌, List, ap, ◌∙◌, ℕ}
use Rattle.std.specs.List.{flat_map}
use Rattle.std.proofs.lemmas.Result.{on_ok_weaker}
use Rattle.p8_access.specs.Hub.{cogs}
use Rattle.p8_report.specs.Text.{locks_text, pins_text, cog_text}
use Rattle.p8_report.proofs.tail.push_tail.Goals as goal

pub returns : goal.returns
returns c =
    on_ok_weaker c.push_cogs.result
    (λ e w past limit count h. e w past h ∙ ap (λ (xs : List ℕ). xs ++ flat_map (cog_text w past) cogs) (c.in_ok-push_pins.ensures w past h ∙ ap (λ (xs : List ℕ). xs ++ pins_text past) (c.in_ok-push_locks.ensures w past h ∙ ap (λ (xs : List ℕ). xs ++ locks_text past) (c.in_ok-push_ended.ensures w past limit count))))
    c.push_cogs.ensures
