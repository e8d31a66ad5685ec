use Rattle.std.proofs.Common.{◌++◌, List, ap, ◌∙◌, ℕ, reverse}
use Rattle.std.specs.List.{flat_map}
use Rattle.std.proofs.lemmas.List.{length-reverse}
use Rattle.p8_access.specs.Hub.{cogs}
use Rattle.p8_report.specs.Text.{ended_text, locks_text, pins_text, cog_text, dump_text}
use Rattle.p8_report.proofs.history_text.text.Goals as goal

pub returns : goal.returns
returns c = λ w first limit h.
    let past = reverse c.args.turns.now in
    c.in_ok-push_dump.ensures w past h
    ∙ ap (λ (xs : List ℕ). xs ++ dump_text w past c.args.dump)
    (c.in_ok-push_tail.ensures w past limit (length-reverse c.args.turns.now) h
    ∙ ap (λ (xs : List ℕ). xs ++ ended_text w past ++ locks_text past ++ pins_text past ++ flat_map (cog_text w past) cogs) (c.in_ok-out.ensures w first))
