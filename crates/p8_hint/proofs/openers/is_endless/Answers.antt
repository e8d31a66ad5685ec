use Rattle.std.proofs.Common.{◌∙◌, ◌&&◌, ap₂}
use Rattle.p8_hint.proofs.Following.{repeat_endless}
use Rattle.p8_hint.proofs.openers.is_endless.Goals as goal

pub returns-in-Repeat : goal.returns-in-Repeat
returns-in-Repeat c =
    c.both.ensures ∙ ap₂ (λ a b. a && b) c.is_forever.ensures c.has_no_quit.ensures
    ∙ repeat_endless c.args.statement.now.kind c.in-Repeat.course c.in-Repeat.body c.deref.result.now c.deref.result.now c.in-Repeat.is c.deref.ensures.value c.deref.ensures.value
