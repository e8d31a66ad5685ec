use Rattle.std.proofs.Common.{◌∙◌, ◌&&◌, ap₂}
use Rattle.p8_hint.proofs.Following.{if_bare, repeat_bare}
use Rattle.p8_hint.proofs.openers.is_bare.Goals as goal

pub returns-in-None : goal.returns-in-None
returns-in-None c = c.is_lone_and_bare.ensures ∙ if_bare c.args.statement.now.kind c.in-If.arms c.in-If.rest c.deref.result.now c.in-If.is c.deref.ensures.value c.in-None.is

pub returns-in-Repeat : goal.returns-in-Repeat
returns-in-Repeat c =
    c.both.ensures ∙ ap₂ (λ a b. a && b) c.counts.ensures c.is_empty.ensures
    ∙ repeat_bare c.args.statement.now.kind c.in-Repeat.course c.in-Repeat.body c.deref-in-Repeat.result.now c.in-Repeat.is c.deref-in-Repeat.ensures.value
