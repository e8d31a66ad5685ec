use Rattle.std.proofs.Common.{◌∙◌, ap, sym, refl}
use Rattle.p8_access.specs.declared.kinds.Access.{Access}
use Rattle.p8_access.specs.declared.kinds.Answer.TheVariants.{Number, Value}
use Rattle.p8_access.specs.Histories.{answer_to}
use Rattle.p8_access.specs.Pins.{pins_with}
use Rattle.p8_hub.specs.Standing.{HubValue}
use Rattle.p8_hub.specs.Parts.{ors, driven}
use Rattle.p8_hub.proofs.Answering.{told_start, told_dira, told_outputs}
use Rattle.p8_hub.proofs.hub_state.Hub.answer.Goals as goal

pub returns-in-CogInit-clause-answer : goal.returns-in-CogInit-clause-answer
returns-in-CogInit-clause-answer c = λ w past stands levels.
    ap Number c.start.ensures.cog ∙ told_start w past _ stands c.args.key c.in-CogInit.target c.in-CogInit.origin ∙ ap (λ (access : Access). answer_to w past c.args.key access) (sym c.in-CogInit.is)

pub returns-in-PinsIn-clause-answer : goal.returns-in-PinsIn-clause-answer
returns-in-PinsIn-clause-answer c = λ w past stands levels.
    ap Value (c.read-in-PinsIn.ensures ∙ ap (λ (hub : HubValue). pins_with (ors hub.dira) (ors (driven hub.outa hub.dira)) c.args.levels) c.self-in-PinsIn.view_is ∙ rw (told_dira w past _ stands, told_outputs w past _ stands, levels c.in-PinsIn.is) refl)
    ∙ ap (λ (access : Access). answer_to w past c.args.key access) (sym c.in-PinsIn.is)
