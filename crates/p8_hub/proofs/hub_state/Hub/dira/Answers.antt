use Rattle.std.proofs.Common.{◌∙◌, ap}
use Rattle.p8_hub.specs.Parts.{ors}
use Rattle.p8_hub.specs.Standing.{HubValue}
use Rattle.p8_hub.proofs.Answering.{told_dira}
use Rattle.p8_hub.proofs.hub_state.Hub.dira.Goals as goal

pub returns : goal.returns
returns c = λ w past stands.
    c.directions.ensures ∙ ap (λ (hub : HubValue). ors hub.dira) c.self.view_is ∙ told_dira w past _ stands
