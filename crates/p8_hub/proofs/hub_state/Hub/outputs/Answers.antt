use Rattle.std.proofs.Common.{◌∙◌, ap}
use Rattle.p8_hub.specs.Parts.{ors, driven}
use Rattle.p8_hub.specs.Standing.{HubValue}
use Rattle.p8_hub.proofs.Answering.{told_outputs}
use Rattle.p8_hub.proofs.hub_state.Hub.outputs.Goals as goal

pub returns : goal.returns
returns c = λ w past stands.
    c.outputs.ensures ∙ ap (λ (hub : HubValue). ors (driven hub.outa hub.dira)) c.self.view_is ∙ told_outputs w past _ stands
