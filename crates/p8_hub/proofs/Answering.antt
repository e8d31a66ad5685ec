-- What a hub tells that stands for a history.
use Rattle.std.proofs.Common.{◌≡◌, ◌∙◌, ap, refl, ℕ, List, map, Option, Some, None, bit_and}
use Rattle.std.specs.List.{position_from}
use Rattle.p8_access.specs.declared.kinds.Origin.{Origin}
use Rattle.p8_access.specs.declared.kinds.Access.TheVariants.{CogInit}
use Rattle.p8_access.specs.declared.kinds.Answer.TheVariants.{Number}
use Rattle.p8_access.specs.declared.order.Key.{Key}
use Rattle.p8_access.specs.declared.order.Turn.{Turn}
use Rattle.p8_access.specs.declared.states.CogState.{CogState}
use Rattle.p8_access.specs.Worlds.{World}
use Rattle.p8_access.specs.Hub.{cogs, cog_state, is_stopped}
use Rattle.p8_access.specs.Pins.{outa_of, dira_of, dira, outputs}
use Rattle.p8_access.specs.Histories.{answer_to}
use Rattle.p8_hub.specs.Parts.{target_or, ors, driven}
use Rattle.p8_hub.specs.Standing.{HubValue, IsHub}
use Rattle.p8_hub.proofs.Eights.{first_one, ors_all}

module _ (w : World) (past : List Turn) (hub : HubValue) (stands : IsHub w past hub) where
  pub told_dira : ors hub.dira ≡ dira past
  unfolding dira
  told_dira = ap ors stands.dira ∙ ors_all (λ (n : ℕ). dira_of past n)

  pub told_outputs : ors (driven hub.outa hub.dira) ≡ outputs past
  unfolding outputs
  told_outputs =
      ap (λ (outa : List ℕ). ors (driven outa hub.dira)) stands.outa
      ∙ ap (λ (dira : List ℕ). ors (driven (map (λ (n : ℕ). outa_of past n) cogs) dira)) stands.dira
      ∙ ors_all (λ (n : ℕ). bit_and (outa_of past n) (dira_of past n))

  -- which cog is started
  pub told_start : (key : Key) (target : Option ℕ) (origin : Origin) → Number (target_or target (position_from is_stopped 0 hub.states)) ≡ answer_to w past key (CogInit target origin)
  told_start key (Some target) origin = refl
  told_start key None origin =
      ap (λ (states : List CogState). Number (position_from is_stopped 0 states)) stands.states
      ∙ ap Number (first_one (λ (n : ℕ). cog_state w past n) is_stopped)
