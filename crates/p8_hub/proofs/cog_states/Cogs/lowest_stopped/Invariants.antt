use Rattle.std.proofs.Common.{◌≡◌, drop}
use Rattle.std.specs.List.{position_from}
use Rattle.p8_access.specs.Hub.{is_stopped}
use Rattle.p8_hub.proofs.cog_states.Cogs.lowest_stopped.Given as goal

abbrev pub invariant-loop-cog : goal.invariant-loop-cog
invariant-loop-cog l =
    position_from is_stopped 0 l.self.states ≡ position_from is_stopped l.cog (drop l.cog l.self.states)
