-- Whether a cog runs or is starting.
use Rattle.std.specs.Prelude.{Bool, true, false}
use Rattle.p8_access.specs.declared.states.CogState.{CogState}
use Rattle.p8_access.specs.declared.states.CogState.TheVariants.{Stopped, Starting, Running}

-- a cog runs, or is starting
abbrev pub FitsState : Bool → CogState → Type 0
FitsState true (Running origin) = Unit {0}
FitsState true (Starting since origin) = ⊥
FitsState true Stopped = ⊥
FitsState false (Starting since origin) = Unit {0}
FitsState false (Running origin) = ⊥
FitsState false Stopped = ⊥
