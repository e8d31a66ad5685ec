-- internal: what a Spin cog keeps is a fact with one proof. No public contract cites it.
use Rattle.std.specs.Prelude.{ℕ, Option, Some, None}
use Rattle.std.proofs.Props.{props}
use Rattle.p8_access.specs.declared.kinds.Origin.{Origin}
use Rattle.p8_access.specs.declared.kinds.Origin.TheVariants.{Pasm, Spin}
use Rattle.p8_access.specs.declared.kinds.Access.{Access}
use Rattle.p8_access.specs.declared.kinds.Access.TheVariants.{Begin, Load, Read, Write, CogId, CogInit, CogStop, LockNew, LockRet, LockSet, LockClr}
use Rattle.p8_access.specs.declared.kinds.Access.TheVariants.{ClkSet, PinsIn, OutSet, DirSet, Wait, Clock, Halt}
use Rattle.p8_access.specs.Lives.{IsMade}
use Rattle.p8_access.specs.Proper.{IsNumber, IsProperOrigin}
use Rattle.p8_bcog.specs.declared.variable_place.VariablePlace.{VariablePlace}
use Rattle.p8_bcog.specs.declared.variable_place.VariablePlace.TheVariants.{Memory, Pins}
use Rattle.p8_bcog.specs.declared.step.Wanted.{Wanted}
use Rattle.p8_bcog.specs.declared.step.Wanted.TheVariants.{Pushed, Changed, Replaced, Stepped}
use Rattle.p8_bcog.specs.declared.step.Given.{Given}
use Rattle.p8_bcog.specs.declared.step.Given.TheVariants.{Called, Started}
use Rattle.p8_bcog.specs.declared.step.Later.{Later}
use Rattle.p8_bcog.specs.declared.step.Later.TheVariants.{Left, Push, Value, Arguments, Counted, Compared, ComparedWith, Filled, Fetched, Moved}
use Rattle.p8_bcog.specs.declared.stage.SpinStage.{SpinStage}
use Rattle.p8_bcog.specs.declared.stage.SpinStage.TheVariants.{Entering, Ready, Asked, Halted, Over}
use Rattle.p8_bcog.specs.declared.state.SpinState.{SpinState}
use Rattle.p8_bcog.specs.Ready.{IsPlace, HasRoomFor, HasRoomToUse, CanGive, IsReady}
use Rattle.p8_bcog.specs.Stops.{IsSound}

is_prop-IsNumber : (n : Option ℕ) → IsProp (IsNumber n)
is_prop-IsNumber None = hlevel props
is_prop-IsNumber (Some n) = hlevel props

is_prop-IsProperOrigin : (origin : Origin) → IsProp (IsProperOrigin origin)
is_prop-IsProperOrigin (Pasm code par) = hlevel props
is_prop-IsProperOrigin (Spin entry pbase vbase frame size) = hlevel props

-- such a fact has one proof
is_prop-IsMade : (access : Access) → IsProp (IsMade access)
is_prop-IsMade Begin = hlevel props
is_prop-IsMade Load = hlevel props
is_prop-IsMade (Read width address) = hlevel props
is_prop-IsMade (Write width address value) = hlevel props
is_prop-IsMade CogId = hlevel props
is_prop-IsMade (CogInit target origin) = hlevel (props, is_prop-IsNumber target, is_prop-IsProperOrigin origin)
is_prop-IsMade (CogStop cog) = hlevel props
is_prop-IsMade LockNew = hlevel props
is_prop-IsMade (LockRet lock) = hlevel props
is_prop-IsMade (LockSet lock) = hlevel props
is_prop-IsMade (LockClr lock) = hlevel props
is_prop-IsMade (ClkSet mode) = hlevel props
is_prop-IsMade PinsIn = hlevel props
is_prop-IsMade (OutSet value) = hlevel props
is_prop-IsMade (DirSet value) = hlevel props
is_prop-IsMade (Wait test) = hlevel props
is_prop-IsMade Clock = hlevel props
is_prop-IsMade (Halt reason) = hlevel props

is_prop-IsPlace : (place : VariablePlace) → IsProp (IsPlace place)
is_prop-IsPlace (Memory width address) = hlevel props
is_prop-IsPlace (Pins register high low) = hlevel props

is_prop-HasRoomFor : (left : Option ℕ) (s : SpinState) → IsProp (HasRoomFor left s)
is_prop-HasRoomFor None s = hlevel props
is_prop-HasRoomFor (Some value) s = hlevel props

is_prop-HasRoomToUse : (wanted : Wanted) (s : SpinState) → IsProp (HasRoomToUse wanted s)
is_prop-HasRoomToUse Pushed s = hlevel props
is_prop-HasRoomToUse (Changed effect right) s = hlevel props
is_prop-HasRoomToUse (Replaced value) s = hlevel props
is_prop-HasRoomToUse (Stepped by from to target) s = hlevel props

is_prop-CanGive : (given : Given) (s : SpinState) → IsProp (CanGive given s)
is_prop-CanGive (Called callee) s = hlevel props
is_prop-CanGive (Started target origin count) s = hlevel (props, is_prop-IsNumber target, is_prop-IsProperOrigin origin)

is_prop-IsReady : (later : Later) (s : SpinState) → IsProp (IsReady later s)
is_prop-IsReady (Left value) s = is_prop-HasRoomFor value s
is_prop-IsReady Push s = hlevel props
is_prop-IsReady (Value place wanted) s = hlevel (props, is_prop-IsPlace place, is_prop-HasRoomToUse wanted s)
is_prop-IsReady (Arguments address next end given) s = hlevel (props, is_prop-CanGive given s)
is_prop-IsReady (Counted address count) s = hlevel props
is_prop-IsReady (Compared first second) s = hlevel props
is_prop-IsReady (ComparedWith first second byte) s = hlevel props
is_prop-IsReady (Filled width address value left) s = hlevel props
is_prop-IsReady (Fetched width to from left) s = hlevel props
is_prop-IsReady (Moved width to from left) s = hlevel props

pub is_prop-IsSound : (stage : SpinStage) (s : SpinState) → IsProp (IsSound stage s)
is_prop-IsSound Entering s = hlevel props
is_prop-IsSound Ready s = hlevel props
is_prop-IsSound (Asked access later) s = hlevel (props, is_prop-IsMade access, is_prop-IsReady later s)
is_prop-IsSound (Halted reason) s = hlevel props
is_prop-IsSound Over s = hlevel props
