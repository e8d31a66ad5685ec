-- internal: what a bytecode that is under way needs. No public contract cites it.
use Rattle.std.specs.Prelude.{ℕ, ◌-◌, ◌%◌, ◌<◌, ◌≤◌, length, Option, Some, None, Result, Ok, Err}
use Rattle.p8_access.specs.declared.kinds.Reason.{Reason}
use Rattle.p8_access.specs.declared.kinds.Access.{Access}
use Rattle.p8_access.specs.Proper.{IsNumber, IsProperOrigin}
use Rattle.p8_access.specs.Lives.{IsMade}
use Rattle.p8_bcog.specs.declared.variable_place.VariablePlace.{VariablePlace}
use Rattle.p8_bcog.specs.declared.variable_place.VariablePlace.TheVariants.{Memory, Pins}
use Rattle.p8_bcog.specs.declared.step.Wanted.{Wanted}
use Rattle.p8_bcog.specs.declared.step.Wanted.TheVariants.{Pushed, Changed, Replaced, Stepped}
use Rattle.p8_bcog.specs.declared.step.Given.{Given}
use Rattle.p8_bcog.specs.declared.step.Given.TheVariants.{Called, Started}
use Rattle.p8_bcog.specs.declared.step.Later.{Later}
use Rattle.p8_bcog.specs.declared.step.Later.TheVariants.{Left, Push, Value, Arguments, Counted, Compared, ComparedWith, Filled, Fetched, Moved}
use Rattle.p8_bcog.specs.declared.step.Step.{Step}
use Rattle.p8_bcog.specs.declared.step.Step.TheVariants.{Done, Asking}
use Rattle.p8_bcog.specs.declared.state.SpinState.{SpinState}

-- pins are numbered from 0 to 31
abbrev pub IsPlace : VariablePlace → Type 0
IsPlace (Memory width address) = Unit {0}
IsPlace (Pins register high low) = (high < 32) × (low < 32)

abbrev pub IsMadeIf : Option Access → Type 0
IsMadeIf None = Unit {0}
IsMadeIf (Some access) = IsMade access

-- the stack has room for one more
abbrev pub HasRoom : SpinState → Type 0
HasRoom s = length s.stack < 16384

abbrev pub HasRoomFor : Option ℕ → SpinState → Type 0
HasRoomFor None s = Unit {0}
HasRoomFor (Some value) s = HasRoom s

abbrev pub HasRoomToUse : Wanted → SpinState → Type 0
HasRoomToUse Pushed s = HasRoom s
HasRoomToUse (Replaced value) s = HasRoom s
HasRoomToUse (Changed effect right) s = (effect % 128 < 0x60) × (128 ≤ effect → HasRoom s)
HasRoomToUse (Stepped by from to target) s = Unit {0}

-- what is called has a mark and room for its record
abbrev pub CanGive : Given → SpinState → Type 0
CanGive (Called callee) s = length s.calls < 127
CanGive (Started target origin count) s =
    IsNumber target × IsProperOrigin origin × (count ≤ length s.stack) × (length s.stack - count < 16384)

abbrev pub IsReady : Later → SpinState → Type 0
IsReady (Left value) s = HasRoomFor value s
IsReady Push s = HasRoom s
IsReady (Value place wanted) s = IsPlace place × HasRoomToUse wanted s
IsReady (Arguments address next end given) s = (end ≤ length s.stack) × CanGive given s
IsReady (Counted address count) s = (address < 32768) × (count ≤ address) × HasRoom s
IsReady (Compared first second) s = (first < 32768) × HasRoom s
IsReady (ComparedWith first second byte) s = (first < 32768) × (second < 32768) × HasRoom s
IsReady (Filled width address value left) s = Unit {0}
IsReady (Fetched width to from left) s = Unit {0}
IsReady (Moved width to from left) s = Unit {0}

-- an access that is asked is one that a life makes, and what follows can be done
abbrev pub IsGood : Result Step Reason → SpinState → Type 0
IsGood (Ok Done) s = Unit {0}
IsGood (Ok (Asking access later)) s = IsMade access × IsReady later s
IsGood (Err reason) s = Unit {0}
