-- The newest of some calls.
use Rattle.std.specs.Prelude.{List, [], ◌∷◌, Option, Some, None, if◌then◌else◌}
use Rattle.p8_bcog.specs.declared.calls.Call.{Call}

abbrev pub newest_of : List Call → Option Call
newest_of [] = None
newest_of (call ∷ calls) = Some call

-- the newest call that stops aborts, and those before it
abbrev pub trapping : List Call → Option (Call × List Call)
trapping [] = None
trapping (call ∷ older) = if call.traps then Some (call, older) else trapping older
