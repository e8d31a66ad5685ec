-- The exit status of each outcome (this project's profile).
use Rattle.std.specs.Prelude.{ℕ}
use Rattle.p8_prop.specs.declared.status.Status.{Status}
use Rattle.p8_prop.specs.declared.status.Status.TheVariants.{Ok, Usage, Refused, ShelfFault, Missing, SinkFault, NoMemory, BadImage, BadScript, BadHistory}

abbrev pub code_of : Status → ℕ
code_of Ok = 0
code_of Usage = 1
code_of Refused = 2
code_of ShelfFault = 3
code_of Missing = 4
code_of SinkFault = 5
code_of NoMemory = 6
code_of BadImage = 7
code_of BadScript = 8
code_of BadHistory = 9
