-- What a cog does in a turn, in words (this project's profile). The words, the digits and the answers are those of the trace; addresses
-- are told by the names of a program.
use Rattle.std.specs.Prelude.{ℕ, List, [], ◌∷◌, ◌++◌, Option, codes}
use Rattle.std.specs.Fmt.{decimal}
use Rattle.p8_access.specs.declared.kinds.Width.{Width}
use Rattle.p8_access.specs.declared.kinds.Origin.{Origin}
use Rattle.p8_access.specs.declared.kinds.Origin.TheVariants.{Pasm, Spin}
use Rattle.p8_access.specs.declared.kinds.Test.{Test}
use Rattle.p8_access.specs.declared.kinds.Test.TheVariants.{Count, PinsEqual, PinsDiffer}
use Rattle.p8_access.specs.declared.kinds.Access.{Access}
use Rattle.p8_access.specs.declared.kinds.Access.TheVariants.{Begin, Load, Read, Write, CogId, CogInit, CogStop, LockNew, LockRet, LockSet, LockClr}
use Rattle.p8_access.specs.declared.kinds.Access.TheVariants.{ClkSet, PinsIn, OutSet, DirSet, Wait, Clock, Halt}
use Rattle.p8_access.specs.declared.kinds.Answer.{Answer}
use Rattle.p8_access.specs.Proper.{value_of}
use Rattle.p8_instr.specs.Numerals.{hex}
use Rattle.p8_legend.specs.declared.legend.Legend.{Legend}
use Rattle.p8_legend.specs.declared.ranges.Ranges.{Ranges}
use Rattle.p8_legend.specs.Legends.{address_text, local_at, place_text}
use Rattle.p8_report.specs.Text.{number_text, previous_text, width_text, digits_of, code_of, parameter_of, kind_text, reason_text}

-- what a cog is started with: the kind of its code, where that begins, and PAR or the frame
abbrev pub start_text : Ranges → Origin → List ℕ
start_text names origin = kind_text origin ++ codes " " ++ address_text names (code_of origin) ++ codes " " ++ address_text names (parameter_of origin)

-- What the bytecode at an address, by which a cog asks that was started with this, names in the frame of its method; Propeller Assembly has no frames.
abbrev pub local_for : Legend → Origin → (counter : Option ℕ) → List ℕ
local_for legend (Pasm code par) counter = []
local_for legend (Spin entry pbase vbase frame size) counter = local_at legend.locals counter

-- the place of what asks, at an address: of the bytecode that stands there, and for Propeller Assembly of the line of DAT that has the address
abbrev pub place_for : Legend → Origin → (counter : Option ℕ) → List ℕ
place_for legend (Pasm code par) counter = place_text legend.lines counter
place_for legend (Spin entry pbase vbase frame size) counter = place_text legend.places counter

-- an address by that name, and else by the names of the hub
abbrev pub variable_text : Ranges → (local : List ℕ) → (address : ℕ) → List ℕ
variable_text names [] address = address_text names address
variable_text names (byte ∷ bytes) address = byte ∷ bytes

-- so many bytes at an address
abbrev pub moved_text : Ranges → (local word : List ℕ) → Width → (address : ℕ) → List ℕ
moved_text names local word width address = word ++ width_text width ++ codes " " ++ variable_text names local address

-- and their value
abbrev pub move_text : Ranges → (local word : List ℕ) → Width → (address value : ℕ) → List ℕ
move_text names local word width address value = moved_text names local word width address ++ codes " = " ++ hex (digits_of width) value

-- what a wait waits for: a clock, or pins
abbrev pub wait_text : Test → List ℕ
wait_text (Count target) = codes "waitcnt until " ++ decimal target
wait_text (PinsEqual state mask) = codes "waitpeq " ++ hex 8 state ++ codes " " ++ hex 8 mask
wait_text (PinsDiffer state mask) = codes "waitpne " ++ hex 8 state ++ codes " " ++ hex 8 mask

-- an access without its answer; what it reads or writes may have a name in the frame of a method
abbrev pub asked_text : Ranges → (local : List ℕ) → Access → List ℕ
asked_text names local Begin = codes "begin"
asked_text names local Load = codes "load"
asked_text names local (Read width address) = moved_text names local (codes "read ") width address
asked_text names local (Write width address value) = move_text names local (codes "write ") width address value
asked_text names local CogId = codes "cogid"
asked_text names local (CogInit target origin) = codes "coginit " ++ start_text names origin
asked_text names local (CogStop cog) = codes "cogstop " ++ decimal cog
asked_text names local LockNew = codes "locknew"
asked_text names local (LockRet lock) = codes "lockret " ++ decimal lock
asked_text names local (LockSet lock) = codes "lockset " ++ decimal lock
asked_text names local (LockClr lock) = codes "lockclr " ++ decimal lock
asked_text names local (ClkSet mode) = codes "clkset " ++ hex 2 mode
asked_text names local PinsIn = codes "ina"
asked_text names local (OutSet value) = codes "outa " ++ hex 8 value
asked_text names local (DirSet value) = codes "dira " ++ hex 8 value
asked_text names local (Wait test) = wait_text test
asked_text names local Clock = codes "cnt"
asked_text names local (Halt reason) = codes "halt " ++ reason_text reason

-- an access with its answer, where that tells anything; Begin and Load tell what their cog was started with
abbrev pub access_text : Ranges → (own : Origin) → (local : List ℕ) → Access → Answer → List ℕ
access_text names own local Begin answer = codes "begin of " ++ start_text names own
access_text names own local Load answer = codes "load of " ++ address_text names (code_of own) ++ codes ", 496 longs"
access_text names own local (Read width address) answer = move_text names local (codes "read ") width address (value_of answer)
access_text names own local CogId answer = codes "cogid " ++ decimal (value_of answer)
access_text names own local (CogInit target origin) answer = codes "coginit " ++ number_text answer ++ codes " " ++ start_text names origin
access_text names own local LockNew answer = codes "locknew " ++ number_text answer
access_text names own local (LockSet lock) answer = codes "lockset " ++ decimal lock ++ codes " " ++ previous_text answer
access_text names own local (LockClr lock) answer = codes "lockclr " ++ decimal lock ++ codes " " ++ previous_text answer
access_text names own local PinsIn answer = codes "ina " ++ hex 8 (value_of answer)
access_text names own local Clock answer = codes "cnt " ++ hex 8 (value_of answer)
access_text names own local access answer = asked_text names local access
