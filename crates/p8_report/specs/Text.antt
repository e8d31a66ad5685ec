-- The text of a history: a line for each turn, then what the hub is in the end, then the dump
-- (this project's profile). A past is a list of turns, the newest first.
use Rattle.std.specs.Prelude.{ℕ, ◌+◌, ◌-◌, ◌*◌, ◌/◌, nat_eq, min, if◌then◌else◌, Bool, true, false, List, [], ◌∷◌, ◌++◌, Option, Some, None, codes}
use Rattle.std.specs.Prelude.{map, flat_map, length}
use Rattle.std.specs.Fmt.{decimal}
use Rattle.std.specs.List.{range_with_len}
use Rattle.p8_access.specs.declared.kinds.Width.{Width}
use Rattle.p8_access.specs.declared.kinds.Width.TheVariants.{Byte, Word, Long}
use Rattle.p8_access.specs.declared.kinds.Origin.{Origin}
use Rattle.p8_access.specs.declared.kinds.Origin.TheVariants.{Pasm, Spin}
use Rattle.p8_access.specs.declared.kinds.Test.{Test}
use Rattle.p8_access.specs.declared.kinds.Test.TheVariants.{Count, PinsEqual, PinsDiffer}
use Rattle.p8_access.specs.declared.kinds.Reason.{Reason}
use Rattle.p8_access.specs.declared.kinds.Reason.TheVariants.{Opcode, Register, Rom, Byte as NoBytecode, Deep, Stack, Under, Table, Port, Reset}
use Rattle.p8_access.specs.declared.kinds.Access.{Access}
use Rattle.p8_access.specs.declared.kinds.Access.TheVariants.{Begin, Load, Read, Write, CogId, CogInit, CogStop, LockNew, LockRet, LockSet, LockClr}
use Rattle.p8_access.specs.declared.kinds.Access.TheVariants.{ClkSet, PinsIn, OutSet, DirSet, Wait, Clock, Halt}
use Rattle.p8_access.specs.declared.kinds.Answer.{Answer}
use Rattle.p8_access.specs.declared.kinds.Answer.TheVariants.{Number, Was}
use Rattle.p8_access.specs.declared.order.Turn.{Turn}
use Rattle.p8_access.specs.Proper.{value_of}
use Rattle.p8_access.specs.declared.states.CogState.{CogState}
use Rattle.p8_access.specs.declared.states.CogState.TheVariants.{Stopped, Starting, Running}
use Rattle.p8_access.specs.Worlds.{World}
use Rattle.p8_access.specs.Hub.{byte_at, is_taken, is_set, cog_state, origin_of, cogs, locks}
use Rattle.p8_access.specs.Pins.{dira, outputs}
use Rattle.p8_instr.specs.Numerals.{hex}

-- the number or the previous state in an answer
abbrev pub number_text : Answer → List ℕ
number_text (Number (Some n)) = decimal n
number_text _ = codes "none"

abbrev pub previous_text : Answer → List ℕ
previous_text (Was true) = codes "1"
previous_text _ = codes "0"

abbrev pub width_text : Width → List ℕ
width_text Byte = codes "byte"
width_text Word = codes "word"
width_text Long = codes "long"

-- the hexadecimal digits of a width
abbrev pub digits_of : Width → ℕ
digits_of Byte = 2
digits_of Word = 4
digits_of Long = 8

-- where a cog's code begins, and PAR or the frame
abbrev pub code_of : Origin → ℕ
code_of (Pasm code par) = code
code_of (Spin entry pbase vbase frame size) = entry

abbrev pub parameter_of : Origin → ℕ
parameter_of (Pasm code par) = par
parameter_of (Spin entry pbase vbase frame size) = frame

abbrev pub kind_text : Origin → List ℕ
kind_text (Pasm code par) = codes "pasm"
kind_text (Spin entry pbase vbase frame size) = codes "spin"

abbrev pub test_text : Test → List ℕ
test_text (Count target) = codes "waitcnt " ++ hex 8 target
test_text (PinsEqual state mask) = codes "waitpeq " ++ hex 8 state ++ codes " " ++ hex 8 mask
test_text (PinsDiffer state mask) = codes "waitpne " ++ hex 8 state ++ codes " " ++ hex 8 mask

abbrev pub reason_text : Reason → List ℕ
reason_text (Opcode long) = codes "opcode " ++ hex 8 long
reason_text (Register register) = codes "register " ++ hex 3 register
reason_text (Rom address) = codes "rom " ++ hex 4 address
reason_text (NoBytecode address) = codes "byte " ++ hex 4 address
reason_text Deep = codes "deep"
reason_text Stack = codes "stack"
reason_text Under = codes "under"
reason_text Table = codes "table"
reason_text Port = codes "port"
reason_text Reset = codes "reset"

-- an access with its answer; Begin and Load tell what their cog was started with
abbrev pub access_text : Origin → Access → Answer → List ℕ
access_text own Begin answer = codes "begin " ++ hex 4 (code_of own) ++ codes " " ++ hex 4 (parameter_of own)
access_text own Load answer = codes "load " ++ hex 4 (code_of own)
access_text own (Read width address) answer = codes "rd" ++ width_text width ++ codes " " ++ hex 4 address ++ codes " " ++
    hex (digits_of width) (value_of answer)
access_text own (Write width address value) answer = codes "wr" ++ width_text width ++ codes " " ++ hex 4 address ++ codes " " ++ hex (digits_of width) value
access_text own CogId answer = codes "cogid " ++ decimal (value_of answer)
access_text own (CogInit target origin) answer = codes "coginit " ++ number_text answer ++ codes " " ++ kind_text origin ++ codes " " ++
    hex 4 (code_of origin) ++ codes " " ++ hex 4 (parameter_of origin)
access_text own (CogStop cog) answer = codes "cogstop " ++ decimal cog
access_text own LockNew answer = codes "locknew " ++ number_text answer
access_text own (LockRet lock) answer = codes "lockret " ++ decimal lock
access_text own (LockSet lock) answer = codes "lockset " ++ decimal lock ++ codes " " ++ previous_text answer
access_text own (LockClr lock) answer = codes "lockclr " ++ decimal lock ++ codes " " ++ previous_text answer
access_text own (ClkSet mode) answer = codes "clkset " ++ hex 2 mode
access_text own PinsIn answer = codes "ina " ++ hex 8 (value_of answer)
access_text own (OutSet value) answer = codes "outa " ++ hex 8 value
access_text own (DirSet value) answer = codes "dira " ++ hex 8 value
access_text own (Wait test) answer = test_text test
access_text own Clock answer = codes "cnt " ++ hex 8 (value_of answer)
access_text own (Halt reason) answer = codes "halt " ++ reason_text reason

-- the line of a turn after a past: its clock, its cog, its access
abbrev pub line_of : World → List Turn → Turn → List ℕ
line_of w past turn =
    decimal turn.key.clock ++ codes " " ++ decimal turn.key.cog ++ codes " " ++
    access_text (origin_of (cog_state w past turn.key.cog)) turn.access turn.answer ++ 10 ∷ []

-- the lines of a past, the oldest first
abbrev pub lines_of : World → List Turn → List ℕ
lines_of w [] = []
lines_of w (turn ∷ past) = lines_of w past ++ line_of w past turn

-- why the history ended, and how many turns it has
abbrev pub ended_text : World → List Turn → List ℕ
ended_text w past =
    (if nat_eq (length past) w.turns then codes "ended turns " else codes "ended clocks ") ++ decimal (length past) ++ 10 ∷ []

-- a lock: free or taken, clear or set
abbrev pub lock_glyph : Bool → Bool → ℕ
lock_glyph false false = 46
lock_glyph false true = 115
lock_glyph true false = 78
lock_glyph true true = 83

abbrev pub locks_text : List Turn → List ℕ
locks_text past = codes "locks " ++ map (λ (lock : ℕ). lock_glyph (is_taken past lock) (is_set past lock)) locks ++ 10 ∷ []

abbrev pub pins_text : List Turn → List ℕ
pins_text past = codes "pins " ++ hex 8 (dira past) ++ codes " " ++ hex 8 (outputs past) ++ 10 ∷ []

abbrev pub state_text : CogState → List ℕ
state_text Stopped = codes "stopped"
state_text (Starting since origin) = codes "starting " ++ kind_text origin
state_text (Running origin) = codes "running " ++ kind_text origin

abbrev pub cog_text : World → List Turn → ℕ → List ℕ
cog_text w past n = codes "cog " ++ decimal n ++ codes " " ++ state_text (cog_state w past n) ++ 10 ∷ []

-- a line of the dump: an address, and the bytes from there on
abbrev pub dump_line : World → List Turn → ℕ → ℕ → List ℕ
dump_line w past address count =
    hex 4 address ++ codes ":" ++ flat_map (λ (i : ℕ). 32 ∷ hex 2 (byte_at w past (address + i))) (range_with_len 0 count) ++ 10 ∷ []

-- the dump of some bytes from an address on, 16 a line
abbrev pub dump_text : World → List Turn → Option (ℕ × ℕ) → List ℕ
dump_text w past None = []
dump_text w past (Some range) =
    flat_map (λ (i : ℕ). dump_line w past (range.0 + 16 * i) (min 16 (range.1 - 16 * i))) (range_with_len 0 ((range.1 + 15) / 16))

-- the whole text
abbrev pub text_of : World → List Turn → Option (ℕ × ℕ) → List ℕ
text_of w past dump =
    lines_of w past ++ ended_text w past ++ locks_text past ++ pins_text past ++ flat_map (cog_text w past) cogs ++ dump_text w past dump
