-- How a bytecode that is under way goes on.
use Rattle.std.proofs.Common.{◌≡◌, refl, ℕ, ◌+◌, ◌-◌, ◌^◌, ◌==◌, take, drop, Result, Ok, Err, if◌then◌else◌}
use Rattle.p8_access.specs.declared.kinds.Width.{Width}
use Rattle.p8_access.specs.declared.kinds.Width.TheVariants.{Byte}
use Rattle.p8_access.specs.declared.kinds.Reason.{Reason}
use Rattle.p8_access.specs.declared.kinds.Access.{Access}
use Rattle.p8_access.specs.Courses.{Course, Finish, Stop, Ask}
use Rattle.p8_bcog.specs.declared.step.Later.{Later}
use Rattle.p8_bcog.specs.declared.step.Later.TheVariants.{Left, Push, Value, Arguments, Counted, Compared, ComparedWith, Filled, Fetched, Moved}
use Rattle.p8_bcog.specs.declared.step.Step.{Step}
use Rattle.p8_bcog.specs.declared.step.Step.TheVariants.{Done, Asking}
use Rattle.p8_bcog.specs.declared.state.SpinState.{SpinState}
use Rattle.p8_bcog.specs.Operands.{pushed, left_by}
use Rattle.p8_bcog.specs.Accesses.{word_in, ends, gets, read_of, is_readable, rom_halt, write_of, next_address}
use Rattle.p8_bcog.specs.Places.{uses, value_in, asks_for}
use Rattle.p8_bcog.specs.Calls.{gives}
use Rattle.p8_bcog.specs.Moves.{fills, moves, counts, compares, room_from}

-- a write of an element, after which a move goes on
unfoldable pub stores : Access → (later : Course SpinState) → Course SpinState
stores access later = Ask access (λ answer. later)

-- what follows by the word of an answer
abbrev pub later_on : Later → SpinState → (word : ℕ) → Course SpinState
later_on (Left value) s word = Finish (left_by value s)
later_on Push s word = Finish (pushed word s)
later_on (Value place wanted) s word = uses wanted place (value_in place word) s
later_on (Arguments address next end given) s word = gives address (take (end - next) (drop next s.stack)) given s
later_on (Counted address count) s word =
    if word == 0 then Finish (pushed count s) else counts (room_from (address + 1)) (address + 1) (count + 1) s
later_on (Compared first second) s word =
    if is_readable Byte second
    then Ask (read_of Byte second)
    (λ other. if word == word_in other
    then (if word == 0 then Finish (pushed (2 ^ 32 - 1) s) else compares (room_from (first + 1)) (first + 1) (second + 1) s)
    else Finish (pushed 0 s))
    else rom_halt Byte second
later_on (ComparedWith first second byte) s word =
    if byte == word
    then (if byte == 0 then Finish (pushed (2 ^ 32 - 1) s) else compares (room_from (first + 1)) (first + 1) (second + 1) s)
    else Finish (pushed 0 s)
later_on (Filled width address value left) s word = fills width address value left s
later_on (Fetched width to from left) s word =
    stores (write_of width to word) (moves width (next_address width to) (next_address width from) left s)
later_on (Moved width to from left) s word = moves width to from left s

-- an access, and what follows
unfoldable pub then_on : Access → Later → SpinState → Course SpinState
then_on access later s = Ask access (λ answer. later_on later s (word_in answer))

abbrev pub asking : Access → Later → SpinState → Course SpinState
asking access (Left value) s = ends access value s
asking access Push s = gets access s
asking access (Value place wanted) s = asks_for access wanted place s
asking access (Arguments address next end given) s = then_on access (Arguments address next end given) s
asking access (Counted address count) s = then_on access (Counted address count) s
asking access (Compared first second) s = then_on access (Compared first second) s
asking access (ComparedWith first second byte) s = then_on access (ComparedWith first second byte) s
asking access (Filled width address value left) s = then_on access (Filled width address value left) s
asking access (Fetched width to from left) s = then_on access (Fetched width to from left) s
asking access (Moved width to from left) s = then_on access (Moved width to from left) s

-- a read of memory, or a halt where it would be of ROM
abbrev pub reading : Width → (address : ℕ) → Later → SpinState → Course SpinState
reading width address later s =
    if is_readable width address then asking (read_of width address) later s else rom_halt width address

-- the course that is still to come
abbrev pub course_of : Step → SpinState → Course SpinState
course_of Done s = Finish s
course_of (Asking access later) s = asking access later s

-- an error is a halt
abbrev pub comes : Result Step Reason → SpinState → Course SpinState
comes (Ok step) s = course_of step s
comes (Err reason) s = Stop reason

pub asking-is : (access : Access) (later : Later) (s : SpinState) → asking access later s ≡ Ask access (λ answer. later_on later s (word_in answer))
unfolding ends gets asks_for then_on
asking-is access (Left value) s = refl
asking-is access Push s = refl
asking-is access (Value place wanted) s = refl
asking-is access (Arguments address next end given) s = refl
asking-is access (Counted address count) s = refl
asking-is access (Compared first second) s = refl
asking-is access (ComparedWith first second byte) s = refl
asking-is access (Filled width address value left) s = refl
asking-is access (Fetched width to from left) s = refl
asking-is access (Moved width to from left) s = refl
