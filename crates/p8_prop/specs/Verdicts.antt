-- What the program answers and writes: its verdict, and what follows from that (this project's profile).
use Rattle.std.specs.Prelude.{ℕ, ◌≡◌, ◌⊎◌, List, [], ◌∷◌, ◌++◌, Option, Some, None, codes, if◌then◌else◌}
use Rattle.p8_io.specs.Counts.{Rose}
use Rattle.p8_io.specs.Sinks.{Appended, AppendedPrefix, Wrote}
use Rattle.p8_verify.specs.declared.verdicts.Cause.{Cause}
use Rattle.p8_explain.specs.Explaining.{absence_of, explanation_of}
use Rattle.p8_finish.specs.Checks.{bad_line}
use Rattle.p8_inputs.specs.declared.stop.Stop.{Stop}
use Rattle.p8_inputs.specs.declared.stop.Stop.TheVariants as stop
use Rattle.p8_inputs.specs.Asks.{Stops, IsOfFiles}
use Rattle.p8_inputs.specs.Orders.{AreAllRead, AreReadSoFar}
use Rattle.p8_inputs.specs.Seen.{ShelfSeen, SinkSeen}
use Rattle.p8_inputs.specs.Stops as stops
use Rattle.p8_commands.specs.Commands.{Command, explains}
use Rattle.p8_commands.specs.Pages.{usage_line}
use Rattle.p8_prop.specs.declared.status.Status.{Status}
use Rattle.p8_prop.specs.declared.status.Status.TheVariants as status
use Rattle.p8_prop.specs.Texts.{asks_of, IsAskedFor, IsBadHistory}

-- a call: its shelf, its output, and its output for faults
pub record Outside : Type 0 where
  pub shelf : ShelfSeen
  pub out : SinkSeen
  pub faults : SinkSeen

-- How a call ends. The words are no command; or what the command reads stops it, for a reason, which is told; or that reason was to be explained, and
-- its explanation could not be written, or only a part of it; or the history file that it checks isn't that of the run, which shows at a turn; or its
-- text was written; or that could not be written, or only a part of it.
pub data Verdict : Type 0 where
  unsaid : Verdict
  stopped : Stop → Verdict
  unexplained : Stop → Verdict
  bad : (history : List ℕ) (turn : ℕ) → Cause → Verdict
  written : (text : List ℕ) → Verdict
  unwritten : (text : List ℕ) → Verdict

-- ---- what is explained

-- the explanation of a reason that shows in a file, by the bytes with which that was read: of a refused source, and of a missing file that a source
-- mentions; any other reason has none
unfoldable pub explanation : Stop → Option (List ℕ)
explanation (stop.Refused source f size) = Some (explanation_of source.name source.bytes f size)
explanation (stop.Missing name (Some mention)) = Some (absence_of mention.file.name mention.file.bytes mention.place name)
explanation reason = None

-- the explanation that a command asks for, of the reason that stops it
abbrev pub explained_by : Option Command → Stop → Option (List ℕ)
explained_by None reason = None
explained_by (Some command) reason = if explains command then explanation reason else None

-- ---- when each verdict comes

-- Words that are no command want no more than memory for them.
abbrev pub StopsCommand : Outside → Option Command → Stop → Type 0
StopsCommand o (Some command) reason = Stops o.shelf.files o.shelf.before o.shelf.now (asks_of command) reason
StopsCommand o None stop.NoMemory = Unit {0}
StopsCommand o None (stop.Unread name) = ⊥
StopsCommand o None (stop.Missing name mention) = ⊥
StopsCommand o None (stop.Refused source f size) = ⊥
StopsCommand o None (stop.BadProgram name fault) = ⊥
StopsCommand o None (stop.BadScript name line) = ⊥
StopsCommand o None (stop.Unnamed file name) = ⊥

abbrev pub HasText : Outside → Option Command → List ℕ → Type 0
HasText o None text = ⊥
HasText o (Some command) text = IsAskedFor o.shelf.files command text

abbrev pub HasBadHistory : Outside → Option Command → (history : List ℕ) → (turn : ℕ) → Cause → Type 0
HasBadHistory o None history turn cause = ⊥
HasBadHistory o (Some command) history turn cause = IsBadHistory o.shelf.files command history turn cause

-- the order is that of the words, of what the command reads, of the run, and of printing
abbrev pub IsVerdict : Outside → Option Command → Verdict → Type 0
IsVerdict o command unsaid = command ≡ None
IsVerdict o command (stopped reason) = StopsCommand o command reason
IsVerdict o command (unexplained reason) =
    StopsCommand o command reason × ((text : List ℕ) × (explained_by command reason ≡ Some text)) × Rose o.out.before o.out.now
IsVerdict o command (bad history turn cause) = HasBadHistory o command history turn cause
IsVerdict o command (written text) = HasText o command text
IsVerdict o command (unwritten text) = HasText o command text × Rose o.out.before o.out.now

-- ---- what follows from it

-- its status
abbrev pub stop_status : Stop → Status
stop_status (stop.Unread file) = status.ShelfFault
stop_status (stop.Missing file mention) = status.Missing
stop_status stop.NoMemory = status.NoMemory
stop_status (stop.Refused source f size) = status.Refused
stop_status (stop.BadProgram file fault) = status.BadImage
stop_status (stop.BadScript file line) = status.BadScript
stop_status (stop.Unnamed file name) = status.Missing

abbrev pub status_of : Verdict → Status
status_of unsaid = status.Usage
status_of (stopped reason) = stop_status reason
status_of (unexplained reason) = status.SinkFault
status_of (bad history turn cause) = status.BadHistory
status_of (written text) = status.Ok
status_of (unwritten text) = status.SinkFault

-- what is told of a reason on the output, which is its explanation, and on the output for faults, which is its line; a reason is told by one of both
abbrev pub written_of : Option (List ℕ) → List ℕ
written_of (Some text) = text
written_of None = []

abbrev pub told_of : Option (List ℕ) → Stop → List ℕ
told_of (Some text) reason = []
told_of None reason = stops.line_of reason

-- what is told on the output for faults
abbrev pub line_of : Option Command → Verdict → List ℕ
line_of command unsaid = usage_line
line_of command (stopped reason) = told_of (explained_by command reason) reason
line_of command (unexplained reason) = codes "prop: cannot write" ++ 10 ∷ []
line_of command (bad history turn cause) = bad_line history turn cause
line_of command (written text) = []
line_of command (unwritten text) = codes "prop: cannot write" ++ 10 ∷ []

-- what is written to the output: the text or the explanation, or a part of it, or nothing
abbrev pub IsOut : SinkSeen → Option Command → Verdict → Type 0
IsOut out command unsaid = Appended out.taken out.taken_now []
IsOut out command (stopped reason) = Appended out.taken out.taken_now (written_of (explained_by command reason))
IsOut out command (unexplained reason) = AppendedPrefix out.taken out.taken_now (written_of (explained_by command reason))
IsOut out command (bad history turn cause) = Appended out.taken out.taken_now []
IsOut out command (written text) = Appended out.taken out.taken_now text
IsOut out command (unwritten text) = AppendedPrefix out.taken out.taken_now text

-- What is read of the shelf, where it tells that: all that the command asks for, each file once and in the order of the asks; where one of them stops
-- it a beginning of that, which ends there; and nothing for words that are no command.
abbrev pub IsRead : Outside → Option Command → Verdict → Type 0
IsRead o None verdict = o.shelf.log_now ≡ o.shelf.log
IsRead o (Some command) unsaid = o.shelf.log_now ≡ o.shelf.log
IsRead o (Some command) (stopped reason) = AreReadSoFar o.shelf.files (asks_of command) o.shelf.log o.shelf.log_now
IsRead o (Some command) (unexplained reason) = AreReadSoFar o.shelf.files (asks_of command) o.shelf.log o.shelf.log_now
IsRead o (Some command) (bad history turn cause) = AreAllRead o.shelf.files (asks_of command) o.shelf.log o.shelf.log_now
IsRead o (Some command) (written text) = AreAllRead o.shelf.files (asks_of command) o.shelf.log o.shelf.log_now
IsRead o (Some command) (unwritten text) = AreAllRead o.shelf.files (asks_of command) o.shelf.log o.shelf.log_now

-- it is written to the output for faults, or a part of it where that output's count rose
abbrev pub IsTold : SinkSeen → Option Command → Verdict → Type 0
IsTold faults command verdict = Wrote faults.before faults.now faults.taken faults.taken_now (line_of command verdict)

-- ---- there is one

-- a verdict that lies in the words and the files alone, and not in faults of the shelf or the output, or in want of memory
abbrev pub IsCertain : Verdict → Type 0
IsCertain unsaid = Unit {0}
IsCertain (stopped reason) = IsOfFiles reason
IsCertain (unexplained reason) = ⊥
IsCertain (bad history turn cause) = Unit {0}
IsCertain (written text) = Unit {0}
IsCertain (unwritten text) = ⊥

-- where the shelf tells its files, words have one such verdict: so one status is due, one line, and one text
abbrev pub HasOneVerdict : Outside → Option Command → Type 0
HasOneVerdict o command =
    (files : List ℕ → Option (List ℕ)) (a b : Verdict) → o.shelf.files ≡ Some files → IsCertain a → IsCertain b
    → IsVerdict o command a → IsVerdict o command b → a ≡ b

-- something is to be written to the output: a text, or an explanation
abbrev pub IsForOutput : Option Command → Verdict → Type 0
IsForOutput command (written text) = Unit {0}
IsForOutput command (stopped reason) = (text : List ℕ) × (explained_by command reason ≡ Some text)
IsForOutput command _ = ⊥

-- it is the one that is answered, where the shelf's count didn't rise, nor that of the output where something is to be written there, but for want of
-- memory
abbrev pub IsComplete : Outside → Option Command → Verdict → Type 0
IsComplete o command verdict =
    (files : List ℕ → Option (List ℕ)) (due : Verdict) → o.shelf.files ≡ Some files → IsCertain due → IsVerdict o command due
    → ¬ Rose o.shelf.before o.shelf.now → (IsForOutput command due → ¬ Rose o.out.before o.out.now) → (verdict ≡ due) ⊎ (verdict ≡ stopped stop.NoMemory)
