-- What is answered keeps the promise of a call.
use Rattle.std.proofs.Common.{◌≡◌, ◌≤◌, ◌∙◌, ap, sym, subst, refl, Bool, true, false, ℕ, inl, inr, List, [], ◌∷◌, ◌++◌, codes, if◌then◌else◌, Option, Some, None}
use Rattle.std.proofs.lemmas.List.{append-nil}
use Rattle.std.specs.Prelude.{Result, Ok, Err, IfOk}
use Rattle.p8_verify.specs.declared.verdicts.Cause.{Cause}
use Rattle.std.specs.declared.vec.Vec.{Vec}
use Rattle.std.specs.declared.alloc.Global.{Global}
use Rattle.p8_io.specs.Counts.{Rose}
use Rattle.p8_io.specs.Shelves.{Log}
use Rattle.p8_io.specs.Sinks.{Appended, AppendedPrefix, Wrote}
use Rattle.p8_inputs.specs.declared.stop.Stop.{Stop}
use Rattle.p8_inputs.specs.declared.stop.Stop.TheVariants as stop
use Rattle.p8_inputs.specs.Asks.{Stops, HasOneReading}
use Rattle.p8_inputs.specs.Orders.{AreAllRead, AreReadSoFar}
use Rattle.p8_inputs.specs.Stops.{line_of as stop_line}
use Rattle.p8_finish.specs.Checks.{bad_line}
use Rattle.p8_inputs.proofs.Logging.{none-read}
use Rattle.p8_commands.specs.Commands.{Command, explains}
use Rattle.p8_prop.specs.declared.status.Status.{Status}
use Rattle.p8_prop.specs.declared.work.Answer.{Answer}
use Rattle.p8_prop.specs.declared.work.Answer.TheVariants.{Text, Bad}
use Rattle.p8_prop.specs.Texts.{asks_of}
use Rattle.p8_prop.specs.Works.{IsText, IsAnswerTo}
use Rattle.p8_inputs.specs.Reads.{ReadsForAll}
use Rattle.p8_inputs.specs.Seen.{SinkSeen}
use Rattle.p8_prop.specs.Verdicts.{Outside, Verdict, unsaid, stopped, unexplained, bad, written, unwritten, StopsCommand, IsVerdict, IsOut, IsRead, IsTold, explanation, explained_by, written_of, told_of, stop_status, status_of}
use Rattle.p8_prop.specs.Promises.{HasHeadline, Keeps}
use Rattle.p8_prop.specs.Answers.{IsFrom, IsGiven, IsEnding, IsEnded, IsAnswer}
use Rattle.p8_prop.proofs.Completing.{HasOneCheck, one-verdict, complete}

-- the shelf kept its files, and no count fell
abbrev pub IsKept : Outside → Type 0
IsKept o = (o.shelf.files_now ≡ o.shelf.files) × (o.shelf.before ≤ o.shelf.now) × (o.out.before ≤ o.out.now) × (o.faults.before ≤ o.faults.now)

-- want of memory stops any command
pub without-memory : (o : Outside) (command : Option Command) → StopsCommand o command stop.NoMemory
without-memory o None = tt
without-memory o (Some command) = tt

-- a reason that isn't explained is told by its line
line-told : (faults : SinkSeen) (command : Option Command) (reason : Stop) → explained_by command reason ≡ None → Wrote faults.before faults.now faults.taken faults.taken_now (stop_line reason) → IsTold faults command (stopped reason)
line-told faults command reason none told = subst (λ (text : Option (List ℕ)). Wrote faults.before faults.now faults.taken faults.taken_now (told_of text reason)) (sym none) told

-- want of memory is
either-none : (b : Bool) → (if b then explanation stop.NoMemory else None) ≡ None
unfolding explanation
either-none true = refl
either-none false = refl

no-memory-explained : (command : Option Command) → explained_by command stop.NoMemory ≡ None
no-memory-explained None = refl
no-memory-explained (Some command) = either-none (explains command)

no-memory-told : (faults : SinkSeen) (command : Option Command) → Wrote faults.before faults.now faults.taken faults.taken_now (stop_line stop.NoMemory) → IsTold faults command (stopped stop.NoMemory)
no-memory-told faults command told = line-told faults command stop.NoMemory (no-memory-explained command) told

no-headline : (o : Outside) (command : Option Command) (reason : Stop) → HasHeadline o.shelf.files command (stopped reason)
no-headline o None reason = tt
no-headline o (Some command) reason = tt

-- nothing was read for want of memory
unread : (o : Outside) (command : Option Command) → o.shelf.log_now ≡ o.shelf.log → IsRead o command (stopped stop.NoMemory)
unread o None same = same
unread o (Some command) same = subst (λ (log : Log). AreReadSoFar o.shelf.files (asks_of command) o.shelf.log log) (sym same) (none-read o.shelf.files (asks_of command) o.shelf.log)

-- all was read where anything came of a command
all-read : (o : Outside) (command : Command) (answer : Answer) (verdict : Verdict) → IsFrom answer o.out verdict → AreAllRead o.shelf.files (asks_of command) o.shelf.log o.shelf.log_now → IsRead o (Some command) verdict
all-read o command (Text text) (written other) from all = all
all-read o command (Text text) (unwritten other) from all = all
all-read o command (Text text) unsaid from all = absurd from
all-read o command (Text text) (stopped reason) from all = absurd from
all-read o command (Text text) (unexplained reason) from all = absurd from
all-read o command (Text text) (bad history turn cause) from all = absurd from
all-read o command (Bad history turn cause) verdict from all = subst (λ (v : Verdict). IsRead o (Some command) v) (sym from) all

-- the verdict on what came of a command, and its headline
from-verdict : (o : Outside) (command : Command) (answer : Answer) (verdict : Verdict) → IsFrom answer o.out verdict → IsAnswerTo o.shelf.files command answer
    → IsVerdict o (Some command) verdict × HasHeadline o.shelf.files (Some command) verdict
from-verdict o command (Text text) (written other) from is =
    let moved : IsText o.shelf.files command other = subst (IsText o.shelf.files command) (sym from) is in
    (moved.0, moved.1)
from-verdict o command (Text text) (unwritten other) from is =
    let moved : IsText o.shelf.files command other = subst (IsText o.shelf.files command) (sym from.0) is in
    ((moved.0, from.1), tt)
from-verdict o command (Text text) unsaid from is = absurd from
from-verdict o command (Text text) (stopped reason) from is = absurd from
from-verdict o command (Text text) (unexplained reason) from is = absurd from
from-verdict o command (Text text) (bad history turn cause) from is = absurd from
from-verdict o command (Bad history turn cause) verdict from is =
    subst (λ (v : Verdict). IsVerdict o (Some command) v × HasHeadline o.shelf.files (Some command) v) (sym from) (is, tt)

-- nothing was written
pub nothing-appended : (taken : Option (List ℕ)) → Appended taken taken []
nothing-appended None = refl
nothing-appended (Some xs) = ap Some (sym (append-nil xs))

same-taken : (sink : SinkSeen) → sink.taken_now ≡ sink.taken → Appended sink.taken sink.taken_now []
same-taken sink same = subst (λ (now : Option (List ℕ)). Appended sink.taken now []) (sym same) (nothing-appended sink.taken)

-- nothing is where a reason isn't explained
none-written : (out : SinkSeen) (command : Option Command) (reason : Stop) → explained_by command reason ≡ None → out.taken_now ≡ out.taken → IsOut out command (stopped reason)
none-written out command reason none same =
    subst (λ (text : Option (List ℕ)). Appended out.taken out.taken_now (written_of text)) (sym none) (same-taken out same)

pub no-memory-written : (out : SinkSeen) (command : Option Command) → out.taken_now ≡ out.taken → IsOut out command (stopped stop.NoMemory)
no-memory-written out command same = none-written out command stop.NoMemory (no-memory-explained command) same

module _ (one_check : HasOneCheck) (one : (files : List ℕ → Option (List ℕ)) → HasOneReading files) where
  keeps : (o : Outside) (command : Option Command) (status : Status) (verdict : Verdict) → IsVerdict o command verdict → HasHeadline o.shelf.files command verdict
      → status ≡ status_of verdict → IsTold o.faults command verdict → IsOut o.out command verdict → IsRead o command verdict → IsKept o → Keeps o command status
  keeps o command status verdict is headline answered told out read kept = record {
    verdict = verdict;
    is_verdict = is;
    answered = answered;
    told = told;
    out = out;
    read = read;
    one_verdict = one-verdict one_check one o command;
    complete = complete one_check one o command verdict is;
    headline = headline;
    kept = kept.0;
    shelf_later = kept.1;
    out_later = kept.2;
    faults_later = kept.3;
  }

  -- why nothing came of a command
  ended-keeps : (o : Outside) (command : Command) (reason : Stop) (status : Status) (verdict : Verdict) → IsEnding command reason o.out verdict → status ≡ status_of verdict → IsTold o.faults (Some command) verdict → IsOut o.out (Some command) verdict
      → Stops o.shelf.files o.shelf.before o.shelf.now (asks_of command) reason → AreReadSoFar o.shelf.files (asks_of command) o.shelf.log o.shelf.log_now → IsKept o → Keeps o (Some command) status
  ended-keeps o command reason status (stopped one) ending answered told out stops some kept =
      let is : StopsCommand o (Some command) one = elim ending [
        | inl same ↦ subst (λ (x : Stop). StopsCommand o (Some command) x) (sym same) stops
        | inr none ↦ subst (λ (x : Stop). StopsCommand o (Some command) x) (sym none) tt
      ] in
      keeps o (Some command) status (stopped one) is tt answered told out some kept
  ended-keeps o command reason status (unexplained one) ending answered told out stops some kept =
      keeps o (Some command) status (unexplained one) (subst (λ (x : Stop). StopsCommand o (Some command) x) (sym ending.0) stops, ending.1, ending.2) tt answered told out some kept
  ended-keeps o command reason status unsaid ending answered told out stops some kept = absurd ending
  ended-keeps o command reason status (bad history turn cause) ending answered told out stops some kept = absurd ending
  ended-keeps o command reason status (written text) ending answered told out stops some kept = absurd ending
  ended-keeps o command reason status (unwritten text) ending answered told out stops some kept = absurd ending

  -- a command, by what is answered of what came of it
  pub command-keeps : (o : Outside) (command : Command) (came : Result Answer Stop) (status : Status) → IsAnswer command came o.out o.faults status
      → IfOk came (IsAnswerTo o.shelf.files command) → ReadsForAll (asks_of command) o.shelf came → o.out.before ≤ o.out.now → o.faults.before ≤ o.faults.now → Keeps o (Some command) status
  command-keeps o command (Ok came) status given is reads out faults =
      let from = from-verdict o command came given.verdict given.from is in
      keeps o (Some command) status given.verdict from.0 from.1 given.answered (given.told (Some command)) (given.written_out (Some command)) (all-read o command came given.verdict given.from reads.all_read) (reads.kept, reads.later, out, faults)
  command-keeps o command (Err reason) status ended is reads out faults =
      ended-keeps o command reason status ended.verdict ended.ending ended.answered ended.told ended.written_out reads.stopped reads.so_far (reads.kept, reads.later, out, faults)

  -- words that are no command
  pub unsaid-keeps : (o : Outside) (command : Option Command) (status : Status) → command ≡ None → status ≡ status_of unsaid → IsTold o.faults command unsaid → IsOut o.out command unsaid → o.shelf.log_now ≡ o.shelf.log → IsKept o → Keeps o command status
  unsaid-keeps o command status none answered told out same kept =
      keeps o command status unsaid none (subst (λ (c : Option Command). HasHeadline o.shelf.files c unsaid) (sym none) tt) answered told out (subst (λ (c : Option Command). IsRead o c unsaid) (sym none) same) kept

  -- words for which there was no memory
  pub memory-keeps : (o : Outside) (command : Option Command) (status : Status) → status ≡ status_of (stopped stop.NoMemory) → Wrote o.faults.before o.faults.now o.faults.taken o.faults.taken_now (stop_line stop.NoMemory) → IsOut o.out command (stopped stop.NoMemory) → o.shelf.log_now ≡ o.shelf.log → IsKept o → Keeps o command status
  memory-keeps o command status answered told out same kept =
      keeps o command status (stopped stop.NoMemory) (without-memory o command) (no-headline o command stop.NoMemory) answered (no-memory-told o.faults command told) out (unread o command same) kept

-- ---- what is answered of a text, or of why there is none

module _ (text : Vec ℕ Global) (out faults : SinkSeen) (status : Status) where
  pub wrote : status ≡ status_of (written text.items) → Appended out.taken out.taken_now text.items → faults.taken_now ≡ faults.taken → IsGiven (Text text) out faults status
  wrote answered appended same = record {
    verdict = written text.items;
    from = refl;
    answered = answered;
    told = λ command. inl (same-taken faults same);
    written_out = λ command. appended;
  }

  pub not-wrote : status ≡ status_of (unwritten text.items) → Rose out.before out.now → AppendedPrefix out.taken out.taken_now text.items → Wrote faults.before faults.now faults.taken faults.taken_now (codes "prop: cannot write" ++ 10 ∷ []) → IsGiven (Text text) out faults status
  not-wrote answered rose prefix told = record {
    verdict = unwritten text.items;
    from = (refl, rose);
    answered = answered;
    told = λ command. told;
    written_out = λ command. prefix;
  }

pub not-good : (history : List ℕ) (turn : ℕ) (cause : Cause) (out faults : SinkSeen) (status : Status) → status ≡ status_of (bad history turn cause)
    → out.taken_now ≡ out.taken → Wrote faults.before faults.now faults.taken faults.taken_now (bad_line history turn cause) → IsGiven (Bad history turn cause) out faults status
not-good history turn cause out faults status answered same told = record {
  verdict = bad history turn cause;
  from = refl;
  answered = answered;
  told = λ command. told;
  written_out = λ command. same-taken out same;
}

-- what is answered of a reason that stops a command, by its line or by its explanation
module _ (command : Command) (reason : Stop) (out faults : SinkSeen) (status : Status) where
  told-by-line : explained_by (Some command) reason ≡ None → status ≡ stop_status reason → out.taken_now ≡ out.taken → Wrote faults.before faults.now faults.taken faults.taken_now (stop_line reason) → IsEnded command reason out faults status
  told-by-line none answered same told = record {
    verdict = stopped reason;
    ending = inl refl;
    answered = answered;
    told = line-told faults (Some command) reason none told;
    written_out = none-written out (Some command) reason none same;
  }

  -- where the command doesn't explain, or there is no explanation
  pub by-line : explains command ≡ false → status ≡ stop_status reason → out.taken_now ≡ out.taken → Wrote faults.before faults.now faults.taken faults.taken_now (stop_line reason) → IsEnded command reason out faults status
  by-line asked = told-by-line (ap (λ (b : Bool). if b then explanation reason else None) asked)

  asked-for : explains command ≡ true → explained_by (Some command) reason ≡ explanation reason
  asked-for asked = ap (λ (b : Bool). if b then explanation reason else None) asked

  pub without-explanation : explains command ≡ true → explanation reason ≡ None → status ≡ stop_status reason → out.taken_now ≡ out.taken → Wrote faults.before faults.now faults.taken faults.taken_now (stop_line reason) → IsEnded command reason out faults status
  without-explanation asked none = told-by-line (asked-for asked ∙ none)

  -- the explanation was written, or not
  module _ (text : List ℕ) (asked : explains command ≡ true) (is : explanation reason ≡ Some text) where
    explained-so : explained_by (Some command) reason ≡ Some text
    explained-so = asked-for asked ∙ is

    pub with-explanation : status ≡ stop_status reason → Appended out.taken out.taken_now text → faults.taken_now ≡ faults.taken → IsEnded command reason out faults status
    with-explanation answered appended same = record {
      verdict = stopped reason;
      ending = inl refl;
      answered = answered;
      told = inl (subst (λ (o : Option (List ℕ)). Appended faults.taken faults.taken_now (told_of o reason)) (sym explained-so) (same-taken faults same));
      written_out = subst (λ (o : Option (List ℕ)). Appended out.taken out.taken_now (written_of o)) (sym explained-so) appended;
    }

    pub not-explained : status ≡ status_of (unexplained reason) → Rose out.before out.now → AppendedPrefix out.taken out.taken_now text → Wrote faults.before faults.now faults.taken faults.taken_now (codes "prop: cannot write" ++ 10 ∷ []) → IsEnded command reason out faults status
    not-explained answered rose prefix told = record {
      verdict = unexplained reason;
      ending = (refl, (text, explained-so), rose);
      answered = answered;
      told = told;
      written_out = subst (λ (o : Option (List ℕ)). AppendedPrefix out.taken out.taken_now (written_of o)) (sym explained-so) prefix;
    }

  -- or there was no memory for it
  pub without-memory-told : status ≡ stop_status stop.NoMemory → out.taken_now ≡ out.taken → Wrote faults.before faults.now faults.taken faults.taken_now (stop_line stop.NoMemory) → IsEnded command reason out faults status
  without-memory-told answered same told = record {
    verdict = stopped stop.NoMemory;
    ending = inr refl;
    answered = answered;
    told = no-memory-told faults (Some command) told;
    written_out = no-memory-written out (Some command) same;
  }
