-- What is read for asks, step by step.
use Rattle.std.proofs.Common.{◌≡◌, ◌∙◌, ℕ, inl, inr, refl, sym, subst, arith, Bool, List, [], ◌∷◌, ◌++◌, Option}
use Rattle.std.specs.Prelude.{Result, Ok, Err, IfOk, IfErr, IsErrAnd}
use Rattle.std.proofs.lemmas.Result.{IfOk-weaker, IfErr-weaker}
use Rattle.p8_tree.specs.Projects.{NamedSource}
use Rattle.p8_io.specs.Shelves.{Files, Log}
use Rattle.p8_objects.specs.Growing.{IsProjectOf}
use Rattle.p8_objects.specs.Whole.{AreSources}
use Rattle.p8_inputs.specs.declared.program.Format.{Format}
use Rattle.p8_inputs.specs.declared.program.Format.TheVariants.{Source}
use Rattle.p8_inputs.specs.declared.stop.Stop.{Stop}
use Rattle.p8_inputs.specs.declared.stop.Stop.TheVariants.{NoMemory}
use Rattle.p8_inputs.specs.Asks.{Ask, program, viewing, paging, listing, coding, mapping, hinting, script, history, message, script_ask, Given, Gives, Give, StopsAt, StopsFirst, Stops}
use Rattle.p8_inputs.specs.Orders.{IsAllRead, IsReadSoFar, AreAllRead, AreReadSoFar}
use Rattle.p8_inputs.specs.Gathered.{StopsAtBuilding}
use Rattle.p8_inputs.specs.Seen.{ShelfSeen, shelf_seen}
use Rattle.p8_inputs.specs.Reads.{ReadsFor, ReadsForAll}
use Rattle.p8_inputs.proofs.Building.{building-stops}
use Rattle.p8_inputs.proofs.Logging.{none-read_of, some-more_read}
use Rattle.p8_inputs.proofs.Stopping.{first-stops, first-or_memory, script-stops, behind, file-since}

-- a fact that is so in any case
whenever : {A : Type 0} {P : Type 0} (r : Result A Stop) → P → IfOk r (λ _. P)
whenever (Ok x) p = p
whenever (Err stop) p = tt

memory-stops : (files : Files) (before now : ℕ) (ask : Ask) → StopsAt files before now ask NoMemory
memory-stops files before now (program format file) = tt
memory-stops files before now (viewing format file name) = inl tt
memory-stops files before now (paging format file) = tt
memory-stops files before now (listing short file) = tt
memory-stops files before now (coding short file) = tt
memory-stops files before now (mapping file) = tt
memory-stops files before now (hinting file) = tt
memory-stops files before now (script file) = tt
memory-stops files before now (history file) = tt
memory-stops files before now (message file) = tt

wants-memory : {A : Type 0} (files : Files) (before now : ℕ) (ask : Ask) (r : Result A Stop) → IsErrAnd r (λ given. given ≡ NoMemory) → IfErr r (StopsAt files before now ask)
wants-memory files before now ask (Ok x) is = tt
wants-memory files before now ask (Err stop) is = subst (λ (s : Stop). StopsAt files before now ask s) (sym is) (memory-stops files before now ask)

pub no-value : {A : Type 0} (stop : Stop) (P : A → Type 0) (r : Result A Stop) → IsErrAnd r (λ given. given ≡ stop) → IfOk r P
no-value stop P (Ok x) is = absurd is
no-value stop P (Err given) is = tt

-- ---- for one ask

-- nothing was read, for want of memory
pub unasked : {A : Type 0} {ask : Ask} {files : Files} {log : Log} {count : ℕ} (r : Result A Stop) → IsErrAnd r (λ given. given ≡ NoMemory)
    → ReadsFor ask (record { files = files; files_now = files; log = log; log_now = log; before = count; now = count }) r
unasked {ask = ask} {files = files} {log = log} {count = count} r is = record {
  kept = refl;
  later = omega arith;
  stopped = wants-memory files count count ask r is;
  all_read = no-value NoMemory (λ _. IsAllRead files ask log log) r is;
  so_far = none-read_of files ask log;
}

-- an error that is handed on
pub handed : {A B : Type 0} {ask : Ask} {o : ShelfSeen} {stop : Stop} (r : Result B Stop) → IsErrAnd r (λ given. given ≡ stop) → ReadsFor {A = A} ask o (Err stop) → ReadsFor ask o r
handed (Ok y) is read = absurd is
handed {ask = ask} {o = o} (Err given) is read = record {
  kept = read.kept;
  later = read.later;
  stopped = subst (λ (s : Stop). StopsAt o.files o.before o.now ask s) (sym is) read.stopped;
  all_read = tt;
  so_far = read.so_far;
}

-- there was no memory for what is made of it
pub wanting : {A B : Type 0} {ask : Ask} {o : ShelfSeen} {x : A} (r : Result B Stop) → IsErrAnd r (λ given. given ≡ NoMemory) → ReadsFor {A = A} ask o (Ok x) → ReadsFor ask o r
wanting {ask = ask} {o = o} r is read = record {
  kept = read.kept;
  later = read.later;
  stopped = wants-memory o.files o.before o.now ask r is;
  all_read = no-value NoMemory (λ _. IsAllRead o.files ask o.log o.log_now) r is;
  so_far = read.so_far;
}

-- the program that a page or a view asks for
pub as-paging : {A : Type 0} {format : Format} {file : List ℕ} {o : ShelfSeen} (r : Result A Stop) → ReadsFor (program format file) o r → ReadsFor (paging format file) o r
as-paging r read = record { kept = read.kept; later = read.later; stopped = read.stopped; all_read = read.all_read; so_far = read.so_far }

pub as-viewing : {A : Type 0} {format : Format} {file : List ℕ} {o : ShelfSeen} (name : Option (List ℕ)) (r : Result A Stop) → ReadsFor (program format file) o r → ReadsFor (viewing format file name) o r
as-viewing name r read = record { kept = read.kept; later = read.later; stopped = IfErr-weaker r _ _ (λ stop at. inl at) read.stopped; all_read = read.all_read; so_far = read.so_far }

-- the files of a project were read, and what is built of them is a value or stops
pub project-built : {A B : Type 0} {o : ShelfSeen} {x : A} (short : Bool) (top : List ℕ) (sources : List NamedSource) (texts : List (List ℕ)) (r : Result B Stop)
    → IsProjectOf o.files top sources → AreSources o.files sources texts → IfErr r (StopsAtBuilding sources texts)
    → ReadsFor {A = A} (program (Source short) top) o (Ok x) → ReadsFor (program (Source short) top) o r
project-built {o = o} short top sources texts r gathered are stops read = record {
  kept = read.kept;
  later = read.later;
  stopped = IfErr-weaker r _ _ (λ stop at. building-stops o.files short top sources gathered texts are o.before o.now stop at) stops;
  all_read = whenever r read.all_read;
  so_far = read.so_far;
}

-- ---- for asks

-- one alone
pub alone : {A : Type 0} {ask : Ask} {o : ShelfSeen} (r : Result A Stop) → ReadsFor ask o r → ReadsForAll (ask ∷ []) o r
alone {ask = ask} {o = o} r read = record {
  kept = read.kept;
  later = read.later;
  stopped = IfErr-weaker r _ _ (λ stop at. first-stops o.files o.before o.now (ask ∷ []) stop (inl at)) read.stopped;
  all_read = IfOk-weaker r _ _ (λ _ all. (o.log_now, all, refl)) read.all_read;
  so_far = inl read.so_far;
}

-- the same asks
pub for-asks : {A : Type 0} {o : ShelfSeen} {r : Result A Stop} {asks more : List Ask} → asks ≡ more → ReadsForAll asks o r → ReadsForAll more o r
for-asks {o = o} {r = r} same read = subst (λ (xs : List Ask). ReadsForAll xs o r) same read

-- the first one stops
pub stops-first : {A : Type 0} {ask : Ask} {asks : List Ask} {o : ShelfSeen} {stop : Stop} → ReadsFor {A = A} ask o (Err stop) → ReadsForAll {A = A} (ask ∷ asks) o (Err stop)
stops-first {ask = ask} {asks = asks} {o = o} {stop = stop} read = record {
  kept = read.kept;
  later = read.later;
  stopped = first-stops o.files o.before o.now (ask ∷ asks) stop (inl read.stopped);
  all_read = tt;
  so_far = inl read.so_far;
}

pub handed-all : {A B : Type 0} {asks : List Ask} {o : ShelfSeen} {stop : Stop} (r : Result B Stop) → IsErrAnd r (λ given. given ≡ stop) → ReadsForAll {A = A} asks o (Err stop) → ReadsForAll asks o r
handed-all (Ok y) is read = absurd is
handed-all {asks = asks} {o = o} (Err given) is read = record {
  kept = read.kept;
  later = read.later;
  stopped = subst (λ (s : Stop). Stops o.files o.before o.now asks s) (sym is) read.stopped;
  all_read = tt;
  so_far = read.so_far;
}

pub wanting-all : {A B : Type 0} {asks : List Ask} {o : ShelfSeen} {x : A} (r : Result B Stop) → IsErrAnd r (λ given. given ≡ NoMemory) → ReadsForAll {A = A} asks o (Ok x) → ReadsForAll asks o r
wanting-all (Ok y) is read = absurd is
wanting-all {asks = asks} {o = o} (Err given) is read = record {
  kept = read.kept;
  later = read.later;
  stopped = subst (λ (s : Stop). Stops o.files o.before o.now asks s) (sym is) tt;
  all_read = tt;
  so_far = read.so_far;
}

-- another value
pub valued-all : {A B : Type 0} {asks : List Ask} {o : ShelfSeen} {x : A} (y : B) → ReadsForAll {A = A} asks o (Ok x) → ReadsForAll {A = B} asks o (Ok y)
valued-all y read = record { kept = read.kept; later = read.later; stopped = tt; all_read = read.all_read; so_far = read.so_far }

-- the first asks stop
first-before : (files : Files) (before now : ℕ) (asks more : List Ask) (stop : Stop) → StopsFirst files before now asks stop → StopsFirst files before now (asks ++ more) stop
first-before files before now [] more stop stops = absurd stops
first-before files before now (ask ∷ asks) more stop (inl at) = inl at
first-before files before now (ask ∷ asks) more stop (inr (given, later)) = inr (given, first-before files before now asks more stop later)

stops-before : (files : Files) (before now : ℕ) (asks more : List Ask) (stop : Stop) → Stops files before now asks stop → Stops files before now (asks ++ more) stop
stops-before files before now asks more stop stops = elim (first-or_memory files before now asks stop stops) [
  | inl memory ↦ subst (λ (s : Stop). Stops files before now (asks ++ more) s) (sym memory) tt
  | inr first ↦ first-stops files before now (asks ++ more) stop (first-before files before now asks more stop first)
]

-- a beginning of what asks read is one of what more asks read
begun-before : (files : Files) (ask : Ask) (asks more : List Ask) (before now : Log) → AreReadSoFar files (ask ∷ asks) before now → AreReadSoFar files ((ask ∷ asks) ++ more) before now
begun-before files ask asks more before now (inl first) = inl first
begun-before files ask [] [] before now (inr (between, all, given, none)) = inr (between, all, given, none)
begun-before files ask [] (next ∷ more) before now (inr (between, all, given, none)) =
    inr (between, all, given, inl (subst (λ (log : Log). IsReadSoFar files next between log) (sym none) (none-read_of files next between)))
begun-before files ask (next ∷ asks) more before now (inr (between, all, given, later)) = inr (between, all, given, begun-before files next asks more between now later)

pub stops-before_more : {A : Type 0} {ask : Ask} {asks : List Ask} {o : ShelfSeen} {stop : Stop} (more : List Ask) → ReadsForAll {A = A} (ask ∷ asks) o (Err stop)
    → ReadsForAll {A = A} ((ask ∷ asks) ++ more) o (Err stop)
stops-before_more {ask = ask} {asks = asks} {o = o} {stop = stop} more read = record {
  kept = read.kept;
  later = read.later;
  stopped = stops-before o.files o.before o.now (ask ∷ asks) more stop read.stopped;
  all_read = tt;
  so_far = begun-before o.files ask asks more o.log o.log_now read.so_far;
}

-- all of one ask more
all-more_read : (files : Files) (asks : List Ask) (ask : Ask) (before between now : Log) → AreAllRead files asks before between → IsAllRead files ask between now → AreAllRead files (asks ++ ask ∷ []) before now
all-more_read files [] ask before between now none all = (now, subst (λ (log : Log). IsAllRead files ask log now) none all, refl)
all-more_read files (first ∷ asks) ask before between now some all = (some.0, some.1, all-more_read files asks ask some.0 between now some.2 all)

module _ {S : Type 0} (files : S → Files) (log : S → Log) (faults : S → ℕ) (old between new : S) where
  -- an ask is given something, and then the pin script is read, where one is named
  pub then-script : {A B : Type 0} {x : A} {ask : Ask} (given : Given) (named : Option (List ℕ)) (r : Result B Stop)
      → ReadsFor {A = A} ask (shelf_seen files log faults old between) (Ok x) → Gives (files old) ask given
      → ReadsForAll (script_ask named) (shelf_seen files log faults between new) r → ReadsForAll (ask ∷ script_ask named) (shelf_seen files log faults old new) r
  then-script {ask = ask} given named r first gives more = record {
    kept = more.kept ∙ first.kept;
    later = omega arith;
    stopped = IfErr-weaker r _ _ (λ stop at. script-stops (files old) (faults old) (faults between) (faults new) ask given named stop first.later gives
        (subst (λ (f : Files). Stops f (faults between) (faults new) (script_ask named) stop) first.kept at)) more.stopped;
    all_read = IfOk-weaker r _ _ (λ _ all. (log between, first.all_read, subst (λ (f : Files). AreAllRead f (script_ask named) (log between) (log new)) first.kept all)) more.all_read;
    so_far = inr (log between, first.all_read, (given, gives), subst (λ (f : Files). AreReadSoFar f (script_ask named) (log between) (log new)) first.kept more.so_far);
  }

  -- asks are given something, and then the bytes of a history file are read
  pub then-history : {A B : Type 0} {x : A} {asks : List Ask} (given : List Given) (recorded : List ℕ) (r : Result B Stop)
      → ReadsForAll {A = A} asks (shelf_seen files log faults old between) (Ok x) → Give (files old) asks given
      → ReadsFor (history recorded) (shelf_seen files log faults between new) r → ReadsForAll (asks ++ history recorded ∷ []) (shelf_seen files log faults old new) r
  then-history {asks = asks} given recorded r first give more = record {
    kept = more.kept ∙ first.kept;
    later = omega arith;
    stopped = IfErr-weaker r _ _ (λ stop at. first-stops (files old) (faults old) (faults new) (asks ++ history recorded ∷ []) stop
        (behind (files old) (faults old) (faults new) asks (history recorded ∷ []) given stop give
        (inl (file-since (files old) (faults old) (faults between) (faults new) recorded stop first.later
        (subst (λ (f : Files). StopsAt f (faults between) (faults new) (history recorded) stop) first.kept at))))) more.stopped;
    all_read = IfOk-weaker r _ _ (λ _ all. all-more_read (files old) asks (history recorded) (log old) (log between) (log new) first.all_read all) more.all_read;
    so_far = some-more_read (files old) asks given (history recorded) (log old) (log between) (log new) give first.all_read more.so_far;
  }
