-- That what a call promises says of `run` and `raw` what they print (this project's profile).
use Rattle.std.specs.Prelude.{◌≡◌, ◌⊎◌, List, [], ◌∷◌, Option, Some, ℕ, codes}
use Rattle.clap.specs.Walk.{Text}
use Rattle.p8_io.specs.Shelves.{Files}
use Rattle.p8_io.specs.Sinks.{Appended}
use Rattle.p8_commands.specs.Commands.{Command, command_of, alone_of}
use Rattle.p8_prop.specs.declared.status.Status.TheVariants as status
use Rattle.p8_prop.specs.Verdicts.{Outside}
use Rattle.p8_prop.specs.Promises.{Keeps}
use Rattle.p8_prop.specs.Runs.{PrintsHistory}
use Rattle.p8_prop.specs.Shorts.{PrintsShortly}

-- words that begin with `raw` or `run`
abbrev pub AreOfRun : List Text → Type 0
AreOfRun [] = ⊥
AreOfRun (word ∷ words) = (word ≡ codes "raw") ⊎ (word ≡ codes "run")

-- the command of words: any, or one that one thread alone carries out
abbrev pub IsCommandOf : List Text → Option Command → Type 0
IsCommandOf words command = (command ≡ command_of words) ⊎ (command ≡ alone_of (command_of words))

-- what words print, with short code or without
abbrev pub Prints : Files → List Text → (text : List ℕ) → Type 0
Prints shelf words text = PrintsHistory shelf words text ⊎ PrintsShortly shelf words text

-- where the shelf tells its files, these words print no other text
abbrev pub PrintNothingElse : Files → List Text → (text : List ℕ) → Type 0
PrintNothingElse shelf words text = (files : List ℕ → Option (List ℕ)) (other : List ℕ) → shelf ≡ Some files → Prints shelf words other → other ≡ text

-- Where a call with such words answers status 0, what it wrote is what the words print, and they print nothing else.
abbrev pub RunsPrintTheirHistory : Type 0
RunsPrintTheirHistory =
    (o : Outside) (words : List Text) (command : Option Command) → AreOfRun words → IsCommandOf words command → Keeps o command status.Ok
    → (text : List ℕ) × Appended o.out.taken o.out.taken_now text × Prints o.shelf.files words text × PrintNothingElse o.shelf.files words text
