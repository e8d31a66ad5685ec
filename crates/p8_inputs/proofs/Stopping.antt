-- Why there is nothing to run, by the step that finds it.
use Rattle.std.proofs.Common.{◌≡◌, ◌⊎◌, ℕ, ◌≤◌, inl, inr, refl, sym, subst, List, [], ◌∷◌, ◌++◌, Option, Some, None, arith}
use Rattle.std.specs.Prelude.{Result, Ok, Err, IfErr, IsErrAnd}
use Rattle.p8_io.specs.Counts.{Rose}
use Rattle.p8_access.specs.Worlds.{Line}
use Rattle.p8_io.specs.Shelves.{Files, IsLacking}
use Rattle.p8_inputs.specs.declared.stop.Stop.{Stop}
use Rattle.p8_inputs.specs.declared.stop.Stop.TheVariants.{Unread, Missing, NoMemory, Refused, BadProgram, BadScript, Unnamed}
use Rattle.p8_inputs.specs.Inputs.{IsScriptFor}
use Rattle.p8_inputs.specs.Asks.{Ask, script_ask, Given, lines, Gives, Give, StopsAtFile, StopsAtScript, StopsFirst, Stops}

-- an error that is handed on
pub handed-on : {T E : Type 0} (r : Result T E) (e : E) (P : E → Type 0) → IsErrAnd r (λ given. given ≡ e) → P e → IfErr r P
handed-on (Ok x) e P is p = absurd is
handed-on (Err given) e P is p = subst P (sym is) p

-- a count that rose since a later moment rose
since : (before between now : ℕ) → before ≤ between → Rose between now → Rose before now
since before between now later (inl less) = inl (omega arith)
since before between now later (inr last) = inr last

lacking-since : (before between now : ℕ) (files : Files) (name : List ℕ) → before ≤ between → IsLacking between now files name → IsLacking before now files name
lacking-since before between now None name later lacks = since before between now later lacks
lacking-since before between now (Some files) name later lacks = lacks

script-since : (files : Files) (before between now : ℕ) (file : List ℕ) (stop : Stop) → before ≤ between → StopsAtScript files between now file stop → StopsAtScript files before now file stop
script-since files before between now file (Unread name) later stops = (stops.0, since before between now later stops.1)
script-since files before between now file (Missing name mention) later stops = (stops.0, lacking-since before between now files name later stops.1, stops.2)
script-since files before between now file NoMemory later stops = tt
script-since files before between now file (Refused name f size) later stops = absurd stops
script-since files before between now file (BadProgram name fault) later stops = absurd stops
script-since files before between now file (BadScript name line) later stops = stops
script-since files before between now file (Unnamed other name) later stops = absurd stops

-- the reason of the first ask that stops is one
pub first-stops : (files : Files) (before now : ℕ) (asks : List Ask) (stop : Stop) → StopsFirst files before now asks stop → Stops files before now asks stop
first-stops files before now asks (Unread name) stops = stops
first-stops files before now asks (Missing name mention) stops = stops
first-stops files before now asks NoMemory stops = tt
first-stops files before now asks (Refused name f size) stops = stops
first-stops files before now asks (BadProgram name fault) stops = stops
first-stops files before now asks (BadScript name line) stops = stops
first-stops files before now asks (Unnamed file name) stops = stops

pub first-or_memory : (files : Files) (before now : ℕ) (asks : List Ask) (stop : Stop) → Stops files before now asks stop → (stop ≡ NoMemory) ⊎ StopsFirst files before now asks stop
first-or_memory files before now asks (Unread name) stops = inr stops
first-or_memory files before now asks (Missing name mention) stops = inr stops
first-or_memory files before now asks NoMemory stops = inl refl
first-or_memory files before now asks (Refused name f size) stops = inr stops
first-or_memory files before now asks (BadProgram name fault) stops = inr stops
first-or_memory files before now asks (BadScript name line) stops = inr stops
first-or_memory files before now asks (Unnamed file name) stops = inr stops

asked-since : (files : Files) (before between now : ℕ) (named : Option (List ℕ)) (stop : Stop) → before ≤ between → StopsFirst files between now (script_ask named) stop → StopsFirst files before now (script_ask named) stop
asked-since files before between now None stop later stops = absurd stops
asked-since files before between now (Some file) stop later stops = elim stops [
  | inl at ↦ inl (script-since files before between now file stop later at)
  | inr more ↦ inr more
]

-- the first ask is given something, and the pin script stops
pub script-stops : (files : Files) (before between now : ℕ) (ask : Ask) (given : Given) (named : Option (List ℕ)) (stop : Stop) → before ≤ between → Gives files ask given → Stops files between now (script_ask named) stop → Stops files before now (ask ∷ script_ask named) stop
script-stops files before between now ask given named stop later there stops = elim (first-or_memory files between now (script_ask named) stop stops) [
  | inl memory ↦ subst (λ (s : Stop). Stops files before now (ask ∷ script_ask named) s) (sym memory) tt
  | inr first ↦ first-stops files before now (ask ∷ script_ask named) stop (inr ((given, there), asked-since files before between now named stop later first))
]

-- the bytes of a pin script stop it
pub file-stops : (files : Files) (before now : ℕ) (file : List ℕ) (stop : Stop) → StopsAtFile files before now file stop → StopsAtScript files before now file stop
file-stops files before now file (Unread name) stops = stops
file-stops files before now file (Missing name mention) stops = stops
file-stops files before now file NoMemory stops = tt
file-stops files before now file (Refused name f size) stops = absurd stops
file-stops files before now file (BadProgram name fault) stops = absurd stops
file-stops files before now file (BadScript name line) stops = absurd stops
file-stops files before now file (Unnamed other name) stops = absurd stops

-- ---- asks behind others

pub file-since : (files : Files) (before between now : ℕ) (file : List ℕ) (stop : Stop) → before ≤ between → StopsAtFile files between now file stop → StopsAtFile files before now file stop
file-since files before between now file (Unread name) later stops = (stops.0, since before between now later stops.1)
file-since files before between now file (Missing name mention) later stops = (stops.0, lacking-since before between now files name later stops.1, stops.2)
file-since files before between now file NoMemory later stops = tt
file-since files before between now file (Refused name f size) later stops = absurd stops
file-since files before between now file (BadProgram name fault) later stops = absurd stops
file-since files before between now file (BadScript name line) later stops = absurd stops
file-since files before between now file (Unnamed other name) later stops = absurd stops

module _ (files : Files) (before now : ℕ) where
  -- asks are given something, and what is behind them stops
  pub behind : (asks more : List Ask) (given : List Given) (stop : Stop) → Give files asks given → StopsFirst files before now more stop → StopsFirst files before now (asks ++ more) stop
  behind [] more [] stop gives stops = stops
  behind (ask ∷ asks) more (x ∷ given) stop gives stops = inr ((x, gives.0), behind asks more given stop gives.1 stops)
  behind [] more (x ∷ given) stop gives stops = absurd gives
  behind (ask ∷ asks) more [] stop gives stops = absurd gives

-- what is given where there are a program and a pin script
pub script-given : (files : Files) (named : Option (List ℕ)) (xs : List Line) → IsScriptFor files named xs → (given : List Given) × Give files (script_ask named) given
script-given files None xs is = ([], tt)
script-given files (Some file) xs is = (lines xs ∷ [], (is, tt))
