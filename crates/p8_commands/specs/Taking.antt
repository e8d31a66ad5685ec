-- internal
-- What `clap` makes of words.
use Rattle.std.specs.Prelude.{◌≡◌, List, [], Option, Some, None}
use Rattle.clap.specs.declared.parser.matches.ArgMatches.{ArgMatches}
use Rattle.clap.specs.Faults.{fault_of}
use Rattle.clap.specs.Matches.{found_of}
use Rattle.clap.specs.Simple.{App, matches_of}
use Rattle.clap.specs.Walk.{Text, rows_of}

-- the matches of words with which there is no fault, and none where there is one
abbrev pub Takes : App → List Text → Option ArgMatches → Type 0
Takes app words None = fault_of app words ≡ [] → ⊥
Takes app words (Some matches) = (fault_of app words ≡ []) × (rows_of (found_of matches) ≡ matches_of app words)
