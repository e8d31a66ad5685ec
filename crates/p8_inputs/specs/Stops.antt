-- The line that tells why there is nothing to run (this project's profile).
use Rattle.std.specs.Prelude.{ℕ, List, [], ◌∷◌, ◌++◌, codes}
use Rattle.std.specs.Fmt.{decimal}
use Rattle.p8_tree.specs.declared.faults.Fault.{Fault}
use Rattle.p8_tree.specs.Refusals.{name_numbered}
use Rattle.p8_image.specs.Messages.{fault_text}
use Rattle.p8_inputs.specs.declared.stop.Stop.{Stop}
use Rattle.p8_inputs.specs.declared.stop.Stop.TheVariants.{Unread, Missing, NoMemory, Refused, BadProgram, BadScript, Unnamed}

-- a place in a file, and what is wrong there
abbrev pub refusal_line : (name : List ℕ) → Fault → List ℕ
refusal_line name f =
    codes "prop: " ++ name ++ codes ":" ++ decimal f.place.line ++ codes ":" ++ decimal f.place.column
    ++ codes ": " ++ decimal f.number ++ codes " " ++ name_numbered f.number ++ 10 ∷ []

-- the line that tells it
abbrev pub line_of : Stop → List ℕ
line_of (Unread name) = codes "prop: cannot read " ++ name ++ 10 ∷ []
line_of (Missing name mention) = codes "prop: " ++ name ++ codes " is missing" ++ 10 ∷ []
line_of NoMemory = codes "prop: out of memory" ++ 10 ∷ []
line_of (Refused file f size) = refusal_line file.name f
line_of (BadProgram name fault) = codes "prop: " ++ name ++ codes ": " ++ fault_text fault ++ 10 ∷ []
line_of (BadScript name line) = codes "prop: " ++ name ++ codes ": line " ++ decimal line ++ 10 ∷ []
line_of (Unnamed file name) = codes "prop: " ++ file ++ codes ": nothing is named " ++ name ++ 10 ∷ []
