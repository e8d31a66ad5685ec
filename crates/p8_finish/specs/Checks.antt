-- The words about a history file that was checked (this project's profile).
use Rattle.std.specs.Prelude.{ℕ, List, [], ◌∷◌, ◌++◌, codes}
use Rattle.std.specs.Fmt.{decimal}
use Rattle.p8_verify.specs.declared.verdicts.Cause.{Cause}
use Rattle.p8_verify.specs.declared.verdicts.Cause.TheVariants.{Form, Extra, Key, Access, Answer, More}

-- the line of a good one, with the number of its turns
abbrev pub good_line : ℕ → List ℕ
good_line count = codes "good " ++ decimal count ++ 10 ∷ []

-- the word for what is wrong with another one
abbrev pub cause_text : Cause → List ℕ
cause_text Form = codes "form"
cause_text Extra = codes "extra"
cause_text Key = codes "key"
cause_text Access = codes "access"
cause_text Answer = codes "answer"
cause_text More = codes "more"

-- the line of another one: its name, the first turn of which that can be said, and why
abbrev pub bad_line : (history : List ℕ) → (turn : ℕ) → Cause → List ℕ
bad_line history turn cause = codes "prop: " ++ history ++ codes ": turn " ++ decimal turn ++ codes " " ++ cause_text cause ++ 10 ∷ []
