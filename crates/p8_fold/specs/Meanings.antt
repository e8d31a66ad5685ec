-- What names mean to the expressions that stand where a constant is needed.
use Rattle.std.specs.Prelude.{ℕ, true, false, List, Option, Some, None, if◌then◌else◌}
use Rattle.std.specs.Str.{bytes_eq}
use Rattle.p8_tree.specs.Names.{result_word}
use Rattle.p8_fold.specs.declared.meanings.Here.{Here}
use Rattle.p8_fold.specs.declared.meanings.Meaning.{Meaning}
use Rattle.p8_fold.specs.declared.meanings.Meaning.TheVariants as meaning_case

pub record Setting : Type 0 where
  -- what a name means, where it has an entry
  pub name : List ℕ → Option Meaning
  -- what a name after `#` means, by the name before `#` and itself
  pub constant : List ℕ → List ℕ → Option Meaning
  -- what `$` is, where it has a value, and whether registers have values
  pub here : Here

-- everywhere but in an operand of an instruction registers have no value
abbrev pub outside_operands : Option ℕ → Here
outside_operands at = record { address = at; registers = false }

-- in an operand `$` has a value, and a register's name is its address
abbrev pub in_operand : ℕ → Here
in_operand at = record { address = Some at; registers = true }

-- an entry, of a name alone or of one after an object's name
abbrev pub entry : Setting → Option (List ℕ) → List ℕ → Option Meaning
entry s None name = s.name name
entry s (Some object) name = s.constant object name

-- the meaning of a name in an expression; RESULT is a word and no name, so it has no entry, and it is no constant
abbrev pub meaning_of : Setting → List ℕ → Option Meaning
meaning_of s name = if bytes_eq name result_word then Some meaning_case.Other else s.name name

-- the value of what a name means: that of a constant, and the cog address, in longs, of a label
abbrev pub value_of_meaning : Meaning → Option ℕ
value_of_meaning (meaning_case.Value v) = Some v
value_of_meaning (meaning_case.Label cog offset) = Some cog
value_of_meaning _ = None

-- the value of `@` before a name: a label's offset in its object
abbrev pub address_of_meaning : Meaning → Option ℕ
address_of_meaning (meaning_case.Label cog offset) = Some offset
address_of_meaning _ = None

-- what a name that may have an entry gives
abbrev pub given : (Meaning → Option ℕ) → Option Meaning → Option ℕ
given f None = None
given f (Some m) = f m
