-- When what names mean, where a constant is needed, are words.
use Rattle.std.specs.Prelude.{◌≡◌, ℕ, ◌^◌, ◌<◌, List, Option, Some, None}
use Rattle.p8_fold.specs.declared.meanings.Meaning.{Meaning}
use Rattle.p8_fold.specs.declared.meanings.Meaning.TheVariants as meaning_case
use Rattle.p8_fold.specs.Meanings.{Setting, outside_operands}

-- it has a word as its value, or none, and no address
abbrev pub IsWord : Option Meaning → Type 0
IsWord (Some (meaning_case.Value v)) = v < 2 ^ 32
IsWord (Some (meaning_case.Label cog offset)) = ⊥
IsWord _ = Unit {0}

-- names have words as their values and no addresses, and `$` and registers have none
pub record HasWords (s : Setting) : Type 0 where
  pub names : (n : List ℕ) → IsWord (s.name n)
  pub constants : (object n : List ℕ) → IsWord (s.constant object n)
  pub here : s.here ≡ outside_operands None
