-- What is asked of the constants of a file, and of the names of its methods, where bodies are folded. Each file that is
-- accepted has it.
use Rattle.std.specs.Prelude.{◌≡◌, ℕ, ◌^◌, ◌<◌, List, Some, IfSome}
use Rattle.p8_kinds.specs.declared.name_kinds.NameKind.TheVariants as kinds
use Rattle.p8_gen.specs.Names.{Names}
use Rattle.p8_meaning.specs.Constants.{Constants, constants_in}

-- the values of constants are words
pub record AreWords (c : Constants) : Type 0 where
  pub named : (name : List ℕ) → IfSome (c.named name) (λ v. v < 2 ^ 32)
  pub behind : (object name : List ℕ) → IfSome (c.behind object name) (λ v. v < 2 ^ 32)

-- What is a constant where a number is needed is that constant in statements, too: no name of the method hides it.
pub record HideNoConstant (n : Names) : Type 0 where
  pub named : (name : List ℕ) (v : ℕ) → (constants_in n.constants).named name ≡ Some v → n.kind name ≡ Some (kinds.Const v)
