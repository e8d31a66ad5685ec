-- The value of a constant tree is a word.
use Rattle.std.proofs.Common.{◌≡◌, ℕ, ◌^◌, ◌<◌, nat_le, Bool, true, false, if◌then◌else◌, Option, Some, None, option_map, refl, arith}
use Rattle.std.specs.Prelude.{IfSome}
use Rattle.p8_tree.specs.Expressions.{Tree, node, Number, Str, Strings, Here, Var, Call, Unary, Binary, Assign, Change, Address, ObjectAddress, ObjConst, Built, Look, Named, Part, Memory, Register, no_index, index}
use Rattle.p8_tree.specs.Proper.{IsProperTree}
use Rattle.p8_words.specs.Operators.{or_zero, unary_result, binary_result, unary_value, binary_value}
use Rattle.p8_meaning.specs.Constants.{Constants, both, constant_value, number_length, code_length, within, shorter_number}
use Rattle.p8_opt.specs.Asked.{AreWords}
use Rattle.p8_names.proofs.Bounds.{unary-word, binary-word}

-- a number, where there is one, is a word
abbrev pub IsWord : Option ℕ → Type 0
IsWord o = IfSome o (λ v. v < 2 ^ 32)

zero-word : (r : Option ℕ) → ((v : ℕ) → r ≡ Some v → v < 2 ^ 32) → or_zero r < 2 ^ 32
zero-word None all = omega arith
zero-word (Some v) all = all v refl

word-unary : (operator : ℕ) (o : Option ℕ) → IsWord o → IsWord (option_map (unary_value operator) o)
word-unary operator None h = tt
word-unary operator (Some a) h = zero-word (unary_result operator a) (λ v. unary-word operator a v h)

word-binary : (operator : ℕ) (o p : Option ℕ) → IsWord o → IsWord p → IsWord (both o p (binary_value operator))
word-binary operator None p h k = tt
word-binary operator (Some a) None h k = tt
word-binary operator (Some a) (Some b) h k = zero-word (binary_result operator a b) (λ v. binary-word operator a b v h k)

word-if : (t : Bool) (v : ℕ) → v < 2 ^ 32 → IsWord (if t then Some v else None)
word-if true v h = h
word-if false v h = tt

word-within : (room : ℕ) (o : Option ℕ) → IsWord o → IsWord (within room o)
word-within room None h = tt
word-within room (Some v) h = word-if (nat_le (number_length v) room) v h

module _ (c : Constants) (words : AreWords c) where
  value-word : (e : Tree) → IsProperTree false e → IsWord (constant_value c e)
  value-word (node place (Number n)) proper = proper
  value-word (node place (Var (Named name no_index at))) proper = words.named name
  value-word (node place (ObjConst object name at)) proper = words.behind object name
  value-word (node place (Unary operator e)) proper = word-unary operator (constant_value c e) (value-word e proper.1)
  value-word (node place (Binary operator a b)) proper = word-binary operator (constant_value c a) (constant_value c b) (value-word a proper.1) (value-word b proper.2)
  value-word (node place (Var (Named name (index e) at))) proper = tt
  value-word (node place (Var (Part name size i at))) proper = tt
  value-word (node place (Var (Memory size e i at))) proper = tt
  value-word (node place (Var (Register register x at))) proper = tt
  value-word (node place (Str text)) proper = tt
  value-word (node place (Strings es)) proper = tt
  value-word (node place Here) proper = tt
  value-word (node place (Call stops object i method at arguments)) proper = tt
  value-word (node place (Assign v operator e)) proper = tt
  value-word (node place (Change v change)) proper = tt
  value-word (node place (Address v)) proper = tt
  value-word (node place (ObjectAddress e)) proper = tt
  value-word (node place (Built code arguments)) proper = tt
  value-word (node place (Look code e items)) proper = tt

  -- the number that a tree becomes
  pub shorter-word : (e : Tree) → IsProperTree false e → IsWord (shorter_number c e)
  shorter-word e proper = word-within (code_length c e) (constant_value c e) (value-word e proper)
