-- The value of a constant expression is a word.
use Rattle.std.proofs.Common.{◌≡◌, ℕ, ◌^◌, ◌<◌, Bool, true, false, ◌==◌, ◌&&◌, if◌then◌else◌, Option, Some, None, List, refl, sym, subst, arith}
use Rattle.std.specs.Str.{bytes_eq}
use Rattle.p8_tree.specs.Names.{result_word}
use Rattle.p8_tree.specs.Expressions.{Tree, node, Form, Number, Str, Strings, Here, Var, Call, Unary, Binary, Assign, Change, Address, ObjectAddress, ObjConst, Built, Look, Variable, Named, Part, Memory, Register, no_index, index, whole, bits, Trees, no_trees, ◌▷◌}
use Rattle.p8_tree.specs.Proper.{IsProperTree, IsProperForm, AreProperTrees}
use Rattle.p8_words.specs.Operators.{or_zero, divides, unary_result, binary_result}
use Rattle.p8_fold.specs.declared.meanings.Meaning.{Meaning}
use Rattle.p8_fold.specs.declared.meanings.Meaning.TheVariants as meaning_case
use Rattle.p8_fold.specs.Meanings.{Setting, meaning_of, value_of_meaning, address_of_meaning, given}
use Rattle.p8_fold.specs.Values.{constant_of, before, between, value, value_of_form, value_of_variable, address_of, value_of_one}
use Rattle.p8_names.specs.Words.{IsWord, HasWords}
use Rattle.p8_names.proofs.Bounds.{unary-word, binary-word}

abbrev IsSmall : Option ℕ → Type 0
IsSmall None = Unit {0}
IsSmall (Some v) = v < 2 ^ 32

of-meaning : (m : Option Meaning) → IsWord m → IsSmall (given value_of_meaning m)
of-meaning None word = tt
of-meaning (Some (meaning_case.Value v)) word = word
of-meaning (Some (meaning_case.Label cog offset)) word = absurd word
of-meaning (Some meaning_case.Object) word = tt
of-meaning (Some meaning_case.Other) word = tt

of-address : (m : Option Meaning) → IsWord m → IsSmall (given address_of_meaning m)
of-address None word = tt
of-address (Some (meaning_case.Value v)) word = tt
of-address (Some (meaning_case.Label cog offset)) word = absurd word
of-address (Some meaning_case.Object) word = tt
of-address (Some meaning_case.Other) word = tt

either-word : (t : Bool) (m : Option Meaning) → IsWord m → IsWord (if t then Some meaning_case.Other else m)
either-word true m word = tt
either-word false m word = word

named : (s : Setting) → HasWords s → (n : List ℕ) → IsWord (meaning_of s n)
named s words n = either-word (bytes_eq n result_word) (s.name n) (words.names n)

behind : (s : Setting) → HasWords s → (m : Option Meaning) (object n : List ℕ) → IsSmall (constant_of s m object n)
behind s words None object n = tt
behind s words (Some (meaning_case.Value v)) object n = tt
behind s words (Some (meaning_case.Label cog offset)) object n = tt
behind s words (Some meaning_case.Object) object n = of-meaning (s.constant object n) (words.constants object n)
behind s words (Some meaning_case.Other) object n = tt

unary-small : (operator a : ℕ) (r : Option ℕ) → unary_result operator a ≡ r → a < 2 ^ 32 → IsSmall r
unary-small operator a None is fits = tt
unary-small operator a (Some v) is fits = unary-word operator a v fits is

binary-small : (operator a b : ℕ) (r : Option ℕ) → binary_result operator a b ≡ r → a < 2 ^ 32 → b < 2 ^ 32 → IsSmall r
binary-small operator a b None is fa fb = tt
binary-small operator a b (Some v) is fa fb = binary-word operator a b v fa fb is

small-before : (operator : ℕ) (a : Option ℕ) → IsSmall a → IsSmall (before operator a)
small-before operator None small = tt
small-before operator (Some a) small = unary-small operator a (unary_result operator a) refl small

unless-zero : (t : Bool) (r : Option ℕ) → IsSmall r → IsSmall (if t then None else r)
unless-zero true r small = tt
unless-zero false r small = small

small-between : (operator : ℕ) (a b : Option ℕ) → IsSmall a → IsSmall b → IsSmall (between operator a b)
small-between operator None b fa fb = tt
small-between operator (Some a) None fa fb = tt
small-between operator (Some a) (Some b) fa fb =
    unless-zero (divides operator && (b == 0)) (binary_result operator a b) (binary-small operator a b (binary_result operator a b) refl fa fb)

where-zero : (t : Bool) (r : Option ℕ) → IsSmall r → IsSmall (if t then r else None)
where-zero true r small = small
where-zero false r small = tt

module _ (s : Setting) (words : HasWords s) where
  small-variable : (v : Variable) → IsSmall (value_of_variable s v)
  small-variable (Named n no_index place) = of-meaning (meaning_of s n) (named s words n)
  small-variable (Named n (index e) place) = tt
  small-variable (Part n size i place) = tt
  small-variable (Memory size e i place) = tt
  small-variable (Register address whole place) = subst (λ h. IsSmall (if h.registers then Some address else None)) (sym words.here) tt
  small-variable (Register address (bits x) place) = tt

  small-address : (v : Variable) → IsSmall (address_of s v)
  small-address (Named n no_index place) = of-address (meaning_of s n) (named s words n)
  small-address (Named n (index e) place) = tt
  small-address (Part n size i place) = tt
  small-address (Memory size e i place) = tt
  small-address (Register address x place) = tt

  mutual
    small : (e : Tree) → IsProperTree false e → IsSmall (value s e)
    small (node place form) proper = small-form form proper

    small-form : (form : Form) → IsProperForm false form → IsSmall (value_of_form s form)
    small-form (Number n) proper = proper
    small-form (Str text) proper = tt
    small-form (Strings es) proper = tt
    small-form Here proper = subst (λ h. IsSmall h.address) (sym words.here) tt
    small-form (Var v) proper = small-variable v
    small-form (Call trap object i n place args) proper = tt
    small-form (Unary operator e) proper = small-before operator (value s e) (small e proper.1)
    small-form (Binary operator a b) proper = small-between operator (value s a) (value s b) (small a proper.1) (small b proper.2)
    small-form (Assign v operator e) proper = tt
    small-form (Change v effect) proper = tt
    small-form (Address v) proper = small-address v
    small-form (ObjectAddress e) proper = tt
    small-form (ObjConst object n place) proper = behind s words (meaning_of s object) object n
    small-form (Built code args) proper = where-zero (code == 0) (value_of_one s args) (small-one args proper.1)
    small-form (Look code e xs) proper = tt

    small-one : (args : Trees) → AreProperTrees false args → IsSmall (value_of_one s args)
    small-one no_trees proper = tt
    small-one (no_trees ▷ e) proper = small e proper.1
    small-one (es ▷ d ▷ e) proper = tt

  zero-small : (r : Option ℕ) → IsSmall r → or_zero r < 2 ^ 32
  zero-small None h = omega arith
  zero-small (Some v) h = h

  -- the value of a proper expression is a word
  pub value-word : (e : Tree) → IsProperTree false e → or_zero (value s e) < 2 ^ 32
  value-word e proper = zero-small (value s e) (small e proper)
