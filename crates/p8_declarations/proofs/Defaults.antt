-- The words of instructions, one by one.
use Rattle.std.proofs.Common.{arith, ◌≡◌, ℕ, Bool, true, false, List, [], ◌∷◌, Option, Some, None, refl, ap₂, subst}
use Rattle.std.specs.Prelude.{IsTrue, ◌==◌, ◌&&◌, ◌||◌}
use Rattle.std.proofs.lemmas.Bool.Decides.{nat_tests}
use Rattle.p8_tree.specs.Names.{same, is_among, two_operands, on_memory, one_operand, mnemonics}
use Rattle.p8_instr.specs.declared.instruction.Instr.{Instr}
use Rattle.p8_instr.specs.Mnemonics as instructions
use Rattle.p8_instr.specs.Mnemonics.{entry_of}

same_is : (xs ys : List ℕ) → IsTrue (same xs ys) → xs ≡ ys
same_is [] [] h = refl
same_is [] (y ∷ ys) h = absurd cc
same_is (x ∷ xs) [] h = absurd cc
same_is (x ∷ xs) (y ∷ ys) h = go (x == y) refl h (same_is xs ys)
  where
    go : (b : Bool) → (x == y) ≡ b → IsTrue (b && same xs ys) → (IsTrue (same xs ys) → xs ≡ ys) → x ∷ xs ≡ y ∷ ys
    go true e h rest = let first : x ≡ y = grind (arith, nat_tests) in ap₂ (λ x xs. x ∷ xs) first (rest h)
    go false e h rest = absurd cc

abbrev is_there : Option Instr → Bool
is_there None = false
is_there (Some i) = true

abbrev has_default : List ℕ → Bool
has_default text = is_there (entry_of instructions.mnemonics text)

abbrev have_defaults : List (List ℕ) → Bool
have_defaults [] = true
have_defaults (t ∷ ts) = has_default t && have_defaults ts

all_defaults : IsTrue (have_defaults mnemonics)
unfolding two_operands on_memory one_operand instructions.mnemonics
all_defaults = refl

among_defaults : (ts : List (List ℕ)) (text : List ℕ) → IsTrue (have_defaults ts) → IsTrue (is_among ts text) → IsTrue (has_default text)
among_defaults [] text all h = absurd cc
among_defaults (t ∷ ts) text all h = go (has_default t) refl all (same t text) refl h (among_defaults ts text)
  where
    go : (d : Bool) → has_default t ≡ d → IsTrue (d && have_defaults ts) → (b : Bool) → same t text ≡ b → IsTrue (b || is_among ts text) → (IsTrue (have_defaults ts) → IsTrue (is_among ts text) → IsTrue (has_default text)) → IsTrue (has_default text)
    go true d all true e h rest = subst (λ u. IsTrue (has_default u)) (same_is t text e) d
    go true d all false e h rest = rest all h
    go false d all b e h rest = absurd cc

pub default_there : (text : List ℕ) → IsTrue (is_among mnemonics text) → (i : Instr) × (entry_of instructions.mnemonics text ≡ Some i)
default_there text h = go (entry_of instructions.mnemonics text) refl (among_defaults mnemonics text all_defaults h)
  where
    go : (o : Option Instr) → entry_of instructions.mnemonics text ≡ o → IsTrue (is_there o) → (i : Instr) × (entry_of instructions.mnemonics text ≡ Some i)
    go None e h = absurd cc
    go (Some i) e h = (i, e)
