-- What is known of a tree tells its number.
use Rattle.std.proofs.lemmas.Bool.Decides.{nat_tests}
use Rattle.std.proofs.Common.{◌≡◌, refl, ap, ap₂, ◌∙◌, ℕ, ◌+◌, ◌-◌, ◌≤◌, ◌^◌, ◌==◌, ◌||◌, nat_le, nat_lt, Bool, true, false, if◌then◌else◌, Option, Some, None, option_map, arith}
use Rattle.std.specs.Prelude.{min}
use Rattle.p8_tree.specs.Expressions.{Tree, node, Number, Str, Strings, Here, Var, Call, Unary, Binary, Assign, Change, Address, ObjectAddress, ObjConst, Built, Look}
use Rattle.p8_words.specs.Operators.{unary_value, binary_value, or_zero}
use Rattle.p8_meaning.specs.Constants.{Constants, value_of_name, both, constant_value, number_length, unary_length, code_length, within}
use Rattle.p8_meaning.specs.declared.known.Numbers.{Numbers}
use Rattle.p8_meaning.specs.declared.known.Numbers.TheVariants.{Shorter, Kept}
use Rattle.p8_meaning.specs.declared.known.Known.{Known}
use Rattle.p8_meaning.specs.Known.{number_by, longer, known_number, known_before, known_between, known_of, shorter_known}

-- no number is longer than five bytes
by_test : (b : Bool) (n k : ℕ) → n ≤ 5 → k ≤ 5 → (if b then n else k) ≤ 5
by_test true n k h g = h
by_test false n k h g = g

short : (n : ℕ) → number_length n ≤ 5
short n =
    by_test (n == 0 || n == 1 || n == 2 ^ 32 - 1) 1 _ (omega arith)
    (by_test (nat_lt n (2 ^ 8)) 2 _ (omega arith) (by_test (nat_lt n (2 ^ 16)) 3 _ (omega arith) (by_test (nat_lt n (2 ^ 24)) 4 5 (omega arith) (omega arith))))

-- a value and a length
abbrev told : Option ℕ → ℕ → Option Known
told None n = None
told (Some v) n = Some (record { value = v; length = min n 5 })

abbrev measured : ℕ → ℕ → Option Known
measured v n = Some (record { value = v; length = n })

least : (v n k : ℕ) → n ≡ k → measured v n ≡ measured v k
least v n k h = ap (measured v) h

number-told : (o : Option ℕ) → known_number Shorter o ≡ told o (number_length (or_zero o))
number-told None = refl
number-told (Some v) = let h = short v in least v (number_length v) (min (number_length v) 5) (omega arith)

before-told : (operator : ℕ) (o : Option ℕ) (n : ℕ) → known_before operator (told o n) ≡ told (option_map (unary_value operator) o) (n + unary_length operator)
before-told operator None n = refl
before-told operator (Some v) n = least (unary_value operator v) (longer (min n 5) (unary_length operator)) (min (n + unary_length operator) 5) (omega arith)

between-told : (operator : ℕ) (o p : Option ℕ) (n k : ℕ) → known_between operator (told o n) (told p k) ≡ told (both o p (binary_value operator)) (n + k + 1)
between-told operator None p n k = refl
between-told operator (Some v) None n k = refl
between-told operator (Some v) (Some w) n k =
    least (binary_value operator v w) (longer (longer (min n 5) (min k 5)) 1) (min (n + k + 1) 5) (omega arith)

known-told : (c : Constants) (e : Tree) → known_of Shorter c e ≡ told (constant_value c e) (code_length c e)
known-told c (node place (Number n)) = number-told (Some n)
known-told c (node place (Var v)) = number-told (value_of_name c v)
known-told c (node place (ObjConst object name at)) = number-told (c.behind object name)
known-told c (node place (Unary operator e)) = ap (known_before operator) (known-told c e) ∙ before-told operator (constant_value c e) (code_length c e)
known-told c (node place (Binary operator a b)) =
    ap₂ (known_between operator) (known-told c a) (known-told c b) ∙ between-told operator (constant_value c a) (constant_value c b) (code_length c a) (code_length c b)
known-told c (node place (Str text)) = refl
known-told c (node place (Strings es)) = refl
known-told c (node place Here) = refl
known-told c (node place (Call stops object i method at arguments)) = refl
known-told c (node place (Assign v operator e)) = refl
known-told c (node place (Change v change)) = refl
known-told c (node place (Address v)) = refl
known-told c (node place (ObjectAddress e)) = refl
known-told c (node place (Built code arguments)) = refl
known-told c (node place (Look code e items)) = refl

-- of a tree that is kept nothing is known
known-kept : (c : Constants) (e : Tree) → known_of Kept c e ≡ None
known-kept c (node place (Number n)) = refl
known-kept c (node place (Var v)) = refl
known-kept c (node place (ObjConst object name at)) = refl
known-kept c (node place (Unary operator e)) = ap (known_before operator) (known-kept c e)
known-kept c (node place (Binary operator a b)) = ap (λ o. known_between operator o (known_of Kept c b)) (known-kept c a)
known-kept c (node place (Str text)) = refl
known-kept c (node place (Strings es)) = refl
known-kept c (node place Here) = refl
known-kept c (node place (Call stops object i method at arguments)) = refl
known-kept c (node place (Assign v operator e)) = refl
known-kept c (node place (Change v change)) = refl
known-kept c (node place (Address v)) = refl
known-kept c (node place (ObjectAddress e)) = refl
known-kept c (node place (Built code arguments)) = refl
known-kept c (node place (Look code e items)) = refl

same-test : (n k : ℕ) → n ≤ 5 → nat_le n (min k 5) ≡ nat_le n k
same-test n k h = grind (arith, nat_tests)

shorter-told : (o : Option ℕ) (n : ℕ) → shorter_known (told o n) ≡ within n o
shorter-told None n = refl
shorter-told (Some v) n = ap (λ b. if b then Some v else None) (same-test (number_length v) n (short v))

-- the number in place of a tree, by what is known of it
pub number-known : (numbers : Numbers) (c : Constants) (e : Tree) → shorter_known (known_of numbers c e) ≡ number_by numbers c e
number-known Shorter c e = ap shorter_known (known-told c e) ∙ shorter-told (constant_value c e) (code_length c e)
number-known Kept c e = ap shorter_known (known-kept c e)
