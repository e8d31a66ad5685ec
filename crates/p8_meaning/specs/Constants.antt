-- Constant trees: those of numbers, constants, unary and binary operators alone. Their values, and how long their code is.
-- Sources: the Propeller Manual v1.2, "CON" and "Operators" of the Spin chapter, and the public Spin bytecode listing of the Propeller
-- P8X32A; the result of a zero divisor and the choice of the shortest form of a number are this project's profile.
use Rattle.std.specs.Prelude.{ℕ, ◌+◌, ◌-◌, ◌^◌, ◌==◌, ◌||◌, nat_lt, nat_le, List, Option, Some, None, option_map, if◌then◌else◌}
use Rattle.p8_tree.specs.Expressions.{Tree, node, Number, Var, Unary, Binary, ObjConst, Variable, Named, no_index}
use Rattle.p8_words.specs.Operators.{unary_value, binary_value, or_zero}
use Rattle.p8_fold.specs.declared.meanings.Meaning.{Meaning}
use Rattle.p8_fold.specs.declared.meanings.Meaning.TheVariants.{Value, Object}
use Rattle.p8_fold.specs.Meanings.{Setting, meaning_of}

-- ---- names

-- the values of a file's constants: of those that stand alone, and of those behind an object's name and `#`
pub record Constants : Type 0 where
  pub named : (name : List ℕ) → Option ℕ
  pub behind : (object name : List ℕ) → Option ℕ

-- of what names mean, constants alone have a value that stays
abbrev pub value_meant : Option Meaning → Option ℕ
value_meant (Some (Value v)) = Some v
value_meant m = None

abbrev pub value_behind : (object constant : Option Meaning) → Option ℕ
value_behind (Some Object) constant = value_meant constant
value_behind object constant = None

-- the constants among what names mean
abbrev pub constants_in : Setting → Constants
constants_in s = record {
  named = λ name. value_meant (meaning_of s name);
  behind = λ object name. value_behind (meaning_of s object) (s.constant object name);
}

-- ---- values

-- where both have a value
abbrev pub both : Option ℕ → Option ℕ → (ℕ → ℕ → ℕ) → Option ℕ
both (Some a) (Some b) f = Some (f a b)
both a b f = None

-- a name alone
abbrev pub value_of_name : Constants → Variable → Option ℕ
value_of_name c (Named name no_index at) = c.named name
value_of_name c v = None

-- the value of a constant tree; other trees have none. CONSTANT isn't looked into.
abbrev pub constant_value : Constants → Tree → Option ℕ
constant_value c (node place (Number n)) = Some n
constant_value c (node place (Var v)) = value_of_name c v
constant_value c (node place (ObjConst object name at)) = c.behind object name
constant_value c (node place (Unary operator e)) = option_map (unary_value operator) (constant_value c e)
constant_value c (node place (Binary operator a b)) = both (constant_value c a) (constant_value c b) (binary_value operator)
constant_value c e = None

-- ---- lengths of code, in bytes

-- a number: 0, 1 and -1 have a bytecode of their own, and the others stand in the bytes behind one
abbrev pub number_length : ℕ → ℕ
number_length n =
    if n == 0 || n == 1 || n == 2 ^ 32 - 1 then 1
    else if nat_lt n (2 ^ 8) then 2
    else if nat_lt n (2 ^ 16) then 3
    else if nat_lt n (2 ^ 24) then 4
    else 5

-- an operator has a byte, but for the sign `+`, which has none
abbrev pub unary_length : (operator : ℕ) → ℕ
unary_length operator = if operator == 0xEC then 0 else 1

-- the code of a constant tree, as it stands
abbrev pub code_length : Constants → Tree → ℕ
code_length c (node place (Number n)) = number_length n
code_length c (node place (Var v)) = number_length (or_zero (value_of_name c v))
code_length c (node place (ObjConst object name at)) = number_length (or_zero (c.behind object name))
code_length c (node place (Unary operator e)) = code_length c e + unary_length operator
code_length c (node place (Binary operator a b)) = code_length c a + code_length c b + 1
code_length c e = 0

-- ---- the number that a tree becomes

-- a value whose code as a number is at most so long
abbrev pub within : (room : ℕ) → Option ℕ → Option ℕ
within room None = None
within room (Some v) = if nat_le (number_length v) room then Some v else None

-- the value of a constant tree, where the number's code isn't longer than the tree's
abbrev pub shorter_number : Constants → Tree → Option ℕ
shorter_number c e = within (code_length c e) (constant_value c e)
