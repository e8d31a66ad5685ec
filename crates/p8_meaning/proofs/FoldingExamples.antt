-- Trees and what becomes of them, by computation.
use Rattle.std.proofs.Common.{◌≡◌, refl, ℕ, Bool, true, false, List, Some, None}
use Rattle.std.specs.Prelude.{codes, if◌then◌else◌}
use Rattle.std.specs.Str.{bytes_eq}
use Rattle.p8_tree.specs.declared.places.Place.{Place}
use Rattle.p8_tree.specs.Expressions as expressions
use Rattle.p8_tree.specs.Expressions.{Tree, node, Str, Strings, Var, Unary, Binary, Built, Change, Named, no_index, no_trees, ◌▷◌, single, no_items, ◌▸◌}
use Rattle.p8_tree.specs.Statements.{statement, Action, Do, If, Repeat, Next, Forever, Count, Before, After, Arm, arm, nothing_else, otherwise, Statements, no_statements, ◌▹◌, no_arms, ◌⊳◌}
use Rattle.p8_words.specs.Operators.{unary_values, binary_values}
use Rattle.p8_meaning.specs.Constants.{Constants}
use Rattle.p8_meaning.specs.Folding.{folded, folded_body}

abbrev here : Place
here = record { line = 1; column = 1 }

-- K is 3
abbrev three : Constants
three = record { named = λ name. if bytes_eq name (codes "K") then Some 3 else None; behind = λ object name. None }

abbrev number : ℕ → Tree
number n = node here (expressions.Number n)

abbrev name : List ℕ → Tree
name letters = node here (Var (Named letters no_index here))

abbrev before : ℕ → Tree → Tree
before operator e = node here (Unary operator e)

abbrev between : ℕ → Tree → Tree → Tree
between operator a b = node here (Binary operator a b)

-- ---- expressions

-- 2 + 3 * 4 is 14
product : folded three (between 0xEC (number 2) (between 0xF4 (number 3) (number 4))) ≡ number 14
unfolding binary_values
product = refl

-- the number of -5 takes five bytes and its code three
negative : folded three (before 0xE6 (number 5)) ≡ before 0xE6 (number 5)
unfolding unary_values
negative = refl

-- that of -1 takes one
minus_one : folded three (before 0xE6 (number 1)) ≡ number 4294967295
unfolding unary_values
minus_one = refl

-- the sign `+` has no byte, so -(+300) has four bytes; its number has five, and that of +300 three
signed : folded three (before 0xE6 (before 0xEC (number 300))) ≡ before 0xE6 (number 300)
unfolding unary_values
signed = refl

-- a zero divisor gives 0
divided : folded three (between 0xF6 (number 7) (number 0)) ≡ number 0
unfolding binary_values
divided = refl

-- a constant is its number, a variable stays, and nothing is taken out of a longer sum
sum : folded three (between 0xEC (between 0xEC (name (codes "X")) (number 2)) (name (codes "K"))) ≡ between 0xEC (between 0xEC (name (codes "X")) (number 2)) (number 3)
unfolding binary_values
sum = refl

-- what stands in CONSTANT stays
inside : folded three (node here (Built 0 (no_trees ▷ between 0xEC (number 1) (number 1)))) ≡ node here (Built 0 (no_trees ▷ between 0xEC (number 1) (number 1)))
inside = refl

-- so do the items of STRING
items : folded three (node here (Strings (no_trees ▷ node here (Str (codes "ab")) ▷ between 0xEC (number 1) (number 1)))) ≡ node here (Strings (no_trees ▷ node here (Str (codes "ab")) ▷ between 0xEC (number 1) (number 1)))
items = refl

-- ---- statements

abbrev act : Action → Statements
act action = no_statements ▹ statement here action

-- A is changed
abbrev changes : Statements
changes = act (Do (node here (Change (Named (codes "A") no_index here) 0x28)))

abbrev goes_on : Statements
goes_on = act Next

abbrev when : Bool → Tree → Statements → Arm
when negated e body = arm (no_items ▸ single e) negated body

never : folded_body three (act (If (no_arms ⊳ when false (number 0) changes) nothing_else)) ≡ no_statements
never = refl

-- IF -5, whose test is no number after folding
always : folded_body three (act (If (no_arms ⊳ when false (before 0xE6 (number 5)) changes) (otherwise goes_on))) ≡ changes
unfolding unary_values
always = refl

not_never : folded_body three (act (If (no_arms ⊳ when true (number 0) changes) nothing_else)) ≡ changes
not_never = refl

not_always : folded_body three (act (If (no_arms ⊳ when true (name (codes "K")) changes) (otherwise goes_on))) ≡ goes_on
not_always = refl

-- an arm between others that is always chosen becomes the body of ELSE, also where it is empty
chain : folded_body three (act (If (no_arms ⊳ when false (name (codes "X")) changes ⊳ when false (number 1) no_statements ⊳ when false (name (codes "Y")) goes_on) (otherwise changes)))
    ≡ act (If (no_arms ⊳ when false (name (codes "X")) changes) (otherwise no_statements))
chain = refl

none_counted : folded_body three (act (Repeat (Count (between 0xED (name (codes "K")) (number 3))) changes)) ≡ no_statements
unfolding binary_values
none_counted = refl

until_zero : folded_body three (act (Repeat (Before true (number 0)) changes)) ≡ act (Repeat Forever changes)
until_zero = refl

-- what REPEAT tests is a number after folding, and -5 isn't
while_negative : folded_body three (act (Repeat (Before false (before 0xE6 (number 5))) changes)) ≡ act (Repeat (Before false (before 0xE6 (number 5))) changes)
unfolding unary_values
while_negative = refl

-- a test behind the body stays
behind : folded_body three (act (Repeat (After false (between 0xEC (number 1) (number 1))) changes)) ≡ act (Repeat (After false (number 2)) changes)
unfolding binary_values
behind = refl
