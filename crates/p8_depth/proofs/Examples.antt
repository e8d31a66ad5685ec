-- The paths of small methods, and what they hold.
use Rattle.std.proofs.Common.{◌≡◌, refl, ℕ, zero, suc, max, ◌==◌, ◌&&◌, ◌||◌, Bool, true, false, List, [], ◌∷◌, ◌++◌, if◌then◌else◌, Option, Some, None}
use Rattle.std.specs.Prelude.{codes}
use Rattle.std.specs.Str.{bytes_eq}
use Rattle.p8_tree.specs.declared.places.Place.{Place}
use Rattle.p8_tree.specs.Expressions.{Tree, node, Number, Var, Call, Binary, Assign, Look, Built, Named, no_index, Trees, no_trees, ◌▷◌, no_items, ◌▸◌, single, range}
use Rattle.p8_tree.specs.Statements.{Forever, Count, After, From, statement, Action, Do, If, Case, Repeat, Next, Quit, Return, Abort, arm, nothing_else, otherwise, Statements, no_statements, ◌▹◌, no_arms, ◌⊳◌}
use Rattle.p8_kinds.specs.declared.name_kinds.NameKind.{NameKind}
use Rattle.p8_kinds.specs.declared.name_kinds.NameKind.TheVariants as kinds
use Rattle.p8_fold.specs.Meanings.{outside_operands}
use Rattle.p8_bytecode.specs.Table.{rows}
use Rattle.p8_gen.specs.Names.{Names, all_wide}
use Rattle.p8_gen.specs.Methods.{method_code, bytes_of}
use Rattle.p8_gen.specs.Depths.{held_in}
use Rattle.p8_depth.specs.Stack as stack
use Rattle.p8_depth.specs.Stack.{Stack, holds}
use Rattle.p8_depth.specs.Paths.{onward_from}
use Rattle.p8_depth.specs.Entries.{entries_of_method}

p : Place
p = record { line = 1; column = 1 }

kinds_here : List ℕ → Option NameKind
kinds_here name =
    if bytes_eq name (codes "A") then Some (kinds.Global 4 0)
    else if bytes_eq name (codes "I") then Some (kinds.Local 4)
    else if bytes_eq name (codes "F") then Some (kinds.Method 2 2)
    else None

names : Names
names = record { kind = kinds_here; public = λ i m. None; constants = record { name = λ n. None; constant = λ o c. None; here = outside_operands None }; label = λ n. 0; text = λ q. 0; wide = all_wide; statement = p }

-- ---- all that paths of so many bytecodes come to

is_there : List (ℕ × Stack) → ℕ × Stack → Bool
is_there [] x = false
is_there (y ∷ ys) x = (y.0 == x.0 && y.1.longs == x.1.longs) || is_there ys x

-- the new ones among these
fresh : List (ℕ × Stack) → List (ℕ × Stack) → List (ℕ × Stack)
fresh seen [] = []
fresh seen (x ∷ xs) = if is_there seen x then fresh seen xs else x ∷ fresh (x ∷ seen) xs

onward_all : List ℕ → List (ℕ × Stack) → List (ℕ × Stack)
onward_all bytes [] = []
onward_all bytes (x ∷ xs) = onward_from bytes x.0 x.1 ++ onward_all bytes xs

reached : (bytes : List ℕ) (seen new : List (ℕ × Stack)) → ℕ → List (ℕ × Stack)
reached bytes seen new zero = seen
reached bytes seen [] (suc more) = seen
reached bytes seen (x ∷ xs) (suc more) = let now = fresh seen (onward_all bytes (x ∷ xs)) in reached bytes (now ++ seen) now more

begun : List (ℕ × ℕ) → List (ℕ × Stack)
begun [] = []
begun (x ∷ xs) = (x.0, holds x.1 []) ∷ begun xs

most : List (ℕ × Stack) → ℕ
most [] = 0
most (x ∷ xs) = max x.1.longs (most xs)

-- each place has one stack
one_each : List (ℕ × Stack) → Bool
one_each [] = true
one_each (x ∷ xs) = go xs && one_each xs
  where
    go : List (ℕ × Stack) → Bool
    go [] = true
    go (y ∷ ys) = (if y.0 == x.0 then y.1.longs == x.1.longs else true) && go ys

all_of : Statements → List (ℕ × Stack)
all_of ss = let first = fresh [] (begun (entries_of_method names ss)) in reached (bytes_of (method_code names ss)) first first 60

-- what a method holds at most along paths, what it is said to hold, and whether each place has one stack
told : Statements → ℕ × ℕ × Bool
told ss = (most (all_of ss), held_in names ss, one_each (all_of ss))

-- ---- methods

line : Action → Statements
line a = no_statements ▹ statement p a

number : ℕ → Tree
number v = node p (Number v)

var : List ℕ → Tree
var n = node p (Var (Named n no_index p))

sum : Tree → Tree → Tree
sum a b = node p (Binary 0xEC a b)

set : Tree → Action
set e = Do (node p (Assign (Named (codes "A") no_index p) None e))

deep : Tree
deep = sum (number 1) (sum (number 2) (sum (number 3) (number 4)))

two : Tree
two = sum (number 1) (number 2)

call : Trees → Tree
call args = node p (Call false None no_index (codes "F") p args)

behind : Statements → Action → Statements
behind ss a = ss ▹ statement p a

-- repeat 3: quit, a := 1 + (2 + (3 + 4))
behind_quit : told (line (Repeat (Count (number 3)) (behind (line Quit) (set deep)))) ≡ (5, 5, true)
unfolding p kinds_here names is_there fresh onward_all reached begun most one_each all_of told line number var sum set deep two call behind rows stack.rows
behind_quit = refl

-- case 1: 1: a := deep, 2..3: a := 1, other: a := 2
with_other : told (line (Case (number 1) (no_arms ⊳ arm (no_items ▸ single two) false (line (set deep)) ⊳ arm (no_items ▸ range (number 2) deep) false (line (set (number 1)))) (otherwise (line (set (number 2)))))) ≡ (6, 6, true)
unfolding p kinds_here names is_there fresh onward_all reached begun most one_each all_of told line number var sum set deep two call behind rows stack.rows
with_other = refl

-- repeat 3: next, a := deep
behind_next : told (line (Repeat (Count (number 3)) (behind (line Next) (set deep)))) ≡ (5, 5, true)
unfolding p kinds_here names is_there fresh onward_all reached begun most one_each all_of told line number var sum set deep two call behind rows stack.rows
behind_next = refl

-- repeat 3: return deep, a := 1
returned : told (line (Repeat (Count (number 3)) (behind (line (Return (Some deep))) (set (number 1))))) ≡ (5, 5, true)
unfolding p kinds_here names is_there fresh onward_all reached begun most one_each all_of told line number var sum set deep two call behind rows stack.rows
returned = refl

-- abort, a := deep
aborted : told (behind (line (Abort None)) (set deep)) ≡ (4, 4, true)
unfolding p kinds_here names is_there fresh onward_all reached begun most one_each all_of told line number var sum set deep two call behind rows stack.rows
aborted = refl

-- repeat 3: repeat 2: quit, case 1: 2: next, a := deep; a := 1
nested : told (line (Repeat (Count (number 3)) (behind (line (Repeat (Count (number 2)) (behind (line Quit) (Case (number 1) (no_arms ⊳ arm (no_items ▸ single (number 2)) false (behind (line Next) (set deep))) nothing_else)))) (set (number 1))))) ≡ (6, 6, true)
unfolding p kinds_here names is_there fresh onward_all reached begun most one_each all_of told line number var sum set deep two call behind rows stack.rows
nested = refl

-- repeat: return, while deep
test_behind : told (line (Repeat (After false deep) (line (Return None)))) ≡ (4, 4, true)
unfolding p kinds_here names is_there fresh onward_all reached begun most one_each all_of told line number var sum set deep two call behind rows stack.rows
test_behind = refl

-- repeat i from 1 to 2 step deep: return, and a := 1
steps : told (behind (line (Repeat (From (codes "I") (number 1) two (Some deep) p) (line (Return None)))) (set (number 1))) ≡ (4, 4, true)
unfolding p kinds_here names is_there fresh onward_all reached begun most one_each all_of told line number var sum set deep two call behind rows stack.rows
steps = refl

-- repeat 3: if 1: quit, elseif deep: next, else a := 1
chains : told (line (Repeat (Count (number 3)) (line (If (no_arms ⊳ arm (no_items ▸ single (number 1)) false (line Quit) ⊳ arm (no_items ▸ single deep) true (line Next)) (otherwise (line (set (number 1)))))))) ≡ (5, 5, true)
unfolding p kinds_here names is_there fresh onward_all reached begun most one_each all_of told line number var sum set deep two call behind rows stack.rows
chains = refl

-- f(1, deep), a := f(f(1, 2), lookup(1: 2, 3..deep))
calls : told (behind (line (Do (call (no_trees ▷ number 1 ▷ deep)))) (set (call (no_trees ▷ call (no_trees ▷ number 1 ▷ number 2) ▷ node p (Look 0x10 (number 1) (no_items ▸ single (number 2) ▸ range (number 3) deep)))))) ≡ (8, 8, true)
unfolding p kinds_here names is_there fresh onward_all reached begun most one_each all_of told line number var sum set deep two call behind rows stack.rows
calls = refl

-- cognew(f(1, 2), deep)
starts : told (line (Do (node p (Built 0x2C (no_trees ▷ call (no_trees ▷ number 1 ▷ number 2) ▷ deep))))) ≡ (7, 7, true)
unfolding p kinds_here names is_there fresh onward_all reached begun most one_each all_of told line number var sum set deep two call behind rows stack.rows
starts = refl

-- repeat, a := deep
never_ends : told (behind (line (Repeat Forever no_statements)) (set deep)) ≡ (4, 4, true)
unfolding p kinds_here names is_there fresh onward_all reached begun most one_each all_of told line number var sum set deep two call behind rows stack.rows
never_ends = refl
