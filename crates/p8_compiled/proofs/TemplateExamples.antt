-- The code of small statements by several choices of wide jumps.
use Rattle.std.proofs.Common.{◌≡◌, ℕ, ◌==◌, Bool, true, false, List, [], ◌∷◌, Option, Some, None, refl}
use Rattle.std.specs.Prelude.{codes, if◌then◌else◌}
use Rattle.std.specs.Str.{bytes_eq}
use Rattle.p8_tree.specs.declared.places.Place.{Place}
use Rattle.p8_tree.specs.Expressions.{Tree, node, Number, Var, Assign, Named, Variable, no_index, single, no_items, ◌▸◌}
use Rattle.p8_tree.specs.Statements.{Forever, From, statement, Action, Do, Case, Repeat, Return, arm, nothing_else, Statements, no_statements, ◌▹◌, no_arms, ◌⊳◌}
use Rattle.p8_bytecode.specs.Table.{rows}
use Rattle.p8_kinds.specs.declared.name_kinds.NameKind.{NameKind}
use Rattle.p8_kinds.specs.declared.name_kinds.NameKind.TheVariants as kinds
use Rattle.p8_fold.specs.Meanings.{outside_operands}
use Rattle.p8_gen.specs.Methods.{bytes_of, method_code}
use Rattle.p8_gen.specs.Names.{Names}
use Rattle.p8_gen.specs.Pieces.{is_near}

p : Place
p = record { line = 1; column = 1 }

-- A is a long of VAR at 0, I a local at 4
kinds_here : List ℕ → Option NameKind
kinds_here name = if bytes_eq name (codes "A") then Some (kinds.Global 4 0) else if bytes_eq name (codes "I") then Some (kinds.Local 4) else None

names : (ℕ → Bool) → Names
names wide = record { kind = kinds_here; public = λ i m. None; constants = record { name = λ n. None; constant = λ o c. None; here = outside_operands None }; label = λ n. 0; text = λ q. 0; wide = wide; statement = p }

none_wide : ℕ → Bool
none_wide n = false

only : ℕ → ℕ → Bool
only k n = n == k

line : Action → Statements
line a = no_statements ▹ statement p a

named : List ℕ → Variable
named n = Named n no_index p

var : List ℕ → Tree
var n = node p (Var (named n))

number : ℕ → Tree
number v = node p (Number v)

-- repeat
forever : bytes_of (method_code (names none_wide) (line (Repeat Forever no_statements))) ≡ 0x04 ∷ 0x7E ∷ 0x32 ∷ []
unfolding names kinds_here p none_wide line rows
forever = refl

-- repeat
--   repeat
--     return
never_twice : Statements
never_twice = line (Repeat Forever (line (Repeat Forever (line (Return None)))))

both_narrow : bytes_of (method_code (names none_wide) never_twice) ≡ 0x32 ∷ 0x04 ∷ 0x7D ∷ 0x04 ∷ 0x7B ∷ 0x32 ∷ []
unfolding names kinds_here p none_wide line never_twice rows
both_narrow = refl

inner_wide : bytes_of (method_code (names (only 0)) never_twice) ≡ 0x32 ∷ 0x04 ∷ 0xFF ∷ 0xFC ∷ 0x04 ∷ 0x7A ∷ 0x32 ∷ []
unfolding names kinds_here p only line never_twice rows
inner_wide = refl

outer_wide : bytes_of (method_code (names (only 1)) never_twice) ≡ 0x32 ∷ 0x04 ∷ 0x7D ∷ 0x04 ∷ 0xFF ∷ 0xFA ∷ 0x32 ∷ []
unfolding names kinds_here p only line never_twice rows
outer_wide = refl

outer_ways : (method_code (names (only 1)) never_twice).ways ≡ (3, 0) ∷ (6, 0) ∷ []
unfolding names kinds_here p only line never_twice rows
outer_ways = refl

-- repeat i from 0 to 2
--   a := i
counting : bytes_of (method_code (names none_wide) (line (Repeat (From (codes "I") (number 0) (number 2) None p) (line (Do (node p (Assign (named (codes "A")) None (var (codes "I")))))))))
    ≡ 0x35 ∷ 0x65 ∷ 0x64 ∷ 0x41 ∷ 0x35 ∷ 0x38 ∷ 0x02 ∷ 0x66 ∷ 0x02 ∷ 0x78 ∷ 0x32 ∷ []
unfolding names kinds_here p none_wide line named number var rows
counting = refl

-- case a
--   1: return
--   2: return
-- The jumps of the two tests are 0 and 1, that past the bodies 2, and those at the bodies' ends 3 and 4. With 3 wide, the second body
-- stands one byte further on.
choosing : bytes_of (method_code (names (only 3)) (line (Case (var (codes "A"))
    (no_arms ⊳ arm (no_items ▸ single (number 1)) false (line (Return None)) ⊳ arm (no_items ▸ single (number 2)) false (line (Return None))) nothing_else)))
    ≡ 0x40 ∷ 0x36 ∷ 0x0D ∷ 0x07 ∷ 0x38 ∷ 0x02 ∷ 0x0D ∷ 0x08 ∷ 0x0C ∷ 0x04 ∷ 0x09 ∷ 0x0C ∷ 0x32 ∷ 0x04 ∷ 0x80 ∷ 0x04 ∷ 0x0C ∷ 0x32 ∷ 0x04 ∷ 0x00 ∷ 0x32 ∷ []
unfolding names kinds_here p only line named number var rows
choosing = refl

-- an offset of one byte is one of -64 to 63
back_64 : is_near false 64 0 ≡ true
back_64 = refl

back_65 : is_near false 65 0 ≡ false
back_65 = refl

ahead_63 : is_near false 0 63 ≡ true
ahead_63 = refl

ahead_64 : is_near false 0 64 ≡ false
ahead_64 = refl
