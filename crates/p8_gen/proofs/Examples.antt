-- The code of small statements.
use Rattle.std.proofs.Common.{◌≡◌, ℕ, List, [], ◌∷◌, Option, Some, None, refl}
use Rattle.std.specs.Prelude.{codes, flat_map, if◌then◌else◌}
use Rattle.std.specs.Str.{bytes_eq}
use Rattle.p8_tree.specs.declared.places.Place.{Place}
use Rattle.p8_tree.specs.Expressions.{Tree, node, Number, Var, Binary, Assign, Named, Variable, no_index, index}
use Rattle.p8_tree.specs.Statements.{Forever, From, statement, Action, Do, Repeat, Return, Statements, no_statements, ◌▹◌}
use Rattle.p8_kinds.specs.declared.name_kinds.NameKind.{NameKind}
use Rattle.p8_kinds.specs.declared.name_kinds.NameKind.TheVariants as kinds
use Rattle.p8_bytecode.specs.Spelling.{spelled}
use Rattle.p8_bytecode.specs.Table.{rows}
use Rattle.p8_fold.specs.Meanings.{outside_operands}
use Rattle.p8_gen.specs.Names.{Names, all_wide}
use Rattle.p8_gen.specs.Pieces.{Piece, empty, ◌⨾◌, byte}
use Rattle.p8_gen.specs.Statements.{body}

p : Place
p = record { line = 1; column = 1 }

-- A is a long of VAR at 0, I a local at 4, MAIN the method 1, F 2 and G 3
kinds_here : List ℕ → Option NameKind
kinds_here name =
    if bytes_eq name (codes "A") then Some (kinds.Global 4 0)
    else if bytes_eq name (codes "I") then Some (kinds.Local 4)
    else if bytes_eq name (codes "F") then Some (kinds.Method 2 0)
    else if bytes_eq name (codes "G") then Some (kinds.Method 3 0)
    else None

names : Names
names = record { kind = kinds_here; public = λ i m. None; constants = record { name = λ n. None; constant = λ o c. None; here = outside_operands None }; label = λ n. 0; text = λ q. 0; wide = all_wide; statement = p }

bytes_of : Piece → List ℕ
bytes_of piece = flat_map spelled (piece empty).ops

code_of_body : Statements → List ℕ
code_of_body ss = bytes_of (body names None ss ⨾ byte 0x32)

line : Action → Statements
line a = no_statements ▹ statement p a

named : List ℕ → Variable
named n = Named n no_index p

var : List ℕ → Tree
var n = node p (Var (named n))

number : ℕ → Tree
number v = node p (Number v)

-- repeat
forever : code_of_body (line (Repeat Forever no_statements)) ≡ 0x04 ∷ 0xFF ∷ 0xFD ∷ 0x32 ∷ []
unfolding names kinds_here p bytes_of code_of_body line rows
forever = refl

-- repeat
--   repeat
--     return
never_twice : code_of_body (line (Repeat Forever (line (Repeat Forever (line (Return None))))))
    ≡ 0x32 ∷ 0x04 ∷ 0xFF ∷ 0xFC ∷ 0x04 ∷ 0xFF ∷ 0xF9 ∷ 0x32 ∷ []
unfolding names kinds_here p bytes_of code_of_body line rows
never_twice = refl

-- a := 2 + 3 * 4
sum : code_of_body (line (Do (node p (Assign (named (codes "A")) None (node p (Binary 0xEC (number 2) (node p (Binary 0xF4 (number 3) (number 4)))))))))
    ≡ 0x38 ∷ 2 ∷ 0x38 ∷ 3 ∷ 0x38 ∷ 4 ∷ 0xF4 ∷ 0xEC ∷ 0x41 ∷ 0x32 ∷ []
unfolding names kinds_here p bytes_of code_of_body line named number rows
sum = refl

-- a[f] := g
indexed : code_of_body (line (Do (node p (Assign (Named (codes "A") (index (var (codes "F"))) p) None (var (codes "G"))))))
    ≡ 0 ∷ 5 ∷ 3 ∷ 0 ∷ 5 ∷ 2 ∷ 0xD9 ∷ 0 ∷ 0x32 ∷ []
unfolding names kinds_here p bytes_of code_of_body line named number var rows
indexed = refl

-- repeat i from 0 to 2
--   a := i
counting : code_of_body (line (Repeat (From (codes "I") (number 0) (number 2) None p) (line (Do (node p (Assign (named (codes "A")) None (var (codes "I"))))))))
    ≡ 0x35 ∷ 0x65 ∷ 0x64 ∷ 0x41 ∷ 0x35 ∷ 0x38 ∷ 0x02 ∷ 0x66 ∷ 0x02 ∷ 0xFF ∷ 0xF7 ∷ 0x32 ∷ []
unfolding names kinds_here p bytes_of code_of_body line named number var rows
counting = refl
