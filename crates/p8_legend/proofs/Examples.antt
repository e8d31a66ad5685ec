-- The lines of a small method, written by hand.
--
-- VAR
--   long a
-- PUB main | i
--   repeat i from 0 to 2
--     a := i
--   a := 0
use Rattle.std.proofs.Common.{◌≡◌, ℕ, List, [], ◌∷◌, Option, Some, None, refl}
use Rattle.std.specs.Prelude.{codes, if◌then◌else◌}
use Rattle.std.specs.Str.{bytes_eq}
use Rattle.p8_tree.specs.declared.places.Place.{Place}
use Rattle.p8_tree.specs.Expressions.{Tree, node, Number, Var, Assign, Named, Variable, no_index}
use Rattle.p8_tree.specs.Statements.{From, statement, Do, Repeat, Statements, no_statements, ◌▹◌}
use Rattle.p8_bytecode.specs.Table.{rows}
use Rattle.p8_kinds.specs.declared.name_kinds.NameKind.{NameKind}
use Rattle.p8_kinds.specs.declared.name_kinds.NameKind.TheVariants as kinds
use Rattle.p8_fold.specs.Meanings.{outside_operands}
use Rattle.p8_gen.specs.Methods.{bytes_of, method_code}
use Rattle.p8_gen.specs.Names.{Names, all_wide}

at : (line column : ℕ) → Place
at line column = record { line = line; column = column }

-- A is a long of VAR at 0, I a local at 4
kinds_here : List ℕ → Option NameKind
kinds_here name = if bytes_eq name (codes "A") then Some (kinds.Global 4 0) else if bytes_eq name (codes "I") then Some (kinds.Local 4) else None

names : Names
names = record { kind = kinds_here; public = λ i m. None; constants = record { name = λ n. None; constant = λ o c. None; here = outside_operands None }; label = λ n. 0; text = λ q. 0; wide = all_wide; statement = at 3 5 }

named : List ℕ → Variable
named n = Named n no_index (at 0 0)

number : ℕ → Tree
number v = node (at 0 0) (Number v)

assigns : Tree → Tree
assigns e = node (at 0 0) (Assign (named (codes "A")) None e)

counts : Statements
counts =
    no_statements
    ▹ statement (at 4 3) (Repeat (From (codes "I") (number 0) (number 2) None (at 4 10)) (no_statements ▹ statement (at 5 5) (Do (assigns (node (at 5 10) (Var (named (codes "I"))))))))
    ▹ statement (at 6 3) (Do (assigns (number 0)))

its_bytes : bytes_of (method_code names counts) ≡ 0x35 ∷ 0x65 ∷ 0x64 ∷ 0x41 ∷ 0x35 ∷ 0x38 ∷ 2 ∷ 0x66 ∷ 2 ∷ 0xFF ∷ 0xF7 ∷ 0x35 ∷ 0x41 ∷ 0x32 ∷ []
unfolding names kinds_here at named number assigns counts rows
its_bytes = refl

-- the loop's step is made from the REPEAT again, and the RETURN from the method
its_lines : (method_code names counts).lines ≡
    (0, at 4 3) ∷ (1, at 4 3) ∷ (2, at 5 5) ∷ (3, at 5 5) ∷ (4, at 4 3) ∷ (5, at 4 3) ∷ (7, at 4 3) ∷ (11, at 6 3) ∷ (12, at 6 3) ∷ (13, at 3 5) ∷ []
unfolding names kinds_here at named number assigns counts rows
its_lines = refl
