-- What the loops over the phrases of a row do at each.
use Rattle.std.specs.Prelude.{◌≡◌, List, ◌∷◌, Option, None, Some, true, false, refl}
use Rattle.std.proofs.Common.{ap, sym, ◌∙◌}
use Rattle.p8_tree.specs.Expressions.{Tree, Items, ◌▸◌, single, range}
use Rattle.p8_lexer.specs.Pieces.{Piece, word, tree}
use Rattle.p8_statements.specs.declared.role.Role.{Role}
use Rattle.p8_statements.specs.declared.role.Role.TheVariants as role
use Rattle.p8_statements.specs.Roles.{is_dot_dot}
use Rattle.p8_statements.specs.Rows.{Reading, phrase}
use Rattle.p8_statements.specs.Statements.{test, behind_value, tests_after}
use Rattle.p8_statements.specs.Views.{behind_test}

abbrev tests_by : Items → Option Tree → Reading (Tree × Role) → Option Items
tests_by xs low None = None
tests_by xs low (Some (x, row)) = behind_value x.1 low (xs ▸ test low x.0) row (tests_after (xs ▸ test low x.0) None row) (tests_after xs (Some x.0) row)

tests_unfold : (xs : Items) (low : Option Tree) (row : List Piece) → tests_after xs low row ≡ tests_by xs low (phrase row)
tests_unfold xs low (tree e p ∷ word w q ∷ row) = refl
tests_unfold xs low _ = refl

tests_read : (xs : Items) (low : Option Tree) (row rest : List Piece) (e : Tree) (r : Role) → Some ((e, r), rest) ≡ phrase row → tests_after xs low row ≡ behind_value r low (xs ▸ test low e) rest (tests_after (xs ▸ test low e) None rest) (tests_after xs (Some e) rest)
tests_read xs low row rest e r h = tests_unfold xs low row ∙ ap (tests_by xs low) (sym h)

single_behind : (r : Role) (xs : Items) (row : List Piece) (further last : Option Items) → is_dot_dot r ≡ false → behind_value r None xs row further last ≡ behind_test r xs row further
single_behind role.DotDot xs row further last h = cc
single_behind _ xs row further last h = refl

range_behind : (r : Role) (low : Tree) (xs : Items) (row : List Piece) (further last : Option Items) → behind_value r (Some low) xs row further last ≡ behind_test r xs row further
range_behind role.DotDot low xs row further last = refl
range_behind _ low xs row further last = refl

-- a value with no `..` after it is a test
pub single_read : (xs : Items) (row rest : List Piece) (e : Tree) (r : Role) → Some ((e, r), rest) ≡ phrase row → is_dot_dot r ≡ false → tests_after xs None row ≡ behind_test r (xs ▸ single e) rest (tests_after (xs ▸ single e) None rest)
single_read xs row rest e r h stops = tests_read xs None row rest e r h ∙ single_behind r (xs ▸ single e) rest (tests_after (xs ▸ single e) None rest) (tests_after xs (Some e) rest) stops

dots_behind : (r : Role) (xs : Items) (row : List Piece) (further last : Option Items) → is_dot_dot r ≡ true → behind_value r None xs row further last ≡ last
dots_behind role.DotDot xs row further last h = refl
dots_behind _ xs row further last h = cc

-- a value with `..` after it is the first of a range
pub low_read : (xs : Items) (row rest : List Piece) (e : Tree) (r : Role) → Some ((e, r), rest) ≡ phrase row → is_dot_dot r ≡ true → tests_after xs None row ≡ tests_after xs (Some e) rest
low_read xs row rest e r h goes = tests_read xs None row rest e r h ∙ dots_behind r (xs ▸ single e) rest (tests_after (xs ▸ single e) None rest) (tests_after xs (Some e) rest) goes

-- a value after the first of a range ends it
pub range_read : (xs : Items) (low : Tree) (row rest : List Piece) (e : Tree) (r : Role) → Some ((e, r), rest) ≡ phrase row → tests_after xs (Some low) row ≡ behind_test r (xs ▸ range low e) rest (tests_after (xs ▸ range low e) None rest)
range_read xs low row rest e r h = tests_read xs (Some low) row rest e r h ∙ range_behind r low (xs ▸ range low e) rest (tests_after (xs ▸ range low e) None rest) (tests_after xs (Some e) rest)
