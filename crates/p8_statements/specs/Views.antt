-- internal: what the code's values stand for.
use Rattle.std.specs.Prelude.{if◌then◌else◌, List, Option, None, Some, option_map}
use Rattle.p8_tree.specs.Expressions.{Tree, Items, ◌▸◌}
use Rattle.p8_tree.specs.Views.{tree_of, item_of}
use Rattle.std.specs.Vec.Iter.{into_iter_items}
use Rattle.p8_lexer.specs.Pieces.{Piece, pieces_of}
use Rattle.p8_statements.specs.declared.role.Role.{Role}
use Rattle.p8_statements.specs.declared.statement_pieces.StatementPieces.{StatementPieces}
use Rattle.p8_statements.specs.declared.statement_pieces.Phrase.{Phrase}
use Rattle.p8_statements.specs.declared.statements.Tested.{Tested}
use Rattle.p8_statements.specs.Roles.{is_comma}
use Rattle.p8_statements.specs.Rows.{Reading}
use Rattle.p8_statements.specs.Statements.{is_last_colon, tests_after}

-- what is left of a row
abbrev pub rest_of : StatementPieces → List Piece
rest_of r = pieces_of (into_iter_items r.pieces)

-- what was read, with the rest of the row
abbrev pub reading : {X Y : Type 0} → (X → Y) → Option X → StatementPieces → Reading Y
reading view o r = option_map (λ x. (view x, rest_of r)) o

abbrev pub phrase_of : Phrase → Tree × Role
phrase_of x = (tree_of x.tree, x.behind)

-- what stands after a test: a further one, or the end
abbrev pub behind_test : Role → Items → List Piece → Option Items → Option Items
behind_test r xs row further = if is_comma r then further else if is_last_colon r row then Some xs else None

-- what the tests are from here on, where this is the next one, if any
abbrev pub with_test : Items → Option Tested → List Piece → Option Items
with_test xs None row = None
with_test xs (Some x) row = behind_test x.behind (xs ▸ item_of x.item) row (tests_after (xs ▸ item_of x.item) None row)
