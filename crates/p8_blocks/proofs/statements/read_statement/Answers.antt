use Rattle.p8_columns.specs.Views.{kind_of}
use Rattle.p8_lexer.specs.Pieces.{pieces_of}
use Rattle.p8_blocks.proofs.StatementReads.{read_kind, is_read, suited}
use Rattle.p8_blocks.proofs.statements.read_statement.Goals as goal

pub unwrap-kind-requires : goal.unwrap-kind-requires
unwrap-kind-requires c = is_read kind_of c.args.state c.in_ok-line_kind.field-0 (pieces_of c.in_ok-pieces.pieces.items) c.in_ok-line_kind.ensures (read_kind c.requires.begins c.in_ok-pieces.ensures.read)

pub returns-clause-suits : goal.returns-clause-suits
returns-clause-suits c = suited kind_of c.args.state c.in_ok-line_kind.field-0 c.unwrap-kind.result (pieces_of c.in_ok-pieces.pieces.items) c.unwrap-kind.ensures c.in_ok-line_kind.ensures (read_kind c.requires.begins c.in_ok-pieces.ensures.read)
