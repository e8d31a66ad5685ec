use denote.Hole.Carrier
use Rattle.p8_tree.specs.declared.expressions.Item.{roll-Item}
use Rattle.p8_tree.specs.Views.{tree_of}
use Rattle.p8_statements.specs.Views.{rest_of}
use Rattle.p8_statements.proofs.Loops.{range_read}
use Rattle.p8_statements.proofs.statement_pieces.StatementPieces.range_from.Goals as goal

pub returns-in-Some-clause-read : goal.returns-in-Some-clause-read
unfolding roll-Item Carrier.roll
returns-in-Some-clause-read c xs = range_read xs (tree_of c.args.low) (rest_of c.args.self.now) (rest_of c.phrase.new.self) (tree_of c.in-Some.last.tree) c.in-Some.last.behind c.in-Some.ensures
