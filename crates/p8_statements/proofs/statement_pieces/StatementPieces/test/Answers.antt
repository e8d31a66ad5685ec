use denote.Hole.Carrier
use Rattle.std.proofs.Common.{sym, ◌∙◌}
use Rattle.p8_tree.specs.declared.expressions.Item.{roll-Item}
use Rattle.p8_tree.specs.Views.{tree_of}
use Rattle.p8_statements.specs.Views.{rest_of}
use Rattle.p8_statements.proofs.Loops.{low_read, single_read}
use Rattle.p8_statements.proofs.statement_pieces.StatementPieces.test.Goals as goal

pub returns-then-is_dot_dot-clause-read : goal.returns-then-is_dot_dot-clause-read
returns-then-is_dot_dot-clause-read c xs =
    low_read xs (rest_of c.args.self.now) (rest_of c.phrase.new.self) (tree_of c.in_ok-tree.field-0.tree) c.in_ok-tree.field-0.behind c.in_ok-tree.ensures (sym c.is_dot_dot.ensures ∙ c.if-is_dot_dot.true)
    ∙ c.range_from.ensures.read xs

pub returns-else-is_dot_dot-clause-read : goal.returns-else-is_dot_dot-clause-read
unfolding roll-Item Carrier.roll
returns-else-is_dot_dot-clause-read c xs =
    single_read xs (rest_of c.args.self.now) (rest_of c.phrase.new.self) (tree_of c.in_ok-tree.field-0.tree) c.in_ok-tree.field-0.behind c.in_ok-tree.ensures (sym c.is_dot_dot.ensures ∙ c.if-is_dot_dot.false)
