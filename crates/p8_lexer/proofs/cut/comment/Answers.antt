use Rattle.std.proofs.Common.{subst, sym}
use Rattle.p8_lexer.specs.Cutting.{IsCutOrStuck}
use Rattle.p8_lexer.proofs.Cuts.{comment_result, doc_result}
use Rattle.p8_lexer.proofs.cut.comment.Goals as goal

pub returns-then-is_at : goal.returns-then-is_at
returns-then-is_at c =
    let text = c.args.text.now in
    subst (IsCutOrStuck text) (sym c.cut_or_open.ensures) (doc_result text c.doc_comment_end.result c.requires.brace c.if-is_at.ensures.1 c.doc_comment_end.ensures)

pub returns-else-is_at : goal.returns-else-is_at
returns-else-is_at c =
    let text = c.args.text.now in
    subst (IsCutOrStuck text) (sym c.cut_or_open-else-is_at.ensures) (comment_result text c.comment_end.result c.requires.brace c.if-is_at.ensures c.comment_end.ensures)
