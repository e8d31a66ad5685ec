use Rattle.p8_lexer.proofs.Marking.{first-leads}
use Rattle.p8_lexer.proofs.spelling.Spellings.mark_before.Goals as goal

pub returns-then-is_before-clause-lies : goal.returns-then-is_before-clause-lies
returns-then-is_before-clause-lies c = c.mark_at-mark.ensures.0

pub returns-then-is_before-clause-leads : goal.returns-then-is_before-clause-leads
returns-then-is_before-clause-leads c = c.mark_at-mark.ensures.1 c.args.place (c.is_before.ensures.order.0 c.if-is_before.true)

pub returns-else-is_before-clause-leads : goal.returns-else-is_before-clause-leads
returns-else-is_before-clause-leads c = first-leads c.args.self.now c.args.place
