use Rattle.p8_lexer.proofs.Marking.{mark-in, first-mark}
use Rattle.p8_lexer.proofs.spelling.Spellings.mark_at.Goals as goal

pub returns-in-Some : goal.returns-in-Some
returns-in-Some c =
    mark-in c.args.self.now c.self.inside.text c.self.inside.marks.items c.deref.result.now c.args.number c.in-Some.mark.now c.self.view_is c.deref.ensures.value c.self.inside.marked
    c.in-Some.ensures.lookup.3.0 c.in-Some.ensures.lookup.1

pub returns-in-None : goal.returns-in-None
returns-in-None c = first-mark c.args.self.now
