use Rattle.p8_meaning.proofs.Bodies.{appended}
use Rattle.p8_meaning.proofs.statements.append.Goals as goal

pub returns : goal.returns
returns c = appended c.args.out.now.items c.args.body.items c.append.new.self.items c.in_ok-append.ensures.items
