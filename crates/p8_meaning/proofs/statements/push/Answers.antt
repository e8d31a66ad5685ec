use Rattle.p8_meaning.proofs.Bodies.{pushed}
use Rattle.p8_meaning.proofs.statements.push.Goals as goal

pub returns : goal.returns
returns c = pushed c.args.out.now.items c.push.new.self.items c.args.place c.args.kind c.in_ok-push.ensures.items
