use Rattle.p8_tree.specs.Views.{item_of}
use Rattle.std.proofs.Common.{refl}
use Rattle.p8_statements.proofs.Trees.{items_pushed}
use Rattle.p8_statements.proofs.statements.push.Goals as goal

pub returns : goal.returns
returns c = items_pushed c.args.tests.now c.push.new.self c.args.test (item_of c.args.test) c.in_ok-push.ensures.ok refl
