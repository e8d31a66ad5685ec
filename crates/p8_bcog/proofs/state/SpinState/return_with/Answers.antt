use Rattle.std.proofs.Common.{◌∙◌}
use Rattle.p8_bcog.proofs.Returning.{returned_by}
use Rattle.p8_bcog.proofs.state.SpinState.return_with.Goals as goal

pub returns-in-Some-clause-does : goal.returns-in-Some-clause-does
returns-in-Some-clause-does c =
    c.go_back.ensures.does
    ∙ returned_by c.args.cog c.args.value c.in-Some.call c.pop.new.self c.args.self.now c.in-Some.ensures.popped
