use Rattle.std.proofs.Common.{◌∙◌}
use Rattle.p8_bcog.proofs.Returning.{aborted_by}
use Rattle.p8_bcog.proofs.state.SpinState.abort_with.Goals as goal

pub returns-in-Some-clause-does : goal.returns-in-Some-clause-does
returns-in-Some-clause-does c =
    c.go_back.ensures.does
    ∙ aborted_by c.args.cog c.args.value c.in-Some.call c.pop_trapping.new.self c.args.self.now c.in-Some.ensures
