use Rattle.std.proofs.Common.{[], subst}
use Rattle.p8_cog.specs.Replay.{Course, answered, played}
use Rattle.p8_cog.specs.Stops.{ComesTo}
use Rattle.p8_cog.proofs.Silent.{same-end}
use Rattle.p8_cog.proofs.state.PasmState.end_answered.Goals as goal

pub returns-then-writes_nothing-clause-comes : goal.returns-then-writes_nothing-clause-comes
returns-then-writes_nothing-clause-comes c =
    let same = same-end c.args.cog c.args.self.now c.args.clock c.plain_effect.result (answered c.args.kept c.args.answer)
    (c.writes_nothing.ensures.result c.if-writes_nothing.true) (c.writes_nothing.ensures.c c.if-writes_nothing.true) (c.writes_nothing.ensures.z c.if-writes_nothing.true) in
    subst (λ (course : Course). ComesTo (played course []) c.end_after.result c.end_after.new.self) same c.end_after.ensures.comes
