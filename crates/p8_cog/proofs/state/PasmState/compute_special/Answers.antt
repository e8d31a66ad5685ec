use Rattle.std.proofs.Common.{◌≡◌, None, sym, ap, ◌∙◌}
use Rattle.p8_instr.specs.declared.instruction.Instr.{Instr}
use Rattle.p8_alu.specs.declared.effect.Effect.{Effect}
use Rattle.p8_cog.specs.Instructions.{source_access}
use Rattle.p8_cog.specs.Replay.{at_hand, effect, result_access}
use Rattle.p8_cog.proofs.Apart.{is-none, done-apart}
use Rattle.p8_cog.proofs.state.PasmState.compute_special.Goals as goal

pub returns-clause-done : goal.returns-clause-done
returns-clause-done c =
    let no-source : source_access (at_hand c.args.self.now) ≡ None = is-none _ (sym c.asks_for_source.ensures ∙ c.if-asks_for_source.false) in
    let no-access : result_access c.decode.result c.effect-effect.result.result ≡ None =
    sym c.result_access.ensures.access ∙ is-none _ (sym c.is_some.ensures ∙ c.if-is_some.false) in
    let no-result : result_access (at_hand c.args.self.now) (effect c.args.self.now c.source_value-source.result).result ≡ None =
    ap (λ (e : Effect). result_access (at_hand c.args.self.now) e.result) (sym c.effect-effect.ensures)
    ∙ ap (λ (i : Instr). result_access i c.effect-effect.result.result) (sym c.decode.ensures.value)
    ∙ no-access in
    λ done. done-apart c.args.self.now c.end_computed.new.self c.source_value-source.result no-source c.source_value-source.ensures no-result c.end_computed.ensures.ends
