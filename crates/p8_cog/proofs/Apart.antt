-- An instruction that computes and asks nothing is done.
use Rattle.std.proofs.Common.{◌≡◌, ℕ, ◌+◌, true, false, [], Option, Some, None, refl, sym, ◌∙◌, ap}
use Rattle.std.specs.Option.{is_some}
use Rattle.p8_access.specs.declared.kinds.Access.{Access}
use Rattle.p8_cog.specs.declared.instruction_kind.InstructionKind.TheVariants.{Computing}
use Rattle.p8_cog.specs.declared.state.PasmState.{PasmState}
use Rattle.p8_cog.specs.Instructions.{source_access}
use Rattle.p8_cog.specs.Replay.{Goes, at_hand, source_value, sourced_by, effect, compute, computed, written_by, result_access, does, played}

pub is-none : (o : Option Access) → is_some o ≡ false → o ≡ None
is-none None e = refl
is-none (Some access) e = absurd (let x : true ≡ false = e in cc)

pub done-apart : (s new : PasmState) (source : ℕ) → source_access (at_hand s) ≡ None → source ≡ source_value s
    → result_access (at_hand s) (effect s source).result ≡ None → new ≡ computed s source
    → (cog : ℕ) → played (does Computing cog s) [] ≡ Goes new []
done-apart s new source no-source is no-result ends cog =
    ap (λ (o : Option Access). played (sourced_by o (s.clock + 2) s (compute cog s)) []) no-source
    ∙ ap (λ (v : ℕ). played (compute cog s v) []) (sym is)
    ∙ ap (λ (o : Option Access). played (written_by o cog (s.clock + 3) (computed s source)) []) no-result
    ∙ ap (λ (t : PasmState). Goes t []) (sym ends)
