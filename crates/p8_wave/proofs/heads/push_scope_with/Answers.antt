use Rattle.std.proofs.Common.{◌∙◌, ap, ◌++◌, List, ℕ, codes}
use Rattle.std.proofs.lemmas.Result.{on_ok_weaker}
use Rattle.p8_wave.specs.Variables.{scope_name}
use Rattle.p8_wave.proofs.Pieces.{three, scope_some}
use Rattle.p8_wave.proofs.heads.push_scope_with.Goals as goal

pub returns-in_ok-push_text-in-len1-up : goal.returns-in_ok-push_text-in-len1-up
returns-in_ok-push_text-in-len1-up c =
    on_ok_weaker c.push_text-in-len1-up.result
    (λ e. three c.args.out.now.items (codes "$scope module " ++ scope_name c.args.scope ++ codes " $end\n") c.args.declarations.now (codes "$upscope $end\n") _ _ _ c.in_ok-push_scope_head-in-len1-up.ensures c.in_ok-push_text-in-len1-up.ensures e ∙ ap (λ (xs : List ℕ). c.args.out.now.items ++ xs) (scope_some c.args.scope c.args.declarations.now c.in-len1-up.len_at_least))
    c.push_text-in-len1-up.ensures
