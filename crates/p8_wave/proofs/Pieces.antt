-- Texts in pieces.
use Rattle.std.proofs.Common.{◌≡◌, ◌∙◌, ap, refl, ℕ, List, [], ◌∷◌, ◌++◌, ◌≤◌, length, codes, append_assoc, arith}
use Rattle.p8_wave.specs.declared.variables.Scope.{Scope}
use Rattle.p8_wave.specs.Variables.{scope_name}
use Rattle.p8_wave.specs.Wave.{scope_with}

pub three : (out a b c x y z : List ℕ) → x ≡ out ++ a → y ≡ x ++ b → z ≡ y ++ c → z ≡ out ++ (a ++ b ++ c)
three out a b c x y z first second third =
    third ∙ ap (λ xs. xs ++ c) (second ∙ ap (λ xs. xs ++ b) first ∙ append_assoc out a b) ∙ append_assoc out (a ++ b) c

pub scope_some : (scope : Scope) (xs : List ℕ) → 1 ≤ length xs → codes "$scope module " ++ scope_name scope ++ codes " $end\n" ++ xs ++ codes "$upscope $end\n" ≡ scope_with scope xs
scope_some scope [] some = absurd (omega arith)
scope_some scope (c ∷ cs) some = refl
