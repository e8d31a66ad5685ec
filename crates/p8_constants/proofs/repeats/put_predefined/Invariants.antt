use Rattle.std.proofs.Common.{◌≡◌, ℕ, List, ◌++◌, map, drop}
use Rattle.p8_constants.specs.Standing.{Holds, valued}
use Rattle.p8_constants.proofs.repeats.put_predefined.Given as goal

abbrev pub invariant-loop-constant : goal.invariant-loop-constant
invariant-loop-constant l =
    (before : List (List ℕ)) → Holds l.initial.names before → (now : List (List ℕ)) × Holds l.names now × (before ++ map (λ x. x.0) (valued l.predefined) ≡ now ++ map (λ x. x.0) (valued (drop l.constant-index l.predefined)))
