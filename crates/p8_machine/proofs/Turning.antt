-- A turn more in a history, with its counter.
use Rattle.std.proofs.Common.{◌≡◌, ◌∙◌, ap, sym, subst, ℕ, List, [], ◌∷◌, ◌++◌, reverse, Option}
use Rattle.std.proofs.lemmas.List.{reverse-append}
use Rattle.p8_access.specs.declared.order.Turn.{Turn}
use Rattle.p8_access.specs.Worlds.{World}
use Rattle.p8_access.specs.Hub.{cog_state}
use Rattle.p8_machine.specs.Counted.{IsCounterIn, AreCounters}

pub counted-more : (w v : World) (past now : List Turn) (turn : Turn) (old new : List (Option ℕ)) (counter : Option ℕ) → v ≡ w → now ≡ turn ∷ past → new ≡ old ++ counter ∷ [] → IsCounterIn w past turn.key.cog (cog_state w past turn.key.cog) counter → AreCounters w past (reverse old) → AreCounters v now (reverse new)
counted-more w v past now turn old new counter world log pushed own before =
    let reversed : reverse new ≡ counter ∷ reverse old = ap reverse pushed ∙ reverse-append old (counter ∷ []) in
    subst (λ (u : World). AreCounters u now (reverse new)) (sym world)
    (subst (λ (l : List Turn). AreCounters w l (reverse new)) (sym log)
    (subst (AreCounters w (turn ∷ past)) (sym reversed) (own, before)))
