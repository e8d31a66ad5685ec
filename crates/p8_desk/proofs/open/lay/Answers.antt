use Rattle.std.proofs.Common.{◌≡◌, ◌∙◌, ◌∷◌, ◌++◌, [], ap, sym, subst, ℕ, Some, List}
use Rattle.std.specs.Prelude.{replicate}
use Rattle.atomic_table.specs.Table.{opening}
use Rattle.p8_desk.specs.Rules.{Kept, Slot, first_view}
use Rattle.p8_desk.proofs.Sharing.{opens}
use Rattle.p8_desk.proofs.open.lay.Goals as goal

pub new-requires : goal.new-requires
new-requires c =
    let items : c.push.new.self.items ≡ Some c.args.ledger ∷ [] = c.in-Ok.ensures.items ∙ ap (λ (l : List Slot). l ++ Some c.args.ledger ∷ []) c.new-slots.ensures.items in
    subst (λ (l : List Slot). Kept c.args.start.now (opening (0 ∷ 0 ∷ replicate {A = ℕ} 70 0) l (first_view c.args.start.now))) (sym items) (opens c.args.start.now c.args.ledger (replicate {A = ℕ} 70 0) c.requires)
