use Rattle.std.proofs.Common.{◌∷◌, ◌∙◌, ℕ, Some, List, ap, sym}
use Rattle.atomic_table.specs.Table.{rest}
use Rattle.p8_desk.specs.Rules.{Slot}
use Rattle.p8_desk.proofs.gather.take_out.Goals as goal

pub exchange-requires : goal.exchange-requires
exchange-requires c =
    let h = c.requires.has in
    (c.requires.own, (Some h.0, h.1 ∙ sym (ap (λ (l : List (ℕ × Slot)). (0, Some h.0) ∷ rest l) h.1)))
