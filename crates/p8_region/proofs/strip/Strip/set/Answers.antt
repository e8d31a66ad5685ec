use Rattle.std.proofs.Common.{length, take, set, ap, ◌∙◌, arith, length-set, Some}
use Rattle.p8_region.specs.Bounded.{bounded}
use Rattle.p8_region.specs.Places.{somes}
use Rattle.p8_region.proofs.Rows.{somes-set}
use Rattle.p8_region.proofs.strip.Strip.set.Goals as goal

pub invariant_of-self : goal.invariant_of-self
invariant_of-self g c =
    let s = c.self.inside in let h = c.self.invariant in let w = c.write.ensures in let cs = s.places.slots in (
      w.0 ∙ h.0,
      ap length w.1 ∙ length-set cs c.args.i (Some c.args.item) ∙ h.1,
      h.2,
      ap (λ l. length (somes (take s.len l))) w.1 ∙ ap length (somes-set cs s.len c.args.i c.args.item (omega (arith, h.1, h.2)) h.3 c.if-i-self.false) ∙ length-set (somes (take s.len cs)) c.args.i c.args.item ∙ h.3,
    )

pub returns-clause-list : goal.returns-clause-list
returns-clause-list g c _ =
    let s = c.self.inside in let h = c.self.invariant in let w = c.write.ensures in let cs = s.places.slots in let is = c.self.view_is in
    ap (λ l. bounded (somes (take s.len l)) s.room) w.1 ∙ ap (λ l. bounded l s.room) (somes-set cs s.len c.args.i c.args.item (omega (arith, h.1, h.2)) h.3 c.if-i-self.false)
    ∙ (λ k. bounded (set (is k).list c.args.i c.args.item) (is k).room)
