use Rattle.std.proofs.Common.{◌++◌, ◌∷◌, [], length, ap, ◌∙◌, arith, length-set, Some}
use Rattle.p8_region.specs.Bounded.{bounded}
use Rattle.p8_region.proofs.Rows.{pushed, length-pushed}
use Rattle.p8_region.proofs.strip.Strip.push.Goals as goal

pub invariant_of-self : goal.invariant_of-self
invariant_of-self g c =
    let s = c.self.inside in let h = c.self.invariant in let w = c.write.ensures in let free = c.if-self.false in
    (w.0 ∙ h.0, ap length w.1 ∙ length-set s.places.slots s.len (Some c.args.item) ∙ h.1, omega (arith, free), length-pushed s.places.slots c.write.new.self.slots s.len c.args.item (omega (arith, h.1, free)) h.3 w.1)

pub returns-clause-ok : goal.returns-clause-ok
returns-clause-ok g c =
    let s = c.self.inside in let h = c.self.invariant in let w = c.write.ensures in let free = c.if-self.false in let is = c.self.view_is in
    ap (λ l. bounded l s.room) (pushed s.places.slots c.write.new.self.slots s.len c.args.item (omega (arith, h.1, free)) w.1)
    ∙ (λ i. bounded ((is i).list ++ c.args.item ∷ []) (is i).room)
