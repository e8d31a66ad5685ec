use Rattle.std.proofs.Common.{sym, ap, ◌∙◌, arith}
use Rattle.p8_region.specs.Places.{somes}
use Rattle.p8_region.proofs.Rows.{somes_map, filled}
use Rattle.p8_region.proofs.strip.Strip.as_slice.Goals as goal

pub slice-requires : goal.slice-requires
slice-requires g c = let s = c.self.inside in let h = c.self.invariant in (sym h.0, filled s.places.slots s.len (omega (arith, h.1, h.2)) h.3)

pub returns : goal.returns
returns g c = sym (somes_map c.slice.result.now) ∙ ap somes (sym c.slice.ensures) ∙ ap (λ b. b.list) c.self.view_is
