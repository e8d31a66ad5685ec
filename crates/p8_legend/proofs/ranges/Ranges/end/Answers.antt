use Rattle.std.proofs.Common.{◌≡◌, ◌-◌, Some, length, List, slice_get, sym, subst}
use Rattle.p8_legend.specs.declared.ranges.Range.{Range}
use Rattle.p8_legend.proofs.Apart.{last_is}
use Rattle.p8_legend.proofs.ranges.Ranges.end.Goals as goal

pub returns-in-Some : goal.returns-in-Some
returns-in-Some c = sym (last_is 0 c.args.self.now.ranges c.in-Some.range.now (subst (λ (xs : List Range). slice_get xs (length xs - 1) ≡ Some c.in-Some.range.now) c.as_slice.ensures (sym c.in-Some.ensures.value)))
