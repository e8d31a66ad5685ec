use Rattle.std.proofs.Common.{◌≡◌, ◌-◌, ◌<◌, ◌≤◌, ℕ, suc, List, length, slice_get, get_or, Some, None, sym, subst, ◌∙◌, arith}
use Rattle.std.proofs.lemmas.Bool.Decides.{nat_tests}
use Rattle.std.proofs.lemmas.Option.{slice_get-get_or}
use Rattle.p8_legend.specs.declared.ranges.Range.{Range}
use Rattle.p8_legend.specs.Finding.{Splits}
use Rattle.p8_legend.proofs.Apart.{found-none, found-some, found_by}
use Rattle.p8_legend.proofs.ranges.Ranges.find.Goals as goal

abbrev none : Range
none = record { address = 0; end = 0 }

-- the last range that begins at or before the address
stands : (ranges slice : List Range) (count : ℕ) → slice ≡ ranges → 0 < count → count ≤ length ranges → slice_get ranges (count - 1) ≡ Some (get_or slice (count - 1) none)
stands ranges slice count same some within =
    subst (λ (xs : List Range). slice_get ranges (count - 1) ≡ Some (get_or xs (count - 1) none)) (sym same) (slice_get-get_or ranges (count - 1) none (omega (arith, some, within)))

whole : (count : ℕ) → 0 < count → count ≡ suc (count - 1)
whole count some = omega (arith, some)

found_in : (count address : ℕ) (r : Range) → address < r.end → found_by count address r ≡ Some (record { number = count; offset = address - r.address })
found_in count address r h = grind (arith, nat_tests)

found_after : (count address : ℕ) (r : Range) → r.end ≤ address → found_by count address r ≡ None
found_after count address r h = grind (arith, nat_tests)

pub returns-then-begun-eq0 : goal.returns-then-begun-eq0
returns-then-begun-eq0 c = sym (found-none c.args.self.now.ranges c.args.address (subst (Splits c.args.self.now.ranges c.args.address) (omega arith) c.begun_by-begun.ensures.begun))

pub overflow_sub-result-then-address-range : goal.overflow_sub-result-then-address-range
overflow_sub-result-then-address-range c =
    let at = stands c.args.self.now.ranges c.as_slice.result.now c.begun_by-begun.result c.as_slice.ensures (omega arith) c.begun_by-begun.ensures.within in
    c.begun_by-begun.ensures.begun.before (c.begun_by-begun.result - 1) _ (omega arith) at

pub returns-then-address-range : goal.returns-then-address-range
returns-then-address-range c =
    let ranges = c.args.self.now.ranges in
    let count = c.begun_by-begun.result in
    let at = stands ranges c.as_slice.result.now count c.as_slice.ensures (omega arith) c.begun_by-begun.ensures.within in
    sym (found-some 0 ranges c.args.address (count - 1) _ c.args.self.now.apart (subst (Splits ranges c.args.address) (whole count (omega arith)) c.begun_by-begun.ensures.begun) at ∙ found_in (count - 1) c.args.address _ c.if-address-range.true)

pub returns-else-address-range : goal.returns-else-address-range
returns-else-address-range c =
    let ranges = c.args.self.now.ranges in
    let count = c.begun_by-begun.result in
    let at = stands ranges c.as_slice.result.now count c.as_slice.ensures (omega arith) c.begun_by-begun.ensures.within in
    sym (found-some 0 ranges c.args.address (count - 1) _ c.args.self.now.apart (subst (Splits ranges c.args.address) (whole count (omega arith)) c.begun_by-begun.ensures.begun) at ∙ found_after (count - 1) c.args.address _ c.if-address-range.false)
