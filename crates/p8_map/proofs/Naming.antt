-- The names of the elements of an array of objects, one after the other.
use Rattle.std.proofs.Common.{◌≡◌, ap, arith, ℕ, suc, ◌+◌, ◌-◌, ◌<◌, List, ◌∷◌}
use Rattle.p8_map.specs.Names.{element_name, element_names}

pub element-step : (name : List ℕ) (index count : ℕ) → index < count
    → element_names name index (count - index) ≡ element_name name index ∷ element_names name (index + 1) (count - (index + 1))
element-step name index count more =
    let one : count - index ≡ suc (count - (index + 1)) = omega arith in
    ap (element_names name index) one
