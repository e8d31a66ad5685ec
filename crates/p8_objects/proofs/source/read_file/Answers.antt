use Rattle.std.proofs.Common.{refl, sym, subst, ◌∙◌, ℕ, List}
use Rattle.p8_objects.specs.Sources.{IsRefused}
use Rattle.p8_objects.proofs.source.read_file.Goals as goal

pub returns-in-Err-Refused-clause-fault : goal.returns-in-Err-Refused-clause-fault
returns-in-Err-Refused-clause-fault g c =
    let refused : IsRefused c.deref.result.now c.in-Err-Refused.fault = rw c.in-Err-Refused.field-0-is at c.in-Err-Refused.ensures.refused in
    let same = c.deref.ensures.value ∙ sym c.from_vec-bytes.ensures in
    (refl, rw c.from_vec-bytes.ensures c.in-Ok.ensures.bytes, subst (λ (xs : List ℕ). IsRefused xs c.in-Err-Refused.fault) same refused)
