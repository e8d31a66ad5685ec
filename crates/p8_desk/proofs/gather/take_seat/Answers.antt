use Rattle.std.proofs.Common.{◌≡◌, ◌∙◌, Some, ap, sym, subst, refl}
use Rattle.p8_desk.specs.Gathering.{PartsOf}
use Rattle.p8_desk.specs.Passes.{PassValue}
use Rattle.p8_desk.proofs.Gathering.{some-some}
use Rattle.p8_desk.proofs.gather.take_seat.Goals as goal

pub returns-clause-own : goal.returns-clause-own
returns-clause-own c = λ pass e.
    let same : c.in-Some.pass ≡ pass = some-some _ _ (sym (c.take.ensures.taken ∙ ap Some c.in-Some.is) ∙ e) in
    (c.take_apart-seat.result.1, refl, subst (λ (p : PassValue). PartsOf p c.take_apart-seat.result.0.table_id c.take_apart-seat.result.0.me c.take_apart-seat.result.1) same c.take_apart-seat.ensures)
