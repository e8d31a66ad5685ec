use Rattle.std.proofs.Common.{◌∙◌, None, Some, sym}
use Rattle.std.specs.Prelude.{Result, Ok, Err, OnOk}
use Rattle.p8_constants.proofs.evaluation.enter.Goals as goal

OnOk-to : {T E : Type 0} {P Q : Type 0} (r : Result T E) → (P → Q) → OnOk r P → OnOk r Q
OnOk-to (Ok x) f h = f h
OnOk-to (Err e) f h = tt

pub returns-in-Some : goal.returns-in-Some
returns-in-Some c =
    OnOk-to c.set.result
    (λ e. record {
      entered = λ m is. e ∙ (sym c.in-Some.is ∙ is);
      kept = λ none. absurd (let never = sym c.in-Some.is ∙ none in cc);
      others = λ n differs. c.set.ensures.others None n (λ p. differs p.1);
      constants = λ object n. c.set.ensures.others (Some object) n (λ p. let never = p.0 in cc);
      here = c.set.ensures.here;
    })
    c.set.ensures.entered
