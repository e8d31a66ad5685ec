use Rattle.std.proofs.Common.{◌∙◌, ap, sym, subst, ℕ, ◌+◌, List, Option, arith}
use Rattle.p8_access.specs.Worlds.{Line, level_at}
use Rattle.p8_pins.specs.Walks.{IsStill}
use Rattle.p8_pins.proofs.Walking.{still, next-later}
use Rattle.p8_pins.proofs.walk.Walk.next.Goals as goal

pub returns-in-None-clause-at : goal.returns-in-None-clause-at
returns-in-None-clause-at c = λ script past clock same at.
    let walk = c.args.self.now in let first = c.from_first_touch-turns in
    subst (λ (o : Option ℕ). IsStill script past clock o) (sym c.earlier.ensures ∙ c.in-None.is)
    (still script past clock walk at first.result.now (first.ensures.stands past clock walk.registers at.stands) (first.ensures.come (clock + 1) at.later))

pub returns-in-Some-clause-at : goal.returns-in-Some-clause-at
returns-in-Some-clause-at c = λ script past clock same at.
    let walk = c.args.self.now in let first = c.from_first_touch-turns in let next = c.in-Some.clock in
    let is = sym c.earlier.ensures ∙ c.in-Some.is in
    let stands = first.ensures.stands past clock walk.registers at.stands in
    let come = first.ensures.come (clock + 1) at.later in
    let later = next-later clock next walk.span.end first.result.now come at.end is in
    let span = c.span_near-self.ensures in (
      later,
      record {
        stands = c.take_by-self.ensures.stands past clock (omega (arith, later)) stands;
        later = c.take_by-self.ensures.come (clock + 1) come;
        levels = span.levels ∙ ap (λ (lines : List Line). level_at lines next) same;
        end = span.later;
        same = λ u le before. sym (ap (λ (lines : List Line). level_at lines u) same) ∙ span.same u le before;
      },
      subst (λ (o : Option ℕ). IsStill script past clock o) is (still script past clock walk at first.result.now stands come),
    )
