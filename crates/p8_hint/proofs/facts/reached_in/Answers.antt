use Rattle.std.proofs.Common.{◌≡◌, ◌∙◌, ℕ, List, length, drop, ap, sym, subst, arith}
use Rattle.std.proofs.lemmas.List.{drop_all}
use Rattle.p8_hint.specs.Rules.{after, once_more, reaches, reached_in}
use Rattle.p8_hint.specs.SpotViews.{spot_of, spots_of}
use Rattle.p8_hint.specs.Tables.{number_in}
use Rattle.p8_hint.proofs.Tabling.{last_is}
use Rattle.p8_hint.proofs.facts.reached_in.Goals as goal

pub loop-at-init : goal.loop-at-init
loop-at-init c = (omega arith, λ name. c.new-table.ensures name ∙ ap (λ ss. reached_in (spots_of ss) name) (sym (drop_all (length c.args.spots.now) c.args.spots.now (omega arith))))

pub loop-at-preserved : goal.loop-at-preserved
loop-at-preserved c = (
  omega arith,
  λ name. c.in_ok-count_reach.ensures name ∙ ap (after (reaches name (spot_of c.index-spots-at.result)) once_more) (c.loop-at.invariant.1 name)
      ∙ sym (ap (λ ss. reached_in (spots_of ss) name) (last_is c.args.spots.now c.loop-at.at c.index-spots-at.result c.loop-at-test.true c.loop-at.invariant.0 c.index-spots-at.is)),
)

pub returns : goal.returns
returns c = subst (λ (j : ℕ). (name : List ℕ) → number_in c.loop-at.table name ≡ reached_in (spots_of (drop j c.args.spots.now)) name) (let none : c.loop-at.at ≡ 0 = omega arith in none) c.loop-at.invariant.1
