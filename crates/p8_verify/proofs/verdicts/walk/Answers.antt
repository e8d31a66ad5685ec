use Rattle.std.proofs.Common.{◌≡◌, ◌∙◌, ap, sym, subst, refl, ◌∷◌, [], ℕ, ◌+◌, ◌-◌, List, length, rules, arith, IsNone, IsTrue, IfSome}
use Rattle.p8_access.specs.declared.order.Turn.{Turn}
use Rattle.p8_access.specs.Worlds.{World}
use Rattle.p8_access.specs.Histories.{Extends, IsOver}
use Rattle.p8_cog.specs.Lives.{asks}
use Rattle.p8_machine.specs.Machines.{world_in, past_in}
use Rattle.p8_verify.specs.Table.{IsRecord}
use Rattle.p8_verify.specs.Told.{IsTold}
use Rattle.p8_verify.proofs.Walking.{went_on, next-is}
use Rattle.p8_verify.proofs.verdicts.walk.Goals as goal

pub loop-index-init : goal.loop-index-init
loop-index-init c = record {
  stands = c.requires.stands;
  world = refl;
  done = ap length c.requires.begin;
  told = λ v told.
      let w = world_in c.args.machine.now in
      let all : c.args.count - 0 ≡ c.args.count = omega arith in
      subst (λ (n : ℕ). IsTold w [] n 1 c.args.records.now v) all (subst (λ (past : List Turn). IsTold w past (c.args.count - 0) 1 c.args.records.now v) c.requires.begin told);
}

pub returns-in-None : goal.returns-in-None
returns-in-None c =
    let none : IsNone c.step.result = search rules in
    let over = subst (λ (w : World). IsOver asks w (past_in c.loop-index.machine)) c.loop-index.invariant.world ((c.step.ensures.over c.loop-index.invariant.stands).0 none) in
    c.loop-index.invariant.told _ (c.verdict_at.ensures (world_in c.args.machine.now) (past_in c.loop-index.machine) c.loop-index.invariant.done over)

pub verdict_at-requires-then-not-begins_with-clause-differs : goal.verdict_at-requires-then-not-begins_with-clause-differs
verdict_at-requires-then-not-begins_with-clause-differs c = λ rest is.
    let yes : IsTrue c.begins_with.result = c.begins_with.ensures.other rest is in
    search rules

pub returns-then-not-begins_with : goal.returns-then-not-begins_with
returns-then-not-begins_with c =
    let extends = subst (λ (w : World). Extends asks w (past_in c.loop-index.machine) c.in-Some.next) c.loop-index.invariant.world (rw c.in-Some.is at (c.step.ensures.extends c.loop-index.invariant.stands)) in
    c.loop-index.invariant.told _ (c.verdict_at-then-not-begins_with.ensures (world_in c.args.machine.now) (past_in c.loop-index.machine) c.loop-index.invariant.done extends)

pub loop-index-preserved : goal.loop-index-preserved
loop-index-preserved c =
    let w = world_in c.args.machine.now in
    let before = past_in c.loop-index.machine in
    let next = c.in-Some.next in
    let yes : IsTrue c.begins_with.result = search rules in
    let past : past_in c.step.new.self ≡ next ∷ before = rw c.in-Some.is at c.step.ensures.past in
    let extends = subst (λ (w : World). Extends asks w before next) c.loop-index.invariant.world (rw c.in-Some.is at (c.step.ensures.extends c.loop-index.invariant.stands)) in
    let is = subst (λ (rest : List ℕ). IsRecord c.loop-index.rest.now next rest) (sym c.after_record-rest.ensures) (c.begins_with.ensures.record yes).0 in
    let done : length before ≡ c.loop-index.index = c.loop-index.invariant.done in
    record {
      stands = c.step.ensures.stands c.loop-index.invariant.stands;
      world = c.step.ensures.world ∙ c.loop-index.invariant.world;
      done = (let count : length (past_in c.step.new.self) ≡ length (next ∷ before) = ap length past in omega arith);
      told = λ v told. c.loop-index.invariant.told v
          (went_on w before c.args.count c.loop-index.index c.loop-index.rest.now next c.after_record-rest.result.now c.loop-index-test.true is extends v
          (subst (λ (h : List Turn). IsTold w h (c.args.count - (c.loop-index.index + 1)) (c.loop-index.index + 1 + 1) c.after_record-rest.result.now v) past told));
    }

pub returns : goal.returns
returns c =
    let w = world_in c.args.machine.now in
    let past = past_in c.loop-index.machine in
    let stands = c.loop-index.invariant.stands in
    let same = c.loop-index.invariant.world in
    let all : c.loop-index.index ≡ c.args.count = omega arith in
    let over = λ (none : IsNone c.step-2.result). subst (λ (w : World). IsOver asks w past) same ((c.step-2.ensures.over stands).0 none) in
    let extends = subst (λ (w : World). IfSome c.step-2.result (λ turn. Extends asks w past turn)) same (c.step-2.ensures.extends stands) in
    let told = c.verdict_behind.ensures w past (c.loop-index.invariant.done ∙ all) (next-is w past c.step-2.result over extends) in
    let none : 0 ≡ c.args.count - c.loop-index.index = omega arith in
    c.loop-index.invariant.told _
    (subst (λ (n : ℕ). IsTold w past (c.args.count - c.loop-index.index) (n + 1) c.loop-index.rest.now c.verdict_behind.result) (sym all)
    (subst (λ (n : ℕ). IsTold w past n (c.args.count + 1) c.loop-index.rest.now c.verdict_behind.result) none told))
