use Rattle.std.proofs.Common.{◌≡◌, ◌∷◌, [], sym, subst, ℕ, ◌+◌, List, length, arith}
use Rattle.std.proofs.lemmas.Bool.Decides.{nat_tests}
use Rattle.p8_verify.specs.Table.{IsRecord}
use Rattle.p8_verify.proofs.Forms.{breaks-here, breaks-later, records-with, no-records}
use Rattle.p8_verify.proofs.verdicts.broken_turn.Goals as goal

pub returns-in-None : goal.returns-in-None
returns-in-None c =
    rw c.from.ensures
    (c.loop-index.invariant.breaks (c.loop-index.index + 1) (breaks-here c.args.count c.loop-index.index c.loop-index.rest.now c.loop-index-test.true c.in-None.ensures.turn))

pub loop-index-preserved : goal.loop-index-preserved
loop-index-preserved c =
    let is = subst (λ (rest : List ℕ). IsRecord c.loop-index.rest.now c.in-Some.field-0 rest) (sym c.after_record-rest.ensures) c.in-Some.ensures.turn in
    record {
      breaks = λ turn b. c.loop-index.invariant.breaks turn (breaks-later c.args.count c.loop-index.index c.loop-index.rest.now c.after_record-rest.result.now c.in-Some.field-0 turn c.loop-index-test.true is b);
      whole = λ turns are. c.loop-index.invariant.whole (c.in-Some.field-0 ∷ turns) (records-with c.args.count c.loop-index.index c.loop-index.rest.now c.after_record-rest.result.now c.in-Some.field-0 turns c.loop-index-test.true is are);
    }

pub returns-then-is_empty : goal.returns-then-is_empty
returns-then-is_empty c =
    let none : length c.loop-index.rest.now ≡ 0 = grind (arith, nat_tests) in
    c.loop-index.invariant.whole [] (no-records c.args.count c.loop-index.index c.loop-index.rest.now (omega arith) none)
