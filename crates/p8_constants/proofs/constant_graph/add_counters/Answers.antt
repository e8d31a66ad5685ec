use Rattle.std.proofs.Common.{◌≡◌, length, subst, arith}
use Rattle.p8_constants.specs.Rows.{rows_from, IsGraphBy}
use Rattle.p8_constants.proofs.Growing.{counter_added}
use Rattle.p8_constants.proofs.constant_graph.add_counters.Goals as goal

pub loop-k-preserved : goal.loop-k-preserved
loop-k-preserved c = λ find h. counter_added find (rows_from c.args.rows.now) (length c.args.rows.now) c.loop-k.k c.loop-k.graph c.push.new.self _ (c.loop-k.invariant find h) c.in_ok-push.ensures.ok c.in_ok-before.ensures

pub returns : goal.returns
returns c = λ find h.
    let all : c.loop-k.k ≡ length c.args.rows.now = omega arith in
    subst (λ k. IsGraphBy find (rows_from c.args.rows.now) (length c.args.rows.now) k c.loop-k.graph) all (c.loop-k.invariant find h)
