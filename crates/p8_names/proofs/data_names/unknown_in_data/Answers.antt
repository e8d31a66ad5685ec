use Rattle.std.proofs.Common.{◌+◌, map, drop, subst, arith}
use Rattle.p8_tree.specs.Views.{datum_of}
use Rattle.p8_kinds.specs.Environments.{environment_of}
use Rattle.p8_constants.proofs.Listed.{rest_is, rest_is_empty}
use Rattle.p8_constants.proofs.FirstFaults.{IsSoFar, so_far_begin, so_far_then, so_far_end}
use Rattle.p8_names.specs.Faults.{UnknownInData}
use Rattle.p8_names.specs.Regions.{UnknownInDatum}
use Rattle.p8_names.proofs.data_names.unknown_in_data.Goals as goal

pub loop-item-init : goal.loop-item-init
loop-item-init c = so_far_begin _

pub loop-item-preserved : goal.loop-item-preserved
loop-item-preserved c =
    let env = environment_of c.args.scope.now in
    let ds = c.args.items.now in
    let i = c.loop-item.item-index in
    let d = c.item-item.result in
    let here = subst (λ ys. IsSoFar (UnknownInData env (map datum_of ds)) c.loop-item.first (UnknownInData env (map datum_of ys))) (rest_is ds i d (omega arith) c.item-item.is) c.loop-item.invariant in
    so_far_then {Own = UnknownInDatum env (datum_of d)} {Left = UnknownInData env (map datum_of (drop (i + 1) ds))} c.loop-item.first c.unknown_in_datum.result here c.unknown_in_datum.ensures c.first_of_two-first.ensures

pub returns : goal.returns
returns c = so_far_end c.loop-item.first (λ g r. subst (λ ys. UnknownInData (environment_of c.args.scope.now) (map datum_of ys) g) (rest_is_empty c.args.items.now c.loop-item.item-index (omega arith)) r) c.loop-item.invariant
