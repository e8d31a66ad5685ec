use Rattle.std.proofs.Common.{◌<◌, map, length, ap, arith}
use Rattle.std.proofs.lemmas.List.{length-map}
use Rattle.p8_fold.specs.ConstantEntries.{setting_of, at_bytes}
use Rattle.p8_constants.proofs.Growing.{prepared_more, name_read}
use Rattle.p8_constants.proofs.evaluation.Evaluation.prepare.Goals as goal

pub loop-name-preserved : goal.loop-name-preserved
loop-name-preserved c =
    let within : c.loop-name.name-index < length (map (λ t. t.now) c.as_slice-name-items.result.now) = omega (arith, length-map c.as_slice-name-items.result.now (λ t. t.now), c.loop-name-test.true) in
    record {
      values = c.loop-name.invariant.values;
      fault = c.loop-name.invariant.fault;
      prepared = prepared_more (λ n. at_bytes n c.args.plan.now.index.names) c.args.plan.now.numbers.items c.args.self.now.values.items c.args.node (map (λ t. t.now) c.as_slice-name-items.result.now) c.loop-name.name-index c.name-item.result.now (setting_of c.args.self.now.consts) (setting_of c.loop-name.self.consts) (setting_of c.enter.new.consts) c.meaning-meaning.result within
          (name_read c.as_slice-name-items.result.now c.loop-name.name-index c.name-item.result c.loop-name-test.true c.name-item.is)
          c.loop-name.invariant.prepared c.loop-name.self.values.items (ap (λ v. v.items) c.loop-name.invariant.values) c.meaning-meaning.ensures c.in_ok-enter.ensures;
    }
