use Rattle.std.proofs.Common.{◌≡◌, ◌∙◌, length, sym, arith}
use Rattle.p8_tree.specs.Views.{source_of}
use Rattle.p8_fold.specs.ConstantEntries.{setting_of, at_bytes}
use Rattle.p8_constants.proofs.Stepping.{sized, first_place, outside_stands, constants_have, others_have_none, objects_stand, here_stands, first_fault}
use Rattle.p8_constants.proofs.found.constants_of.Goals as goal

pub loop-place-init : goal.loop-place-init
loop-place-init c =
    let size : length c.in_ok-vec.field-0.items ≡ length c.in_ok-plan.plan.numbers.items = omega (arith, c.in_ok-vec.field-0.ok.0, c.in_ok-vec.ensures.len, c.len.ensures, c.in_ok-plan.plan.numbers.ok.0) in
    first_place (setting_of c.args.outside) (source_of c.args.file.now) c.in_ok-plan.plan.rows (λ n. at_bytes n c.in_ok-plan.plan.index.names) c.in_ok-plan.plan.numbers.items c.in_ok-plan.plan.order.items c.in_ok-plan.ensures.rows c.in_ok-plan.ensures.plan c.in_ok-vec.field-0.items size

pub evaluate-requires-clause-sized : goal.evaluate-requires-clause-sized
evaluate-requires-clause-sized c = sized (setting_of c.args.outside) (source_of c.args.file.now) c.in_ok-plan.plan.rows (λ n. at_bytes n c.in_ok-plan.plan.index.names) c.in_ok-plan.plan.numbers.items c.in_ok-plan.plan.order.items c.in_ok-plan.ensures.rows c.in_ok-plan.ensures.plan c.loop-place.evaluation.values.items (c.loop-place.invariant.size ∙ sym c.in_ok-plan.ensures.plan.size)

pub loop-place-preserved : goal.loop-place-preserved
loop-place-preserved c = c.in_ok-evaluate.ensures.evaluated (setting_of c.args.outside) (source_of c.args.file.now) c.in_ok-plan.ensures.rows c.in_ok-plan.ensures.plan c.loop-place.invariant

pub enter_all-requires : goal.enter_all-requires
enter_all-requires c = record { sized = sized (setting_of c.args.outside) (source_of c.args.file.now) c.in_ok-plan.plan.rows (λ n. at_bytes n c.in_ok-plan.plan.index.names) c.in_ok-plan.plan.numbers.items c.in_ok-plan.plan.order.items c.in_ok-plan.ensures.rows c.in_ok-plan.ensures.plan c.loop-place.evaluation.values.items (c.loop-place.invariant.size ∙ sym c.in_ok-plan.ensures.plan.size) }

pub returns-clause-outside : goal.returns-clause-outside
returns-clause-outside c =
    let all : c.loop-place.place ≡ length c.in_ok-plan.plan.order.items = omega (arith, c.in_ok-plan.plan.order.ok.0, c.len-place-end.ensures, c.loop-place-test.false, c.loop-place.auto.place-end) in
    outside_stands (setting_of c.args.outside) (source_of c.args.file.now) c.in_ok-plan.plan.rows (λ n. at_bytes n c.in_ok-plan.plan.index.names) c.in_ok-plan.plan.numbers.items c.in_ok-plan.plan.order.items c.in_ok-plan.ensures.rows c.in_ok-plan.ensures.plan c.loop-place.place c.loop-place.evaluation.values.items (setting_of c.loop-place.evaluation.consts) (setting_of c.enter_all.new.self.consts) c.loop-place.evaluation.fault c.enter_all.new.self.fault c.loop-place.invariant all c.in_ok-enter_all.ensures.entered

pub returns-clause-constants : goal.returns-clause-constants
returns-clause-constants c =
    let all : c.loop-place.place ≡ length c.in_ok-plan.plan.order.items = omega (arith, c.in_ok-plan.plan.order.ok.0, c.len-place-end.ensures, c.loop-place-test.false, c.loop-place.auto.place-end) in
    constants_have (setting_of c.args.outside) (source_of c.args.file.now) c.in_ok-plan.plan.rows (λ n. at_bytes n c.in_ok-plan.plan.index.names) c.in_ok-plan.plan.numbers.items c.in_ok-plan.plan.order.items c.in_ok-plan.ensures.rows c.in_ok-plan.ensures.plan c.loop-place.place c.loop-place.evaluation.values.items (setting_of c.loop-place.evaluation.consts) (setting_of c.enter_all.new.self.consts) c.loop-place.evaluation.fault c.enter_all.new.self.fault c.loop-place.invariant all c.in_ok-enter_all.ensures.entered

pub returns-clause-others : goal.returns-clause-others
returns-clause-others c =
    let all : c.loop-place.place ≡ length c.in_ok-plan.plan.order.items = omega (arith, c.in_ok-plan.plan.order.ok.0, c.len-place-end.ensures, c.loop-place-test.false, c.loop-place.auto.place-end) in
    others_have_none (setting_of c.args.outside) (source_of c.args.file.now) c.in_ok-plan.plan.rows (λ n. at_bytes n c.in_ok-plan.plan.index.names) c.in_ok-plan.plan.numbers.items c.in_ok-plan.plan.order.items c.in_ok-plan.ensures.rows c.in_ok-plan.ensures.plan c.loop-place.place c.loop-place.evaluation.values.items (setting_of c.loop-place.evaluation.consts) (setting_of c.enter_all.new.self.consts) c.loop-place.evaluation.fault c.enter_all.new.self.fault c.loop-place.invariant all c.in_ok-enter_all.ensures.entered

pub returns-clause-objects : goal.returns-clause-objects
returns-clause-objects c =
    let all : c.loop-place.place ≡ length c.in_ok-plan.plan.order.items = omega (arith, c.in_ok-plan.plan.order.ok.0, c.len-place-end.ensures, c.loop-place-test.false, c.loop-place.auto.place-end) in
    objects_stand (setting_of c.args.outside) (source_of c.args.file.now) c.in_ok-plan.plan.rows (λ n. at_bytes n c.in_ok-plan.plan.index.names) c.in_ok-plan.plan.numbers.items c.in_ok-plan.plan.order.items c.in_ok-plan.ensures.rows c.in_ok-plan.ensures.plan c.loop-place.place c.loop-place.evaluation.values.items (setting_of c.loop-place.evaluation.consts) (setting_of c.enter_all.new.self.consts) c.loop-place.evaluation.fault c.enter_all.new.self.fault c.loop-place.invariant all c.in_ok-enter_all.ensures.entered

pub returns-clause-here : goal.returns-clause-here
returns-clause-here c =
    let all : c.loop-place.place ≡ length c.in_ok-plan.plan.order.items = omega (arith, c.in_ok-plan.plan.order.ok.0, c.len-place-end.ensures, c.loop-place-test.false, c.loop-place.auto.place-end) in
    here_stands (setting_of c.args.outside) (source_of c.args.file.now) c.in_ok-plan.plan.rows (λ n. at_bytes n c.in_ok-plan.plan.index.names) c.in_ok-plan.plan.numbers.items c.in_ok-plan.plan.order.items c.in_ok-plan.ensures.rows c.in_ok-plan.ensures.plan c.loop-place.place c.loop-place.evaluation.values.items (setting_of c.loop-place.evaluation.consts) (setting_of c.enter_all.new.self.consts) c.loop-place.evaluation.fault c.enter_all.new.self.fault c.loop-place.invariant all c.in_ok-enter_all.ensures.entered

pub returns-clause-fault : goal.returns-clause-fault
returns-clause-fault c =
    let all : c.loop-place.place ≡ length c.in_ok-plan.plan.order.items = omega (arith, c.in_ok-plan.plan.order.ok.0, c.len-place-end.ensures, c.loop-place-test.false, c.loop-place.auto.place-end) in
    first_fault (setting_of c.args.outside) (source_of c.args.file.now) c.in_ok-plan.plan.rows (λ n. at_bytes n c.in_ok-plan.plan.index.names) c.in_ok-plan.plan.numbers.items c.in_ok-plan.plan.order.items c.in_ok-plan.ensures.rows c.in_ok-plan.ensures.plan c.loop-place.place c.loop-place.evaluation.values.items (setting_of c.loop-place.evaluation.consts) (setting_of c.enter_all.new.self.consts) c.loop-place.evaluation.fault c.enter_all.new.self.fault c.loop-place.invariant all c.in_ok-enter_all.ensures.entered c.in_ok-enter_all.ensures.fault
