use Rattle.std.proofs.Common.{◌+◌, drop, arith}
use Rattle.std.proofs.lemmas.List.{drop_all}
use Rattle.std.proofs.Common.{ap}
use Rattle.p8_kinds.specs.declared.name_kinds.NameKind.TheVariants as kind
use Rattle.p8_names.specs.Kinds.{param_kinds}
use Rattle.p8_names.proofs.OwnNames.{whole_of, own_next, own_last, others_more, params_rest, offset_next}
use Rattle.p8_names.proofs.own_kinds.enter_params.Goals as goal

pub loop-name-preserved : goal.loop-name-preserved
loop-name-preserved c =
    let ns = c.args.params.now in
    let i = c.loop-name.name-index in
    let name = c.name-item.result in
    let number = c.args.number in (
      offset_next c.loop-name.offset c.advanced-offset.result (i + 1) 1 c.loop-name.invariant.0 c.advanced-offset.ensures,
      own_next c.loop-name.kinds c.enter.new.kinds number name (kind.Local c.loop-name.offset) (whole_of c.args.kinds.now number (param_kinds 1 ns)) (param_kinds (i + 1) (drop i ns)) (param_kinds (i + 1 + 1) (drop (i + 1) ns))
          (params_rest ns i name c.loop-name.offset (omega arith) c.name-item.is c.loop-name.invariant.0) c.loop-name.invariant.1 c.in_ok-enter.ensures,
      others_more c.args.kinds.now c.loop-name.kinds c.enter.new.kinds number name (kind.Local c.loop-name.offset) c.loop-name.invariant.2 c.in_ok-enter.ensures,
    )

pub returns : goal.returns
returns c =
    own_last c.args.kinds.now c.loop-name.kinds c.args.number (param_kinds 1 c.args.params.now) (param_kinds (c.loop-name.name-index + 1) (drop c.loop-name.name-index c.args.params.now))
    (ap (param_kinds (c.loop-name.name-index + 1)) (drop_all c.loop-name.name-index c.args.params.now (omega arith))) c.loop-name.invariant.1 c.loop-name.invariant.2
