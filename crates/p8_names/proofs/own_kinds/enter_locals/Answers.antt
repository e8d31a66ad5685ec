use Rattle.std.proofs.Common.{◌+◌, ◌*◌, map, drop, refl, ap, ◌∙◌, arith}
use Rattle.std.specs.Prelude.{min}
use Rattle.std.proofs.lemmas.List.{drop_all}
use Rattle.p8_tree.specs.Views.{declared_of}
use Rattle.p8_fold.specs.ConstantEntries.{setting_of}
use Rattle.p8_constants.specs.Rules.{count_in}
use Rattle.p8_kinds.specs.declared.name_kinds.NameKind.TheVariants as kind
use Rattle.p8_names.specs.Kinds.{greatest_offset, local_kinds}
use Rattle.p8_names.proofs.OwnNames.{whole_of, own_next, own_last, others_more, locals_rest, offset_next}
use Rattle.p8_names.proofs.own_kinds.enter_locals.Goals as goal

pub loop-local-init : goal.loop-local-init
loop-local-init c = (λ first e. (first, e, λ n. refl), λ m n ne. refl)

pub loop-local-preserved : goal.loop-local-preserved
loop-local-preserved c =
    let s = setting_of c.args.consts.now in
    let ls = c.args.locals.now in
    let i = c.loop-local.local-index in
    let x = c.local-item.result in
    let number = c.args.number in
    let offset = c.loop-local.offset in (
      λ first e.
          let was = c.loop-local.invariant.0 first e in
          let count = count_in s (declared_of x).count in (
            was.0 + count,
            offset_next offset c.advanced-offset.result was.0 count was.1 (c.advanced-offset.ensures ∙ ap (λ n. min (offset + 4 * n) greatest_offset) (c.from.ensures ∙ c.count_of_local.ensures)),
            own_next c.loop-local.kinds c.enter.new.kinds number x.name (kind.Local offset) (whole_of c.args.kinds.now number (local_kinds s first (map declared_of ls))) (local_kinds s was.0 (map declared_of (drop i ls))) (local_kinds s (was.0 + count) (map declared_of (drop (i + 1) ls)))
                (locals_rest s ls i x was.0 offset (omega arith) c.local-item.is was.1) was.2 c.in_ok-enter.ensures,
          ),
      others_more c.args.kinds.now c.loop-local.kinds c.enter.new.kinds number x.name (kind.Local offset) c.loop-local.invariant.1 c.in_ok-enter.ensures,
    )

pub returns : goal.returns
returns c = λ first e.
    let was = c.loop-local.invariant.0 first e in
    own_last c.args.kinds.now c.loop-local.kinds c.args.number (local_kinds (setting_of c.args.consts.now) first (map declared_of c.args.locals.now)) (local_kinds (setting_of c.args.consts.now) was.0 (map declared_of (drop c.loop-local.local-index c.args.locals.now)))
    (ap (λ ys. local_kinds (setting_of c.args.consts.now) was.0 (map declared_of ys)) (drop_all c.loop-local.local-index c.args.locals.now (omega arith))) was.2 c.loop-local.invariant.1
