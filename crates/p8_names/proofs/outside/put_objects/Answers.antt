use Rattle.std.proofs.Common.{[], ◌++◌, refl, ap, ◌∙◌, arith}
use Rattle.std.specs.Prelude.{option_map}
use Rattle.std.specs.Map.{lookup}
use Rattle.std.specs.Str.{bytes_eq}
use Rattle.p8_fold.specs.declared.meanings.Meaning.TheVariants.{Value}
use Rattle.p8_fold.specs.ConstantEntries.{setting_of}
use Rattle.p8_constants.specs.Standing.{item_of, items_of}
use Rattle.p8_names.specs.Settings.{object_with, constant_of_child, with_children}
use Rattle.p8_names.proofs.Objects.{objects_begin, same_begin, next_children, last_children, same_then}
use Rattle.p8_names.proofs.outside.put_objects.Goals as goal

pub loop-item-init : goal.loop-item-init
loop-item-init c = ([], objects_begin (setting_of c.args.consts.now) c.new-seen.result c.requires c.new-seen.ensures, refl, same_begin (setting_of c.args.consts.now))

pub loop-item-preserved : goal.loop-item-preserved
loop-item-preserved c =
    let done = c.loop-item.invariant.0 in (
      done ++ object_with (item_of c.item-item.result) c.loop-item.left.now,
      c.in_ok-left.ensures.objects done c.loop-item.invariant.1,
      next_children c.args.items.now c.loop-item.item-index c.item-item.result (with_children (items_of c.args.items.now) c.args.children.now) done c.loop-item.left.now c.in_ok-left.left.now (omega arith) c.item-item.is c.loop-item.invariant.2 c.in_ok-left.ensures.rest,
      same_then c.loop-item.invariant.3 c.in_ok-left.ensures.same,
    )

pub returns-clause-constants : goal.returns-clause-constants
returns-clause-constants c = λ owner n.
    let done = c.loop-item.invariant.0 in
    c.loop-item.invariant.1.constants owner n
    ∙ ap (λ d. option_map Value (constant_of_child (lookup (bytes_eq owner) d) n)) (last_children c.args.items.now c.loop-item.item-index (with_children (items_of c.args.items.now) c.args.children.now) done c.loop-item.left.now (omega arith) c.loop-item.invariant.2)

pub returns-clause-same : goal.returns-clause-same
returns-clause-same c = c.loop-item.invariant.3
