use Rattle.std.proofs.Common.{◌+◌, List, ℕ, drop, subst}
use Rattle.p8_fold.specs.ConstantEntries.{setting_of}
use Rattle.p8_constants.specs.Repeats.{label_of}
use Rattle.p8_constants.specs.Standing.{item_of, items_of, IsFirstOf}
use Rattle.p8_constants.proofs.FirstFaults.{IsSoFar, so_far_begin, so_far_then}
use Rattle.p8_constants.proofs.Walking.{rest_of}
use Rattle.p8_kinds.specs.Environments.{Environment}
use Rattle.p8_names.specs.Faults.{labels_ahead, labels_at, HasUnknown, UnknownInLines}
use Rattle.p8_names.specs.Regions.{environment_at, IsInRegion}
use Rattle.p8_names.proofs.LocalLabels.{region_first, known_is}
use Rattle.p8_names.proofs.data_names.first_unknown_in_lines.Goals as goal

pub loop-index-init : goal.loop-index-init
loop-index-init c =
    let ahead = labels_ahead (items_of c.args.items.now) in
    (ahead, region_first c.args.scope.now c.enter_labels.new.kinds c.args.number ahead c.requires.free c.in_ok-enter_labels.ensures, so_far_begin _)

pub loop-index-preserved : goal.loop-index-preserved
loop-index-preserved c =
    let initial = c.args.scope.now in
    let now = c.come_to.new.scope in
    let env : List (List ℕ) → Environment = environment_at initial.kinds initial.publics (setting_of initial.consts) in
    let xs = c.args.items.now in
    let i = c.loop-index.index in
    let x = c.index-items-index.result in
    let rest = items_of (drop (i + 1) xs) in
    let region = c.loop-index.invariant.0 in
    let next = labels_at region (label_of (item_of x)) rest in
    let sees : IsInRegion initial now c.args.number next =
    subst (λ ys. IsInRegion initial now c.args.number (labels_at region (label_of (item_of x)) (items_of ys))) c.behind.ensures
    (subst (λ o. IsInRegion initial now c.args.number (labels_at region o (items_of c.behind.result.now))) c.label.ensures (c.in_ok-come_to.ensures initial c.args.number region c.loop-index.invariant.1)) in
    let own : IsFirstOf c.unknown_in_item.result (HasUnknown (env next) (item_of x)) =
    subst (λ e. IsFirstOf c.unknown_in_item.result (HasUnknown e (item_of x))) (known_is initial now c.args.number next c.requires.own sees) c.unknown_in_item.ensures in
    let whole = UnknownInLines env (labels_ahead (items_of xs)) (items_of xs) in
    let here = subst (λ ys. IsSoFar whole c.loop-index.first (UnknownInLines env region ys)) (rest_of xs i x c.loop-index-test.true c.index-items-index.is) c.loop-index.invariant.2 in
    (next, sees, so_far_then {Own = HasUnknown (env next) (item_of x)} {Left = UnknownInLines env next rest} c.loop-index.first c.unknown_in_item.result here own c.first_of_two-first.ensures)
