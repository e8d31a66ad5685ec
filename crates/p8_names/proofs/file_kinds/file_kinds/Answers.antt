use Rattle.std.proofs.Common.{◌≡◌, ◌+◌, ◌∷◌, take, drop, get_or, ap, ◌∙◌, subst, arith}
use Rattle.std.proofs.lemmas.Grind.{common_steps}
use Rattle.p8_fold.specs.ConstantEntries.{setting_of}
use Rattle.p8_constants.specs.Names.{name_of}
use Rattle.p8_constants.specs.Standing.{item_of, items_of}
use Rattle.p8_constants.proofs.Walking.{item_is, rest_of}
use Rattle.p8_names.specs.Kinds.{label_size, item_kind}
use Rattle.p8_names.specs.Counting.{HasSize, IsEntered, IsNext}
use Rattle.p8_names.proofs.Entering.{items_next, before_more}
use Rattle.p8_names.proofs.file_kinds.file_kinds.Goals as goal

pub item_kind-kind-requires : goal.item_kind-kind-requires
item_kind-kind-requires c = item_is HasSize c.args.items.now c.loop-index.index c.index-items-index.result c.requires.sizes c.loop-index-test.true c.index-items-index.is

pub go_behind-requires : goal.go_behind-requires
go_behind-requires c = item_is HasSize c.args.items.now c.loop-index.index c.index-items-index.result c.requires.sizes c.loop-index-test.true c.index-items-index.is

pub loop-index-preserved : goal.loop-index-preserved
loop-index-preserved c =
    let s = setting_of c.args.consts.now in
    let xs = c.args.items.now in
    let i = c.loop-index.index in
    let x = c.index-items-index.result in
    let before = items_of (take i xs) in
    let next = c.loop-index.invariant.2 in
    let label : c.index.result.now ≡ get_or c.in_ok-labels.labels.items i 0 = grind (arith, common_steps, c.index.ensures) in
    let size : c.index.result.now ≡ label_size (item_of x ∷ items_of (drop (i + 1) xs)) =
    label ∙ c.in_ok-labels.ensures.each i c.loop-index-test.true ∙ ap label_size (rest_of xs i x c.loop-index-test.true c.index-items-index.is) in
    let kind : c.item_kind-kind.result ≡ item_kind s (items_of xs) before (item_of x) (items_of (drop (i + 1) xs)) =
    c.item_kind-kind.ensures (items_of xs) before (items_of (drop (i + 1) xs)) next size in
    let put : IsEntered c.loop-index.kinds c.enter.new.kinds (name_of (item_of x)) c.item_kind-kind.result =
    subst (λ o. IsEntered c.loop-index.kinds c.enter.new.kinds o c.item_kind-kind.result) c.name.ensures c.in_ok-enter.ensures in (
      λ n. items_next s (items_of xs) _ c.loop-index.kinds c.enter.new.kinds xs i x c.item_kind-kind.result n c.loop-index-test.true c.index-items-index.is kind (c.loop-index.invariant.0 n) put,
      λ m n p. put.methods m n p ∙ c.loop-index.invariant.1 m n p,
      subst (λ b. IsNext s (items_of xs) b c.go_behind.new.next) (before_more xs i x c.loop-index-test.true c.index-items-index.is) (c.in_ok-go_behind.ensures (items_of xs) before next),
    )
