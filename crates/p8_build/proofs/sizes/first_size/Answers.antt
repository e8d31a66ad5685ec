use Rattle.std.proofs.Common.{◌≡◌, length, map, ap, sym, ◌∙◌, arith, Bor}
use Rattle.std.proofs.lemmas.List.{length-map}
use Rattle.p8_tree.specs.declared.sources.Method.{Method}
use Rattle.p8_tree.specs.Sources.{MethodTree}
use Rattle.p8_tree.specs.Views.{method_of}
use Rattle.p8_gen.specs.Scopes.{names_from}
use Rattle.p8_stmt.specs.Methods.{size_of}
use Rattle.p8_build.specs.Files.{names_with}
use Rattle.p8_build.proofs.Lists.{mapped}
use Rattle.p8_build.proofs.Sized.{none_yet, size_found, size_later, size_nowhere}
use Rattle.p8_build.proofs.sizes.first_size.Goals as goal

abbrev tree : Bor Method → MethodTree
tree m = method_of m.now

pub loop-index-init : goal.loop-index-init
loop-index-init c = none_yet (names_with c.args.kinds.now c.args.tables.now) (map tree c.args.methods.now) c.args.place

pub returns-then-is_refused_at : goal.returns-then-is_refused_at
returns-then-is_refused_at c =
    let m = tree c.index-methods-index.result in
    size_found (names_with c.args.kinds.now c.args.tables.now) (map tree c.args.methods.now) c.args.place c.loop-index.index m c.method_size-size.result c.loop-index.invariant
    (mapped tree c.args.methods.now c.loop-index.index c.index-methods-index.result c.loop-index-test.true c.index-methods-index.is)
    (c.method_size-size.ensures ∙ ap (λ k. size_of (names_from c.args.kinds.now k c.args.tables.now m.place) m) c.in_ok-number.ensures)
    (sym c.is_refused_at.ensures ∙ c.if-is_refused_at.true)

pub loop-index-preserved : goal.loop-index-preserved
loop-index-preserved c =
    let m = tree c.index-methods-index.result in
    size_later (names_with c.args.kinds.now c.args.tables.now) (map tree c.args.methods.now) c.args.place c.loop-index.index m c.method_size-size.result c.loop-index.invariant
    (mapped tree c.args.methods.now c.loop-index.index c.index-methods-index.result c.loop-index-test.true c.index-methods-index.is)
    (c.method_size-size.ensures ∙ ap (λ k. size_of (names_from c.args.kinds.now k c.args.tables.now m.place) m) c.in_ok-number.ensures)
    (sym c.is_refused_at.ensures ∙ c.if-is_refused_at.false)

pub returns : goal.returns
returns c =
    let all : c.loop-index.index ≡ length (map tree c.args.methods.now) = omega (arith, length-map c.args.methods.now tree) in
    size_nowhere (names_with c.args.kinds.now c.args.tables.now) (map tree c.args.methods.now) c.args.place c.loop-index.index all c.loop-index.invariant
