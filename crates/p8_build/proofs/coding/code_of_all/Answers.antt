use Rattle.std.proofs.Common.{◌≡◌, length, map, arith, Bor, refl}
use Rattle.std.proofs.lemmas.List.{length-map}
use Rattle.p8_tree.specs.declared.sources.Method.{Method}
use Rattle.p8_tree.specs.Sources.{MethodTree}
use Rattle.p8_tree.specs.Views.{method_of}
use Rattle.p8_build.specs.Files.{names_with}
use Rattle.p8_build.proofs.Lists.{mapped}
use Rattle.p8_build.proofs.OneByOne.{coded_none, code_more, coded_all}
use Rattle.p8_build.proofs.coding.code_of_all.Goals as goal

abbrev tree : Bor Method → MethodTree
tree m = method_of m.now

pub add_code-requires : goal.add_code-requires
add_code-requires c =
    c.requires.each c.loop-index.index (tree c.index-methods-index.result) (mapped tree c.args.methods.now c.loop-index.index c.index-methods-index.result c.loop-index-test.true c.index-methods-index.is)

pub loop-index-init : goal.loop-index-init
loop-index-init c = coded_none (names_with c.args.kinds.now c.args.tables.now) (map tree c.args.methods.now) _ c.new.ensures refl

pub loop-index-preserved : goal.loop-index-preserved
loop-index-preserved c =
    code_more (names_with c.args.kinds.now c.args.tables.now) (map tree c.args.methods.now) c.loop-index.index (tree c.index-methods-index.result) c.loop-index.coded c.add_code.new.coded
    (mapped tree c.args.methods.now c.loop-index.index c.index-methods-index.result c.loop-index-test.true c.index-methods-index.is) c.in_ok-add_code.ensures c.loop-index.invariant

pub returns : goal.returns
returns c =
    let all : c.loop-index.index ≡ length (map tree c.args.methods.now) = omega (arith, length-map c.args.methods.now tree) in
    coded_all (names_with c.args.kinds.now c.args.tables.now) (map tree c.args.methods.now) c.loop-index.index c.loop-index.coded all c.loop-index.invariant
