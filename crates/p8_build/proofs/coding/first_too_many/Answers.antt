use Rattle.std.proofs.Common.{◌≡◌, ◌≤◌, ◌-◌, min, map, Bor, arith, subst, sym}
use Rattle.p8_tree.specs.declared.sources.Method.{Method}
use Rattle.p8_tree.specs.Sources.{MethodTree}
use Rattle.p8_tree.specs.Views.{method_of}
use Rattle.p8_tree.specs.Faults.{IsFirstFault}
use Rattle.p8_build.specs.Coding.{IsOneTooMany}
use Rattle.p8_build.proofs.Lists.{mapped}
use Rattle.p8_build.proofs.OneByOne.{one_too_many}
use Rattle.p8_build.proofs.coding.first_too_many.Goals as goal

abbrev tree : Bor Method → MethodTree
tree m = method_of m.now

pub returns : goal.returns
returns c =
    let few : c.args.instances ≤ 255 = omega (arith, c.in_ok-left.ensures) in
    let is : c.min.result ≡ min (255 - c.args.instances) 254 = omega (arith, c.min.ensures, c.in_ok-left.ensures) in
    subst (IsFirstFault (IsOneTooMany c.args.instances (map tree c.args.methods.now))) (sym c.at.ensures)
    (one_too_many c.args.instances c.min.result (map tree c.args.methods.now) (tree c.in_ok-method.method.now) few is
    (mapped tree c.args.methods.now c.min.result c.in_ok-method.method.now c.in_ok-method.ensures.lookup.3.0 c.in_ok-method.ensures.lookup.1))
