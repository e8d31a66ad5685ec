use Rattle.std.proofs.Common.{◌≡◌, length, arith}
use Rattle.std.proofs.lemmas.Bool.Decides.{nat_tests}
use Rattle.p8_tree.specs.Views.{statements_of}
use Rattle.p8_meaning.proofs.Bodies.{arms-put, done-as}
use Rattle.p8_meaning.proofs.statements.put_arms.Goals as goal

pub returns-else-is_empty : goal.returns-else-is_empty
returns-else-is_empty c =
    let some : ¬ (length c.as_slice.result.now ≡ 0) = grind (arith, nat_tests) in
    done-as c.push.result (statements_of c.push.new.out.items) _ _ (arms-put (statements_of c.args.out.now.items) c.args.place c.args.arms c.args.other c.as_slice.result.now c.as_slice.ensures.value some) c.push.ensures
