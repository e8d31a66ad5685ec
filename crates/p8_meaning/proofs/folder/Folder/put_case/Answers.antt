use Rattle.std.proofs.Common.{◌≡◌, rules}
use Rattle.p8_tree.specs.Views.{tree_of, statements_of}
use Rattle.p8_meaning.specs.Folding.{folded}
use Rattle.p8_meaning.specs.Copies.{constants_of}
use Rattle.p8_meaning.proofs.Bodies.{case-put, done-as}
use Rattle.p8_meaning.proofs.folder.Folder.put_case.Goals as goal

pub returns : goal.returns
returns c =
    let value : tree_of c.into_inner-value.result ≡ folded (constants_of c.args.self.now) (tree_of c.args.value.now) = search rules in
    done-as c.push.result (statements_of c.push.new.out.items) _ _ (case-put (statements_of c.args.out.now.items) c.args.place c.into_inner-value.result c.args.arms c.args.other _ value) c.push.ensures
