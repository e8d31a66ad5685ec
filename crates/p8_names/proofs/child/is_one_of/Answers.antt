use Rattle.p8_names.proofs.ShowingChildren.{told}
use Rattle.p8_names.proofs.child.is_one_of.Goals as goal

pub returns : goal.returns
returns c = λ names h. told names c.as_slice.result.now c.args.name.now c.has.result c.as_slice.ensures (c.has.ensures names h)
