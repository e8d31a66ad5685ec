use Rattle.p8_names.proofs.Looking.{one_found}
use Rattle.p8_names.proofs.finding.find.Goals as goal

pub loop-place-preserved : goal.loop-place-preserved
loop-place-preserved c =
    one_found c.args.project.now.files c.as_slice-files.result.now c.args.graph.now c.args.order.now c.loop-place.place c.index-files-node.result c.targets.result.now c.loop-place.found.children.items _ c.loop-place.found.seen.items _
    c.requires.behind c.requires.nodes c.as_slice-files.ensures c.loop-place-test.true c.index-files-node.is c.targets.ensures c.loop-place.invariant c.in_ok-look_at.ensures
