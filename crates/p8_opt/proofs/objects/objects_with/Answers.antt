use Rattle.std.proofs.Common.{map, ap, ◌∙◌}
use Rattle.p8_tree.specs.Views.{named_source_of}
use Rattle.p8_build.specs.Phases.{object_in}
use Rattle.p8_opt.proofs.Recoding.{one-object-more}
use Rattle.p8_opt.proofs.objects.objects_with.Goals as goal

pub loop-index-preserved : goal.loop-index-preserved
loop-index-preserved c =
    let files = map named_source_of c.args.files.now in
    let f = c.index-accepted-index.result in
    one-object-more files c.args.accepted.now c.args.codes.now c.loop-index.index f c.index-codes-index.result c.loop-index.objects c.push.new.self c.in_ok-object.object
    c.loop-index-test.true c.requires.beside c.index-accepted-index.is c.index-codes-index.is c.loop-index.invariant
    (c.in_ok-object.ensures.made ∙ ap (object_in files f) c.as_slice-own.ensures) c.in_ok-push.ensures.ok
