use Rattle.std.proofs.Common.{map, ap, ◌∙◌}
use Rattle.p8_tree.specs.Views.{named_source_of}
use Rattle.p8_build.specs.Phases.{object_in}
use Rattle.p8_build.proofs.Lists.{map_more}
use Rattle.p8_build.proofs.objects.objects_of_all.Goals as goal

pub loop-file-preserved : goal.loop-file-preserved
loop-file-preserved c =
    let files = map named_source_of c.args.files.now in
    let f = c.file-item.result in
    map_more (λ g. object_in files g g.codes) c.args.accepted.now c.loop-file.file-index f c.loop-file.objects c.push.new.self c.in_ok-object_of_codes.field-0 c.loop-file-test.true c.file-item.is c.loop-file.invariant
    (c.in_ok-object_of_codes.ensures.made ∙ ap (object_in files f) c.as_slice.ensures) c.in_ok-push.ensures.ok
