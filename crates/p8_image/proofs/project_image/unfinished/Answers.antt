use Rattle.std.proofs.Common.{ℕ, List, ◌++◌, ◌∙◌, ap}
use Rattle.p8_image.specs.Layout.{objects_bytes}
use Rattle.p8_image.proofs.Placing.{unfinished_is}
use Rattle.p8_image.proofs.project_image.unfinished.Goals as goal

pub returns : goal.returns
returns c =
    unfinished_is c.args.clock c.args.objects.now c.args.header c.in_ok-bases.bases.items c.args.sizes.now
    c.new-bytes.result.items c.push_header.new.out.items c.push_objects.new.out.items
    c.requires.header c.in_ok-bases.ensures c.requires.sizes c.new-bytes.ensures.items c.in_ok-push_header.ensures
    (c.in_ok-push_objects.ensures
    ∙ ap (λ (bases : List ℕ). c.push_header.new.out.items ++ objects_bytes bases c.args.sizes.now 16 c.args.objects.now) c.deref.ensures.value)
