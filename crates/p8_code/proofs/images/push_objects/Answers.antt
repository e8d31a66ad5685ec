use Rattle.std.proofs.Common.{◌∙◌, ◌++◌, List, ℕ, ap}
use Rattle.p8_code.specs.Images.{image_object}
use Rattle.p8_code.proofs.Counting.{one-object}
use Rattle.p8_code.proofs.images.push_objects.Goals as goal

pub objects-preserved : goal.objects-preserved
objects-preserved c =
    one-object c.objects.base c.objects.rest.now c.in-Some.size c.objects.out.items c.push_object.new.out.items _ c.behind-rest.result.now c.address_after-base.result
    c.in-Some.ensures.size c.in-Some.ensures.least c.in-Some.ensures.within
    (c.in_ok-push_object.ensures ∙ ap (λ (object : List ℕ). c.objects.out.items ++ image_object c.objects.base object) c.front.ensures)
    c.address_after-base.ensures c.behind-rest.ensures c.objects.invariant
