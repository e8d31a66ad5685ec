use Rattle.std.proofs.Common.{List, ℕ, sym, subst}
use Rattle.p8_image.specs.Loading.{IsImage}
use Rattle.p8_image.proofs.Imaging.{image_is_image, finished_is, unfinished_length}
use Rattle.p8_image.proofs.project_image.layout.Goals as goal

pub finished-requires-clause-header : goal.finished-requires-clause-header
finished-requires-clause-header c =
    (unfinished_length c.args.clock c.args.objects.now c.in_ok-bytes.bytes.items c.in_ok-bytes.ensures c.requires c.in-Some.ensures.fits).low

pub finished-requires-clause-hub : goal.finished-requires-clause-hub
finished-requires-clause-hub c =
    (unfinished_length c.args.clock c.args.objects.now c.in_ok-bytes.bytes.items c.in_ok-bytes.ensures c.requires c.in-Some.ensures.fits).high

pub from_vec-requires : goal.from_vec-requires
from_vec-requires c =
    let image = finished_is c.args.clock c.args.objects.now c.in_ok-bytes.bytes.items c.finished.result.items c.in_ok-bytes.ensures c.finished.ensures in
    let P : List ℕ → Type 0 = λ bytes. IsImage bytes in
    subst P (sym image) (image_is_image c.args.clock c.args.objects.now c.requires c.in-Some.ensures.fits)
