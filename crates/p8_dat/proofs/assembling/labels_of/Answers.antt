use Rattle.std.proofs.Common.{refl, ◌∙◌, arith}
use Rattle.p8_dat.proofs.Rows.{next_label}
use Rattle.p8_dat.proofs.assembling.labels_of.Goals as goal

pub loop-places-preserved : goal.loop-places-preserved
loop-places-preserved c =
    next_label c.args.kinds.now c.loop-places.places.now _ c.placed-item.result _ _ (omega (arith, c.in-len1-up.len_at_least)) c.placed-item.is refl c.in_ok-push_label.ensures
    ∙ c.loop-places.invariant
