use Rattle.std.proofs.Common.{◌<◌, length, map, refl, sym, subst, ◌∙◌, arith}
use Rattle.std.proofs.lemmas.Bool.Decides.{nat_tests}
use Rattle.p8_fold.specs.ConstantEntries.{setting_of}
use Rattle.p8_dat.specs.Placing.{placed_of, unplaced, AreHidden}
use Rattle.p8_dat.proofs.LocalLabels.{hidden_in_take, hidden_in_drop, next_region, next_told_region}
use Rattle.p8_dat.proofs.regions.put_regions.Goals as goal

pub put_region-requires : goal.put_region-requires
put_region-requires c =
    hidden_in_take (unplaced (setting_of c.args.values.now)) (unplaced (setting_of c.loop-places.values)) c.region_length-length.result c.loop-places.places.now c.loop-places.invariant.2 c.loop-places.invariant.3

pub loop-places-preserved : goal.loop-places-preserved
loop-places-preserved c =
    let s = setting_of c.args.counts.now in
    let t = unplaced (setting_of c.args.values.now) in
    let u = unplaced (setting_of c.loop-places.values) in
    let n = c.region_length-length.result in
    let ps = c.loop-places.places.now in
    let some : 0 < length ps = grind (arith, nat_tests) in (
      next_region s t u ps _ _ n _ _ some c.region_length-length.ensures.value refl c.behind-places.ensures c.loop-places.invariant.2 c.in_ok-put_region.ensures.bytes ∙ c.loop-places.invariant.0,
      next_told_region s t u ps _ _ n _ _ some c.region_length-length.ensures.value refl c.behind-places.ensures c.loop-places.invariant.2 c.in_ok-put_region.ensures.fault ∙ c.loop-places.invariant.1,
      c.in_ok-put_region.ensures.names ∙ c.loop-places.invariant.2,
      subst (λ rs. AreHidden t (map placed_of rs)) (sym c.behind-places.ensures) (hidden_in_drop t t n ps refl c.loop-places.invariant.3),
    )
