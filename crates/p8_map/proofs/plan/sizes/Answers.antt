use Rattle.std.proofs.Common.{◌≡◌, ◌∙◌, ap, sym, arith, ℕ, length}
use Rattle.std.proofs.lemmas.Grind.{common_steps}
use Rattle.p8_image.specs.Layout.{variables_within}
use Rattle.p8_map.specs.Map.{low}
use Rattle.p8_map.proofs.Places.{deepened, one_more, nothing_yet}
use Rattle.p8_map.proofs.plan.sizes.Goals as goal

pub loop-depth-init : goal.loop-depth-init
loop-depth-init c = let none = nothing_yet c.args.objects.now in grind (arith, common_steps, none)

pub loop-depth-preserved : goal.loop-depth-preserved
loop-depth-preserved c =
    c.in_ok-deeper.ensures ∙ ap (deepened c.args.objects.now) (c.deref.ensures.value ∙ c.loop-depth.invariant)
    ∙ sym (one_more c.args.objects.now c.loop-depth._depth)

pub returns : goal.returns
returns c =
    let all : c.loop-depth._depth ≡ length c.args.objects.now = omega arith in
    c.loop-depth.invariant ∙ ap (λ (n : ℕ). low (variables_within n c.args.objects.now)) all
