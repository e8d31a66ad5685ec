use Rattle.std.proofs.Common.{◌≡◌, ℕ, ◌+◌, ◌-◌, ◌∙◌, length, map, ap, sym, rules, arith}
use Rattle.std.proofs.lemmas.Grind.{common_steps}
use Rattle.p8_image.specs.Keeping.{kept, deepened}
use Rattle.p8_image.specs.Layout.{variables_within}
use Rattle.p8_image.proofs.Depths.{one_more, nothing_more, nothing_yet}
use Rattle.p8_image.proofs.plan.variables.Goals as goal
use Rattle.p8_image.proofs.plan.variables.Goals.{else-loop-depth-test, then-loop-depth-test+in_ok-deeper+then-eq}

pub loop-depth-init : goal.loop-depth-init
loop-depth-init c = let none = nothing_yet c.args.objects.now in grind (arith, common_steps, none)

pub loop-depth-preserved : goal.loop-depth-preserved
loop-depth-preserved c =
    c.in_ok-deeper.ensures ∙ ap (deepened c.args.objects.now) (c.deref.ensures.value ∙ c.loop-depth.invariant)
    ∙ sym (one_more c.args.objects.now c.loop-depth._depth)

pub returns : goal.returns
returns c =
    elim c.loop-depth-test.branch [
      | else-loop-depth-test w ↦
          let all : c.loop-depth._depth ≡ length c.args.objects.now = omega arith in
          c.loop-depth.invariant ∙ ap (λ (n : ℕ). map kept (variables_within n c.args.objects.now)) all
      | then-loop-depth-test+in_ok-deeper+then-eq w ↦
          let same : w.in_ok-deeper.deeper.items ≡ c.loop-depth.sizes.items = search rules in
          let steady : deepened c.args.objects.now c.loop-depth.sizes.items ≡ c.loop-depth.sizes.items =
          sym (w.in_ok-deeper.ensures ∙ ap (deepened c.args.objects.now) w.deref.ensures.value) ∙ same in
          let rest : c.loop-depth._depth + (length c.args.objects.now - c.loop-depth._depth) ≡ length c.args.objects.now = omega arith in
          nothing_more c.args.objects.now c.loop-depth._depth (length c.args.objects.now - c.loop-depth._depth) c.loop-depth.sizes.items c.loop-depth.invariant steady
          ∙ ap (λ (n : ℕ). map kept (variables_within n c.args.objects.now)) rest
    ]
