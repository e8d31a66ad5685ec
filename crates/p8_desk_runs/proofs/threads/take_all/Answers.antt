use Rattle.std.proofs.Common.{◌≡◌, ◌≢◌, ◌∙◌, ap, sym, List, Option, Some, None, arith}
use Rattle.std.specs.Prelude.{slice_get, slice_set}
use mathlib.Core.Logic.{dite}
use native.Mathlib.Decide.{ℕ_discrete}
use Rattle.p8_desk.specs.Passes.{PassValue}
use Rattle.p8_desk.proofs.Gathering.{set-beside, set-there, at-below}
use Rattle.p8_desk.proofs.Sharing.{length-set}
use Rattle.p8_desk_runs.proofs.threads.take_all.Goals as goal

pub take-requires : goal.take-requires
take-requires c =
    let below = c.loop-cog-test.true in
    let one = c.requires.there c.loop-cog.cog (omega arith) in
    (omega arith, one.0, c.loop-cog.invariant.rest c.loop-cog.cog (omega arith) ∙ one.1)

pub loop-cog-preserved : goal.loop-cog-preserved
loop-cog-preserved c =
    let below = c.loop-cog-test.true in
    let inv = c.loop-cog.invariant in
    let room = inv.room in
    let at = c.take.ensures.taken in record {
      same = λ n lt. dite (ℕ_discrete n c.loop-cog.cog)
          (λ (here : n ≡ c.loop-cog.cog). ap (slice_get (slice_set c.loop-cog.places c.loop-cog.cog (Some c.take.result))) here ∙ set-there c.loop-cog.places c.loop-cog.cog (Some c.take.result) (omega arith) ∙ sym at ∙ inv.rest c.loop-cog.cog (omega arith) ∙ ap (slice_get c.args.passes.now) (sym here))
          (λ (apart : n ≢ c.loop-cog.cog). set-beside c.loop-cog.places c.loop-cog.cog n (Some c.take.result) apart ∙ inv.same n (omega arith));
      rest = λ n le. ap (λ (l : List (Option PassValue)). slice_get l n) c.take.ensures.left ∙ set-beside c.loop-cog.passes c.loop-cog.cog n None (λ e. omega arith) ∙ inv.rest n (omega arith);
      out = λ n lt. ap (λ (l : List (Option PassValue)). slice_get l n) c.take.ensures.left ∙ dite (ℕ_discrete n c.loop-cog.cog)
          (λ (here : n ≡ c.loop-cog.cog). ap (slice_get (slice_set c.loop-cog.passes c.loop-cog.cog None)) here ∙ set-there c.loop-cog.passes c.loop-cog.cog None (at-below c.loop-cog.passes c.loop-cog.cog (Some c.take.result) at))
          (λ (apart : n ≢ c.loop-cog.cog). set-beside c.loop-cog.passes c.loop-cog.cog n None apart ∙ inv.out n (omega arith));
      room = length-set c.loop-cog.places c.loop-cog.cog (Some c.take.result) ∙ room;
    }
