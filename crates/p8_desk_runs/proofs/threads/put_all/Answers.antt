use Rattle.std.proofs.Common.{◌≡◌, ◌≢◌, ◌∙◌, ap, sym, List, Option, Some, None, arith}
use Rattle.std.specs.Prelude.{slice_get, slice_set}
use mathlib.Core.Logic.{dite}
use native.Mathlib.Decide.{ℕ_discrete}
use Rattle.p8_desk.specs.Passes.{PassValue}
use Rattle.p8_desk.proofs.Gathering.{set-beside, set-there, at-below}
use Rattle.p8_desk_runs.proofs.threads.put_all.Goals as goal

pub put_back-requires : goal.put_back-requires
put_back-requires c =
    let below = c.loop-cog-test.true in
    let inv = c.loop-cog.invariant in
    let one = c.requires.there c.loop-cog.cog (omega arith) in
    record { there = (omega arith, one.0, inv.rest c.loop-cog.cog (omega arith) ∙ one.1, one.2, inv.out c.loop-cog.cog (omega arith) (omega arith)) }

pub loop-cog-preserved : goal.loop-cog-preserved
loop-cog-preserved c =
    let below = c.loop-cog-test.true in
    let inv = c.loop-cog.invariant in
    let one = c.requires.there c.loop-cog.cog (omega arith) in
    let put = c.put_back.ensures.put one.0 (inv.rest c.loop-cog.cog (omega arith) ∙ one.1) in
    let room = at-below c.loop-cog.passes c.loop-cog.cog None (inv.out c.loop-cog.cog (omega arith) (omega arith)) in record {
      same = λ n lt. ap (λ (l : List (Option PassValue)). slice_get l n) put ∙ dite (ℕ_discrete n c.loop-cog.cog)
          (λ (here : n ≡ c.loop-cog.cog). ap (slice_get (slice_set c.loop-cog.passes c.loop-cog.cog (Some one.0))) here ∙ set-there c.loop-cog.passes c.loop-cog.cog (Some one.0) room ∙ sym one.1 ∙ ap (slice_get c.args.places.now) (sym here))
          (λ (apart : n ≢ c.loop-cog.cog). set-beside c.loop-cog.passes c.loop-cog.cog n (Some one.0) apart ∙ inv.same n (omega arith));
      rest = λ n le. ap (λ (l : List (Option PassValue)). slice_get l n) c.put_back.ensures.left ∙ set-beside c.loop-cog.places c.loop-cog.cog n None (λ e. omega arith) ∙ inv.rest n (omega arith);
      out = λ n le lt. ap (λ (l : List (Option PassValue)). slice_get l n) put ∙ set-beside c.loop-cog.passes c.loop-cog.cog n (Some one.0) (λ e. omega arith) ∙ inv.out n (omega arith) lt;
    }
