-- Passes at seats of their own again.
use Rattle.std.proofs.Common.{◌≡◌, ◌≢◌, ◌∙◌, ap, sym, subst, refl, ℕ, ◌+◌, ◌<◌, List, [], length, Option, Some, true, arith}
use Rattle.std.specs.Prelude.{slice_get, slice_set}
use mathlib.Core.Logic.{dite}
use native.Mathlib.Decide.{ℕ_discrete}
use Rattle.p8_access.specs.Worlds.{World}
use Rattle.p8_desk.specs.declared.rider.Rider.{Rider}
use Rattle.p8_desk.specs.declared.rule.Known.{Known}
use Rattle.p8_desk.specs.Gathering.{RidesIn}
use Rattle.p8_desk.specs.PassSets.{AllThere, HasOver}
use Rattle.p8_desk.specs.Passes.{DeskValue, PassValue, Owns}
use Rattle.p8_desk.specs.Rules.{Hand, known, pass_alone, without_pass}
use Rattle.p8_desk.specs.Seats.{Idle, Keeps, Seated, or_new, pass_in}
use Rattle.p8_desk.proofs.Gathering.{set-beside, set-there, rider-same}
use Rattle.p8_desk.proofs.Lookups.{known-alone, none-beside}

-- the pass of a cog, parted from a seat
pub alone-seated : (w : World) (me : Hand) (riders : List (Option Rider)) (n : ℕ) → n < 8 → Idle w me → (one : RidesIn w me riders n) → Seated (pass_alone n me.0, []) one.rider × (pass_in (pass_alone n me.0, []) one.rider.cog ≡ one.p)
alone-seated w me riders n near idle one =
    let has : known (pass_alone n me.0).passes one.rider.cog ≡ Some one.p = ap (known (pass_alone n me.0).passes) one.cog ∙ known-alone me.0.passes n one.p one.has in
    let here : pass_in (pass_alone n me.0, []) one.rider.cog ≡ one.p = ap (or_new one.rider.cog) has in (
      record {
        idle = record { live = idle.live; free = refl; empty = refl; world = refl };
        near = subst (λ (m : ℕ). m < 8) (sym one.cog) near;
        has = has ∙ ap Some (sym here);
        alone = λ m ne. none-beside me.0.passes n one.p m one.has (λ e. ne (e ∙ sym one.cog));
        keeps = subst (λ (y : World × Known). Keeps y.0 y.1 one.rider) (λ i. (sym idle.world i, sym here i)) one.keeps;
      },
      here,
    )

pub idle-without : (w : World) (me : Hand) (n : ℕ) → Idle w me → Idle w (without_pass n me.0, me.1)
idle-without w me n idle = record { live = idle.live; free = refl; empty = idle.empty; world = idle.world }

-- a pass that is back
pub record IsBack (desk : DeskValue) (riders : List (Option Rider)) (places : List (Option PassValue)) (n : ℕ) : Type 0 where
  pub rider : Rider
  pub pass : PassValue
  pub was : slice_get riders n ≡ Some (Some rider)
  pub there : slice_get places n ≡ Some (Some pass)
  pub owns : Owns desk pass
  pub cog : pass.cog ≡ n
  pub over : pass.over ≡ rider.over

pub all-back : (desk : DeskValue) (riders : List (Option Rider)) (places : List (Option PassValue)) → ((n : ℕ) → n < 8 → IsBack desk riders places n) → AllThere desk places
all-back desk riders places back = record { each = λ n lt. (let b = back n lt in (b.pass, b.there, b.owns, b.cog)) }

pub over-back : (desk : DeskValue) (riders : List (Option Rider)) (places : List (Option PassValue)) → ((n : ℕ) → n < 8 → IsBack desk riders places n) → (n : ℕ) (rider : Rider) → n < 8 → slice_get riders n ≡ Some (Some rider) → rider.over ≡ true → HasOver places
over-back desk riders places back n rider lt at over =
    let b = back n lt in
    (n, b.pass, b.there, b.over ∙ ap (λ (r : Rider). r.over) (rider-same b.rider rider (sym b.was ∙ at)) ∙ over)

-- one more is back
pub back-more : (desk : DeskValue) (riders : List (Option Rider)) (places next : List (Option PassValue)) (k : ℕ) (rider : Rider) (pass : PassValue) → k < length places → slice_get riders k ≡ Some (Some rider) → next ≡ slice_set places k (Some pass) → Owns desk pass → pass.cog ≡ k → pass.over ≡ rider.over
    → ((n : ℕ) → n < k → IsBack desk riders places n) → (n : ℕ) → n < k + 1 → IsBack desk riders next n
back-more desk riders places next k rider pass room was is owns cog over back n lt = dite (ℕ_discrete n k)
    (λ (here : n ≡ k). record {
      rider = rider;
      pass = pass;
      was = ap (slice_get riders) here ∙ was;
      there = ap (λ (l : List (Option PassValue)). slice_get l n) is ∙ ap (slice_get (slice_set places k (Some pass))) here ∙ set-there places k (Some pass) room;
      owns = owns;
      cog = cog ∙ sym here;
      over = over;
    })
    (λ (apart : n ≢ k). (let b = back n (omega arith) in record {
      rider = b.rider;
      pass = b.pass;
      was = b.was;
      there = ap (λ (l : List (Option PassValue)). slice_get l n) is ∙ set-beside places k n (Some pass) apart ∙ b.there;
      owns = b.owns;
      cog = b.cog;
      over = b.over;
    }))
