-- Passes that were taken out are back.
use Rattle.std.proofs.Common.{◌≡◌, ◌≢◌, ◌∙◌, ap, sym, subst, ℕ, ◌<◌, List, Option, Some, None, length}
use Rattle.std.specs.Prelude.{slice_get, slice_set}
use mathlib.Core.Logic.{dite}
use native.Mathlib.Decide.{ℕ_discrete}
use Rattle.p8_desk.specs.PassSets.{AllThere, IsOut}
use Rattle.p8_desk.specs.Passes.{DeskValue, PassValue, Owns}
use Rattle.p8_desk.proofs.Gathering.{set-beside, set-there, at-below, some-some}
use Rattle.p8_desk.proofs.Sharing.{length-set}

-- a place that was emptied is out
pub is-out : (places mid : List (Option PassValue)) (k : ℕ) (pass : PassValue) → slice_get places k ≡ Some (Some pass) → mid ≡ slice_set places k None → IsOut k mid
is-out places mid k pass at is = ap (λ (l : List (Option PassValue)). slice_get l k) is ∙ set-there places k None (at-below places k (Some pass) at)

-- what stands at a place is the desk's own pass of that cog
pub owned-here : (desk : DeskValue) (places : List (Option PassValue)) (k : ℕ) (pass : PassValue) → AllThere desk places → k < 8 → slice_get places k ≡ Some (Some pass) → Owns desk pass
owned-here desk places k pass there near at =
    let was = there.each k near in
    subst (Owns desk) (some-some was.0 pass (sym was.1 ∙ at)) was.2

pub cog-here : (desk : DeskValue) (places : List (Option PassValue)) (k : ℕ) (pass : PassValue) → AllThere desk places → k < 8 → slice_get places k ≡ Some (Some pass) → pass.cog ≡ k
cog-here desk places k pass there near at =
    let was = there.each k near in
    ap (λ (p : PassValue). p.cog) (some-some pass was.0 (sym at ∙ was.1)) ∙ was.3

-- a pass was taken out and put back, whatever it has done since
pub back-again : (desk : DeskValue) (places mid next : List (Option PassValue)) (k : ℕ) (pass : PassValue) → AllThere desk places → k < 8 → mid ≡ slice_set places k None → Owns desk pass → pass.cog ≡ k → next ≡ slice_set mid pass.cog (Some pass) → AllThere desk next
back-again desk places mid next k pass there near is owns cog put = record {
  each = λ n lt. dite (ℕ_discrete n k)
      (λ (here : n ≡ k).
      let was = there.each k near in
      let room : k < length places = at-below places k (Some was.0) was.1 in
      let place : slice_get next k ≡ Some (Some pass) = ap (λ (l : List (Option PassValue)). slice_get l k) (put ∙ (λ i. slice_set (is i) (cog i) (Some pass))) ∙ set-there (slice_set places k None) k (Some pass) (subst (λ (m : ℕ). k < m) (sym (length-set places k None)) room) in
      (pass, ap (slice_get next) here ∙ place, owns, cog ∙ sym here))
      (λ (apart : n ≢ k).
      let was = there.each n lt in
      let place : slice_get next n ≡ slice_get places n = ap (λ (l : List (Option PassValue)). slice_get l n) (put ∙ (λ i. slice_set (is i) (cog i) (Some pass))) ∙ set-beside (slice_set places k None) k n (Some pass) apart ∙ set-beside places k n None apart in
      (was.0, place ∙ was.1, was.2, was.3));
}
