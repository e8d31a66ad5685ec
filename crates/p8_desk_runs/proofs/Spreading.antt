-- Passes go to places outside their set, and back.
use Rattle.std.proofs.Common.{◌≡◌, ◌∙◌, ap, sym, subst, refl, ℕ, zero, suc, ◌<◌, List, [], ◌∷◌, Option, Some, None, length}
use Rattle.std.specs.Prelude.{slice_get, slice_index_or, All}
use Rattle.p8_desk.specs.PassSets.{AllThere}
use Rattle.p8_desk.specs.Passes.{DeskValue, PassValue, Owns}
use Rattle.p8_desk.proofs.Gathering.{at-below, index-of}
use Rattle.p8_desk_runs.specs.Places.{IsOwned, IsKept}

-- all places have passes that the desk owns
pub all-owned : (desk : DeskValue) (places : List (Option PassValue)) → ((n : ℕ) → n < length places → (pass : PassValue) × (slice_get places n ≡ Some (Some pass)) × Owns desk pass) → All (IsOwned desk) places
all-owned desk places each = λ k d lt. (let one = each k lt in subst (IsOwned desk) (sym (index-of places k (Some one.0) d one.1)) one.2)

-- what is read at a place stands there
get-of : (places : List (Option PassValue)) (n : ℕ) (pass : PassValue) → slice_index_or places n None ≡ Some pass → slice_get places n ≡ Some (Some pass)
get-of [] n pass e = absurd (cc)
get-of (place ∷ places) zero pass e = ap Some e
get-of (place ∷ places) (suc n) pass e = get-of places n pass e

-- a pass that was kept is still there
pub kept-there : (desk : DeskValue) (old new : List (Option PassValue)) (n : ℕ) (pass : PassValue) → slice_get old n ≡ Some (Some pass) → ((k : ℕ) (d : Option PassValue) → k < length old → IsKept desk (slice_index_or old k d) (slice_index_or new k d))
    → (after : PassValue) × (slice_get new n ≡ Some (Some after)) × Owns desk after × (after.cog ≡ pass.cog)
kept-there desk old new n pass at each = by-place (slice_index_or new n None) refl (subst (λ (o : Option PassValue). IsKept desk o (slice_index_or new n None)) (index-of old n (Some pass) None at) (each n None (at-below old n (Some pass) at)))
  where
    by-place : (o : Option PassValue) → slice_index_or new n None ≡ o → IsKept desk (Some pass) o → (after : PassValue) × (slice_get new n ≡ Some (Some after)) × Owns desk after × (after.cog ≡ pass.cog)
    by-place None is kept = absurd kept
    by-place (Some after) is kept = (after, get-of new n after is, kept.0, kept.1)

-- all passes are back
pub all-back : (desk : DeskValue) (places taken turned next : List (Option PassValue)) → AllThere desk places → ((n : ℕ) → n < 8 → slice_get taken n ≡ slice_get places n)
    → ((k : ℕ) (d : Option PassValue) → k < length taken → IsKept desk (slice_index_or taken k d) (slice_index_or turned k d))
    → ((n : ℕ) → n < 8 → slice_get next n ≡ slice_get turned n) → AllThere desk next
all-back desk places taken turned next there same each back = record {
  each = λ n lt. (let was = there.each n lt in
      let now = kept-there desk taken turned n was.0 (same n lt ∙ was.1) each in
      (now.0, back n lt ∙ now.1, now.2, now.3 ∙ was.3));
}
