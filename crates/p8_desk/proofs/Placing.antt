-- Each pass stands at its cog's place.
use Rattle.std.proofs.Common.{◌≡◌, ◌≢◌, ◌∙◌, ap, sym, refl, ℕ, zero, suc, ◌<◌, List, [], ◌∷◌, length, Option, Some, None, subst, arith}
use Rattle.std.specs.Prelude.{slice_get, slice_set, slice_index_or, IfSome}
use mathlib.Core.Logic.{dite}
use native.Mathlib.Decide.{ℕ_discrete}
use Rattle.atomic_table.specs.Seated.{TableId}
use Rattle.p8_access.specs.Worlds.{World}
use Rattle.p8_desk.specs.PassSets.{fresh, new_places, InPlace, AllThere}
use Rattle.p8_desk.specs.Passes.{DeskValue, PassValue}
use Rattle.p8_desk.proofs.Gathering.{set-beside}

pass-same : (a b : PassValue) → Some (Some a) ≡ Some (Some b) → a ≡ b
pass-same a b e = cc

cog-is : (a b : PassValue) (n : ℕ) → Some (Some a) ≡ Some (Some b) → a.cog ≡ n → b.cog ≡ n
cog-is a b n e is = ap (λ (p : PassValue). p.cog) (sym (pass-same a b e)) ∙ is

length-set : {A : Type 0} (l : List A) (k : ℕ) (x : A) → length (slice_set l k x) ≡ length l
length-set [] k x = refl
length-set (y ∷ l) zero x = refl
length-set (y ∷ l) (suc k) x = ap suc (length-set l k x)

set-here : {A : Type 0} (l : List A) (k : ℕ) (x y : A) → slice_get (slice_set l k x) k ≡ Some y → x ≡ y
set-here [] k x y e = absurd (cc)
set-here (z ∷ l) zero x y e = cc
set-here (z ∷ l) (suc k) x y e = set-here l k x y e

pub in-place-set : (places : List (Option PassValue)) (n : ℕ) (pass : PassValue) → InPlace places → pass.cog ≡ n → InPlace (slice_set places n (Some pass))
in-place-set places n pass in_place cog = record {
  eight = length-set places n (Some pass) ∙ in_place.eight;
  each = λ m other e. dite (ℕ_discrete m n)
      (λ (here : m ≡ n).
      let same : Some pass ≡ Some other = set-here places n (Some pass) (Some other) (ap (slice_get (slice_set places n (Some pass))) (sym here) ∙ e) in
      cog-is pass other m (ap Some same) (cog ∙ sym here))
      (λ (ne : m ≢ n). in_place.each m other (sym (set-beside places n m (Some pass) ne) ∙ e));
}

in-place : (w : World) (table : TableId) (n : ℕ) (pass : PassValue) → slice_get (new_places w table 8) n ≡ Some (Some pass) → pass.cog ≡ n
in-place w table zero pass e = cog-is (fresh w table 0) pass 0 e refl
in-place w table (suc zero) pass e = cog-is (fresh w table 1) pass 1 e refl
in-place w table (suc (suc zero)) pass e = cog-is (fresh w table 2) pass 2 e refl
in-place w table (suc (suc (suc zero))) pass e = cog-is (fresh w table 3) pass 3 e refl
in-place w table (suc (suc (suc (suc zero)))) pass e = cog-is (fresh w table 4) pass 4 e refl
in-place w table (suc (suc (suc (suc (suc zero))))) pass e = cog-is (fresh w table 5) pass 5 e refl
in-place w table (suc (suc (suc (suc (suc (suc zero)))))) pass e = cog-is (fresh w table 6) pass 6 e refl
in-place w table (suc (suc (suc (suc (suc (suc (suc zero))))))) pass e = cog-is (fresh w table 7) pass 7 e refl
in-place w table (suc (suc (suc (suc (suc (suc (suc (suc n)))))))) pass e = absurd (cc)

pub in-place-new : (w : World) (table : TableId) → InPlace (new_places w table 8)
in-place-new w table = record { eight = refl; each = in-place w table }

-- all passes of a new desk are there
new-at : (w : World) (table : TableId) (n : ℕ) → n < 8 → slice_get (new_places w table 8) n ≡ Some (Some (fresh w table n))
new-at w table zero lt = refl
new-at w table (suc zero) lt = refl
new-at w table (suc (suc zero)) lt = refl
new-at w table (suc (suc (suc zero))) lt = refl
new-at w table (suc (suc (suc (suc zero)))) lt = refl
new-at w table (suc (suc (suc (suc (suc zero))))) lt = refl
new-at w table (suc (suc (suc (suc (suc (suc zero)))))) lt = refl
new-at w table (suc (suc (suc (suc (suc (suc (suc zero))))))) lt = refl
new-at w table (suc (suc (suc (suc (suc (suc (suc (suc n)))))))) lt = absurd (omega arith)

pub all-there-new : (desk : DeskValue) (places : List (Option PassValue)) → places ≡ new_places desk.world desk.table 8 → AllThere desk places
all-there-new desk places is = record {
  each = λ n lt. (fresh desk.world desk.table n, ap (λ (l : List (Option PassValue)). slice_get l n) is ∙ new-at desk.world desk.table n lt, record { world = refl; table = refl }, refl);
}

-- what is read at a place
value-at : (l : List (Option PassValue)) (k : ℕ) (d : Option PassValue) → k < length l → slice_get l k ≡ Some (slice_index_or l k d)
value-at [] k d lt = absurd (omega arith)
value-at (x ∷ l) zero d lt = refl
value-at (x ∷ l) (suc k) d lt = value-at l k d (omega arith)

pub taken-cog : (places : List (Option PassValue)) (k : ℕ) (d o : Option PassValue) → InPlace places → k < 8 → o ≡ slice_index_or places k d → IfSome o (λ (pass : PassValue). pass.cog ≡ k)
taken-cog places k d None in_place near is = tt
taken-cog places k d (Some pass) in_place near is = in_place.each k pass (value-at places k d (subst (λ (n : ℕ). k < n) (sym in_place.eight) near) ∙ ap Some (sym is))
