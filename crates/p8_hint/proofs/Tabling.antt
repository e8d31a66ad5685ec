-- Tables that are filled from the last entry on.
use Rattle.std.proofs.Common.{◌≡◌, ℕ, ◌<◌, ◌≤◌, ◌+◌, ◌-◌, List, ◌∷◌, length, drop, get_or, Option, Some, inl, inr, Vec, ap, sym, ◌∙◌, arith}
use Rattle.std.specs.declared.alloc.Global.{Global}
use Rattle.std.specs.BTreeMap.{BTreeMap}
use Rattle.std.specs.Str.{bytes_eq}
use Rattle.std.proofs.lemmas.Bool.{cases_Bool}
use Rattle.std.proofs.lemmas.List.{drop_more}
use Rattle.std.proofs.lemmas.Slice.Eq.{bytes_eq-Decides}
use Rattle.p8_fold.specs.ConstantEntries.{at_bytes}
use Rattle.p8_hint.specs.Rules.{after}

-- a number put at a name, by what stands there and elsewhere
pub put_is : (old new : BTreeMap (Vec ℕ Global) ℕ) (name : List ℕ) (v : ℕ) → at_bytes name new ≡ Some v → ((n : List ℕ) → ¬ (n ≡ name) → at_bytes n new ≡ at_bytes n old)
    → (n : List ℕ) → at_bytes n new ≡ after (bytes_eq n name) (λ before. v) (at_bytes n old)
put_is old new name v entered others n =
    elim (cases_Bool (bytes_eq n name)) [
      | inl same ↦ ap (λ m. at_bytes m new) ((bytes_eq-Decides n name).0 same) ∙ entered ∙ sym (ap (λ b. after b (λ before. v) (at_bytes n old)) same)
      | inr apart ↦ others n (λ p. let so = (bytes_eq-Decides n name).1 p in absurd cc) ∙ sym (ap (λ b. after b (λ before. v) (at_bytes n old)) apart)
    ]

-- a number that is made of the one before it
pub made_of : (f : Option ℕ → ℕ) (g : List ℕ → Option ℕ) (name n : List ℕ) → after (bytes_eq n name) (λ before. f (g name)) (g n) ≡ after (bytes_eq n name) f (g n)
made_of f g name n =
    elim (cases_Bool (bytes_eq n name)) [
      | inl same ↦ ap (λ b. after b (λ before. f (g name)) (g n)) same ∙ ap (λ m. Some (f (g m))) (sym ((bytes_eq-Decides n name).0 same)) ∙ sym (ap (λ b. after b f (g n)) same)
      | inr apart ↦ ap (λ b. after b (λ before. f (g name)) (g n)) apart ∙ sym (ap (λ b. after b f (g n)) apart)
    ]

-- the last of what is left
pub last_is : {X : Type 0} (xs : List X) (k : ℕ) (x : X) → 0 < k → k ≤ length xs → x ≡ get_or xs (k - 1) x → drop (k - 1) xs ≡ x ∷ drop k xs
last_is xs k x p l e =
    drop_more xs (k - 1) x (omega arith) ∙ ap (λ y. y ∷ drop ((k - 1) + 1) xs) (sym e) ∙ ap (λ (j : ℕ). x ∷ drop j xs) (let same : (k - 1) + 1 ≡ k = omega arith in same)
