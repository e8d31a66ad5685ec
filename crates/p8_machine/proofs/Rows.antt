-- Lives in a row, each of the cog of its place.
use Rattle.std.proofs.Common.{◌≡◌, ◌∙◌, ap, sym, subst, inl, inr, ℕ, zero, suc, ◌+◌, List, [], ◌∷◌, ◌++◌, Some, None, slice_get, length, arith}
use Rattle.std.proofs.Math.ListN.{set}
use Rattle.p8_access.proofs.Changes.{decided, same-cog, differ-cog}
use Rattle.p8_cog.specs.declared.cog_life.CogLife.{CogLife}
use Rattle.p8_cog.specs.WholeLives.{cog_of}
use Rattle.p8_ledger.proofs.Rows.{set-there, set-else}

same-cogs : (a b : CogLife) → Some a ≡ Some b → cog_of a ≡ cog_of b
same-cogs a b e = let same : a ≡ b = cc in ap cog_of same

-- one life more at the end
pub own-push : (lives : List CogLife) (life : CogLife) (base : ℕ) → ((n : ℕ) (l : CogLife) → slice_get lives n ≡ Some l → cog_of l ≡ base + n) → cog_of life ≡ base + length lives → (n : ℕ) (l : CogLife) → slice_get (lives ++ life ∷ []) n ≡ Some l → cog_of l ≡ base + n
own-push [] life base own is zero l at = sym (same-cogs life l at) ∙ is
own-push [] life base own is (suc n) l at = absurd (let e : None ≡ Some l = at in cc)
own-push (x ∷ xs) life base own is zero l at = own zero l at
own-push (x ∷ xs) life base own is (suc n) l at =
    let rest : (m : ℕ) (t : CogLife) → slice_get xs m ≡ Some t → cog_of t ≡ (base + 1) + m = λ m t there. (let e : cog_of t ≡ base + suc m = own (suc m) t there in omega arith) in
    let last : cog_of life ≡ (base + 1) + length xs = omega arith in
    let e : cog_of l ≡ (base + 1) + n = own-push xs life (base + 1) rest last n l at in
    omega arith

-- one life changed
pub own-set : (lives : List CogLife) (k : ℕ) (life : CogLife) → ((n : ℕ) (l : CogLife) → slice_get lives n ≡ Some l → cog_of l ≡ n) → cog_of life ≡ k → (n : ℕ) (l : CogLife) → slice_get (set lives k life) n ≡ Some l → cog_of l ≡ n
own-set lives k life own is n l at =
    elim (decided n k) [
      | inl same ↦
          (let e : n ≡ k = same-cog n k same in
          let here : l ≡ life = set-there lives k life l (subst (λ (m : ℕ). slice_get (set lives k life) m ≡ Some l) e at) in
          ap cog_of here ∙ is ∙ sym e)
      | inr other ↦ own n l (set-else lives k n life l (differ-cog n k other) at)
    ]
