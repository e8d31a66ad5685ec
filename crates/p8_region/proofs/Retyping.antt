-- Room for integers of eight bytes is room for as many values of a type as they hold. Assumes `Logic`.
use mathlib.Core.Path.{◌≡◌, refl, sym, subst, ◌∙◌}
use Prim.Native.Nat.{ℕ, zero, suc, ◌+◌, ◌-◌, ◌*◌, ◌/◌, ◌≤◌}
use Rattle.std.proofs.Common.{◌%◌}
use native.Mathlib.Omega.{arith}
use native.Mathlib.Nat.{mod-add-div'}
use mathlib.Core.List.{[], ◌∷◌}
use seplogic.Ra.Ura.{Ura}
use mir.Syntax.{Ty, Width, w8, w16, w32, w64, w128, ty_int, ty_array}
use mir.Val.{bytes}
use base.Logic.{ent, wand}
use base.Fml.{froom}
use prog.Memory.{size, align}
use prog.Align.{Dv, dv→, dv_mul, dv_self, align_size, align_w, align-bytes}
use types.Logic.{Logic}
use types.Kit.{‵, raw, ◌⊛◌, ◌$◌, ◌∵◌, !, qed, keep, use1, split, rewrite, done}
use denote.RawPtr.Room.{room_cut, past}

exact : (x a : ℕ) → x % a ≡ 0 → x / a * a ≡ x
exact x a none = omega (arith, mod-add-div' x a)

pub past_words : (k o : ℕ) → past (ty_int w64) k o ≡ k * 8 + o
past_words zero o = omega arith
past_words (suc k) o = past_words k (o + 8) ∙ omega arith

module _ {M : Type 1} {𝓤 : Ura M} (𝓛 : Logic 𝓤) (b o m n : ℕ) (τ : Ty) where
  open 𝓛 use {H}

  -- through k of t integers that are as aligned as the type is
  by_width : (w : Width) (k t : ℕ) → n * size τ ≡ k * bytes w → t * bytes w ≡ m * 8 → k ≤ t → Dv (bytes w) 8 → align τ ≡ bytes w
      → ent 𝓤 (H.room (ty_array (ty_int w64) m) b o) (H.room (ty_array τ n) b o)
  by_width w k t held all fits divides same =
      let υ : Ty = ty_int w in
      let some : t ≡ k + (t - k) = omega arith in
      qed 𝓛 (‵ (froom (ty_array (ty_int w64) m) b o) ∷ []) ∵
      use1 𝓛 (‵ (froom (ty_array υ t) b o) ⊛ raw (wand 𝓤 (H.room (ty_array υ t) b o) (H.room (ty_array (ty_int w64) m) b o))) (𝓛.laws.room_as (ty_array (ty_int w64) m) (ty_array υ t) b o all divides) $ split ! $ keep ! (0 ∷ []) $
      rewrite ! 0 (λ (j : ℕ). ‵ (froom (ty_array υ j) b o)) some refl $
      use1 𝓛 (‵ (froom (ty_array υ k) b o) ⊛ ‵ (froom (ty_array υ (t - k)) b (past υ k o))) (room_cut 𝓛 υ k (t - k) b o) $ split ! $ keep ! (0 ∷ []) $
      use1 𝓛 (‵ (froom (ty_array τ n) b o) ⊛ raw (wand 𝓤 (H.room (ty_array τ n) b o) (H.room (ty_array υ k) b o))) (𝓛.laws.room_as (ty_array υ k) (ty_array τ n) b o held (subst (λ (j : ℕ). Dv j (bytes w)) (sym same) (dv_self (bytes w)))) $ split ! $ keep ! (0 ∷ []) $ done !

  by_alignment : (w : Width) (x : ℕ) → n * size τ ≡ x → align τ ≡ bytes w → x % bytes w ≡ 0 → align τ ≤ 8 → x ≤ m * 8 → ent 𝓤 (H.room (ty_array (ty_int w64) m) b o) (H.room (ty_array τ n) b o)
  by_alignment w8 x is same whole low fits = let e = exact x 1 whole in by_width w8 x (m * 8) (omega arith) (omega arith) (omega arith) tt same
  by_alignment w16 x is same whole low fits = let e = exact x 2 whole in by_width w16 (x / 2) (m * 4) (omega arith) (omega arith) (omega arith) tt same
  by_alignment w32 x is same whole low fits = let e = exact x 4 whole in by_width w32 (x / 4) (m * 2) (omega arith) (omega arith) (omega arith) tt same
  by_alignment w64 x is same whole low fits = let e = exact x 8 whole in by_width w64 (x / 8) m (omega arith) (omega arith) (omega arith) tt same
  by_alignment w128 x is same whole low fits = absurd (omega arith)

  pub retyped : align τ ≤ 8 → n * size τ ≤ m * 8 → ent 𝓤 (H.room (ty_array (ty_int w64) m) b o) (H.room (ty_array τ n) b o)
  retyped low fits =
      let same = align-bytes τ in
      by_alignment (align_w τ) (n * size τ) refl same (subst (λ (a : ℕ). n * size τ % a ≡ 0) same (dv→ (align τ) (n * size τ) (dv_mul (align τ) (size τ) n (align_size τ)))) low fits
