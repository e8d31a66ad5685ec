-- A world has one ended history.
use Rattle.std.proofs.Common.{◌≡◌, ◌∙◌, ap, sym, subst, refl, ℕ, zero, suc, ◌+◌, ◌<◌, List, [], ◌∷◌, ◌++◌, length, arith, inl, inr, ◌⊎◌}
use Rattle.p8_access.specs.declared.kinds.Access.{Access}
use Rattle.p8_access.specs.declared.order.Key.{Key}
use Rattle.p8_access.specs.declared.order.Turn.{Turn}
use Rattle.p8_access.specs.Lives.{Begun}
use Rattle.p8_access.specs.Worlds.{World}
use Rattle.p8_access.specs.Histories.{Legal, IsNext, Extends, Ended, answer_to}
use Rattle.p8_access.proofs.Nexts.{same_key, one-next}

-- two numbers are one, or one is greater by some
apart : (a b : ℕ) → (a ≡ b) ⊎ (((d : ℕ) × (b ≡ suc d + a)) ⊎ ((d : ℕ) × (a ≡ suc d + b)))
apart zero zero = inl refl
apart zero (suc b) = inr (inl (b, omega arith))
apart (suc a) zero = inr (inr (a, omega arith))
apart (suc a) (suc b) = elim (apart a b) [
  | inl e ↦ inl (ap suc e)
  | inr o ↦ elim o [ inl d ↦ inr (inl (d.0, (let e : b ≡ suc d.0 + a = d.1 in omega arith))) | inr d ↦ inr (inr (d.0, (let e : a ≡ suc d.0 + b = d.1 in omega arith))) ]
]

module _ (asked : Begun → List Turn → ℕ → Access → Type 0) (w : World) (one_asked : (b : Begun) (ts : List Turn) (c d : ℕ) (a e : Access) → asked b ts c a → asked b ts d e → (c ≡ d) × (a ≡ e)) where
  -- one turn extends a past
  pub same-turn : (past : List Turn) (t u : Turn) → Extends asked w past t → Extends asked w past u → t ≡ u
  same-turn past t u p q =
      let key : t.key ≡ u.key = same_key t.key u.key (q.least t.key.cog t.key.clock t.access p.next) (p.least u.key.cog u.key.clock u.access q.next) in
      let moved : IsNext asked w past u.key.cog u.key.clock t.access = subst (λ (k : Key). IsNext asked w past k.cog k.clock t.access) key p.next in
      let access : t.access ≡ u.access = (one-next asked w past one_asked u.key.cog u.key.clock u.key.clock t.access u.access moved q.next).1 in
      let answer : t.answer ≡ u.answer = p.answer ∙ (λ i. answer_to w past (key i) (access i)) ∙ sym q.answer in
      λ i. record { key = key i; access = access i; answer = answer i }

  same-length : (h k : List Turn) → length h ≡ length k → Legal asked w h → Legal asked w k → h ≡ k
  same-length [] [] e p q = refl
  same-length [] (u ∷ k) e p q = absurd (omega arith)
  same-length (t ∷ h) [] e p q = absurd (omega arith)
  same-length (t ∷ h) (u ∷ k) e p q =
      let rest : h ≡ k = same-length h k (omega arith) p.0 q.0 in
      let turn : t ≡ u = same-turn k t u (subst (λ (l : List Turn). Extends asked w l t) rest p.1) q.1 in
      λ i. turn i ∷ rest i

  -- a longer legal history would go on from an ended one
  longer : (k h : List Turn) (d : ℕ) → length k ≡ suc d + length h → Legal asked w k → Ended asked w h → ⊥
  longer [] h d e q p = omega arith
  longer (u ∷ k) h (suc d) e q p = longer k h d (omega arith) q.0 p
  longer (u ∷ k) h zero e q p =
      let same : k ≡ h = same-length k h (omega arith) q.0 p.legal in
      let next = subst (λ (l : List Turn). Extends asked w l u) same q.1 in
      elim p.over [ inl full ↦ (let room : length h < w.turns = next.room in omega arith) | inr none ↦ none u.key.cog u.key.clock u.access next.next ]

  pub one-history : (h k : List Turn) → Ended asked w h → Ended asked w k → h ≡ k
  one-history h k p q = elim (apart (length h) (length k)) [
    | inl e ↦ same-length h k e p.legal q.legal
    | inr o ↦ elim o [ inl d ↦ absurd (longer k h d.0 d.1 q.legal p) | inr d ↦ absurd (longer h k d.0 d.1 p.legal q) ]
  ]

  -- a legal history is a part of each that has as many turns or more
  part : (h k : List Turn) (d : ℕ) → length h ≡ d + length k → Legal asked w h → Legal asked w k → (more : List Turn) × (more ++ k ≡ h)
  part h k zero e p q = ([], same-length k h (omega arith) q p)
  part [] k (suc d) e p q = absurd (omega arith)
  part (t ∷ h) k (suc d) e p q = let rest = part h k d (omega arith) p.0 q in (t ∷ rest.0, ap (λ (l : List Turn). t ∷ l) rest.1)

  -- the ended history begins with every legal one
  pub begins-ended : (h k : List Turn) → Ended asked w h → Legal asked w k → (more : List Turn) × (more ++ k ≡ h)
  begins-ended h k p q = elim (apart (length h) (length k)) [
    | inl e ↦ part h k zero (omega arith) p.legal q
    | inr o ↦ elim o [ inl d ↦ absurd (longer k h d.0 d.1 q p) | inr d ↦ part h k (suc d.0) d.1 p.legal q ]
  ]
