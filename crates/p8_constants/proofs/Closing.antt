-- Nodes get a number, one after the other.
use Rattle.std.proofs.Common.{◌≡◌, inl, inr, ℕ, ◌+◌, ◌-◌, ◌<◌, ◌≤◌, List, [], ◌∷◌, ◌++◌, length, take, drop, set, sym, ap, ◌∙◌, subst, arith}
use Rattle.std.specs.Prelude.{Contains}
use Rattle.std.proofs.lemmas.Bool.{cases_eq}
use Rattle.std.proofs.lemmas.List.{length-set, length-take-le, length-drop, get_or-take, get_or-drop, get_or-set_same, get_or-set_other, take_more, take_all, drop_all, append-nil}
use Rattle.std.proofs.lemmas.List.Elements.{Contains-append_left, Contains-push}
use Rattle.p8_constants.specs.declared.search.NodeState.{NodeState}
use Rattle.p8_constants.specs.declared.search.NodeState.TheVariants.{New, Done}
use Rattle.p8_constants.specs.Searches.{mark, node_at, IsClosed}
use Rattle.p8_constants.proofs.Finishing.{IsPartFrom}

pub closed_more : (old marks : List NodeState) (nodes : List ℕ) (i number : ℕ) → i < length nodes → node_at nodes i < length old → IsClosed old (take i nodes) number marks → IsClosed old (take (i + 1) nodes) number (set marks (node_at nodes i) (Done number))
closed_more old marks nodes i number lt within k = record {
  size = length-set marks (node_at nodes i) (Done number) ∙ k.size;
  closed = λ p h.
      let low : p < i + 1 = omega (arith, length-take-le (i + 1) nodes (omega arith)) in
      let at : node_at (take (i + 1) nodes) p ≡ node_at nodes p = get_or-take (i + 1) nodes p 0 low in
      ap (mark (set marks (node_at nodes i) (Done number))) at ∙
      elim (cases_eq (node_at nodes p) (node_at nodes i)) [
        | inl same ↦ ap (mark (set marks (node_at nodes i) (Done number))) same ∙ get_or-set_same marks (node_at nodes i) (Done number) New (omega (arith, k.size))
        | inr differs ↦
            let before : p < i = elim (cases_eq p i) [ inl e ↦ absurd (differs (ap (node_at nodes) e)) | inr ne ↦ omega arith ] in
            get_or-set_other marks (node_at nodes i) (node_at nodes p) (Done number) New differs
            ∙ (ap (mark marks) (sym (get_or-take i nodes p 0 before)) ∙ k.closed p (omega (arith, length-take-le i nodes (omega arith))))
      ];
  others = λ a not_there.
      let more : take (i + 1) nodes ≡ take i nodes ++ node_at nodes i ∷ [] = take_more nodes i 0 lt in
      let differs : ¬ (a ≡ node_at nodes i) = λ same. not_there (subst (λ xs. Contains xs a) (sym more) (subst (Contains (take i nodes ++ node_at nodes i ∷ [])) (sym same) (Contains-push (take i nodes) (node_at nodes i)))) in
      get_or-set_other marks (node_at nodes i) a (Done number) New differs
      ∙ k.others a (λ there. not_there (subst (λ xs. Contains xs a) (sym more) (Contains-append_left (take i nodes) (node_at nodes i ∷ []) a there)));
}

pub part_of : (nodes : List ℕ) (n : ℕ) → n ≤ length nodes → IsPartFrom nodes n (take (length nodes - n) (drop n nodes))
part_of nodes n le = record {
  size = omega (arith, length-take-le (length nodes - n) (drop n nodes) (omega (arith, length-drop n nodes)));
  at = λ i h. get_or-take (length nodes - n) (drop n nodes) i 0 (omega (arith, length-take-le (length nodes - n) (drop n nodes) (omega (arith, length-drop n nodes)))) ∙ get_or-drop n nodes i 0;
}

-- a list that was written through a slice
pub whole : {X : Type 0} (xs ys : List X) (n : ℕ) → length xs ≡ length ys → n ≡ length ys → take n (xs ++ drop (length xs) ys) ≡ xs
whole xs ys n same all =
    let none : drop (length xs) ys ≡ [] = drop_all (length xs) ys (omega arith) in
    rw (none, append-nil) (take_all n xs (omega arith))
