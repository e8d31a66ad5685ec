-- What the files of a project see of each other is one thing alone.
use Rattle.std.proofs.Common.{◌≡◌, ℕ, suc, ◌<◌, List, [], ◌∷◌, length, Some, slice_get, refl, sym, ap, ap₂, ◌∙◌, subst, arith}
use Rattle.std.specs.Prelude.{Contains}
use Rattle.p8_tree.specs.Sources as trees
use Rattle.p8_tree.specs.Projects.{NamedSource}
use Rattle.p8_kinds.specs.declared.children.Child.{Child}
use Rattle.p8_kinds.specs.declared.children.Children.{Children}
use Rattle.p8_names.specs.Mentions.{mentions, IsNamed, Mentions, AreDistinct, HaveNoRing}
use Rattle.p8_names.specs.Children.{IsSeen, AreSeen, IsChildOf, AreChildren}
use Rattle.p8_names.proofs.Numbering.{one_file, some_same}
use Rattle.p8_names.proofs.Targets.{at_within, first, later}
use Rattle.p8_names.proofs.OneChild.{one_child}
use Rattle.p8_names.proofs.Descending.{of_each}

-- two rows have the same at each number
same_rows : {X : Type 0} (xs ys : List X) → length xs ≡ length ys → ((i : ℕ) → i < length xs → slice_get xs i ≡ slice_get ys i) → xs ≡ ys
same_rows [] [] size each = refl
same_rows [] (y ∷ ys) size each = absurd (omega (arith, size))
same_rows (x ∷ xs) [] size each = absurd (omega (arith, size))
same_rows (x ∷ xs) (y ∷ ys) size each =
    let head : x ≡ y = some_same (each 0 (omega arith)) in
    ap₂ (λ x xs. x ∷ xs) head (same_rows xs ys (omega (arith, size)) (λ i lt. each (suc i) (omega arith)))

abbrev children : List Child → Children
children items = record { items = items }

module _ (files : List NamedSource) (distinct : AreDistinct files) (a b : List Children) (left : AreChildren files a) (right : AreChildren files b) where
  one_seen : (name : List ℕ) (c d : Child) → IsSeen files a name c → IsSeen files b name d → ((j : ℕ) → IsNamed files j name → slice_get a j ≡ slice_get b j) → c ≡ d
  one_seen name c d h k same =
      let named : IsNamed files h.number name = record { file = h.file; stands = h.stands; named = h.named } in
      let number : h.number ≡ k.number = distinct h.number k.number name named (record { file = k.file; stands = k.stands; named = k.named }) in
      let file : k.file ≡ h.file = one_file files h.number k.file h.file (ap (slice_get files) number ∙ k.stands) h.stands in
      let beside : k.children ≡ h.children = some_same (sym k.beside ∙ (sym (ap (slice_get b) number) ∙ (sym (same h.number named) ∙ h.beside))) in
      one_child h.file.tree h.children.items c d h.is (subst (λ f. IsChildOf f.tree h.children.items d) file (subst (λ cs. IsChildOf k.file.tree cs.items d) beside k.is))

  all_seen : (xs : List trees.Child) (cs ds : List Child) → AreSeen files a xs cs → AreSeen files b xs ds → ((x : trees.Child) → Contains xs x → (j : ℕ) → IsNamed files j x.file → slice_get a j ≡ slice_get b j) → cs ≡ ds
  all_seen [] [] [] h k same = refl
  all_seen [] [] (d ∷ ds) h k same = absurd k
  all_seen [] (c ∷ cs) ds h k same = absurd h
  all_seen (x ∷ xs) [] ds h k same = absurd h
  all_seen (x ∷ xs) (c ∷ cs) [] h k same = absurd k
  all_seen (x ∷ xs) (c ∷ cs) (d ∷ ds) h k same =
      ap₂ (λ c cs. c ∷ cs) (one_seen x.file c d h.0 k.0 (same x (first x xs))) (all_seen xs cs ds h.1 k.1 (λ y among. same y (later x xs y among)))

  step : (i : ℕ) → i < length files → ((j : ℕ) → Mentions files i j → slice_get a j ≡ slice_get b j) → slice_get a i ≡ slice_get b i
  step i lt below =
      let (f, stands) = at_within files i lt in
      let (c, at_a) = at_within a i (omega (arith, lt, left.one_each)) in
      let (d, at_b) = at_within b i (omega (arith, lt, right.one_each)) in
      let items : c.items ≡ d.items = all_seen (mentions f.tree) c.items d.items (left.each i f c stands at_a) (right.each i f d stands at_b) (λ x among j named. below j (record { file = f; stands = stands; item = x; among = among; named = named })) in
      at_a ∙ (ap (λ xs. Some (children xs)) items ∙ sym at_b)

  pub one_row : HaveNoRing files → a ≡ b
  one_row no_ring = same_rows a b (left.one_each ∙ sym right.one_each) (λ i lt. of_each files no_ring (λ i. slice_get a i ≡ slice_get b i) step i (omega (arith, lt, left.one_each)))
