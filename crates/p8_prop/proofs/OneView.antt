-- What the files of a project see of each other is one thing, where the names of each mean one thing and mentions make no ring.
use Rattle.std.proofs.Common.{◌≡◌, inl, inr, ◌∙◌, sym, ap, ap₂, subst, refl, arith, ℕ, zero, suc, ◌+◌, ◌<◌, ◌≤◌, Bool, true, false, List, [], ◌∷◌, length, get_or, set, replicate, slice_get, Some}
use Rattle.std.specs.Prelude.{Contains}
use Rattle.std.proofs.lemmas.Bool.{cases_Bool, cases_eq, cases_lt}
use Rattle.std.proofs.lemmas.List.{length-set, length-replicate, get_or-replicate, get_or_past, get_or-set_other}
use Rattle.std.proofs.lemmas.Option.{slice_get_within}
use Rattle.p8_tree.specs.Sources as trees
use Rattle.p8_tree.specs.Projects.{NamedSource}
use Rattle.p8_constants.proofs.Listing.{contains_here, contains_there}
use Rattle.p8_kinds.specs.declared.children.Child.{Child}
use Rattle.p8_kinds.specs.declared.children.Children.{Children}
use Rattle.p8_names.specs.Mentions.{mentions, IsNamed, Mentions, Leads, there, over, AreDistinct, HaveNoRing}
use Rattle.p8_build.proofs.Lists.{element, one_element, same_lists}
use Rattle.p8_prop.specs.Names.{IsChildOf, IsSeen, AreSeen, AreChildren}
use Rattle.p8_prop.proofs.OneNames.{HasOneSetting, one-child}

-- ---- what holds of a file as soon as it holds of all that it mentions holds of each

-- marks at the numbers of files, and how many have none
abbrev mark : List Bool → ℕ → Bool
mark marks i = get_or marks i false

abbrev unmarked : List Bool → ℕ
unmarked [] = 0
unmarked (true ∷ marks) = unmarked marks
unmarked (false ∷ marks) = 1 + unmarked marks

one-less : (marks : List Bool) (i : ℕ) → i < length marks → mark marks i ≡ false → unmarked (set marks i true) + 1 ≡ unmarked marks
one-less [] i lt free = absurd (omega arith)
one-less (true ∷ marks) zero lt free = absurd cc
one-less (false ∷ marks) zero lt free = omega arith
one-less (true ∷ marks) (suc i) lt free = one-less marks i (omega arith) free
one-less (false ∷ marks) (suc i) lt free = omega (arith, one-less marks i (omega arith) free)

leads-on : (files : List NamedSource) {i j k : ℕ} → Leads files i j → Mentions files j k → Leads files i k
leads-on files there m = over m there
leads-on files (over first more) m = over first (leads-on files more m)

-- one file leads to another, by one mention at least
record LeadsFrom (files : List NamedSource) (one other : ℕ) : Type 0 where
  between : ℕ
  first : Mentions files one between
  rest : Leads files between other

module _ (files : List NamedSource) (no_ring : HaveNoRing files) (Holds : ℕ → Type 0)
    (step : (i : ℕ) → i < length files → ((j : ℕ) → Mentions files i j → Holds j) → Holds i) where
  -- every file that is marked leads to the one at hand
  abbrev AllLead : List Bool → ℕ → Type 0
  AllLead marks i = (p : ℕ) → mark marks p ≡ true → LeadsFrom files p i

  is-free : (marks : List Bool) (i : ℕ) → AllLead marks i → mark marks i ≡ false
  is-free marks i back = elim (cases_Bool (mark marks i)) [
    | inl marked ↦ absurd (let way = back i marked in no_ring i way.between way.first way.rest)
    | inr free ↦ free
  ]

  back-to : (marks : List Bool) (i j : ℕ) → AllLead marks i → Mentions files i j → AllLead (set marks i true) j
  back-to marks i j back mention p marked = elim (cases_eq p i) [
    | inl same ↦ record { between = j; first = subst (λ (i : ℕ). Mentions files i j) (sym same) mention; rest = there }
    | inr differs ↦
        let way = back p (sym (get_or-set_other marks i p true false differs) ∙ marked) in
        record { between = way.between; first = way.first; rest = leads-on files way.rest mention }
  ]

  go : (m : ℕ) (marks : List Bool) (i : ℕ) → length marks ≡ length files → i < length files → AllLead marks i → unmarked marks ≤ m → Holds i
  go zero marks i size lt back total = absurd (omega (arith, one-less marks i (omega (arith, size)) (is-free marks i back), total))
  go (suc m) marks i size lt back total =
      let less = one-less marks i (omega (arith, size)) (is-free marks i back) in
      step i lt (λ j mention. go m (set marks i true) j (length-set marks i true ∙ size)
      (slice_get_within files j mention.named.file mention.named.stands) (back-to marks i j back mention) (omega (arith, less, total)))

  of-each : (i : ℕ) → i < length files → Holds i
  of-each i lt =
      let none = replicate (length files) false in
      let free : (p : ℕ) → mark none p ≡ false = λ p. elim (cases_lt p (length files)) [
        | inl low ↦ get_or-replicate (length files) p false false low
        | inr past ↦ get_or_past none p false (omega (arith, length-replicate (length files) false))
      ] in
      go (unmarked none) none i (length-replicate (length files) false) lt (λ p marked. absurd (let clear = free p in cc)) (omega arith)

-- ---- a project

-- the names of each file mean one thing
abbrev pub HaveOneSetting : List NamedSource → List Children → Type 0
HaveOneSetting files all = (i : ℕ) (file : NamedSource) (seen : Children) → slice_get files i ≡ Some file → slice_get all i ≡ Some seen
    → HasOneSetting file.tree seen.items

module _ (files : List NamedSource) (distinct : AreDistinct files) (a b : List Children) (one : HaveOneSetting files a) (left : AreChildren files a)
    (right : AreChildren files b) where
  -- what a file sees is one thing
  abbrev SeesOne : ℕ → Type 0
  SeesOne i = (c d : Children) → slice_get a i ≡ Some c → slice_get b i ≡ Some d → c ≡ d

  one-seen : (name : List ℕ) (c d : Child) → IsSeen files a name c → IsSeen files b name d → ((j : ℕ) → IsNamed files j name → SeesOne j) → c ≡ d
  one-seen name c d h k same =
      let named : IsNamed files h.number name = record { file = h.file; stands = h.stands; named = h.named } in
      let number : k.number ≡ h.number =
      distinct k.number h.number name (record { file = k.file; stands = k.stands; named = k.named }) named in
      let file : k.file ≡ h.file = one_element files h.number (ap (slice_get files) (sym number) ∙ k.stands) h.stands in
      let beside : k.children ≡ h.children =
      sym (same h.number named h.children k.children h.beside (ap (slice_get b) (sym number) ∙ k.beside)) in
      one-child h.file.tree h.children.items c d (one h.number h.file h.children h.stands h.beside) h.is
      (subst (λ (f : NamedSource). IsChildOf f.tree h.children.items d) file (subst (λ (cs : Children). IsChildOf k.file.tree cs.items d) beside k.is))

  all-seen : (xs : List trees.Child) (cs ds : List Child) → AreSeen files a xs cs → AreSeen files b xs ds
      → ((x : trees.Child) → Contains xs x → (j : ℕ) → IsNamed files j x.file → SeesOne j) → cs ≡ ds
  all-seen [] [] [] h k same = refl
  all-seen [] [] (d ∷ ds) h k same = absurd k
  all-seen [] (c ∷ cs) ds h k same = absurd h
  all-seen (x ∷ xs) [] ds h k same = absurd h
  all-seen (x ∷ xs) (c ∷ cs) [] h k same = absurd k
  all-seen (x ∷ xs) (c ∷ cs) (d ∷ ds) h k same =
      ap₂ (λ (c : Child) (cs : List Child). c ∷ cs) (one-seen x.file c d h.0 k.0 (same x (contains_here x xs)))
      (all-seen xs cs ds h.1 k.1 (λ y among. same y (contains_there x xs y among)))

  sees-one : (i : ℕ) → i < length files → ((j : ℕ) → Mentions files i j → SeesOne j) → SeesOne i
  sees-one i lt below c d at_c at_d =
      let (f, stands) = element files i lt in
      let items : c.items ≡ d.items =
      all-seen (mentions f.tree) c.items d.items (left.each i f c stands at_c) (right.each i f d stands at_d) (λ x among j named.
      below j (record { file = f; stands = stands; item = x; among = among; named = named })) in
      λ k. record { items = items k }

  pub one-view : HaveNoRing files → a ≡ b
  one-view no_ring = same_lists a b (left.one_each ∙ sym right.one_each) (λ i c d at_c at_d.
      of-each files no_ring SeesOne sees-one i (omega (arith, slice_get_within a i c at_c, left.one_each)) c d at_c at_d)
