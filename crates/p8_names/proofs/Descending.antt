-- Where mentions make no ring, what holds of a file as soon as it holds of all that it mentions holds of each.
use Rattle.std.proofs.Common.{◌≡◌, inl, inr, ℕ, zero, suc, ◌+◌, ◌<◌, ◌≤◌, Bool, true, false, List, [], ◌∷◌, length, get_or, set, replicate, sym, ◌∙◌, subst, arith}
use Rattle.std.proofs.lemmas.Bool.{cases_Bool, cases_eq, cases_lt}
use Rattle.std.proofs.lemmas.List.{length-set, length-replicate, get_or-replicate, get_or_past, get_or-set_other}
use Rattle.p8_tree.specs.Projects.{NamedSource}
use Rattle.p8_names.specs.Mentions.{Mentions, Leads, there, over, HaveNoRing}
use Rattle.p8_names.proofs.Numbering.{named_within}

-- ---- marks at the numbers of files

abbrev mark : List Bool → ℕ → Bool
mark marks i = get_or marks i false

-- how many have none
abbrev left : List Bool → ℕ
left [] = 0
left (true ∷ marks) = left marks
left (false ∷ marks) = 1 + left marks

one_less : (marks : List Bool) (i : ℕ) → i < length marks → mark marks i ≡ false → left (set marks i true) + 1 ≡ left marks
one_less [] i lt free = absurd (omega arith)
one_less (true ∷ marks) zero lt free = absurd cc
one_less (false ∷ marks) zero lt free = omega arith
one_less (true ∷ marks) (suc i) lt free = one_less marks i (omega arith) free
one_less (false ∷ marks) (suc i) lt free = omega (arith, one_less marks i (omega arith) free)

-- ---- mentions

leads_on : (files : List NamedSource) {i j k : ℕ} → Leads files i j → Mentions files j k → Leads files i k
leads_on files there m = over m there
leads_on files (over first more) m = over first (leads_on files more m)

-- one file leads to another, by one mention at least
record LeadsFrom (files : List NamedSource) (one other : ℕ) : Type 0 where
  between : ℕ
  first : Mentions files one between
  rest : Leads files between other

module _ (files : List NamedSource) (no_ring : HaveNoRing files) (Holds : ℕ → Type 0) (step : (i : ℕ) → i < length files → ((j : ℕ) → Mentions files i j → Holds j) → Holds i) where
  -- every file that is marked leads to the one at hand
  abbrev AllLead : List Bool → ℕ → Type 0
  AllLead marks i = (p : ℕ) → mark marks p ≡ true → LeadsFrom files p i

  is_free : (marks : List Bool) (i : ℕ) → AllLead marks i → mark marks i ≡ false
  is_free marks i back = elim (cases_Bool (mark marks i)) [
    | inl marked ↦ absurd (let way = back i marked in no_ring i way.between way.first way.rest)
    | inr free ↦ free
  ]

  back_to : (marks : List Bool) (i j : ℕ) → AllLead marks i → Mentions files i j → AllLead (set marks i true) j
  back_to marks i j back mention p marked = elim (cases_eq p i) [
    | inl same ↦ record { between = j; first = subst (λ i. Mentions files i j) (sym same) mention; rest = there }
    | inr differs ↦
        let way = back p (sym (get_or-set_other marks i p true false differs) ∙ marked) in
        record { between = way.between; first = way.first; rest = leads_on files way.rest mention }
  ]

  go : (m : ℕ) (marks : List Bool) (i : ℕ) → length marks ≡ length files → i < length files → AllLead marks i → left marks ≤ m → Holds i
  go zero marks i size lt back total = absurd (omega (arith, one_less marks i (omega (arith, size)) (is_free marks i back), total))
  go (suc m) marks i size lt back total =
      let less = one_less marks i (omega (arith, size)) (is_free marks i back) in
      step i lt (λ j mention. go m (set marks i true) j (length-set marks i true ∙ size) (named_within files j mention.item.file mention.named) (back_to marks i j back mention) (omega (arith, less, total)))

  pub of_each : (i : ℕ) → i < length files → Holds i
  of_each i lt =
      let none = replicate (length files) false in
      let free : (p : ℕ) → mark none p ≡ false = λ p. elim (cases_lt p (length files)) [
        | inl low ↦ get_or-replicate (length files) p false false low
        | inr past ↦ get_or_past none p false (omega (arith, length-replicate (length files) false))
      ] in
      go (left none) none i (length-replicate (length files) false) lt (λ p marked. absurd (let clear = free p in cc)) (omega arith)
