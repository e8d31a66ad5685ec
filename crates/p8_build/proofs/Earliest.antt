-- The first refusal of the files of a project, one file after the other.
use Rattle.std.proofs.Common.{◌≡◌, ◌⊎◌, inl, inr, ℕ, ◌+◌, ◌<◌, ◌≤◌, nat_lt, Bool, true, false, if◌then◌else◌, List, length, refl, sym, subst, arith}
use Rattle.std.proofs.lemmas.Bool.Decides.{nat_tests}
use Rattle.std.proofs.lemmas.Option.{slice_get_within}
use Rattle.p8_tree.specs.Projects.{NamedSource}
use Rattle.p8_tree.specs.Faults.{PhaseFault, RefusalBefore}
use Rattle.p8_kinds.specs.declared.children.Children.{Children}
use Rattle.p8_build.specs.declared.accepting.AcceptedFile.{AcceptedFile}
use Rattle.p8_build.specs.declared.fault.PhaseRefusal.{PhaseRefusal}
use Rattle.p8_build.specs.Accepted.{compiled_file}
use Rattle.p8_build.specs.Builds.{IsFile, IsRefusal}
use Rattle.p8_build.specs.Phases.{IsAcceptedAt, refusal_of, IsFirstIn, IsFirstBelow, IsFirstAt}
use Rattle.p8_build.proofs.Lists.{element, Each}
use Rattle.p8_build.proofs.Refusals.{refused_file, compiled_clean}

below_or_at : (j i : ℕ) → j < i + 1 → (j < i) ⊎ (j ≡ i)
below_or_at j i l = grind (arith, l)

is_lower : (a b : ℕ) → nat_lt a b ≡ true → a < b
is_lower a b h = grind (arith, nat_tests)

is_no_lower : (a b : ℕ) → nat_lt a b ≡ false → b ≤ a
is_no_lower a b h = grind (arith, nat_tests)

module _ (files : List NamedSource) (children : List Children) where
  -- the file of a number has no refusal before the phase of the image
  abbrev pub NoneIn : ℕ → Type 0
  NoneIn i = (b : PhaseFault) → b.phase < 3 → b.file ≡ i → ¬ IsRefusal files children b

  abbrev pub NoneBelow : ℕ → Type 0
  NoneBelow n = (b : PhaseFault) → b.phase < 3 → b.file < n → ¬ IsRefusal files children b

  -- one that is accepted has none
  pub none_in : (i : ℕ) (f : AcceptedFile) → IsAcceptedAt files children i f → NoneIn i
  none_in i f h b l at r =
      let found = refused_file b l r in
      let is : IsFile files children i found.0 found.1 = subst (λ (j : ℕ). IsFile files children j found.0 found.1) at found.2 in
      compiled_clean files children i found.0 found.1 is (compiled_file f) (h found.0 found.1 is).compiled b l at r

  pub none_below : (fs : List AcceptedFile) (n : ℕ) → Each (IsAcceptedAt files children) fs → length fs ≡ n → NoneBelow n
  none_below fs n each count b l below r =
      let f = element fs b.file (omega (arith, below, count)) in
      none_in b.file f.0 (each.at b.file f.0 f.1) b l refl r

  -- the first file that is refused
  pub first_begins : (i : ℕ) (r : PhaseRefusal) → NoneBelow i → IsFirstIn files children i r → IsFirstBelow files children (i + 1) r
  first_begins i r none h = record {
    phase = h.phase;
    file = omega (arith, h.file);
    holds = h.holds;
    first = λ b l at refused before. elim (below_or_at b.file i at) [ inl lower ↦ none b l lower refused | inr same ↦ h.first b l same refused before ];
    size = h.size;
  }

  -- one file more, with which nothing is wrong
  pub first_stays : (i : ℕ) (r : PhaseRefusal) → NoneIn i → IsFirstBelow files children i r → IsFirstBelow files children (i + 1) r
  first_stays i r none h = record {
    phase = h.phase;
    file = omega (arith, h.file);
    holds = h.holds;
    first = λ b l at refused before. elim (below_or_at b.file i at) [ inl lower ↦ h.first b l lower refused before | inr same ↦ none b l same refused ];
    size = h.size;
  }

  -- one file more, which is refused too
  pub first_of_both : (i : ℕ) (first later r : PhaseRefusal) → IsFirstBelow files children i first → IsFirstIn files children i later → r ≡ (if nat_lt later.phase first.phase then later else first) → IsFirstBelow files children (i + 1) r
  first_of_both i first later r h k is = subst (IsFirstBelow files children (i + 1)) (sym is) (by (nat_lt later.phase first.phase) refl)
    where
      by : (t : Bool) → nat_lt later.phase first.phase ≡ t → IsFirstBelow files children (i + 1) (if t then later else first)
      by true e =
          let lower = is_lower later.phase first.phase e in
          record {
            phase = k.phase;
            file = omega (arith, k.file);
            holds = k.holds;
            first = λ b l at refused before. elim (below_or_at b.file i at) [
              | inl below ↦ elim before [
                | inl earlier ↦ elim earlier [
                  | inl p ↦ h.first b l below refused (inl (inl (omega (arith, p, lower))))
                  | inr p ↦ h.first b l below refused (inl (inl (omega (arith, p.0, lower))))
                ]
                | inr p ↦ absurd (omega (arith, below, p.1, k.file))
              ]
              | inr same ↦ k.first b l same refused before
            ];
            size = k.size;
          }
      by false e =
          let upper = is_no_lower later.phase first.phase e in
          record {
            phase = h.phase;
            file = omega (arith, h.file);
            holds = h.holds;
            first = λ b l at refused before. elim (below_or_at b.file i at) [
              | inl below ↦ h.first b l below refused before
              | inr same ↦ elim before [
                | inl earlier ↦ elim earlier [
                  | inl p ↦ k.first b l same refused (inl (inl (omega (arith, p, upper))))
                  | inr p ↦ absurd (omega (arith, same, p.1, h.file))
                ]
                | inr p ↦ absurd (omega (arith, same, p.1, h.file))
              ]
            ];
            size = h.size;
          }

  -- all files have been looked at
  pub first_at : (n : ℕ) (r : PhaseRefusal) → n ≡ length files → IsFirstBelow files children n r → IsFirstAt files children r
  first_at n r all h =
      let f = element files r.file (omega (arith, h.file, all)) in
      record { file = f.0; stands = f.1; first = record { holds = h.holds; first = least }; size = h.size }
    where
      low_or_image : (p : ℕ) → (p < 3) ⊎ (3 ≤ p)
      low_or_image p = grind arith

      least : (b : PhaseFault) → IsRefusal files children b → ¬ RefusalBefore b (refusal_of r)
      least b refused before = elim (low_or_image b.phase) [
        | inl l ↦
            let found = refused_file b l refused in
            h.first b l (omega (arith, slice_get_within files b.file found.0 found.2.stands, all)) refused before
        | inr l ↦ elim before [
          | inl earlier ↦ elim earlier [
            | inl p ↦ absurd (omega (arith, l, p, h.phase))
            | inr p ↦ absurd (omega (arith, l, p.0, h.phase))
          ]
          | inr p ↦ absurd (omega (arith, l, p.0, h.phase))
        ]
      ]
