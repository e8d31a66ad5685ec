-- What is so of each project, from what gathering comes to.
use Rattle.std.proofs.Common.{◌≡◌, ℕ, ◌<◌, ◌≤◌, ◌⊎◌, inl, inr, zero, suc, List, [], ◌∷◌, ◌++◌, length, refl, ap, sym, ◌∙◌, subst, arith, length-append}
use Rattle.p8_tree.specs.Sources.{Child, Source}
use Rattle.p8_tree.specs.Projects.{NamedSource, most_files}
use Rattle.p8_objects.specs.Lists.{IsAt, HasOne}
use Rattle.p8_objects.specs.Sources.{IsSource}
use Rattle.p8_objects.specs.Projects.{IsIn, HasOpen, IsNext, Calls, read, nothing}
use Rattle.p8_objects.specs.Projects as projects
use Rattle.p8_objects.specs.Outcomes.{Shelved, HasBytes, Outcome, ComesTo, project, named}
use Rattle.p8_objects.specs.Outcomes as outcomes
use Rattle.p8_objects.specs.Whole.{IsFirstFile, AreDistinct, HaveMentioned, HaveNoRing, IsReadFrom, AreReadFrom}
use Rattle.p8_objects.proofs.Elements.{one_at, last_is_one, none_at, skip, unskip, at_front, at_more}

-- two names are the same or not
same_number : (m n : ℕ) → (m ≡ n) ⊎ ¬ (m ≡ n)
same_number m n = elim (less_or_not m n) [ inl e ↦ inl e | inr h ↦ elim h [ inl l ↦ inr (λ e. omega arith) | inr l ↦ inr (λ e. omega arith) ] ]
  where
    less_or_not : (m n : ℕ) → (m ≡ n) ⊎ ((m < n) ⊎ (n < m))
    less_or_not zero zero = inl refl
    less_or_not zero (suc n) = inr (inl (omega arith))
    less_or_not (suc m) zero = inr (inr (omega arith))
    less_or_not (suc m) (suc n) = elim (less_or_not m n) [ inl e ↦ inl (ap suc e) | inr h ↦ elim h [ inl l ↦ inr (inl (omega arith)) | inr l ↦ inr (inr (omega arith)) ] ]

same_or_not : (a b : List ℕ) → (a ≡ b) ⊎ ¬ (a ≡ b)
same_or_not [] [] = inl refl
same_or_not [] (y ∷ b) = inr (λ e. cc)
same_or_not (x ∷ a) [] = inr (λ e. cc)
same_or_not (x ∷ a) (y ∷ b) =
    elim (same_number x y) [
      | inl e ↦ elim (same_or_not a b) [ inl d ↦ inl (cc) | inr n ↦ inr (λ h. n (cc)) ]
      | inr n ↦ inr (λ h. n (cc))
    ]

first_at : (f : NamedSource) (files : List NamedSource) → IsAt (f ∷ files) 0 f
first_at f files = record { is = refl }

-- a name is among some files or not
in_or_not : (files : List NamedSource) (name : List ℕ) → IsIn files name ⊎ ¬ IsIn files name
in_or_not [] name = inr (λ h. none_at h.stands)
in_or_not (f ∷ files) name =
    elim (same_or_not f.name name) [
      | inl e ↦ inl (record { number = 0; element = f; stands = record { is = refl }; holds = e })
      | inr n ↦ elim (in_or_not files name) [
        | inl h ↦ inl (record { number = suc h.number; element = h.element; stands = skip h.stands; holds = h.holds })
        | inr m ↦ inr (λ h. in_neither f files name n m h.number h.element h.stands h.holds)
      ]
    ]
  where
    in_neither : (f : NamedSource) (files : List NamedSource) (name : List ℕ) → ¬ (f.name ≡ name) → ¬ IsIn files name → (i : ℕ) (g : NamedSource) → IsAt (f ∷ files) i g → g.name ≡ name → ⊥
    in_neither f files name n m zero g at e = n (subst (λ h. h.name ≡ name) (one_at at (first_at f files) refl) e)
    in_neither f files name n m (suc i) g at e = m (record { number = i; element = g; stands = unskip at; holds = e })

-- what is so of the files so far
pub record Grown (shelf : Shelved) (top : List ℕ) (files : List NamedSource) : Type 0 where
  pub first : (files ≡ []) ⊎ IsFirstFile top files
  pub distinct : AreDistinct files
  pub few : length files ≤ most_files
  pub from : AreReadFrom shelf.files files

-- what is so of all of them
pub record IsWhole (shelf : Shelved) (top : List ℕ) (files : List NamedSource) : Type 0 where
  pub first : IsFirstFile top files
  pub distinct : AreDistinct files
  pub few : length files ≤ most_files
  pub from : AreReadFrom shelf.files files
  pub mentioned : HaveMentioned files
  pub no_ring : HaveNoRing files

pub not_empty : {X : Type 0} {xs : List X} {i : ℕ} {x : X} → IsAt xs i x → ¬ (xs ≡ [])
not_empty {xs = xs} {i = i} {x = x} at e = none_at (subst (λ ys. IsAt ys i x) e at)

-- the file that is read next is the first one, or a new one
data Reading (top : List ℕ) (files : List NamedSource) (name : List ℕ) : Type 0 where
  the_first : files ≡ [] → name ≡ top → Reading top files name
  a_new_one : ¬ (files ≡ []) → ¬ IsIn files name → length files < most_files → Reading top files name

pub next_not_empty : {files : List NamedSource} {f : NamedSource} {x : Child} → IsNext files f x → ¬ (files ≡ [])
next_not_empty n = not_empty (last_is_one n.file).1

reading : {top name : List ℕ} {files : List NamedSource} → Calls top files (read name) → Reading top files name
reading (projects.first_file e) = the_first e refl
reading (projects.new_file f x n new room) = a_new_one (next_not_empty n) new room

pub nothing_open : {top : List ℕ} {files : List NamedSource} → Calls top files nothing → (0 < length files) × ¬ HasOne (HasOpen files) files
nothing_open (projects.whole l n) = (l, n)

-- one more file, of a name that isn't among them
add : {shelf : Shelved} {top : List ℕ} {files : List NamedSource} (name bytes : List ℕ) (s : Source) → Grown shelf top files → ¬ IsIn files name → length files < most_files → IsFirstFile top (files ++ named name s ∷ []) → HasBytes shelf.files name bytes → IsSource bytes s → Grown shelf top (files ++ named name s ∷ [])
add {shelf = shelf} {files = files} name bytes s g new room first has source = record {
  first = inr first;
  distinct = λ i j f h at at' e. elim (at_more files (named name s) at) [
    | inl b ↦ elim (at_more files (named name s) at') [
      | inl b' ↦ g.distinct i j f h b b' e
      | inr p ↦ absurd (new (record { number = i; element = f; stands = b; holds = e ∙ ap (λ x. x.name) p.1 }))
    ]
    | inr p ↦ elim (at_more files (named name s) at') [
      | inl b' ↦ absurd (new (record { number = j; element = h; stands = b'; holds = sym e ∙ ap (λ x. x.name) p.1 }))
      | inr q ↦ p.0 ∙ sym q.0
    ]
  ];
  few = omega (arith, length-append files (named name s ∷ []));
  from = λ i f at. elim (at_more files (named name s) at) [
    | inl b ↦ g.from i f b
    | inr p ↦ subst (λ h. IsReadFrom shelf.files h) (sym p.1) (record { bytes = bytes; has = has; source = source })
  ];
}

first_stays : {top : List ℕ} {files : List NamedSource} (x : NamedSource) → IsFirstFile top files → IsFirstFile top (files ++ x ∷ [])
first_stays {files = files} x f = record { file = f.file; stands = at_front files (x ∷ []) f.stands; named = f.named }

grow : {shelf : Shelved} {top : List ℕ} {files : List NamedSource} (name bytes : List ℕ) (s : Source) → Grown shelf top files → Reading top files name → HasBytes shelf.files name bytes → IsSource bytes s → Grown shelf top (files ++ named name s ∷ [])
grow {top = top} {files = files} name bytes s g (the_first e n) has source =
    add name bytes s g (λ h. not_empty h.stands e) (let l = ap length e in omega (arith, l))
    (subst (λ (fs : List NamedSource). IsFirstFile top (fs ++ named name s ∷ [])) (sym e) (record { file = named name s; stands = first_at (named name s) []; named = n })) has source
grow {top = top} {files = files} name bytes s g (a_new_one some new room) has source =
    add name bytes s g new room (elim g.first [ inl e ↦ absurd (some e) | inr f ↦ first_stays (named name s) f ]) has source

whole_one : {shelf : Shelved} {top : List ℕ} {files : List NamedSource} → Grown shelf top files → Calls top files nothing → IsWhole shelf top files
whole_one {files = files} g c =
    let n = nothing_open c in
    record {
      first = elim g.first [ inl e ↦ absurd (let l = ap length e in omega (arith, l, n.0)) | inr f ↦ f ];
      distinct = g.distinct;
      few = g.few;
      from = g.from;
      mentioned = λ i k f x at m. elim (in_or_not files x.file) [
        | inl h ↦ h
        | inr new ↦ absurd (n.1 (record { number = i; element = f; stands = at; holds = record { number = k; element = x; stands = m; holds = inl new } }))
      ];
      no_ring = λ i k f x at m ring. n.1 (record { number = i; element = f; stands = at; holds = record { number = k; element = x; stands = m; holds = inr ring } });
    }

same_project : {p q : List NamedSource} → project p ≡ project q → p ≡ q
same_project e = cc

wholes : {shelf : Shelved} {top : List ℕ} {files : List NamedSource} {o : Outcome} → ComesTo shelf top files o → (p : List NamedSource) → o ≡ project p → Grown shelf top files → IsWhole shelf top p
wholes (outcomes.one_more name bytes s c has source rest) p e g = wholes rest p e (grow name bytes s g (reading c) has source)
wholes (outcomes.file_refused file f c has r) p e g = absurd (cc)
wholes (outcomes.absent name mention c m a) p e g = absurd (cc)
wholes (outcomes.not_read name c r) p e g = absurd (cc)
wholes (outcomes.mention_refused file f c has) p e g = absurd (cc)
wholes {shelf = shelf} {top = top} (outcomes.whole c) p e g = subst (λ (fs : List NamedSource). IsWhole shelf top fs) (same_project e) (whole_one g c)

-- a project that is gathered
pub whole_project : {shelf : Shelved} {top : List ℕ} {p : List NamedSource} → ComesTo shelf top [] (project p) → IsWhole shelf top p
whole_project {p = p} c = wholes c p refl (record {
  first = inl refl;
  distinct = λ i j f h at at' e. absurd (none_at at);
  few = omega arith;
  from = λ i f at. absurd (none_at at);
})
