-- While a project is gathered, the mentions of finished files aren't open, and what is known goes on to be known.
use Rattle.std.proofs.Common.{◌≡◌, ℕ, ◌+◌, ◌<◌, ◌≤◌, ◌⊎◌, inl, inr, Bool, true, false, ◌||◌, List, [], ◌∷◌, ◌++◌, length, nat_eq, zero, suc, refl, ap, sym, ◌∙◌, subst, arith, length-append}
use Rattle.std.proofs.lemmas.Bool.Decides.{nat_tests}
use Rattle.std.proofs.lemmas.List.Folds.{list_any-append}
use Rattle.p8_tree.specs.Sources.{Child}
use Rattle.p8_tree.specs.Projects.{NamedSource}
use Rattle.p8_objects.specs.Lists.{IsAt, HasOne, IsFirst}
use Rattle.p8_objects.specs.Lists as lists
use Rattle.p8_objects.specs.Sources.{mentions}
use Rattle.p8_objects.specs.Projects.{IsIn, Mentions, Leads, there, over, ClosesRing, IsOpen, HasOpen, IsNext}
use Rattle.p8_objects.specs.Standing.{is_done, IsFinished, IsFirstLeft, AreFinished, Stands, DoneFrom, AllLeadTo}
use Rattle.p8_objects.specs.Standing as standing
use Rattle.p8_objects.proofs.Elements.{one_at, is_within, none_at, skip, unskip, at_front, at_more, at_either, last_at, first_is_one}

pub true_not_false : {b : Bool} → b ≡ true → b ≡ false → ⊥
true_not_false p q = cc

-- a file whose name is that of a finished one is finished
is_finished_at : {files : List NamedSource} {done : List ℕ} (s : Stands files done) {i : ℕ} {f : NamedSource} → IsAt files i f → IsFinished files done f.name → is_done done i ≡ true
is_finished_at {files = files} {done = done} s {i = i} {f = f} at d =
    subst (λ (n : ℕ). is_done done n ≡ true) (s.distinct d.number i d.file f d.stands at d.named) d.finished

rename_finished : {files : List NamedSource} {done : List ℕ} {m n : List ℕ} → m ≡ n → IsFinished files done m → IsFinished files done n
rename_finished {files = files} {done = done} e d = subst (λ (n : List ℕ). IsFinished files done n) e d

-- what a finished file mentions is finished
mentions_finished : {files : List NamedSource} {done : List ℕ} (s : Stands files done) {m n : List ℕ} → Mentions files m n → IsFinished files done m → IsFinished files done n
mentions_finished s h d =
    let at = h.holds.1 in
    rename_finished at.holds (s.finished h.number at.number h.element at.element h.stands (is_finished_at s h.stands (rename_finished (sym h.holds.0) d)) at.stands)

-- from finished files mentions lead to finished ones
stays_finished : {files : List NamedSource} {done : List ℕ} (s : Stands files done) {m n : List ℕ} → Leads files m n → IsFinished files done m → IsFinished files done n
stays_finished s there d = d
stays_finished s (over h l) d = stays_finished s l (mentions_finished s h d)

finished_is_in : {files : List NamedSource} {done : List ℕ} {name : List ℕ} → IsFinished files done name → IsIn files name
finished_is_in d = record { number = d.number; element = d.file; stands = d.stands; holds = d.named }

-- a mention in a finished file isn't open
done_not_open : {files : List NamedSource} {done : List ℕ} (s : Stands files done) {i k : ℕ} {f : NamedSource} {x : Child} → IsAt files i f → is_done done i ≡ true → IsAt (mentions f.tree) k x → IsOpen files f x → ⊥
done_not_open s {i = i} {k = k} {f = f} {x = x} at d m (inl new) = new (finished_is_in (s.finished i k f x at d m))
done_not_open s {i = i} {k = k} {f = f} {x = x} at d m (inr ring) = s.no_ring i k f x at d m ring

-- nor is a mention of a finished file in one that is being gathered
left_not_open : {files : List NamedSource} {done : List ℕ} (s : Stands files done) {i : ℕ} {f : NamedSource} (x : Child) → IsAt files i f → is_done done i ≡ false → IsFinished files done x.file → IsOpen files f x → ⊥
left_not_open s x at d e (inl new) = new (finished_is_in e)
left_not_open s x at d e (inr ring) = true_not_false (is_finished_at s at (stays_finished s ring e)) d

-- after the first of these none has an open mention
none_open_behind : {files : List NamedSource} {done : List ℕ} (s : Stands files done) {n : ℕ} (d : DoneFrom files done n) (j : ℕ) (g : NamedSource) → n ≤ j → IsAt files j g → ¬ HasOpen files g
none_open_behind s d j g l at = λ h. done_not_open s at (d.each j l (is_within at)) h.stands h.holds

-- the first mention that is left is the first that is open
first_open : {files : List NamedSource} {done : List ℕ} (s : Stands files done) {i : ℕ} {f : NamedSource} {x : Child} (xs : List Child) → IsAt files i f → is_done done i ≡ false → IsOpen files f x → IsFirstLeft files done xs x → IsFirst (IsOpen files f) xs x
first_open s xs at d p (standing.here n) = lists.here p
first_open s (y ∷ xs) at d p (standing.later e l) = lists.later (left_not_open s y at d e) (first_open s xs at d p l)

-- what comes next: the first mention that is left in the last file that isn't finished
pub next_is : {files : List NamedSource} {done : List ℕ} (s : Stands files done) {i : ℕ} {f : NamedSource} {x : Child} → IsAt files i f → is_done done i ≡ false → DoneFrom files done (i + 1) → IsFirstLeft files done (mentions f.tree) x → IsOpen files f x → IsNext files f x
next_is {files = files} s {i = i} {f = f} {x = x} at d behind l p =
    let first = first_open s (mentions f.tree) at d p l in
    record { file = last_at files i at (first_is_one first) (λ j g b a. none_open_behind s behind j g (omega arith) a); mention = first }

-- one number is at most that of the last file that isn't finished, if its file isn't finished either
up_to_last : {files : List NamedSource} {done : List ℕ} {i j : ℕ} {g : NamedSource} → DoneFrom files done (i + 1) → IsAt files j g → is_done done j ≡ false → j ≤ i
up_to_last {files = files} {done = done} {i = i} {j = j} behind at d =
    let w = is_within at in
    let h : i + 1 ≤ j → is_done done j ≡ true = λ l. behind.each j l w in
    grind arith

-- a file that isn't finished leads to the last one that isn't
leads_to_last : {files : List NamedSource} {done : List ℕ} (s : Stands files done) {i j : ℕ} {f g : NamedSource} → IsAt files i f → is_done done i ≡ false → DoneFrom files done (i + 1) → IsAt files j g → is_done done j ≡ false → Leads files g.name f.name
leads_to_last s {i = i} {j = j} {f = f} {g = g} at d behind at' d' = s.chain j i g f (up_to_last behind at' d') at' at d' d

-- a mention of a file that is being gathered closes a ring
pub ring_is : {files : List NamedSource} {done : List ℕ} (s : Stands files done) {i j : ℕ} {f g : NamedSource} (x : Child) → IsAt files i f → is_done done i ≡ false → DoneFrom files done (i + 1) → IsAt files j g → is_done done j ≡ false → g.name ≡ x.file → ClosesRing files f x
ring_is {files = files} s {f = f} x at d behind at' d' e =
    subst (λ (n : List ℕ). Leads files n f.name) e (leads_to_last s at d behind at' d')

-- where all files are finished, none has an open mention
pub nothing_open : {files : List NamedSource} {done : List ℕ} (s : Stands files done) → DoneFrom files done 0 → ¬ HasOne (HasOpen files) files
nothing_open s d = λ h. none_open_behind s d h.number h.element (omega arith) h.stands h.holds

leads_then : {files : List NamedSource} {a b c : List ℕ} → Leads files a b → Mentions files b c → Leads files a c
leads_then there h = over h there
leads_then (over g l) h = over g (leads_then l h)

-- each file that isn't finished leads to what the last of them mentions
pub all_lead_to : {files : List NamedSource} {done : List ℕ} (s : Stands files done) {i k : ℕ} {f : NamedSource} {x : Child} → IsAt files i f → is_done done i ≡ false → DoneFrom files done (i + 1) → IsAt (mentions f.tree) k x → AllLeadTo files done x.file
all_lead_to s {i = i} {k = k} {f = f} {x = x} at d behind m = record {
  each = λ j g at' d'. leads_then (leads_to_last s at d behind at' d') (record {
    number = i;
    element = f;
    stands = at;
    holds = (refl, record { number = k; element = x; stands = m; holds = refl });
  });
}

-- one more finished file

done_grows : (done : List ℕ) (k i : ℕ) → is_done (done ++ k ∷ []) i ≡ (is_done done i || (nat_eq k i || false))
done_grows done k i = list_any-append (λ j. nat_eq j i) done (k ∷ [])

done_stays : (done : List ℕ) (k i : ℕ) → is_done done i ≡ true → is_done (done ++ k ∷ []) i ≡ true
done_stays done k i d = let e = done_grows done k i in grind arith

done_either : (done : List ℕ) (k i : ℕ) → is_done (done ++ k ∷ []) i ≡ true → (is_done done i ≡ true) ⊎ (i ≡ k)
done_either done k i d = let e = done_grows done k i in grind (arith, nat_tests)

not_done_before : (done : List ℕ) (k i : ℕ) → is_done (done ++ k ∷ []) i ≡ false → is_done done i ≡ false
not_done_before done k i d = let e = done_grows done k i in grind arith

finished_stays : {files : List NamedSource} {done : List ℕ} {name : List ℕ} (k : ℕ) → IsFinished files done name → IsFinished files (done ++ k ∷ []) name
finished_stays {done = done} k d = record { number = d.number; file = d.file; stands = d.stands; named = d.named; finished = done_stays done k d.number d.finished }

pub finish : {files : List NamedSource} {done : List ℕ} (s : Stands files done) {k : ℕ} {f : NamedSource} → IsAt files k f → is_done done k ≡ false → AreFinished files done (mentions f.tree) → Stands files (done ++ k ∷ [])
finish {files = files} {done = done} s {k = k} {f = f} at d a = record {
  within = λ i e. elim (done_either done k i e) [ inl b ↦ s.within i b | inr p ↦ subst (λ n. n < length files) (sym p) (is_within at) ];
  distinct = s.distinct;
  finished = λ i l g x at' e m. elim (done_either done k i e) [ inl b ↦ finished_stays k (s.finished i l g x at' b m) | inr p ↦ finished_stays k (a.each l x (subst (λ h. IsAt (mentions h.tree) l x) (one_at at' at p) m)) ];
  no_ring = λ i l g x at' e m. elim (done_either done k i e) [ inl b ↦ s.no_ring i l g x at' b m | inr p ↦ λ ring. true_not_false (is_finished_at s at (stays_finished s (subst (λ h. Leads files x.file h.name) (one_at at' at p) ring) (a.each l x (subst (λ h. IsAt (mentions h.tree) l x) (one_at at' at p) m)))) d ];
  chain = λ i j g h l at' at'' e e'. s.chain i j g h l at' at'' (not_done_before done k i e) (not_done_before done k j e');
}

pub done_from_one_less : {files : List NamedSource} {done : List ℕ} (k : ℕ) → DoneFrom files done (k + 1) → is_done done k ≡ true → DoneFrom files done k
done_from_one_less {done = done} k behind d = record { each = λ i l w. elim (same_or_above k i l) [ inl e ↦ subst (λ n. is_done done n ≡ true) e d | inr b ↦ behind.each i b w ] }
  where
    same_or_above : (k i : ℕ) → k ≤ i → (k ≡ i) ⊎ (k + 1 ≤ i)
    same_or_above k i l = grind arith

pub done_from_finish : {files : List NamedSource} {done : List ℕ} (k : ℕ) → DoneFrom files done (k + 1) → DoneFrom files (done ++ k ∷ []) k
done_from_finish {files = files} {done = done} k behind =
    let b : DoneFrom files (done ++ k ∷ []) (k + 1) = record { each = λ i l w. done_stays done k i (behind.each i l w) } in
    done_from_one_less k b (let e = done_grows done k k in grind (arith, nat_tests))

-- one more file

one_in_more : {X : Type 0} {P : X → Type 0} {xs : List X} (y : X) → HasOne P xs → HasOne P (xs ++ y ∷ [])
one_in_more {xs = xs} y h = record { number = h.number; element = h.element; stands = at_front xs (y ∷ []) h.stands; holds = h.holds }

leads_more : {files : List NamedSource} {m n : List ℕ} (f : NamedSource) → Leads files m n → Leads (files ++ f ∷ []) m n
leads_more f there = there
leads_more f (over h l) = over (one_in_more f h) (leads_more f l)

finished_more : {files : List NamedSource} {done : List ℕ} {name : List ℕ} (f : NamedSource) → IsFinished files done name → IsFinished (files ++ f ∷ []) done name
finished_more {files = files} f d = record { number = d.number; file = d.file; stands = at_front files (f ∷ []) d.stands; named = d.named; finished = d.finished }

-- from finished files mentions lead nowhere else than before
leads_before : {files : List NamedSource} {done : List ℕ} (s : Stands files done) (f : NamedSource) → ¬ IsIn files f.name → {m n : List ℕ} → IsFinished files done m → Leads (files ++ f ∷ []) m n → Leads files m n
leads_before s f new d there = there
leads_before {files = files} s f new d (over h l) =
    elim (at_more files f h.stands) [
      | inl b ↦ over (record { number = h.number; element = h.element; stands = b; holds = h.holds }) (leads_before s f new (mentions_finished s (record { number = h.number; element = h.element; stands = b; holds = h.holds }) d) l)
      | inr p ↦ absurd (new (finished_is_in (rename_finished (sym h.holds.0 ∙ ap (λ g. g.name) p.1) d)))
    ]

pub one_more_stands : {files : List NamedSource} {done : List ℕ} (s : Stands files done) (f : NamedSource) → ¬ IsIn files f.name → AllLeadTo files done f.name → Stands (files ++ f ∷ []) done
one_more_stands {files = files} {done = done} s f new lead = record {
  within = λ i d. let w = s.within i d in omega (arith, length-append files (f ∷ []));
  distinct = λ i j g h at at' e. elim (at_more files f at) [
    | inl b ↦ elim (at_more files f at') [
      | inl b' ↦ s.distinct i j g h b b' e
      | inr p ↦ absurd (new (record { number = i; element = g; stands = b; holds = e ∙ ap (λ x. x.name) p.1 }))
    ]
    | inr p ↦ elim (at_more files f at') [
      | inl b' ↦ absurd (new (record { number = j; element = h; stands = b'; holds = sym e ∙ ap (λ x. x.name) p.1 }))
      | inr q ↦ p.0 ∙ sym q.0
    ]
  ];
  finished = λ i k g x at d m. elim (at_more files f at) [
    | inl b ↦ finished_more f (s.finished i k g x b d m)
    | inr p ↦ let w = s.within i d in absurd (omega (arith, p.0))
  ];
  no_ring = λ i k g x at d m. elim (at_more files f at) [
    | inl b ↦ λ ring. s.no_ring i k g x b d m (leads_before s f new (s.finished i k g x b d m) ring)
    | inr p ↦ let w = s.within i d in absurd (omega (arith, p.0))
  ];
  chain = λ i j g h l at at' d d'. elim (at_more files f at) [
    | inl b ↦ elim (at_more files f at') [
      | inl b' ↦ leads_more f (s.chain i j g h l b b' d d')
      | inr q ↦ subst (λ x. Leads (files ++ f ∷ []) g.name x.name) (sym q.1) (leads_more f (lead.each i g b d))
    ]
    | inr p ↦ elim (at_more files f at') [
      | inl b' ↦ let w = is_within b' in absurd (omega (arith, p.0))
      | inr q ↦ subst (λ x. Leads (files ++ f ∷ []) g.name x.name) (p.1 ∙ sym q.1) there
    ]
  ];
}

-- nothing is gathered yet
pub nothing_stands : (name : List ℕ) → Stands [] [] × AllLeadTo [] [] name
nothing_stands name = (
  record {
    within = λ i d. absurd (true_not_false d refl);
    distinct = λ i j f g at at' e. absurd (none_at at);
    finished = λ i k f x at d m. absurd (none_at at);
    no_ring = λ i k f x at d m. absurd (none_at at);
    chain = λ i j f g l at at' d d'. absurd (none_at at);
  },
  record { each = λ i f at d. absurd (none_at at) },
)

-- mentions that are left

pub first_left_at : {files : List NamedSource} {done : List ℕ} {xs : List Child} {x : Child} → IsFirstLeft files done xs x → (k : ℕ) × IsAt xs k x
first_left_at (standing.here n) = (0, record { is = refl })
first_left_at (standing.later d l) = let h = first_left_at l in (suc h.0, skip h.1)

pub first_left_in_front : {files : List NamedSource} {done : List ℕ} {xs : List Child} {x : Child} (ys : List Child) → IsFirstLeft files done xs x → IsFirstLeft files done (xs ++ ys) x
first_left_in_front ys (standing.here n) = standing.here n
first_left_in_front ys (standing.later d l) = standing.later d (first_left_in_front ys l)

pub first_left_behind : {files : List NamedSource} {done : List ℕ} (xs : List Child) {ys : List Child} {x : Child} → AreFinished files done xs → IsFirstLeft files done ys x → IsFirstLeft files done (xs ++ ys) x
first_left_behind [] a l = l
first_left_behind (y ∷ xs) a l = standing.later (a.each 0 y (record { is = refl })) (first_left_behind xs (record { each = λ k x at. a.each (suc k) x (skip at) }) l)

pub first_left_by_number : {files : List NamedSource} {done : List ℕ} (xs : List Child) (i : ℕ) {x : Child} → IsAt xs i x → ((j : ℕ) (y : Child) → j < i → IsAt xs j y → IsFinished files done y.file) → ¬ IsFinished files done x.file → IsFirstLeft files done xs x
first_left_by_number [] i at a n = absurd (none_at at)
first_left_by_number {files = files} {done = done} (y ∷ xs) zero {x = x} at a n =
    subst (λ z. IsFirstLeft files done (y ∷ xs) z) (one_at (record { is = refl }) at refl)
    (standing.here (subst (λ z. ¬ IsFinished files done z.file) (one_at at (record { is = refl }) refl) n))
first_left_by_number (y ∷ xs) (suc i) at a n = standing.later (a 0 y (omega arith) (record { is = refl })) (first_left_by_number xs i (unskip at) (λ j z l at'. a (suc j) z (omega arith) (skip at')) n)

pub both_finished : {files : List NamedSource} {done : List ℕ} (xs ys : List Child) → AreFinished files done xs → AreFinished files done ys → AreFinished files done (xs ++ ys)
both_finished xs ys a b = record { each = λ k x at. elim (at_either xs ys at) [ inl c ↦ a.each k x c | inr c ↦ b.each c.0 x c.1 ] }
