-- One entry more in a table, and the entries of a list put from the last one on.
use Rattle.std.proofs.Common.{◌≡◌, ℕ, Bool, true, false, ◌<◌, ◌≤◌, ◌+◌, ◌-◌, List, ◌∷◌, length, drop, map, get_or, Option, Some, None, inl, inr, refl, ap, sym, ◌∙◌, subst, arith}
use Rattle.std.proofs.lemmas.Bool.{cases_Bool}
use Rattle.std.proofs.lemmas.List.{drop_more, drop_all}
use Rattle.std.proofs.lemmas.Slice.Eq.{bytes_eq-Decides}
use Rattle.std.specs.Prelude.{if◌then◌else◌, Result, Ok, Err, OnOk}
use Rattle.std.specs.Map.{lookup}
use Rattle.std.specs.Str.{bytes_eq}
use Rattle.p8_fold.specs.declared.meanings.Meaning.{Meaning}
use Rattle.p8_fold.specs.declared.meanings.Meaning.TheVariants as meaning_case
use Rattle.p8_fold.specs.Meanings.{Setting, entry}
use Rattle.p8_constants.specs.FileItems as items
use Rattle.p8_constants.specs.declared.items.Item as code
use Rattle.p8_constants.specs.declared.language.NamedConstant.{NamedConstant}
use Rattle.p8_constants.specs.Standing.{item_of, items_of, valued}
use Rattle.p8_kinds.specs.declared.children.ChildConst.{ChildConst}
use Rattle.p8_constants.specs.Names.{name_of}
use Rattle.p8_names.specs.Settings.{has_name, definition, meaning_of_item, meaning_outside}
use Rattle.p8_names.specs.Changes.{IsPut, HasNames, over, HasConstants}

-- a choice by a test that is so, and by one that isn't
chosen : {A : Type 0} (b : Bool) (x y : A) → b ≡ true → (if b then x else y) ≡ x
chosen b x y e = ap (λ c. if c then x else y) e

not_chosen : {A : Type 0} (b : Bool) (x y : A) → b ≡ false → (if b then x else y) ≡ y
not_chosen b x y e = ap (λ c. if c then x else y) e

pub is_put : (s t : Setting) (name : List ℕ) (m : Option Meaning) → entry t None name ≡ m → ((o : Option (List ℕ)) (n : List ℕ) → ¬ ((o ≡ None) × (n ≡ name)) → entry t o n ≡ entry s o n) → t.here ≡ s.here → IsPut s t (Some name) m
is_put s t name m entered others here = record {
  names = λ n. elim (cases_Bool (bytes_eq n name)) [
    | inl same ↦ ap t.name ((bytes_eq-Decides n name).0 same) ∙ entered ∙ sym (chosen (bytes_eq n name) m (s.name n) same)
    | inr apart ↦ others None n (λ p. let so = (bytes_eq-Decides n name).1 p.1 in absurd cc) ∙ sym (not_chosen (bytes_eq n name) m (s.name n) apart)
  ];
  constants = λ owner n. others (Some owner) n (λ p. absurd (let e = p.0 in cc));
  here = here;
}

pub on_ok : {T E : Type 0} {P Q : Type 0} (r : Result T E) → (P → Q) → OnOk r P → OnOk r Q
on_ok (Ok x) f h = f h
on_ok (Err e) f h = tt

pub nothing_put : (s : Setting) (m : Option Meaning) → IsPut s s None m
nothing_put s m = record { names = λ n. refl; constants = λ owner n. refl; here = refl }

pub names_begin : (s : Setting) (f : List ℕ → Option Meaning) → ((n : List ℕ) → s.name n ≡ f n) → HasNames s s f
names_begin s f h = record { names = h; constants = λ owner n. refl; here = refl }

pub names_put : {r s t : Setting} {f : List ℕ → Option Meaning} (g : List ℕ → Option Meaning) {o : Option (List ℕ)} {m : Option Meaning} → ((n : List ℕ) → g n ≡ (if has_name o n then m else f n)) → HasNames r s f → IsPut s t o m → HasNames r t g
names_put {f = f} g {o = o} {m = m} is h p = record {
  names = λ n. p.names n ∙ ap (λ x. if has_name o n then m else x) (h.names n) ∙ sym (is n);
  constants = λ owner n. p.constants owner n ∙ h.constants owner n;
  here = p.here ∙ h.here;
}

-- the last of what is left
last_is : {X : Type 0} (xs : List X) (k : ℕ) (x : X) → 0 < k → k ≤ length xs → x ≡ get_or xs (k - 1) x → drop (k - 1) xs ≡ x ∷ drop k xs
last_is xs k x p l e =
    drop_more xs (k - 1) x (omega arith) ∙ ap (λ y. y ∷ drop ((k - 1) + 1) xs) (sym e) ∙ ap (λ (j : ℕ). x ∷ drop j xs) (let same : (k - 1) + 1 ≡ k = omega arith in same)

one_item : (b : Bool) (x : items.Item) (d : Option items.Item) → meaning_outside None (if b then Some x else d) ≡ (if b then meaning_of_item x else meaning_outside None d)
one_item true x d = refl
one_item false x d = refl

one_constant : (b : Bool) (v : ℕ) (d : Option ℕ) (m : Option Meaning) → over (if b then Some v else d) m ≡ (if b then Some (meaning_case.Value v) else over d m)
one_constant true v d m = refl
one_constant false v d m = refl

-- the items from this number on, one more
pub items_more : {r s t : Setting} (xs : List code.Item) (k : ℕ) (x : code.Item) → 0 < k → k ≤ length xs → x ≡ get_or xs (k - 1) x → HasNames r s (λ n. meaning_outside None (definition (items_of (drop k xs)) n)) → IsPut s t (name_of (item_of x)) (meaning_of_item (item_of x)) → HasNames r t (λ n. meaning_outside None (definition (items_of (drop (k - 1) xs)) n))
items_more xs k x p l e h put =
    names_put (λ n. meaning_outside None (definition (items_of (drop (k - 1) xs)) n))
    (λ n. ap (λ ys. meaning_outside None (definition (items_of ys) n)) (last_is xs k x p l e) ∙ one_item (has_name (name_of (item_of x)) n) (item_of x) (definition (items_of (drop k xs)) n)) h put

pub items_end : {r s : Setting} (xs : List code.Item) (k : ℕ) → k ≡ 0 → HasNames r s (λ n. meaning_outside None (definition (items_of (drop k xs)) n)) → HasNames r s (λ n. meaning_outside None (definition (items_of xs) n))
items_end {r = r} {s = s} xs k e h = subst (λ (j : ℕ). HasNames r s (λ n. meaning_outside None (definition (items_of (drop j xs)) n))) e h

pub items_begin : (s : Setting) (xs : List code.Item) → ((n : List ℕ) → s.name n ≡ None) → HasNames s s (λ n. meaning_outside None (definition (items_of (drop (length xs) xs)) n))
items_begin s xs h = names_begin s _ (λ n. h n ∙ ap (λ ys. meaning_outside None (definition (items_of ys) n)) (sym (drop_all (length xs) xs (omega arith))))

-- the constants of the language from this number on, one more
pub constants_more : {r s t : Setting} (cs : List NamedConstant) (k : ℕ) (c : NamedConstant) → 0 < k → k ≤ length cs → c ≡ get_or cs (k - 1) c → HasNames r s (λ n. over (lookup (bytes_eq n) (valued (drop k cs))) (r.name n)) → IsPut s t (Some c.name) (Some (meaning_case.Value c.value)) → HasNames r t (λ n. over (lookup (bytes_eq n) (valued (drop (k - 1) cs))) (r.name n))
constants_more {r = r} cs k c p l e h put =
    names_put (λ n. over (lookup (bytes_eq n) (valued (drop (k - 1) cs))) (r.name n))
    (λ n. ap (λ ys. over (lookup (bytes_eq n) (valued ys)) (r.name n)) (last_is cs k c p l e) ∙ one_constant (bytes_eq n c.name) c.value (lookup (bytes_eq n) (valued (drop k cs))) (r.name n)) h put

pub constants_end : {r s : Setting} (cs : List NamedConstant) (k : ℕ) → k ≡ 0 → HasNames r s (λ n. over (lookup (bytes_eq n) (valued (drop k cs))) (r.name n)) → HasNames r s (λ n. over (lookup (bytes_eq n) (valued cs)) (r.name n))
constants_end {r = r} {s = s} cs k e h = subst (λ (j : ℕ). HasNames r s (λ n. over (lookup (bytes_eq n) (valued (drop j cs))) (r.name n))) e h

pub constants_begin : (s : Setting) (cs : List NamedConstant) → HasNames s s (λ n. over (lookup (bytes_eq n) (valued (drop (length cs) cs))) (s.name n))
constants_begin s cs = names_begin s _ (λ n. ap (λ ys. over (lookup (bytes_eq n) (valued ys)) (s.name n)) (sym (drop_all (length cs) cs (omega arith))))

-- those of an object's file
abbrev pub Behind : Setting → Setting → List ℕ → List ChildConst → Type 0
Behind r s owner cs = HasConstants r s owner (λ n. lookup (bytes_eq n) (map (λ x. (x.name, x.value)) cs))

pub behind_begin : (s : Setting) (owner : List ℕ) (cs : List ChildConst) → Behind s s owner (drop (length cs) cs)
behind_begin s owner cs = record {
  at = λ n. ap (λ ys. over (lookup (bytes_eq n) (map (λ x. (x.name, x.value)) ys)) (s.constant owner n)) (sym (drop_all (length cs) cs (omega arith)));
  others = λ o n ne. refl;
  names = λ n. refl;
  here = refl;
}

pub behind_more : {r s : Setting} (t : Setting) (owner : List ℕ) (cs : List ChildConst) (k : ℕ) (c : ChildConst) → 0 < k → k ≤ length cs → c ≡ get_or cs (k - 1) c → Behind r s owner (drop k cs) → entry t (Some owner) c.name ≡ Some (meaning_case.Value c.value) → ((o : Option (List ℕ)) (n : List ℕ) → ¬ ((o ≡ Some owner) × (n ≡ c.name)) → entry t o n ≡ entry s o n) → t.here ≡ s.here → Behind r t owner (drop (k - 1) cs)
behind_more {r = r} {s = s} t owner cs k c p l e h entered others here = record {
  at = λ n. elim (cases_Bool (bytes_eq n c.name)) [
    | inl same ↦ ap (t.constant owner) ((bytes_eq-Decides n c.name).0 same) ∙ entered ∙ sym (step n ∙ chosen (bytes_eq n c.name) (Some (meaning_case.Value c.value)) (rest n) same)
    | inr apart ↦ others (Some owner) n (λ q. let so = (bytes_eq-Decides n c.name).1 q.1 in absurd cc) ∙ h.at n ∙ sym (step n ∙ not_chosen (bytes_eq n c.name) (Some (meaning_case.Value c.value)) (rest n) apart)
  ];
  others = λ o n ne. others (Some o) n (λ q. ne (some_is q.0)) ∙ h.others o n ne;
  names = λ n. others None n (λ q. absurd (let e = q.0 in cc)) ∙ h.names n;
  here = here ∙ h.here;
}
  where
    rest : List ℕ → Option Meaning
    rest n = over (lookup (bytes_eq n) (map (λ x. (x.name, x.value)) (drop k cs))) (r.constant owner n)

    some_is : {a b : List ℕ} → Some a ≡ Some b → a ≡ b
    some_is e = cc

    step : (n : List ℕ) → over (lookup (bytes_eq n) (map (λ x. (x.name, x.value)) (drop (k - 1) cs))) (r.constant owner n) ≡ (if bytes_eq n c.name then Some (meaning_case.Value c.value) else rest n)
    step n = ap (λ ys. over (lookup (bytes_eq n) (map (λ x. (x.name, x.value)) ys)) (r.constant owner n)) (last_is cs k c p l e) ∙ one_constant (bytes_eq n c.name) c.value (lookup (bytes_eq n) (map (λ x. (x.name, x.value)) (drop k cs))) (r.constant owner n)

pub behind_end : {r s : Setting} (owner : List ℕ) (cs : List ChildConst) (k : ℕ) → k ≡ 0 → Behind r s owner (drop k cs) → Behind r s owner cs
behind_end {r = r} {s = s} owner cs k e h = subst (λ (j : ℕ). Behind r s owner (drop j cs)) e h

pub behind_is : {r s : Setting} (owner : List ℕ) (cs ds : List ChildConst) → cs ≡ ds → Behind r s owner cs → Behind r s owner ds
behind_is {r = r} {s = s} owner cs ds e h = subst (Behind r s owner) e h
