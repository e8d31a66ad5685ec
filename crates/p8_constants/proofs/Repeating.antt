-- Going through names, and keeping those before in a set.
use Rattle.std.proofs.Common.{◌≡◌, inl, inr, ℕ, ◌+◌, ◌<◌, ◌≤◌, List, [], ◌∷◌, ◌++◌, length, drop, get_or, Option, None, Bool, true, false, refl, ap, sym, ◌∙◌, subst, append_assoc, append-nil}
use Rattle.std.proofs.lemmas.List.Elements.{Contains-append_left, Contains-append_right, Contains-append_cases}
use Rattle.std.specs.Prelude.{Contains, IsTrue, ◌↔◌, ◌||◌}
use Rattle.p8_tree.specs.declared.faults.Fault.{Fault}
use Rattle.p8_tree.specs.Faults.{first_of_two}
use Rattle.p8_constants.specs.declared.names.Defined as code
use Rattle.p8_constants.specs.declared.name_set.NameSet.{NameSet}
use Rattle.p8_constants.specs.Names.{Defined, spelled}
use Rattle.p8_constants.specs.Repeats.{Repeats, RepeatIn}
use Rattle.p8_constants.specs.Standing.{defined_of, all_defined_of, IsFirstOf, Holds}
use Rattle.p8_constants.proofs.Listed.{rest_is, rest_is_empty}
use Rattle.p8_constants.proofs.FirstFaults.{IsSoFar, so_far_begin, so_far_more, so_far_end}

-- a name in one of two lists
pub in_either : (a b : Bool) (xs ys : List (List ℕ)) (n : List ℕ) → IsTrue a ↔ Contains xs n → IsTrue b ↔ Contains ys n → IsTrue (a || b) ↔ Contains (xs ++ ys) n
in_either true b xs ys n h k = (λ t. Contains-append_left xs ys n (h.0 refl), λ c. refl)
in_either false b xs ys n h k =
    (λ t. Contains-append_right xs ys n (k.0 t), λ c. elim (Contains-append_cases xs ys n c) [ inl x ↦ (let so = h.1 x in absurd cc) | inr y ↦ k.1 y ])

-- the set has the names before the rest
pub record Taken (behind : List (List ℕ)) (all rest : List Defined) (own : NameSet) : Type 0 where
  pub names : List (List ℕ)
  pub holds : Holds own names
  pub taken : behind ++ spelled all ≡ names ++ spelled rest

-- and what was found is the first fault so far
pub record Goes (before behind : List (List ℕ)) (all : List Defined) (found : Option Fault) (rest : List Defined) (own : NameSet) : Type 0 where
  pub names : List (List ℕ)
  pub holds : Holds own names
  pub known : List (List ℕ)
  pub known_is : known ≡ before ++ names
  pub so_far : IsSoFar (RepeatIn (before ++ behind) all) found (RepeatIn known rest)

pub taken_begin : (behind : List (List ℕ)) (all : List Defined) (own : NameSet) → Holds own behind → Taken behind all all own
taken_begin behind all own h = record { names = behind; holds = h; taken = refl }

pub goes_begin : (before behind : List (List ℕ)) (all : List Defined) (own : NameSet) → Holds own behind → Goes before behind all None all own
goes_begin before behind all own h = record { names = behind; holds = h; known = before ++ behind; known_is = refl; so_far = so_far_begin _ }

rest_spelled : (ds : List code.Defined) (i : ℕ) (d : code.Defined) → i < length ds → d ≡ get_or ds i d → all_defined_of (drop i ds) ≡ defined_of d ∷ all_defined_of (drop (i + 1) ds)
rest_spelled ds i d l e = ap all_defined_of (rest_is ds i d l e)

pub taken_more : (behind : List (List ℕ)) (all : List Defined) (ds : List code.Defined) (i : ℕ) (d : code.Defined) (old new : NameSet) → i < length ds → d ≡ get_or ds i d → ((names : List (List ℕ)) → Holds old names → Holds new (names ++ d.name.now ∷ [])) → Taken behind all (all_defined_of (drop i ds)) old → Taken behind all (all_defined_of (drop (i + 1) ds)) new
taken_more behind all ds i d old new l e put h = record {
  names = h.names ++ d.name.now ∷ [];
  holds = put h.names h.holds;
  taken = h.taken ∙ ap (λ xs. h.names ++ spelled xs) (rest_spelled ds i d l e) ∙ sym (append_assoc h.names (d.name.now ∷ []) (spelled (all_defined_of (drop (i + 1) ds))));
}

pub goes_more : (before behind : List (List ℕ)) (all : List Defined) (ds : List code.Defined) (i : ℕ) (d : code.Defined) (old new : NameSet) (found next : Option Fault) → i < length ds → d ≡ get_or ds i d → ((names : List (List ℕ)) → Holds old names → Holds new (names ++ d.name.now ∷ [])) → ((names : List (List ℕ)) → Holds old names → IsFirstOf next (Repeats (before ++ names) (defined_of d))) → Goes before behind all found (all_defined_of (drop i ds)) old → Goes before behind all (first_of_two found next) (all_defined_of (drop (i + 1) ds)) new
goes_more before behind all ds i d old new found next l e put told h =
    let here : IsSoFar (RepeatIn (before ++ behind) all) found (RepeatIn h.known (defined_of d ∷ all_defined_of (drop (i + 1) ds))) =
    subst (λ xs. IsSoFar (RepeatIn (before ++ behind) all) found (RepeatIn h.known xs)) (rest_spelled ds i d l e) h.so_far in
    let own : IsFirstOf next (Repeats h.known (defined_of d)) = subst (λ names. IsFirstOf next (Repeats names (defined_of d))) (sym h.known_is) (told h.names h.holds) in
    record {
      names = h.names ++ d.name.now ∷ [];
      holds = put h.names h.holds;
      known = h.known ++ d.name.now ∷ [];
      known_is = ap (λ xs. xs ++ d.name.now ∷ []) h.known_is ∙ append_assoc before h.names (d.name.now ∷ []);
      so_far = so_far_more found next here own;
    }

pub goes_end : (before behind : List (List ℕ)) (all : List Defined) (ds : List code.Defined) (i : ℕ) (own : NameSet) (found : Option Fault) → length ds ≤ i → Goes before behind all found (all_defined_of (drop i ds)) own → IsFirstOf found (RepeatIn (before ++ behind) all)
goes_end before behind all ds i own found l h =
    so_far_end found (λ g r. subst (λ xs. RepeatIn h.known (all_defined_of xs) g) (rest_is_empty ds i l) r) h.so_far

pub taken_end : (behind : List (List ℕ)) (all : List Defined) (ds : List code.Defined) (i : ℕ) (own : NameSet) → length ds ≤ i → Taken behind all (all_defined_of (drop i ds)) own → Holds own (behind ++ spelled all)
taken_end behind all ds i own l h =
    subst (Holds own) (sym (h.taken ∙ ap (λ xs. h.names ++ spelled (all_defined_of xs)) (rest_is_empty ds i l) ∙ append-nil h.names)) h.holds
