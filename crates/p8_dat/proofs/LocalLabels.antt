-- Regions, and that after a region names mean what they meant before it.
use Rattle.std.proofs.Common.{◌≡◌, ℕ, zero, suc, ◌<◌, Bool, true, false, List, [], ◌∷◌, ◌++◌, length, take, drop, map, Option, Some, None, inl, inr, refl, sym, ap, ◌∙◌, append_assoc, arith}
use Rattle.std.specs.Prelude.{if◌then◌else◌, ◌&&◌, ◌||◌, not}
use Rattle.std.specs.List.{fold}
use Rattle.std.specs.Str.{bytes_eq}
use Rattle.std.proofs.lemmas.Bool.{cases_Bool}
use Rattle.p8_tree.specs.declared.faults.Fault.{Fault}
use Rattle.p8_tree.specs.Names.{is_local}
use Rattle.p8_fold.specs.declared.meanings.Meaning.{Meaning}
use Rattle.p8_fold.specs.declared.meanings.Meaning.TheVariants as meaning_case
use Rattle.p8_fold.specs.Meanings.{Setting}
use Rattle.p8_dat.specs.declared.placing.Placed as code
use Rattle.p8_dat.specs.Spots.{Placed}
use Rattle.p8_dat.specs.Names.{with_label, with_common, with_local, is_named, label_at, common, in_front, regions, names_in}
use Rattle.p8_dat.specs.Bytes.{lines_bytes}
use Rattle.p8_dat.specs.Blocks.{regions_bytes}
use Rattle.p8_dat.specs.First.{told_in_lines, told_in_regions}
use Rattle.p8_dat.specs.Placing.{placed_of, without_local, unplaced, unnamed_length, region_length, is_local_label, has_local, AreHidden}
use Rattle.p8_dat.proofs.Settings.{same_settings}

-- ---- the first region

one_more : (b : Bool) (k : ℕ) (x y : Placed) (ys : List Placed) → regions (y ∷ ys) ≡ (y ∷ take k ys) ∷ regions (drop k ys)
    → (if b then (x ∷ []) ∷ (y ∷ take k ys) ∷ regions (drop k ys) else (x ∷ y ∷ take k ys) ∷ regions (drop k ys))
    ≡ (x ∷ take (if b then 0 else suc k) (y ∷ ys)) ∷ regions (drop (if b then 0 else suc k) (y ∷ ys))
one_more true k x y ys h = ap (λ rs. (x ∷ []) ∷ rs) (sym h)
one_more false k x y ys h = refl

first_region : (x : Placed) (xs : List Placed) → regions (x ∷ xs) ≡ (x ∷ take (unnamed_length xs) xs) ∷ regions (drop (unnamed_length xs) xs)
first_region x [] = refl
first_region x (y ∷ ys) = ap (in_front x) (first_region y ys) ∙ one_more (is_named y.line.label) (unnamed_length ys) x y ys (first_region y ys)

map_take : {A B : Type 0} (f : A → B) (n : ℕ) (xs : List A) → map f (take n xs) ≡ take n (map f xs)
map_take f zero xs = refl
map_take f (suc n) [] = refl
map_take f (suc n) (x ∷ xs) = ap (λ ys. f x ∷ ys) (map_take f n xs)

map_drop : {A B : Type 0} (f : A → B) (n : ℕ) (xs : List A) → map f (drop n xs) ≡ drop n (map f xs)
map_drop f zero xs = refl
map_drop f (suc n) [] = refl
map_drop f (suc n) (x ∷ xs) = map_drop f n xs

-- the first region is cut off
pub cut : (ps : List code.Placed) (n : ℕ) → 0 < length ps → n ≡ region_length (map placed_of ps) → regions (map placed_of ps) ≡ map placed_of (take n ps) ∷ regions (map placed_of (drop n ps))
cut [] n h is = absurd (omega arith)
cut (p ∷ ps) n h is =
    let xs = map placed_of ps in
    let k = unnamed_length xs in
    first_region (placed_of p) xs
    ∙ ap (λ r. (placed_of p ∷ r) ∷ regions (drop k xs)) (sym (map_take placed_of k ps))
    ∙ ap (λ r. map placed_of (take (suc k) (p ∷ ps)) ∷ regions r) (sym (map_drop placed_of k ps))
    ∙ ap (λ n. map placed_of (take n (p ∷ ps)) ∷ regions (map placed_of (drop n (p ∷ ps)))) (sym is)

-- ---- after a region

-- local labels, each with a meaning
abbrev entering : (Placed → Meaning) → Setting → Placed → Setting
entering g s x = if is_named x.line.label then s else with_label x.line.label (g x) s

other_name : (b c : Bool) (o p : Option Meaning) → (b && c) ≡ false → (if not b then p else (if c then o else p)) ≡ p
other_name true true o p h = absurd cc
other_name true false o p h = refl
other_name false c o p h = refl

-- a record's field by cases
name_if : (b : Bool) (s t : Setting) (n : List ℕ) → (if b then s else t).name n ≡ (if b then s.name n else t.name n)
name_if true s t n = refl
name_if false s t n = refl

one_kept : (g : Placed → Meaning) (n : List ℕ) (x : Placed) (s : Setting) (label : Option (List ℕ)) → is_local_label label n ≡ false → (if is_named label then s else with_label label (g x) s).name n ≡ s.name n
one_kept g n x s None h = refl
one_kept g n x s (Some m) h =
    name_if (not (is_local m)) s (with_label (Some m) (g x) s) n ∙ other_name (is_local m) (bytes_eq n m) (Some (g x)) (s.name n) h

left_false : (a b : Bool) → (a || b) ≡ false → a ≡ false
left_false true b h = h
left_false false b h = refl

right_false : (a b : Bool) → (a || b) ≡ false → b ≡ false
right_false true b h = absurd cc
right_false false b h = h

names_kept : (g : Placed → Meaning) (n : List ℕ) (xs : List Placed) (s : Setting) → has_local xs n ≡ false → (fold (entering g) s xs).name n ≡ s.name n
names_kept g n [] s h = refl
names_kept g n (x ∷ xs) s h =
    names_kept g n xs (entering g s x) (right_false (is_local_label x.line.label n) (has_local xs n) h)
    ∙ one_kept g n x s x.line.label (left_false (is_local_label x.line.label n) (has_local xs n) h)

constant_if : (b : Bool) (label : Option (List ℕ)) (m : Meaning) (s : Setting) (o n : List ℕ) → (if b then s else with_label label m s).constant o n ≡ s.constant o n
constant_if true label m s o n = refl
constant_if false None m s o n = refl
constant_if false (Some l) m s o n = refl

constants_kept : (g : Placed → Meaning) (o n : List ℕ) (xs : List Placed) (s : Setting) → (fold (entering g) s xs).constant o n ≡ s.constant o n
constants_kept g o n [] s = refl
constants_kept g o n (x ∷ xs) s = constants_kept g o n xs (entering g s x) ∙ constant_if (is_named x.line.label) x.line.label (g x) s o n

here_if : (b : Bool) (label : Option (List ℕ)) (m : Meaning) (s : Setting) → (if b then s else with_label label m s).here ≡ s.here
here_if true label m s = refl
here_if false None m s = refl
here_if false (Some l) m s = refl

here_kept : (g : Placed → Meaning) (xs : List Placed) (s : Setting) → (fold (entering g) s xs).here ≡ s.here
here_kept g [] s = refl
here_kept g (x ∷ xs) s = here_kept g xs (entering g s x) ∙ here_if (is_named x.line.label) x.line.label (g x) s

this_name : (b c : Bool) (o p : Option Meaning) → (b && c) ≡ true → (if not b then p else (if c then o else p)) ≡ o
this_name true true o p h = refl
this_name true false o p h = absurd cc
this_name false c o p h = absurd cc

one_lost : (n : List ℕ) (s : Setting) (label : Option (List ℕ)) → is_local_label label n ≡ true → (if is_named label then s else with_label label meaning_case.Other s).name n ≡ Some meaning_case.Other
one_lost n s None h = absurd cc
one_lost n s (Some m) h =
    name_if (not (is_local m)) s (with_label (Some m) meaning_case.Other s) n ∙ this_name (is_local m) (bytes_eq n m) (Some meaning_case.Other) (s.name n) h

or_left : (a b : Bool) → (a || b) ≡ true → b ≡ false → a ≡ true
or_left true b h gone = refl
or_left false b h gone = absurd cc

names_lost : (n : List ℕ) (xs : List Placed) (s : Setting) → has_local xs n ≡ true → (fold without_local s xs).name n ≡ Some meaning_case.Other
names_lost n [] s h = absurd cc
names_lost n (x ∷ xs) s h =
    elim (cases_Bool (has_local xs n)) [
      | inl again ↦ names_lost n xs (without_local s x) again
      | inr gone ↦
          names_kept (λ x. meaning_case.Other) n xs (without_local s x) gone
          ∙ one_lost n s x.line.label (or_left (is_local_label x.line.label n) (has_local xs n) h gone)
    ]

-- a region's local labels come and go
come_and_go : (s : Setting) (xs : List Placed) → AreHidden s xs → (n : List ℕ) → (fold without_local (fold with_local s xs) xs).name n ≡ s.name n
come_and_go s xs hidden n =
    elim (cases_Bool (has_local xs n)) [
      | inl local ↦ names_lost n xs (fold with_local s xs) local ∙ sym (hidden.each n local)
      | inr other ↦ names_kept (λ x. meaning_case.Other) n xs (fold with_local s xs) other ∙ names_kept (λ x. label_at x.at) n xs s other
    ]

pub as_before : (s : Setting) (xs : List Placed) → AreHidden s xs → fold without_local (fold with_local s xs) xs ≡ s
as_before s xs hidden =
    let t = fold with_local s xs in
    same_settings s (fold without_local t xs) (come_and_go s xs hidden)
    (λ o n. constants_kept (λ x. meaning_case.Other) o n xs t ∙ constants_kept (λ x. label_at x.at) o n xs s)
    (here_kept (λ x. meaning_case.Other) xs t ∙ here_kept (λ x. label_at x.at) xs s)

-- ---- settings without a place

unplaced_one : (b : Bool) (label : Option (List ℕ)) (m : Meaning) (s : Setting) → unplaced (if b then s else with_label label m s) ≡ (if b then unplaced s else with_label label m (unplaced s))
unplaced_one true label m s = refl
unplaced_one false None m s = refl
unplaced_one false (Some l) m s = refl

unplaced_all : (g : Placed → Meaning) (s : Setting) (xs : List Placed) → unplaced (fold (entering g) s xs) ≡ fold (entering g) (unplaced s) xs
unplaced_all g s [] = refl
unplaced_all g s (x ∷ xs) = unplaced_all g (entering g s x) xs ∙ ap (λ t. fold (entering g) t xs) (unplaced_one (is_named x.line.label) x.line.label (g x) s)

pub unplaced_in : (s : Setting) (xs : List Placed) → unplaced (fold with_local s xs) ≡ names_in (unplaced s) xs
unplaced_in s xs = unplaced_all (λ x. label_at x.at) s xs

unplaced_label : (label : Option (List ℕ)) (m : Meaning) (s : Setting) → unplaced (with_label label m s) ≡ with_label label m (unplaced s)
unplaced_label None m s = refl
unplaced_label (Some l) m s = refl

pub unplaced_common : (s : Setting) (xs : List Placed) → unplaced (fold with_common s xs) ≡ fold with_common (unplaced s) xs
unplaced_common s [] = refl
unplaced_common s (x ∷ xs) = unplaced_common (with_common s x) xs ∙ ap (λ t. fold with_common t xs) (unplaced_label x.line.label (common x) s)

-- after a region: u is the setting there
pub behind_region : (s e p u : Setting) (xs : List Placed) → AreHidden (unplaced s) xs → e ≡ fold with_local s xs → unplaced p ≡ unplaced e → u ≡ fold without_local p xs → unplaced u ≡ unplaced s
behind_region s e p u xs hidden entered put left =
    ap unplaced left ∙ unplaced_all (λ x. meaning_case.Other) p xs
    ∙ ap (λ t. fold without_local t xs) (put ∙ ap unplaced entered ∙ unplaced_all (λ x. label_at x.at) s xs) ∙ as_before (unplaced s) xs hidden

-- ---- hidden labels

or_right : (a b : Bool) → b ≡ true → (a || b) ≡ true
or_right true b h = refl
or_right false b h = h

or_first : (a b : Bool) → a ≡ true → (a || b) ≡ true
or_first true b h = refl
or_first false b h = absurd cc

has_in_take : (k : ℕ) (xs : List Placed) (n : List ℕ) → has_local (take k xs) n ≡ true → has_local xs n ≡ true
has_in_take zero xs n h = absurd cc
has_in_take (suc k) [] n h = h
has_in_take (suc k) (x ∷ xs) n h =
    elim (cases_Bool (is_local_label x.line.label n)) [
      | inl here ↦ or_first (is_local_label x.line.label n) (has_local xs n) here
      | inr not_here ↦
          or_right (is_local_label x.line.label n) (has_local xs n)
          (has_in_take k xs n (sym (ap (λ a. a || has_local (take k xs) n) not_here) ∙ h))
    ]

has_in_drop : (k : ℕ) (xs : List Placed) (n : List ℕ) → has_local (drop k xs) n ≡ true → has_local xs n ≡ true
has_in_drop zero xs n h = h
has_in_drop (suc k) [] n h = h
has_in_drop (suc k) (x ∷ xs) n h = or_right (is_local_label x.line.label n) (has_local xs n) (has_in_drop k xs n h)

pub hidden_in_take : (s t : Setting) (k : ℕ) (ps : List code.Placed) → t ≡ s → AreHidden s (map placed_of ps) → AreHidden t (map placed_of (take k ps))
hidden_in_take s t k ps same hidden = record {
  each = λ n h. ap (λ t. t.name n) same ∙ hidden.each n (has_in_take k (map placed_of ps) n (ap (λ xs. has_local xs n) (sym (map_take placed_of k ps)) ∙ h));
}

pub hidden_in_drop : (s t : Setting) (k : ℕ) (ps : List code.Placed) → t ≡ s → AreHidden s (map placed_of ps) → AreHidden t (map placed_of (drop k ps))
hidden_in_drop s t k ps same hidden = record {
  each = λ n h. ap (λ t. t.name n) same ∙ hidden.each n (has_in_drop k (map placed_of ps) n (ap (λ xs. has_local xs n) (sym (map_drop placed_of k ps)) ∙ h));
}

-- ---- one region more

pub next_region : (s t u : Setting) (ps qs rs : List code.Placed) (n : ℕ) (old new : List ℕ) → 0 < length ps → n ≡ region_length (map placed_of ps) → qs ≡ take n ps → rs ≡ drop n ps → u ≡ t
    → new ≡ old ++ lines_bytes s (names_in u (map placed_of qs)) (map placed_of qs)
    → new ++ regions_bytes s t (regions (map placed_of rs)) ≡ old ++ regions_bytes s t (regions (map placed_of ps))
next_region s t u ps qs rs n old new some is front back same put =
    ap (λ rs. new ++ regions_bytes s t (regions (map placed_of rs))) back
    ∙ ap (λ new. new ++ regions_bytes s t (regions (map placed_of (drop n ps))))
    (put ∙ ap (λ u. old ++ lines_bytes s (names_in u (map placed_of qs)) (map placed_of qs)) same ∙ ap (λ qs. old ++ lines_bytes s (names_in t (map placed_of qs)) (map placed_of qs)) front)
    ∙ append_assoc old _ _ ∙ ap (λ rs. old ++ regions_bytes s t rs) (sym (cut ps n some is))

pub next_told_region : (s t u : Setting) (ps qs rs : List code.Placed) (n : ℕ) (old new : Option Fault) → 0 < length ps → n ≡ region_length (map placed_of ps) → qs ≡ take n ps → rs ≡ drop n ps → u ≡ t
    → new ≡ told_in_lines old s (names_in u (map placed_of qs)) (map placed_of qs)
    → told_in_regions new s t (regions (map placed_of rs)) ≡ told_in_regions old s t (regions (map placed_of ps))
next_told_region s t u ps qs rs n old new some is front back same put =
    ap (λ rs. told_in_regions new s t (regions (map placed_of rs))) back
    ∙ ap (λ new. told_in_regions new s t (regions (map placed_of (drop n ps))))
    (put ∙ ap (λ u. told_in_lines old s (names_in u (map placed_of qs)) (map placed_of qs)) same ∙ ap (λ qs. told_in_lines old s (names_in t (map placed_of qs)) (map placed_of qs)) front)
    ∙ ap (λ rs. told_in_regions old s t rs) (sym (cut ps n some is))
