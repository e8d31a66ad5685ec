-- The files of an accepted project are those to which mentions lead, each with its mentions before what is left to look at.
use Rattle.std.proofs.Common.{◌≡◌, ◌⊎◌, inl, inr, ◌∙◌, sym, ap, subst, refl, ℕ, zero, suc, Bool, true, false, List, [], ◌∷◌, ◌++◌, length, map, arith}
use Rattle.std.specs.Str.{bytes_eq}
use Rattle.std.proofs.lemmas.Slice.Eq.{bytes_eq-Decides}
use Rattle.std.proofs.lemmas.List.{append_assoc, append-nil}
use Rattle.std.proofs.lemmas.Option.{same_Some}
use Rattle.p8_tree.specs.Sources.{Child, Source}
use Rattle.p8_tree.specs.Projects.{NamedSource}
use Rattle.p8_io.specs.Shelves.{Files}
use Rattle.p8_objects.specs.Lists as lists
use Rattle.p8_objects.specs.Lists.{HasOne, IsFirst, IsLast}
use Rattle.p8_objects.specs.Sources.{mentions}
use Rattle.p8_objects.specs.Projects.{IsIn, IsOpen, HasOpen}
use Rattle.p8_objects.specs.Outcomes.{HasBytes, named}
use Rattle.p8_names.specs.Mentions as seen
use Rattle.p8_objects.specs.Growing as growing
use Rattle.p8_objects.proofs.Elements.{none_at, skip, at_front, at_end, last_is_one}
use Rattle.p8_prop.specs.Sources.{IsSource, GrowsTo, whole, old_file, new_file}
use Rattle.p8_prop.proofs.Sourcing.{source}
use Rattle.p8_prop.proofs.Saying.{source-to}
use Rattle.p8_prop.proofs.Mentions.{same-mentions}

-- ---- a name is among some files or not

same_or_not : (a b : List ℕ) → (a ≡ b) ⊎ (a ≡ b → ⊥)
same_or_not a b = go (bytes_eq a b) refl
  where
    go : (t : Bool) → bytes_eq a b ≡ t → (a ≡ b) ⊎ (a ≡ b → ⊥)
    go true e = inl ((bytes_eq-Decides a b).0 e)
    go false e = inr (λ same. let never : true ≡ false = sym ((bytes_eq-Decides a b).1 same) ∙ e in cc)

module _ {X : Type 0} {P : X → Type 0} {x : X} {xs : List X} where
  one-here : P x → HasOne P (x ∷ xs)
  one-here p = record { number = 0; element = x; stands = record { is = refl }; holds = p }

  one-later : HasOne P xs → HasOne P (x ∷ xs)
  one-later h = record { number = suc h.number; element = h.element; stands = skip h.stands; holds = h.holds }

  one-either : HasOne P (x ∷ xs) → P x ⊎ HasOne P xs
  one-either h = go h.number h.element h.stands h.holds
    where
      go : (i : ℕ) (y : X) → lists.IsAt (x ∷ xs) i y → P y → P x ⊎ HasOne P xs
      go zero y at p = inl (subst P (sym (same_Some x y at.is)) p)
      go (suc i) y at p = inr (record { number = i; element = y; stands = record { is = at.is }; holds = p })

in_or_not : (files : List NamedSource) (name : List ℕ) → IsIn files name ⊎ (IsIn files name → ⊥)
in_or_not [] name = inr (λ h. none_at h.stands)
in_or_not (f ∷ files) name =
    elim (same_or_not f.name name) [
      | inl e ↦ inl (one-here e)
      | inr n ↦ elim (in_or_not files name) [
        | inl h ↦ inl (one-later h)
        | inr m ↦ inr (λ h. elim (one-either h) [ inl e ↦ n e | inr k ↦ m k ])
      ]
    ]

in-so : (files : List NamedSource) (name : List ℕ) → ((IsIn files name → ⊥) → ⊥) → IsIn files name
in-so files name h = elim (in_or_not files name) [ inl it ↦ it | inr lacks ↦ absurd (h lacks) ]

-- ---- names whose files are there

abbrev names_of : List Child → List (List ℕ)
names_of xs = map (λ x. x.file) xs

abbrev Known : List NamedSource → List (List ℕ) → Type 0
Known files [] = Unit {0}
Known files (n ∷ ns) = IsIn files n × Known files ns

names-append : (xs ys : List Child) → names_of (xs ++ ys) ≡ names_of xs ++ names_of ys
names-append [] ys = refl
names-append (x ∷ xs) ys = ap (λ ns. x.file ∷ ns) (names-append xs ys)

known-both : (files : List NamedSource) (ms ns : List (List ℕ)) → Known files ms → Known files ns → Known files (ms ++ ns)
known-both files [] ns known more = more
known-both files (m ∷ ms) ns known more = (known.0, known-both files ms ns known.1 more)

known-left : (files : List NamedSource) (ms ns : List (List ℕ)) → Known files (ms ++ ns) → Known files ms
known-left files [] ns known = tt
known-left files (m ∷ ms) ns known = (known.0, known-left files ms ns known.1)

known-right : (files : List NamedSource) (ms ns : List (List ℕ)) → Known files (ms ++ ns) → Known files ns
known-right files [] ns known = known
known-right files (m ∷ ms) ns known = known-right files ms ns known.1

known-and : (files : List NamedSource) (xs ys : List Child) → Known files (names_of xs) → Known files (names_of ys) → Known files (names_of (xs ++ ys))
known-and files xs ys one other = subst (λ ns. Known files ns) (sym (names-append xs ys)) (known-both files (names_of xs) (names_of ys) one other)

module _ (files : List NamedSource) (g : NamedSource) where
  still : {n : List ℕ} → IsIn files n → IsIn (files ++ g ∷ []) n
  still it = record { number = it.number; element = it.element; stands = at_front files (g ∷ []) it.stands; holds = it.holds }

  new : {n : List ℕ} → g.name ≡ n → IsIn (files ++ g ∷ []) n
  new is = record { number = length files; element = g; stands = at_end files g; holds = is }

  known-still : (ns : List (List ℕ)) → Known files ns → Known (files ++ g ∷ []) ns
  known-still [] known = tt
  known-still (n ∷ ns) known = (still known.0, known-still ns known.1)

-- ---- what is left to look at: of each file the mentions behind some whose files are there, those of later files first

data Pending (files : List NamedSource) : List NamedSource → List (List ℕ) → Type 0 where
  none : Pending files [] []
  more : {fs : List NamedSource} {front left : List (List ℕ)} (f : NamedSource) (done rest : List Child) → mentions f.tree ≡ done ++ rest
      → Known files (names_of done) → Pending files fs front → left ≡ front ++ names_of rest → Pending files (f ∷ fs) left

pending-still : {files fs : List NamedSource} {left : List (List ℕ)} (g : NamedSource) → Pending files fs left → Pending (files ++ g ∷ []) fs left
pending-still g none = none
pending-still {files = files} g (more f done rest e known p same) =
    more f done rest e (known-still files g (names_of done) known) (pending-still g p) same

pending-last : {files fs : List NamedSource} {left : List (List ℕ)} (g : NamedSource) → Pending files fs left
    → Pending files (fs ++ g ∷ []) (names_of (mentions g.tree) ++ left)
pending-last g none = more g [] (mentions g.tree) refl tt none (append-nil (names_of (mentions g.tree)))
pending-last g (more {front = front} f done rest e known p same) =
    more f done rest e known (pending-last g p)
    (ap (λ ns. names_of (mentions g.tree) ++ ns) same ∙ sym (append_assoc (names_of (mentions g.tree)) front (names_of rest)))

-- where no mention is open, all that is left is known
closed-mentions : (files : List NamedSource) (f : NamedSource) (xs : List Child) → (HasOne (IsOpen files f) xs → ⊥) → Known files (names_of xs)
closed-mentions files f [] lacks = tt
closed-mentions files f (x ∷ xs) lacks =
    (in-so files x.file (λ absent. lacks (one-here (inl absent))), closed-mentions files f xs (λ h. lacks (one-later h)))

closed : {files fs : List NamedSource} {left : List (List ℕ)} → Pending files fs left → (HasOne (HasOpen files) fs → ⊥) → Known files left
closed none lacks = tt
closed {files = files} (more {front = front} f done rest e known p same) lacks =
    let all : Known files (names_of (done ++ rest)) =
    subst (λ xs. Known files (names_of xs)) e (closed-mentions files f (mentions f.tree) (λ h. lacks (one-here h))) in
    let own = known-right files (names_of done) (names_of rest) (subst (λ ns. Known files ns) (names-append done rest) all) in
    subst (λ ns. Known files ns) (sym same) (known-both files front (names_of rest) (closed p (λ h. lacks (one-later h))) own)

-- and then nothing is
pending-none : {files fs : List NamedSource} {left : List (List ℕ)} → Pending files fs left → Known files left → Pending files fs []
pending-none none known = none
pending-none {files = files} (more {front = front} f done rest e kn p same) known =
    let there : Known files (front ++ names_of rest) = subst (λ ns. Known files ns) same known in
    more f (done ++ rest) [] (e ∙ sym (append-nil (done ++ rest))) (known-and files done rest kn (known-right files front (names_of rest) there))
    (pending-none p (known-left files front (names_of rest) there)) refl

-- ---- the mention that comes next

-- it is the first that is left whose file isn't there, and what is behind it is left when its file is
record Steps (files fs : List NamedSource) (x : Child) (left : List (List ℕ)) : Type 0 where
  known : List (List ℕ)
  back : List (List ℕ)
  split : left ≡ known ++ x.file ∷ back
  all : Known files known
  behind : (g : NamedSource) → g.name ≡ x.file → Pending (files ++ g ∷ []) fs back

record Found (files : List NamedSource) (x : Child) (rest : List Child) : Type 0 where
  before : List Child
  after : List Child
  split : rest ≡ before ++ x ∷ after
  all : Known files (names_of before)

in-rest : {files : List NamedSource} (f : NamedSource) {x : Child} {rest : List Child} → IsFirst (IsOpen files f) rest x → Found files x rest
in-rest f (lists.here {x = x} {xs = xs} is) = record { before = []; after = xs; split = refl; all = tt }
in-rest {files = files} f (lists.later {y = y} lacks first) =
    let it = in-rest f first in
    record {
      before = y ∷ it.before;
      after = it.after;
      split = ap (λ xs. y ∷ xs) it.split;
      all = (in-so files y.file (λ absent. lacks (inl absent)), it.all);
    }

first-in : {files : List NamedSource} (f : NamedSource) {x : Child} (done rest : List Child) → IsFirst (IsOpen files f) (done ++ rest) x
    → Known files (names_of done) → (IsIn files x.file → ⊥) → Found files x rest
first-in f [] rest first known absent = in-rest f first
first-in f (d ∷ done) rest (lists.here is) known absent = absurd (absent known.0)
first-in f (d ∷ done) rest (lists.later lacks first) known absent = first-in f done rest first known.1 absent

step : {files fs : List NamedSource} {left : List (List ℕ)} {f : NamedSource} {x : Child} → Pending files fs left → IsLast (HasOpen files) fs f
    → IsFirst (IsOpen files f) (mentions f.tree) x → (IsIn files x.file → ⊥) → Steps files fs x left
step none last first absent = let one = last_is_one last in absurd (none_at one.1)
step {files = files} {x = x} (more {front = front} f done rest e known p same) (lists.here has lacks) first absent =
    let it = first-in f done rest (subst (λ xs. IsFirst (IsOpen files f) xs x) e first) known absent in
    let ahead = closed p lacks in
    record {
      known = front ++ names_of it.before;
      back = names_of it.after;
      split = same ∙ ap (λ xs. front ++ names_of xs) it.split ∙ ap (λ ns. front ++ ns) (names-append it.before (x ∷ it.after))
          ∙ sym (append_assoc front (names_of it.before) (x.file ∷ names_of it.after));
      all = known-both files front (names_of it.before) ahead it.all;
      behind = λ g is.
          more f (done ++ (it.before ++ x ∷ [])) it.after
          (e ∙ ap (λ xs. done ++ xs) it.split
          ∙ sym (append_assoc done (it.before ++ x ∷ []) it.after ∙ ap (λ xs. done ++ xs) (append_assoc it.before (x ∷ []) it.after)))
          (known-and (files ++ g ∷ []) done (it.before ++ x ∷ []) (known-still files g (names_of done) known)
          (known-and (files ++ g ∷ []) it.before (x ∷ []) (known-still files g (names_of it.before) it.all) (new files g is, tt)))
          (pending-still g (pending-none p ahead)) refl;
    }
step {files = files} {x = x} (more {front = front} h done rest e known p same) (lists.later last) first absent =
    let it = step p last first absent in
    record {
      known = it.known;
      back = it.back ++ names_of rest;
      split = same ∙ ap (λ ns. ns ++ names_of rest) it.split ∙ append_assoc it.known (x.file ∷ it.back) (names_of rest);
      all = it.all;
      behind = λ g is. more h done rest e (known-still files g (names_of done) known) (it.behind g is) refl;
    }

-- ---- a project

knowns : {shelf : Files} {files all : List NamedSource} {left : List (List ℕ)} (ns : List (List ℕ)) → Known files ns → GrowsTo shelf left files all
    → GrowsTo shelf (ns ++ left) files all
knowns [] known grows = grows
knowns (n ∷ ns) known grows = old_file known.0 (knowns ns known.1 grows)

not-empty : (files : List NamedSource) (g : NamedSource) → files ++ g ∷ [] ≡ [] → ⊥
not-empty [] g e = cc
not-empty (f ∷ files) g e = cc

grown : {shelf : Files} {top : List ℕ} {files all : List NamedSource} (left : List (List ℕ)) → growing.GrowsTo shelf top files all → (files ≡ [] → ⊥)
    → Pending files files left → GrowsTo shelf left files all
grown left (growing.first_file bytes s has is rest) some p = absurd (some refl)
grown {shelf = shelf} {files = files} {all = all} left (growing.new_file f x bytes s next absent room has is rest) some p =
    let g = named x.file s in
    let it = step p next.file next.mention absent in
    let later = grown (names_of (mentions s) ++ it.back) rest (not-empty files g) (pending-last g (it.behind g refl)) in
    let grows = subst (λ xs. GrowsTo shelf (names_of xs ++ it.back) (files ++ g ∷ []) all) (sym (same-mentions s)) later in
    subst (λ ns. GrowsTo shelf ns files all) (sym it.split) (knowns it.known it.all (new_file bytes s absent has (source-to (source is)) grows))
grown {shelf = shelf} {files = files} left (growing.whole some none_open) nonempty p =
    subst (λ ns. GrowsTo shelf ns files files) (append-nil left) (knowns left (closed p none_open) whole)

pub gathers : {shelf : Files} {top : List ℕ} {all : List NamedSource} → growing.GrowsTo shelf top [] all → GrowsTo shelf (top ∷ []) [] all
gathers {shelf = shelf} {top = top} {all = all} (growing.first_file bytes s has is rest) =
    let g = named top s in
    let later = grown (names_of (mentions s) ++ []) rest (not-empty [] g) (pending-last g none) in
    new_file bytes s (λ h. none_at h.stands) has (source-to (source is)) (subst (λ xs. GrowsTo shelf (names_of xs ++ []) (g ∷ []) all) (sym (same-mentions s)) later)
gathers (growing.new_file f x bytes s next absent room has is rest) = let one = last_is_one next.file in absurd (none_at one.1)
gathers (growing.whole some none_open) = absurd (omega (arith, some))

-- ---- and there is no other

module _ (shelf : Files) (one-text : (name bytes other : List ℕ) → HasBytes shelf name bytes → HasBytes shelf name other → bytes ≡ other)
    (one-source : (bytes : List ℕ) (s other : Source) → IsSource bytes s → IsSource bytes other → s ≡ other) where
  pub one-gathering : {left : List (List ℕ)} {files all other : List NamedSource} → GrowsTo shelf left files all → GrowsTo shelf left files other → all ≡ other
  one-gathering whole whole = refl
  one-gathering (old_file is rest) (old_file is' rest') = one-gathering rest rest'
  one-gathering (old_file is rest) (new_file bytes s absent has source rest') = absurd (absent is)
  one-gathering (new_file bytes s absent has source rest) (old_file is rest') = absurd (absent is)
  one-gathering {other = other} (new_file {name = name} {left = left} {files = files} bytes s absent has source rest) (new_file bytes' s' absent' has' source' rest') =
      let same : s' ≡ s = one-source bytes s' s (subst (λ (b : List ℕ). IsSource b s') (one-text name bytes' bytes has' has) source') source in
      one-gathering rest
      (subst (λ (x : Source). GrowsTo shelf (map (λ (y : Child). y.file) (seen.mentions x) ++ left) (files ++ named name x ∷ []) other) same rest')
