-- What gathering comes to, and that what is so of each project is what building it asks.
use Rattle.std.proofs.Common.{◌≡◌, ℕ, ◌<◌, List, [], ◌∷◌, ◌++◌, length, map, Some, refl, ap, sym, ◌∙◌, subst}
use Rattle.std.specs.Prelude.{slice_get, slice_index_or, Contains}
use Rattle.std.proofs.lemmas.List.Concat.{flat_map-append}
use Rattle.std.proofs.lemmas.Option.{slice_get_read, slice_get_within}
use Rattle.p8_tree.specs.declared.faults.Fault.{Fault}
use Rattle.p8_tree.specs.Sources as trees
use Rattle.p8_tree.specs.Sources.{BlockTree, Child, Con, Var, Obj, Method, Dat, Source}
use Rattle.p8_tree.specs.Projects.{NamedSource}
use Rattle.p8_constants.specs.FileItems.{block_items, items, constant, variable, object, line}
use Rattle.p8_names.specs.Kinds.{object_in, objects}
use Rattle.p8_io.specs.Shelves.{Files}
use Rattle.p8_objects.specs.declared.fault.ReadFile.{ReadFile}
use Rattle.p8_objects.specs.Lists.{IsAt}
use Rattle.p8_objects.specs.Sources.{mentions_in, mentions}
use Rattle.p8_objects.specs.Projects as by_name
use Rattle.p8_objects.specs.Outcomes.{Outcome, project, refused, missing, failed, shelved, ComesTo, Gathers}
use Rattle.p8_objects.specs.Outcomes as outcomes
use Rattle.p8_objects.specs.Whole as whole
use Rattle.p8_names.specs.Mentions as seen
use Rattle.p8_objects.specs.Growing.{IsProjectOf}
use Rattle.p8_objects.proofs.Growing.{project-grows}
use Rattle.p8_inputs.specs.Sources.{GathersTo}

-- an outcome that doesn't depend on what the shelf counts
abbrev pub IsOfContents : Outcome → Type 0
IsOfContents (project files) = Unit {0}
IsOfContents (refused file f) = Unit {0}
IsOfContents (missing name mention) = ⊥
IsOfContents (failed name) = ⊥

recounted : (files : Files) (before now b n : ℕ) (top : List ℕ) {sources : List NamedSource} (o : Outcome) → IsOfContents o → ComesTo (shelved files before now) top sources o → ComesTo (shelved files b n) top sources o
recounted files before now b n top o of (outcomes.one_more name bytes s calls has source rest) = outcomes.one_more name bytes s calls has source (recounted files before now b n top o of rest)
recounted files before now b n top o of (outcomes.file_refused file f calls has is) = outcomes.file_refused file f calls has is
recounted files before now b n top o of (outcomes.absent name mention calls m is) = absurd of
recounted files before now b n top o of (outcomes.not_read name calls rose) = absurd of
recounted files before now b n top o of (outcomes.mention_refused file f calls has) = outcomes.mention_refused file f calls has
recounted files before now b n top o of (outcomes.whole calls) = outcomes.whole calls

pub project-gathered : (files : Files) (before now : ℕ) (top : List ℕ) (sources : List NamedSource) → Gathers (shelved files before now) top (project sources)
    → IsProjectOf files top sources
project-gathered files before now top sources comes = project-grows (shelved files before now) top sources comes

pub refusal-gathered : (files : Files) (before now : ℕ) (top : List ℕ) (file : ReadFile) (f : Fault) → Gathers (shelved files before now) top (refused file f) → GathersTo files top (refused file f)
refusal-gathered files before now top file f comes b n = recounted files before now b n top (refused file f) tt comes

-- ---- the items of OBJ

no-constants : (xs : List trees.Constant) → objects (map constant xs) ≡ []
no-constants [] = refl
no-constants (x ∷ xs) = no-constants xs

no-variables : (xs : List trees.Declared) → objects (map variable xs) ≡ []
no-variables [] = refl
no-variables (x ∷ xs) = no-variables xs

no-lines : (xs : List trees.Line) → objects (map line xs) ≡ []
no-lines [] = refl
no-lines (x ∷ xs) = no-lines xs

all-objects : (xs : List Child) → objects (map object xs) ≡ xs
all-objects [] = refl
all-objects (x ∷ xs) = ap (λ ys. x ∷ ys) (all-objects xs)

objects-in : (b : BlockTree) → objects (block_items b) ≡ mentions_in b
objects-in (Con xs) = no-constants xs
objects-in (Var xs) = no-variables xs
objects-in (Obj xs) = all-objects xs
objects-in (Method m) = refl
objects-in (Dat xs) = no-lines xs

same-mentions : (s : Source) → seen.mentions s ≡ mentions s
same-mentions [] = refl
same-mentions (b ∷ bs) =
    flat_map-append object_in (block_items b) (items bs)
    ∙ ap (λ xs. xs ++ objects (items bs)) (objects-in b) ∙ ap (λ xs. mentions_in b ++ xs) (same-mentions bs)

get-within : {X : Type 0} (xs : List X) (k : ℕ) (x : X) → k < length xs → slice_index_or xs k x ≡ x → slice_get xs k ≡ Some x
get-within xs k x within is = slice_get_read xs (length xs) k x refl within (sym is)

-- an element stands at some place
place-of : {X : Type 0} (xs : List X) (x : X) → Contains xs x → (k : ℕ) × IsAt xs k x
place-of xs x among = (among.0, record { is = get-within xs among.0 x among.1 among.2 })

mentioned-at : (f : NamedSource) (x : Child) → Contains (seen.mentions f.tree) x → (k : ℕ) × IsAt (mentions f.tree) k x
mentioned-at f x among = place-of (mentions f.tree) x (subst (λ xs. Contains xs x) (same-mentions f.tree) among)

-- ---- what is so of each project

module _ (files : List NamedSource) where
  pub some : (top : List ℕ) → whole.IsFirstFile top files → 0 < length files
  some top first = slice_get_within files 0 first.file first.stands.is

  pub distinct : whole.AreDistinct files → seen.AreDistinct files
  distinct are i j name a b = are i j a.file b.file (record { is = a.stands }) (record { is = b.stands }) (a.named ∙ sym b.named)

  pub mentioned : whole.HaveMentioned files → seen.HaveMentioned files
  mentioned have i f x stands among =
      let at = mentioned-at f x among in
      let is = have i at.0 f x (record { is = stands }) at.1 in
      (is.number, record { file = is.element; stands = is.stands.is; named = is.holds })

  mentions-named : (one other : ℕ) (a b : NamedSource) → slice_get files one ≡ Some a → slice_get files other ≡ Some b → seen.Mentions files one other → by_name.Mentions files a.name b.name
  mentions-named one other a b first second m =
      let at = mentioned-at m.file m.item m.among in
      let same : m.file ≡ a = cc in
      let same' : m.named.file ≡ b = cc in
      record { number = one; element = m.file; stands = record { is = m.stands }; holds = (ap (λ f. f.name) same, record { number = at.0; element = m.item; stands = at.1; holds = sym m.named.named ∙ ap (λ f. f.name) same' }) }

  -- mentions lead from one file to the other
  leads-named : {one other : ℕ} (a b : NamedSource) → slice_get files one ≡ Some a → slice_get files other ≡ Some b → seen.Leads files one other → by_name.Leads files a.name b.name
  leads-named a b first second seen.there =
      let same : a ≡ b = cc in
      subst (λ f. by_name.Leads files a.name f.name) same by_name.there
  leads-named a b first second (seen.over m more) =
      by_name.over (mentions-named _ _ a m.named.file first m.named.stands m) (leads-named m.named.file b m.named.stands second more)

  pub no_ring : whole.HaveNoRing files → seen.HaveNoRing files
  no_ring none one other m back =
      let at = mentioned-at m.file m.item m.among in
      none one at.0 m.file m.item (record { is = m.stands }) at.1
      (subst (λ name. by_name.Leads files name m.file.name) m.named.named (leads-named m.named.file m.file m.named.stands m.stands back))
