-- The methods of a file by its names, and the PUBs of an object's file.
use Rattle.std.proofs.Common.{◌≡◌, inl, inr, ℕ, zero, suc, ◌+◌, ◌^◌, ◌<◌, ◌≤◌, ◌==◌, min, Bool, true, false, if◌then◌else◌, List, [], ◌∷◌, ◌++◌, length, slice_get, Option, Some, None, refl, sym, ap, ◌∙◌, subst, arith}
use Rattle.std.specs.Prelude.{option_map}
use Rattle.std.specs.Str.{bytes_eq}
use Rattle.std.proofs.lemmas.Bool.{cases_lt}
use Rattle.std.proofs.lemmas.Slice.Eq.{bytes_eq-Decides}
use Rattle.std.proofs.lemmas.Option.{same_Some, none-some, slice_get_within, slice_get-map}
use Rattle.p8_names.specs.Resolution as resolution
use Rattle.p8_stmt.specs.Methods.{rebodied}
use Rattle.p8_tree.specs.Sources as trees
use Rattle.p8_tree.specs.Sources.{MethodTree, Source}
use Rattle.p8_tree.specs.Projects.{NamedSource}
use Rattle.p8_tree.specs.Faults.{fault}
use Rattle.p8_tree.specs.declared.refusal.Refusal.TheVariants.{WrongArity}
use Rattle.p8_constants.specs.FileItems.{Item, constant, variable, object, method, line, items}
use Rattle.p8_constants.specs.Names.{predefined_names}
use Rattle.p8_constants.specs.Rules.{HasTooManyParams}
use Rattle.p8_kinds.specs.declared.children.Child.{Child}
use Rattle.p8_kinds.specs.declared.children.ChildMethod.{ChildMethod}
use Rattle.p8_kinds.specs.declared.children.Children.{Children}
use Rattle.p8_kinds.specs.declared.name_kinds.NameKind.{NameKind}
use Rattle.p8_kinds.specs.declared.name_kinds.NameKind.TheVariants as kind
use Rattle.p8_kinds.specs.Kinds.{or_else}
use Rattle.p8_kinds.specs.Publics.{method_among, method_in}
use Rattle.p8_names.specs.Kinds.{publics, privates, numbered, objects}
use Rattle.p8_names.specs.Faults.{of_name, too_many_params}
use Rattle.p8_names.specs.Mentions.{IsNamed, mentions}
use Rattle.p8_names.specs.Children.{shown_method, methods_from, behind}
use Rattle.p8_meaning.specs.Programs.{Program, File, method_named, methods_in}
use Rattle.p8_meaning.specs.Calls.{method_of}
use Rattle.p8_compiled.specs.Standing.{Compiled, IsObjectMethod}
use Rattle.p8_build.specs.Parts.{number_of}
use Rattle.p8_build.specs.Files.{CompiledFile}
use Rattle.p8_opt.specs.Programs.{file_of, program_of, with_sources}
use Rattle.p8_opt.proofs.Files.{IsThere, program-at, changed-at, method-there}
use Rattle.p8_opt.proofs.Counting.{element, few, changed-method}
use Rattle.p8_opt.proofs.Instances.{IsProject, compiled-at}
use Rattle.p8_names.proofs.Seen.{seen-at}
use Rattle.p8_names.proofs.Distinct.{of-numbered}

-- ---- what is shown of a file

abbrev Shows : List Item → (k : ℕ) → ChildMethod → Type 0
Shows xs k c = (m : MethodTree) × (slice_get (publics xs) k ≡ Some m) × (c.params ≡ min (length m.params) 255)

shown-by : (b : Bool) (before : List (List ℕ)) (m : MethodTree) (cs : List ChildMethod) (ms : List MethodTree) (k : ℕ) (c : ChildMethod) → slice_get ((if b then shown_method before m ∷ [] else []) ++ cs) k ≡ Some c
    → ((j : ℕ) → slice_get cs j ≡ Some c → (n : MethodTree) × (slice_get ms j ≡ Some n) × (c.params ≡ min (length n.params) 255))
    → (n : MethodTree) × (slice_get ((if b then m ∷ [] else []) ++ ms) k ≡ Some n) × (c.params ≡ min (length n.params) 255)
shown-by true before m cs ms zero c is others = (m, refl, ap (λ (d : ChildMethod). d.params) (sym (same_Some (shown_method before m) c is)))
shown-by true before m cs ms (suc k) c is others = others k is
shown-by false before m cs ms k c is others = others k is

shown : (before : List (List ℕ)) (xs : List Item) (k : ℕ) (c : ChildMethod) → slice_get (methods_from before xs) k ≡ Some c → Shows xs k c
shown before [] k c is = absurd (none-some c is)
shown before (constant x ∷ xs) k c is = shown (behind before (constant x)) xs k c is
shown before (variable x ∷ xs) k c is = shown (behind before (variable x)) xs k c is
shown before (object x ∷ xs) k c is = shown (behind before (object x)) xs k c is
shown before (method m ∷ xs) k c is = shown-by m.public before m (methods_from (behind before (method m)) xs) (publics xs) k c is (λ j e. shown (behind before (method m)) xs j c e)
shown before (line x ∷ xs) k c is = shown (behind before (line x)) xs k c is

-- ---- a PUB by its name

record IsPublic (name : List ℕ) (i : ℕ) (ms : List ChildMethod) (number params : ℕ) : Type 0 where
  place : ℕ
  c : ChildMethod
  is : slice_get ms place ≡ Some c
  params_are : params ≡ c.params
  number_is : number ≡ min (i + place) 255
  named : method_named name ms i ≡ Some (i + place)

public-by : (b : Bool) (name : List ℕ) (i : ℕ) (m : ChildMethod) (ms : List ChildMethod) (number params : ℕ) → bytes_eq name m.name ≡ b → or_else (if b then Some (kind.Method (min i 255) m.params) else None) (method_among (suc i) ms name) ≡ Some (kind.Method number params)
    → (method_among (suc i) ms name ≡ Some (kind.Method number params) → IsPublic name (suc i) ms number params) → IsPublic name i (m ∷ ms) number params
public-by true name i m ms number params same is others =
    let parts = same_Some (kind.Method (min i 255) m.params) (kind.Method number params) is in
    let none : i ≡ i + 0 = omega arith in
    record {
      place = 0;
      c = m;
      is = refl;
      params_are = sym (ap second parts);
      number_is = sym (ap first parts) ∙ ap (λ j. min j 255) none;
      named = ap (λ b. if b then Some i else method_named name ms (i + 1)) same ∙ ap Some none;
    }
  where
    first : NameKind → ℕ
    first (kind.Method n p) = n
    first _ = 0

    second : NameKind → ℕ
    second (kind.Method n p) = p
    second _ = 0
public-by false name i m ms number params same is others =
    let h = others is in
    let next : suc i + h.place ≡ i + suc h.place = omega arith in
    let plus : suc i ≡ i + 1 = omega arith in
    record {
      place = suc h.place;
      c = h.c;
      is = h.is;
      params_are = h.params_are;
      number_is = h.number_is ∙ ap (λ j. min j 255) next;
      named = ap (λ b. if b then Some i else method_named name ms (i + 1)) same ∙ ap (method_named name ms) (sym plus) ∙ h.named ∙ ap Some next;
    }

public-of : (name : List ℕ) (i : ℕ) (ms : List ChildMethod) (number params : ℕ) → method_among i ms name ≡ Some (kind.Method number params) → IsPublic name i ms number params
public-of name i [] number params is = absurd (none-some (kind.Method number params) is)
public-of name i (m ∷ ms) number params is = public-by (bytes_eq name m.name) name i m ms number params refl is (public-of name (suc i) ms number params)

-- ---- files by their names

named-by : (b : Bool) (name : List ℕ) (f : NamedSource) (files : List NamedSource) → bytes_eq name f.name ≡ b → (b ≡ false → IsNamed files (number_of files name) name) → IsNamed (f ∷ files) (if b then 0 else 1 + number_of files name) name
named-by true name f files same others = record { file = f; stands = refl; named = sym ((bytes_eq-Decides name f.name).0 same) }
named-by false name f files same others =
    let h = others refl in
    let next : suc (number_of files name) ≡ 1 + number_of files name = omega arith in
    subst (λ j. IsNamed (f ∷ files) j name) next (record { file = h.file; stands = h.stands; named = h.named })

pub number-named : (files : List NamedSource) (j : ℕ) (name : List ℕ) → IsNamed files j name → IsNamed files (number_of files name) name
number-named [] j name h = absurd (none-some h.file h.stands)
number-named (f ∷ files) zero name h =
    let same : name ≡ f.name = sym h.named ∙ ap (λ (g : NamedSource). g.name) (sym (same_Some f h.file h.stands)) in
    named-by (bytes_eq name f.name) name f files refl (λ never. absurd (let both : true ≡ false = sym ((bytes_eq-Decides name f.name).1 same) ∙ never in cc))
number-named (f ∷ files) (suc j) name h =
    named-by (bytes_eq name f.name) name f files refl (λ b. number-named files j name (record { file = h.file; stands = h.stands; named = h.named }))

pub at-front : {X : Type 0} (xs ys : List X) (k : ℕ) (x : X) → slice_get xs k ≡ Some x → slice_get (xs ++ ys) k ≡ Some x
at-front [] ys k x is = absurd (none-some x is)
at-front (y ∷ xs) ys zero x is = is
at-front (y ∷ xs) ys (suc k) x is = at-front xs ys k x is

-- a method has few parameters
pub few-params : (source : Source) (children : Children) (top : Bool) (x : CompiledFile) (names_are : resolution.IsNamed source children top x.kinds) (k : ℕ) (m : MethodTree) → slice_get (numbered (items source)) k ≡ Some m → length m.params ≤ 15
few-params source children top x names_are k m at = elim (cases_lt 15 (length m.params)) [
  | inl large ↦ absurd (names_are.clean (fault WrongArity m.place) (of_name names_are.setting names_are.right (too_many_params (of-numbered HasTooManyParams (items source) k m (fault WrongArity m.place) at (large, refl)))))
  | inr small ↦ small
]

module _ (files : List NamedSource) (children : List Children) (xs : List CompiledFile) (project : IsProject files children xs) where
  -- a PUB of an object's file is a method of that file
  pub public-method : (t : Compiled) (i : ℕ) (file : NamedSource) (seen : Children) (x : CompiledFile) → IsThere files children xs i file seen x → t.file ≡ record (file_of files file.tree seen x) { source = project.changed i } → t.program ≡ with_sources project.changed (program_of files children xs)
      → (item : ℕ) (c : Option Child) (name : List ℕ) (number params : ℕ) → slice_get seen.items item ≡ c → method_in c name ≡ Some (kind.Method number params) → (number < 2 ^ 8) × IsObjectMethod t item name params number
  public-method t i file seen x there file_is program_is item None name number params at is = absurd (none-some (kind.Method number params) is)
  public-method t i file seen x there file_is program_is item (Some c) name number params at is =
      let h = seen-at files children (mentions file.tree) seen.items (project.children_are.each i file seen there.stands there.beside) item c at in
      let y = h.0 in
      let s = h.2 in
      let so : IsNamed files s.number y.file = record { file = s.file; stands = s.stands; named = s.named } in
      let j = number_of files y.file in
      let same : s.number ≡ j = project.distinct s.number j y.file so (number-named files s.number y.file so) in
      let inside = slice_get_within files s.number s.file s.stands in
      let z = element xs s.number (omega (arith, inside, project.compiled.count)) in
      let other : IsThere files children xs s.number s.file s.children z.0 = record { stands = s.stands; beside = s.beside; compiled = z.1 } in
      let whole = compiled-at files children xs project s.number s.file s.children z.0 other in
      let p = public-of name 1 c.methods number params is in
      let shows = shown predefined_names (items s.file.tree) p.place p.c (ap (λ ms. slice_get ms p.place) (sym s.is.methods) ∙ p.is) in
      let m = shows.0 in
      let place : slice_get (numbered (items s.file.tree)) p.place ≡ Some m = at-front (publics (items s.file.tree)) (privates (items s.file.tree)) p.place m shows.1 in
      let f = few s.file.tree s.children (s.number == 0) z.0 whole in
      let low = slice_get_within (numbered (items s.file.tree)) p.place m place in
      let number_is : number ≡ suc p.place = omega (arith, p.number_is, low, f.methods) in
      let params_are : params ≡ length m.params = omega (arith, p.params_are, shows.2, few-params s.file.tree s.children (s.number == 0) z.0 whole.names p.place m place) in
      let b = changed-method s.file.tree (project.changed s.number) s.children z.0 whole.code p.place m place in
      let g : File = record (file_of files s.file.tree s.children z.0) { source = project.changed s.number } in
      let plus : 1 + p.place ≡ number = omega (arith, number_is) in (
        omega (arith, number_is, low, f.methods),
        record {
          child = j;
          is_child = ap (λ (q : File). slice_get q.child_files item) file_is ∙ slice_get-map (λ (q : trees.Child). number_of files q.file) (objects (items file.tree)) item ∙ ap (option_map (λ (q : trees.Child). number_of files q.file)) h.1;
          file = g;
          is_file = ap (λ (q : Program). slice_get q j) program_is ∙ ap (slice_get (with_sources project.changed (program_of files children xs))) (sym same)
              ∙ changed-at project.changed (program_of files children xs) s.number (file_of files s.file.tree s.children z.0) (program-at files files children xs s.number s.file s.children z.0 other);
          is_named = ap (λ (q : File). method_named name (methods_in (slice_get q.children item)) 1) file_is ∙ ap (λ q. method_named name (methods_in q) 1) at ∙ p.named ∙ ap Some plus;
          fits = (rebodied m b.0, ap (method_of g) number_is ∙ method-there g p.place (rebodied m b.0) b.1, params_are);
        },
      )
