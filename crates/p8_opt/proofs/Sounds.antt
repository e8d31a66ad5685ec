-- What the kind of a name tells is so in the project.
use Rattle.std.proofs.Common.{◌≡◌, ℕ, suc, ◌+◌, ◌^◌, ◌<◌, ◌≤◌, ◌==◌, min, Bool, true, false, if◌then◌else◌, List, [], ◌∷◌, ◌++◌, length, slice_get, Option, Some, None, refl, sym, ap, ◌∙◌, subst, arith, append_assoc}
use Rattle.std.specs.Str.{bytes_eq}
use Rattle.std.proofs.lemmas.Grind.{flat_map-append}
use Rattle.std.proofs.lemmas.Option.{same_Some, none-some, slice_get_within}
use Rattle.p8_stmt.specs.Methods.{rebodied}
use Rattle.p8_opt.specs.Recoding.{IsRecodedFile}
use Rattle.p8_tree.specs.Names.{result_word}
use Rattle.p8_tree.specs.declared.places.Place.{Place}
use Rattle.p8_tree.specs.Sources.{MethodTree}
use Rattle.p8_tree.specs.Projects.{NamedSource}
use Rattle.p8_tree.specs.Proper.{IsProperFile}
use Rattle.p8_words.specs.Operators.{or_zero}
use Rattle.p8_fold.specs.Meanings.{Setting}
use Rattle.p8_constants.specs.FileItems.{Item, constant, variable, object, method, line, items}
use Rattle.p8_constants.specs.Names.{name_of}
use Rattle.p8_kinds.specs.declared.children.Children.{Children}
use Rattle.p8_kinds.specs.declared.name_kinds.NameKind.{NameKind}
use Rattle.p8_kinds.specs.declared.name_kinds.NameKind.TheVariants as kind
use Rattle.p8_kinds.specs.Kinds.{own, or_else}
use Rattle.p8_names.specs.Settings.{has_name, predefined_value}
use Rattle.p8_names.specs.Kinds.{publics, privates, public_in, private_in, numbered, number_in, item_kind, kind_among, kind_or, objects, own_kind, method_setting}
use Rattle.p8_names.specs.Faults.{of_name, count as of_counts, instances as of_instances}
use Rattle.p8_gen.specs.Files.{kind_here, first_offset}
use Rattle.p8_meaning.specs.Programs.{File, Instance}
use Rattle.p8_meaning.specs.Calls.{method_of}
use Rattle.p8_compiled.specs.Standing.{Compiled, Fits}
use Rattle.p8_compiled.specs.Keeps.{compiled}
use Rattle.p8_compiled.specs.Agreeing.{IsSound}
use Rattle.p8_build.specs.Files.{CompiledFile, setting_of}
use Rattle.p8_build.specs.Builds.{objects_of}
use Rattle.p8_opt.specs.Programs.{file_of, program_of, with_sources, addresses_of}
use Rattle.p8_opt.specs.Agreements.{names_of, HasRoom}
use Rattle.p8_opt.proofs.Files.{IsThere, method-there}
use Rattle.p8_opt.proofs.Counting.{few, changed-method}
use Rattle.p8_opt.proofs.NamedSettings.{kind-is}
use Rattle.p8_opt.proofs.PlacedObjects.{IsItem, item-of}
use Rattle.p8_names.proofs.Own.{IsOwn, own-of}
use Rattle.p8_opt.proofs.Frames.{coded}
use Rattle.p8_opt.proofs.Environments.{hiding-alike}
use Rattle.p8_opt.proofs.Rooms.{Within, within-where, among-within, within-frame, longs-same, sizes, instances-some}
use Rattle.p8_opt.proofs.OwnSettings.{own-so}
use Rattle.p8_opt.proofs.Instances.{IsProject, at-length, compiled-at}
use Rattle.p8_opt.proofs.Placing.{of-file}
use Rattle.p8_opt.proofs.Publics.{at-front, few-params}
use Rattle.p8_names.proofs.Words.{IsConstWord}
use Rattle.p8_names.proofs.Seen.{file-const}

-- ---- a kind that is no local

abbrev is_local : NameKind → Bool
is_local (kind.Local offset) = true
is_local k = false

own-local : (k : NameKind) → IsOwn (Some k) → is_local k ≡ true
own-local (kind.Const v) own = absurd own
own-local (kind.Global size offset) own = absurd own
own-local (kind.Local offset) own = refl
own-local (kind.Label size) own = absurd own
own-local (kind.Method number params) own = absurd own
own-local (kind.Object item position count) own = absurd own

clash : {A : Type 0} (k q : NameKind) → k ≡ q → is_local k ≡ true → is_local q ≡ false → A
clash k q same truth never = absurd (let both : true ≡ false = sym truth ∙ ap is_local same ∙ never in cc)

whole-kind : (r : Bool) (a b : Option NameKind) (q : NameKind) → IsOwn a → is_local q ≡ false → (if r then Some (kind.Local 0) else or_else a b) ≡ Some q → b ≡ Some q
whole-kind true a b q own never is = clash (kind.Local 0) q (same_Some (kind.Local 0) q is) refl never
whole-kind false None b q own never is = is
whole-kind false (Some k) b q own never is = clash k q (same_Some k q is) (own-local k own) never

among-whole : (p : Option ℕ) (k : Option NameKind) (q : NameKind) → ((v : ℕ) → kind.Const v ≡ q → ⊥) → kind_or p k ≡ Some q → k ≡ Some q
among-whole None k q never is = is
among-whole (Some v) k q never is = absurd (never v (same_Some (kind.Const v) q is))

-- ---- methods

record IsMethodAt (all : List Item) (number params : ℕ) : Type 0 where
  k : ℕ
  m : MethodTree
  is : slice_get (numbered all) k ≡ Some m
  number_is : number ≡ min (k + 1) 255
  params_are : params ≡ min (length m.params) 255

at-back : {X : Type 0} (xs ys : List X) (k : ℕ) → slice_get (xs ++ ys) (length xs + k) ≡ slice_get ys k
at-back [] ys k = ap (slice_get ys) (omega arith)
at-back (x ∷ xs) ys k = let next : suc (length xs) + k ≡ suc (length xs + k) = omega arith in ap (slice_get (x ∷ xs ++ ys)) next ∙ at-back xs ys k

public-there : (before xs : List Item) (y : MethodTree) → y.public ≡ true → slice_get (publics (before ++ method y ∷ xs)) (length (publics before)) ≡ Some y
public-there before xs y is =
    ap (λ ms. slice_get ms (length (publics before))) (flat_map-append public_in before (method y ∷ xs)
    ∙ ap (λ b. publics before ++ ((if b then y ∷ [] else []) ++ publics xs)) is)
    ∙ at-length (publics before) (publics xs) y

private-there : (before xs : List Item) (y : MethodTree) → y.public ≡ false → slice_get (privates (before ++ method y ∷ xs)) (length (privates before)) ≡ Some y
private-there before xs y is =
    ap (λ ms. slice_get ms (length (privates before))) (flat_map-append private_in before (method y ∷ xs)
    ∙ ap (λ b. privates before ++ ((if b then [] else y ∷ []) ++ privates xs)) is)
    ∙ at-length (privates before) (privates xs) y

method-here : (all before xs : List Item) (y : MethodTree) (b : Bool) → all ≡ before ++ method y ∷ xs → y.public ≡ b → IsMethodAt all (min (number_in all before b) 255) (min (length y.params) 255)
method-here all before xs y true is public = record {
  k = length (publics before);
  m = y;
  is = at-front (publics all) (privates all) (length (publics before)) y (ap (λ zs. slice_get (publics zs) (length (publics before))) is ∙ public-there before xs y public);
  number_is = refl;
  params_are = refl;
}
method-here all before xs y false is public = record {
  k = length (publics all) + length (privates before);
  m = y;
  is = at-back (publics all) (privates all) (length (privates before)) ∙ ap (λ zs. slice_get (privates zs) (length (privates before))) is ∙ private-there before xs y public;
  number_is = refl;
  params_are = refl;
}

abbrev numbers : NameKind → ℕ × ℕ
numbers (kind.Method number params) = (number, params)
numbers k = (0, 0)

abbrev is_method : NameKind → Bool
is_method (kind.Method number params) = true
is_method k = false

module _ (s : Setting) (all : List Item) (o : List ℕ) (number params : ℕ) where
  here-or : (b : Bool) (k : NameKind) (rest : Option NameKind) (n p : ℕ) → numbers k ≡ (n, p) → IsMethodAt all n p → (if b then Some k else rest) ≡ Some (kind.Method number params) → (rest ≡ Some (kind.Method number params) → IsMethodAt all number params) → IsMethodAt all number params
  here-or true k rest n p parts h is others =
      let same = sym parts ∙ ap numbers (same_Some k (kind.Method number params) is) in
      subst (λ (q : ℕ × ℕ). IsMethodAt all q.0 q.1) same h
  here-or false k rest n p parts h is others = others is

  other : (b : Bool) (k : NameKind) (rest : Option NameKind) → is_method k ≡ false → (if b then Some k else rest) ≡ Some (kind.Method number params) → rest ≡ Some (kind.Method number params)
  other true k rest never is = absurd (let both : true ≡ false = sym (ap is_method (same_Some k (kind.Method number params) is)) ∙ never in cc)
  other false k rest never is = is

  method-of-kind : (before xs : List Item) → all ≡ before ++ xs → kind_among s all before xs o ≡ Some (kind.Method number params) → IsMethodAt all number params
  method-of-kind before [] split is = absurd (none-some (kind.Method number params) is)
  method-of-kind before (method y ∷ xs) split is =
      here-or (bytes_eq o y.name) (item_kind s all before (method y) xs) (kind_among s all (before ++ method y ∷ []) xs o) (min (number_in all before y.public) 255) (min (length y.params) 255) refl
      (method-here all before xs y y.public split refl) is (method-of-kind (before ++ method y ∷ []) xs (split ∙ sym (append_assoc before (method y ∷ []) xs)))
  method-of-kind before (constant y ∷ xs) split is =
      method-of-kind (before ++ constant y ∷ []) xs (split ∙ sym (append_assoc before (constant y ∷ []) xs)) (other (has_name y.name o) (item_kind s all before (constant y) xs) (kind_among s all (before ++ constant y ∷ []) xs o) refl is)
  method-of-kind before (variable y ∷ xs) split is =
      method-of-kind (before ++ variable y ∷ []) xs (split ∙ sym (append_assoc before (variable y ∷ []) xs)) (other (bytes_eq o y.name) (item_kind s all before (variable y) xs) (kind_among s all (before ++ variable y ∷ []) xs o) refl is)
  method-of-kind before (object y ∷ xs) split is =
      method-of-kind (before ++ object y ∷ []) xs (split ∙ sym (append_assoc before (object y ∷ []) xs)) (other (bytes_eq o y.name) (item_kind s all before (object y) xs) (kind_among s all (before ++ object y ∷ []) xs o) refl is)
  method-of-kind before (line y ∷ xs) split is =
      method-of-kind (before ++ line y ∷ []) xs (split ∙ sym (append_assoc before (line y ∷ []) xs)) (other (has_name (name_of (line y)) o) (item_kind s all before (line y) xs) (kind_among s all (before ++ line y ∷ []) xs o) refl is)

-- ---- all kinds

module _ (files : List NamedSource) (children : List Children) (xs : List CompiledFile) (project : IsProject files children xs) (memory : List ℕ) (cog : ℕ) (table : List (ℕ × Place)) (hand : Place) (i : Instance) (file : NamedSource) (seen : Children) (x : CompiledFile) (there : IsThere files children xs i.file file seen x)
    (proper : IsProperFile file.tree) (k : ℕ) (m : MethodTree) (at : slice_get (numbered (items file.tree)) k ≡ Some m) where
  abbrev t : Compiled
  t = compiled memory cog (with_sources project.changed (program_of files children xs)) (addresses_of files xs (objects_of files children xs)) table (record { instance = i; method = suc k }) (record (file_of files file.tree seen x) { source = project.changed i.file }) hand

  whole : IsRecodedFile file.tree (project.changed i.file) seen (i.file == 0) x
  whole = compiled-at files children xs project i.file file seen x there

  of-file-kind : (name : List ℕ) (q : NameKind) → is_local q ≡ false → kind_here x.kinds (k + 1) name ≡ Some q → own x.kinds 0 name ≡ Some q
  of-file-kind name q never is =
      let plus : suc k ≡ k + 1 = omega arith in
      let own_is : IsOwn (own x.kinds (k + 1) name) = subst (λ j. IsOwn (own x.kinds j name)) plus (subst IsOwn (sym (own-so files file.tree seen (i.file == 0) x whole.names proper k m at name)) (own-of whole.names.setting (Some m) name)) in
      whole-kind (bytes_eq name result_word) (own x.kinds (k + 1) name) (own x.kinds 0 name) q own_is never is

  among : (name : List ℕ) (q : NameKind) → is_local q ≡ false → ((v : ℕ) → kind.Const v ≡ q → ⊥) → kind_here x.kinds (k + 1) name ≡ Some q → kind_among whole.names.setting (items file.tree) [] (items file.tree) name ≡ Some q
  among name q never other is =
      among-whole (predefined_value name) (kind_among whole.names.setting (items file.tree) [] (items file.tree) name) q other
      (sym (kind-is file.tree seen (i.file == 0) x.kinds whole.names name) ∙ of-file-kind name q never is)

  fits-method : (number params : ℕ) → IsMethodAt (items file.tree) number params → (number < 2 ^ 8) × (params < 2 ^ 8) × Fits (record (file_of files file.tree seen x) { source = project.changed i.file }) number params
  fits-method number params h =
      let f = few file.tree seen (i.file == 0) x whole in
      let low = slice_get_within (numbered (items file.tree)) h.k h.m h.is in
      let number_is : number ≡ suc h.k = omega (arith, h.number_is, low, f.methods) in
      let small = few-params file.tree seen (i.file == 0) x whole.names h.k h.m h.is in
      let b = changed-method file.tree (project.changed i.file) seen x whole.code h.k h.m h.is in
      let params_are : params ≡ length h.m.params = omega (arith, h.params_are, small) in
      let g : File = record (file_of files file.tree seen x) { source = project.changed i.file } in
      (omega (arith, number_is, low, f.methods), omega (arith, params_are, small), (rebodied h.m b.0, ap (method_of g) number_is ∙ method-there g h.k (rebodied h.m b.0) b.1, params_are))

  -- a local stands in the frame
  or-within : (n : ℕ) (a b : Option NameKind) → Within n a → Within n b → Within n (or_else a b)
  or-within n None b p q = q
  or-within n (Some l) b p q = p

  known-within : (n : ℕ) (p : Option ℕ) (o : Option NameKind) → Within n o → Within n (kind_or p o)
  known-within n None o w = w
  known-within n (Some v) o w = tt

  frame-within : (name : List ℕ) → Within 8200 (own_kind whole.names.setting (Some m) name)
  frame-within name =
      let c = coded files file.tree (project.changed i.file) seen x k m whole.code at in
      let same = longs-same (setting_of seen x) (method_setting whole.names.setting m) (hiding-alike files file seen (i.file == 0) x whole.names proper k m at) m.locals in
      within-frame 8200 (method_setting whole.names.setting m) m name (omega (arith, same, c.small, c.recoded.right.locals))

  local-within : (offset : ℕ) (name : List ℕ) → kind_here x.kinds (k + 1) name ≡ Some (kind.Local offset) → offset < 2 ^ 15
  local-within offset name is =
      let plus : suc k ≡ k + 1 = omega arith in
      let own_is : Within 8200 (own x.kinds (k + 1) name) = subst (λ j. Within 8200 (own x.kinds j name)) plus (subst (Within 8200) (sym (own-so files file.tree seen (i.file == 0) x whole.names proper k m at name)) (frame-within name)) in
      let file_is : Within 8200 (own x.kinds 0 name) = subst (Within 8200) (sym (kind-is file.tree seen (i.file == 0) x.kinds whole.names name))
      (known-within 8200 (predefined_value name) (kind_among whole.names.setting (items file.tree) [] (items file.tree) name) (among-within 8200 whole.names.setting (items file.tree) [] (items file.tree) name)) in
      let all : Within 8200 (kind_here x.kinds (k + 1) name) = within-where 8200 (bytes_eq name result_word) (Some (kind.Local 0)) (or_else (own x.kinds (k + 1) name) (own x.kinds 0 name)) (omega arith) (or-within 8200 (own x.kinds (k + 1) name) (own x.kinds 0 name) own_is file_is) in
      let low : offset ≤ 8200 = subst (Within 8200) is all in
      omega (arith, low)

  instance-some : (item position count : ℕ) → IsItem whole.names.setting (items file.tree) [] (objects (items file.tree)) item position count → 0 < count
  instance-some item position count h =
      let s = whole.names.setting in
      let there_is : slice_get (objects (items file.tree)) (length h.first) ≡ Some h.y = ap (λ os. slice_get os (length h.first)) h.is ∙ at-length h.first h.rest h.y in
      let some = instances-some s 0 (items file.tree) (λ f b. whole.names.clean f (of_name s whole.names.right (of_counts b))) (λ f b. whole.names.clean f (of_name s whole.names.right (of_instances b))) (length h.first) h.y there_is in
      omega (arith, some, h.count_is)

  pub sound-of : (name : List ℕ) (q : NameKind) → (names_of files file seen x k m).kind name ≡ Some q → HasRoom (names_of files file seen x k m) name q → IsSound (names_of files file seen x k m) t name q
  sound-of name (kind.Const v) is room = subst IsConstWord (of-file-kind name (kind.Const v) refl is) (file-const files children project.children_are i.file file seen (i.file == 0) x.kinds there.stands there.beside whole.names name)
  sound-of name (kind.Global size offset) is room =
      (sizes whole.names.setting file.tree name (kind.Global size offset) proper (among name (kind.Global size offset) refl (λ v e. absurd (cc)) is), room)
  sound-of name (kind.Local offset) is room = local-within offset name is
  sound-of name (kind.Label size) is room =
      (sizes whole.names.setting file.tree name (kind.Label size) proper (among name (kind.Label size) refl (λ v e. absurd (cc)) is), sym (of-file (λ (z : CompiledFile). or_zero (first_offset z.labels name)) xs i.file x there.compiled), room)
  sound-of name (kind.Method number params) is room =
      fits-method number params (method-of-kind whole.names.setting (items file.tree) name number params [] (items file.tree) refl (among name (kind.Method number params) refl (λ v e. absurd (cc)) is))
  sound-of name (kind.Object item position count) is room =
      let h = item-of whole.names.setting (items file.tree) name item position count [] (items file.tree) (among name (kind.Object item position count) refl (λ v e. absurd (cc)) is) in
      (omega (arith, h.position_is), instance-some item position count h, omega (arith, h.count_is))
