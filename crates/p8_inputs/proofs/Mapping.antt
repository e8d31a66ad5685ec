-- A project has one map, and an image where it has a map or hints.
use Rattle.std.proofs.Common.{◌≡◌, ◌∙◌, ap, sym, subst, refl, arith, ℕ, suc, ◌==◌, Bool, List, [], ◌∷◌, length, slice_get, Some}
use Rattle.std.proofs.lemmas.Option.{same_Some}
use Rattle.p8_tree.specs.Projects.{NamedSource}
use Rattle.p8_fold.specs.Meanings.{Setting}
use Rattle.p8_kinds.specs.declared.children.Children.{Children}
use Rattle.p8_kinds.specs.declared.name_kinds.Label.{Label}
use Rattle.p8_names.specs.Children.{AreChildren}
use Rattle.p8_image.specs.declared.clocks.Clock.{Clock}
use Rattle.p8_image.specs.Layout.{image_of}
use Rattle.p8_map.specs.declared.names.FileNames.{FileNames}
use Rattle.p8_lexer.specs.Spelling.{text_in}
use Rattle.p8_map.specs.Map.{map_of}
use Rattle.p8_map.specs.Names.{file_names}
use Rattle.p8_map.specs.Projects.{names_of, IsMapOf}
use Rattle.p8_hint.specs.Projects.{IsHintsOf}
use Rattle.p8_build.specs.Files.{CompiledFile, setting_of, IsCompiled}
use Rattle.p8_build.specs.Builds.{AreCompiled, IsBuilt, IsFile, objects_of}
use Rattle.p8_build.proofs.One.{alike, same_labels, same_setting}
use Rattle.p8_build.proofs.Wholes.{one_clock, one_objects}

-- the names of a file, by what it is compiled to
abbrev names_by : (bytes : List ℕ) → NamedSource → Children → CompiledFile → FileNames
names_by bytes file seen x = file_names (text_in bytes) file (setting_of seen x) x.labels

one-name : (bytes : List ℕ) (file : NamedSource) (seen : Children) (top : Bool) (x y : CompiledFile) → IsCompiled file.tree seen top x → IsCompiled file.tree seen top y → names_by bytes file seen x ≡ names_by bytes file seen y
one-name bytes file seen top x y a b =
    let h = alike file.tree seen top x.kinds y.kinds a.names b.names in
    ap (λ (s : Setting). file_names (text_in bytes) file s x.labels) (same_setting file.tree seen x.kinds y.kinds h)
    ∙ ap (λ (labels : List Label). file_names (text_in bytes) file (setting_of seen y) labels) (same_labels file.tree seen x y h a.dat b.dat)

names-same : (ts : List (List ℕ)) (fs : List NamedSource) (cs : List Children) (xs ys : List CompiledFile) → length cs ≡ length fs → length xs ≡ length fs → length ys ≡ length fs
    → ((i : ℕ) (t : List ℕ) (f : NamedSource) (c : Children) (x y : CompiledFile) → slice_get fs i ≡ Some f → slice_get cs i ≡ Some c → slice_get xs i ≡ Some x → slice_get ys i ≡ Some y → names_by t f c x ≡ names_by t f c y)
    → names_of ts fs cs xs ≡ names_of ts fs cs ys
names-same [] fs cs xs ys a b d each = refl
names-same (t ∷ ts) [] cs xs ys a b d each = refl
names-same (t ∷ ts) (f ∷ fs) [] xs ys a b d each = absurd (omega arith)
names-same (t ∷ ts) (f ∷ fs) (c ∷ cs) [] ys a b d each = absurd (omega arith)
names-same (t ∷ ts) (f ∷ fs) (c ∷ cs) (x ∷ xs) [] a b d each = absurd (omega arith)
names-same (t ∷ ts) (f ∷ fs) (c ∷ cs) (x ∷ xs) (y ∷ ys) a b d each =
    ap (λ o. o ∷ names_of ts fs cs xs) (each 0 t f c x y refl refl refl refl) ∙ ap (λ os. names_by t f c y ∷ os) (names-same ts fs cs xs ys (omega arith) (omega arith) (omega arith) (λ i. each (suc i)))

-- the names of all files, however they are compiled
pub one-names : (texts : List (List ℕ)) (files : List NamedSource) (children : List Children) (xs ys : List CompiledFile) → length children ≡ length files → AreCompiled files children xs → AreCompiled files children ys
    → names_of texts files children xs ≡ names_of texts files children ys
one-names texts files children xs ys beside a b =
    names-same texts files children xs ys beside a.count b.count (λ i t f c x y at_f at_c at_x at_y.
    let is : IsFile files children i f c = record { stands = at_f; beside = at_c } in
    one-name t f c (i == 0) x y (a.each i f c x is at_x) (b.each i f c y is at_y))

some-clock : (c d : Clock) → Some c ≡ Some d → c ≡ d
some-clock c d e = same_Some c d e

-- the map of an image, by what its files are compiled to
abbrev map_by : (texts : List (List ℕ)) → List NamedSource → Clock → List Children → List CompiledFile → List ℕ
map_by texts files clock children xs = map_of (image_of clock (objects_of files children xs)) (names_of texts files children xs) (objects_of files children xs)

-- what the files see is one thing, and so is the map
pub map-one : (texts : List (List ℕ)) (files : List NamedSource) → ((a b : List Children) → AreChildren files a → AreChildren files b → a ≡ b) → (a b : List ℕ) → IsMapOf texts files a → IsMapOf texts files b → a ≡ b
map-one texts files view a b p q =
    let same : q.children ≡ p.children = view q.children p.children q.seen p.seen in
    let each : AreCompiled files p.children q.compiled = subst (λ (cs : List Children). AreCompiled files cs q.compiled) same q.each in
    let clock : p.clock ≡ q.clock = some-clock p.clock q.clock (sym p.clock_is ∙ one_clock files p.children p.compiled q.compiled p.seen.one_each p.each each ∙ q.clock_is) in
    let objects : objects_of files p.children p.compiled ≡ objects_of files p.children q.compiled = one_objects files p.children p.compiled q.compiled p.seen.one_each p.each each in
    let names : names_of texts files p.children p.compiled ≡ names_of texts files p.children q.compiled = one-names texts files p.children p.compiled q.compiled p.seen.one_each p.each each in
    p.is
    ∙ (λ i. map_of (image_of (clock i) (objects i)) (names i) (objects i))
    ∙ ap (λ (cs : List Children). map_by texts files q.clock cs q.compiled) (sym same)
    ∙ sym q.is

-- a project with a map is built
pub map-built : (texts : List (List ℕ)) (files : List NamedSource) (text : List ℕ) (is : IsMapOf texts files text) → IsBuilt files is.clock (objects_of files is.children is.compiled)
map-built texts files text is = record { children = is.children; seen = is.seen; compiled = is.compiled; each = is.each; objects_are = refl; clock_is = is.clock_is; fits = is.fits }

-- so is one with hints
pub hints-built : (texts : List (List ℕ)) (files : List NamedSource) (text : List ℕ) (is : IsHintsOf texts files text) → IsBuilt files is.clock (objects_of files is.children is.compiled)
hints-built texts files text is = record { children = is.children; seen = is.seen; compiled = is.compiled; each = is.each; objects_are = refl; clock_is = is.clock_is; fits = is.fits }
