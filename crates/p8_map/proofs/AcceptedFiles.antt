-- The names that are told of what was worked out are those of the compiled files.
use Rattle.std.proofs.Common.{◌≡◌, ◌∙◌, ℕ, suc, List, [], ◌∷◌, length, slice_get, Some, refl, ap, ap₂, sym, subst, arith}
use Rattle.std.specs.Prelude.{option_map}
use Rattle.std.proofs.lemmas.List.{length-map}
use Rattle.std.proofs.lemmas.Option.{slice_get_within, slice_get-map}
use Rattle.p8_tree.specs.Sources.{MethodTree}
use Rattle.p8_tree.specs.Projects.{NamedSource}
use Rattle.p8_fold.specs.Meanings.{Setting}
use Rattle.p8_kinds.specs.declared.children.Children.{Children}
use Rattle.p8_constants.specs.FileItems.{Item}
use Rattle.p8_constants.specs.Standing.{items_of}
use Rattle.p8_image.specs.declared.parts.ObjectPart.{ObjectPart}
use Rattle.p8_image.specs.Layout.{image_of}
use Rattle.p8_image.specs.Loading.{ImageValue}
use Rattle.p8_lexer.specs.Spelling.{text_in}
use Rattle.p8_build.specs.declared.accepting.AcceptedFile.{AcceptedFile}
use Rattle.p8_build.specs.declared.building.Accepted.{Accepted}
use Rattle.p8_build.specs.Accepted.{HasTables, IsAccepted, compiled_file, compiled_files, methods_of}
use Rattle.p8_build.specs.Files.{CompiledFile, setting_of}
use Rattle.p8_build.specs.Builds.{objects_of}
use Rattle.p8_build.proofs.Lists.{element, one_element}
use Rattle.p8_map.specs.declared.names.FileNames.{FileNames}
use Rattle.p8_map.specs.Map.{map_of}
use Rattle.p8_map.specs.Names.{file_names}
use Rattle.p8_map.specs.Projects.{names_of, IsMapOf}
use Rattle.p8_map.specs.Accepting.{names_with, names_by, AreNamesAt, AreNamesBy}

-- the names of the file at a place
pub names-here : (sources : List (List ℕ)) (files : List NamedSource) (accepted : List AcceptedFile) (i : ℕ) (b : List ℕ) (f : NamedSource) (m : AcceptedFile) (names : FileNames)
    → slice_get sources i ≡ Some b → slice_get files i ≡ Some f → slice_get accepted i ≡ Some m → names ≡ names_by (text_in b) f.name m → AreNamesAt sources files accepted i names
names-here sources files accepted i b f m names at_b at_f at_m are a g n at_a at_g at_n =
    are
    ∙ ap (λ (x : List ℕ). names_by (text_in x) f.name m) (one_element sources i at_b at_a)
    ∙ ap (λ (x : NamedSource). names_by (text_in a) x.name m) (one_element files i at_f at_g)
    ∙ ap (λ (x : AcceptedFile). names_by (text_in a) g.name x) (one_element accepted i at_m at_n)

-- a file, by its tables
one-file : (text : List ℕ) (file : NamedSource) (seen : Children) (f : AcceptedFile) → HasTables file.tree seen f → names_by text file.name f ≡ file_names text file (setting_of seen (compiled_file f)) f.dat.labels
one-file text file seen f h =
    ap (λ (s : Setting). names_with text file.name s (items_of f.items) (methods_of f) f.dat.labels) h.consts
    ∙ ap₂ (λ (xs : List Item) (ms : List MethodTree). names_with text file.name (setting_of seen (compiled_file f)) xs ms f.dat.labels) h.items_are h.methods_are

-- the names of a file, by what it is compiled to
abbrev names-compiled : List ℕ → NamedSource → Children → CompiledFile → FileNames
names-compiled b f c x = file_names (text_in b) f (setting_of c x) x.labels

names-are : (bs : List (List ℕ)) (fs : List NamedSource) (cs : List Children) (xs : List CompiledFile) (ns : List FileNames) → length bs ≡ length fs → length cs ≡ length fs → length xs ≡ length fs → length ns ≡ length fs
    → ((i : ℕ) (t : List ℕ) (f : NamedSource) (c : Children) (x : CompiledFile) (n : FileNames)
    → slice_get bs i ≡ Some t → slice_get fs i ≡ Some f → slice_get cs i ≡ Some c → slice_get xs i ≡ Some x → slice_get ns i ≡ Some n → n ≡ names-compiled t f c x)
    → ns ≡ names_of bs fs cs xs
names-are [] [] cs xs [] z a b d each = refl
names-are bs [] cs xs (n ∷ ns) z a b d each = absurd (omega arith)
names-are (t ∷ bs) [] cs xs [] z a b d each = refl
names-are [] (f ∷ fs) cs xs ns z a b d each = absurd (omega arith)
names-are (t ∷ bs) (f ∷ fs) [] xs ns z a b d each = absurd (omega arith)
names-are (t ∷ bs) (f ∷ fs) (c ∷ cs) [] ns z a b d each = absurd (omega arith)
names-are (t ∷ bs) (f ∷ fs) (c ∷ cs) (x ∷ xs) [] z a b d each = absurd (omega arith)
names-are (t ∷ bs) (f ∷ fs) (c ∷ cs) (x ∷ xs) (n ∷ ns) z a b d each =
    ap (λ y. y ∷ ns) (each 0 t f c x n refl refl refl refl refl)
    ∙ ap (λ ys. names-compiled t f c x ∷ ys) (names-are bs fs cs xs ns (omega arith) (omega arith) (omega arith) (omega arith) (λ i. each (suc i)))

-- as many files as there are
pub accepted-many : (files : List NamedSource) (a : Accepted) → IsAccepted files a → length a.files ≡ length files
accepted-many files a is = sym (length-map a.files compiled_file) ∙ is.each.count

all-files : (sources : List (List ℕ)) (files : List NamedSource) (a : Accepted) → IsAccepted files a → length sources ≡ length files → (names : List FileNames) → AreNamesBy sources files a.files names
    → names ≡ names_of sources files a.children (compiled_files a)
all-files sources files a is beside names by =
    let many = accepted-many files a is in
    names-are sources files a.children (compiled_files a) names beside is.seen.one_each is.each.count by.count (λ i b f c x n at_b at_f at_c at_x at_n.
    let within = slice_get_within files i f at_f in
    let m = element a.files i (omega (arith, within, many)) in
    let there : slice_get (compiled_files a) i ≡ Some (compiled_file m.0) = slice_get-map compiled_file a.files i ∙ ap (option_map compiled_file) m.1 in
    by.each i n at_n b f m.0 at_b at_f m.1 ∙ one-file (text_in b) f c m.0 (is.tables i f c m.0 (record { stands = at_f; beside = at_c }) m.1)
    ∙ ap (names-compiled b f c) (one_element (compiled_files a) i there at_x))

-- the names that were told, of a list that is that of the project
pub names-told : (sources : List (List ℕ)) (files : List NamedSource) (a : Accepted) → IsAccepted files a → length sources ≡ length files → (found : List AcceptedFile) → found ≡ a.files → (names : List FileNames) → AreNamesBy sources files found names
    → names ≡ names_of sources files a.children (compiled_files a)
names-told sources files a is beside found found_is names by = all-files sources files a is beside names (subst (λ (fs : List AcceptedFile). AreNamesBy sources files fs names) found_is by)

-- the map of what an accepted project is built to
pub map-told : (sources : List (List ℕ)) (files : List NamedSource) (a : Accepted) → IsAccepted files a → (shown : List FileNames) → shown ≡ names_of sources files a.children (compiled_files a)
    → (image : List ℕ) → image ≡ a.built.image.file → (objects : List ObjectPart) → objects ≡ a.built.objects
    → (text : List ℕ) → text ≡ map_of image shown objects → IsMapOf sources files text
map-told sources files a is shown shown_are image image_is objects objects_are text told =
    let compiled : List ObjectPart = objects_of files a.children (compiled_files a) in
    let done = is.finished in
    record {
      children = a.children;
      seen = is.seen;
      compiled = compiled_files a;
      each = is.each;
      clock = done.clock;
      clock_is = done.is;
      fits = done.fits;
      is = told
          ∙ ap (λ (i : List ℕ). map_of i shown objects) (image_is ∙ ap (λ (image : ImageValue). image.file) done.image)
          ∙ ap (λ (os : List ObjectPart). map_of (image_of done.clock compiled) shown os) (objects_are ∙ done.objects_are)
          ∙ ap (λ (ns : List FileNames). map_of (image_of done.clock compiled) ns compiled) shown_are;
    }
