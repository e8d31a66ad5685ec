-- What is told of what was worked out is told of the compiled files.
use Rattle.std.proofs.Common.{◌≡◌, ◌∙◌, ℕ, suc, List, [], ◌∷◌, length, map, slice_get, Some, refl, ap, ap₂, sym, arith}
use Rattle.std.proofs.lemmas.List.{length-map}
use Rattle.p8_tree.specs.Projects.{NamedSource}
use Rattle.p8_kinds.specs.declared.children.Children.{Children}
use Rattle.p8_dat.specs.declared.assembling.LineBegin.{LineBegin}
use Rattle.p8_stmt.specs.declared.code.MethodCode.{MethodCode}
use Rattle.p8_image.specs.declared.parts.ObjectPart.{ObjectPart}
use Rattle.p8_build.specs.declared.accepting.AcceptedFile.{AcceptedFile}
use Rattle.p8_build.specs.declared.building.Accepted.{Accepted}
use Rattle.p8_build.specs.Accepted.{HasTables, IsAccepted, compiled_file, compiled_files}
use Rattle.p8_build.specs.Files.{CompiledFile}
use Rattle.p8_build.specs.Builds.{objects_from}
use Rattle.p8_map.specs.declared.names.FileNames.{FileNames}
use Rattle.p8_map.specs.Projects.{names_of}
use Rattle.p8_opt.specs.declared.building.Shortened.{Shortened}
use Rattle.p8_opt.specs.Shortening.{IsShortened, recoded_files}
use Rattle.p8_code.specs.Accepting.{codes_by}
use Rattle.p8_code.specs.Listing.{FileCode, code_of}
use Rattle.p8_code.specs.Projects.{file_codes, IsCodeOf, IsShortCodeOf}
use Rattle.p8_code.specs.Sources.{lines_of}

-- each file, by its tables
abbrev HaveTables : List NamedSource → List Children → List AcceptedFile → Type 0
HaveTables fs cs xs =
    (i : ℕ) (f : NamedSource) (c : Children) (x : AcceptedFile) → slice_get fs i ≡ Some f → slice_get cs i ≡ Some c → slice_get xs i ≡ Some x → HasTables f.tree c x

abbrev known : (bytes : List ℕ) → List MethodCode → List LineBegin → FileCode
known bytes codes lines = record { source = lines_of bytes; lines = lines; methods = codes }

one-more : (bytes : List ℕ) (codes : List MethodCode) (xs ys : List LineBegin) → xs ≡ ys → (us vs : List FileCode) → us ≡ vs → known bytes codes xs ∷ us ≡ known bytes codes ys ∷ vs
one-more bytes codes xs ys same us vs others = ap₂ (λ (lines : List LineBegin) (ws : List FileCode). known bytes codes lines ∷ ws) same others

codes-are : (bs : List (List ℕ)) (fs : List NamedSource) (cs : List Children) (xs : List AcceptedFile) → length bs ≡ length fs → length cs ≡ length fs → length xs ≡ length fs
    → HaveTables fs cs xs → codes_by bs xs [] ≡ file_codes bs fs cs (map compiled_file xs)
codes-are [] fs cs xs z a b each = refl
codes-are (t ∷ bs) [] cs xs z a b each = absurd (omega arith)
codes-are (t ∷ bs) (f ∷ fs) [] xs z a b each = absurd (omega arith)
codes-are (t ∷ bs) (f ∷ fs) (c ∷ cs) [] z a b each = absurd (omega arith)
codes-are (t ∷ bs) (f ∷ fs) (c ∷ cs) (x ∷ xs) z a b each =
    one-more t x.codes _ _ (each 0 f c x refl refl refl).lines _ _ (codes-are bs fs cs xs (omega arith) (omega arith) (omega arith) (λ i. each (suc i)))

short-codes-are : (bs : List (List ℕ)) (fs : List NamedSource) (cs : List Children) (xs : List AcceptedFile) (short : List (List MethodCode))
    → length bs ≡ length fs → length cs ≡ length fs → length xs ≡ length fs → length short ≡ length xs
    → HaveTables fs cs xs → codes_by bs xs short ≡ file_codes bs fs cs (recoded_files xs short)
short-codes-are [] fs cs xs short z a b d each = refl
short-codes-are (t ∷ bs) [] cs xs short z a b d each = absurd (omega arith)
short-codes-are (t ∷ bs) (f ∷ fs) [] xs short z a b d each = absurd (omega arith)
short-codes-are (t ∷ bs) (f ∷ fs) (c ∷ cs) [] short z a b d each = absurd (omega arith)
short-codes-are (t ∷ bs) (f ∷ fs) (c ∷ cs) (x ∷ xs) [] z a b d each = absurd (omega arith)
short-codes-are (t ∷ bs) (f ∷ fs) (c ∷ cs) (x ∷ xs) (own ∷ short) z a b d each =
    one-more t own _ _ (each 0 f c x refl refl refl).lines _ _ (short-codes-are bs fs cs xs short (omega arith) (omega arith) (omega arith) (omega arith) (λ i. each (suc i)))

-- how many there are
names-many : (bs : List (List ℕ)) (fs : List NamedSource) (cs : List Children) (xs : List CompiledFile) → length bs ≡ length fs → length cs ≡ length fs → length xs ≡ length fs
    → length (names_of bs fs cs xs) ≡ length fs
names-many [] [] cs xs z a b = refl
names-many [] (f ∷ fs) cs xs z a b = absurd (omega (arith, z))
names-many (t ∷ bs) [] cs xs z a b = absurd (omega (arith, z))
names-many (t ∷ bs) (f ∷ fs) [] xs z a b = absurd (omega (arith, a))
names-many (t ∷ bs) (f ∷ fs) (c ∷ cs) [] z a b = absurd (omega (arith, b))
names-many (t ∷ bs) (f ∷ fs) (c ∷ cs) (x ∷ xs) z a b = ap suc (names-many bs fs cs xs (omega (arith, z)) (omega (arith, a)) (omega (arith, b)))

objects-many : (all fs : List NamedSource) (cs : List Children) (xs : List CompiledFile) → length cs ≡ length fs → length xs ≡ length fs → length (objects_from all fs cs xs) ≡ length fs
objects-many all [] cs xs a b = refl
objects-many all (f ∷ fs) [] xs a b = absurd (omega (arith, a))
objects-many all (f ∷ fs) (c ∷ cs) [] a b = absurd (omega (arith, b))
objects-many all (f ∷ fs) (c ∷ cs) (x ∷ xs) a b = ap suc (objects-many all fs cs xs (omega (arith, a)) (omega (arith, b)))

module _ (sources : List (List ℕ)) (files : List NamedSource) (a : Accepted) (is : IsAccepted files a) (beside : length sources ≡ length files) where
  pub many : length a.files ≡ length files
  many = sym (length-map a.files compiled_file) ∙ is.each.count

  pub as-many-names : length (names_of sources files a.children (compiled_files a)) ≡ length files
  as-many-names = names-many sources files a.children (compiled_files a) beside is.seen.one_each is.each.count

  pub as-many-objects : length a.built.objects ≡ length files
  as-many-objects = ap length is.finished.objects_are ∙ objects-many files files a.children (compiled_files a) is.seen.one_each is.each.count

  pub as-many-short-objects : (s : Shortened) → IsShortened files a s → length s.built.objects ≡ length files
  as-many-short-objects s made =
      ap length made.objects_are ∙ objects-many files files a.children (recoded_files a.files s.codes) is.seen.one_each (made.shorter.count ∙ is.each.count)

  have : HaveTables files a.children a.files
  have = λ i f c x at_f at_c at_x. is.tables i f c x (record { stands = at_f; beside = at_c }) at_x

  module _ (shown : List FileNames) (shown_are : shown ≡ names_of sources files a.children (compiled_files a)) (found : List AcceptedFile) (found_are : found ≡ a.files)
      (objects : List ObjectPart) (text : List ℕ) where
    -- the code of what an accepted project is built to
    pub code-told : objects ≡ a.built.objects → text ≡ code_of shown objects (codes_by sources found []) → IsCodeOf sources files text
    code-told objects_are told =
        let done = is.finished in
        let all : codes_by sources found [] ≡ file_codes sources files a.children (compiled_files a) =
        ap (λ (fs : List AcceptedFile). codes_by sources fs []) found_are ∙ codes-are sources files a.children a.files beside is.seen.one_each many have in
        record {
          children = a.children;
          seen = is.seen;
          compiled = compiled_files a;
          each = is.each;
          clock = done.clock;
          clock_is = done.is;
          fits = done.fits;
          is = told ∙ (λ i. code_of (shown_are i) ((objects_are ∙ done.objects_are) i) (all i));
        }

    -- and with short code
    pub short-code-told : (s : Shortened) → IsShortened files a s → (short : List (List MethodCode)) → short ≡ s.codes → objects ≡ s.built.objects
        → text ≡ code_of shown objects (codes_by sources found short) → IsShortCodeOf sources files text
    short-code-told s made short short_are objects_are told =
        let done = is.finished in
        let ys : List CompiledFile = recoded_files a.files s.codes in
        let all : codes_by sources found short ≡ file_codes sources files a.children ys =
        ap₂ (codes_by sources) found_are short_are
        ∙ short-codes-are sources files a.children a.files s.codes beside is.seen.one_each many made.count have in
        record {
          children = a.children;
          seen = is.seen;
          compiled = compiled_files a;
          each = is.each;
          clock = done.clock;
          clock_is = done.is;
          fits = done.fits;
          short = ys;
          shorter = made.shorter;
          is = told ∙ (λ i. code_of (shown_are i) ((objects_are ∙ made.objects_are) i) (all i));
        }
