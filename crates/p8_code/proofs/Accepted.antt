-- An accepted project has for each file an object, and for each method of it a name and a code. So its listing is in its code.
use Rattle.std.proofs.Common.{◌≡◌, ◌∙◌, ap, sym, refl, arith, ℕ, suc, List, [], ◌∷◌, length, map, slice_get, Some}
use Rattle.std.proofs.lemmas.List.{length-map}
use Rattle.p8_tree.specs.Projects.{NamedSource}
use Rattle.p8_constants.specs.FileItems.{items}
use Rattle.p8_lexer.specs.Spelling.{text_in}
use Rattle.p8_kinds.specs.declared.children.Children.{Children}
use Rattle.p8_names.specs.Kinds.{numbered}
use Rattle.p8_image.specs.declared.clocks.Clock.{Clock}
use Rattle.p8_image.specs.declared.parts.ObjectPart.{ObjectPart}
use Rattle.p8_image.specs.Listing.{listing_of}
use Rattle.p8_build.specs.Parts.{method_parts, strings_of}
use Rattle.p8_build.specs.Files.{CompiledFile, setting_of}
use Rattle.p8_build.specs.Builds.{IsBuilt, objects_from, objects_of}
use Rattle.p8_map.specs.declared.names.FileNames.{FileNames}
use Rattle.p8_map.specs.Names.{method_names}
use Rattle.p8_map.specs.Projects.{names_of}
use Rattle.p8_opt.specs.Shorts.{IsShortBuilt}
use Rattle.p8_opt.proofs.Counting.{parts-length}
use Rattle.p8_code.specs.Laws.{HaveObjects, HoldsListing}
use Rattle.p8_code.specs.Listing.{FileCode, code_of}
use Rattle.p8_code.specs.Projects.{file_codes, IsCodeOf, IsShortCodeOf}
use Rattle.p8_code.proofs.Listed.{objects-plain}

-- each file is compiled to codes, of which there are as many as it has methods
abbrev HaveCodes : List NamedSource → List Children → (named coded : List CompiledFile) → Type 0
HaveCodes fs cs xs ys =
    (i : ℕ) (f : NamedSource) (c : Children) (x y : CompiledFile) → slice_get fs i ≡ Some f → slice_get cs i ≡ Some c → slice_get xs i ≡ Some x → slice_get ys i ≡ Some y → length y.codes ≡ length (numbered (items f.tree))

-- names come from what the files are compiled to as they stand, objects and codes from what they are compiled to otherwise
have-objects : (all : List NamedSource) (ts : List (List ℕ)) (fs : List NamedSource) (cs : List Children) (xs ys : List CompiledFile) → length ts ≡ length fs → length cs ≡ length fs → length xs ≡ length fs → length ys ≡ length fs
    → HaveCodes fs cs xs ys → HaveObjects (names_of ts fs cs xs) (objects_from all fs cs ys) (file_codes ts fs cs ys)
have-objects all [] [] cs xs ys t c x y have = tt
have-objects all [] (f ∷ fs) cs xs ys t c x y have = absurd (omega (arith, t))
have-objects all (bytes ∷ ts) [] cs xs ys t c x y have = absurd (omega (arith, t))
have-objects all (bytes ∷ ts) (f ∷ fs) [] xs ys t c x y have = absurd (omega (arith, c))
have-objects all (bytes ∷ ts) (f ∷ fs) (seen ∷ cs) [] ys t c x y have = absurd (omega (arith, x))
have-objects all (bytes ∷ ts) (f ∷ fs) (seen ∷ cs) (named ∷ xs) [] t c x y have = absurd (omega (arith, y))
have-objects all (bytes ∷ ts) (f ∷ fs) (seen ∷ cs) (named ∷ xs) (coded ∷ ys) t c x y have =
    let methods = numbered (items f.tree) in
    let codes : length coded.codes ≡ length methods = have 0 f seen named coded refl refl refl refl in
    let parts : length (method_parts (strings_of f.tree) methods coded.codes) ≡ length methods = parts-length (strings_of f.tree) methods coded.codes codes in (
      length-map methods (method_names (text_in bytes) (setting_of seen named)) ∙ sym parts,
      codes ∙ sym parts,
      have-objects all ts fs cs xs ys (omega (arith, t)) (omega (arith, c)) (omega (arith, x)) (omega (arith, y)) (λ i. have (suc i)),
    )

-- the names of the files are those that the listing has
files-named : (ts : List (List ℕ)) (fs : List NamedSource) (cs : List Children) (xs : List CompiledFile) → length ts ≡ length fs → length cs ≡ length fs → length xs ≡ length fs
    → map (λ (file : FileNames). file.file) (names_of ts fs cs xs) ≡ map (λ (file : NamedSource). file.name) fs
files-named [] [] cs xs t c x = refl
files-named [] (f ∷ fs) cs xs t c x = absurd (omega (arith, t))
files-named (bytes ∷ ts) [] cs xs t c x = absurd (omega (arith, t))
files-named (bytes ∷ ts) (f ∷ fs) [] xs t c x = absurd (omega (arith, c))
files-named (bytes ∷ ts) (f ∷ fs) (seen ∷ cs) [] t c x = absurd (omega (arith, x))
files-named (bytes ∷ ts) (f ∷ fs) (seen ∷ cs) (named ∷ xs) t c x =
    ap (λ (names : List (List ℕ)). f.name ∷ names) (files-named ts fs cs xs (omega (arith, t)) (omega (arith, c)) (omega (arith, x)))

module _ (texts : List (List ℕ)) (files : List NamedSource) (beside : length texts ≡ length files) (text : List ℕ) where
  -- without what the listing doesn't have
  listed : (cs : List Children) (xs ys : List CompiledFile) → length cs ≡ length files → length xs ≡ length files → length ys ≡ length files → HaveCodes files cs xs ys
      → text ≡ code_of (names_of texts files cs xs) (objects_of files cs ys) (file_codes texts files cs ys)
      → HoldsListing text (listing_of (map (λ (file : NamedSource). file.name) files) (objects_of files cs ys))
  listed cs xs ys c x y have is =
      let names : List FileNames = names_of texts files cs xs in
      let objects : List ObjectPart = objects_of files cs ys in
      let known : List FileCode = file_codes texts files cs ys in record {
        names = names;
        objects = objects;
        known = known;
        whole = is;
        without = objects-plain names 16 names objects known (have-objects files texts files cs xs ys beside c x y have)
            ∙ ap (λ (shown : List (List ℕ)). listing_of shown objects) (files-named texts files cs xs beside c x);
      }

  pub code-holds : IsCodeOf texts files text → (clock : Clock) × (objects : List ObjectPart) × IsBuilt files clock objects × HoldsListing text (listing_of (map (λ (file : NamedSource). file.name) files) objects)
  code-holds is =
      let built : IsBuilt files is.clock (objects_of files is.children is.compiled) = record {
        children = is.children;
        seen = is.seen;
        compiled = is.compiled;
        each = is.each;
        objects_are = refl;
        clock_is = is.clock_is;
        fits = is.fits;
      } in (
        is.clock,
        objects_of files is.children is.compiled,
        built,
        listed is.children is.compiled is.compiled is.seen.one_each is.each.count is.each.count
            (λ i f c x y at_f at_c at_x at_y. (is.each.each i f c y (record { stands = at_f; beside = at_c }) at_y).code.count) is.is,
      )

  -- and with short code
  pub short-code-holds : IsShortCodeOf texts files text → (clock : Clock) × (objects : List ObjectPart) × IsShortBuilt files clock objects × HoldsListing text (listing_of (map (λ (file : NamedSource). file.name) files) objects)
  short-code-holds is =
      let built : IsShortBuilt files is.clock (objects_of files is.children is.short) = record {
        children = is.children;
        seen = is.seen;
        compiled = is.compiled;
        each = is.each;
        clock_is = is.clock_is;
        fits = is.fits;
        short = is.short;
        shorter = is.shorter;
        objects_are = refl;
      } in (
        is.clock,
        objects_of files is.children is.short,
        built,
        listed is.children is.compiled is.short is.seen.one_each is.each.count (is.shorter.count ∙ is.each.count)
            (λ i f c x y at_f at_c at_x at_y. (is.shorter.each i f c x y (record { stands = at_f; beside = at_c }) at_x at_y).count) is.is,
      )
