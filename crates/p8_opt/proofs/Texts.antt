-- Where the texts of a file stand, and what its kinds are in a method.
use Rattle.std.proofs.Common.{◌≡◌, ℕ, zero, suc, ◌+◌, ◌^◌, ◌<◌, ◌≤◌, if◌then◌else◌, List, [], ◌∷◌, ◌++◌, length, slice_get, slice_index, Option, Some, None, refl, sym, ap, ◌∙◌, arith}
use Rattle.std.specs.Str.{bytes_eq}
use Rattle.std.proofs.lemmas.Option.{none-some, slice_get_within}
use Rattle.p8_tree.specs.declared.places.Place.{Place}
use Rattle.p8_tree.specs.Names.{result_word}
use Rattle.p8_tree.specs.Sources.{MethodTree, Source}
use Rattle.p8_tree.specs.Projects.{NamedSource}
use Rattle.p8_constants.specs.FileItems.{items}
use Rattle.p8_kinds.specs.declared.children.Children.{Children}
use Rattle.p8_kinds.specs.declared.name_kinds.NameKind.TheVariants as kind
use Rattle.p8_kinds.specs.declared.kinds.Kinds.{Kinds}
use Rattle.p8_kinds.specs.Kinds.{kind_of}
use Rattle.p8_names.specs.Kinds.{numbered}
use Rattle.p8_image.specs.declared.clocks.Clock.{Clock}
use Rattle.p8_image.specs.declared.parts.ObjectPart.{ObjectPart}
use Rattle.p8_image.specs.Layout.{places_from, text_size, texts_offset, text_offsets, image_of}
use Rattle.p8_image.specs.Places.{Stands, AllPartsStand, base_of}
use Rattle.p8_gen.specs.Files.{kind_here}
use Rattle.p8_build.specs.Parts.{strings_of, text_number}
use Rattle.p8_build.specs.Files.{CompiledFile, object_of}
use Rattle.p8_build.specs.Builds.{objects_of}
use Rattle.p8_opt.specs.Programs.{kind_by, of_file, addresses_of}
use Rattle.p8_opt.proofs.Tables.{stands-fits}
use Rattle.p8_opt.proofs.Files.{IsThere, object-at}
use Rattle.p8_image.proofs.Memories.{Lies}
use Rattle.p8_opt.proofs.OwnKinds.{number_by, number-is}
use Rattle.p8_opt.proofs.Placing.{of-file}

places-none : {A : Type 0} (size : A → ℕ) (p : ℕ) (xs : List A) (j : ℕ) → slice_get xs j ≡ None → slice_index (places_from size p xs) j ≡ 0
places-none size p [] j none = refl
places-none size p (x ∷ xs) zero none = absurd (none-some x (sym none))
places-none size p (x ∷ xs) (suc j) none = places-none size (p + size x) xs j none

near-by : (image : List ℕ) (base : ℕ) (object : ObjectPart) (j : ℕ) (o : Option (List ℕ)) → length image ≤ 32756 → slice_get object.texts j ≡ o
    → ((text : List ℕ) → slice_get object.texts j ≡ Some text → Stands image (base + slice_index (text_offsets object) j) (text ++ 0 ∷ [])) → slice_index (text_offsets object) j < 2 ^ 15
near-by image base object j None short is stand = let none = places-none text_size (texts_offset object) object.texts j is in omega (arith, none)
near-by image base object j (Some text) short is stand =
    let fits = stands-fits image (base + slice_index (text_offsets object) j) (text ++ 0 ∷ []) (stand text is) in
    omega (arith, fits, short)

-- the texts of an object stand in the lower half of the memory
pub near-texts : (clock : Clock) (objects : List ObjectPart) (i : ℕ) (object : ObjectPart) → AllPartsStand clock objects → Lies (image_of clock objects) → slice_get objects i ≡ Some object → (j : ℕ) → slice_index (text_offsets object) j < 2 ^ 15
near-texts clock objects i object parts hub is j =
    near-by (image_of clock objects) (base_of objects i) object j (slice_get object.texts j) (omega (arith, hub.below, hub.high)) refl (λ text at. (parts i object is).texts j text at)

-- a text's address is its offset
pub text-is : (files : List NamedSource) (children : List Children) (xs : List CompiledFile) (i : ℕ) (file : NamedSource) (seen : Children) (x : CompiledFile) → IsThere files children xs i file seen x → (p : Place)
    → slice_index (text_offsets (object_of files file.tree seen x)) (text_number (strings_of file.tree) p) ≡ (addresses_of files xs (objects_of files children xs)).text i p
text-is files children xs i file seen x there p =
    let all = objects_of files children xs in
    let object = object_of files file.tree seen x in
    let number : ℕ = of_file (λ (f : NamedSource). text_number (strings_of f.tree) p) files i in
    let same : number ≡ text_number (strings_of file.tree) p = of-file (λ (f : NamedSource). text_number (strings_of f.tree) p) files i file there.stands in
    ap (slice_index (text_offsets object)) (sym same)
    ∙ sym (of-file (λ (o : ObjectPart). slice_index (text_offsets o) number) all i object (object-at files files children xs i file seen x there))

-- the kinds of a method are those of its number
pub kind-in-method : (found : Kinds) (source : Source) (k : ℕ) (m : MethodTree) → slice_get (numbered (items source)) k ≡ Some m → (name : List ℕ)
    → kind_here found (k + 1) name ≡ (if bytes_eq name result_word then Some (kind.Local 0) else kind_by found source (suc k) name)
kind-in-method found source k m at name =
    let within = slice_get_within (numbered (items source)) k m at in
    let next : k + 1 ≡ number_by source (suc k) = (let plus : k + 1 ≡ suc k = omega arith in plus) ∙ sym (number-is source (suc k) (omega (arith, within))) in
    ap (λ j. if bytes_eq name result_word then Some (kind.Local 0) else kind_of found j name) next
