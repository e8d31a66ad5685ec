-- The names of a method agree with those of its project.
use Rattle.std.proofs.Common.{◌≡◌, ℕ, suc, ◌==◌, List, slice_get, Some, refl, sym, ap, ◌∙◌}
use Rattle.p8_tree.specs.declared.places.Place.{Place}
use Rattle.p8_tree.specs.Sources.{MethodTree}
use Rattle.p8_tree.specs.Projects.{NamedSource}
use Rattle.p8_constants.specs.FileItems.{items}
use Rattle.p8_fold.specs.Values.{value}
use Rattle.p8_kinds.specs.declared.children.Children.{Children}
use Rattle.p8_names.specs.Kinds.{numbered}
use Rattle.p8_image.specs.declared.clocks.Clock.{Clock}
use Rattle.p8_image.specs.Layout.{image_of}
use Rattle.p8_image.specs.Loading.{memory_of}
use Rattle.p8_image.specs.Places.{AllPartsStand}
use Rattle.p8_meaning.specs.Programs as meaning
use Rattle.p8_meaning.specs.Programs.{Instance}
use Rattle.p8_compiled.specs.Keeps.{compiled}
use Rattle.p8_compiled.specs.Agreeing.{Agrees}
use Rattle.p8_build.specs.Parts.{AreProper, strings_of, text_number}
use Rattle.p8_build.specs.Files.{CompiledFile, setting_of, object_of}
use Rattle.p8_build.specs.Builds.{objects_of}
use Rattle.p8_opt.specs.Programs.{file_of, program_of, with_sources, addresses_of}
use Rattle.p8_opt.specs.Agreements.{names_of, HaveRoom}
use Rattle.p8_opt.proofs.Alike.{value-alike}
use Rattle.p8_opt.proofs.OwnSettings.{own-alike}
use Rattle.p8_opt.proofs.Constants.{value-word}
use Rattle.p8_opt.proofs.Files.{IsThere, object-at, setting-same}
use Rattle.p8_image.proofs.Memories.{Lies}
use Rattle.p8_opt.proofs.Instances.{IsProject, compiled-at}
use Rattle.p8_opt.proofs.Texts.{near-texts, text-is, kind-in-method}
use Rattle.p8_opt.proofs.Results.{no-result}
use Rattle.p8_names.proofs.Seen.{has-words}
use Rattle.p8_opt.proofs.Publics.{public-method}
use Rattle.p8_opt.proofs.Sounds.{sound-of}

pub agrees : (files : List NamedSource) (children : List Children) (xs : List CompiledFile) (project : IsProject files children xs) → AreProper files → (clock : Clock) → AllPartsStand clock (objects_of files children xs) → Lies (image_of clock (objects_of files children xs))
    → (cog : ℕ) (i : Instance) (file : NamedSource) (seen : Children) (x : CompiledFile) → IsThere files children xs i.file file seen x → (k : ℕ) (m : MethodTree) → slice_get (numbered (items file.tree)) k ≡ Some m
    → HaveRoom (names_of files file seen x k m) → (table : List (ℕ × Place)) (hand : Place)
    → Agrees (names_of files file seen x k m) (compiled (memory_of (image_of clock (objects_of files children xs))) cog (with_sources project.changed (program_of files children xs)) (addresses_of files xs (objects_of files children xs)) table (record { instance = i; method = suc k }) (record (file_of files file.tree seen x) { source = project.changed i.file }) hand)
agrees files children xs project proper clock parts hub cog i file seen x there k m at right table hand =
    let whole = compiled-at files children xs project i.file file seen x there in
    let object_is = object-at files files children xs i.file file seen x there in
    record {
      kinds = λ name. kind-in-method x.kinds file.tree k m at name;
      no_result = no-result file.tree seen (i.file == 0) x.kinds whole.names (proper i.file file there.stands) k m at;
      sound = λ name q is. sound-of files children xs project (memory_of (image_of clock (objects_of files children xs))) cog table hand i file seen x there (proper i.file file there.stands) k m at name q is (right name q is);
      publics = λ item name number params is. public-method files children xs project
          (compiled (memory_of (image_of clock (objects_of files children xs))) cog (with_sources project.changed (program_of files children xs)) (addresses_of files xs (objects_of files children xs)) table (record { instance = i; method = suc k }) (record (file_of files file.tree seen x) { source = project.changed i.file }) hand)
          i.file file seen x there refl refl item (slice_get seen.items item) name number params refl is;
      constants = λ e. value-alike (setting_of seen x) (meaning.setting_of (file_of files file.tree seen x) (suc k)) (own-alike files file.tree seen (i.file == 0) x whole.names (proper i.file file there.stands) k m at) e
          ∙ ap (λ s. value s e) (sym (setting-same (file_of files file.tree seen x) (project.changed i.file) (suc k)));
      words = λ e read. value-word (setting_of seen x) (has-words files children project.children_are i.file file seen (i.file == 0) x.kinds there.stands there.beside whole.names) e read;
      texts = λ p. text-is files children xs i.file file seen x there p;
      near_texts = λ p. near-texts clock (objects_of files children xs) i.file (object_of files file.tree seen x) parts hub object_is (text_number (strings_of file.tree) p);
    }
