-- What the files of a project are compiled to is what they are recoded to with their own bodies, where all jumps are wide.
use Rattle.std.proofs.Common.{◌≡◌, ℕ, ◌==◌, Bool, List, slice_get, Some, refl, sym, ◌∙◌, subst}
use Rattle.std.proofs.lemmas.Option.{same_Some}
use Rattle.p8_tree.specs.Projects.{NamedSource}
use Rattle.p8_tree.specs.Proper.{IsProperFile}
use Rattle.p8_tree.specs.Sources.{MethodTree}
use Rattle.p8_constants.specs.FileItems.{items}
use Rattle.p8_kinds.specs.declared.children.Children.{Children}
use Rattle.p8_names.specs.Kinds.{numbered}
use Rattle.p8_gen.specs.Names.{all_wide}
use Rattle.p8_stmt.specs.declared.code.MethodCode.{MethodCode}
use Rattle.p8_stmt.specs.Methods.{rebodied}
use Rattle.p8_build.specs.Parts.{AreProper}
use Rattle.p8_build.specs.Files.{CompiledFile, IsCompiled, method_names, of_method}
use Rattle.p8_build.specs.Builds.{AreCompiled}
use Rattle.p8_build.proofs.Methods.{proper_method}
use Rattle.p8_opt.specs.Programs.{own_sources}
use Rattle.p8_opt.specs.Recoding.{IsRecoded, IsRecodedFile, AreRecoded}
use Rattle.p8_opt.proofs.Counting.{instances-few, few-methods}
use Rattle.p8_opt.proofs.Environments.{no-misuse}
use Rattle.p8_opt.proofs.Files.{own-source}

module _ (files : List NamedSource) (file : NamedSource) (seen : Children) (top : Bool) (x : CompiledFile) (proper : IsProperFile file.tree) (is : IsCompiled file.tree seen top x) where
  own-code : (k : ℕ) (m : MethodTree) (code : MethodCode) → slice_get (numbered (items file.tree)) k ≡ Some m → slice_get x.codes k ≡ Some code → IsRecoded (method_names seen x k m) m m.body code
  own-code k m code at coded =
      let read = proper_method file.tree k m proper at in
      record {
        proper = read.body;
        loops = read.loops;
        shallow = read.shallow;
        clean = no-misuse files file seen top x is.names proper k m at;
        wide = all_wide;
        right = is.code.each k m code at coded;
        fits = λ f b. is.code.clean f (of_method k m at b);
      }

  own-file : IsRecodedFile file.tree file.tree seen top x
  own-file = record {
    names = is.names;
    dat = is.dat;
    code = record {
      few = few-methods file.tree seen x is.code (instances-few file.tree seen top x is.names);
      methods = refl;
      count = is.code.count;
      each = λ k m n code at there coded.
          subst (λ (z : MethodTree). (z ≡ rebodied m z.body) × IsRecoded (method_names seen x k m) m z.body code) (same_Some m n (sym at ∙ there)) (refl, own-code k m code at coded);
    };
  }

pub own-recoded : (files : List NamedSource) (children : List Children) (xs : List CompiledFile) → AreProper files → AreCompiled files children xs → AreRecoded files (own_sources files) children xs
own-recoded files children xs proper are = record {
  count = are.count;
  each = λ i file seen x is at.
      subst (λ source. IsRecodedFile file.tree source seen (i == 0) x) (sym (own-source files i file is.stands))
      (own-file files file seen (i == 0) x (proper i file is.stands) (are.each i file seen x is at));
}
