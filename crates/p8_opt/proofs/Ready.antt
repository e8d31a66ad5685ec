-- The methods of an accepted file can be coded when they are folded.
use Rattle.std.proofs.Common.{◌≡◌, ℕ, ◌+◌, ◌≤◌, suc, Bool, length, slice_get, Some, refl, ap, sym, ◌∙◌, arith}
use Rattle.p8_tree.specs.Projects.{NamedSource}
use Rattle.p8_tree.specs.Proper.{IsProperFile}
use Rattle.p8_tree.specs.Sources.{MethodTree}
use Rattle.p8_tree.specs.declared.faults.Fault.{Fault}
use Rattle.p8_constants.specs.FileItems.{items}
use Rattle.p8_kinds.specs.declared.children.Children.{Children}
use Rattle.p8_kinds.specs.Kinds.{own}
use Rattle.p8_names.specs.Kinds.{numbered}
use Rattle.p8_gen.specs.Methods.{method_code}
use Rattle.p8_gen.specs.Names.{Names, widened, all_wide, wide_in}
use Rattle.p8_stmt.specs.declared.code.MethodCode.{MethodCode}
use Rattle.p8_stmt.specs.Methods.{IsCodeOf, IsMethodFault}
use Rattle.p8_build.specs.Files.{CompiledFile, IsCompiled, setting_of, method_names, of_method}
use Rattle.p8_build.proofs.Methods.{proper_method}
use Rattle.p8_build.proofs.Ready.{resolved}
use Rattle.p8_meaning.specs.Constants.{Constants, constants_in}
use Rattle.p8_meaning.specs.Folding.{folded_body}
use Rattle.p8_opt.specs.Asked.{AreWords, HideNoConstant}
use Rattle.p8_names.proofs.Own.{apart}
use Rattle.p8_opt.proofs.Proper.{body-proper}
use Rattle.p8_opt.proofs.Misuse.{body-misused}
use Rattle.p8_opt.proofs.Resolved.{hide-none}
use Rattle.p8_opt.proofs.Methods.{method-short, method-faultless}
use Rattle.p8_stmt.specs.Jumps.{IsShortCode}
use Rattle.p8_stmt.proofs.Choices.{method-ends, method-measured}
use Rattle.p8_opt.specs.Steps.{CanBeFolded}

module _ (file : NamedSource) (seen : Children) (top : Bool) (x : CompiledFile) (is : IsCompiled file.tree seen top x) (proper : IsProperFile file.tree) (k : ℕ) (m : MethodTree) (at : slice_get (numbered (items file.tree)) k ≡ Some m) where
  abbrev n : Names
  n = method_names seen x k m

  abbrev c : Constants
  c = constants_in (setting_of seen x)

  pub hides-none : HideNoConstant (method_names seen x k m)
  hides-none =
      hide-none x.kinds seen x.labels (k + 1) m.place (λ name kind is_own.
      let next : k + 1 ≡ suc k = omega arith in
      apart file.tree seen top x.kinds is.names k m at (proper_method file.tree k m proper at) name kind (ap (λ j. own x.kinds j name) (sym next) ∙ is_own))

  -- it has no fault
  pub faultless : (f : Fault) → ¬ IsMethodFault (method_names seen x k m) m f
  faultless f b = is.code.clean f (of_method k m at b)

  pub foldable : AreWords (constants_in (setting_of seen x)) → CanBeFolded (method_names seen x k m) (constants_in (setting_of seen x)) m
  foldable words =
      let r = resolved file.tree seen top x.kinds is.names k m at x.labels proper in
      record {
        resolved = record {
          proper = body-proper c words m.body r.proper;
          bytes = r.bytes;
          environment = r.environment;
          kinds = r.kinds;
          clean = λ f b. r.clean f (body-misused r.environment f c m.body r.proper b);
        };
        accepted = method-faultless n refl hides-none m r.proper faultless;
      }

  -- its short code is no longer than its code
  pub no-longer : (short code : MethodCode) → IsShortCode (method_names seen x k m) m (folded_body (constants_in (setting_of seen x)) m.body) short → IsCodeOf (method_names seen x k m) m code → length short.bytes ≤ length code.bytes
  no-longer short code s is_code =
      let read = proper_method file.tree k m proper at in
      let body = folded_body c m.body in
      let one : length short.bytes ≡ (method_code (widened n (wide_in s.widths)) body).end = ap length s.code_is.bytes ∙ sym (method-measured n (wide_in s.widths) body) in
      let two : (method_code (widened n (wide_in s.widths)) body).end ≤ (method_code n body).end = method-ends (wide_in s.widths) all_wide (λ j wide. refl) n body in
      let three : (method_code n body).end ≤ (method_code n m.body).end = method-short n refl hides-none m.body read.body in
      let four : length code.bytes ≡ (method_code n m.body).end = ap length is_code.bytes ∙ sym (method-measured n all_wide m.body) in
      omega (arith, one, two, three, four)
