-- The code of a file by its tables.
use Rattle.std.proofs.Common.{◌≡◌, inl, inr, ℕ, ◌+◌, Bool, true, false, List, Option, ap, sym, ◌∙◌, subst}
use Rattle.p8_tree.specs.Proper.{IsProperFile}
use Rattle.p8_tree.specs.Sources.{MethodTree, Source}
use Rattle.p8_tree.specs.declared.faults.Fault.{Fault}
use Rattle.p8_tree.specs.Faults.{IsFirstFault}
use Rattle.p8_fold.specs.ConstantEntries.{setting_of as setting_in}
use Rattle.p8_fold.specs.Meanings.{Setting}
use Rattle.p8_constants.specs.FileItems.{items}
use Rattle.p8_kinds.specs.declared.children.Children.{Children}
use Rattle.p8_kinds.specs.Kinds.{own}
use Rattle.p8_kinds.specs.Publics.{public_of}
use Rattle.p8_names.specs.Kinds.{numbered, objects, instances}
use Rattle.p8_names.specs.Resolution.{IsNamed}
use Rattle.p8_gen.specs.declared.coder.Tables.{Tables}
use Rattle.p8_gen.specs.Files.{first_offset}
use Rattle.p8_gen.specs.Labels.{offset_in}
use Rattle.p8_gen.specs.Names.{Names}
use Rattle.p8_gen.proofs.Tabled.{names_same}
use Rattle.p8_stmt.specs.Methods.{AreResolved, IsCodeOf, IsMethodFault}
use Rattle.p8_build.specs.declared.sizes.Size.{Size}
use Rattle.p8_build.specs.Files.{CompiledFile, setting_of, method_names, are_too_many, IsCodeFault, of_method, too_many, IsCode, names_with}
use Rattle.p8_build.specs.Measuring.{IfSizeAt}
use Rattle.p8_build.specs.Coding as coding
use Rattle.p8_build.specs.Coding.{AreReady, of_one, IsFaultOfCode, AreAllCodes}
use Rattle.p8_build.proofs.Ready.{resolved}
use Rattle.p8_build.proofs.Sized.{size_along}

module _ (source : Source) (children : Children) (x : CompiledFile) (tables : Tables)
    (publics : (item : ℕ) (name : List ℕ) → own tables.publics item name ≡ public_of children item name)
    (consts : setting_in tables.consts ≡ setting_of children x)
    (offsets : (name : List ℕ) → offset_in tables.labels name ≡ first_offset x.labels name) where
  pub same_names : (k : ℕ) (m : MethodTree) → names_with x.kinds tables k m ≡ method_names children x k m
  same_names k m = names_same x.kinds (k + 1) tables m.place children x.labels publics consts offsets

  -- its methods can be coded
  pub ready_by : (top : Bool) (ms : List MethodTree) → IsNamed source children top x.kinds → IsProperFile source → ms ≡ numbered (items source) → AreReady (names_with x.kinds tables) ms
  ready_by top ms named proper is = subst (AreReady (names_with x.kinds tables)) (sym is) (record {
    each = λ k m at. subst (λ (names : Names). AreResolved names m.body) (sym (same_names k m)) (resolved source children top x.kinds named k m at x.labels proper);
  })

  count_is : (n : ℕ) → n ≡ instances (setting_in tables.consts) (objects (items source)) → n ≡ instances (setting_of children x) (objects (items source))
  count_is n is = is ∙ ap (λ (s : Setting). instances s (objects (items source))) consts

  to_code_fault : (n : ℕ) (f : Fault) → n ≡ instances (setting_in tables.consts) (objects (items source)) → IsFaultOfCode (names_with x.kinds tables) n (numbered (items source)) f → IsCodeFault source children x f
  to_code_fault n f is (inl (of_one k m at b)) = of_method k m at (subst (λ names. IsMethodFault names m f) (same_names k m) b)
  to_code_fault n f is (inr (coding.too_many k m at a b e)) =
      too_many k m at (record { too_many = subst (λ (t : ℕ). are_too_many t (k + 1) ≡ true) (count_is n is) a; first = subst (λ (t : ℕ). are_too_many t k ≡ false) (count_is n is) b }) e

  from_code_fault : (n : ℕ) (f : Fault) → n ≡ instances (setting_in tables.consts) (objects (items source)) → IsCodeFault source children x f → IsFaultOfCode (names_with x.kinds tables) n (numbered (items source)) f
  from_code_fault n f is (of_method k m at b) = inl (of_one k m at (subst (λ names. IsMethodFault names m f) (sym (same_names k m)) b))
  from_code_fault n f is (too_many k m at b e) =
      inr (coding.too_many k m at (subst (λ (t : ℕ). are_too_many t (k + 1) ≡ true) (sym (count_is n is)) b.too_many) (subst (λ (t : ℕ). are_too_many t k ≡ false) (sym (count_is n is)) b.first) e)

  -- its first fault
  pub code_refused : (n : ℕ) (ms : List MethodTree) (f : Fault) → n ≡ instances (setting_in tables.consts) (objects (items source)) → ms ≡ numbered (items source) → IsFirstFault (IsFaultOfCode (names_with x.kinds tables) n ms) f → IsFirstFault (IsCodeFault source children x) f
  code_refused n ms f is whole h =
      let here : IsFirstFault (IsFaultOfCode (names_with x.kinds tables) n (numbered (items source))) f = subst (λ (xs : List MethodTree). IsFirstFault (IsFaultOfCode (names_with x.kinds tables) n xs) f) whole h in
      record { holds = to_code_fault n f is here.holds; first = λ g b. here.first g (from_code_fault n g is b) }

  pub code_size_told : (ms : List MethodTree) (f : Fault) (size : Option Size) → ms ≡ numbered (items source) → IfSizeAt (names_with x.kinds tables) ms f size → IfSizeAt (method_names children x) (numbered (items source)) f size
  code_size_told ms f size whole told = size_along (names_with x.kinds tables) (method_names children x) ms (numbered (items source)) f size (λ k m at. same_names k m) whole told

  -- its codes
  pub code_is : (n : ℕ) (ms : List MethodTree) → n ≡ instances (setting_in tables.consts) (objects (items source)) → ms ≡ numbered (items source) → AreAllCodes (names_with x.kinds tables) n ms x.codes → IsCode source children x
  code_is n ms is whole h =
      let here : AreAllCodes (names_with x.kinds tables) n (numbered (items source)) x.codes = subst (λ (xs : List MethodTree). AreAllCodes (names_with x.kinds tables) n xs x.codes) whole h in
      record {
        clean = λ f b. here.clean f (from_code_fault n f is b);
        count = here.count;
        each = λ k m code at there. subst (λ names. IsCodeOf names m code) (same_names k m) (here.are.each k m code at there);
      }
