-- What names mean where a constant is needed in a method.
use Rattle.std.proofs.Common.{◌≡◌, ℕ, suc, Bool, true, false, if◌then◌else◌, List, slice_get, Option, Some, None, refl, sym, ap, ◌∙◌, subst, arith}
use Rattle.std.specs.Prelude.{option_map}
use Rattle.std.specs.Str.{bytes_eq}
use Rattle.std.proofs.lemmas.Option.{slice_get_within}
use Rattle.p8_names.specs.Resolution.{IsNamed}
use Rattle.p8_tree.specs.Names.{result_word}
use Rattle.p8_tree.specs.Sources.{MethodTree, Source}
use Rattle.p8_tree.specs.Projects.{NamedSource}
use Rattle.p8_tree.specs.Proper.{IsProperFile}
use Rattle.p8_fold.specs.declared.meanings.Meaning.{Meaning}
use Rattle.p8_fold.specs.declared.meanings.Meaning.TheVariants as meaning_case
use Rattle.p8_fold.specs.Meanings.{Setting, meaning_of, value_of_meaning, address_of_meaning, given}
use Rattle.p8_fold.specs.Values.{constant_of}
use Rattle.p8_constants.specs.FileItems.{items}
use Rattle.p8_kinds.specs.declared.children.Children.{Children}
use Rattle.p8_kinds.specs.declared.name_kinds.NameKind.{NameKind}
use Rattle.p8_kinds.specs.declared.name_kinds.NameKind.TheVariants as kind
use Rattle.p8_kinds.specs.Kinds.{own, or_else, kind_of}
use Rattle.p8_kinds.specs.FileSettings.{meaning_of_kind, constant_behind}
use Rattle.p8_names.specs.Kinds.{numbered, own_kind}
use Rattle.p8_meaning.specs.Programs as meaning
use Rattle.p8_build.specs.Files.{CompiledFile, setting_of}
use Rattle.p8_build.proofs.Methods.{proper_method}
use Rattle.p8_opt.specs.Programs.{kind_by, file_of}
use Rattle.p8_opt.proofs.Alike.{Alike}
use Rattle.p8_opt.proofs.NamedSettings.{kind-is, object-kind}
use Rattle.p8_names.proofs.Counts.{count-is}
use Rattle.p8_names.proofs.Own.{IsOwn, own-of}
use Rattle.p8_opt.proofs.OwnKinds.{number-is, object-of-file}
use Rattle.p8_opt.proofs.Frames.{behind-object}
use Rattle.p8_names.proofs.Distinct.{own-apart, own-name}

-- a name is no own one, or it is a local and none of the file
abbrev IsApart : (a b : Option NameKind) → Type 0
IsApart None b = Unit {0}
IsApart (Some k) b = (b ≡ None) × IsOwn (Some k)

module _ (w : Option Meaning) where
  given-same : (f : Meaning → Option ℕ) → f meaning_case.Other ≡ None → (r : Bool) (a b : Option NameKind) → IsApart a b
      → given f (if r then w else option_map meaning_of_kind b) ≡ given f (if r then w else option_map meaning_of_kind (or_else a b))
  given-same f other true a b apart = refl
  given-same f other false None b apart = refl
  given-same f other false (Some (kind.Local offset)) b apart = ap (λ o. given f (option_map meaning_of_kind o)) apart.0 ∙ sym other
  given-same f other false (Some (kind.Const v)) b apart = absurd apart.1
  given-same f other false (Some (kind.Global size offset)) b apart = absurd apart.1
  given-same f other false (Some (kind.Label size)) b apart = absurd apart.1
  given-same f other false (Some (kind.Method number params)) b apart = absurd apart.1
  given-same f other false (Some (kind.Object item position count)) b apart = absurd apart.1

module _ (files : List NamedSource) (source : Source) (seen : Children) (top : Bool) (x : CompiledFile) (names_are : IsNamed source seen top x.kinds) (proper : IsProperFile source) (k : ℕ) (m : MethodTree) (at : slice_get (numbered (items source)) k ≡ Some m) where
  abbrev s : Setting
  s = setting_of seen x

  abbrev t : Setting
  t = meaning.setting_of (file_of files source seen x) (suc k)

  pub number-so : (n : List ℕ) → kind_by x.kinds source (suc k) n ≡ or_else (own x.kinds (suc k) n) (own x.kinds 0 n)
  number-so n = let within = slice_get_within (numbered (items source)) k m at in ap (λ j. kind_of x.kinds j n) (number-is source (suc k) (omega (arith, within)))

  pub own-so : (n : List ℕ) → own x.kinds (suc k) n ≡ own_kind names_are.setting (Some m) n
  own-so n =
      let within = slice_get_within (numbered (items source)) k m at in
      names_are.each (suc k) n (omega (arith, within, count-is (items source))) ∙ ap (λ o. own_kind names_are.setting o n) at

  apart-by : (n : List ℕ) (a : Option NameKind) → own_kind names_are.setting (Some m) n ≡ a → IsApart a (own x.kinds 0 n)
  apart-by n None is = tt
  apart-by n (Some l) is =
      let one = own-name names_are.setting m n l (proper_method source k m proper at) is in
      (kind-is source seen top x.kinds names_are n ∙ own-apart source seen top x.kinds names_are k m at n one, subst IsOwn is (own-of names_are.setting (Some m) n))

  pub apart : (n : List ℕ) → IsApart (own x.kinds (suc k) n) (own x.kinds 0 n)
  apart n = subst (λ a. IsApart a (own x.kinds 0 n)) (sym (own-so n)) (apart-by n (own_kind names_are.setting (Some m) n) refl)

  same-given : (f : Meaning → Option ℕ) → f meaning_case.Other ≡ None → (n : List ℕ) → given f (meaning_of s n) ≡ given f (meaning_of t n)
  same-given f other n =
      given-same (Some meaning_case.Other) f other (bytes_eq n result_word) (own x.kinds (suc k) n) (own x.kinds 0 n) (apart n)
      ∙ ap (λ o. given f (if bytes_eq n result_word then Some meaning_case.Other else option_map meaning_of_kind o)) (sym (number-so n))

  -- what stands after a name
  behind-same : (r : Bool) (a b : Option NameKind) (o n : List ℕ) → IsApart a b
      → constant_of s (if r then Some meaning_case.Other else option_map meaning_of_kind b) o n ≡ constant_of s (if r then Some meaning_case.Other else option_map meaning_of_kind (or_else a b)) o n
  behind-same true a b o n apart = refl
  behind-same false None b o n apart = refl
  behind-same false (Some (kind.Local offset)) b o n apart = ap (λ q. constant_of s (option_map meaning_of_kind q) o n) apart.0
  behind-same false (Some (kind.Const v)) b o n apart = absurd apart.1
  behind-same false (Some (kind.Global size offset)) b o n apart = absurd apart.1
  behind-same false (Some (kind.Label size)) b o n apart = absurd apart.1
  behind-same false (Some (kind.Method number params)) b o n apart = absurd apart.1
  behind-same false (Some (kind.Object item position count)) b o n apart = absurd apart.1

  behind-object-same : (o n : List ℕ) → meaning_of t o ≡ Some meaning_case.Object → s.constant o n ≡ t.constant o n
  behind-object-same o n is =
      let q = object-kind (bytes_eq o result_word) (kind_by x.kinds source (suc k) o) is in
      let whole : own x.kinds 0 o ≡ Some (kind.Object q.0 q.1 q.2) = object-of-file source seen top x.kinds names_are (suc k) o q.0 q.1 q.2 q.3 in
      ap (λ z. constant_behind seen z n) (whole ∙ sym q.3) ∙ behind-object files source seen x (kind_by x.kinds source (suc k) o) n

  constant-same : (o n : List ℕ) (z : Option Meaning) → meaning_of t o ≡ z → constant_of s z o n ≡ constant_of t z o n
  constant-same o n None is = refl
  constant-same o n (Some (meaning_case.Value v)) is = refl
  constant-same o n (Some (meaning_case.Label cog offset)) is = refl
  constant-same o n (Some meaning_case.Object) is = ap (given value_of_meaning) (behind-object-same o n is)
  constant-same o n (Some meaning_case.Other) is = refl

  -- the file and the method give each expression the same value
  pub own-alike : Alike s t
  own-alike = record {
    names = λ n. same-given value_of_meaning refl n;
    addresses = λ n. same-given address_of_meaning refl n;
    constants = λ o n.
        behind-same (bytes_eq o result_word) (own x.kinds (suc k) o) (own x.kinds 0 o) o n (apart o)
        ∙ ap (λ z. constant_of s (if bytes_eq o result_word then Some meaning_case.Other else option_map meaning_of_kind z) o n) (sym (number-so o))
        ∙ constant-same o n (meaning_of t o) refl;
    here = refl;
  }
