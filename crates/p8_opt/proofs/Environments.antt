-- The names of a method mean in its code what they meant when they were resolved, so none is used against its kind.
use Rattle.std.proofs.Common.{◌≡◌, inr, ℕ, suc, ◌+◌, Bool, true, false, if◌then◌else◌, List, slice_get, Option, Some, None, refl, sym, ap, ◌∙◌, arith}
use Rattle.std.specs.Prelude.{option_map, is_some}
use Rattle.std.specs.Str.{bytes_eq}
use Rattle.p8_names.specs.Resolution.{IsNamed}
use Rattle.p8_tree.specs.Names.{result_word}
use Rattle.p8_tree.specs.Sources.{MethodTree}
use Rattle.p8_tree.specs.Projects.{NamedSource}
use Rattle.p8_tree.specs.Proper.{IsProperFile}
use Rattle.p8_tree.specs.declared.faults.Fault.{Fault}
use Rattle.p8_fold.specs.declared.meanings.Meaning.{Meaning}
use Rattle.p8_fold.specs.declared.meanings.Meaning.TheVariants as meaning_case
use Rattle.p8_fold.specs.Meanings.{Setting, meaning_of, value_of_meaning, address_of_meaning, given}
use Rattle.p8_fold.specs.Values.{constant_of}
use Rattle.p8_constants.specs.FileItems.{items}
use Rattle.p8_constants.specs.Names.{spelled, own_names}
use Rattle.p8_kinds.specs.declared.children.Children.{Children}
use Rattle.p8_kinds.specs.declared.name_kinds.NameKind.{NameKind}
use Rattle.p8_kinds.specs.declared.name_kinds.NameKind.TheVariants as kind
use Rattle.p8_kinds.specs.Environments.{Environment, kind_in}
use Rattle.p8_kinds.specs.FileSettings.{meaning_of_kind}
use Rattle.p8_kinds.specs.Kinds.{own, or_else, kind_of}
use Rattle.p8_kinds.specs.Misuses.{MisuseInStatements}
use Rattle.p8_names.specs.Settings.{is_one_of}
use Rattle.p8_names.specs.Kinds.{numbered, own_kind, kind_in_method, method_setting}
use Rattle.p8_names.specs.Faults.{in_method, IsMethodFault, of_name, of_method}
use Rattle.p8_build.specs.Files.{CompiledFile, setting_of}
use Rattle.p8_build.proofs.Methods.{in_methods}
use Rattle.p8_compiled.specs.Agreeing.{environment}
use Rattle.p8_opt.specs.Agreements.{names_of}
use Rattle.p8_opt.proofs.Alike.{Alike}
use Rattle.p8_opt.proofs.NamedSettings.{kind-is, named-alike, behind-same}
use Rattle.p8_opt.proofs.OwnKinds.{object-of-file}
use Rattle.p8_opt.proofs.OwnSettings.{own-so, number-so}
use Rattle.p8_names.proofs.Distinct.{own-apart}
use Rattle.p8_opt.proofs.Misused.{SaySame, in-statements}

twice : (r : Bool) (w a b : Option NameKind) → a ≡ b → (if r then w else a) ≡ (if r then w else if r then w else b)
twice true w a b is = refl
twice false w a b is = is

-- a hidden name
hidden : (f : Meaning → Option ℕ) → f meaning_case.Other ≡ None → (r h : Bool) (a b : Option Meaning) → (h ≡ true → given f b ≡ None) → given f (if r then Some meaning_case.Other else a) ≡ given f (if r then Some meaning_case.Other else b)
    → given f (if r then Some meaning_case.Other else if h then Some meaning_case.Other else a) ≡ given f (if r then Some meaning_case.Other else b)
hidden f other true h a b gone same = refl
hidden f other false true a b gone same = other ∙ sym (gone refl)
hidden f other false false a b gone same = same

module _ (files : List NamedSource) (file : NamedSource) (seen : Children) (top : Bool) (x : CompiledFile) (names_are : IsNamed file.tree seen top x.kinds) (proper : IsProperFile file.tree) (k : ℕ) (m : MethodTree) (at : slice_get (numbered (items file.tree)) k ≡ Some m) where
  abbrev s : Setting
  s = names_are.setting

  abbrev u : Setting
  u = method_setting s m

  abbrev t : Setting
  t = setting_of seen x

  abbrev d : Environment
  d = environment (names_of files file seen x k m)

  abbrev e : Environment
  e = in_method s (items file.tree) seen m

  none-there : (n : List ℕ) → is_one_of (spelled (own_names m)) n ≡ true → t.name n ≡ None
  none-there n is = ap (option_map meaning_of_kind) (kind-is file.tree seen top x.kinds names_are n ∙ own-apart file.tree seen top x.kinds names_are k m at n is)

  named : Alike s t
  named = named-alike file.tree seen top x.kinds names_are

  given-same : (f : Meaning → Option ℕ) → f meaning_case.Other ≡ None → (n : List ℕ) → given f (meaning_of s n) ≡ given f (meaning_of t n) → given f (meaning_of u n) ≡ given f (meaning_of t n)
  given-same f other n same = hidden f other (bytes_eq n result_word) (is_one_of (spelled (own_names m)) n) (s.name n) (t.name n) (λ is. ap (given f) (none-there n is)) same

  through : (o n : List ℕ) (z : Option Meaning) → constant_of u z o n ≡ constant_of s z o n
  through o n None = refl
  through o n (Some (meaning_case.Value v)) = refl
  through o n (Some (meaning_case.Label cog offset)) = refl
  through o n (Some meaning_case.Object) = refl
  through o n (Some meaning_case.Other) = refl

  constant-by : (o n : List ℕ) (r h : Bool) → (h ≡ true → t.name o ≡ None) → constant_of s (if r then Some meaning_case.Other else s.name o) o n ≡ constant_of t (if r then Some meaning_case.Other else t.name o) o n
      → constant_of u (if r then Some meaning_case.Other else if h then Some meaning_case.Other else s.name o) o n ≡ constant_of t (if r then Some meaning_case.Other else t.name o) o n
  constant-by o n true h gone same = refl
  constant-by o n false true gone same = sym (ap (λ z. constant_of t z o n) (gone refl))
  constant-by o n false false gone same = through o n (s.name o) ∙ same

  pub hiding-alike : Alike t u
  hiding-alike = record {
    names = λ n. sym (given-same value_of_meaning refl n (named.names n));
    addresses = λ n. sym (given-same address_of_meaning refl n (named.addresses n));
    constants = λ o n. sym (constant-by o n (bytes_eq o result_word) (is_one_of (spelled (own_names m)) o) (none-there o) (named.constants o n));
    here = sym named.here;
  }

  kinds-same : (n : List ℕ) → kind_in d n ≡ kind_in e n
  kinds-same n =
      let inner : kind_of x.kinds (k + 1) n ≡ kind_in_method s (items file.tree) m n =
      (let plus : k + 1 ≡ suc k = omega arith in ap (λ j. kind_of x.kinds j n) plus)
      ∙ ap (λ a. or_else a (own x.kinds 0 n)) (own-so files file.tree seen top x names_are proper k m at n)
      ∙ ap (or_else (own_kind s (Some m) n)) (kind-is file.tree seen top x.kinds names_are n) in
      sym (twice (bytes_eq n result_word) (Some (kind.Local 0)) (kind_in_method s (items file.tree) m n) (kind_of x.kinds (k + 1) n) (sym inner))

  unless-result : (r : Bool) (w a : Option NameKind) (q : NameKind) (P : Type 0) → (if r then w else if r then w else a) ≡ Some q → ((r ≡ true) → w ≡ Some q → P) → (r ≡ false → a ≡ Some q → P) → P
  unless-result true w a q P is first second = first refl is
  unless-result false w a q P is first second = second refl is

  object-same : (o n : List ℕ) (item position count : ℕ) → kind_in d o ≡ Some (kind.Object item position count) → is_some (t.constant o n) ≡ is_some (u.constant o n)
  object-same o n item position count is =
      unless-result (bytes_eq o result_word) (Some (kind.Local 0)) (kind_of x.kinds (k + 1) o) (kind.Object item position count) (is_some (t.constant o n) ≡ is_some (u.constant o n)) is
      (λ r never. absurd (cc))
      (λ r found.
      let plus : suc k ≡ k + 1 = omega arith in
      let whole = object-of-file file.tree seen top x.kinds names_are (suc k) o item position count (number-so files file.tree seen top x names_are proper k m at o ∙ ap (λ j. kind_of x.kinds j o) plus ∙ found) in
      ap is_some (sym (behind-same file.tree seen top x.kinds names_are o n (ap (λ b. if b then Some meaning_case.Other else t.name o) r ∙ ap (option_map meaning_of_kind) whole))))

  say-same : SaySame d e
  say-same = record { kinds = kinds-same; publics = λ item n. refl; values = hiding-alike; constants = object-same }

  -- none of the method's names is used against its kind
  pub no-misuse : (f : Fault) → MisuseInStatements d m.body f → ⊥
  no-misuse f b =
      let h = in-statements d e say-same m.body f b in
      names_are.clean h.0 (of_name s names_are.right (of_method (in_methods (IsMethodFault s (items file.tree) seen) (numbered (items file.tree)) k m h.0 at (inr h.1))))
