-- What the names of a file mean where a constant is needed, as they were resolved and by their kinds.
use Rattle.std.proofs.Common.{◌≡◌, ℕ, Bool, true, false, if◌then◌else◌, List, [], ◌∷◌, Option, Some, None, refl, sym, ap, ◌∙◌, subst, arith}
use Rattle.std.specs.Prelude.{IsSome, option_map, slice_get}
use Rattle.std.specs.Str.{bytes_eq}
use Rattle.std.proofs.lemmas.Option.{same_Some, none-some}
use Rattle.p8_tree.specs.Names.{result_word}
use Rattle.p8_tree.specs.Sources.{Source}
use Rattle.p8_fold.specs.declared.meanings.Meaning.{Meaning}
use Rattle.p8_fold.specs.declared.meanings.Meaning.TheVariants as meaning_case
use Rattle.p8_fold.specs.Meanings.{Setting, meaning_of, value_of_meaning, address_of_meaning, given}
use Rattle.p8_fold.specs.Values.{constant_of}
use Rattle.p8_constants.specs.Items as con
use Rattle.p8_constants.specs.Items.{Sum}
use Rattle.p8_constants.specs.Constants.{counted, scope_of, IsConstant}
use Rattle.p8_constants.specs.FileItems.{Item, constant, variable, object, method, line, items}
use Rattle.p8_constants.specs.Names.{name_of}
use Rattle.p8_kinds.specs.declared.children.Children.{Children}
use Rattle.p8_kinds.specs.declared.kinds.Kinds.{Kinds}
use Rattle.p8_kinds.specs.declared.name_kinds.NameKind.{NameKind}
use Rattle.p8_kinds.specs.declared.name_kinds.NameKind.TheVariants as kind
use Rattle.p8_kinds.specs.Kinds.{own}
use Rattle.p8_kinds.specs.FileSettings.{meaning_of_kind, file_setting}
use Rattle.p8_kinds.specs.FileSettings as settings
use Rattle.p8_names.specs.Settings.{has_name, definition, predefined_value, meaning_outside, outside}
use Rattle.p8_names.specs.Kinds.{file_kind, kind_among, kind_or, value_in}
use Rattle.p8_names.specs.Resolution.{IsNamed}
use Rattle.p8_opt.proofs.Alike.{Alike}
use Rattle.p8_opt.proofs.Definitions.{item_meaning, kind-meaning, none-defined, some-defined, behind-is}
use Rattle.p8_names.proofs.Counts.{same-bytes}

-- the item found has the name
has-it : (b : Bool) (x z : Item) (more : Option Item) (P : Item → Type 0) → (b ≡ true → P x) → (more ≡ Some z → P z) → (if b then Some x else more) ≡ Some z → P z
has-it true x z more P here others is = subst P (same_Some x z is) (here refl)
has-it false x z more P here others is = others is

pub named-so : (xs : List Item) (n : List ℕ) (z : Item) → definition xs n ≡ Some z → has_name (name_of z) n ≡ true
named-so [] n z is = absurd (none-some z is)
named-so (x ∷ xs) n z is = has-it (has_name (name_of x) n) x z (definition xs n) (λ y. has_name (name_of y) n ≡ true) (λ e. e) (named-so xs n z) is

if-same : (b : Bool) (z x y : Option Meaning) → (b ≡ false → x ≡ y) → (if b then z else x) ≡ (if b then z else y)
if-same true z x y h = refl
if-same false z x y h = h refl

-- a name whose meaning is an object is one by its kind
pub object-kind : (b : Bool) (k : Option NameKind) → (if b then Some meaning_case.Other else option_map meaning_of_kind k) ≡ Some meaning_case.Object → (item : ℕ) × (position : ℕ) × (count : ℕ) × (k ≡ Some (kind.Object item position count))
object-kind true k is = absurd (cc)
object-kind false None is = absurd (cc)
object-kind false (Some (kind.Const v)) is = absurd (cc)
object-kind false (Some (kind.Global size offset)) is = absurd (cc)
object-kind false (Some (kind.Local offset)) is = absurd (cc)
object-kind false (Some (kind.Label size)) is = absurd (cc)
object-kind false (Some (kind.Method number params)) is = absurd (cc)
object-kind false (Some (kind.Object item position count)) is = (item, position, count, refl)

pub among-object : (p : Option ℕ) (k : Option NameKind) (item position count : ℕ) → kind_or p k ≡ Some (kind.Object item position count) → k ≡ Some (kind.Object item position count)
among-object None k item position count is = is
among-object (Some v) k item position count is = absurd (cc)

module _ (source : Source) (children : Children) (top : Bool) (found : Kinds) (named : IsNamed source children top found) where
  abbrev s : Setting
  s = named.setting

  abbrev t : Setting
  t = file_setting found children

  abbrev xs : List Item
  xs = items source

  pub kind-is : (n : List ℕ) → own found 0 n ≡ file_kind s xs n
  kind-is n = named.each 0 n (omega arith)

  -- the value of a constant that is named so
  constant-value : (name : Option (List ℕ)) (n : List ℕ) (v : ℕ) → has_name name n ≡ true → bytes_eq n result_word ≡ false → s.name n ≡ Some (meaning_case.Value v) → value_in s name ≡ v
  constant-value None n v has word is = absurd (let never : false ≡ true = has in cc)
  constant-value (Some m) n v has word is =
      let same : n ≡ m = same-bytes n m has in
      let other : bytes_eq m result_word ≡ false = ap (λ k. bytes_eq k result_word) (sym same) ∙ word in
      ap (λ b. counted (given value_of_meaning (if b then Some meaning_case.Other else s.name m))) other
      ∙ ap (λ k. counted (given value_of_meaning (s.name k))) (sym same) ∙ ap (λ m. counted (given value_of_meaning m)) is

  of-constant : (n : List ℕ) (x : Item) (name : Option (List ℕ)) (c : Option Sum) → bytes_eq n result_word ≡ false → (outside source children.items).name n ≡ None
      → has_name name n ≡ true → con.definition (con.definitions source) n ≡ c → (c ≡ None → ⊥) → s.name n ≡ Some (meaning_case.Value (value_in s name))
  of-constant n x name None word out has is never = absurd (never refl)
  of-constant n x name (Some sum) word out has is never =
      let so : IsConstant (scope_of (outside source children.items) source) n = (out, subst IsSome (sym is) refl) in
      let h = named.right.constants n so in
      h.1 ∙ ap (λ v. Some (meaning_case.Value v)) (sym (constant-value name n h.0 has word h.1))

  outside-is : (n : List ℕ) (p : Option ℕ) (d : Option Item) → predefined_value n ≡ p → definition xs n ≡ d → (outside source children.items).name n ≡ meaning_outside p d
  outside-is n p d is found = ap (λ q. meaning_outside q (definition xs n)) is ∙ ap (meaning_outside p) found

  told : (n : List ℕ) (m : Meaning) → (outside source children.items).name n ≡ Some m → s.name n ≡ Some m
  told n m is = named.right.others n (subst IsSome (sym is) refl) ∙ is

  by-item : (n : List ℕ) (d : Option Item) → bytes_eq n result_word ≡ false → predefined_value n ≡ None → definition xs n ≡ d → s.name n ≡ option_map (item_meaning s) d
  by-item n None word none is = named.right.nothing n (outside-is n None None none is) (none-defined 0 source n is)
  by-item n (Some (constant x)) word none is =
      of-constant n (constant x) x.name (con.definition (con.definitions source) n) word (outside-is n None (Some (constant x)) none is)
      (named-so xs n (constant x) is) refl (some-defined 0 source n x is)
  by-item n (Some (variable x)) word none is = told n meaning_case.Other (outside-is n None (Some (variable x)) none is)
  by-item n (Some (object x)) word none is = told n meaning_case.Object (outside-is n None (Some (object x)) none is)
  by-item n (Some (method x)) word none is = told n meaning_case.Other (outside-is n None (Some (method x)) none is)
  by-item n (Some (line x)) word none is = told n meaning_case.Other (outside-is n None (Some (line x)) none is)

  by-value : (n : List ℕ) (p : Option ℕ) → bytes_eq n result_word ≡ false → predefined_value n ≡ p → s.name n ≡ option_map meaning_of_kind (kind_or p (kind_among s xs [] xs n))
  by-value n (Some v) word is = told n (meaning_case.Value v) (outside-is n (Some v) (definition xs n) is refl)
  by-value n None word is = by-item n (definition xs n) word is refl ∙ sym (kind-meaning s xs [] xs n)

  pub name-is : (n : List ℕ) → bytes_eq n result_word ≡ false → s.name n ≡ t.name n
  name-is n word = by-value n (predefined_value n) word refl ∙ ap (option_map meaning_of_kind) (sym (kind-is n))

  meaning-is : (n : List ℕ) → meaning_of s n ≡ meaning_of t n
  meaning-is n = if-same (bytes_eq n result_word) (Some meaning_case.Other) (s.name n) (t.name n) (name-is n)

  pub behind-same : (o n : List ℕ) → meaning_of t o ≡ Some meaning_case.Object → s.constant o n ≡ t.constant o n
  behind-same o n is =
      let k = object-kind (bytes_eq o result_word) (own found 0 o) is in
      let among : kind_among s xs [] xs o ≡ Some (kind.Object k.0 k.1 k.2) = among-object (predefined_value o) (kind_among s xs [] xs o) k.0 k.1 k.2 (sym (kind-is o) ∙ k.3) in
      named.right.behind o n
      ∙ sym (behind-is s xs children.items o n k.0 k.1 k.2 [] xs children.items (λ j. ap (slice_get children.items) (omega arith)) among)
      ∙ ap (λ z. settings.constant_behind children z n) (sym k.3)

  constant-same : (o n : List ℕ) (m : Option Meaning) → meaning_of t o ≡ m → constant_of s m o n ≡ constant_of t m o n
  constant-same o n None is = refl
  constant-same o n (Some (meaning_case.Value v)) is = refl
  constant-same o n (Some (meaning_case.Label cog offset)) is = refl
  constant-same o n (Some meaning_case.Object) is = ap (given value_of_meaning) (behind-same o n is)
  constant-same o n (Some meaning_case.Other) is = refl

  -- both give each expression the same value
  pub named-alike : Alike s t
  named-alike = record {
    names = λ n. ap (given value_of_meaning) (meaning-is n);
    addresses = λ n. ap (given address_of_meaning) (meaning-is n);
    constants = λ o n. ap (λ m. constant_of s m o n) (meaning-is o) ∙ constant-same o n (meaning_of t o) refl;
    here = named.right.here;
  }
