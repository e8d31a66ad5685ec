-- In each method of a file whose names are resolved its constants are those of the whole file.
use Rattle.std.proofs.Common.{◌≡◌, ℕ, zero, suc, ◌+◌, ◌<◌, ◌≤◌, nat_le, Bool, true, false, if◌then◌else◌, List, [], ◌∷◌, length, slice_get, Option, Some, None, option_map, refl, sym, ap, subst, ◌∙◌, arith}
use Rattle.std.proofs.lemmas.Bool.Decides.{nat_tests}
use Rattle.std.specs.Option.{option_or}
use Rattle.std.specs.Str.{bytes_eq}
use Rattle.p8_tree.specs.Names.{result_word}
use Rattle.p8_tree.specs.Sources.{MethodTree, Source}
use Rattle.p8_fold.specs.declared.meanings.Meaning.{Meaning}
use Rattle.p8_fold.specs.declared.meanings.Meaning.TheVariants as meaning_case
use Rattle.p8_constants.specs.FileItems.{items}
use Rattle.p8_kinds.specs.declared.children.Child.{Child}
use Rattle.p8_kinds.specs.declared.children.ChildConst.{ChildConst}
use Rattle.p8_kinds.specs.declared.children.Children.{Children}
use Rattle.p8_kinds.specs.declared.kinds.Kinds.{Kinds}
use Rattle.p8_kinds.specs.declared.name_kinds.NameKind.{NameKind}
use Rattle.p8_kinds.specs.declared.name_kinds.NameKind.TheVariants as kinds
use Rattle.p8_kinds.specs.FileSettings.{meaning_of_kind, constant_among, constant_in, constant_behind, file_setting}
use Rattle.p8_kinds.specs.Kinds.{own, or_else, kind_of}
use Rattle.p8_names.specs.Kinds.{numbered}
use Rattle.p8_meaning.specs.Programs as meaning
use Rattle.p8_meaning.specs.Programs.{File, constant_named, object_constant}
use Rattle.p8_names.specs.Own.{IsLocal}
use Rattle.p8_meaning.specs.Constants.{constants_in, value_meant, value_behind}
use Rattle.p8_meaning.specs.Projects.{constants_of}

-- ---- constants behind an object's name

one-behind : (t : Bool) (v : ℕ) (o : Option ℕ) (m : Option Meaning) → option_map meaning_case.Value o ≡ m → option_map meaning_case.Value (if t then Some v else o) ≡ option_or (if t then Some (meaning_case.Value v) else None) m
one-behind true v o m is = refl
one-behind false v o m is = is

named-among : (cs : List ChildConst) (name : List ℕ) → option_map meaning_case.Value (constant_named name cs) ≡ constant_among cs name
named-among [] name = refl
named-among (c ∷ cs) name = one-behind (bytes_eq name c.name) c.value (constant_named name cs) (constant_among cs name) (named-among cs name)

child-behind : (child : Option Child) (name : List ℕ) → option_map meaning_case.Value (constant_named name (meaning.constants_of child)) ≡ constant_in child name
child-behind None name = refl
child-behind (Some child) name = named-among child.consts name

behind-kind : (f : File) (seen : Children) → f.children ≡ seen.items → (kind : Option NameKind) (name : List ℕ) → option_map meaning_case.Value (object_constant f kind name) ≡ constant_behind seen kind name
behind-kind f seen is None name = refl
behind-kind f seen is (Some (kinds.Object item position count)) name =
    ap (λ cs. option_map meaning_case.Value (constant_named name (meaning.constants_of (slice_get cs item)))) is ∙ child-behind (slice_get seen.items item) name
behind-kind f seen is (Some (kinds.Const v)) name = refl
behind-kind f seen is (Some (kinds.Global size offset)) name = refl
behind-kind f seen is (Some (kinds.Local offset)) name = refl
behind-kind f seen is (Some (kinds.Label size)) name = refl
behind-kind f seen is (Some (kinds.Method number params)) name = refl

-- ---- kinds

-- what a name is in a method is what it is in the file, or a long of the frame, and nothing in the file
data IsLike (here whole : Option NameKind) : Type 0 where
  is_same : here ≡ whole → IsLike here whole
  is_own : (offset : ℕ) → here ≡ Some (kinds.Local offset) → whole ≡ None → IsLike here whole

twice : (a : Option NameKind) → or_else a a ≡ a
twice None = refl
twice (Some k) = refl

-- a kind that is a local's is
own-like : (k : NameKind) (b : Option NameKind) → IsLocal k → b ≡ None → IsLike (Some k) b
own-like (kinds.Local offset) b local none = is_own offset refl none
own-like (kinds.Const v) b local none = absurd local
own-like (kinds.Global size offset) b local none = absurd local
own-like (kinds.Label size) b local none = absurd local
own-like (kinds.Method number params) b local none = absurd local
own-like (kinds.Object item position count) b local none = absurd local

or-like : (a b : Option NameKind) → ((k : NameKind) → a ≡ Some k → (b ≡ None) × IsLocal k) → IsLike (or_else a b) b
or-like None b apart = is_same refl
or-like (Some k) b apart = let h = apart k refl in own-like k b h.1 h.0

meant : (word : Bool) → Option NameKind → Option Meaning
meant word kind = if word then Some meaning_case.Other else option_map meaning_of_kind kind

named-like : (word : Bool) (here whole : Option NameKind) → IsLike here whole → value_meant (meant word here) ≡ value_meant (meant word whole)
unfolding meant
named-like word here whole (is_same is) = ap (λ k. value_meant (meant word k)) is
named-like true here whole (is_own offset is none) = refl
named-like false here whole (is_own offset is none) = ap (λ k. value_meant (option_map meaning_of_kind k)) is ∙ sym (ap (λ k. value_meant (option_map meaning_of_kind k)) none)

local-behind : (word : Bool) (offset : ℕ) (m : Option Meaning) → value_behind (meant word (Some (kinds.Local offset))) m ≡ None
unfolding meant
local-behind true offset m = refl
local-behind false offset m = refl

none-behind : (word : Bool) (m : Option Meaning) → value_behind (meant word None) m ≡ None
unfolding meant
none-behind true m = refl
none-behind false m = refl

behind-like : (f : File) (seen : Children) → f.children ≡ seen.items → (word : Bool) (here whole : Option NameKind) (name : List ℕ) → IsLike here whole
    → value_behind (meant word here) (option_map meaning_case.Value (object_constant f here name)) ≡ value_behind (meant word whole) (constant_behind seen whole name)
behind-like f seen children_are word here whole name (is_same is) =
    ap (λ k. value_behind (meant word k) (option_map meaning_case.Value (object_constant f k name))) is ∙ ap (value_behind (meant word whole)) (behind-kind f seen children_are whole name)
behind-like f seen children_are word here whole name (is_own offset is none) =
    ap (λ k. value_behind (meant word k) (option_map meaning_case.Value (object_constant f k name))) is ∙ local-behind word offset _
    ∙ sym (ap (λ k. value_behind (meant word k) (constant_behind seen k name)) none ∙ none-behind word _)

-- ---- methods

there-at : (ms : List MethodTree) (k : ℕ) → k < length ms → (m : MethodTree) × (slice_get ms k ≡ Some m)
there-at [] k low = absurd (omega (arith, low))
there-at (m ∷ ms) zero low = (m, refl)
there-at (m ∷ ms) (suc k) low = there-at ms k (omega (arith, low))

module _ (source : Source) (seen : Children) (found : Kinds) (f : File) (children_are : f.children ≡ seen.items)
    (apart : (k : ℕ) (m : MethodTree) → slice_get (numbered (items source)) k ≡ Some m → (name : List ℕ) (kind : NameKind) → own found (k + 1) name ≡ Some kind → (own found 0 name ≡ None) × IsLocal kind)
    (kinds_are : (method : ℕ) (name : List ℕ) → f.kind method name ≡ kind_of found (if nat_le method (length (numbered (items source))) then method else 0) name) where
  number-like : (j : ℕ) → j ≤ length (numbered (items source)) → (name : List ℕ) → IsLike (kind_of found j name) (own found 0 name)
  number-like zero low name = is_same (twice (own found 0 name))
  number-like (suc k) low name =
      let m = there-at (numbered (items source)) k (omega (arith, low)) in
      let next : k + 1 ≡ suc k = omega arith in
      or-like (own found (suc k) name) (own found 0 name) (λ kind is. apart k m.0 m.1 name kind (ap (λ j. own found j name) next ∙ is))

  within : (t : Bool) (method : ℕ) → nat_le method (length (numbered (items source))) ≡ t → (if t then method else 0) ≤ length (numbered (items source))
  within true method is = grind (arith, nat_tests)
  within false method is = omega arith

  kind-like : (method : ℕ) (name : List ℕ) → IsLike (f.kind method name) (own found 0 name)
  kind-like method name =
      subst (λ k. IsLike k (own found 0 name)) (sym (kinds_are method name))
      (number-like (if nat_le method (length (numbered (items source))) then method else 0) (within (nat_le method (length (numbered (items source)))) method refl) name)

  pub constants-same : (method : ℕ) → constants_of f method ≡ constants_in (file_setting found seen)
  unfolding meant
  constants-same method = λ i. record {
    named = λ name. named-like (bytes_eq name result_word) (f.kind method name) (own found 0 name) (kind-like method name) i;
    behind = λ object name. behind-like f seen children_are (bytes_eq object result_word) (f.kind method object) (own found 0 object) name (kind-like method object) i;
  }
