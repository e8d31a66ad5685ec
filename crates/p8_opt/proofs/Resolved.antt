-- A file whose names are resolved has what is asked of its constants and of its names.
use Rattle.std.proofs.Common.{◌≡◌, ℕ, Bool, true, false, if◌then◌else◌, List, Option, Some, None, option_map, refl, ap}
use Rattle.std.specs.Str.{bytes_eq}
use Rattle.p8_tree.specs.declared.places.Place.{Place}
use Rattle.p8_tree.specs.Names.{result_word}
use Rattle.p8_fold.specs.declared.meanings.Meaning.{Meaning}
use Rattle.p8_fold.specs.declared.meanings.Meaning.TheVariants as meaning_case
use Rattle.p8_fold.specs.Meanings.{Setting, meaning_of}
use Rattle.p8_kinds.specs.declared.children.Children.{Children}
use Rattle.p8_kinds.specs.declared.kinds.Kinds.{Kinds}
use Rattle.p8_kinds.specs.declared.name_kinds.Label.{Label}
use Rattle.p8_kinds.specs.declared.name_kinds.NameKind.{NameKind}
use Rattle.p8_kinds.specs.declared.name_kinds.NameKind.TheVariants as kinds
use Rattle.p8_kinds.specs.FileSettings.{meaning_of_kind}
use Rattle.p8_kinds.specs.Kinds.{own, or_else}
use Rattle.p8_gen.specs.Files.{names_in}
use Rattle.p8_meaning.specs.Constants.{constants_in, value_meant, value_behind}
use Rattle.p8_names.specs.Words as resolved
use Rattle.p8_names.specs.Words.{HasWords}
use Rattle.p8_opt.specs.Asked.{AreWords, HideNoConstant}
use Rattle.p8_opt.proofs.Words.{IsWord}

-- ---- values

meant-word : (m : Option Meaning) → resolved.IsWord m → IsWord (value_meant m)
meant-word None h = tt
meant-word (Some (meaning_case.Value v)) h = h
meant-word (Some (meaning_case.Label cog offset)) h = tt
meant-word (Some meaning_case.Object) h = tt
meant-word (Some meaning_case.Other) h = tt

behind-word : (m constant : Option Meaning) → resolved.IsWord constant → IsWord (value_behind m constant)
behind-word None constant h = tt
behind-word (Some (meaning_case.Value v)) constant h = tt
behind-word (Some (meaning_case.Label cog offset)) constant h = tt
behind-word (Some meaning_case.Object) constant h = meant-word constant h
behind-word (Some meaning_case.Other) constant h = tt

where-word : (t : Bool) (m : Option Meaning) → resolved.IsWord m → resolved.IsWord (if t then Some meaning_case.Other else m)
where-word true m h = tt
where-word false m h = h

pub are-words : (s : Setting) → HasWords s → AreWords (constants_in s)
are-words s h = record {
  named = λ name. meant-word (meaning_of s name) (where-word (bytes_eq name result_word) (s.name name) (h.names name));
  behind = λ object name. behind-word (meaning_of s object) (s.constant object name) (h.constants object name);
}

-- ---- names

kind-of-constant : (b : Option NameKind) (v : ℕ) → value_meant (option_map meaning_of_kind b) ≡ Some v → b ≡ Some (kinds.Const v)
kind-of-constant None v is = absurd (cc)
kind-of-constant (Some (kinds.Const u)) v is = let same : u ≡ v = cc in ap (λ k. Some (kinds.Const k)) same
kind-of-constant (Some (kinds.Global size offset)) v is = absurd (cc)
kind-of-constant (Some (kinds.Local offset)) v is = absurd (cc)
kind-of-constant (Some (kinds.Label size)) v is = absurd (cc)
kind-of-constant (Some (kinds.Method number params)) v is = absurd (cc)
kind-of-constant (Some (kinds.Object item position count)) v is = absurd (cc)

unhidden : (a b : Option NameKind) (v : ℕ) → ((kind : NameKind) → a ≡ Some kind → b ≡ None) → b ≡ Some (kinds.Const v) → or_else a b ≡ Some (kinds.Const v)
unhidden None b v apart is = is
unhidden (Some kind) b v apart is = absurd (let none = apart kind refl in cc)

constant-here : (t : Bool) (a b : Option NameKind) (v : ℕ) → ((kind : NameKind) → a ≡ Some kind → b ≡ None) → value_meant (if t then Some meaning_case.Other else option_map meaning_of_kind b) ≡ Some v
    → (if t then Some (kinds.Local 0) else or_else a b) ≡ Some (kinds.Const v)
constant-here true a b v apart is = absurd (cc)
constant-here false a b v apart is = unhidden a b v apart (kind-of-constant b v is)

pub hide-none : (found : Kinds) (seen : Children) (labels : List Label) (number : ℕ) (place : Place) → ((name : List ℕ) (kind : NameKind) → own found number name ≡ Some kind → own found 0 name ≡ None) → HideNoConstant (names_in found seen labels number place)
hide-none found seen labels number place apart = record {
  named = λ name v is. constant-here (bytes_eq name result_word) (own found number name) (own found 0 name) v (apart name) is;
}
