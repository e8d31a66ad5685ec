-- A method's own names are longs of its frame, and none is a name of its file.
use Rattle.std.proofs.Common.{◌≡◌, ℕ, suc, ◌+◌, Bool, true, false, if◌then◌else◌, List, [], ◌∷◌, ◌++◌, length, slice_get, Option, Some, None, sym, ap, subst, ◌∙◌, arith}
use Rattle.std.specs.Map.{lookup}
use Rattle.std.specs.Str.{bytes_eq}
use Rattle.std.proofs.lemmas.Option.{slice_get_within}
use Rattle.p8_tree.specs.Proper.{IsProperMethod}
use Rattle.p8_tree.specs.Sources.{Declared, MethodTree, Source}
use Rattle.p8_fold.specs.Meanings.{Setting}
use Rattle.p8_constants.specs.FileItems.{items}
use Rattle.p8_constants.specs.Rules.{count_in}
use Rattle.p8_kinds.specs.declared.children.Children.{Children}
use Rattle.p8_kinds.specs.declared.kinds.Kinds.{Kinds}
use Rattle.p8_kinds.specs.declared.name_kinds.NameKind.{NameKind}
use Rattle.p8_kinds.specs.Kinds.{own}
use Rattle.p8_names.specs.Kinds.{numbered, own_kind, method_setting, param_kinds, result_kind, local_kinds}
use Rattle.p8_names.specs.Resolution.{IsNamed}
use Rattle.p8_names.specs.Own.{IsLocal}
use Rattle.p8_names.proofs.Counts.{count-is}
use Rattle.p8_names.proofs.Distinct.{own-apart, own-name}

-- nothing, or a long of the frame
abbrev pub IsOwn : Option NameKind → Type 0
IsOwn None = Unit {0}
IsOwn (Some k) = IsLocal k

own-where : (b : Bool) (x y : Option NameKind) → IsOwn x → IsOwn y → IsOwn (if b then x else y)
own-where true x y p q = p
own-where false x y p q = q

own-locals : (s : Setting) (longs : ℕ) (xs : List Declared) (n : List ℕ) → IsOwn (lookup (bytes_eq n) (local_kinds s longs xs))
own-locals s longs [] n = tt
own-locals s longs (x ∷ xs) n = own-where (bytes_eq n x.name) (Some _) (lookup (bytes_eq n) (local_kinds s (longs + count_in s x.count) xs)) tt (own-locals s (longs + count_in s x.count) xs n)

own-result : (o : Option (List ℕ)) (rest : List (List ℕ × NameKind)) (n : List ℕ) → IsOwn (lookup (bytes_eq n) rest) → IsOwn (lookup (bytes_eq n) (result_kind o ++ rest))
own-result None rest n p = p
own-result (Some m) rest n p = own-where (bytes_eq n m) (Some _) (lookup (bytes_eq n) rest) tt p

own-params : (longs : ℕ) (ns : List (List ℕ)) (rest : List (List ℕ × NameKind)) (n : List ℕ) → IsOwn (lookup (bytes_eq n) rest) → IsOwn (lookup (bytes_eq n) (param_kinds longs ns ++ rest))
own-params longs [] rest n p = p
own-params longs (m ∷ ns) rest n p = own-where (bytes_eq n m) (Some _) (lookup (bytes_eq n) (param_kinds (longs + 1) ns ++ rest)) tt (own-params (longs + 1) ns rest n p)

pub own-of : (s : Setting) (m : Option MethodTree) (n : List ℕ) → IsOwn (own_kind s m n)
own-of s None n = tt
own-of s (Some m) n =
    let t = method_setting s m in
    own-params 1 m.params (result_kind m.result_name ++ local_kinds t (length m.params + 1) m.locals) n
    (own-result m.result_name (local_kinds t (length m.params + 1) m.locals) n (own-locals t (length m.params + 1) m.locals n))

module _ (source : Source) (seen : Children) (top : Bool) (found : Kinds) (named : IsNamed source seen top found) (k : ℕ) (m : MethodTree) (at : slice_get (numbered (items source)) k ≡ Some m) (proper : IsProperMethod m) where
  own-so : (n : List ℕ) → own found (suc k) n ≡ own_kind named.setting (Some m) n
  own-so n =
      let within = slice_get_within (numbered (items source)) k m at in
      named.each (suc k) n (omega (arith, within, count-is (items source))) ∙ ap (λ o. own_kind named.setting o n) at

  -- so no own name is one of the file
  pub apart : (n : List ℕ) (kind : NameKind) → own found (suc k) n ≡ Some kind → own found 0 n ≡ None
  apart n kind is =
      named.each 0 n (omega arith) ∙ own-apart source seen top found named k m at n (own-name named.setting m n kind proper (sym (own-so n) ∙ is))

  -- and each is a long of the frame
  pub local : (n : List ℕ) (kind : NameKind) → own found (suc k) n ≡ Some kind → IsLocal kind
  local n kind is = subst IsOwn (sym (own-so n) ∙ is) (own-of named.setting (Some m) n)
