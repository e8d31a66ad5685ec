-- What names of a file mean, where a constant is needed, are words.
use Rattle.std.proofs.Common.{◌≡◌, ℕ, zero, suc, Bool, List, [], ◌∷◌, slice_get, Option, Some, None, refl, sym, subst, arith}
use Rattle.std.specs.Prelude.{option_map}
use Rattle.std.proofs.lemmas.Option.{same_Some, none-some}
use Rattle.p8_tree.specs.Sources as trees
use Rattle.p8_tree.specs.Projects.{NamedSource}
use Rattle.p8_constants.specs.FileItems.{items}
use Rattle.p8_constants.specs.Names.{predefined_names}
use Rattle.p8_kinds.specs.declared.children.Child.{Child}
use Rattle.p8_kinds.specs.declared.children.Children.{Children}
use Rattle.p8_kinds.specs.declared.kinds.Kinds.{Kinds}
use Rattle.p8_kinds.specs.declared.name_kinds.NameKind.{NameKind}
use Rattle.p8_kinds.specs.declared.name_kinds.NameKind.TheVariants as kind
use Rattle.p8_kinds.specs.Kinds.{own}
use Rattle.p8_kinds.specs.FileSettings.{meaning_of_kind, constant_in, constant_behind, constant_among, file_setting}
use Rattle.p8_names.specs.Resolution.{IsNamed}
use Rattle.p8_names.specs.Children.{IsSeen, AreSeen, AreChildren}
use Rattle.p8_names.specs.Mentions.{mentions}
use Rattle.p8_names.specs.Words.{IsWord, HasWords}
use Rattle.p8_names.proofs.Words.{IsConstWord, const-word, seen-words}

-- what is seen of the file of each item
pub seen-at : (files : List NamedSource) (all : List Children) (xs : List trees.Child) (cs : List Child) → AreSeen files all xs cs → (j : ℕ) (c : Child) → slice_get cs j ≡ Some c
    → (x : trees.Child) × (slice_get xs j ≡ Some x) × IsSeen files all x.file c
seen-at files all [] [] seen j c is = absurd (none-some c is)
seen-at files all [] (d ∷ cs) seen j c is = absurd seen
seen-at files all (x ∷ xs) [] seen j c is = absurd seen
seen-at files all (x ∷ xs) (d ∷ cs) seen zero c is = (x, refl, subst (IsSeen files all x.file) (same_Some d c is) seen.0)
seen-at files all (x ∷ xs) (d ∷ cs) seen (suc j) c is = seen-at files all xs cs seen.1 j c is

kind-word : (o : Option NameKind) → IsConstWord o → IsWord (option_map meaning_of_kind o)
kind-word None word = tt
kind-word (Some (kind.Const v)) word = word
kind-word (Some (kind.Global size offset)) word = tt
kind-word (Some (kind.Local offset)) word = tt
kind-word (Some (kind.Label size)) word = tt
kind-word (Some (kind.Method number params)) word = tt
kind-word (Some (kind.Object item position count)) word = tt

module _ (files : List NamedSource) (all : List Children) (children : AreChildren files all) (i : ℕ) (file : NamedSource) (seen : Children) (top : Bool) (found : Kinds) (stands : slice_get files i ≡ Some file) (beside : slice_get all i ≡ Some seen)
    (names_are : IsNamed file.tree seen top found) where
  of-child : (item : ℕ) (c : Option Child) (n : List ℕ) → slice_get seen.items item ≡ c → IsWord (constant_in c n)
  of-child item None n is = tt
  of-child item (Some c) n is =
      let h = (seen-at files all (mentions file.tree) seen.items (children.each i file seen stands beside) item c is).2 in
      subst (λ cs. IsWord (constant_among cs n)) (sym h.is.constants) (seen-words h.file.tree h.children.items h.is.setting h.is.right predefined_names (items h.file.tree) n)

  of-kind : (k : Option NameKind) (n : List ℕ) → IsWord (constant_behind seen k n)
  of-kind None n = tt
  of-kind (Some (kind.Const v)) n = tt
  of-kind (Some (kind.Global size offset)) n = tt
  of-kind (Some (kind.Local offset)) n = tt
  of-kind (Some (kind.Label size)) n = tt
  of-kind (Some (kind.Method number params)) n = tt
  of-kind (Some (kind.Object item position count)) n = of-child item (slice_get seen.items item) n refl

  pub file-const : (n : List ℕ) → IsConstWord (own found 0 n)
  file-const n =
      let named = names_are in
      subst IsConstWord (sym (named.each 0 n (omega arith))) (const-word file.tree seen.items named.setting named.right (items file.tree) n)

  pub has-words : HasWords (file_setting found seen)
  has-words = record { names = λ n. kind-word (own found 0 n) (file-const n); constants = λ o n. of-kind (own found 0 o) n; here = refl }
