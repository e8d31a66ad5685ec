-- The constants of an accepted file are words.
use Rattle.std.proofs.Common.{◌≡◌, ℕ, ◌^◌, ◌<◌, Bool, true, false, nat_lt, if◌then◌else◌, List, [], ◌∷◌, ◌++◌, Option, Some, None, refl, sym, ◌∙◌, subst, arith}
use Rattle.std.specs.Prelude.{IsSome}
use Rattle.std.specs.Option.{option_or}
use Rattle.std.specs.Map.{lookup}
use Rattle.std.specs.Str.{bytes_eq}
use Rattle.std.proofs.lemmas.Bool.Decides.{nat_tests}
use Rattle.std.proofs.lemmas.Option.{same_Some, none-some}
use Rattle.p8_tree.specs.Names.{result_word}
use Rattle.p8_tree.specs.Sources.{Source}
use Rattle.p8_fold.specs.declared.meanings.Meaning.{Meaning}
use Rattle.p8_fold.specs.declared.meanings.Meaning.TheVariants as meaning_case
use Rattle.p8_fold.specs.Meanings.{Setting, value_of_meaning, given}
use Rattle.p8_constants.specs.Items as con
use Rattle.p8_constants.specs.Items.{Sum}
use Rattle.p8_constants.specs.Constants.{counted, scope_of, IsConstant, Scope, Has, has}
use Rattle.p8_constants.specs.FileItems.{Item, constant, variable, object, method, line, items}
use Rattle.p8_constants.specs.Names.{predefined, truth_and_limits, internal_clocks, external_clocks, low_factors, high_factors}
use Rattle.p8_kinds.specs.declared.children.Child.{Child}
use Rattle.p8_kinds.specs.declared.children.ChildConst.{ChildConst}
use Rattle.p8_kinds.specs.declared.name_kinds.NameKind.{NameKind}
use Rattle.p8_kinds.specs.declared.name_kinds.NameKind.TheVariants as kind
use Rattle.p8_kinds.specs.FileSettings.{constant_among}
use Rattle.p8_constants.specs.Names.{name_of}
use Rattle.p8_names.specs.Settings.{has_name, IsSetting, definition, outside, meaning_outside, predefined_value, is_one_of}
use Rattle.p8_names.specs.Kinds.{item_kind, kind_among, kind_or, file_kind, value_in}
use Rattle.p8_names.specs.Children.{named_constant, constants_from, behind}
use Rattle.p8_names.specs.Words.{IsWord}

-- ---- the constants of the language

abbrev are_small : List (List ℕ × ℕ) → Bool
are_small [] = true
are_small (x ∷ xs) = if nat_lt x.1 (2 ^ 32) then are_small xs else false

small-all : are_small predefined ≡ true
unfolding predefined truth_and_limits internal_clocks external_clocks low_factors high_factors
small-all = refl

small-at : (b c : Bool) (n v w : ℕ) (rest : Option ℕ) (more : Bool) → nat_lt w (2 ^ 32) ≡ c → (if c then more else false) ≡ true → (if b then Some w else rest) ≡ Some v → (more ≡ true → rest ≡ Some v → v < 2 ^ 32) → v < 2 ^ 32
small-at b false n v w rest more is all found others = absurd (cc)
small-at true true n v w rest more is all found others =
    let low : w < 2 ^ 32 = grind (arith, nat_tests) in
    let same : w ≡ v = same_Some w v found in
    omega (arith, low, same)
small-at false true n v w rest more is all found others = others all found

small-found : (xs : List (List ℕ × ℕ)) (n : List ℕ) (v : ℕ) → are_small xs ≡ true → lookup (bytes_eq n) xs ≡ Some v → v < 2 ^ 32
small-found [] n v all is = absurd (none-some v is)
small-found (x ∷ xs) n v all is = small-at (bytes_eq n x.0) (nat_lt x.1 (2 ^ 32)) 0 v x.1 (lookup (bytes_eq n) xs) (are_small xs) refl all is (λ more found. small-found xs n v more found)

predefined-word : (n : List ℕ) (v : ℕ) → predefined_value n ≡ Some v → v < 2 ^ 32
predefined-word n v is = small-found predefined n v small-all is

-- ---- what a right setting gives

has-word : (c : Scope) (n : List ℕ) (v : ℕ) → Has c n v → v < 2 ^ 32
has-word c n _ (has found adds) = omega arith

module _ (file : Source) (children : List Child) (s : Setting) (right : IsSetting file children s) where
  counted-outside : (n : List ℕ) (p : Option ℕ) (d : Option Item) (m : Meaning) → predefined_value n ≡ p → meaning_outside p d ≡ Some m → counted (value_of_meaning m) < 2 ^ 32
  counted-outside n (Some v) d m is found = let small = predefined-word n v is in subst (λ (k : Meaning). counted (value_of_meaning k) < 2 ^ 32) (same_Some (meaning_case.Value v) m found) small
  counted-outside n None None m is found = absurd (none-some m found)
  counted-outside n None (Some (constant x)) m is found = absurd (none-some m found)
  counted-outside n None (Some (variable x)) m is found = subst (λ (k : Meaning). counted (value_of_meaning k) < 2 ^ 32) (same_Some meaning_case.Other m found) (omega arith)
  counted-outside n None (Some (object x)) m is found = subst (λ (k : Meaning). counted (value_of_meaning k) < 2 ^ 32) (same_Some meaning_case.Object m found) (omega arith)
  counted-outside n None (Some (method x)) m is found = subst (λ (k : Meaning). counted (value_of_meaning k) < 2 ^ 32) (same_Some meaning_case.Other m found) (omega arith)
  counted-outside n None (Some (line x)) m is found = subst (λ (k : Meaning). counted (value_of_meaning k) < 2 ^ 32) (same_Some meaning_case.Other m found) (omega arith)

  counted-by : (n : List ℕ) (o : Option Meaning) (d : Option Sum) → (outside file children).name n ≡ o → con.definition (con.definitions file) n ≡ d → counted (given value_of_meaning (s.name n)) < 2 ^ 32
  counted-by n (Some m) d is defined =
      let told : s.name n ≡ Some m = right.others n (subst IsSome (sym is) refl) ∙ is in
      subst (λ (k : Option Meaning). counted (given value_of_meaning k) < 2 ^ 32) (sym told) (counted-outside n (predefined_value n) (definition (items file) n) m refl is)
  counted-by n None None is defined = subst (λ (k : Option Meaning). counted (given value_of_meaning k) < 2 ^ 32) (sym (right.nothing n is defined)) (omega arith)
  counted-by n None (Some sum) is defined =
      let so : IsConstant (scope_of (outside file children) file) n = (is, subst IsSome (sym defined) refl) in
      let h = right.constants n so in
      subst (λ (k : Option Meaning). counted (given value_of_meaning k) < 2 ^ 32) (sym h.1) (has-word (scope_of (outside file children) file) n h.0 h.2)

  where-word : (b : Bool) (o : Option Meaning) → counted (given value_of_meaning o) < 2 ^ 32 → counted (given value_of_meaning (if b then Some meaning_case.Other else o)) < 2 ^ 32
  where-word true o small = omega arith
  where-word false o small = small

  pub value-small : (name : Option (List ℕ)) → value_in s name < 2 ^ 32
  value-small None = omega arith
  value-small (Some n) = where-word (bytes_eq n result_word) (s.name n) (counted-by n ((outside file children).name n) (con.definition (con.definitions file) n) refl refl)

-- ---- kinds

abbrev pub IsConstWord : Option NameKind → Type 0
IsConstWord (Some (kind.Const v)) = v < 2 ^ 32
IsConstWord k = Unit {0}

const-where : (b : Bool) (x y : Option NameKind) → IsConstWord x → IsConstWord y → IsConstWord (if b then x else y)
const-where true x y p q = p
const-where false x y p q = q

module _ (file : Source) (children : List Child) (s : Setting) (right : IsSetting file children s) where
  const-item : (all before : List Item) (x : Item) (rest : List Item) → IsConstWord (Some (item_kind s all before x rest))
  const-item all before (constant x) rest = value-small file children s right x.name
  const-item all before (variable x) rest = tt
  const-item all before (object x) rest = tt
  const-item all before (method x) rest = tt
  const-item all before (line x) rest = tt

  const-among : (all before xs : List Item) (n : List ℕ) → IsConstWord (kind_among s all before xs n)
  const-among all before [] n = tt
  const-among all before (x ∷ xs) n = const-where (has_name (name_of x) n) (Some (item_kind s all before x xs)) (kind_among s all (before ++ x ∷ []) xs n) (const-item all before x xs) (const-among all (before ++ x ∷ []) xs n)

  const-or : (n : List ℕ) (p : Option ℕ) (k : Option NameKind) → predefined_value n ≡ p → IsConstWord k → IsConstWord (kind_or p k)
  const-or n None k is word = word
  const-or n (Some v) k is word = predefined-word n v is

  -- a constant of a file is a word
  pub const-word : (xs : List Item) (n : List ℕ) → IsConstWord (file_kind s xs n)
  const-word xs n = const-or n (predefined_value n) (kind_among s xs [] xs n) refl (const-among xs [] xs n)

  -- and so is one that is seen of it
  pub seen-words : (before : List (List ℕ)) (xs : List Item) (n : List ℕ) → IsWord (constant_among (constants_from s before xs) n)
  seen-words before [] n = tt
  seen-words before (constant x ∷ xs) n = of-name before x.name (constants_from s (behind before (constant x)) xs) n (seen-words (behind before (constant x)) xs n)
    where
      word-where : (b : Bool) (v : ℕ) (rest : Option Meaning) → v < 2 ^ 32 → IsWord rest → IsWord (option_or (if b then Some (meaning_case.Value v) else None) rest)
      word-where true v rest small word = small
      word-where false v rest small word = word

      unless-before : (c : Bool) (m n : List ℕ) (rest : List ChildConst) → IsWord (constant_among rest n) → IsWord (constant_among ((if c then [] else record { name = m; value = value_in s (Some m) } ∷ []) ++ rest) n)
      unless-before true m n rest word = word
      unless-before false m n rest word = word-where (bytes_eq n m) (value_in s (Some m)) (constant_among rest n) (value-small file children s right (Some m)) word

      of-name : (before : List (List ℕ)) (name : Option (List ℕ)) (rest : List ChildConst) (n : List ℕ) → IsWord (constant_among rest n) → IsWord (constant_among (named_constant s before name ++ rest) n)
      of-name before None rest n word = word
      of-name before (Some m) rest n word = unless-before (is_one_of before m) m n rest word
  seen-words before (variable x ∷ xs) n = seen-words (behind before (variable x)) xs n
  seen-words before (object x ∷ xs) n = seen-words (behind before (object x)) xs n
  seen-words before (method x ∷ xs) n = seen-words (behind before (method x)) xs n
  seen-words before (line x ∷ xs) n = seen-words (behind before (line x)) xs n
