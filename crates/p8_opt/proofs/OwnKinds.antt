-- A method's own names are locals, so what else a name is in a method it is in the whole file.
use Rattle.std.proofs.Common.{◌≡◌, ℕ, zero, suc, ◌≤◌, Bool, true, false, nat_le, if◌then◌else◌, List, length, slice_get, Option, Some, None, refl, sym, subst, arith}
use Rattle.std.proofs.lemmas.Bool.Decides.{nat_tests}
use Rattle.p8_tree.specs.Sources.{Source}
use Rattle.p8_constants.specs.FileItems.{items}
use Rattle.p8_kinds.specs.declared.children.Children.{Children}
use Rattle.p8_kinds.specs.declared.kinds.Kinds.{Kinds}
use Rattle.p8_kinds.specs.declared.name_kinds.NameKind.{NameKind}
use Rattle.p8_kinds.specs.declared.name_kinds.NameKind.TheVariants as kind
use Rattle.p8_kinds.specs.Kinds.{own, or_else, kind_of}
use Rattle.p8_names.specs.Kinds.{methods, numbered}
use Rattle.p8_names.specs.Resolution.{IsNamed}
use Rattle.p8_opt.specs.Programs.{kind_by}
use Rattle.p8_names.proofs.Counts.{count-is}
use Rattle.p8_names.proofs.Own.{IsOwn, own-of}

-- in which kinds a name is looked for
abbrev pub number_by : Source → ℕ → ℕ
number_by source i = if nat_le i (length (numbered (items source))) then i else 0

at-most : (b : Bool) (m n : ℕ) → nat_le m n ≡ b → (if b then m else 0) ≤ n
at-most true m n is = grind (arith, nat_tests)
at-most false m n is = omega arith

pub number-within : (source : Source) (i : ℕ) → number_by source i ≤ length (methods (items source))
number-within source i =
    let within = at-most (nat_le i (length (numbered (items source)))) i (length (numbered (items source))) refl in
    omega (arith, within, count-is (items source))

-- a number that a i has
pub number-is : (source : Source) (i : ℕ) → i ≤ length (numbered (items source)) → number_by source i ≡ i
number-is source i within = chosen (nat_le i (length (numbered (items source)))) (grind (arith, nat_tests))
  where
    chosen : (b : Bool) → b ≡ true → (if b then i else 0) ≡ i
    chosen true is = refl
    chosen false is = absurd (cc)

module _ (source : Source) (children : Children) (top : Bool) (found : Kinds) (named : IsNamed source children top found) where
  own-at : (j : ℕ) (n : List ℕ) → j ≤ length (methods (items source)) → (j ≡ 0 → ⊥) → IsOwn (own found j n)
  own-at zero n within some = absurd (some refl)
  own-at (suc i) n within some = subst IsOwn (sym (named.each (suc i) n within)) (own-of named.setting (slice_get (numbered (items source)) i) n)

  second : (a b : Option NameKind) (item position count : ℕ) → IsOwn a → or_else a b ≡ Some (kind.Object item position count) → b ≡ Some (kind.Object item position count)
  second None b item position count p is = is
  second (Some (kind.Local offset)) b item position count p is = absurd (cc)
  second (Some (kind.Const v)) b item position count p is = absurd p
  second (Some (kind.Global size offset)) b item position count p is = absurd p
  second (Some (kind.Label size)) b item position count p is = absurd p
  second (Some (kind.Method number params)) b item position count p is = absurd p
  second (Some (kind.Object i q c)) b item position count p is = absurd p

  same-twice : (a : Option NameKind) (k : NameKind) → or_else a a ≡ Some k → a ≡ Some k
  same-twice None k is = is
  same-twice (Some x) k is = is

  by-number : (j : ℕ) (n : List ℕ) (item position count : ℕ) → j ≤ length (methods (items source)) → kind_of found j n ≡ Some (kind.Object item position count) → own found 0 n ≡ Some (kind.Object item position count)
  by-number zero n item position count within is = same-twice (own found 0 n) (kind.Object item position count) is
  by-number (suc i) n item position count within is = second (own found (suc i) n) (own found 0 n) item position count (own-at (suc i) n within (λ e. absurd (omega (arith, e)))) is

  -- an object in a method is one of the whole file
  pub object-of-file : (i : ℕ) (n : List ℕ) (item position count : ℕ) → kind_by found source i n ≡ Some (kind.Object item position count) → own found 0 n ≡ Some (kind.Object item position count)
  object-of-file i n item position count is = by-number (number_by source i) n item position count (number-within source i) is
