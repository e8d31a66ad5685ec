-- The kinds of a method's own names, entered one after the other.
use Rattle.std.proofs.Common.{◌≡◌, ℕ, ◌+◌, ◌*◌, ◌<◌, List, [], ◌∷◌, ◌++◌, length, map, drop, get_or, Option, Some, None, refl, ap, sym, ◌∙◌, arith}
use Rattle.std.proofs.lemmas.List.{drop_more}
use Rattle.std.specs.Prelude.{min}
use Rattle.std.specs.Map.{lookup}
use Rattle.std.specs.Str.{bytes_eq}
use Rattle.p8_tree.specs.declared.sources.VarItem.{VarItem}
use Rattle.p8_tree.specs.Views.{declared_of}
use Rattle.p8_fold.specs.Meanings.{Setting}
use Rattle.p8_constants.specs.Rules.{count_in}
use Rattle.p8_kinds.specs.declared.kinds.Kinds.{Kinds}
use Rattle.p8_kinds.specs.declared.name_kinds.NameKind.{NameKind}
use Rattle.p8_kinds.specs.declared.name_kinds.NameKind.TheVariants as kind
use Rattle.p8_kinds.specs.Kinds.{own, or_else}
use Rattle.p8_names.specs.Kinds.{greatest_offset, param_kinds, local_kinds}
use Rattle.p8_names.specs.Counting.{IsEnteredAt, AreEnteredAt}
use Rattle.p8_names.proofs.Entering.{item_by, or_none}
use Rattle.p8_names.proofs.Advancing.{stopped}
use Rattle.p8_names.proofs.Objects.{first_of, lookup-append}

-- what all give is what the table gives, or else what is left gives
abbrev pub Gives : Kinds → ℕ → (List ℕ → Option NameKind) → List (List ℕ × NameKind) → Type 0
Gives now number whole rest = (n : List ℕ) → whole n ≡ or_else (own now number n) (lookup (bytes_eq n) rest)

abbrev pub whole_of : Kinds → ℕ → List (List ℕ × NameKind) → List ℕ → Option NameKind
whole_of initial number list n = or_else (own initial number n) (lookup (bytes_eq n) list)

pub own_next : (old new : Kinds) (number : ℕ) (name : List ℕ) (k : NameKind) (whole : List ℕ → Option NameKind) (list rest : List (List ℕ × NameKind)) → list ≡ (name, k) ∷ rest → Gives old number whole list → IsEnteredAt old new number name k → Gives new number whole rest
own_next old new number name k whole list rest e was put n =
    was n ∙ ap (λ l. or_else (own old number n) (lookup (bytes_eq n) l)) e
    ∙ item_by (own old number n) (bytes_eq n name) k (lookup (bytes_eq n) rest)
    ∙ ap (λ o. or_else o (lookup (bytes_eq n) rest)) (sym (put.here n))

pub own_last : (initial now : Kinds) (number : ℕ) (list rest : List (List ℕ × NameKind)) → rest ≡ [] → Gives now number (whole_of initial number list) rest → ((m : ℕ) (n : List ℕ) → ¬ (m ≡ number) → own now m n ≡ own initial m n) → AreEnteredAt initial now number list
own_last initial now number list rest e was others = record {
  here = λ n. or_none (own now number n) ∙ sym (was n ∙ ap (λ l. or_else (own now number n) (lookup (bytes_eq n) l)) e);
  others = others;
}

pub others_more : (initial old new : Kinds) (number : ℕ) (name : List ℕ) (k : NameKind) → ((m : ℕ) (n : List ℕ) → ¬ (m ≡ number) → own old m n ≡ own initial m n) → IsEnteredAt old new number name k → (m : ℕ) (n : List ℕ) → ¬ (m ≡ number) → own new m n ≡ own initial m n
others_more initial old new number name k was put m n ne = put.others m n ne ∙ was m n ne

pub params_rest : (ns : List (List ℕ)) (i : ℕ) (x : List ℕ) (offset : ℕ) → i < length ns → x ≡ get_or ns i x → offset ≡ min (4 * (i + 1)) greatest_offset → param_kinds (i + 1) (drop i ns) ≡ (x, kind.Local offset) ∷ param_kinds (i + 1 + 1) (drop (i + 1) ns)
params_rest ns i x offset l e o =
    ap (param_kinds (i + 1)) (drop_more ns i x l ∙ ap (λ y. y ∷ drop (i + 1) ns) (sym e))
    ∙ ap (λ z. (x, kind.Local z) ∷ param_kinds (i + 1 + 1) (drop (i + 1) ns)) (sym o)

pub offset_next : (offset next longs count : ℕ) → offset ≡ min (4 * longs) greatest_offset → next ≡ min (offset + 4 * count) greatest_offset → next ≡ min (4 * (longs + count)) greatest_offset
offset_next offset next longs count o n =
    n ∙ ap (λ z. min (z + 4 * count) greatest_offset) o ∙ stopped (4 * longs) (4 * count) greatest_offset
    ∙ ap (λ z. min z greatest_offset) (let e : 4 * longs + 4 * count ≡ 4 * (longs + count) = omega arith in e)

pub locals_rest : (s : Setting) (ls : List VarItem) (i : ℕ) (x : VarItem) (longs offset : ℕ) → i < length ls → x ≡ get_or ls i x → offset ≡ min (4 * longs) greatest_offset → local_kinds s longs (map declared_of (drop i ls)) ≡ (x.name, kind.Local offset) ∷ local_kinds s (longs + count_in s (declared_of x).count) (map declared_of (drop (i + 1) ls))
locals_rest s ls i x longs offset l e o =
    ap (λ ys. local_kinds s longs (map declared_of ys)) (drop_more ls i x l ∙ ap (λ y. y ∷ drop (i + 1) ls) (sym e))
    ∙ ap (λ z. (x.name, kind.Local z) ∷ local_kinds s (longs + count_in s (declared_of x).count) (map declared_of (drop (i + 1) ls))) (sym o)

-- one list, and then another one
both_lists : (o : Option NameKind) (a b : Option NameKind) → or_else (or_else o a) b ≡ or_else o (first_of a b)
both_lists (Some k) a b = refl
both_lists None None b = refl
both_lists None (Some k) b = refl

pub then_entered : {a b c : Kinds} {number : ℕ} (xs ys : List (List ℕ × NameKind)) → AreEnteredAt a b number xs → AreEnteredAt b c number ys → AreEnteredAt a c number (xs ++ ys)
then_entered {a = a} {number = number} xs ys h k = record {
  here = λ n. k.here n ∙ ap (λ o. or_else o (lookup (bytes_eq n) ys)) (h.here n) ∙ both_lists (own a number n) (lookup (bytes_eq n) xs) (lookup (bytes_eq n) ys)
      ∙ ap (or_else (own a number n)) (sym (lookup-append (bytes_eq n) xs ys));
  others = λ m n ne. k.others m n ne ∙ h.others m n ne;
}

pub one_entered : {a b : Kinds} {number : ℕ} (name : List ℕ) (k : NameKind) → IsEnteredAt a b number name k → AreEnteredAt a b number ((name, k) ∷ [])
one_entered name k h = record { here = h.here; others = h.others }

pub none_entered : (a : Kinds) (number : ℕ) → AreEnteredAt a a number []
none_entered a number = record { here = λ n. or_none (own a number n); others = λ m n ne. refl }

pub capped_count : (n : ℕ) → min (4 + 4 * min n 1048576) greatest_offset ≡ min (4 * (n + 1)) greatest_offset
capped_count n = grind arith
