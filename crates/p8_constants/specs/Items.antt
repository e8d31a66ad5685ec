-- The items of CON. A counter begins at 0 in each block, `#e` sets it, and a name without a value takes it and moves it by 1,
-- or by the value in brackets. So each item stands for a sum: a whole number and expressions. Source: the Propeller Manual
-- v1.2, "CON" of the Spin chapter.
use Rattle.std.specs.Prelude.{ℕ, ◌+◌, ◌*◌, length, if◌then◌else◌, List, [], ◌∷◌, ◌++◌, Option, Some, None}
use Rattle.std.specs.Map.{lookup}
use Rattle.std.specs.Str.{bytes_eq}
use Rattle.p8_tree.specs.Expressions.{Tree}
use Rattle.p8_tree.specs.Sources.{Constant, Source, Con}

-- an expression of CON: its number in the file, by which two that look alike are still two, and its tree
pub record Term : Type 0 where
  pub number : ℕ
  pub tree : Tree

-- the value and the step of the item k of the file, counted from 0
abbrev pub value_term : ℕ → Tree → Term
value_term k e = record { number = 2 * k; tree = e }

abbrev pub step_term : ℕ → Tree → Term
step_term k e = record { number = 2 * k + 1; tree = e }

-- a whole number, and expressions whose values are added to it
pub record Sum : Type 0 where
  pub whole : ℕ
  pub terms : List Term

-- where each block's counter begins
abbrev pub zero_sum : Sum
zero_sum = record { whole = 0; terms = [] }

-- what the item k stands for: its own expression, or else the counter as it comes to it
abbrev pub sum_of : Sum → ℕ → Option Tree → Sum
sum_of counter k None = counter
sum_of counter k (Some e) = record { whole = 0; terms = value_term k e ∷ [] }

-- the counter after a name: a name without a value moves it by its step
abbrev pub stepped : Sum → ℕ → Option Tree → Option Tree → Sum
stepped counter k (Some e) step = counter
stepped counter k None None = record counter { whole = counter.whole + 1 }
stepped counter k None (Some e) = record counter { terms = counter.terms ++ step_term k e ∷ [] }

-- the counter after the item k
abbrev pub after : Sum → ℕ → Constant → Sum
after counter k x = if x.sets then sum_of counter k x.value else stepped counter k x.value x.step

abbrev pub with_name : Option (List ℕ) → Sum → List (List ℕ × Sum) → List (List ℕ × Sum)
with_name None sum rest = rest
with_name (Some name) sum rest = (name, sum) ∷ rest

-- the named items of a block from the item k on, each with what it stands for
abbrev pub named_from : Sum → ℕ → List Constant → List (List ℕ × Sum)
named_from counter k [] = []
named_from counter k (x ∷ xs) = with_name x.name (sum_of counter k x.value) (named_from (after counter k x) (k + 1) xs)

abbrev pub definitions_from : ℕ → Source → List (List ℕ × Sum)
definitions_from k [] = []
definitions_from k (Con xs ∷ bs) = named_from zero_sum k xs ++ definitions_from (k + length xs) bs
definitions_from k (b ∷ bs) = definitions_from k bs

-- the named items of a file, in order
abbrev pub definitions : Source → List (List ℕ × Sum)
definitions file = definitions_from 0 file

-- of several definitions of one name the first counts
abbrev pub definition : List (List ℕ × Sum) → List ℕ → Option Sum
definition ds name = lookup (bytes_eq name) ds

abbrev pub with_term : (Tree → Term) → Option Tree → List Term → List Term
with_term f None rest = rest
with_term f (Some e) rest = f e ∷ rest

-- the expressions of a block's items, each looked at, also where its item isn't the first definition of its name
abbrev pub terms_in : ℕ → List Constant → List Term
terms_in k [] = []
terms_in k (x ∷ xs) = with_term (value_term k) x.value (with_term (step_term k) x.step (terms_in (k + 1) xs))

abbrev pub expressions_from : ℕ → Source → List Term
expressions_from k [] = []
expressions_from k (Con xs ∷ bs) = terms_in k xs ++ expressions_from (k + length xs) bs
expressions_from k (b ∷ bs) = expressions_from k bs

-- those of a file
abbrev pub expressions : Source → List Term
expressions file = expressions_from 0 file
