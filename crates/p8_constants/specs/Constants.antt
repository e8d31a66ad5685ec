-- The constants of a file, as the least relation that its items' rules make.
--
-- A constant may be used before its line. An item that needs itself is refused; what is refused counts as 0 wherever else
-- it is used. `outside` says what all names mean that aren't constants of the file: those that the language defines, and
-- those whose first definition in the file is no item of CON, which are no constants. Source: the Propeller Manual v1.2,
-- "CON" of the Spin chapter; that what is refused counts as 0 is this project's profile.
use Rattle.std.specs.Prelude.{◌≡◌, ℕ, ◌+◌, ◌%◌, ◌^◌, List, [], ◌∷◌, ◌<◌, ◌≤◌, Option, Some, None, IsSome, Contains}
use Rattle.p8_tree.specs.Sources.{Source}
use Rattle.p8_tree.specs.declared.faults.Fault.{Fault}
use Rattle.p8_fold.specs.declared.meanings.Meaning.{Meaning}
use Rattle.p8_fold.specs.declared.meanings.Meaning.TheVariants as meaning_case
use Rattle.p8_fold.specs.Meanings.{Setting}
use Rattle.p8_fold.specs.Values.{value, FaultIn}
use Rattle.p8_constants.specs.Items.{Term, Sum, definitions, definition, expressions}
use Rattle.p8_constants.specs.Mentions.{Mentions}

-- a file's constants, and what its other names mean
pub record Scope : Type 0 where
  pub outside : Setting
  pub constants : List (List ℕ × Sum)

abbrev pub scope_of : Setting → Source → Scope
scope_of outside file = record { outside = outside; constants = definitions file }

-- the value of a name needs an expression: it is a term of the name's sum, or of one that such a term mentions
pub data Needs (c : Scope) : List ℕ → Term → Type 0 where
  itself : {n : List ℕ} {sum : Sum} {e : Term} → c.outside.name n ≡ None → definition c.constants n ≡ Some sum → Contains sum.terms e → Needs c n e
  through : {n m : List ℕ} {d e : Term} → Needs c n d → Mentions d.tree m → Needs c m e → Needs c n e

-- the value of a refused expression is 0
abbrev pub counted : Option ℕ → ℕ
counted None = 0
counted (Some v) = v

mutual
  -- what a name means in an expression. One whose value needs the expression is no constant there
  pub data Means : Scope → Term → List ℕ → Option Meaning → Type 0 where
    from_outside : {c : Scope} {e : Term} {n : List ℕ} {m : Meaning} → c.outside.name n ≡ Some m → Means c e n (Some m)
    nothing : {c : Scope} {e : Term} {n : List ℕ} → c.outside.name n ≡ None → definition c.constants n ≡ None → Means c e n None
    circular : {c : Scope} {e : Term} {n : List ℕ} → Needs c n e → c.outside.name n ≡ None → Means c e n (Some meaning_case.Other)
    constant : {c : Scope} {e : Term} {n : List ℕ} {v : ℕ} → ¬ Needs c n e → c.outside.name n ≡ None → Has c n v → Means c e n (Some (meaning_case.Value v))

  -- a setting that is right for an expression: it gives each name that stands there what it means there
  pub data IsRightFor : Scope → Term → Setting → Type 0 where
    right : {c : Scope} {e : Term} {s : Setting} → ((n : List ℕ) → Mentions e.tree n → Means c e n (s.name n)) →
        ((object name : List ℕ) → s.constant object name ≡ c.outside.constant object name) → s.here ≡ c.outside.here → IsRightFor c e s

  -- the sum of expressions, each with its value, or 0 where it is refused
  pub data Adds : Scope → List Term → ℕ → Type 0 where
    none : {c : Scope} → Adds c [] 0
    further : {c : Scope} {e : Term} {es : List Term} {s : Setting} {w : ℕ} → IsRightFor c e s → Adds c es w →
        Adds c (e ∷ es) ((counted (value s e.tree) + w) % 2 ^ 32)

  -- a constant of the file has this value
  pub data Has : Scope → List ℕ → ℕ → Type 0 where
    has : {c : Scope} {n : List ℕ} {sum : Sum} {w : ℕ} → definition c.constants n ≡ Some sum → Adds c sum.terms w → Has c n ((sum.whole + w) % 2 ^ 32)

-- a fault of an expression of CON, 12, 13, 15 or 16: a name that needs the expression in which it stands is 12 there
pub record IsConstantFault (outside : Setting) (file : Source) (f : Fault) : Type 0 where
  pub expression : Term
  pub stands : Contains (expressions file) expression
  pub setting : Setting
  pub right : IsRightFor (scope_of outside file) expression setting
  pub fault : FaultIn setting expression.tree f

-- a name of the file's constants
abbrev pub IsConstant : Scope → List ℕ → Type 0
IsConstant c n = (c.outside.name n ≡ None) × IsSome (definition c.constants n)

-- names with ranks, each of which needs only names of lower ranks, as they come in an order of evaluation
pub record IsOrdered (c : Scope) (Among : List ℕ → Type 0) (rank : List ℕ → ℕ) : Type 0 where
  pub lower : (n m : List ℕ) (sum : Sum) (e : Term) → Among n → definition c.constants n ≡ Some sum → Contains sum.terms e → Mentions e.tree m →
      IsConstant c m → Among m × (rank m < rank n)

-- expressions in layers: what an expression of one layer mentions has its terms in that layer or in lower ones. Expressions
-- that need each other stand in one layer
pub record IsLayered (c : Scope) (Among : Term → Type 0) (layer : Term → ℕ) : Type 0 where
  pub lower : (e f : Term) (m : List ℕ) (sum : Sum) → Among e → Mentions e.tree m → c.outside.name m ≡ None → definition c.constants m ≡ Some sum →
      Contains sum.terms f → Among f × (layer f ≤ layer e)
