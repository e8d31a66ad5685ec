-- The table in which the constants of a file stand is right for it.
use Rattle.std.proofs.Common.{◌≡◌, ℕ, List, Some, None, ap, ◌∙◌, subst}
use Rattle.std.specs.Prelude.{IsSome}
use Rattle.p8_tree.specs.Sources.{Source}
use Rattle.p8_fold.specs.declared.meanings.Meaning.TheVariants as meaning_case
use Rattle.p8_fold.specs.Meanings.{Setting}
use Rattle.p8_constants.specs.Items as con
use Rattle.p8_constants.specs.Constants.{scope_of, IsConstant, Has}
use Rattle.p8_constants.specs.FileItems.{Item, items}
use Rattle.p8_kinds.specs.declared.children.Child.{Child}
use Rattle.p8_names.specs.Settings.{IsSetting, outside, outside_of}
use Rattle.p8_names.specs.Changes.{IsOutside}
use Rattle.p8_names.proofs.Equal.{settings_equal}

-- what the clauses of the constants say, by what all other names mean
pub record IsFoundBy (file : Source) (o t : Setting) : Type 0 where
  pub others : (n : List ℕ) → IsSome (o.name n) → t.name n ≡ o.name n
  pub constants : (n : List ℕ) → IsConstant (scope_of o file) n → (v : ℕ) × (t.name n ≡ Some (meaning_case.Value v)) × Has (scope_of o file) n v
  pub nothing : (n : List ℕ) → o.name n ≡ None → con.definition (con.definitions file) n ≡ None → t.name n ≡ None
  pub behind : (owner n : List ℕ) → t.constant owner n ≡ o.constant owner n
  pub here : t.here ≡ o.here

pub outside_is : (file : Source) (xs : List Item) (children all : List Child) (o : Setting) → xs ≡ items file → all ≡ children → IsOutside o (outside_of xs all) → o ≡ outside file children
outside_is file xs children all o is same h =
    settings_equal o (outside_of xs all) h.names h.constants h.here ∙ ap (λ ys. outside_of ys all) is ∙ ap (outside_of (items file)) same

pub is_right : (file : Source) (children : List Child) (o t : Setting) → o ≡ outside file children → IsFoundBy file o t → IsSetting file children t
is_right file children o t is found =
    let h = subst (λ u. IsFoundBy file u t) is found in
    record { others = h.others; constants = h.constants; nothing = h.nothing; behind = h.behind; here = h.here }
