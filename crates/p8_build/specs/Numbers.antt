-- internal: the numbers of texts by their places, as a map has them.
use Rattle.std.specs.Prelude.{◌≡◌, ℕ, ◌+◌, [], ◌∷◌, length, Option, Some, None, if◌then◌else◌, unwrap_or}
use Rattle.std.specs.declared.cmp.Ordering.{Ordering}
use Rattle.std.specs.BTreeMap.{BTreeMap, get}
use Rattle.std.specs.Ordering.{nat_cmp, ordering_then}
use Rattle.p8_tree.specs.declared.places.Place.{Place}
use Rattle.p8_tree.specs.Faults.{is_same_place}
use Rattle.p8_tree.specs.Expressions.{Form}
use Rattle.p8_tree.specs.Views.{form_of}
use Rattle.p8_image.specs.declared.parts.TextUse.{TextUse}
use Rattle.p8_gen.specs.declared.code.StringUse.{StringUse}
use Rattle.p8_build.specs.declared.string_texts.StringText.{StringText}
use Rattle.p8_build.specs.declared.text_numbers.TextNumbers.{TextNumbers}
use Rattle.p8_build.specs.Strings.{Texts}

-- a STRING with its place
abbrev pub text_of : StringText → Place × Form
text_of t = (t.place, form_of t.form.now)

abbrev pub place_cmp : ℕ × ℕ → ℕ × ℕ → Ordering
place_cmp p q = ordering_then (nat_cmp p.0 q.0) (nat_cmp p.1 q.1)

abbrev pub at_place : Place → BTreeMap (ℕ × ℕ) ℕ → Option ℕ
at_place p map = get place_cmp map (p.line, p.column)

-- the number of the first of some texts that stands at a place; the first text has the number k
abbrev pub number_in : ℕ → Texts → Place → Option ℕ
number_in k [] p = None
number_in k (x ∷ xs) p = if is_same_place x.0 p then Some k else number_in (k + 1) xs p

-- the number of the text at a place by a table
abbrev pub number_by : TextNumbers → Place → ℕ
number_by numbers p = unwrap_or (at_place p numbers.places) numbers.count

-- these are the numbers of some texts
pub record AreNumbers (numbers : TextNumbers) (strings : Texts) : Type 0 where
  pub places : (p : Place) → at_place p numbers.places ≡ number_in 0 strings p
  pub count : numbers.count ≡ length strings

-- a method's part, by the numbers of the texts
abbrev pub use_by : (Place → ℕ) → StringUse → TextUse
use_by number u = record { at = u.at; text = number u.place }
