-- A constant has one value: by induction on how it comes to it.
use Rattle.std.proofs.Common.{◌≡◌, ℕ, ◌+◌, ◌%◌, ◌^◌, List, Option, Some, None, refl, sym, ap, ◌∙◌, subst}
use Rattle.p8_fold.specs.declared.meanings.Meaning.{Meaning}
use Rattle.p8_fold.specs.declared.meanings.Meaning.TheVariants as meaning_case
use Rattle.p8_fold.specs.Meanings.{Setting}
use Rattle.p8_fold.specs.Values.{value}
use Rattle.p8_fold.specs.Agreement.{AgreeOn}
use Rattle.p8_fold.proofs.Agreeing.{value_same}
use Rattle.p8_constants.specs.Items.{Term, Sum, definition}
use Rattle.p8_constants.specs.Constants.{Scope, Needs, itself, through, Means, from_outside, nothing, circular, constant, IsRightFor, right, Adds, none, further, Has, has, counted}
use Rattle.p8_constants.proofs.Agreeing.{agree}

needs_defined : {c : Scope} {n : List ℕ} {e : Term} → Needs c n e → (sum : Sum) × (definition c.constants n ≡ Some sum)
needs_defined (itself {sum = sum} outside d among) = (sum, d)
needs_defined (through a m b) = needs_defined a

has_defined : {c : Scope} {n : List ℕ} {v : ℕ} → Has c n v → (sum : Sum) × (definition c.constants n ≡ Some sum)
has_defined (has {sum = sum} d a) = (sum, d)

not_both : {A : Type 0} {o : Option Sum} → o ≡ None → (sum : Sum) × (o ≡ Some sum) → A
not_both lacking (sum, given) = absurd cc

mutual
  means_one : (c : Scope) (e : Term) (n : List ℕ) (x y : Option Meaning) → Means c e n x → Means c e n y → x ≡ y
  means_one c e n x y (from_outside h) (from_outside k) = sym h ∙ k
  means_one c e n x y (from_outside h) (nothing k d) = absurd cc
  means_one c e n x y (from_outside h) (circular u k) = absurd cc
  means_one c e n x y (from_outside h) (constant u k v) = absurd cc
  means_one c e n x y (nothing h d) (from_outside k) = absurd cc
  means_one c e n x y (nothing h d) (nothing k d') = refl
  means_one c e n x y (nothing h d) (circular u k) = not_both d (needs_defined u)
  means_one c e n x y (nothing h d) (constant u k v) = not_both d (has_defined v)
  means_one c e n x y (circular u h) (from_outside k) = absurd cc
  means_one c e n x y (circular u h) (nothing k d) = not_both d (needs_defined u)
  means_one c e n x y (circular u h) (circular u' k) = refl
  means_one c e n x y (circular u h) (constant u' k v) = absurd (u' u)
  means_one c e n x y (constant u h v) (from_outside k) = absurd cc
  means_one c e n x y (constant u h v) (nothing k d) = not_both d (has_defined v)
  means_one c e n x y (constant u h v) (circular u' k) = absurd (u u')
  means_one c e n x y (constant u h v) (constant u' k w) = ap (λ v. Some (meaning_case.Value v)) (has_one c n _ _ v w)

  pub right_one : (c : Scope) (e : Term) (s t : Setting) → IsRightFor c e s → IsRightFor c e t → AgreeOn s t e.tree
  right_one c e s t (right h k l) (right h' k' l') =
      agree s t (record { constants = λ object name. k object name ∙ sym (k' object name); here = l ∙ sym l' }) e.tree (λ n m. means_one c e n (s.name n) (t.name n) (h n m) (h' n m))

  adds_one : (c : Scope) (es fs : List Term) (v w : ℕ) → es ≡ fs → Adds c es v → Adds c fs w → v ≡ w
  adds_one c es fs v w is none none = refl
  adds_one c es fs v w is none (further r a) = absurd cc
  adds_one c es fs v w is (further r a) none = absurd cc
  adds_one c es fs v w is (further {e = e} {es = xs} {s = s} {w = a} r more) (further {e = d} {es = ys} {s = t} {w = b} r' more') =
      let same : d ≡ e = cc in
      let rest : xs ≡ ys = cc in
      let here : value s e.tree ≡ value t e.tree = value_same s t e.tree (right_one c e s t r (subst (λ d. IsRightFor c d t) same r')) in
      let there : a ≡ b = adds_one c xs ys a b rest more more' in
      ap (λ o. (counted o + a) % 2 ^ 32) (here ∙ ap (λ x. value t x.tree) (sym same)) ∙ ap (λ n. (counted (value t d.tree) + n) % 2 ^ 32) there

  pub has_one : (c : Scope) (n : List ℕ) (v w : ℕ) → Has c n v → Has c n w → v ≡ w
  has_one c n v w (has {sum = x} {w = a} d more) (has {sum = y} {w = b} d' more') =
      let same : x ≡ y = cc in
      let rest : a ≡ b = adds_one c x.terms y.terms a b (ap (λ s. s.terms) same) more more' in
      ap (λ s. (s.whole + a) % 2 ^ 32) same ∙ ap (λ n. (y.whole + n) % 2 ^ 32) rest
