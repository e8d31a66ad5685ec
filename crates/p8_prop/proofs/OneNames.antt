-- What the names of an accepted file mean is one thing: no other meanings make each constant worth what its item says by them.
use Rattle.std.proofs.Common.{◌≡◌, inl, inr, ◌∙◌, sym, ap, ap₂, refl, ℕ, ◌+◌, ◌%◌, ◌^◌, Bool, List, Option, Some, None}
use Rattle.std.specs.Prelude.{Contains, option_map}
use Rattle.std.specs.Option.{option_or}
use Rattle.p8_tree.specs.declared.faults.Fault.{Fault}
use Rattle.p8_tree.specs.Sources.{Source}
use Rattle.p8_fold.specs.declared.meanings.Meaning.{Meaning}
use Rattle.p8_fold.specs.declared.meanings.Meaning.TheVariants.{Value, Other}
use Rattle.p8_fold.specs.Meanings.{Setting}
use Rattle.p8_fold.specs.Values.{value}
use Rattle.p8_fold.proofs.Agreeing.{value_same}
use Rattle.p8_constants.specs.Items.{Term, Sum, definitions, definition, expressions}
use Rattle.p8_constants.specs.Constants.{Scope, scope_of, Means, from_outside, nothing, circular, constant, IsRightFor, right, Adds, none, further, Has, has, counted}
use Rattle.p8_constants.specs.FileItems.{items}
use Rattle.p8_constants.specs.Names.{predefined_names}
use Rattle.p8_constants.proofs.Agreeing.{Alike, agree}
use Rattle.p8_constants.proofs.Graphs.{option_cases}
use Rattle.p8_kinds.specs.declared.children.Child.{Child}
use Rattle.p8_kinds.specs.declared.children.Children.{Children}
use Rattle.p8_names.specs.Children.{constants_from}
use Rattle.p8_names.specs.Faults.{IsNameFault, of_constant}
use Rattle.p8_names.specs.Settings as settings
use Rattle.p8_names.specs.Settings.{outside}
use Rattle.p8_names.proofs.Equal.{settings_equal}
use Rattle.p8_prop.specs.Names.{IsSetting, IsChildOf}
use Rattle.p8_prop.proofs.Worth.{added, worth, IsSettingBySums, setting-from}
use Rattle.p8_prop.proofs.Naming.{other-fault, All, all-of, says-file, found, is-some}

-- ---- one file

-- t: any meanings that the equations allow; s: those that the file was accepted with
module _ (file : Source) (children : Children) (top : Bool) (clean : (f : Fault) → ¬ IsNameFault file children top f) (s t : Setting)
    (is : settings.IsSetting file children.items s) (said : IsSettingBySums file children.items t) where
  abbrev o : Setting
  o = outside file children.items

  abbrev c : Scope
  c = scope_of o file

  abbrev Stands : Term → Type 0
  Stands e = Contains (expressions file) e

  abbrev defined : List ℕ → Option Sum
  defined n = definition (definitions file) n

  by-both : (n : List ℕ) (x : Option Meaning) (d : Option Sum) → o.name n ≡ x → defined n ≡ d → t.name n ≡ option_or x (option_map (worth t) d)
  by-both n x d free is = said.names n ∙ ap₂ (λ (x : Option Meaning) (d : Option Sum). option_or x (option_map (worth t) d)) free is

  by-outside : (n : List ℕ) (m : Meaning) → o.name n ≡ Some m → t.name n ≡ Some m
  by-outside n m given = by-both n (Some m) (defined n) given refl

  -- along the way in which a constant comes to its value
  mutual
    means-it : (e : Term) (n : List ℕ) (x : Option Meaning) → Means c e n x → (x ≡ Some Other → ⊥) → x ≡ t.name n
    means-it e n x (from_outside {m = m} h) never = sym (by-outside n m h)
    means-it e n x (nothing h d) never = sym (by-both n None None h d)
    means-it e n x (circular u h) never = absurd (never refl)
    means-it e n x (constant {v = v} u h known) never = has-it n v h known

    term-it : (e : Term) (u : Setting) → IsRightFor c e u → Stands e → value u e.tree ≡ value t e.tree
    term-it e u (right means constants here) stands =
        let same : Alike u t = record { constants = λ object n. constants object n ∙ sym (said.behind object n); here = here ∙ sym said.here } in
        value_same u t e.tree (agree u t same e.tree (λ n at. means-it e n (u.name n) (means n at) (λ other.
        let it = other-fault u n other e.tree at in
        clean it.0 (of_constant (record { expression = e; stands = stands; setting = u; right = right means constants here; fault = it.1 })))))

    adds-it : (es : List Term) (w : ℕ) → Adds c es w → All Stands es → w ≡ added t es
    adds-it es w none all = refl
    adds-it es w (further {e = e} {es = rest} {s = u} {w = v} rightly adds) all =
        ap₂ (λ (a : Option ℕ) (b : ℕ). (counted a + b) % 2 ^ 32) (term-it e u rightly all.0) (adds-it rest v adds all.1)

    has-it : (n : List ℕ) (v : ℕ) → o.name n ≡ None → Has c n v → Some (Value v) ≡ t.name n
    has-it n v free (has {sum = sum} {w = w} d adds) =
        let all : All Stands sum.terms = found Stands (definitions file) n sum (says-file Stands file 0 (all-of Stands (expressions file) (λ e at. at))) d in
        ap (λ (w : ℕ). Some (Value ((sum.whole + w) % 2 ^ 32))) (adds-it sum.terms w adds all) ∙ sym (by-both n None (Some sum) free d)

  name-it : (n : List ℕ) → t.name n ≡ s.name n
  name-it n = elim (option_cases (o.name n)) [
    | inl free ↦ elim (option_cases (defined n)) [
      | inl lacks ↦ by-both n None None free lacks ∙ sym (is.nothing n free lacks)
      | inr (sum, at) ↦
          let it = is.constants n (free, is-some at) in
          sym (has-it n it.0 free it.2) ∙ sym it.1
    ]
    | inr (m, given) ↦ by-outside n m given ∙ sym given ∙ sym (is.others n (is-some given))
  ]

  setting-it : t ≡ s
  setting-it = settings_equal t s name-it (λ owner n. said.behind owner n ∙ sym (is.behind owner n)) (said.here ∙ sym is.here)

-- the names of a file mean one thing
abbrev pub HasOneSetting : Source → List Child → Type 0
HasOneSetting file children = (a b : Setting) → IsSetting file children a → IsSetting file children b → a ≡ b

pub one-setting : (file : Source) (children : Children) (top : Bool) (s : Setting) → ((f : Fault) → ¬ IsNameFault file children top f)
    → settings.IsSetting file children.items s → HasOneSetting file children.items
one-setting file children top s clean is a b p q =
    setting-it file children top clean s a is (setting-from a p) ∙ sym (setting-it file children top clean s b is (setting-from b q))

-- so its users see one thing
pub one-child : (file : Source) (children : List Child) (c d : Child) → HasOneSetting file children → IsChildOf file children c
    → IsChildOf file children d → c ≡ d
one-child file children c d one p q =
    let same : p.setting ≡ q.setting = one p.setting q.setting p.right q.right in
    λ i. record {
      methods = (p.methods ∙ sym q.methods) i;
      consts = (p.constants ∙ ap (λ (s : Setting). constants_from s predefined_names (items file)) same ∙ sym q.constants) i;
    }
