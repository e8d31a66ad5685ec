-- What is seen of a file is one thing, by what the file sees itself.
use Rattle.std.proofs.Common.{◌≡◌, ◌⊎◌, inl, inr, ℕ, List, Option, Some, None, IsSome, refl, sym, ap, ◌∙◌}
use mathlib.Core.Path.{fun_ext}
use Rattle.p8_tree.specs.Sources.{Source}
use Rattle.p8_fold.specs.declared.meanings.Meaning.{Meaning}
use Rattle.p8_fold.specs.declared.meanings.Meaning.TheVariants.{Value}
use Rattle.p8_fold.specs.declared.meanings.Here.{Here}
use Rattle.p8_fold.specs.Meanings.{Setting}
use Rattle.p8_constants.specs.Items as con
use Rattle.p8_constants.specs.Constants.{scope_of}
use Rattle.p8_constants.proofs.OneValue.{has_one}
use Rattle.p8_constants.specs.FileItems.{items}
use Rattle.p8_constants.specs.Names.{predefined_names}
use Rattle.p8_kinds.specs.declared.children.Child.{Child}
use Rattle.p8_kinds.specs.declared.children.ChildMethod.{ChildMethod}
use Rattle.p8_kinds.specs.declared.children.ChildConst.{ChildConst}
use Rattle.p8_names.specs.Settings.{IsSetting, outside}
use Rattle.p8_names.specs.Children.{constants_from, IsChildOf}

abbrev setting : (List ℕ → Option Meaning) → (List ℕ → List ℕ → Option Meaning) → Here → Setting
setting name constant here = record { name = name; constant = constant; here = here }

settings_equal : (s t : Setting) → ((n : List ℕ) → s.name n ≡ t.name n) → ((owner n : List ℕ) → s.constant owner n ≡ t.constant owner n) → s.here ≡ t.here → s ≡ t
settings_equal s t names constants here =
    ap (λ f. setting f s.constant s.here) (fun_ext names)
    ∙ (ap (λ f. setting t.name f s.here) (fun_ext (λ owner. fun_ext (constants owner)))
    ∙ ap (λ h. setting t.name t.constant h) here)

none_or_some : {X : Type 0} (o : Option X) → (o ≡ None) ⊎ IsSome o
none_or_some None = inl refl
none_or_some (Some x) = inr refl

module _ (file : Source) (children : List Child) (s t : Setting) (h : IsSetting file children s) (k : IsSetting file children t) where
  inside : (n : List ℕ) → (outside file children).name n ≡ None → s.name n ≡ t.name n
  inside n free = elim (none_or_some (con.definition (con.definitions file) n)) [
    | inl nothing ↦ h.nothing n free nothing ∙ sym (k.nothing n free nothing)
    | inr defined ↦
        let (v, is, value) = h.constants n (free, defined) in
        let (w, other, other_value) = k.constants n (free, defined) in
        is ∙ (ap (λ v. Some (Value v)) (has_one (scope_of (outside file children) file) n v w value other_value) ∙ sym other)
  ]

  names : (n : List ℕ) → s.name n ≡ t.name n
  names n = elim (none_or_some ((outside file children).name n)) [
    | inl free ↦ inside n free
    | inr given ↦ h.others n given ∙ sym (k.others n given)
  ]

  pub one_setting : s ≡ t
  one_setting = settings_equal s t names (λ owner n. h.behind owner n ∙ sym (k.behind owner n)) (h.here ∙ sym k.here)

abbrev child : List ChildMethod → List ChildConst → Child
child methods consts = record { methods = methods; consts = consts }

pub one_child : (file : Source) (children : List Child) (c d : Child) → IsChildOf file children c → IsChildOf file children d → c ≡ d
one_child file children c d h k =
    let constants : c.consts ≡ d.consts = h.constants ∙ (ap (λ s. constants_from s predefined_names (items file)) (one_setting file children h.setting k.setting h.right k.right) ∙ sym k.constants) in
    ap (λ ms. child ms c.consts) (h.methods ∙ sym k.methods) ∙ ap (λ cs. child d.methods cs) constants
