-- Two settings that are right for a file are the same.
use Rattle.std.proofs.Common.{◌≡◌, ℕ, List, Option, Some, None, refl, ap, sym, ◌∙◌, subst}
use Rattle.std.specs.Prelude.{IsSome}
use Rattle.p8_tree.specs.Sources.{Source}
use Rattle.p8_fold.specs.declared.meanings.Meaning.{Meaning}
use Rattle.p8_fold.specs.declared.meanings.Meaning.TheVariants as meaning_case
use Rattle.p8_fold.specs.Meanings.{Setting}
use Rattle.p8_constants.specs.Items as con
use Rattle.p8_constants.specs.Items.{Sum}
use Rattle.p8_constants.specs.Constants.{scope_of, IsConstant}
use Rattle.p8_constants.proofs.OneValue.{has_one}
use Rattle.p8_kinds.specs.declared.children.Child.{Child}
use Rattle.p8_names.specs.Settings.{IsSetting, outside}
use Rattle.p8_names.proofs.Equal.{settings_equal}

name_by : (file : Source) (children : List Child) (s t : Setting) → IsSetting file children s → IsSetting file children t → (n : List ℕ) (o : Option Meaning) (d : Option Sum) → (outside file children).name n ≡ o → con.definition (con.definitions file) n ≡ d → s.name n ≡ t.name n
name_by file children s t h k n (Some m) d is defined =
    let so : IsSome ((outside file children).name n) = subst IsSome (sym is) refl in
    h.others n so ∙ sym (k.others n so)
name_by file children s t h k n None None is defined = h.nothing n is defined ∙ sym (k.nothing n is defined)
name_by file children s t h k n None (Some sum) is defined =
    let constant : IsConstant (scope_of (outside file children) file) n = (is, subst IsSome (sym defined) refl) in
    let a = h.constants n constant in
    let b = k.constants n constant in
    a.1 ∙ ap (λ v. Some (meaning_case.Value v)) (has_one (scope_of (outside file children) file) n a.0 b.0 a.2 b.2) ∙ sym b.1

pub one_setting : (file : Source) (children : List Child) (s t : Setting) → IsSetting file children s → IsSetting file children t → s ≡ t
one_setting file children s t h k =
    settings_equal s t
    (λ n. name_by file children s t h k n ((outside file children).name n) (con.definition (con.definitions file) n) refl refl)
    (λ owner n. h.behind owner n ∙ sym (k.behind owner n))
    (h.here ∙ sym k.here)
