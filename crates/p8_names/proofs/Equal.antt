-- Settings and environments that say the same are the same.
use Rattle.std.proofs.Common.{◌≡◌, ℕ, List, Option, ap, ◌∙◌}
use mathlib.Core.Path.{fun_ext}
use Rattle.p8_fold.specs.declared.meanings.Meaning.{Meaning}
use Rattle.p8_fold.specs.declared.meanings.Here.{Here}
use Rattle.p8_fold.specs.Meanings.{Setting}
use Rattle.p8_kinds.specs.declared.name_kinds.NameKind.{NameKind}
use Rattle.p8_kinds.specs.Environments.{Environment}

abbrev setting : (List ℕ → Option Meaning) → (List ℕ → List ℕ → Option Meaning) → Here → Setting
setting name constant here = record { name = name; constant = constant; here = here }

pub settings_equal : (s t : Setting) → ((n : List ℕ) → s.name n ≡ t.name n) → ((owner n : List ℕ) → s.constant owner n ≡ t.constant owner n) → s.here ≡ t.here → s ≡ t
settings_equal s t names constants here =
    ap (λ f. setting f s.constant s.here) (fun_ext names)
    ∙ (ap (λ f. setting t.name f s.here) (fun_ext (λ owner. fun_ext (constants owner)))
    ∙ ap (λ h. setting t.name t.constant h) here)

abbrev environment : (List ℕ → Option NameKind) → (ℕ → List ℕ → Option NameKind) → Setting → Environment
environment kind public constants = record { kind = kind; public = public; constants = constants }

pub environments_equal : (e f : Environment) → ((n : List ℕ) → e.kind n ≡ f.kind n) → ((item : ℕ) (n : List ℕ) → e.public item n ≡ f.public item n) → e.constants ≡ f.constants → e ≡ f
environments_equal e f kinds publics constants =
    ap (λ g. environment g e.public e.constants) (fun_ext kinds)
    ∙ (ap (λ g. environment f.kind g e.constants) (fun_ext (λ item. fun_ext (publics item)))
    ∙ ap (λ s. environment f.kind f.public s) constants)
