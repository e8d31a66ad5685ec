-- Where one of two lists that are gone through together ends, there are no lines left.
use Rattle.std.proofs.Common.{◌≡◌, ◌∙◌, ap, sym, refl, arith, ℕ, ◌<◌, List, [], ◌∷◌, ◌++◌, length}
use Rattle.std.proofs.lemmas.List.{append-nil}
use Rattle.p8_image.specs.declared.parts.MethodPart.{MethodPart}
use Rattle.p8_image.specs.declared.parts.ObjectPart.{ObjectPart}
use Rattle.p8_image.specs.declared.parts.Variable.{Variable}
use Rattle.p8_map.specs.declared.instances.Instance.{Instance}
use Rattle.p8_map.specs.declared.names.MethodNames.{MethodNames}
use Rattle.p8_map.specs.declared.names.FileNames.{FileNames}
use Rattle.p8_map.specs.Map.{child_lines, method_lines, objects_lines, sized_lines, all_inside}

pub all-said : (out whole more : List ℕ) → more ≡ [] → out ++ more ≡ whole → out ≡ whole
all-said out whole more none said = sym (append-nil out) ∙ ap (λ (rest : List ℕ). out ++ rest) (sym none) ∙ said

pub no-methods : (place number : ℕ) (names : List MethodNames) (methods : List MethodPart) → length methods < 1 → method_lines place number names methods ≡ []
no-methods place number [] methods few = refl
no-methods place number (name ∷ names) [] few = refl
no-methods place number (name ∷ names) (method ∷ methods) few = absurd (omega arith)

pub no-method_names : (place number : ℕ) (names : List MethodNames) (methods : List MethodPart) → length names < 1 → method_lines place number names methods ≡ []
no-method_names place number [] methods few = refl
no-method_names place number (name ∷ names) methods few = absurd (omega arith)

pub no-children : (files : List FileNames) (place : ℕ) (names : List (List ℕ)) (instances : List ℕ) → length instances < 1 → child_lines files place names instances ≡ []
no-children files place [] instances few = refl
no-children files place (name ∷ names) [] few = refl
no-children files place (name ∷ names) (f ∷ instances) few = absurd (omega arith)

pub no-child_names : (files : List FileNames) (place : ℕ) (names : List (List ℕ)) (instances : List ℕ) → length names < 1 → child_lines files place names instances ≡ []
no-child_names files place [] instances few = refl
no-child_names files place (name ∷ names) instances few = absurd (omega arith)

pub no-objects : (files : List FileNames) (base : ℕ) (names : List FileNames) (objects : List ObjectPart) → length objects < 1 → objects_lines files base names objects ≡ []
no-objects files base [] objects few = refl
no-objects files base (name ∷ names) [] few = refl
no-objects files base (name ∷ names) (object ∷ objects) few = absurd (omega arith)

pub no-object_names : (files : List FileNames) (base : ℕ) (names : List FileNames) (objects : List ObjectPart) → length names < 1 → objects_lines files base names objects ≡ []
no-object_names files base [] objects few = refl
no-object_names files base (name ∷ names) objects few = absurd (omega arith)

pub no-variables : (size place : ℕ) (prefix : List ℕ) (names : List (List ℕ)) (variables : List Variable) → length variables < 1 → sized_lines size place prefix names variables ≡ []
no-variables size place prefix [] variables few = refl
no-variables size place prefix (name ∷ names) [] few = refl
no-variables size place prefix (name ∷ names) (v ∷ variables) few = absurd (omega arith)

pub no-variable_names : (size place : ℕ) (prefix : List ℕ) (names : List (List ℕ)) (variables : List Variable) → length names < 1 → sized_lines size place prefix names variables ≡ []
no-variable_names size place prefix [] variables few = refl
no-variable_names size place prefix (name ∷ names) variables few = absurd (omega arith)

pub all-put : (all whole more : List Instance) → more ≡ [] → all ++ more ≡ whole → all ≡ whole
all-put all whole more none put = sym (append-nil all) ∙ ap (λ (rest : List Instance). all ++ rest) (sym none) ∙ put

pub no-instances : (within : List ℕ → ℕ → ℕ → List Instance) (sizes : List ℕ) (place : ℕ) (prefix : List ℕ) (names : List (List ℕ)) (instances : List ℕ) → length instances < 1
    → all_inside within sizes place prefix names instances ≡ []
no-instances within sizes place prefix [] instances few = refl
no-instances within sizes place prefix (name ∷ names) [] few = refl
no-instances within sizes place prefix (name ∷ names) (f ∷ instances) few = absurd (omega arith)

pub no-instance_names : (within : List ℕ → ℕ → ℕ → List Instance) (sizes : List ℕ) (place : ℕ) (prefix : List ℕ) (names : List (List ℕ)) (instances : List ℕ) → length names < 1
    → all_inside within sizes place prefix names instances ≡ []
no-instance_names within sizes place prefix [] instances few = refl
no-instance_names within sizes place prefix (name ∷ names) instances few = absurd (omega arith)
