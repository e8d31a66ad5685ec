-- Instances inside instances, one depth after the other, as they are put.
use Rattle.std.proofs.Common.{◌≡◌, ◌∙◌, ap, ap₂, sym, refl, arith, ℕ, suc, ◌-◌, ◌≤◌, List, [], ◌++◌, append_assoc, slice_get, Option, Some, None}
use Rattle.std.proofs.lemmas.List.{append-nil}
use Rattle.p8_image.specs.declared.parts.ObjectPart.{ObjectPart}
use Rattle.p8_image.specs.Layout.{own_variables}
use Rattle.p8_map.specs.declared.instances.Instance.{Instance}
use Rattle.p8_map.specs.declared.names.FileNames.{FileNames}
use Rattle.p8_image.specs.Listing.{address_after}
use Rattle.p8_map.specs.Map.{all_inside, instances_within, own_instance, with_inside}

one-deeper : (files : List FileNames) (objects : List ObjectPart) (sizes : List ℕ) (depth : ℕ) (prefix : List ℕ) (f place : ℕ) → 1 ≤ depth
    → instances_within files objects sizes depth prefix f place
    ≡ with_inside (instances_within files objects sizes (depth - 1)) sizes prefix f place (slice_get files f) (slice_get objects f)
unfolding instances_within
one-deeper files objects sizes depth prefix f place some =
    let more : depth ≡ suc (depth - 1) = omega arith in
    ap (λ (d : ℕ). instances_within files objects sizes d prefix f place) more

nothing : (all found : List Instance) → found ≡ [] → all ++ found ≡ all
nothing all found none = ap (λ (more : List Instance). all ++ more) none ∙ append-nil all

-- no deeper, no instance
pub no_depth : (files : List FileNames) (objects : List ObjectPart) (sizes : List ℕ) (depth : ℕ) (prefix : List ℕ) (f place : ℕ) (all : List Instance)
    → depth ≡ 0 → all ≡ all ++ instances_within files objects sizes depth prefix f place
unfolding instances_within
no_depth files objects sizes depth prefix f place all none =
    sym (nothing all (instances_within files objects sizes depth prefix f place) (ap (λ (d : ℕ). instances_within files objects sizes d prefix f place) none))

no-file : (within : List ℕ → ℕ → ℕ → List Instance) (sizes prefix : List ℕ) (f place : ℕ) (object : Option ObjectPart)
    → with_inside within sizes prefix f place None object ≡ []
no-file within sizes prefix f place object = refl

no-part : (within : List ℕ → ℕ → ℕ → List Instance) (sizes prefix : List ℕ) (f place : ℕ) (names : Option FileNames)
    → with_inside within sizes prefix f place names None ≡ []
no-part within sizes prefix f place None = refl
no-part within sizes prefix f place (Some names) = refl

-- no names or no object, no instance
pub no_names : (files : List FileNames) (objects : List ObjectPart) (sizes : List ℕ) (depth : ℕ) (prefix : List ℕ) (f place : ℕ) (all : List Instance)
    → 1 ≤ depth → slice_get files f ≡ None → all ≡ all ++ instances_within files objects sizes depth prefix f place
no_names files objects sizes depth prefix f place all some none =
    sym (nothing all _ (one-deeper files objects sizes depth prefix f place some
    ∙ ap (λ (names : Option FileNames). with_inside (instances_within files objects sizes (depth - 1)) sizes prefix f place names (slice_get objects f)) none
    ∙ no-file (instances_within files objects sizes (depth - 1)) sizes prefix f place (slice_get objects f)))

pub no_object : (files : List FileNames) (objects : List ObjectPart) (sizes : List ℕ) (depth : ℕ) (prefix : List ℕ) (f place : ℕ) (all : List Instance)
    → 1 ≤ depth → slice_get objects f ≡ None → all ≡ all ++ instances_within files objects sizes depth prefix f place
no_object files objects sizes depth prefix f place all some none =
    sym (nothing all _ (one-deeper files objects sizes depth prefix f place some
    ∙ ap (λ (object : Option ObjectPart). with_inside (instances_within files objects sizes (depth - 1)) sizes prefix f place (slice_get files f) object) none
    ∙ no-part (instances_within files objects sizes (depth - 1)) sizes prefix f place (slice_get files f)))

-- an instance, itself first and then those inside it
pub whole_instance : (files : List FileNames) (objects : List ObjectPart) (sizes : List ℕ) (depth : ℕ) (prefix : List ℕ) (f place : ℕ) (names : FileNames) (object : ObjectPart)
    (all own : List Instance) (inside : ℕ) → 1 ≤ depth → slice_get files f ≡ Some names → slice_get objects f ≡ Some object
    → inside ≡ address_after place (own_variables object)
    → own ≡ all ++ own_instance prefix f place object.variables
    → own ++ all_inside (instances_within files objects sizes (depth - 1)) sizes inside prefix names.instances object.instances
    ≡ all ++ instances_within files objects sizes depth prefix f place
whole_instance files objects sizes depth prefix f place names object all own inside some has_names has_object inside_is own_is =
    let within : List ℕ → ℕ → ℕ → List Instance = instances_within files objects sizes (depth - 1) in
    let opened : instances_within files objects sizes depth prefix f place ≡ with_inside within sizes prefix f place (Some names) (Some object) =
    one-deeper files objects sizes depth prefix f place some
    ∙ ap₂ (λ (n : Option FileNames) (o : Option ObjectPart). with_inside within sizes prefix f place n o) has_names has_object in
    ap₂ (λ (first : List Instance) (p : ℕ). first ++ all_inside within sizes p prefix names.instances object.instances) own_is inside_is
    ∙ append_assoc all (own_instance prefix f place object.variables) (all_inside within sizes (address_after place (own_variables object)) prefix names.instances object.instances)
    ∙ ap (λ (more : List Instance). all ++ more) (sym opened)
