-- Faults of a file's items, each looked at by itself. Sources: the Propeller Manual v1.2, the block designators of the Spin
-- chapter; the limits, numbers and places are this project's profile.
use Rattle.std.specs.Prelude.{◌≡◌, ◌⊎◌, ℕ, ◌+◌, ◌<◌, nat_le, nat_lt, Bool, false, ◌&&◌, ◌||◌, not, IsTrue, List, [], ◌∷◌, length, Option, Some, None}
use Rattle.p8_tree.specs.Expressions.{Tree}
use Rattle.p8_tree.specs.declared.faults.Fault.{Fault}
use Rattle.p8_tree.specs.Faults.{fault}
use Rattle.p8_tree.specs.declared.refusal.Refusal.TheVariants.{WrongArity, NoPub, TooManyObjects}
use Rattle.p8_fold.specs.Meanings.{Setting}
use Rattle.p8_fold.specs.Values.{value, FaultIn, is_zero}
use Rattle.p8_constants.specs.Constants.{counted}
use Rattle.p8_constants.specs.FileItems.{Item, variable, object, method}

-- one of the items breaks a rule
abbrev pub InAny : (Item → Fault → Type 0) → List Item → Fault → Type 0
InAny Rule [] f = ⊥
InAny Rule (x ∷ xs) f = Rule x f ⊎ InAny Rule xs f

-- ---- methods

-- how many parameters a method may have
abbrev pub most_params : ℕ
most_params = 15

-- 17 at a method with more parameters
abbrev pub HasTooManyParams : Item → Fault → Type 0
HasTooManyParams (method m) f = (most_params < length m.params) × (fault WrongArity m.place ≡ f)
HasTooManyParams x f = ⊥

abbrev pub is_public : Item → Bool
is_public (method m) = m.public
is_public x = false

abbrev pub has_public : List Item → Bool
has_public [] = false
has_public (x ∷ xs) = is_public x || has_public xs

-- 18 at the beginning of a top file without a PUB
abbrev pub LacksPub : Bool → List Item → Fault → Type 0
LacksPub top xs f = IsTrue (top && not (has_public xs)) × (fault NoPub (record { line = 1; column = 1 }) ≡ f)

-- ---- counts in brackets

-- the value of a count: 1 where there is none, 0 where it is refused
abbrev pub count_in : Setting → Option Tree → ℕ
count_in s None = 1
count_in s (Some e) = counted (value s e)

-- the faults of a count
abbrev pub FaultInCount : Setting → Option Tree → Fault → Type 0
FaultInCount s None f = ⊥
FaultInCount s (Some e) f = FaultIn s e f

-- the count of a variable or of an object
abbrev pub count_of : Item → Option Tree
count_of (variable x) = x.count
count_of (object x) = x.count
count_of x = None

abbrev pub HasFaultInCount : Setting → Item → Fault → Type 0
HasFaultInCount s x f = FaultInCount s (count_of x) f

-- how many instances of objects a file may have
abbrev pub most_instances : ℕ
most_instances = 255

-- no instance: a count of 0; one that is refused is no such count
abbrev pub has_no_instance : Setting → Option Tree → Bool
has_no_instance s None = false
has_no_instance s (Some e) = is_zero (value s e)

-- with so many instances before it, an item has the first one too many
abbrev pub passes_limit : ℕ → ℕ → Bool
passes_limit before count = nat_le before most_instances && nat_lt most_instances (before + count)

-- 20 at an item of OBJ without an instance, and at the one that has the first one too many
abbrev pub HasWrongInstances : Setting → ℕ → Item → Fault → Type 0
HasWrongInstances s before (object x) f = IsTrue (has_no_instance s x.count || passes_limit before (count_in s x.count)) × (fault TooManyObjects x.place ≡ f)
HasWrongInstances s before x f = ⊥

-- the instances after an item
abbrev pub instances_behind : Setting → ℕ → Item → ℕ
instances_behind s before (object x) = before + count_in s x.count
instances_behind s before x = before

-- one of the items has wrong instances, with so many before them
abbrev pub WrongInstancesIn : Setting → ℕ → List Item → Fault → Type 0
WrongInstancesIn s before [] f = ⊥
WrongInstancesIn s before (x ∷ xs) f = HasWrongInstances s before x f ⊎ WrongInstancesIn s (instances_behind s before x) xs f
