-- Names that are defined twice, 14 at the later one: in the space of a file, among a method's own names and those of its
-- file, and local labels between two other labels. Source: the Propeller Manual v1.2, "Symbol Rules" and "DAT" of the Spin
-- chapter; numbers and places are this project's profile.
use Rattle.std.specs.Prelude.{◌≡◌, ◌⊎◌, ℕ, List, [], ◌∷◌, ◌++◌, Option, Some, None, IsTrue, Contains, if◌then◌else◌}
use Rattle.p8_tree.specs.declared.places.Place.{Place}
use Rattle.p8_tree.specs.declared.faults.Fault.{Fault}
use Rattle.p8_tree.specs.Faults.{fault}
use Rattle.p8_tree.specs.declared.refusal.Refusal.TheVariants.{Duplicate}
use Rattle.p8_tree.specs.Names.{is_local}
use Rattle.p8_constants.specs.FileItems.{Item, method, line}
use Rattle.p8_constants.specs.Names.{Defined, place_of, predefined_names, names_of, own_names}

-- a name is among those before it
abbrev pub Repeats : List (List ℕ) → Defined → Fault → Type 0
Repeats before d f = Contains before d.name × (fault Duplicate d.place ≡ f)

-- one of these names is among those before it
abbrev pub RepeatIn : List (List ℕ) → List Defined → Fault → Type 0
RepeatIn before [] f = ⊥
RepeatIn before (d ∷ ds) f = Repeats before d f ⊎ RepeatIn (before ++ d.name ∷ []) ds f

-- a name of a file is defined twice, or is one that the language defines
abbrev pub NameRepeatIn : List Item → Fault → Type 0
NameRepeatIn xs f = RepeatIn predefined_names (names_of xs) f

-- a method's own name is one of these, of its file, or stands twice in the method
abbrev pub HasOwnRepeat : List (List ℕ) → Item → Fault → Type 0
HasOwnRepeat names (method m) f = RepeatIn names (own_names m) f
HasOwnRepeat names x f = ⊥

-- ---- local labels

-- the local labels since the last other label, after a line with this label
abbrev pub region_behind : List (List ℕ) → Option (List ℕ) → List (List ℕ)
region_behind region None = region
region_behind region (Some n) = if is_local n then region ++ n ∷ [] else []

-- a local label is among those since the last other label
abbrev pub LabelRepeats : List (List ℕ) → Option (List ℕ) → Place → Fault → Type 0
LabelRepeats region None place f = ⊥
LabelRepeats region (Some n) place f = IsTrue (is_local n) × Contains region n × (fault Duplicate place ≡ f)

-- the label of a line
abbrev pub label_of : Item → Option (List ℕ)
label_of (line x) = x.label
label_of x = None

-- one of the lines has a local label for the second time since the last other label
abbrev pub LabelRepeatIn : List (List ℕ) → List Item → Fault → Type 0
LabelRepeatIn region [] f = ⊥
LabelRepeatIn region (x ∷ xs) f = LabelRepeats region (label_of x) (place_of x) f ⊎ LabelRepeatIn (region_behind region (label_of x)) xs f
