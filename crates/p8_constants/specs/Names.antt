-- The names of a file. Constants, variables, objects, methods and the labels of DAT share one space, and so do the constants
-- that the language defines; the names of a method's parameters, result and locals are its own. Sources: the Propeller Manual
-- v1.2, "Block Designators", "Constants (pre-defined)" and "Symbol Rules" of the Spin chapter; that a method's own names may
-- not repeat one of the file is this project's profile.
use Rattle.std.specs.Prelude.{ℕ, ◌==◌, if◌then◌else◌, List, [], ◌∷◌, ◌++◌, map, Option, Some, None, codes}
use Rattle.p8_tree.specs.declared.places.Place.{Place}
use Rattle.p8_tree.specs.Sources.{Declared, MethodTree}
use Rattle.p8_tree.specs.Names.{is_local}
use Rattle.p8_constants.specs.FileItems.{Item, constant, variable, object, method, line}

-- the constants that the language defines, with their values: truth and limits, and those of the clock
unfoldable pub truth_and_limits : List (List ℕ × ℕ)
truth_and_limits = (codes "TRUE", 0xFFFFFFFF) ∷ (codes "FALSE", 0) ∷ (codes "POSX", 0x7FFFFFFF) ∷ (codes "NEGX", 0x80000000) ∷ []

unfoldable pub internal_clocks : List (List ℕ × ℕ)
internal_clocks = (codes "RCFAST", 0x001) ∷ (codes "RCSLOW", 0x002) ∷ []

unfoldable pub external_clocks : List (List ℕ × ℕ)
external_clocks = (codes "XINPUT", 0x004) ∷ (codes "XTAL1", 0x008) ∷ (codes "XTAL2", 0x010) ∷ (codes "XTAL3", 0x020) ∷ []

unfoldable pub low_factors : List (List ℕ × ℕ)
low_factors = (codes "PLL1X", 0x040) ∷ (codes "PLL2X", 0x080) ∷ (codes "PLL4X", 0x100) ∷ []

unfoldable pub high_factors : List (List ℕ × ℕ)
high_factors = (codes "PLL8X", 0x200) ∷ (codes "PLL16X", 0x400) ∷ []

abbrev pub clock_factors : List (List ℕ × ℕ)
clock_factors = low_factors ++ high_factors

unfoldable pub predefined : List (List ℕ × ℕ)
predefined = truth_and_limits ++ (internal_clocks ++ (external_clocks ++ clock_factors))

abbrev pub predefined_names : List (List ℕ)
predefined_names = map (λ x. x.0) predefined

-- a name, and where it is defined
pub record Defined : Type 0 where
  pub name : List ℕ
  pub place : Place

abbrev pub defined : List ℕ → Place → Defined
defined name place = record { name = name; place = place }

-- a label that is a name of the file
abbrev pub label_name : Option (List ℕ) → Option (List ℕ)
label_name None = None
label_name (Some n) = if is_local n then None else Some n

-- the name that an item defines in the space of its file
abbrev pub name_of : Item → Option (List ℕ)
name_of (constant x) = x.name
name_of (variable x) = Some x.name
name_of (object x) = Some x.name
name_of (method x) = Some x.name
name_of (line x) = label_name x.label

-- where it stands: an item that has a name begins with it, but for PUB and PRI
abbrev pub place_of : Item → Place
place_of (constant x) = x.place
place_of (variable x) = x.place
place_of (object x) = x.place
place_of (method x) = x.place
place_of (line x) = x.place

abbrev pub defined_before : Option (List ℕ) → Place → List Defined → List Defined
defined_before None place rest = rest
defined_before (Some n) place rest = defined n place ∷ rest

-- the names that items define, in their order
abbrev pub names_of : List Item → List Defined
names_of [] = []
names_of (x ∷ xs) = defined_before (name_of x) (place_of x) (names_of xs)

abbrev pub spelled : List Defined → List (List ℕ)
spelled ds = map (λ d. d.name) ds

-- all names of the space of a file
abbrev pub file_names : List Item → List (List ℕ)
file_names xs = predefined_names ++ spelled (names_of xs)

-- ---- a method's own names

abbrev pub params_of : List (List ℕ) → List Place → List Defined
params_of (n ∷ ns) (p ∷ ps) = defined n p ∷ params_of ns ps
params_of _ _ = []

abbrev pub result_of : Option (List ℕ) → Option Place → List Defined
result_of (Some n) (Some p) = defined n p ∷ []
result_of _ _ = []

abbrev pub local_of : Declared → Defined
local_of x = defined x.name x.place

-- the parameters, the result and the locals of a method
abbrev pub own_names : MethodTree → List Defined
own_names m = params_of m.params m.param_places ++ (result_of m.result_name m.result_place ++ map local_of m.locals)
