-- The kinds of a file's names.
--
-- Variables stand in the object's memory longs first, then words, then bytes, each in the order of the source. PUBs are
-- numbered from 1 in their order, and PRIs after them. The instances of objects come after the methods in the object's
-- table. A label has the size of what stands at it. A method's frame has its result, its parameters and its locals, each a
-- long. Sources: the Propeller Manual v1.2, "VAR", "PUB", "OBJ" and "DAT" of the Spin chapter; the limits, at which offsets and
-- numbers stop, are this project's profile.
use Rattle.std.specs.Prelude.{ℕ, ◌+◌, ◌*◌, nat_lt, ◌==◌, Bool, if◌then◌else◌, List, [], ◌∷◌, ◌++◌, length, Option, Some, None, zero, suc, slice_get}
use Rattle.std.specs.List.{flat_map}
use Rattle.std.specs.Prelude.{min}
use Rattle.std.specs.Map.{lookup}
use Rattle.std.specs.Str.{bytes_eq}
use Rattle.p8_tree.specs.Sources as trees
use Rattle.p8_tree.specs.Sources.{Contents, Declared, MethodTree}
use Rattle.p8_fold.specs.Meanings.{Setting, meaning_of, given, value_of_meaning}
use Rattle.p8_constants.specs.Constants.{counted}
use Rattle.p8_constants.specs.FileItems.{Item, constant, variable, object, method, line}
use Rattle.p8_constants.specs.Names.{name_of, own_names, spelled}
use Rattle.p8_constants.specs.Rules.{count_in}
use Rattle.p8_kinds.specs.declared.name_kinds.NameKind.{NameKind}
use Rattle.p8_kinds.specs.declared.name_kinds.NameKind.TheVariants as kind
use Rattle.p8_kinds.specs.Kinds.{or_else}
use Rattle.p8_names.specs.Settings.{has_name, predefined_value, hiding}

-- ---- variables

-- where offsets stop
abbrev pub greatest_offset : ℕ
greatest_offset = 1048576

-- the bytes of a variable whose size is so
abbrev pub bytes_in : Setting → (ℕ → Bool) → Item → ℕ
bytes_in s fits (variable x) = if fits x.size then x.size * count_in s x.count else 0
bytes_in s fits x = 0

abbrev pub room : Setting → (ℕ → Bool) → List Item → ℕ
room s fits [] = 0
room s fits (x ∷ xs) = bytes_in s fits x + room s fits xs

-- where a variable stands: after those of greater sizes, and after those of its size that come before it
abbrev pub offset_in : Setting → List Item → List Item → ℕ → ℕ
offset_in s all before size = min (room s (nat_lt size) all + room s (λ z. z == size) before) greatest_offset

-- ---- methods and objects

-- where numbers stop
abbrev pub greatest_number : ℕ
greatest_number = 255

-- a method, and one that is a PUB or no PUB
abbrev pub method_in : Item → List MethodTree
method_in (method m) = m ∷ []
method_in x = []

abbrev pub public_in : Item → List MethodTree
public_in (method m) = if m.public then m ∷ [] else []
public_in x = []

abbrev pub private_in : Item → List MethodTree
private_in (method m) = if m.public then [] else m ∷ []
private_in x = []

abbrev pub methods : List Item → List MethodTree
methods xs = flat_map method_in xs

abbrev pub publics : List Item → List MethodTree
publics xs = flat_map public_in xs

abbrev pub privates : List Item → List MethodTree
privates xs = flat_map private_in xs

-- the methods in the order of their numbers
abbrev pub numbered : List Item → List MethodTree
numbered xs = publics xs ++ privates xs

-- the number of a method, by those before it
abbrev pub number_in : List Item → List Item → Bool → ℕ
number_in all before public = if public then length (publics before) + 1 else length (publics all) + length (privates before) + 1

abbrev pub object_in : Item → List trees.Child
object_in (object x) = x ∷ []
object_in x = []

abbrev pub objects : List Item → List trees.Child
objects xs = flat_map object_in xs

-- the instances of objects
abbrev pub instances : Setting → List trees.Child → ℕ
instances s [] = 0
instances s (x ∷ xs) = count_in s x.count + instances s xs

-- the place of an object's first instance in the object's table
abbrev pub position_in : Setting → List Item → List Item → ℕ
position_in s all before = length (methods all) + 1 + instances s (objects before)

-- ---- labels

abbrev pub size_of_datum : ℕ → Option ℕ → ℕ
size_of_datum size None = size
size_of_datum size (Some own) = own

-- the size of the first element of a line: a datum, the longs of RES or an instruction
abbrev pub element_size : Contents → Option ℕ
element_size (trees.Data size []) = None
element_size (trees.Data size (d ∷ ds)) = Some (size_of_datum size d.size)
element_size (trees.Res e) = Some 4
element_size (trees.Instr x) = Some 4
element_size c = None

abbrev pub element_in : Item → Option ℕ
element_in (line x) = element_size x.contents
element_in x = None

abbrev pub or_size : Option ℕ → ℕ → ℕ
or_size None size = size
or_size (Some own) size = own

-- the size of the first element on these lines, a long where there is none
abbrev pub label_size : List Item → ℕ
label_size [] = 4
label_size (x ∷ xs) = or_size (element_in x) (label_size xs)

-- ---- the names of a file

-- the value of a constant
abbrev pub value_in : Setting → Option (List ℕ) → ℕ
value_in s None = 0
value_in s (Some n) = counted (given value_of_meaning (meaning_of s n))

-- the kind of what an item defines, by all items, by those before it and by those after it
abbrev pub item_kind : Setting → List Item → List Item → Item → List Item → NameKind
item_kind s all before (constant x) behind = kind.Const (value_in s x.name)
item_kind s all before (variable x) behind = kind.Global x.size (offset_in s all before x.size)
item_kind s all before (object x) behind = kind.Object (length (objects before)) (min (position_in s all before) greatest_number)
    (min (count_in s x.count) greatest_number)
item_kind s all before (method m) behind = kind.Method (min (number_in all before m.public) greatest_number) (min (length m.params) greatest_number)
item_kind s all before (line x) behind = kind.Label (label_size (line x ∷ behind))

-- the kind of a name by its first definition among items that stand after others
abbrev pub kind_among : Setting → List Item → List Item → List Item → List ℕ → Option NameKind
kind_among s all before [] n = None
kind_among s all before (x ∷ xs) n = if has_name (name_of x) n then Some (item_kind s all before x xs) else kind_among s all (before ++ x ∷ []) xs n

abbrev pub kind_or : Option ℕ → Option NameKind → Option NameKind
kind_or None other = other
kind_or (Some v) other = Some (kind.Const v)

-- what a name of the whole file is
abbrev pub file_kind : Setting → List Item → List ℕ → Option NameKind
file_kind s xs n = kind_or (predefined_value n) (kind_among s xs [] xs n)

-- ---- the names of a method

-- the kind of a parameter, the result or a local: it stands in the frame after so many longs
abbrev pub behind_longs : ℕ → NameKind
behind_longs n = kind.Local (min (4 * n) greatest_offset)

abbrev pub param_kinds : ℕ → List (List ℕ) → List (List ℕ × NameKind)
param_kinds longs [] = []
param_kinds longs (n ∷ ns) = (n, behind_longs longs) ∷ param_kinds (longs + 1) ns

abbrev pub result_kind : Option (List ℕ) → List (List ℕ × NameKind)
result_kind None = []
result_kind (Some n) = (n, behind_longs 0) ∷ []

abbrev pub local_kinds : Setting → ℕ → List Declared → List (List ℕ × NameKind)
local_kinds s longs [] = []
local_kinds s longs (x ∷ xs) = (x.name, behind_longs longs) ∷ local_kinds s (longs + count_in s x.count) xs

-- where a constant is needed in a method, its own names are none
abbrev pub method_setting : Setting → MethodTree → Setting
method_setting s m = hiding (spelled (own_names m)) s

-- the own names of a method, by what names mean in its counts
abbrev pub frame_kinds : Setting → MethodTree → List (List ℕ × NameKind)
frame_kinds s m = param_kinds 1 m.params ++ (result_kind m.result_name ++ local_kinds s (length m.params + 1) m.locals)

abbrev pub own_kinds : Setting → MethodTree → List (List ℕ × NameKind)
own_kinds s m = frame_kinds (method_setting s m) m

abbrev pub own_kind : Setting → Option MethodTree → List ℕ → Option NameKind
own_kind s None n = None
own_kind s (Some m) n = lookup (bytes_eq n) (own_kinds s m)

-- what a name is: at 0 of the whole file, at a method's number of the method
abbrev pub kinds : Setting → List Item → ℕ → List ℕ → Option NameKind
kinds s xs zero n = file_kind s xs n
kinds s xs (suc i) n = own_kind s (slice_get (numbered xs) i) n

-- what a name is in a method: one of its own, or else one of the whole file
abbrev pub kind_in_method : Setting → List Item → MethodTree → List ℕ → Option NameKind
kind_in_method s xs m n = or_else (own_kind s (Some m) n) (file_kind s xs n)
