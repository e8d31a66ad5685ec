-- What is wrong with the names of a file: 12 to 18, and 20 by instances. Each fault is a fact about an item, by itself or by
-- the items beside it. Sources: the Propeller Manual v1.2, the Spin chapter; the numbers and places are this project's profile.
use Rattle.std.specs.Prelude.{◌⊎◌, ℕ, Bool, if◌then◌else◌, List, [], ◌∷◌, Option, Some, None}
use Rattle.p8_tree.specs.Expressions.{Tree, node, Str}
use Rattle.p8_tree.specs.Sources as trees
use Rattle.p8_tree.specs.Sources.{Contents, Datum, Declared, MethodTree, Source}
use Rattle.p8_tree.specs.declared.faults.Fault.{Fault}
use Rattle.p8_tree.specs.Names.{is_local}
use Rattle.p8_fold.specs.Meanings.{Setting}
use Rattle.p8_constants.specs.Constants.{IsConstantFault}
use Rattle.p8_constants.specs.FileItems.{Item, line, items}
use Rattle.p8_constants.specs.Names.{file_names}
use Rattle.p8_constants.specs.Repeats.{NameRepeatIn, HasOwnRepeat, LabelRepeatIn, label_of}
use Rattle.p8_constants.specs.Rules.{InAny, HasTooManyParams, LacksPub, FaultInCount, HasFaultInCount, WrongInstancesIn}
use Rattle.p8_kinds.specs.declared.children.Children.{Children}
use Rattle.p8_kinds.specs.declared.name_kinds.NameKind.{NameKind}
use Rattle.p8_kinds.specs.declared.name_kinds.NameKind.TheVariants as kind
use Rattle.p8_kinds.specs.Environments.{Environment}
use Rattle.p8_kinds.specs.Kinds.{or_else}
use Rattle.p8_kinds.specs.Publics.{public_of}
use Rattle.p8_kinds.specs.Misuses.{MisuseInStatements, UnknownIn}
use Rattle.p8_names.specs.Settings.{outside, IsSetting, is_one_of}
use Rattle.p8_names.specs.Kinds.{file_kind, kind_in_method, method_setting, numbered}

-- ---- methods

-- what is known of names in a method
abbrev pub in_method : Setting → List Item → Children → MethodTree → Environment
in_method s xs children m = record { kind = kind_in_method s xs m; public = public_of children; constants = method_setting s m }

-- one of some methods breaks a rule
abbrev pub InMethods : (MethodTree → Fault → Type 0) → List MethodTree → Fault → Type 0
InMethods Rule [] f = ⊥
InMethods Rule (m ∷ ms) f = Rule m f ⊎ InMethods Rule ms f

-- the counts of locals
abbrev pub FaultInLocals : Setting → List Declared → Fault → Type 0
FaultInLocals s [] f = ⊥
FaultInLocals s (x ∷ xs) f = FaultInCount s x.count f ⊎ FaultInLocals s xs f

-- these, and the uses of names in the body
abbrev pub IsMethodFault : Setting → List Item → Children → MethodTree → Fault → Type 0
IsMethodFault s xs children m f = FaultInLocals (method_setting s m) m.locals f ⊎ MisuseInStatements (in_method s xs children m) m.body f

-- ---- DAT

-- the local labels up to the next other label
abbrev pub with_label : Option (List ℕ) → List (List ℕ) → List (List ℕ)
with_label None rest = rest
with_label (Some n) rest = if is_local n then n ∷ rest else []

abbrev pub labels_ahead : List Item → List (List ℕ)
labels_ahead [] = []
labels_ahead (x ∷ xs) = with_label (label_of x) (labels_ahead xs)

-- the local labels that a line sees: another label begins anew, with those ahead
abbrev pub labels_at : List (List ℕ) → Option (List ℕ) → List Item → List (List ℕ)
labels_at region None behind = region
labels_at region (Some n) behind = if is_local n then region else labels_ahead behind

abbrev pub local_label : List (List ℕ) → List ℕ → Option NameKind
local_label region n = if is_one_of region n then Some (kind.Label 4) else None

-- what is known of names in DAT
abbrev pub in_data : Setting → List Item → Children → List (List ℕ) → Environment
in_data s xs children region = record { kind = λ n. or_else (local_label region n) (file_kind s xs n); public = public_of children; constants = s }

abbrev pub UnknownInOption : Environment → Option Tree → Fault → Type 0
UnknownInOption env None f = ⊥
UnknownInOption env (Some e) f = UnknownIn env e f

-- the count of a datum, in brackets after its value. A string stands there once, and what stands after it isn't looked at
abbrev pub count_of_datum : Tree → Option Tree → Option Tree
count_of_datum (node p (Str text)) count = None
count_of_datum value count = count

abbrev pub UnknownInData : Environment → List Datum → Fault → Type 0
UnknownInData env [] f = ⊥
UnknownInData env (d ∷ ds) f = (UnknownIn env d.value f ⊎ UnknownInOption env (count_of_datum d.value d.count) f) ⊎ UnknownInData env ds f

abbrev pub UnknownInContents : Environment → Contents → Fault → Type 0
UnknownInContents env trees.Nothing f = ⊥
UnknownInContents env (trees.Data size ds) f = UnknownInData env ds f
UnknownInContents env (trees.Org e) f = UnknownInOption env e f
UnknownInContents env (trees.Res e) f = UnknownInOption env e f
UnknownInContents env (trees.Fit e) f = UnknownInOption env e f
UnknownInContents env (trees.Instr x) f = UnknownInOption env x.dest f ⊎ UnknownInOption env x.source f

abbrev pub HasUnknown : Environment → Item → Fault → Type 0
HasUnknown env (line x) f = UnknownInContents env x.contents f
HasUnknown env x f = ⊥

-- the names of DAT's lines, each with the local labels that it sees
abbrev pub UnknownInLines : (List (List ℕ) → Environment) → List (List ℕ) → List Item → Fault → Type 0
UnknownInLines env region [] f = ⊥
UnknownInLines env region (x ∷ xs) f = HasUnknown (env (labels_at region (label_of x) xs)) x f ⊎ UnknownInLines env (labels_at region (label_of x) xs) xs f

-- ---- all of a file

-- by what the file's names mean
pub data FaultBy (s : Setting) (xs : List Item) (children : Children) (top : Bool) (f : Fault) : Type 0 where
  repeated : NameRepeatIn xs f → FaultBy s xs children top f
  own_repeated : InAny (HasOwnRepeat (file_names xs)) xs f → FaultBy s xs children top f
  label_repeated : LabelRepeatIn [] xs f → FaultBy s xs children top f
  too_many_params : InAny HasTooManyParams xs f → FaultBy s xs children top f
  no_pub : LacksPub top xs f → FaultBy s xs children top f
  count : InAny (HasFaultInCount s) xs f → FaultBy s xs children top f
  instances : WrongInstancesIn s 0 xs f → FaultBy s xs children top f
  of_method : InMethods (IsMethodFault s xs children) (numbered xs) f → FaultBy s xs children top f
  in_line : UnknownInLines (in_data s xs children) (labels_ahead xs) xs f → FaultBy s xs children top f

-- a fault of a constant, or one by what all names mean
pub data IsNameFault (file : Source) (children : Children) (top : Bool) (f : Fault) : Type 0 where
  of_constant : IsConstantFault (outside file children.items) file f → IsNameFault file children top f
  of_name : (s : Setting) → IsSetting file children.items s → FaultBy s (items file) children top f → IsNameFault file children top f
