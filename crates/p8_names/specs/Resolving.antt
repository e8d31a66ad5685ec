-- internal: what is known while the names of a file are resolved.
use Rattle.std.specs.Prelude.{◌≡◌, ◌⊎◌, ℕ, suc, ◌<◌, Bool, List, [], length, slice_get}
use Rattle.p8_tree.specs.Sources.{MethodTree}
use Rattle.p8_tree.specs.declared.faults.Fault.{Fault}
use Rattle.p8_fold.specs.Meanings.{Setting}
use Rattle.p8_constants.specs.FileItems.{Item}
use Rattle.p8_constants.specs.Names.{file_names}
use Rattle.p8_constants.specs.Repeats.{NameRepeatIn, HasOwnRepeat, LabelRepeatIn}
use Rattle.p8_constants.specs.Rules.{InAny, HasTooManyParams, LacksPub, HasFaultInCount, WrongInstancesIn}
use Rattle.p8_kinds.specs.declared.kinds.Kinds.{Kinds}
use Rattle.p8_kinds.specs.Kinds.{own}
use Rattle.p8_names.specs.Kinds.{own_kind, numbered}
use Rattle.p8_names.specs.Faults.{InMethods, UnknownInLines, labels_ahead}
use Rattle.p8_names.specs.Looking.{IsFaultIn}
use Rattle.p8_names.specs.Regions.{environment_at}

-- a name that is defined twice
abbrev pub RepeatInFile : List Item → Fault → Type 0
RepeatInFile xs f = NameRepeatIn xs f ⊎ (InAny (HasOwnRepeat (file_names xs)) xs f ⊎ LabelRepeatIn [] xs f)

-- methods' heads, counts and instances
abbrev pub BrokenByItems : Setting → List Item → Bool → Fault → Type 0
BrokenByItems s xs top f = (InAny HasTooManyParams xs f ⊎ LacksPub top xs f) ⊎ (InAny (HasFaultInCount s) xs f ⊎ WrongInstancesIn s 0 xs f)

-- the own names of the first methods stand at their numbers, and all others are what they were
pub record HasMethods (old new : Kinds) (s : Setting) (ms : List MethodTree) (count : ℕ) : Type 0 where
  pub file : (n : List ℕ) → own new 0 n ≡ own old 0 n
  pub methods : (k : ℕ) (n : List ℕ) → k < count → own new (suc k) n ≡ own_kind s (slice_get ms k) n
  pub others : (m : ℕ) (n : List ℕ) → count < m → own new m n ≡ own old m n

-- those of all methods
pub record HasAllMethods (old new : Kinds) (s : Setting) (ms : List MethodTree) : Type 0 where
  pub file : (n : List ℕ) → own new 0 n ≡ own old 0 n
  pub methods : (k : ℕ) (n : List ℕ) → k < length ms → own new (suc k) n ≡ own_kind s (slice_get ms k) n

-- the uses of names in methods and in DAT, by the kinds of the whole file
abbrev pub MisusedBy : Kinds → Kinds → Setting → List Item → Fault → Type 0
MisusedBy kinds publics s xs f = InMethods (IsFaultIn kinds publics s) (numbered xs) f ⊎ UnknownInLines (environment_at kinds publics s) (labels_ahead xs) xs f

-- all but constants
abbrev pub BrokenBy : Kinds → Kinds → Setting → List Item → Bool → Fault → Type 0
BrokenBy kinds publics s xs top f = (RepeatInFile xs f ⊎ BrokenByItems s xs top f) ⊎ MisusedBy kinds publics s xs f
