-- internal: what the code counts while it goes through items.
use Rattle.std.specs.Prelude.{◌≡◌, ℕ, ◌+◌, ◌<◌, min, if◌then◌else◌, List, length, Option, Some, None}
use Rattle.std.specs.Map.{lookup}
use Rattle.std.specs.Str.{bytes_eq}
use Rattle.p8_kinds.specs.declared.kinds.Kinds.{Kinds}
use Rattle.p8_kinds.specs.declared.name_kinds.NameKind.{NameKind}
use Rattle.p8_kinds.specs.Kinds.{own, or_else}
use Rattle.p8_names.specs.Settings.{has_name}
use Rattle.p8_fold.specs.Meanings.{Setting}
use Rattle.p8_tree.specs.Proper.{IsSize}
use Rattle.p8_constants.specs.FileItems.{Item, constant, variable, line}
use Rattle.p8_names.specs.declared.next_kinds.Next.{Next}
use Rattle.p8_names.specs.Kinds.{offset_in, kind_or, publics, privates, objects, position_in, greatest_number}

-- what the next item gets, after these of all
pub record IsNext (s : Setting) (all before : List Item) (next : Next) : Type 0 where
  pub long : next.long ≡ offset_in s all before 4
  pub word : next.word ≡ offset_in s all before 2
  pub byte : next.byte ≡ offset_in s all before 1
  pub public : next.public ≡ min (length (publics before) + 1) greatest_number
  pub private : next.private ≡ min (length (publics all) + length (privates before) + 1) greatest_number
  pub item : next.item ≡ length (objects before)
  pub position : next.position ≡ min (position_in s all before) greatest_number

-- a variable has 1, 2 or 4 bytes
abbrev pub HasSize : Item → Type 0
HasSize (variable x) = IsSize x.size
HasSize x = Unit {0}

-- an item of CON and a line of DAT, after which the next one gets the same
abbrev pub HasNoPart : Item → Type 0
HasNoPart (constant x) = Unit {0}
HasNoPart (line x) = Unit {0}
HasNoPart x = ⊥

-- a kind at a name of the whole file, where there is one and it had none
pub record IsEntered (old new : Kinds) (o : Option (List ℕ)) (kind : NameKind) : Type 0 where
  pub file : (n : List ℕ) → own new 0 n ≡ or_else (own old 0 n) (if has_name o n then Some kind else None)
  pub methods : (m : ℕ) (n : List ℕ) → 0 < m → own new m n ≡ own old m n

-- the constants of the language, where the names had no kinds
pub record AreEntered (old new : Kinds) (table : List (List ℕ × ℕ)) : Type 0 where
  pub file : (n : List ℕ) → own new 0 n ≡ or_else (own old 0 n) (kind_or (lookup (bytes_eq n) table) None)
  pub methods : (m : ℕ) (n : List ℕ) → 0 < m → own new m n ≡ own old m n

-- a kind at a method's own name, where it had none
pub record IsEnteredAt (old new : Kinds) (number : ℕ) (name : List ℕ) (kind : NameKind) : Type 0 where
  pub here : (n : List ℕ) → own new number n ≡ or_else (own old number n) (if bytes_eq n name then Some kind else None)
  pub others : (m : ℕ) (n : List ℕ) → ¬ (m ≡ number) → own new m n ≡ own old m n

-- the kinds of such names
pub record AreEnteredAt (old new : Kinds) (number : ℕ) (list : List (List ℕ × NameKind)) : Type 0 where
  pub here : (n : List ℕ) → own new number n ≡ or_else (own old number n) (lookup (bytes_eq n) list)
  pub others : (m : ℕ) (n : List ℕ) → ¬ (m ≡ number) → own new m n ≡ own old m n
