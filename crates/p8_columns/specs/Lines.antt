-- The lines of a method: where each begins, and what its first words make of it.
use Rattle.std.specs.Prelude.{ℕ, Bool, true, false}
use Rattle.p8_tree.specs.declared.places.Place.{Place}
use Rattle.p8_tree.specs.Expressions.{Tree, Items}
use Rattle.p8_tree.specs.Statements.{Course, Forever, Action}

-- A flag is set for IFNOT, for ELSEIFNOT and for UNTIL.
pub data Kind : Type 0 where
  -- a statement that has no lines of its own
  Plain : Action → Kind
  If : Bool → Tree → Kind
  ElseIf : Bool → Tree → Kind
  Else : Kind
  Repeat : Course → Kind
  -- a line that begins with WHILE or UNTIL
  End : Bool → Tree → Kind
  Case : Tree → Kind
  -- the tests of a CASE's item
  Item : Items → Kind
  Other : Kind

pub record Line : Type 0 where
  pub place : Place
  pub kind : Kind

abbrev pub line : Place → Kind → Line
line p k = record { place = p; kind = k }

abbrev pub column : Line → ℕ
column l = l.place.column

-- an opener: the lines to its right are a block of its own
abbrev pub is_opener : Kind → Bool
is_opener (Plain action) = false
is_opener (If negated test) = true
is_opener (ElseIf negated test) = true
is_opener Else = true
is_opener (Repeat course) = true
is_opener (End until test) = false
is_opener (Case value) = true
is_opener (Item tests) = true
is_opener Other = true

-- an arm of a chain that may go on
abbrev pub is_arm : Kind → Bool
is_arm (If negated test) = true
is_arm (ElseIf negated test) = true
is_arm _ = false

abbrev pub is_else : Kind → Bool
is_else Else = true
is_else _ = false

abbrev pub is_repeat : Kind → Bool
is_repeat (Repeat course) = true
is_repeat _ = false

-- a REPEAT with nothing after it
abbrev pub is_plain_repeat : Kind → Bool
is_plain_repeat (Repeat Forever) = true
is_plain_repeat _ = false

abbrev pub is_case : Kind → Bool
is_case (Case value) = true
is_case _ = false

abbrev pub is_other : Kind → Bool
is_other Other = true
is_other _ = false
