-- Which blocks are open for a line, by columns alone, and which lines may stand there.
use Rattle.std.specs.Prelude.{◌≡◌, ℕ, ◌⊎◌, Bool, ◌&&◌, nat_lt, nat_le, if◌then◌else◌, IsTrue, List, [], ◌∷◌, ◌++◌, Option, Some, None}
use Rattle.std.specs.List.{list_all, last_or}
use Rattle.p8_columns.specs.Lines.{Kind, Plain, If, ElseIf, Else, Repeat, End, Case, Item, Other, Line, column, is_opener, is_arm, is_else}
use Rattle.p8_columns.specs.Lines.{is_plain_repeat, is_case, is_other}
use Rattle.p8_columns.specs.declared.room.Room.{Room}
use Rattle.p8_columns.specs.declared.room.Room.TheVariants as room_case
use Rattle.p8_columns.specs.declared.room.Chain.{Chain}
use Rattle.p8_columns.specs.declared.room.Chain.TheVariants as chain_case

-- an open block: its opener, and the lines since
pub record OpenBlock : Type 0 where
  pub opener : Line
  pub since : List Line

-- whether a line is an open block for a line at column c: an opener to the left of it, and every
-- line since is to the right of the opener
abbrev pub is_open : ℕ → Line → List Line → Bool
is_open c l since = is_opener l.kind && (nat_lt (column l) c && list_all (λ x. nat_lt (column l) (column x)) since)

-- the blocks that are open for a line at column c after these lines, the innermost last
abbrev pub open_for : ℕ → List Line → List OpenBlock
open_for c [] = []
open_for c (l ∷ since) = if is_open c l since then record { opener = l; since = since } ∷ open_for c since else open_for c since

-- the innermost of them; none where it is the method itself
abbrev pub innermost : ℕ → List Line → Option OpenBlock
innermost c lines = last_or None (open_for c lines)

-- the last line that stands at column c or to the left of it
abbrev pub last_up_to : ℕ → List Line → Option Line
last_up_to c [] = None
last_up_to c (l ∷ later) = elim (last_up_to c later) as (λ _. Option Line) [ None ↦ if nat_le (column l) c then Some l else None | Some m ↦ Some m ]

-- that line stands at column c itself and is of such a kind
abbrev pub IsAt : (Kind → Bool) → ℕ → Option Line → Type 0
IsAt test c None = ⊥
IsAt test c (Some l) = (column l ≡ c) × IsTrue (test l.kind)

-- after the lines before, one of these lines is an OTHER that stands in none of their blocks
abbrev pub OtherAfter : List Line → List Line → Type 0
OtherAfter before [] = ⊥
OtherAfter before (l ∷ later) = (IsTrue (is_other l.kind) × (open_for (column l) before ≡ [])) ⊎ OtherAfter (before ++ l ∷ []) later

-- a CASE with these lines since has its OTHER
abbrev pub HasOther : List Line → Type 0
HasOther since = OtherAfter [] since

-- what may stand in an open block, or in the method itself: items and OTHER under a CASE, and
-- nothing more where it has its OTHER; elsewhere statements
abbrev pub HasRoom : Room → Option OpenBlock → Type 0
HasRoom room_case.Statement None = Unit {0}
HasRoom room_case.Item None = ⊥
HasRoom room_case.Nothing None = ⊥
HasRoom room_case.Statement (Some b) = ¬ IsTrue (is_case b.opener.kind)
HasRoom room_case.Item (Some b) = IsTrue (is_case b.opener.kind) × ¬ HasOther b.since
HasRoom room_case.Nothing (Some b) = IsTrue (is_case b.opener.kind) × HasOther b.since

-- the chain at column c, from the last line up to that column: it may go on, or has its ELSE, or
-- there is none
abbrev pub HasChain : Chain → ℕ → Option Line → Type 0
HasChain chain_case.Begun c l = IsAt is_arm c l
HasChain chain_case.Ended c l = IsAt is_else c l
HasChain chain_case.Missing c l = ¬ IsAt is_arm c l × ¬ IsAt is_else c l

-- a line fits after these lines
abbrev pub FitsAs : Kind → ℕ → List Line → Type 0
FitsAs (ElseIf negated test) c lines = HasChain chain_case.Begun c (last_up_to c lines)
FitsAs Else c lines = HasChain chain_case.Begun c (last_up_to c lines)
FitsAs (End until test) c lines = IsAt is_plain_repeat c (last_up_to c lines)
FitsAs (Item tests) c lines = HasRoom room_case.Item (innermost c lines)
FitsAs Other c lines = HasRoom room_case.Item (innermost c lines)
FitsAs (Plain action) c lines = HasRoom room_case.Statement (innermost c lines)
FitsAs (If negated test) c lines = HasRoom room_case.Statement (innermost c lines)
FitsAs (Repeat course) c lines = HasRoom room_case.Statement (innermost c lines)
FitsAs (Case value) c lines = HasRoom room_case.Statement (innermost c lines)

abbrev pub Fits : List Line → Line → Type 0
Fits lines l = FitsAs l.kind (column l) lines

-- each of these lines fits after those before it
abbrev pub FitAfter : List Line → List Line → Type 0
FitAfter before [] = Unit {0}
FitAfter before (l ∷ later) = Fits before l × FitAfter (before ++ l ∷ []) later

abbrev pub AllFit : List Line → Type 0
AllFit lines = FitAfter [] lines
