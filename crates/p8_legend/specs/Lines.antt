-- The lines of code, by the statements from which they are made.
use Rattle.std.specs.Prelude.{ℕ, ◌+◌, ◌≡◌, ◌≤◌, ◌<◌, List, [], ◌∷◌, ◌++◌, length, map, flat_map, All, Contains}
use Rattle.p8_tree.specs.declared.places.Place.{Place}
use Rattle.p8_tree.specs.Statements.{Statement, statement, Action, Do, If, Case, Repeat, Next, Quit, Return, Abort, arm, Otherwise, nothing_else}
use Rattle.p8_tree.specs.Statements.{otherwise, Statements, no_statements, ◌▹◌, Arms, no_arms, ◌⊳◌}
use Rattle.p8_bytecode.specs.declared.op.Op.{Op}
use Rattle.p8_bytecode.specs.Spelling.{spelled}
use Rattle.p8_gen.specs.Pieces.{Written}

-- ---- where bytecodes begin

-- bytecodes that stand one after the other from a place on
abbrev pub begins_from : (place : ℕ) → List Op → List ℕ
begins_from place [] = []
begins_from place (op ∷ ops) = place ∷ begins_from (place + length (spelled op)) ops

-- where a line begins
abbrev pub begin_of : ℕ × Place → ℕ
begin_of line = line.0

-- ---- the places of a statement and of the statements inside it

abbrev mutual
  pub places_of : Statement → List Place
  places_of (statement place action) = place ∷ places_in action

  pub places_in : Action → List Place
  places_in (Do e) = []
  places_in (If arms other) = places_of_arms arms ++ places_of_other other
  places_in (Case e arms other) = places_of_arms arms ++ places_of_other other
  places_in (Repeat course ss) = places_of_body ss
  places_in Next = []
  places_in Quit = []
  places_in (Return e) = []
  places_in (Abort e) = []

  pub places_of_body : Statements → List Place
  places_of_body no_statements = []
  places_of_body (ss ▹ s) = places_of_body ss ++ places_of s

  pub places_of_arms : Arms → List Place
  places_of_arms no_arms = []
  places_of_arms (arms ⊳ arm items negated ss) = places_of_arms arms ++ places_of_body ss

  pub places_of_other : Otherwise → List Place
  places_of_other nothing_else = []
  places_of_other (otherwise ss) = places_of_body ss

-- ---- lines

-- a line of a bytecode that begins at one of these places of the code, and is made from a statement at one of these of the source
pub record IsLineOf (places : List Place) (begin end : ℕ) (line : ℕ × Place) : Type 0 where
  pub made : Contains places line.1
  pub begins : begin ≤ line.0
  pub ends : line.0 < end

-- The code after it has these bytecodes behind those of the code before it, one after the other, and for each of them its line, which begins where
-- the bytecode does. Each of the lines is made from a statement at one of these places.
pub record AddsLines (places : List Place) (before after : Written) : Type 0 where
  pub ops : List Op
  pub lines : List (ℕ × Place)
  pub codes : after.ops ≡ before.ops ++ ops
  pub behind : after.lines ≡ before.lines ++ lines
  pub ends : after.end ≡ before.end + length (flat_map spelled ops)
  pub begins : map begin_of lines ≡ begins_from before.end ops
  pub each : All (IsLineOf places before.end after.end) lines
