-- Statements as trees.
use Rattle.std.specs.Prelude.{ℕ, Bool, List, Option}
use Rattle.p8_tree.specs.declared.places.Place.{Place}
use Rattle.p8_tree.specs.Expressions.{Tree, Items}

infixl 40 ◌▹◌
infixl 40 ◌⊳◌
-- how a REPEAT goes on: a flag is set for UNTIL, and the place is that of the counter's name
pub data Course : Type 0 where
  Forever : Course
  Count : Tree → Course
  Before : Bool → Tree → Course
  After : Bool → Tree → Course
  From : List ℕ → Tree → Tree → Option Tree → Place → Course

mutual
  -- an action, and the place of its first token
  pub data Statement : Type 0 where
    statement : Place → Action → Statement

  pub data Action : Type 0 where
    Do : Tree → Action
    If : Arms → Otherwise → Action
    Case : Tree → Arms → Otherwise → Action
    Repeat : Course → Statements → Action
    Next : Action
    Quit : Action
    Return : Option Tree → Action
    Abort : Option Tree → Action

  -- the tests, whether they are negated, and the body
  pub data Arm : Type 0 where
    arm : Items → Bool → Statements → Arm

  -- the body of ELSE or OTHER, where there is one
  pub data Otherwise : Type 0 where
    nothing_else : Otherwise
    otherwise : Statements → Otherwise

  pub data Statements : Type 0 where
    no_statements : Statements
    ◌▹◌ : Statements → Statement → Statements

  pub data Arms : Type 0 where
    no_arms : Arms
    ◌⊳◌ : Arms → Arm → Arms
