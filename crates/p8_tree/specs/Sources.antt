-- Sources as trees.
use Rattle.std.specs.Prelude.{ℕ, Bool, List, Option}
use Rattle.p8_tree.specs.declared.places.Place.{Place}
use Rattle.p8_tree.specs.Expressions.{Tree}
use Rattle.p8_tree.specs.Statements.{Statements}

-- an item of CON
pub record Constant : Type 0 where
  pub place : Place
  pub name : Option (List ℕ)
  pub value : Option Tree
  pub step : Option Tree
  pub sets : Bool

-- a variable of VAR or a local of a method
pub record Declared : Type 0 where
  pub place : Place
  pub size : ℕ
  pub name : List ℕ
  pub count : Option Tree

-- an item of OBJ
pub record Child : Type 0 where
  pub place : Place
  pub name : List ℕ
  pub count : Option Tree
  pub file : List ℕ
  pub file_place : Place

pub record MethodTree : Type 0 where
  pub place : Place
  pub public : Bool
  pub name : List ℕ
  pub params : List (List ℕ)
  pub param_places : List Place
  pub result_name : Option (List ℕ)
  pub result_place : Option Place
  pub locals : List Declared
  pub body : Statements

-- an item of a line of data
pub record Datum : Type 0 where
  pub size : Option ℕ
  pub value : Tree
  pub count : Option Tree

pub record Instruction : Type 0 where
  pub cond : ℕ
  pub word : List ℕ
  pub dest : Option Tree
  pub dest_place : Place
  pub immediate : Bool
  pub source : Option Tree
  pub source_place : Place
  pub effects : ℕ

-- what a line of DAT has after its label
pub data Contents : Type 0 where
  Nothing : Contents
  Data : ℕ → List Datum → Contents
  Org : Option Tree → Contents
  Res : Option Tree → Contents
  Fit : Option Tree → Contents
  Instr : Instruction → Contents

-- a line of DAT
pub record Line : Type 0 where
  pub place : Place
  pub label : Option (List ℕ)
  pub word_place : Place
  pub contents : Contents

pub data BlockTree : Type 0 where
  Con : List Constant → BlockTree
  Var : List Declared → BlockTree
  Obj : List Child → BlockTree
  Method : MethodTree → BlockTree
  Dat : List Line → BlockTree

-- a source is its blocks in order
abbrev pub Source : Type 0
Source = List BlockTree
