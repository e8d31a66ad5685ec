-- Expressions as trees, without where they lie in memory. The forms are those of the Propeller
-- Manual's Spin chapter that this project's profile keeps; operators, built-ins and changes are
-- numbered by the bytecode that carries them out.
use Rattle.std.specs.Prelude.{ℕ, Bool, List, Option}
use Rattle.p8_tree.specs.declared.places.Place.{Place}

infixl 40 ◌▷◌
infixl 40 ◌▸◌
mutual
  -- a form, and the place by which refusals name it
  pub data Tree : Type 0 where
    node : Place → Form → Tree

  pub data Form : Type 0 where
    Number : ℕ → Form
    Str : List ℕ → Form
    Strings : Trees → Form
    Here : Form
    Var : Variable → Form
    -- whether it stops an abort, the object with its index, the method's name and place, and the
    -- arguments
    Call : Bool → Option (List ℕ) → Index → List ℕ → Place → Trees → Form
    Unary : ℕ → Tree → Form
    Binary : ℕ → Tree → Tree → Form
    Assign : Variable → Option ℕ → Tree → Form
    Change : Variable → ℕ → Form
    Address : Variable → Form
    ObjectAddress : Tree → Form
    ObjConst : List ℕ → List ℕ → Place → Form
    Built : ℕ → Trees → Form
    Look : ℕ → Tree → Items → Form

  -- each with the place of its first token
  pub data Variable : Type 0 where
    Named : List ℕ → Index → Place → Variable
    Part : List ℕ → ℕ → Index → Place → Variable
    Memory : ℕ → Tree → Index → Place → Variable
    Register : ℕ → Bits → Place → Variable

  pub data Index : Type 0 where
    no_index : Index
    index : Tree → Index

  -- the bits of a register: the whole, or those of an item
  pub data Bits : Type 0 where
    whole : Bits
    bits : Item → Bits

  pub data Item : Type 0 where
    single : Tree → Item
    range : Tree → Tree → Item

  pub data Trees : Type 0 where
    no_trees : Trees
    ◌▷◌ : Trees → Tree → Trees

  pub data Items : Type 0 where
    no_items : Items
    ◌▸◌ : Items → Item → Items
