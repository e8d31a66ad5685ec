-- Which bytecode asks an access of a life, and that the bytecodes of a code stand where its lines say.
use Rattle.std.specs.Prelude.{ℕ, ◌+◌, ◌≡◌, List, length, slice_get, Some}
use Rattle.p8_tree.specs.declared.places.Place.{Place}
use Rattle.p8_access.specs.declared.kinds.Access.{Access}
use Rattle.p8_access.specs.declared.order.Turn.{Turn}
use Rattle.p8_access.specs.Lives.{Entered}
use Rattle.p8_access.specs.Timing.{Asks, Goes, played}
use Rattle.p8_bytecode.specs.declared.op.Op.{Op}
use Rattle.p8_bytecode.specs.Spelling.{spelled}
use Rattle.p8_bcog.specs.declared.state.SpinState.{SpinState}
use Rattle.p8_bcog.specs.Bytecodes.{clocks, row}
use Rattle.p8_bcog.specs.Code.{fetched}
use Rattle.p8_bcog.specs.Replay.{lived}

-- one of some bytecodes, with its line
pub record HasLine (ops : List Op) (lines : List (ℕ × Place)) (op : Op) (line : ℕ × Place) : Type 0 where
  pub number : ℕ
  pub is_op : slice_get ops number ≡ Some op
  pub is_line : slice_get lines number ≡ Some line

-- a bytecode stands in a memory at an address, with all its bytes
abbrev pub IsFetched : (memory : List ℕ) → (address : ℕ) → Op → Type 0
IsFetched memory address op = fetched memory address ≡ Some (op, address + length (spelled op))

-- The access that a life asks next after these turns is asked by this bytecode, which stands at this address: some bytecodes are done whole, the
-- next one is this, and what it does by the table of bytecodes, from where the cog is, comes to that access.
pub record IsAskedBy (entered : Entered) (turns : List Turn) (address : ℕ) (op : Op) : Type 0 where
  pub done : ℕ
  pub s : SpinState
  pub begin : ℕ
  pub left : List Turn
  pub clock : ℕ
  pub access : Access
  pub goes : lived done entered turns ≡ Goes s begin left
  pub here : s.at ≡ address
  pub next : lived (done + 1) entered turns ≡ Asks clock access
  pub asks : played entered.cog (begin + clocks entered.memory s)
      (row entered.memory entered.cog op (record s { at = address + length (spelled op) })) left ≡ Asks clock access
