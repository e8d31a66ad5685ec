-- internal
-- Which turns are known to have a record.
use Rattle.p8_access.specs.declared.order.Turn.{Turn}
use Rattle.p8_verify.specs.Halts.{NamesRegister}
use Rattle.p8_ledger.specs.Turns.{IsProperTurn}
use Rattle.p8_verify.specs.Table.{IsWithin}

-- one that a ledger makes has, where a halt by a register names one of the 512
abbrev pub Fits : Turn → Type 0
Fits turn = IsProperTurn turn → NamesRegister turn → IsWithin turn
