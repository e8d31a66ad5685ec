use Rattle.std.proofs.Common.{◌+◌, ◌-◌, ℕ, List}
use Rattle.p8_access.specs.declared.order.Turn.{Turn}
use Rattle.p8_verify.specs.Files.{AreRecords, BreaksAt}
use Rattle.p8_verify.proofs.verdicts.broken_turn.Given as goal

abbrev pub invariant-loop-index : goal.invariant-loop-index
invariant-loop-index l = record {
  breaks : (turn : ℕ) → BreaksAt (l.count - l.index) (l.index + 1) l.rest turn → BreaksAt (l.count - l.done) (l.done + 1) l.records turn;
  whole : (turns : List Turn) → AreRecords (l.count - l.index) l.rest turns → (all : List Turn) × AreRecords (l.count - l.done) l.records all;
}
