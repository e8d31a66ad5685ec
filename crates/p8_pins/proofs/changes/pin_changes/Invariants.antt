use Rattle.std.proofs.Common.{◌≡◌, ◌^◌, ◌-◌, reverse}
use Rattle.p8_pins.specs.LevelChanges.{lines_of}
use Rattle.p8_pins.specs.Walks.{IsAt, HasTold}
use Rattle.p8_pins.proofs.changes.pin_changes.Given as goal

abbrev pub invariant-loop-next : goal.invariant-loop-next
invariant-loop-next l = record {
  script : l.walk.script.now ≡ l.fn.script;
  at : IsAt l.fn.script (reverse l.fn.turns) l.clock l.walk;
  told : HasTold l.fn.script (reverse l.fn.turns) l.clock (lines_of l.changes.items);
}

abbrev pub decreases-loop-next : goal.decreases-loop-next
decreases-loop-next l = 2 ^ 64 - l.clock
