use Rattle.std.proofs.Common.{◌≡◌, ◌≤◌, ◌-◌, List, map}
use Rattle.p8_access.specs.declared.order.Turn.{Turn}
use Rattle.p8_access.specs.Worlds.{World}
use Rattle.p8_wave.specs.declared.variables.Variable.{Variable}
use Rattle.p8_wave.specs.Walks.{IsAt, IsSet}
use Rattle.p8_wave.specs.Sections.{AreVariables, still, IsDone}
use Rattle.p8_wave.specs.Parts.{together}
use Rattle.p8_wave.proofs.walks.write_sections.Given as goal

abbrev pub invariant-loop-next : goal.invariant-loop-next
invariant-loop-next l = record {
  within : l.next ≤ l.end;
  ticks : l.sections.ticks ≡ l.fn.sections.ticks;
  done : (w : World) (past : List Turn) (vs : List Variable) → AreVariables vs → IsSet w past l.script l.fn.sections.ticks l.end → IsAt w past 0 l.fn.turns l.fn.course → together l.fn.sections.parts.items ≡ map still vs → IsDone w past vs l.next l.left l.course l.old (together l.sections.parts.items) l.fn.sections.text.items l.sections.text.items;
}

abbrev pub decreases-loop-next : goal.decreases-loop-next
decreases-loop-next l = l.end - l.next
