use Rattle.std.proofs.Common.{◌≡◌, [], ◌++◌, drop}
use Rattle.p8_code.specs.Sources.{lines_from}
use Rattle.p8_code.proofs.source.lines_in.Given as goal

abbrev pub invariant-loop-i : goal.invariant-loop-i
invariant-loop-i l = l.lines ++ lines_from l.line.items l.before (drop l.i l.text) ≡ lines_from [] 0 l.text
