use Rattle.std.proofs.Common.{◌≡◌, ◌++◌, drop, take}
use Rattle.std.specs.List.{All}
use Rattle.p8_verify.specs.Files.{records}
use Rattle.p8_verify.specs.Fitting.{Fits}
use Rattle.p8_verify.proofs.files.push_records.Given as goal

abbrev pub invariant-loop-turn : goal.invariant-loop-turn
invariant-loop-turn l =
    (l.out.items ++ records (drop l.turn-index l.turns) ≡ l.fn.out.items ++ records l.turns)
    × All Fits (take l.turn-index l.turns)
