use Rattle.std.proofs.Common.{◌≤◌, take}
use Rattle.std.specs.List.{flat_map}
use Rattle.p8_io.specs.Sinks.{Appended}
use Rattle.p8_io.proofs.pieces.write_pieces.Given as goal

abbrev pub invariant-loop-piece : goal.invariant-loop-piece
invariant-loop-piece g l = record {
  appended : Appended (g.E.Sink.taken l.initial.sink) (g.E.Sink.taken l.sink) (flat_map (λ piece. piece.now) (take l.piece-index l.pieces));
  later : g.E.Sink.faults l.initial.sink ≤ g.E.Sink.faults l.sink;
}
