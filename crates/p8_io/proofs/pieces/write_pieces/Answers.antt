use Rattle.p8_io.proofs.Appending.{writes-until, wrote-until}
use Rattle.p8_io.proofs.pieces.write_pieces.Goals as goal

pub returns-in_err-write-clause-writes : goal.returns-in_err-write-clause-writes
returns-in_err-write-clause-writes g c =
    writes-until _ _ _ _ _ _ c.args.pieces.now c.loop-piece.piece-index _ c.from_residual.result c.from_residual.ensures.0 c.loop-piece-test.true
    c.loop-piece.invariant.later c.loop-piece.invariant.appended c.in_err-write.ensures.writes.0 c.in_err-write.ensures.writes.1

pub returns-in_err-write-clause-wrote : goal.returns-in_err-write-clause-wrote
returns-in_err-write-clause-wrote g c =
    wrote-until _ _ _ _ _ _ c.args.pieces.now c.loop-piece.piece-index _ c.loop-piece-test.true
    c.loop-piece.invariant.later c.loop-piece.invariant.appended c.in_err-write.ensures.writes.0 c.in_err-write.ensures.writes.1
