use Rattle.std.proofs.Common.{subst}
use Rattle.p8_lexer.specs.Pieces.{piece_of, pieces_of}
use Rattle.p8_lines.specs.Lines.{Follows, piece_in}
use Rattle.p8_lines.specs.Stopping.{next}
use Rattle.p8_lines.proofs.Targets.{follow}
use Rattle.p8_lines.proofs.Steps.{arrow_step, kept_as}
use Rattle.p8_lines.proofs.reading.step.Goals as goal

pub returns-clause-advances : goal.returns-clause-advances
returns-clause-advances c =
    let old = c.args.here.now in
    let t = next old in
    arrow_step old c.advance.new.self c.args.state c.in-Some.next (pieces_of c.args.pieces.now.items) (pieces_of c.push.new.pieces.items) c.requires.within
    (subst (λ l. Follows l t c.in-Some.next) c.arrows.ensures (follow c.arrows.result.now t c.target.result c.in-Some.next c.target.ensures c.in-Some.is))
    (kept_as (pieces_of c.args.pieces.now.items) (pieces_of c.push.new.pieces.items) (piece_of c.in_ok-piece.piece) (piece_in c.args.state t) c.in_ok-push.ensures c.in_ok-piece.ensures)
    c.advance.ensures
