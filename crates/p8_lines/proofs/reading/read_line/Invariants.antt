use Rattle.std.proofs.Common.{◌≡◌, ◌⊎◌, ◌+◌, ◌-◌, ◌<◌, ◌≤◌, length}
use Rattle.p8_lexer.specs.Pieces.{pieces_of}
use Rattle.p8_expr.specs.Cursors.{moved}
use Rattle.p8_lines.specs.declared.state.LineState.TheVariants as state
use Rattle.p8_lines.specs.Stopping.{Goes}
use Rattle.p8_lines.proofs.reading.read_line.Given as goal

abbrev pub invariant-steps : goal.invariant-steps
invariant-steps l = record {
  goes : Goes l.fn.here.bytes l.fn.here.tokens l.fn.here.at l.here.at l.fn.state (pieces_of l.pieces.items) l.now;
  same : l.here ≡ moved l.fn.here l.here.at;
  within : l.here.at ≤ length l.fn.here.tokens + 1;
  ended : length l.fn.here.tokens < l.here.at → l.now ≡ state.End;
  ordered : l.fn.here.at ≤ l.here.at;
  onward : (l.now ≡ l.fn.state) ⊎ (l.fn.here.at < l.here.at);
}

abbrev pub decreases-steps : goal.decreases-steps
decreases-steps l = length l.fn.here.tokens + 1 - l.here.at
