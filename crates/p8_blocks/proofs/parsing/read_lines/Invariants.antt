use Rattle.std.proofs.Common.{◌≡◌, ◌+◌, ◌-◌, ◌≤◌, length}
use Rattle.p8_lines.specs.Tokens.{all_tokens, left}
use Rattle.p8_blocks.specs.Standing.{Reached}
use Rattle.p8_blocks.proofs.parsing.read_lines.Given as goal

abbrev pub invariant-lines : goal.invariant-lines
invariant-lines l = record {
  same : l.here ≡ record { bytes = l.bytes; tokens = l.tokens; at = l.here.at };
  within : l.here.at ≤ length l.tokens + 1;
  reached : Reached (all_tokens l.bytes l.tokens) (left l.here) l.file;
}

abbrev pub decreases-lines : goal.decreases-lines
decreases-lines l = length l.tokens + 1 - l.here.at
