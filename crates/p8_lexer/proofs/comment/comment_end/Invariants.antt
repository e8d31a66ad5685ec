use Rattle.std.proofs.Common.{length, ◌-◌, ◌≤◌, take}
use Rattle.p8_lexer.proofs.CommentLemmas.{Open}
use Rattle.p8_lexer.proofs.comment.comment_end.Given as goal

abbrev pub invariant-characters : goal.invariant-characters
invariant-characters l = record { within : l.i ≤ length l.text; small : l.depth ≤ l.i; opened : Open l.depth (take l.i l.text) }

abbrev pub decreases-characters : goal.decreases-characters
decreases-characters l = length l.text - l.i
