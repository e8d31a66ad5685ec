use Rattle.std.proofs.Common.{◌≡◌, ℕ, ◌≤◌, ◌<◌, false}
use Rattle.p8_lexer.specs.Lexing.{ends_doc}
use Rattle.p8_lexer.proofs.comment.doc_comment_end.Given as goal

abbrev pub invariant-loop-i : goal.invariant-loop-i
invariant-loop-i l = (k : ℕ) → 2 ≤ k → k < l.i → ends_doc l.text k ≡ false
