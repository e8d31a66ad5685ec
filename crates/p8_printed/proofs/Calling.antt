-- What the calls answer on the source with the text of a long.
use Rattle.std.proofs.Common.{◌≡◌, ℕ, ◌^◌, ◌<◌, List, sym, subst}
use Rattle.p8_tree.specs.Sources.{Line}
use Rattle.p8_tree.specs.declared.faults.Fault.{Fault}
use Rattle.p8_lexer.specs.declared.token.Token.{Token}
use Rattle.p8_lexer.specs.Lexing.{AreTokens, IsFault}
use Rattle.p8_lexer.proofs.Files.{one_list, never_both}
use Rattle.p8_lines.specs.Tokens.{all_tokens}
use Rattle.p8_blocks.specs.Files.{IsFileWithinLimits}
use Rattle.p8_printed.specs.ReadBack.{source_text, IsLineOf, file_with}
use Rattle.p8_printed.proofs.LongFiles.{text_read, text_short}

module _ (long : ℕ) (small : long < 2 ^ 32) (bytes : List ℕ) (whole : bytes ≡ source_text long) where
  pub no_fault : (fault : Fault) → ¬ IsFault bytes fault
  no_fault fault h =
      let r = text_read long small in
      never_both (source_text long) r.0 fault r.2 (text_short long small) (subst (λ b. IsFault b fault) whole h)

  pub file_read : (tokens : List Token) → AreTokens bytes tokens → (line : Line) × IsLineOf long line × IsFileWithinLimits (file_with line) (all_tokens bytes tokens)
  file_read tokens are =
      let r = text_read long small in
      let same : r.0 ≡ tokens = one_list (source_text long) r.0 tokens r.2 (subst (λ b. AreTokens b tokens) whole are) in
      (r.1, r.3, subst (λ b. IsFileWithinLimits (file_with r.1) (all_tokens b tokens)) (sym whole) (subst (λ ts. IsFileWithinLimits (file_with r.1) (all_tokens (source_text long) ts)) same r.4))
