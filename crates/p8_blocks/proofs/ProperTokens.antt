-- The tokens of a text are proper words, where those of its expressions are.
use Rattle.std.proofs.Common.{◌≡◌, ℕ, List, [], ◌∷◌, ◌++◌, map, refl, sym, subst}
use Rattle.std.specs.List.{AllByRecursion as Each}
use Rattle.std.proofs.lemmas.List.Elements.{recursion_from_All}
use Rattle.p8_lexer.specs.declared.token.Token as lexer_token
use Rattle.p8_grammar.specs.Proper as words
use Rattle.p8_grammar.specs.Proper.{IsProperLexeme, lexeme_in}
use Rattle.p8_expr.specs.Words.{token_of, lexeme_of_token}
use Rattle.p8_lines.specs.Tokens.{lexeme, terms, line_token, text_end, all_tokens}
use Rattle.p8_lines.proofs.Texts.{text_end_other}
use Rattle.p8_blocks.proofs.ProperFiles.{IsProperToken, are_proper}

same_lexeme : (bytes : List ℕ) (t : lexer_token.Token) → lexeme_in (token_of bytes t) ≡ lexeme (line_token bytes t)
unfolding token_of lexeme_of_token
same_lexeme bytes t = refl

pub tokens_proper : (bytes : List ℕ) (tokens : List lexer_token.Token) → words.AreProper (map (token_of bytes) tokens) → words.AreProper (terms (all_tokens bytes tokens))
tokens_proper bytes tokens h = are_proper (all_tokens bytes tokens) (go tokens (recursion_from_All (λ t. IsProperLexeme (lexeme_in t)) (map (token_of bytes) tokens) h))
  where
    go : (ts : List lexer_token.Token) → Each (λ t. IsProperLexeme (lexeme_in t)) (map (token_of bytes) ts) → Each IsProperToken (map (line_token bytes) ts ++ text_end (map (line_token bytes) tokens) ∷ [])
    go [] h = (subst IsProperLexeme (sym (text_end_other (map (line_token bytes) tokens))) tt, tt)
    go (t ∷ ts) h = (subst IsProperLexeme (same_lexeme bytes t) h.0, go ts h.1)
