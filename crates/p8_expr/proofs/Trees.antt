-- What is read from the tokens of a file is proper.
use Rattle.std.proofs.Common.{◌≡◌, ℕ, ◌<◌, ◌≤◌, List, length, map, take, refl, ap, subst, arith}
use Rattle.std.specs.Prelude.{EachIndex, IsTrue, slice_index}
use Rattle.std.proofs.lemmas.List.{drop-map}
use Rattle.std.proofs.lemmas.List.Elements.{All-take, All-drop}
use Rattle.p8_tree.specs.Expressions.{Tree, node}
use Rattle.p8_tree.specs.Heights.{height}
use Rattle.p8_tree.specs.Proper.{IsProperTree, IsProperExpression, IsDone}
use Rattle.p8_lexer.specs.declared.token.Token as lexer_token
use Rattle.p8_lexer.specs.Characters.{text_of}
use Rattle.p8_lexer.specs.Lexing.{AreTokens}
use Rattle.p8_grammar.specs.Lexemes.{Setting, in_action, is_value, is_dat, Token}
use Rattle.p8_grammar.specs.Grammar.{IsExpression}
use Rattle.p8_grammar.specs.Proper.{IsProperLexeme, lexeme_in, AreProper, IsProperAction}
use Rattle.p8_expr.specs.Words.{token_of}
use Rattle.p8_expr.specs.Parsing.{greatest_height, tokens_from, Outcome, tree, refused, Ends, whole, too_high, unfit, broken_off, Parses}
use Rattle.p8_expr.proofs.Sources.{tokens_are}
use Rattle.p8_expr.proofs.Proper.{are_proper}

-- an expression as high as the limit at most
abbrev IsRead : Setting → ℕ → List Token → Tree → Type 0
IsRead s limit ts e = IsExpression s e ts × (height e ≤ limit)

abbrev tree_in : Tree → Outcome → Tree
tree_in other (tree e n) = e
tree_in other (refused r n) = other

was_read : {s : Setting} {limit : ℕ} {bytes : List ℕ} {tokens : List lexer_token.Token} {at end : ℕ} {ts : List Token} {o : Outcome} (e : Tree) (n : ℕ) → Ends s limit bytes tokens at end ts o → o ≡ tree e n → IsRead s limit ts e
was_read {s = s} {limit = limit} {ts = ts} e n (whole r low free) is = subst (IsRead s limit ts) (ap (tree_in e) is) (r, low)
was_read e n (too_high high) is = absurd cc
was_read e n (unfit low no_fit) is = absurd cc
was_read e n (broken_off low free other) is = absurd cc

module _ (bytes : List ℕ) (tokens : List lexer_token.Token) (small : EachIndex bytes (λ i. slice_index bytes i < 256)) (are : AreTokens bytes tokens) where
  all_proper : AreProper (map (token_of bytes) tokens)
  all_proper = are_proper (map (token_of bytes) tokens) (tokens_are bytes small tokens are.1.0 (length (text_of bytes)) are.1.1 are.1.2)

  proper_from : (at n : ℕ) → AreProper (take n (tokens_from bytes tokens at))
  proper_from at n =
      All-take (λ t. IsProperLexeme (lexeme_in t)) n (tokens_from bytes tokens at)
      (subst AreProper (drop-map (token_of bytes) at tokens) (All-drop (λ t. IsProperLexeme (lexeme_in t)) at (map (token_of bytes) tokens) all_proper))

  pub read_proper : (spelled : (s : Setting) (ts : List Token) (e : Tree) → IsTrue (is_value s) → IsExpression s e ts → AreProper ts → IsProperTree (is_dat s) e) (s : Setting) (limit at end : ℕ) (e : Tree) → limit ≤ greatest_height → IsTrue (is_value s) → Parses s limit bytes tokens at (tree e end) → IsProperExpression (is_dat s) e
  read_proper spelled s limit at end e within value (n, longest, ends) =
      let r = was_read e end ends refl in
      (spelled s (take n (tokens_from bytes tokens at)) e value r.0 (proper_from at n), omega (arith, r.1, within))

  pub read_done : (spelled : (ts : List Token) (e : Tree) → IsExpression in_action e ts → AreProper ts → IsProperAction e) (limit at end : ℕ) (e : Tree) → limit ≤ greatest_height → Parses in_action limit bytes tokens at (tree e end) → IsDone e
  read_done spelled limit at end (node p f) within (n, longest, ends) =
      let r = was_read (node p f) end ends refl in
      (spelled (take n (tokens_from bytes tokens at)) (node p f) r.0 (proper_from at n), omega (arith, r.1, within))
