-- The tokens of printed lines, line by line.
use Rattle.std.proofs.Common.{◌≡◌, ℕ, suc, ◌+◌, List, [], ◌∷◌, ◌++◌, map, refl, sym, ap, ◌∙◌, subst, append_assoc, arith}
use Rattle.p8_lexer.specs.declared.token.Token as lexer_token
use Rattle.p8_lexer.specs.declared.word.Word.TheVariants as word_case
use Rattle.p8_lines.specs.Tokens.{LineToken, word, line_token}
use Rattle.p8_print.specs.Spelled.{Spelled, SpelledLine, spell}
use Rattle.p8_printed.specs.Reading.{column_behind, IsWord, AreWords, AreLines}
use Rattle.p8_printed.specs.Rereading.{IsSpelled, AreSpelled}

-- the first of these tokens, if there is one, stands at a column
abbrev pub BeginsAt : ℕ → List LineToken → Type 0
BeginsAt c [] = Unit {0}
BeginsAt c (t ∷ ts) = t.place.column ≡ c

-- tokens are these lines, each with its end
pub data AreSpelledLines : List SpelledLine → List LineToken → Type 0 where
  no_line : AreSpelledLines [] []
  a_line : {ls : List SpelledLine} {us : List LineToken} (l : SpelledLine) (ts : List LineToken) (t : LineToken) → AreSpelled l.words ts → BeginsAt (suc l.indent) ts → word t ≡ word_case.LineEnd → AreSpelledLines ls us → AreSpelledLines (l ∷ ls) (ts ++ t ∷ us)

-- a line's tokens, and that of its end
pub record Ended (c : ℕ) (ws : List Spelled) (ts : List LineToken) : Type 0 where
  pub words : List LineToken
  pub end : LineToken
  pub split : ts ≡ words ++ end ∷ []
  pub spelled : AreSpelled ws words
  pub begins : BeginsAt c words
  pub ends : word end ≡ word_case.LineEnd

module _ (bytes : List ℕ) (n : ℕ) where
  word_spelled : (c : ℕ) (w : Spelled) (t : lexer_token.Token) → IsWord bytes n c w t → IsSpelled w (line_token bytes t)
  word_spelled c w t h = record { kind = h.kind; word = h.word; text = h.characters }

  ended : (c : ℕ) (ws : List Spelled) (own : List lexer_token.Token) → AreWords bytes n c ws own → Ended c ws (map (line_token bytes) own)
  ended c [] [] h = absurd h
  ended c [] (t ∷ []) h = record { words = []; end = line_token bytes t; split = refl; spelled = tt; begins = tt; ends = h.word }
  ended c [] (t ∷ u ∷ ts) h = absurd h
  ended c (w ∷ ws) [] h = absurd h
  ended c (w ∷ ws) (t ∷ ts) h =
      let rest = ended (column_behind c (spell w) + 1) ws ts h.1 in
      record {
        words = line_token bytes t ∷ rest.words;
        end = rest.end;
        split = ap (λ l. line_token bytes t ∷ l) rest.split;
        spelled = (word_spelled c w t h.0, rest.spelled);
        begins = ap (λ p. p.column) h.0.place;
        ends = rest.ends;
      }

map_append : {X Y : Type 0} (f : X → Y) (xs ys : List X) → map f (xs ++ ys) ≡ map f xs ++ map f ys
map_append f [] ys = refl
map_append f (x ∷ xs) ys = ap (λ l. f x ∷ l) (map_append f xs ys)

-- the tokens of a text that is these lines
pub spelled_lines : (bytes : List ℕ) (n : ℕ) (ls : List SpelledLine) (tokens : List lexer_token.Token) → AreLines bytes n ls tokens → AreSpelledLines ls (map (line_token bytes) tokens)
spelled_lines bytes n [] tokens h = subst (λ ts. AreSpelledLines [] (map (line_token bytes) ts)) (sym h) no_line
spelled_lines bytes n (l ∷ ls) tokens h =
    let own = h.0 in
    let others = h.1 in
    let first = ended bytes n (l.indent + 1) l.words own h.3 in
    let rest = spelled_lines bytes (n + 1) ls others h.4 in
    let column : l.indent + 1 ≡ suc l.indent = omega arith in
    let whole : map (line_token bytes) tokens ≡ first.words ++ first.end ∷ map (line_token bytes) others = ap (map (line_token bytes)) h.2 ∙ map_append (line_token bytes) own others ∙ ap (λ z. z ++ map (line_token bytes) others) first.split ∙ append_assoc first.words (first.end ∷ []) (map (line_token bytes) others) in
    subst (AreSpelledLines (l ∷ ls)) (sym whole) (a_line l first.words first.end first.spelled (subst (λ c. BeginsAt c first.words) column first.begins) first.ends rest)

-- the tokens of some lines, and of those after them
pub record Parted (xs ys : List SpelledLine) (us : List LineToken) : Type 0 where
  pub first : List LineToken
  pub rest : List LineToken
  pub split : us ≡ first ++ rest
  pub of_first : AreSpelledLines xs first
  pub of_rest : AreSpelledLines ys rest

pub parted : (xs ys : List SpelledLine) {us : List LineToken} → AreSpelledLines (xs ++ ys) us → Parted xs ys us
parted [] ys {us} h = record { first = []; rest = us; split = refl; of_first = no_line; of_rest = h }
parted (x ∷ xs) ys (a_line {us = us} l ts t s b e h) =
    let p = parted xs ys h in
    record {
      first = ts ++ t ∷ p.first;
      rest = p.rest;
      split = ap (λ z. ts ++ t ∷ z) p.split ∙ sym (append_assoc ts (t ∷ p.first) p.rest);
      of_first = a_line l ts t s b e p.of_first;
      of_rest = p.of_rest;
    }
