-- What is read of a file from a place on, by what stands there: a token, and then what is read of the rest.
use Rattle.std.proofs.Common.{◌≡◌, ℕ, ◌+◌, ◌/◌, ◌%◌, ◌^◌, ◌<◌, ◌≤◌, inl, false, List, [], ◌∷◌, ◌++◌, length, map, drop, get_or, replicate, refl, sym, ap, ap₂, ◌∙◌, subst, arith}
use Rattle.std.specs.Prelude.{unwrap_or, IsTrue}
use Rattle.std.proofs.lemmas.Bool.Decides.{nat_tests}
use Rattle.std.proofs.lemmas.List.{drop-drop, drop_at, take_at, length-drop, length-append, length-replicate, get_or_append_left}
use denote.Enum.Declared.{tag_of}
use Rattle.p8_lexer.specs.contracts.word.Word.{the_type}
use Rattle.p8_tree.specs.declared.places.Place.{Place}
use Rattle.p8_lexer.specs.declared.word.Word.{Word}
use Rattle.p8_lexer.specs.declared.word.Word.TheVariants as word
use Rattle.p8_lexer.specs.declared.piece.PieceKind.TheVariants.{Token as TokenOf}
use Rattle.p8_lexer.specs.declared.piece.Class.TheVariants as class
use Rattle.p8_lexer.specs.declared.token.Token.{Token}
use Rattle.p8_lexer.specs.declared.token.TokenKind.{TokenKind}
use Rattle.p8_lexer.specs.declared.token.TokenKind.TheVariants.{Name, Number, Symbol, LineEnd}
use Rattle.p8_lexer.specs.Characters.{text_of}
use Rattle.p8_lexer.specs.Places.{place_of}
use Rattle.p8_lexer.specs.Lexing.{is_letter, is_in, Cuts, IsGood}
use Rattle.p8_lexer.specs.Words.{spelling, word_of_kind}
use Rattle.p8_lines.specs.Tokens as tokens
use Rattle.p8_lines.specs.Tokens.{LineToken, line_token}
use Rattle.p8_print.specs.Spelled.{Spelled, reserved, spell}
use Rattle.p8_printed.proofs.SpelledWords.{reserved_is, spelled_back}
use Rattle.p8_printed.proofs.WordCuts.{cut_off, blanks_piece, line_end_piece}
use Rattle.p8_printed.proofs.Runs.{IsPlain, Run, join, text_is, blank_run, made, token_run, characters_made}
use Rattle.p8_printed.proofs.Going.{AreEnded}
use Rattle.p8_instr.specs.Numerals.{glyph, hex}
use Rattle.p8_printed.proofs.Cutting.{name_piece, hexadecimal_piece, hash_piece, hash_symbol}
use Rattle.p8_printed.proofs.Words.{Lettered}

-- the tokens from a place on to the end of a file, of which this holds
pub record Found (bytes : List ℕ) (at : ℕ) (K : List LineToken → Type 0) : Type 0 where
  pub tokens : List Token
  pub run : Run bytes at (length (text_of bytes)) tokens
  pub holds : K (map (line_token bytes) tokens)

-- where this is the rest of a file, tokens are found of which that holds
abbrev pub Reads : List ℕ → List ℕ → (List LineToken → Type 0) → Type 0
Reads bytes rest K = (at : ℕ) → at ≤ length bytes → drop at bytes ≡ rest → Found bytes at K

found_so : {bytes : List ℕ} {at : ℕ} {K K' : List LineToken → Type 0} → ((ts : List LineToken) → K ts → K' ts) → Found bytes at K → Found bytes at K'
found_so {bytes = bytes} f r = record { tokens = r.tokens; run = r.run; holds = f (map (line_token bytes) r.tokens) r.holds }

pub so : {bytes rest : List ℕ} {K K' : List LineToken → Type 0} → ((ts : List LineToken) → K ts → K' ts) → Reads bytes rest K → Reads bytes rest K'
so f h at within here = found_so f (h at within here)

-- a token at this place, of this kind and with these characters, and after it others
record Begins (p : Place) (k : TokenKind) (text : List ℕ) (K : List LineToken → Type 0) (ts : List LineToken) : Type 0 where
  token : LineToken
  others : List LineToken
  is : ts ≡ token ∷ others
  place : token.place ≡ p
  kind : token.kind ≡ k
  text_is : token.text ≡ text
  rest : K others

-- a token that is this word
pub record Worded (w : Word) (K : List LineToken → Type 0) (ts : List LineToken) : Type 0 where
  pub token : LineToken
  pub others : List LineToken
  pub is : ts ≡ token ∷ others
  pub word_is : tokens.word token ≡ w
  pub rest : K others

-- and stands in column 1
pub record AtFront (w : Word) (K : List LineToken → Type 0) (ts : List LineToken) : Type 0 where
  pub words : Worded w K ts
  pub column : words.token.place.column ≡ 1

-- a token that is this number
pub record Numbered (v : ℕ) (K : List LineToken → Type 0) (ts : List LineToken) : Type 0 where
  pub token : LineToken
  pub others : List LineToken
  pub is : ts ≡ token ∷ others
  pub kind : token.kind ≡ Number v
  pub rest : K others

worded : (p : Place) (k : TokenKind) (text : List ℕ) (w : Word) {K : List LineToken → Type 0} (ts : List LineToken) → word_of_kind text k ≡ w → Begins p k text K ts → Worded w K ts
worded p k text w ts e b = record { token = b.token; others = b.others; is = b.is; word_is = ap₂ word_of_kind b.text_is b.kind ∙ e; rest = b.rest }

numbered : (p : Place) (v : ℕ) (text : List ℕ) {K : List LineToken → Type 0} (ts : List LineToken) → Begins p (Number v) text K ts → Numbered v K ts
numbered p v text ts b = record { token = b.token; others = b.others; is = b.is; kind = b.kind; rest = b.rest }

spelled_so : (w : Word) → Lettered w → word_of_kind (spelling w) Name ≡ w
spelled_so w l = ap (λ o. unwrap_or o word.Name) (spelled_back w (reserved_is w l.free))

ended : (p : Place) (w : Word) → Lettered w → (ws : List Spelled) (ts : List LineToken) → Begins p Name (spelling w) (AreEnded ws) ts → AreEnded (reserved w ∷ ws) ts
unfolding spell
ended p w l ws ts b =
    subst (AreEnded (reserved w ∷ ws)) (sym b.is)
    (record { kind = inl (b.kind, l.first); word = ap₂ word_of_kind b.text_is b.kind ∙ spelled_so w l; text = b.text_is }, b.rest)

letter_no_blank : (c : ℕ) → IsTrue (is_letter c) → is_in class.Blank c ≡ false
letter_no_blank c h = grind (arith, nat_tests)

-- a word begins with no blank
pub no_blank : (w : Word) (rest : List ℕ) → Lettered w → is_in class.Blank (get_or (spelling w ++ rest) 0 0) ≡ false
no_blank w rest l = ap (is_in class.Blank) (get_or_append_left (spelling w) rest 0 0 l.some) ∙ letter_no_blank (get_or (spelling w) 0 0) l.first

hex_is : (n : ℕ) → hex 3 n ≡ glyph (n / 16 / 16 % 16) ∷ glyph (n / 16 % 16) ∷ glyph (n % 16) ∷ []
unfolding hex
hex_is n = refl

module _ (bytes : List ℕ) (plain : IsPlain bytes) where
  token_at : (k : TokenKind) (cs rest : List ℕ) {K : List LineToken → Type 0} → Cuts (TokenOf k) (cs ++ rest) (length cs) → IsGood (TokenOf k) (cs ++ rest) (length cs) → Reads bytes rest K → (at : ℕ) → at ≤ length bytes → drop at bytes ≡ cs ++ rest → Found bytes at (Begins (place_of (text_of bytes) at) k cs K)
  token_at k cs rest cut good next at within here =
      let n = length cs in
      let there : drop (at + n) bytes ≡ rest = sym (drop-drop n at bytes) ∙ ap (drop n) here ∙ drop_at cs rest n refl in
      let inside : at + length cs ≤ length bytes = omega (arith, within, ap length here, length-drop at bytes, length-append cs rest) in
      let more = next (at + n) inside there in
      let t = made bytes plain at n (cs ++ rest) here k in
      record {
        tokens = t ∷ more.tokens;
        run = join bytes at (at + n) (length (text_of bytes)) (t ∷ []) more.tokens (token_run bytes plain at n (cs ++ rest) here k cut good) more.run;
        holds = record {
          token = line_token bytes t;
          others = map (line_token bytes) more.tokens;
          is = refl;
          place = refl;
          kind = refl;
          text_is = characters_made bytes plain at n (cs ++ rest) here k ∙ take_at cs rest n refl;
          rest = more.holds;
        };
      }

  token_read : (k : TokenKind) (cs rest : List ℕ) {K K' : List LineToken → Type 0} → Cuts (TokenOf k) (cs ++ rest) (length cs) → IsGood (TokenOf k) (cs ++ rest) (length cs) → ((p : Place) (ts : List LineToken) → Begins p k cs K ts → K' ts) → Reads bytes rest K → Reads bytes (cs ++ rest) K'
  token_read k cs rest cut good f next at within here = found_so (f (place_of (text_of bytes) at)) (token_at k cs rest cut good next at within here)

  pub blanks_read : (n : ℕ) (rest : List ℕ) {K : List LineToken → Type 0} → 0 < n → is_in class.Blank (get_or rest 0 0) ≡ false → Reads bytes rest K → Reads bytes (replicate n 32 ++ rest) K
  blanks_read n rest some stops next at within here =
      let cs : List ℕ = replicate n 32 in
      let long : length cs ≡ n = length-replicate {A = ℕ} n 32 in
      let there : drop (at + n) bytes ≡ rest = sym (drop-drop n at bytes) ∙ ap (drop n) here ∙ drop_at cs rest n long in
      let inside : at + n ≤ length bytes = omega (arith, within, ap length here, length-drop at bytes, length-append cs rest, long) in
      let more = next (at + n) inside there in
      record {
        tokens = more.tokens;
        run = join bytes at (at + n) (length (text_of bytes)) [] more.tokens (blank_run bytes plain at n (cs ++ rest) here (blanks_piece n rest some stops)) more.run;
        holds = more.holds;
      }

  -- the end of a line, and of the file
  pub end_read : Reads bytes (10 ∷ []) (AreEnded [])
  end_read at within here =
      let t = made bytes plain at 1 (10 ∷ []) here LineEnd in
      let end : at + 1 ≡ length (text_of bytes) = omega (arith, within, ap length here, length-drop at bytes, ap length (text_is bytes plain)) in
      record {
        tokens = t ∷ [];
        run = subst (λ end. Run bytes at end (t ∷ [])) end (token_run bytes plain at 1 (10 ∷ []) here LineEnd (line_end_piece []) tt);
        holds = refl;
      }

  -- the end of a line
  pub line_end_read : (rest : List ℕ) {K : List LineToken → Type 0} → Reads bytes rest K → Reads bytes (10 ∷ rest) (Worded word.LineEnd K)
  line_end_read rest next = token_read LineEnd (10 ∷ []) rest (line_end_piece rest) tt (λ p ts b. worded p LineEnd (10 ∷ []) word.LineEnd ts refl b) next

  word_cut : (w : Word) (rest : List ℕ) → Lettered w → is_in class.Name (get_or rest 0 0) ≡ false → Cuts (TokenOf Name) (spelling w ++ rest) (length (spelling w))
  word_cut w rest l stops = name_piece (spelling w) rest l.some l.first l.all stops

  pub word_read : (w : Word) (rest : List ℕ) {K : List LineToken → Type 0} → Lettered w → is_in class.Name (get_or rest 0 0) ≡ false → Reads bytes rest K → Reads bytes (spelling w ++ rest) (Worded w K)
  word_read w rest l stops next = token_read Name (spelling w) rest (word_cut w rest l stops) l.short (λ p ts b. worded p Name (spelling w) w ts (spelled_so w l) b) next

  pub ended_read : (w : Word) (rest : List ℕ) (ws : List Spelled) → Lettered w → is_in class.Name (get_or rest 0 0) ≡ false → Reads bytes rest (AreEnded ws) → Reads bytes (spelling w ++ rest) (AreEnded (reserved w ∷ ws))
  ended_read w rest ws l stops next = token_read Name (spelling w) rest (word_cut w rest l stops) l.short (λ p ts b. ended p w l ws ts b) next

  -- a word that stands first in a file
  pub first_read : (w : Word) (rest : List ℕ) {K : List LineToken → Type 0} → Lettered w → is_in class.Name (get_or rest 0 0) ≡ false → bytes ≡ spelling w ++ rest → Reads bytes rest K → Found bytes 0 (AtFront w K)
  unfolding worded
  first_read w rest l stops whole next =
      found_so (λ ts b. record { words = worded (place_of (text_of bytes) 0) Name (spelling w) w ts (spelled_so w l) b; column = ap (λ p. p.column) b.place })
      (token_at Name (spelling w) rest (word_cut w rest l stops) l.short next 0 (omega arith) whole)

  -- a comma in front of a blank
  pub comma_read : (rest : List ℕ) {K : List LineToken → Type 0} → Reads bytes (32 ∷ rest) K → Reads bytes (44 ∷ 32 ∷ rest) (Worded word.Comma K)
  unfolding spell
  comma_read rest next =
      let c = cut_off (reserved word.Comma) rest refl in
      token_read c.kind (44 ∷ []) (32 ∷ rest) c.cut c.good (λ p ts b. worded p c.kind (44 ∷ []) word.Comma ts c.word b) next

  -- `#` in front of `$`
  pub hash_read : (rest : List ℕ) {K : List LineToken → Type 0} → Reads bytes (36 ∷ rest) K → Reads bytes (35 ∷ 36 ∷ rest) (Worded word.Hash K)
  hash_read rest next =
      let k = Symbol (tag_of the_type word.Hash) in
      token_read k (35 ∷ []) (36 ∷ rest) (hash_piece rest) tt (λ p ts b. worded p k (35 ∷ []) word.Hash ts (ap (λ o. unwrap_or o word.Name) hash_symbol) b) next

  pub number_read : (n : ℕ) (rest : List ℕ) {K : List LineToken → Type 0} → n < 4096 → is_in class.Name (get_or rest 0 0) ≡ false → Reads bytes rest K → Reads bytes (36 ∷ (hex 3 n ++ rest)) (Numbered n K)
  number_read n rest {K = K} small stops next =
      let cs = 36 ∷ glyph (n / 16 / 16 % 16) ∷ glyph (n / 16 % 16) ∷ glyph (n % 16) ∷ [] in
      let wide : n < 2 ^ 32 = omega arith in
      subst (λ ds. Reads bytes (36 ∷ (ds ++ rest)) (Numbered n K)) (sym (hex_is n))
      (token_read (Number n) cs rest (hexadecimal_piece n rest small stops) (wide, stops) (λ p ts b. numbered p n cs ts b) next)
