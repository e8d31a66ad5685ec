-- Parts of a text that are cut off one after the other, and the places in it.
use Rattle.std.proofs.Common.{◌≡◌, ◌≢◌, ℕ, zero, suc, ◌+◌, ◌-◌, ◌*◌, ◌/◌, ◌<◌, ◌≤◌, Bool, true, false, List, [], ◌∷◌, ◌++◌, length, get_or, take, drop, replicate, refl, sym, ap, ◌∙◌, subst, arith}
use Rattle.std.specs.Prelude.{◌==◌, ◌&&◌, if◌then◌else◌, IsTrue, filter_map, All}
use Rattle.std.proofs.lemmas.Bool.Decides.{nat_tests}
use Rattle.std.proofs.lemmas.List.{drop-drop, drop_at, length-drop, length-append}
use Rattle.std.proofs.lemmas.List.Elements.{filter_map-append, All-head, All-tail}
use Rattle.p8_tree.specs.declared.places.Place.{Place}
use Rattle.p8_lexer.specs.declared.piece.PieceKind.{PieceKind}
use Rattle.p8_lexer.specs.declared.piece.PieceKind.TheVariants.{Blank, Token as TokenOf}
use Rattle.p8_lexer.specs.declared.piece.Class.TheVariants as class
use Rattle.p8_lexer.specs.declared.token.Token.{Token}
use Rattle.p8_lexer.specs.declared.token.TokenKind.{TokenKind}
use Rattle.p8_lexer.specs.Characters.{is_utf16, is_marked, mark_length, text_of, offset_of, decoded, characters}
use Rattle.p8_lexer.specs.Places.{behind, place_behind, place_of}
use Rattle.p8_lexer.specs.Lexing.{is_in, AllIn, Cuts, IsGood, Piece, CutsUpTo, token_of}
use Rattle.p8_printed.specs.Reading.{column_behind}

-- places

abbrev at_place : ℕ → ℕ → Place
at_place line column = record { line = line; column = column }

-- the last of some characters, or the one before them
last_of : ℕ → List ℕ → ℕ
last_of before [] = before
last_of before (c ∷ cs) = last_of c cs

no_line_end : (c : ℕ) → IsTrue (is_in class.Line c) → ((c == 10) ≡ false) × ((c == 13) ≡ false)
no_line_end c h = (grind (arith, nat_tests), grind (arith, nat_tests))

line_stays : (before line column c : ℕ) → IsTrue (is_in class.Line c) → behind before (at_place line column) c ≡ at_place line (if c == 9 then 8 * ((column - 1) / 8) + 9 else column + 1)
line_stays before line column c h = go (c == 10) (c == 13) (c == 9) (no_line_end c h).0 (no_line_end c h).1
  where
    go : (a b t : Bool) → a ≡ false → b ≡ false → (if a then (if before == 13 then at_place line column else at_place (line + 1) 1) else (if b then at_place (line + 1) 1 else (if t then at_place line (8 * ((column - 1) / 8) + 9) else at_place line (column + 1)))) ≡ at_place line (if t then 8 * ((column - 1) / 8) + 9 else column + 1)
    go false false true e f = refl
    go false false false e f = refl
    go true b t e f = absurd cc
    go false true t e f = absurd cc

behind_line : (before line column : ℕ) (cs ds : List ℕ) → AllIn class.Line cs 0 (length cs) → place_behind before (at_place line column) (cs ++ ds) ≡ place_behind (last_of before cs) (at_place line (column_behind column cs)) ds
unfolding last_of
behind_line before line column [] ds all = refl
behind_line before line column (c ∷ cs) ds all =
    ap (λ p. place_behind c p (cs ++ ds)) (line_stays before line column c (all 0 (omega arith) (omega arith)))
    ∙ behind_line c line (if c == 9 then 8 * ((column - 1) / 8) + 9 else column + 1) cs ds (λ i le lt. all (suc i) (omega arith) (omega arith))

last_no_return : (before : ℕ) (cs : List ℕ) → (before == 13) ≡ false → AllIn class.Line cs 0 (length cs) → (last_of before cs == 13) ≡ false
unfolding last_of
last_no_return before [] h all = h
last_no_return before (c ∷ cs) h all = last_no_return c cs (no_line_end c (all 0 (omega arith) (omega arith))).1 (λ i le lt. all (suc i) (omega arith) (omega arith))

no_tab : (c : ℕ) → c ≢ 9 → (c == 9) ≡ false
no_tab c h = grind (arith, nat_tests)

pub plain_column : (column : ℕ) (cs : List ℕ) → All (λ c. c ≢ 9) cs → column_behind column cs ≡ column + length cs
plain_column column [] h = let e : column ≡ column + 0 = omega arith in e
plain_column column (c ∷ cs) h =
    ap (λ b. column_behind (if b then 8 * ((column - 1) / 8) + 9 else column + 1) cs) (no_tab c (All-head (λ c. c ≢ 9) c cs h))
    ∙ plain_column (column + 1) cs (All-tail (λ c. c ≢ 9) c cs h) ∙ (let e : column + 1 + length cs ≡ column + suc (length cs) = omega arith in e)

-- at a place of a text stand these characters
pub record Stands (bytes : List ℕ) (at line column : ℕ) (rest : List ℕ) : Type 0 where
  pub before : ℕ
  pub no_return : (before == 13) ≡ false
  pub within : at ≤ length bytes
  pub rest_is : drop at bytes ≡ rest
  pub places : (n : ℕ) → place_of bytes (at + n) ≡ place_behind before (record { line = line; column = column }) (take n rest)

pub begins_text : (bytes : List ℕ) → Stands bytes 0 1 1 bytes
begins_text bytes = record { before = 0; no_return = refl; within = omega arith; rest_is = refl; places = λ n. (let e : 0 + n ≡ n = omega arith in ap (λ n. place_of bytes n) e) }

take_over : (cs ds : List ℕ) (n : ℕ) → take (length cs + n) (cs ++ ds) ≡ cs ++ take n ds
take_over [] ds n = let e : 0 + n ≡ n = omega arith in ap (λ n. take n ds) e
take_over (c ∷ cs) ds n =
    let e : suc (length cs) + n ≡ suc (length cs + n) = omega arith in
    ap (λ n. take n (c ∷ (cs ++ ds))) e ∙ ap (λ t. c ∷ t) (take_over cs ds n)

pub place_here : (bytes : List ℕ) (at line column : ℕ) (rest : List ℕ) → Stands bytes at line column rest → place_of bytes at ≡ record { line = line; column = column }
place_here bytes at line column rest s = let e : at ≡ at + 0 = omega arith in ap (λ n. place_of bytes n) e ∙ s.places 0

pub further : (bytes : List ℕ) (at line column : ℕ) (cs rest : List ℕ) → AllIn class.Line cs 0 (length cs) → Stands bytes at line column (cs ++ rest) → Stands bytes (at + length cs) line (column_behind column cs) rest
further bytes at line column cs rest all s =
    record {
      before = last_of s.before cs;
      no_return = last_no_return s.before cs s.no_return all;
      within = omega (arith, s.within, ap length s.rest_is, length-drop at bytes, length-append cs rest);
      rest_is = sym (drop-drop (length cs) at bytes) ∙ ap (drop (length cs)) s.rest_is ∙ drop_at cs rest (length cs) refl;
      places = λ n. go n;
    }
  where
    go : (n : ℕ) → place_of bytes (at + length cs + n) ≡ place_behind (last_of s.before cs) (at_place line (column_behind column cs)) (take n rest)
    go n =
        let e : at + length cs + n ≡ at + (length cs + n) = omega arith in
        ap (λ n. place_of bytes n) e ∙ s.places (length cs + n) ∙ ap (place_behind s.before (at_place line column)) (take_over cs rest n) ∙ behind_line s.before line column cs (take n rest) all

pub next : (bytes : List ℕ) (at line column : ℕ) (rest : List ℕ) → Stands bytes at line column (10 ∷ rest) → Stands bytes (at + 1) (line + 1) 1 rest
next bytes at line column rest s =
    record {
      before = 10;
      no_return = refl;
      within = omega (arith, s.within, ap length s.rest_is, length-drop at bytes);
      rest_is = sym (drop-drop 1 at bytes) ∙ ap (drop 1) s.rest_is;
      places = λ n. go n;
    }
  where
    go : (n : ℕ) → place_of bytes (at + 1 + n) ≡ place_behind 10 (at_place (line + 1) 1) (take n rest)
    go n =
        let e : at + 1 + n ≡ at + suc n = omega arith in
        ap (λ n. place_of bytes n) e ∙ s.places (suc n) ∙ ap (λ b. place_behind 10 (if b then at_place line column else at_place (line + 1) 1) (take n rest)) s.no_return

blank_line : (n : ℕ) → AllIn class.Line (replicate n 32) 0 (length {A = ℕ} (replicate n 32))
blank_line zero i le lt = absurd (omega arith)
blank_line (suc n) zero le lt = refl
blank_line (suc n) (suc i) le lt = blank_line n i (omega arith) (omega arith)

blank_columns : (n column : ℕ) → column_behind column (replicate n 32) ≡ column + n
blank_columns zero column = let e : column ≡ column + 0 = omega arith in e
blank_columns (suc n) column = blank_columns n (column + 1) ∙ (let e : column + 1 + n ≡ column + suc n = omega arith in e)

replicate_long : (n : ℕ) → length {A = ℕ} (replicate n 32) ≡ n
replicate_long zero = refl
replicate_long (suc n) = ap suc (replicate_long n)

pub over_blanks : (bytes : List ℕ) (at line column n : ℕ) (rest : List ℕ) → Stands bytes at line column (replicate n 32 ++ rest) → Stands bytes (at + n) line (column + n) rest
over_blanks bytes at line column n rest s =
    let moved = further bytes at line column (replicate n 32) rest (blank_line n) s in
    subst (λ c. Stands bytes (at + n) line c rest) (blank_columns n column) (subst (λ m. Stands bytes (at + m) line (column_behind column (replicate n 32)) rest) (replicate_long n) moved)

-- runs of pieces

-- from one place up to another a file is cut into pieces, and these are their tokens
pub record Run (bytes : List ℕ) (at end : ℕ) (tokens : List Token) : Type 0 where
  pub pieces : List Piece
  pub cut : CutsUpTo (text_of bytes) at pieces end
  pub are : tokens ≡ filter_map (token_of bytes) pieces

pub no_run : (bytes : List ℕ) (at : ℕ) → Run bytes at at []
no_run bytes at = record { pieces = []; cut = refl; are = refl }

cuts_join : (text : List ℕ) (at mid end : ℕ) (ps qs : List Piece) → CutsUpTo text at ps mid → CutsUpTo text mid qs end → CutsUpTo text at (ps ++ qs) end
cuts_join text at mid end [] qs h g = subst (λ m. CutsUpTo text m qs end) (sym h) g
cuts_join text at mid end (p ∷ ps) qs h g = (h.0, h.1, h.2, h.3, cuts_join text p.end mid end ps qs h.4 g)

pub join : (bytes : List ℕ) (at mid end : ℕ) (ts us : List Token) → Run bytes at mid ts → Run bytes mid end us → Run bytes at end (ts ++ us)
join bytes at mid end ts us r q =
    record {
      pieces = r.pieces ++ q.pieces;
      cut = cuts_join (text_of bytes) at mid end r.pieces q.pieces r.cut q.cut;
      are = ap (λ t. t ++ us) r.are ∙ ap (λ u. filter_map (token_of bytes) r.pieces ++ u) q.are ∙ sym (filter_map-append (token_of bytes) r.pieces q.pieces);
    }

-- a file that begins with the mark of no encoding
pub record IsPlain (bytes : List ℕ) : Type 0 where
  pub narrow : is_utf16 bytes ≡ false
  pub unmarked : is_marked bytes ≡ false

no_mark : (c mark : ℕ) → c < 128 → 128 ≤ mark → (c == mark) ≡ false
no_mark c mark small large = grind (arith, nat_tests)

pub begins_plain : (bytes : List ℕ) → get_or bytes 0 0 < 128 → IsPlain bytes
begins_plain bytes small = record {
  narrow = ap (λ b. b && (get_or bytes 1 0 == 254)) (no_mark (get_or bytes 0 0) 255 small (omega arith));
  unmarked = ap (λ b. b && ((get_or bytes 1 0 == 187) && (get_or bytes 2 0 == 191))) (no_mark (get_or bytes 0 0) 239 small (omega arith));
}

module _ (bytes : List ℕ) (plain : IsPlain bytes) where
  no_length : mark_length bytes ≡ 0
  no_length = ap (λ u. if u then 2 else if is_marked bytes then 3 else 0) plain.narrow ∙ ap (λ m. if m then 3 else 0) plain.unmarked

  pub text_is : text_of bytes ≡ bytes
  text_is = ap (λ u. decoded u (drop (mark_length bytes) bytes)) plain.narrow ∙ ap (λ n. drop n bytes) no_length

  offset_is : (n : ℕ) → offset_of bytes n ≡ n
  offset_is n =
      let behind : (if is_utf16 bytes then 2 * n else n) ≡ n = ap (λ u. if u then 2 * n else n) plain.narrow in
      let none : 0 + n ≡ n = omega arith in
      (λ i. no_length i + behind i) ∙ none

  module _ (at n : ℕ) (rest : List ℕ) (here : drop at bytes ≡ rest) where
    there : drop at (text_of bytes) ≡ rest
    there = ap (drop at) text_is ∙ here

    long : n ≡ at + n - at
    long = omega arith

    one_cut_up_to : (k : PieceKind) → Cuts k rest n → IsGood k rest n → CutsUpTo (text_of bytes) at (record { kind = k; begin = at; end = at + n } ∷ []) (at + n)
    one_cut_up_to k cut good =
        (refl, omega arith, subst (λ n. Cuts k (drop at (text_of bytes)) n) long (subst (λ t. Cuts k t n) (sym there) cut), subst (λ n. IsGood k (drop at (text_of bytes)) n) long (subst (λ t. IsGood k t n) (sym there) good), refl)

    pub blank_run : Cuts Blank rest n → Run bytes at (at + n) []
    blank_run cut = record { pieces = record { kind = Blank; begin = at; end = at + n } ∷ []; cut = one_cut_up_to Blank cut tt; are = refl }

    -- the token that is made of them
    abbrev pub made : TokenKind → Token
    made k = record { place = place_of (text_of bytes) at; kind = k; begin = offset_of bytes at; end = offset_of bytes (at + n) }

    pub token_run : (k : TokenKind) → Cuts (TokenOf k) rest n → IsGood (TokenOf k) rest n → Run bytes at (at + n) (made k ∷ [])
    token_run k cut good = record { pieces = record { kind = TokenOf k; begin = at; end = at + n } ∷ []; cut = one_cut_up_to (TokenOf k) cut good; are = refl }

    pub characters_made : (k : TokenKind) → characters bytes (made k) ≡ take n rest
    characters_made k =
        ap (λ u. decoded u (take (offset_of bytes (at + n) - offset_of bytes at) (drop (offset_of bytes at) bytes))) plain.narrow
        ∙ ap (λ b. take (offset_of bytes (at + n) - b) (drop b bytes)) (offset_is at) ∙ ap (λ e. take (e - at) (drop at bytes)) (offset_is (at + n)) ∙ ap (λ n. take n (drop at bytes)) (sym long) ∙ ap (take n) here

    pub place_made : (line column : ℕ) → Stands bytes at line column rest → place_of (text_of bytes) at ≡ record { line = line; column = column }
    place_made line column s = ap (λ t. place_of t at) text_is ∙ place_here bytes at line column rest s
