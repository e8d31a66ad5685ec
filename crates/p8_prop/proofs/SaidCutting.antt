-- What the lexer cuts a source into is what the sentence's definitions cut it into, and they cut it in one way.
use Rattle.std.proofs.Common.{◌≡◌, ◌⊎◌, ◌∙◌, sym, ap, subst, refl, inl, inr, ℕ, zero, suc, ◌+◌, ◌-◌, ◌*◌, ◌/◌, ◌<◌, ◌≤◌, Bool, true, false, List, [], ◌∷◌, map, length}
use Rattle.std.proofs.Common.{take, drop, Option, Some, None, arith}
use Rattle.std.specs.Prelude.{IsTrue, ◌==◌, ◌&&◌, ◌||◌, if◌then◌else◌, slice_get, slice_index, filter_map}
use Rattle.std.specs.Char.{is_digit}
use Rattle.std.proofs.lemmas.Bool.{cases_lt}
use Rattle.std.proofs.lemmas.Bool.Decides.{nat_tests}
use Rattle.std.proofs.lemmas.List.{drop-drop}
use Rattle.std.proofs.lemmas.Option.{same_Some}
use Rattle.std.proofs.Math.Seq.{drop-length}
use Rattle.p8_tree.specs.declared.places.Place.{Place}
use Rattle.p8_lexer.specs.declared.piece.PieceKind.{PieceKind}
use Rattle.p8_lexer.specs.declared.piece.PieceKind.TheVariants.{Blank, LineComment, Comment, DocComment, Token as TokenOf}
use Rattle.p8_lexer.specs.declared.piece.Radix.{Radix}
use Rattle.p8_lexer.specs.declared.piece.Radix.TheVariants as radix
use Rattle.p8_lexer.specs.declared.token.Token.{Token}
use Rattle.p8_lexer.specs.declared.token.TokenKind.{TokenKind}
use Rattle.p8_lexer.specs.declared.token.TokenKind.TheVariants.{Name, Number, Float, Str, Symbol, LineEnd}
use Rattle.p8_lexer.specs.declared.word.Word.{Word}
use Rattle.p8_lexer.specs.Characters.{is_utf16, mark_length, units, decoded, text_of, offset_of}
use Rattle.p8_lexer.specs.Places as places
use Rattle.p8_lexer.specs.Words as words
use Rattle.p8_lexer.specs.Words.{first_of}
use Rattle.p8_lexer.specs.Lexing as lexing
use Rattle.p8_lexer.specs.Lexing.{Piece, is_letter, mark, base, token_of}
use Rattle.p8_lexer.proofs.Files.{positive}
use Rattle.p8_lexer.proofs.PieceKinds.{one_kind}
use Rattle.p8_lexer.proofs.Units.{units-drop, units-take}
use Rattle.p8_lines.specs.Tokens.{LineToken, line_token}
use Rattle.p8_prop.specs.Words.{Entry, symbols}
use Rattle.p8_prop.specs.Cutting as cutting
use Rattle.p8_prop.specs.Cutting.{AreCut, at_end, a_gap, a_token, place_at}
use Rattle.p8_prop.proofs.SaidWords.{words_of, AreSpelled, symbol-words, symbols-spelled, first-same, rest-same}

-- ---- symbols

-- what stands there of a word
record Stands (es : List Entry) (n : ℕ) (w : Word) : Type 0 where
  entry : Entry
  at : slice_get es n ≡ Some entry
  is : entry.word ≡ w

stands : (es : List Entry) (n : ℕ) (w : Word) → slice_get (words_of es) n ≡ Some w → Stands es n w
stands [] n w h = absurd cc
stands (e ∷ es) zero w h = record { entry = e; at = refl; is = same_Some e.word w h }
stands (e ∷ es) (suc n) w h = let it = stands es n w h in record { entry = it.entry; at = it.at; is = it.is }

word-at : (es : List Entry) (n : ℕ) (e : Entry) → slice_get es n ≡ Some e → slice_get (words_of es) n ≡ Some e.word
word-at [] n e h = absurd cc
word-at (d ∷ es) zero e h = ap (λ (e : Entry). Some e.word) (same_Some d e h)
word-at (d ∷ es) (suc n) e h = word-at es n e h

spelled-at : (es : List Entry) → AreSpelled es → (n : ℕ) (e : Entry) → slice_get es n ≡ Some e → first_of e.spellings ≡ words.spelling e.word
spelled-at [] same n e h = absurd cc
spelled-at (d ∷ es) same zero e h =
    subst (λ (e : Entry). first_of e.spellings ≡ words.spelling e.word) (same_Some d e h) (ap first_of (first-same same))
spelled-at (d ∷ es) same (suc n) e h = spelled-at es (rest-same same) n e h

-- ---- digits

digit-same : (r : Radix) (c : ℕ) → lexing.is_digit r c ≡ is_digit c (base r)
digit-same radix.Binary c = grind (arith, nat_tests)
digit-same radix.Quaternary c = grind (arith, nat_tests)
digit-same radix.Decimal c = grind (arith, nat_tests)
digit-same radix.Hexadecimal c = grind (arith, nat_tests)

digits-to : (r : Radix) (text : List ℕ) (from to : ℕ) → lexing.AreDigits r text from to → cutting.AreDigits (base r) text from to
digits-to r text from to (some, first, all) = (
  some,
  subst (λ (b : Bool). IsTrue b) (digit-same r (slice_index text from)) first,
  λ i low high. subst (λ (b : Bool). IsTrue (b || (slice_index text i == 95))) (digit-same r (slice_index text i)) (all i low high),
)

digits-from : (r : Radix) (text : List ℕ) (from to : ℕ) → cutting.AreDigits (base r) text from to → lexing.AreDigits r text from to
digits-from r text from to (some, first, all) = (
  some,
  subst (λ (b : Bool). IsTrue b) (sym (digit-same r (slice_index text from))) first,
  λ i low high. subst (λ (b : Bool). IsTrue (b || (slice_index text i == 95))) (sym (digit-same r (slice_index text i))) (all i low high),
)

number-to : (r : Radix) (v : ℕ) (text : List ℕ) (n : ℕ) → lexing.IsNumber r v text n → cutting.IsNumber (mark r) (base r) v text n
number-to r v text n (begins, digits, value) = (begins, digits-to r text (length (mark r)) n digits, value)

number-from : (r : Radix) (v : ℕ) (text : List ℕ) (n : ℕ) → cutting.IsNumber (mark r) (base r) v text n → lexing.IsNumber r v text n
number-from r v text n (begins, digits, value) = (begins, digits-from r text (length (mark r)) n digits, value)

a-number : (r : Radix) (v : ℕ) (text : List ℕ) (n : ℕ) → lexing.IsNumber r v text n → cutting.Is (Some (Number v)) text n
a-number radix.Binary v text n h = inl (number-to radix.Binary v text n h)
a-number radix.Quaternary v text n h = inr (inl (number-to radix.Quaternary v text n h))
a-number radix.Decimal v text n h = inr (inr (inl (number-to radix.Decimal v text n h)))
a-number radix.Hexadecimal v text n h = inr (inr (inr (number-to radix.Hexadecimal v text n h)))

fraction-to : (text : List ℕ) (from to : ℕ) → lexing.IsFraction text from to → cutting.IsFraction text from to
fraction-to text from to h = (h.0, digits-to radix.Decimal text (from + 1) to h.1)

fraction-from : (text : List ℕ) (from to : ℕ) → cutting.IsFraction text from to → lexing.IsFraction text from to
fraction-from text from to h = (h.0, digits-from radix.Decimal text (from + 1) to h.1)

exponent-to : (text : List ℕ) (from to : ℕ) → lexing.IsExponent text from to → cutting.IsExponent text from to
exponent-to text from to (e, inl digits) = (e, inl (digits-to radix.Decimal text (from + 1) to digits))
exponent-to text from to (e, inr behind) = (e, inr (behind.0, digits-to radix.Decimal text (from + 2) to behind.1))

exponent-from : (text : List ℕ) (from to : ℕ) → cutting.IsExponent text from to → lexing.IsExponent text from to
exponent-from text from to (e, inl digits) = (e, inl (digits-from radix.Decimal text (from + 1) to digits))
exponent-from text from to (e, inr behind) = (e, inr (behind.0, digits-from radix.Decimal text (from + 2) to behind.1))

tail-to : (text : List ℕ) (from to : ℕ) → lexing.IsFloatTail text from to → cutting.IsFloatTail text from to
tail-to text from to (inl f) = inl (fraction-to text from to f)
tail-to text from to (inr (inl e)) = inr (inl (exponent-to text from to e))
tail-to text from to (inr (inr (m, f, e))) = inr (inr (m, fraction-to text from m f, exponent-to text m to e))

tail-from : (text : List ℕ) (from to : ℕ) → cutting.IsFloatTail text from to → lexing.IsFloatTail text from to
tail-from text from to (inl f) = inl (fraction-from text from to f)
tail-from text from to (inr (inl e)) = inr (inl (exponent-from text from to e))
tail-from text from to (inr (inr (m, f, e))) = inr (inr (m, fraction-from text from m f, exponent-from text m to e))

-- ---- pieces

-- the token that a piece is, if it is one
abbrev kind_of : PieceKind → Option TokenKind
kind_of (TokenOf k) = Some k
kind_of k = None

to : (k : PieceKind) (text : List ℕ) (n : ℕ) → lexing.Is k text n → cutting.Is (kind_of k) text n
to Blank text n h = inl h
to LineComment text n h = inr (inl h)
to Comment text n h = inr (inr (inl h))
to DocComment text n h = inr (inr (inr h))
to (TokenOf LineEnd) text n h = h
to (TokenOf Name) text n (some, first, all) =
    (some, first, λ i low high. subst (λ (b : Bool). IsTrue (is_letter (slice_index text i) || b)) (digit-same radix.Decimal (slice_index text i)) (all i low high))
to (TokenOf (Number v)) text n (r, h) = a-number r v text n h
to (TokenOf Float) text n (m, digits, tail) = (m, digits-to radix.Decimal text 0 m digits, tail-to text m n tail)
to (TokenOf Str) text n h = h
to (TokenOf (Symbol s)) text n (w, at, is) =
    let it = stands symbols s w (ap (λ (ws : List Word). slice_get ws s) symbol-words ∙ at) in
    (it.entry, it.at, is ∙ sym (spelled-at symbols symbols-spelled s it.entry it.at ∙ ap words.spelling it.is))

-- what the lexer says of such a piece
record Old (o : Option TokenKind) (text : List ℕ) (n : ℕ) : Type 0 where
  kind : PieceKind
  same : kind_of kind ≡ o
  is : lexing.Is kind text n

from : (o : Option TokenKind) (text : List ℕ) (n : ℕ) → cutting.Is o text n → Old o text n
from None text n (inl h) = record { kind = Blank; same = refl; is = h }
from None text n (inr (inl h)) = record { kind = LineComment; same = refl; is = h }
from None text n (inr (inr (inl h))) = record { kind = Comment; same = refl; is = h }
from None text n (inr (inr (inr h))) = record { kind = DocComment; same = refl; is = h }
from (Some LineEnd) text n h = record { kind = TokenOf LineEnd; same = refl; is = h }
from (Some Name) text n (some, first, all) = record {
  kind = TokenOf Name;
  same = refl;
  is = (
    some,
    first,
    λ i low high. subst (λ (b : Bool). IsTrue (is_letter (slice_index text i) || b)) (sym (digit-same radix.Decimal (slice_index text i))) (all i low high),
  );
}
from (Some (Number v)) text n (inl h) =
    record { kind = TokenOf (Number v); same = refl; is = (radix.Binary, number-from radix.Binary v text n h) }
from (Some (Number v)) text n (inr (inl h)) =
    record { kind = TokenOf (Number v); same = refl; is = (radix.Quaternary, number-from radix.Quaternary v text n h) }
from (Some (Number v)) text n (inr (inr (inl h))) =
    record { kind = TokenOf (Number v); same = refl; is = (radix.Decimal, number-from radix.Decimal v text n h) }
from (Some (Number v)) text n (inr (inr (inr h))) =
    record { kind = TokenOf (Number v); same = refl; is = (radix.Hexadecimal, number-from radix.Hexadecimal v text n h) }
from (Some Float) text n (m, digits, tail) =
    record { kind = TokenOf Float; same = refl; is = (m, digits-from radix.Decimal text 0 m digits, tail-from text m n tail) }
from (Some Str) text n h = record { kind = TokenOf Str; same = refl; is = h }
from (Some (Symbol s)) text n (e, at, is) = record {
  kind = TokenOf (Symbol s);
  same = refl;
  is = (e.word, sym (ap (λ (ws : List Word). slice_get ws s) symbol-words) ∙ word-at symbols s e at, is ∙ spelled-at symbols symbols-spelled s e at);
}

cuts-to : (k : PieceKind) (text : List ℕ) (n : ℕ) → lexing.Cuts k text n → cutting.Cuts (kind_of k) text n
cuts-to k text n c = record {
  within = c.within;
  is = to k text n c.is;
  longest = λ o m more short it. let old = from o text m it in c.longest old.kind m more short old.is;
}

-- ---- places

behind-same : (before : ℕ) (p : Place) (c : ℕ) → places.behind before p c ≡ cutting.behind before p c
behind-same before p c = go (c == 10) (before == 13) (c == 13) (c == 9)
  where
    go : (a b d e : Bool) → (if a then (if b then p else record { line = p.line + 1; column = 1 })
        else (if d then record { line = p.line + 1; column = 1 }
        else (if e then record { line = p.line; column = 8 * ((p.column - 1) / 8) + 9 } else record { line = p.line; column = p.column + 1 })))
        ≡ (if a && b then p else if a || d then record { line = p.line + 1; column = 1 }
        else record { line = p.line; column = if e then 8 * ((p.column - 1) / 8) + 9 else p.column + 1 })
    go true true d e = refl
    go true false d e = refl
    go false b true e = refl
    go false b false true = refl
    go false b false false = refl

all-behind : (cs : List ℕ) (before : ℕ) (p : Place) → places.place_behind before p cs ≡ cutting.place_behind before p cs
all-behind [] before p = refl
all-behind (c ∷ cs) before p =
    all-behind cs c (places.behind before p c) ∙ ap (λ (q : Place). cutting.place_behind c q cs) (behind-same before p c)

place-same : (text : List ℕ) (n : ℕ) → places.place_of text n ≡ place_at text n
place-same text n = all-behind (take n text) 0 (record { line = 1; column = 1 })

-- ---- tokens

-- the characters of a token are those of the text from its begin to its end
characters-are : (bytes : List ℕ) (b e : ℕ)
    → decoded (is_utf16 bytes) (take (offset_of bytes e - offset_of bytes b) (drop (offset_of bytes b) bytes)) ≡ take (e - b) (drop b (text_of bytes))
characters-are bytes b e = go (is_utf16 bytes) (mark_length bytes)
  where
    go : (wide : Bool) (m : ℕ) → decoded wide (take ((m + (if wide then 2 * e else e)) - (m + (if wide then 2 * b else b))) (drop (m + (if wide then 2 * b else b)) bytes))
        ≡ take (e - b) (drop b (decoded wide (drop m bytes)))
    go true m =
        let long : (m + 2 * e) - (m + 2 * b) ≡ 2 * (e - b) = omega arith in
        ap (λ (k : ℕ). units (take k (drop (m + 2 * b) bytes))) long ∙ units-take (e - b) (drop (m + 2 * b) bytes)
        ∙ ap (λ (xs : List ℕ). take (e - b) (units xs)) (sym (drop-drop (2 * b) m bytes)) ∙ ap (take (e - b)) (units-drop b (drop m bytes))
    go false m =
        let long : (m + e) - (m + b) ≡ e - b = omega arith in
        ap (λ (k : ℕ). take k (drop (m + b) bytes)) long ∙ ap (take (e - b)) (sym (drop-drop b m bytes))

module _ (bytes : List ℕ) where
  token-is : (k : TokenKind) (b e at : ℕ) → b ≡ at
      → line_token bytes (record { place = places.place_of (text_of bytes) b; kind = k; begin = offset_of bytes b; end = offset_of bytes e })
      ≡ record { place = place_at (text_of bytes) at; text = take (e - at) (drop at (text_of bytes)); kind = k }
  token-is k b e at begins =
      λ i. record {
        place = (place-same (text_of bytes) b ∙ ap (place_at (text_of bytes)) begins) i;
        text = (characters-are bytes b e ∙ ap (λ (a : ℕ). take (e - a) (drop a (text_of bytes))) begins) i;
        kind = k;
      }

  -- the tokens of pieces, as lines have them
  abbrev tokens_of : List Piece → List LineToken
  tokens_of ps = map (line_token bytes) (filter_map (token_of bytes) ps)

  one-piece : (k : PieceKind) (b e at : ℕ) (ps : List Piece) → b ≡ at → cutting.Cuts (kind_of k) (drop at (text_of bytes)) (e - at)
      → AreCut (text_of bytes) (at + (e - at)) (tokens_of ps) → AreCut (text_of bytes) at (tokens_of (record { kind = k; begin = b; end = e } ∷ ps))
  one-piece Blank b e at ps begins cuts rest = a_gap (e - at) cuts rest
  one-piece LineComment b e at ps begins cuts rest = a_gap (e - at) cuts rest
  one-piece Comment b e at ps begins cuts rest = a_gap (e - at) cuts rest
  one-piece DocComment b e at ps begins cuts rest = a_gap (e - at) cuts rest
  one-piece (TokenOf k) b e at ps begins cuts rest =
      subst (λ (t : LineToken). AreCut (text_of bytes) at (t ∷ tokens_of ps)) (sym (token-is k b e at begins)) (a_token k (e - at) cuts rest)

  all-to : (at : ℕ) (ps : List Piece) → lexing.CutsUpTo (text_of bytes) at ps (length (text_of bytes)) → AreCut (text_of bytes) at (tokens_of ps)
  all-to at [] h = at_end h
  all-to at (p ∷ ps) (begins, ahead, cuts, good, rest) =
      let ends : p.end ≡ at + (p.end - at) = omega (arith, ahead) in
      one-piece p.kind p.begin p.end at ps begins (cuts-to p.kind (drop at (text_of bytes)) (p.end - at) cuts)
      (subst (λ (a : ℕ). AreCut (text_of bytes) a (tokens_of ps)) ends (all-to p.end ps rest))

pub tokens-to : (bytes : List ℕ) (tokens : List Token) → lexing.AreTokens bytes tokens → cutting.AreTokens bytes (map (line_token bytes) tokens)
tokens-to bytes tokens (whole, (ps, cuts, are)) =
    subst (λ (ts : List Token). AreCut (text_of bytes) 0 (map (line_token bytes) ts)) (sym are) (all-to bytes 0 ps cuts)

-- ---- and there is one way

one-length : (o p : Option TokenKind) (text : List ℕ) (n m : ℕ) → cutting.Cuts o text n → cutting.Cuts p text m → n ≡ m
one-length o p text n m c d = go (cases_lt n m) (cases_lt m n)
  where
    go : (n < m) ⊎ (m ≤ n) → (m < n) ⊎ (n ≤ m) → n ≡ m
    go (inl less) h = absurd (c.longest p m less d.within d.is)
    go (inr le) (inl less) = absurd (d.longest o n less c.within c.is)
    go (inr le) (inr ge) = omega arith

one-step : (o p : Option TokenKind) (text : List ℕ) (n m : ℕ) → cutting.Cuts o text n → cutting.Cuts p text m → (n ≡ m) × (o ≡ p)
one-step o p text n m c d =
    let long = one-length o p text n m c d in
    let a = from o text n c.is in
    let b = from p text n (subst (λ (k : ℕ). cutting.Is p text k) (sym long) d.is) in
    (long, sym a.same ∙ ap kind_of (one_kind a.kind b.kind text n c.within a.is b.is) ∙ b.same)

-- nothing is left at the end
nothing-left : (o : Option TokenKind) (text : List ℕ) (at n : ℕ) → at ≡ length text → cutting.Cuts o (drop at text) n → ⊥
nothing-left o text at n ends c =
    let it : cutting.Cuts o [] n = subst (λ (t : List ℕ). cutting.Cuts o t n) (ap (λ (a : ℕ). drop a text) ends ∙ drop-length text) c in
    let old = from o [] n it.is in
    let some : 0 < n = positive old.kind [] n it.within old.is in
    let none : n ≤ 0 = it.within in
    omega (arith, some, none)

no-token : (k : TokenKind) → None ≡ Some k → ⊥
no-token k e = cc

pub one-cut : {text : List ℕ} {at : ℕ} {ts us : List LineToken} → AreCut text at ts → AreCut text at us → ts ≡ us
one-cut (at_end e) (at_end f) = refl
one-cut {text = text} (at_end {at = at} e) (a_gap n c rest) = absurd (nothing-left None text at n e c)
one-cut {text = text} (at_end {at = at} e) (a_token k n c rest) = absurd (nothing-left (Some k) text at n e c)
one-cut {text = text} (a_gap {at = at} n c rest) (at_end e) = absurd (nothing-left None text at n e c)
one-cut {text = text} (a_token {at = at} k n c rest) (at_end e) = absurd (nothing-left (Some k) text at n e c)
one-cut {text = text} (a_gap {at = at} n c rest) (a_gap {ts = us} m d more) =
    let same = one-step None None (drop at text) n m c d in
    one-cut rest (subst (λ (k : ℕ). AreCut text (at + k) us) (sym same.0) more)
one-cut {text = text} (a_gap {at = at} n c rest) (a_token k m d more) = absurd (no-token k (one-step None (Some k) (drop at text) n m c d).1)
one-cut {text = text} (a_token {at = at} k n c rest) (a_gap m d more) = absurd (no-token k (sym (one-step (Some k) None (drop at text) n m c d).1))
one-cut {text = text} (a_token {at = at} k n c rest) (a_token {ts = us} l m d more) =
    let same = one-step (Some k) (Some l) (drop at text) n m c d in
    let tail = one-cut rest (subst (λ (k : ℕ). AreCut text (at + k) us) (sym same.0) more) in
    λ i. record { place = place_at text at; text = take (same.0 i) (drop at text); kind = same_Some k l same.1 i } ∷ tail i
