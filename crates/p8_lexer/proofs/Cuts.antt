-- The first piece of each kind, and why no longer piece begins a text.
use Rattle.std.proofs.Common.{◌≡◌, ◌≢◌, ℕ, zero, suc, ◌+◌, ◌-◌, ◌<◌, ◌≤◌, ◌⊎◌, inl, inr, List, [], ◌∷◌, length, take, map, get_or, Bool, true, false, Option, Some, None, refl, sym, ap, ◌∙◌, subst, arith}
use Rattle.std.specs.Prelude.{◌==◌, ◌&&◌, ◌||◌, not, IsTrue, slice_get, MatchOption}
use Rattle.std.specs.List.{list_all}
use Rattle.std.proofs.lemmas.Bool.Decides.{nat_tests}
use Rattle.std.proofs.lemmas.Bool.{cases_lt}
use Rattle.std.proofs.lemmas.List.{length-take-le}
use Rattle.std.proofs.Math.Seq.{take-length}
use Rattle.p8_lexer.specs.declared.piece.Cut.{Cut}
use Rattle.p8_lexer.specs.declared.piece.PieceKind.{PieceKind}
use Rattle.p8_lexer.specs.declared.token.TokenKind.{TokenKind}
use Rattle.p8_lexer.specs.declared.piece.PieceKind.TheVariants.{Blank, LineComment, Comment, DocComment, Token as TokenOf}
use Rattle.p8_lexer.specs.declared.piece.Radix.{Radix}
use Rattle.p8_lexer.specs.declared.piece.Radix.TheVariants as radix
use Rattle.p8_lexer.specs.declared.piece.Class.{Class}
use Rattle.p8_lexer.specs.declared.piece.Class.TheVariants as class
use Rattle.p8_lexer.specs.declared.token.TokenKind.TheVariants.{Name, Number, Float, Str, Symbol, LineEnd}
use Rattle.p8_lexer.specs.declared.word.Word.{Word}
use Rattle.p8_lexer.specs.Words.{entry, first_of, spelling, symbols, every_word, capital, same, is_among, first_spelled, word_spelled}
use Rattle.p8_lexer.specs.Lexing.{is_letter, is_line_end, is_digit, is_in, mark, AllIn, AreDigits, IsFloatTail, Is, Cuts, IsGood, NoneIs}
use Rattle.p8_lexer.specs.Cutting.{IsGreatest, IsLongest, IsSymbol, OnlySymbols, IsCut, IsCutOrStuck, cut_or_open}
use Rattle.p8_lexer.proofs.RunLemmas.{not_both, run_stops, digits_longest}
use Rattle.p8_lexer.proofs.Pieces.{class_of, may, class_at, letter_class, blank_class, digit_class, take_head, take_second, Starts, starts, one_radix, after_mark, meets_tail}
use Rattle.p8_lexer.proofs.Symbols.{passes_at, spelling_length, symbol_length}
use Rattle.p8_lexer.proofs.Searches.{same-true, read_back, spells, spells_itself}

-- blanks, comments to a line's end, names

all_from : (k : Class) (text : List ℕ) (n : ℕ) → IsTrue (is_in k (get_or text 0 0)) → AllIn k text 1 n → AllIn k text 0 n
all_from k text n h all zero from to = h
all_from k text n h all (suc i) from to = all (suc i) (omega arith) to

module _ (text : List ℕ) (n : ℕ) (after : 1 ≤ n) (within : n ≤ length text) where
  pub blank_cut : IsTrue (is_in class.Blank (get_or text 0 0)) → AllIn class.Blank text 1 n → (n < length text → is_in class.Blank (get_or text n 0) ≡ false) → Cuts Blank text n
  blank_cut h all stops = record { within = within; is = (omega arith, all_from class.Blank text n h all); longest = λ k m above w is. go k m above w (class_at k text m 1 is (blank_class (get_or text 0 0) h)) is }
    where
      go : (k : PieceKind) (m : ℕ) → n < m → m ≤ length text → IsTrue (may k 1) → Is k text m → ⊥
      go Blank m above w c is = run_stops class.Blank text 0 n (omega arith) stops m above w is.1
      go (TokenOf Name) m above w c is = cc
      go k m above w c is = cc

  pub line_comment_cut : get_or text 0 0 ≡ 39 → AllIn class.Line text 1 n → (n < length text → is_in class.Line (get_or text n 0) ≡ false) → Cuts LineComment text n
  line_comment_cut h all stops = record { within = within; is = (omega arith, h, all); longest = λ k m above w is. go k m above w (class_at k text m 4 is (ap class_of h)) is }
    where
      go : (k : PieceKind) (m : ℕ) → n < m → m ≤ length text → IsTrue (may k 4) → Is k text m → ⊥
      go LineComment m above w c is = run_stops class.Line text 1 n after stops m above w is.2
      go (TokenOf Name) m above w c is = cc
      go k m above w c is = cc

  pub name_cut : IsTrue (is_letter (get_or text 0 0)) → AllIn class.Name text 1 n → (n < length text → is_in class.Name (get_or text n 0) ≡ false) → Cuts (TokenOf Name) text n
  name_cut h all stops = record { within = within; is = (omega arith, h, all); longest = λ k m above w is. go k m above w (class_at k text m 0 is (letter_class (get_or text 0 0) h)) is }
    where
      go : (k : PieceKind) (m : ℕ) → n < m → m ≤ length text → IsTrue (may k 0) → Is k text m → ⊥
      go (TokenOf Name) m above w c is = run_stops class.Name text 1 n after stops m above w is.2
      go k m above w c is = cc

-- line ends

take_length : (text : List ℕ) (m : ℕ) (t : List ℕ) → m ≤ length text → take m text ≡ t → m ≡ length t
take_length text m t within e = sym (length-take-le m text within) ∙ ap length e

take_one : (text : List ℕ) (c : ℕ) → 0 < length text → get_or text 0 0 ≡ c → take 1 text ≡ c ∷ []
take_one [] c lt e = absurd (omega arith)
take_one (x ∷ text) c lt e = ap (λ c. c ∷ []) e

module _ (text : List ℕ) where
  ends_at_one : (get_or text 0 0 ≡ 13 → get_or text 1 0 ≡ 10 → ⊥) → (m : ℕ) → 1 < m → m ≤ length text → Is (TokenOf LineEnd) text m → ⊥
  ends_at_one never m above within (inl e) = omega (arith, take_length text m (10 ∷ []) within e)
  ends_at_one never m above within (inr (inl e)) = omega (arith, take_length text m (13 ∷ []) within e)
  ends_at_one never m above within (inr (inr e)) = never (take_head text m 13 (10 ∷ []) e) (take_second text m 13 10 [] e)

  past_line_end : (n : ℕ) → IsTrue (is_line_end (get_or text 0 0)) → ((m : ℕ) → n < m → m ≤ length text → Is (TokenOf LineEnd) text m → ⊥) → (k : PieceKind) (m : ℕ) → n < m → m ≤ length text → Is k text m → ⊥
  past_line_end n h past k m above within is = go k (class_at k text m 2 is (line_end_class_of (get_or text 0 0) h)) is
    where
      line_end_class_of : (c : ℕ) → IsTrue (is_line_end c) → class_of c ≡ 2
      line_end_class_of c h = grind (arith, nat_tests)

      go : (k : PieceKind) → IsTrue (may k 2) → Is k text m → ⊥
      go (TokenOf LineEnd) c is = past m above within is
      go k c is = cc

  pub one_cut : 0 < length text → IsTrue (is_line_end (get_or text 0 0)) → (get_or text 0 0 ≡ 13 → get_or text 1 0 ≡ 10 → ⊥) → Cuts (TokenOf LineEnd) text 1
  one_cut lt h never = record { within = lt; is = go (which (get_or text 0 0) h); longest = past_line_end 1 h (ends_at_one never) }
    where
      which : (c : ℕ) → IsTrue (is_line_end c) → (c ≡ 10) ⊎ (c ≡ 13)
      which c h = grind (arith, nat_tests)

      go : (get_or text 0 0 ≡ 10) ⊎ (get_or text 0 0 ≡ 13) → Is (TokenOf LineEnd) text 1
      go (inl e) = inl (take_one text 10 lt e)
      go (inr e) = inr (inl (take_one text 13 lt e))

-- comments in braces

past_comment : (text : List ℕ) (k : PieceKind) (m : ℕ) → get_or text 0 0 ≡ 123 → Is k text m → (Is Comment text m → ⊥) → (Is DocComment text m → ⊥) → ⊥
past_comment text k m h is a b = go k (class_at k text m 5 is (ap class_of h)) is
  where
    go : (k : PieceKind) → IsTrue (may k 5) → Is k text m → ⊥
    go Comment c is = a is
    go DocComment c is = b is
    go (TokenOf Name) c is = cc
    go k c is = cc

pub comment_result : (text : List ℕ) (r : Option ℕ) → get_or text 0 0 ≡ 123 → get_or text 1 0 ≢ 123 → IsLongest (Is Comment text) (length text) r → IsCutOrStuck text (cut_or_open Comment r)
comment_result text None h alone none = (h, none, λ n within d. alone d.2)
comment_result text (Some n) h alone g = (record { within = g.within; is = g.holds; longest = λ k m above within is. past_comment text k m h is (g.greatest m above within) (λ d. alone d.2) }, tt)

pub doc_result : (text : List ℕ) (r : Option ℕ) → get_or text 0 0 ≡ 123 → get_or text 1 0 ≡ 123 → IsLongest (Is DocComment text) (length text) r → IsCutOrStuck text (cut_or_open DocComment r)
doc_result text None h double none = (h, λ n within d. d.0 double, none)
doc_result text (Some n) h double g = (record { within = g.within; is = g.holds; longest = λ k m above within is. past_comment text k m h is (λ d. d.0 double) (g.greatest m above within) }, tt)

-- strings

quote_not_quoted : (c : ℕ) → c ≡ 34 → IsTrue (is_in class.Quoted c) → ⊥
quote_not_quoted c e h = grind (arith, nat_tests)

module _ (text : List ℕ) (end : ℕ) (after : 1 ≤ end) (within : end ≤ length text) (first : get_or text 0 0 ≡ 34) (all : AllIn class.Quoted text 1 end) where
  pub string_cut : end < length text → get_or text end 0 ≡ 34 → Cuts (TokenOf Str) text (end + 1)
  string_cut lt close =
      let back : end + 1 - 1 ≡ end = omega arith in
      record {
        within = omega arith;
        is = (omega arith, first, subst (AllIn class.Quoted text 1) (sym back) all, ap (λ i. get_or text i 0) back ∙ close);
        longest = λ k m above w is. go k m above (class_at k text m 6 is (ap class_of first)) is;
      }
    where
      go : (k : PieceKind) (m : ℕ) → end + 1 < m → IsTrue (may k 6) → Is k text m → ⊥
      go (TokenOf Str) m above c is = quote_not_quoted (get_or text end 0) close (is.2 end after (omega arith))
      go k m above c is = cc

  pub no_string : (end < length text → is_in class.Quoted (get_or text end 0) ≡ false) → (end < length text → get_or text end 0 ≢ 34) → NoneIs (TokenOf Str) text
  no_string stops other n w s = go (cases_lt (n - 1) end) (cases_lt end (n - 1))
    where
      go : (n - 1 < end) ⊎ (end ≤ n - 1) → (end < n - 1) ⊎ (n - 1 ≤ end) → ⊥
      go (inl lt) h = quote_not_quoted (get_or text (n - 1) 0) s.3 (all (n - 1) (omega (arith, s.0)) lt)
      go (inr le) (inl lt) = not_both (is_in class.Quoted (get_or text end 0)) (stops (omega arith)) (s.2 end after lt)
      go (inr le) (inr le') = let same : n - 1 ≡ end = omega arith in other (omega (arith, s.0)) (sym (ap (λ i. get_or text i 0) same) ∙ s.3)

-- numbers

pub decimal_digits : (text : List ℕ) (end : ℕ) → IsTrue (is_digit radix.Decimal (get_or text 0 0)) → 1 ≤ end → end ≤ length text → AllIn (class.Digits radix.Decimal) text 1 end → (end < length text → is_in (class.Digits radix.Decimal) (get_or text end 0) ≡ false) → IsGreatest (AreDigits radix.Decimal text 0) (length text) end
decimal_digits text end h after within all stops = digits_longest radix.Decimal text 0 end h after within all stops

pub float_cut : (text : List ℕ) (end n : ℕ) → IsGreatest (AreDigits radix.Decimal text 0) (length text) end → IsGreatest (IsFloatTail text end) (length text) n → Cuts (TokenOf Float) text n
unfolding Starts
float_cut text end n digits tail =
    record {
      within = tail.within;
      is = (end, digits.holds, tail.holds);
      longest = λ k m above w is. go k m above w (class_at k text m 3 is (digit_class (get_or text 0 0) digits.holds.1)) is;
    }
  where
    go : (k : PieceKind) (m : ℕ) → n < m → m ≤ length text → IsTrue (may k 3) → Is k text m → ⊥
    go (TokenOf (Number v)) m above w c (q, (mk, d, e)) =
        let same = one_radix q radix.Decimal text (starts q text m mk d) digits.holds.1 in
        let d' = subst (λ q. AreDigits q text (length (mark q)) m) same d in
        digits.greatest m (omega (arith, (after_mark text end n tail.holds).1)) w d'
    go (TokenOf Float) m above w c (e, d, t) = tail.greatest m above w (subst (λ e. IsFloatTail text e m) (meets_tail text end e m digits d w t) t)
    go k m above w c is = cc

pub no_float_at : (text : List ℕ) (c : ℕ) → get_or text 0 0 ≡ c → is_digit radix.Decimal c ≡ false → NoneIs (TokenOf Float) text
no_float_at text c e h n within (m, d, t) = not_both (is_digit radix.Decimal (get_or text 0 0)) (ap (is_digit radix.Decimal) e ∙ h) d.1

pub no_number : (text : List ℕ) (r : Radix) → ((q : Radix) (n : ℕ) → take (length (mark q)) text ≡ mark q → AreDigits q text (length (mark q)) n → q ≡ r) → ((n : ℕ) → n ≤ length text → AreDigits r text (length (mark r)) n → ⊥) → (v : ℕ) → NoneIs (TokenOf (Number v)) text
no_number text r only none v n within (q, (m, d, e)) = none n within (subst (λ q. AreDigits q text (length (mark q)) n) (only q n m d) d)

-- symbols

pub only_hexadecimal : (text : List ℕ) → get_or text 0 0 ≡ 36 → (q : Radix) (n : ℕ) → take (length (mark q)) text ≡ mark q → AreDigits q text (length (mark q)) n → q ≡ radix.Hexadecimal
unfolding Starts
only_hexadecimal text a q n m d = one_radix q radix.Hexadecimal text (starts q text n m d) a

pub dollar_only : (text : List ℕ) → get_or text 0 0 ≡ 36 → ((n : ℕ) → n ≤ length text → AreDigits radix.Hexadecimal text 1 n → ⊥) → OnlySymbols text
dollar_only text a none k n within is = go k (class_at k text n 8 is (ap class_of a)) is
  where
    go : (k : PieceKind) → IsTrue (may k 8) → Is k text n → IsSymbol k
    go (TokenOf (Number v)) c is = absurd (no_number text radix.Hexadecimal (only_hexadecimal text a) none v n within is)
    go (TokenOf (Symbol s)) c is = tt
    go k c is = absurd cc

module _ (c : ℕ) (letter : is_letter c ≡ false) (blank : is_in class.Blank c ≡ false) (line_end : is_line_end c ≡ false) (digit : is_digit radix.Decimal c ≡ false) (apostrophe : c ≢ 39) (brace : c ≢ 123) (quote : c ≢ 34) (percent : c ≢ 37) (dollar : c ≢ 36) where
  pub other_class : IsTrue ((class_of c == 9) || (class_of c == 10))
  other_class = grind (arith, nat_tests)

other_symbols : (k : PieceKind) (c : ℕ) → IsTrue (may k c) → IsTrue ((c == 9) || (c == 10)) → IsSymbol k
other_symbols (TokenOf (Symbol s)) c h o = tt
other_symbols k c h o = absurd (grind (arith, nat_tests))

pub other_only : (text : List ℕ) → IsTrue ((class_of (get_or text 0 0) == 9) || (class_of (get_or text 0 0) == 10)) → OnlySymbols text
other_only text h k n within is = other_symbols k (class_of (get_or text 0 0)) (class_at k text n (class_of (get_or text 0 0)) is refl) h

-- a symbol of so many characters at most
symbol_limit : (text : List ℕ) (s m : ℕ) → m ≤ length text → Is (TokenOf (Symbol s)) text m → (1 ≤ m) × (m ≤ 3)
symbol_limit text s m within (w, at, is) =
    let l = spelling_length text s m w at is in
    let e = symbol_length text s m w at is within in
    (omega (arith, l.0, e), omega (arith, l.1, e))

pub no_long_symbol : (text : List ℕ) (s m : ℕ) → 3 < m → m ≤ length text → Is (TokenOf (Symbol s)) text m → ⊥
no_long_symbol text s m above within is = omega (arith, (symbol_limit text s m within is).1)

pub symbol_cut : (text : List ℕ) (n s : ℕ) → OnlySymbols text → n ≤ length text → ((s m : ℕ) → n < m → m ≤ length text → Is (TokenOf (Symbol s)) text m → ⊥) → Is (TokenOf (Symbol s)) text n → Cuts (TokenOf (Symbol s)) text n
symbol_cut text n s only within past is = record { within = within; is = is; longest = λ k m above w is. go k m above w (only k m w is) is }
  where
    go : (k : PieceKind) (m : ℕ) → n < m → m ≤ length text → IsSymbol k → Is k text m → ⊥
    go (TokenOf (Symbol t)) m above w o is = past t m above w is
    go k m above w o is = absurd o

pub no_piece : (text : List ℕ) → OnlySymbols text → ((s m : ℕ) → 0 < m → m ≤ length text → Is (TokenOf (Symbol s)) text m → ⊥) → (k : PieceKind) → NoneIs k text
no_piece text only past k n within is = go k (only k n within is) is
  where
    go : (k : PieceKind) → IsSymbol k → Is k text n → ⊥
    go (TokenOf (Symbol t)) o is = past t n (omega (arith, (symbol_limit text t n within is).0)) within is
    go k o is = absurd o

pub one_shorter : (text : List ℕ) (n k : ℕ) → n ≤ length text → k ≡ n - 1 → 0 < n → ((s m : ℕ) → n < m → m ≤ length text → Is (TokenOf (Symbol s)) text m → ⊥) → ((s : ℕ) (w : Word) → slice_get symbols s ≡ Some w → take n text ≡ spelling w → ⊥) → (s m : ℕ) → k < m → m ≤ length text → Is (TokenOf (Symbol s)) text m → ⊥
one_shorter text n k within e pos past none s m above w is = go (cases_lt n m)
  where
    go : (n < m) ⊎ (m ≤ n) → ⊥
    go (inl lt) = past s m lt w is
    go (inr le) = let same : m ≡ n = omega arith in none s is.0 is.1 (sym (ap (λ n. take n text) same) ∙ is.2)

-- the spelling of a symbol has no letters, and is its only one

capitals_pass : list_all (λ v. same (map capital (spelling v)) (spelling v)) symbols ≡ true
unfolding symbols
capitals_pass = refl

is_single : List (List ℕ) → Bool
is_single (t ∷ []) = true
is_single _ = false

singles_pass : list_all (λ v. is_single (entry v).spellings) symbols ≡ true
unfolding symbols is_single
singles_pass = refl

letters_pass : list_all (λ v. list_all (λ c. not (is_letter c)) (spelling v)) symbols ≡ true
unfolding symbols
letters_pass = refl

no_capital : (c d : ℕ) → capital c ≡ d → not (is_letter d) ≡ true → c ≡ d
no_capital c d e h = grind (arith, nat_tests)

both : (a b : Bool) → a && b ≡ true → (a ≡ true) × (b ≡ true)
both true b h = (refl, h)
both false b h = absurd cc

uncapital : (t s : List ℕ) → map capital t ≡ s → list_all (λ c. not (is_letter c)) s ≡ true → t ≡ s
uncapital [] [] e h = refl
uncapital [] (d ∷ s) e h = absurd cc
uncapital (c ∷ t) [] e h = absurd cc
uncapital (c ∷ t) (d ∷ s) e h =
    let p = both (not (is_letter d)) (list_all (λ c. not (is_letter c)) s) h in
    let e1 : capital c ≡ d = cc in
    let e2 : map capital t ≡ s = cc in
    let f = no_capital c d e1 p.0 in
    let g = uncapital t s e2 p.1 in
    cc

or_false : (a : Bool) → a || false ≡ true → a ≡ true
or_false true h = refl
or_false false h = h

single_among : (ts : List (List ℕ)) (t : List ℕ) → is_single ts ≡ true → is_among ts t ≡ true → first_of ts ≡ t
unfolding is_single
single_among [] t one h = absurd cc
single_among (s ∷ []) t one h = same-true s t (or_false (same s t) h)
single_among (s ∷ r ∷ ts) t one h = absurd cc

module _ (s : ℕ) (w : Word) (at : slice_get symbols s ≡ Some w) where
  pub symbol_read : (t : List ℕ) → word_spelled t ≡ Some w → t ≡ spelling w
  symbol_read t e =
      let single = passes_at (λ v. is_single (entry v).spellings) symbols singles_pass s w at in
      let capitals = single_among (entry w).spellings (map capital t) single (spells (map capital t) every_word w e) in
      uncapital t (spelling w) (sym capitals) (passes_at (λ v. list_all (λ c. not (is_letter c)) (spelling v)) symbols letters_pass s w at)

  pub symbol_named : (t : List ℕ) → t ≡ spelling w → word_spelled t ≡ Some w
  symbol_named t e =
      let l = spelling_length t s (length (spelling w)) w at (take_whole t (spelling w) e) in
      let c = same-true (map capital (spelling w)) (spelling w) (passes_at (λ v. same (map capital (spelling v)) (spelling v)) symbols capitals_pass s w at) in
      ap (λ t. first_spelled (map capital t) every_word) e ∙ ap (λ t. first_spelled t every_word) c ∙ read_back w (spelling w) (spells_itself w (omega (arith, l.0)))
    where
      take_whole : (t s : List ℕ) → t ≡ s → take (length s) t ≡ s
      take_whole t s e = subst (λ t. take (length s) t ≡ s) (sym e) (take-length s)

-- a token, as it is made
pub cut_is : (text : List ℕ) (k : TokenKind) (n : ℕ) (cut : Cut) → cut ≡ record { kind = TokenOf k; length = n } → Cuts (TokenOf k) text n → IsGood (TokenOf k) text n → IsCut text cut
cut_is text k n cut e c g = subst (IsCut text) (sym e) (c, g)

-- the number of the word that a text is named by
pub symbol_result : (text : List ℕ) (v : Word) (r : Option ℕ) → Some v ≡ word_spelled text → MatchOption r ((n : ℕ) → slice_get symbols n ≢ Some v) (λ n. slice_get symbols n ≡ Some v) → MatchOption r ((n : ℕ) (w : Word) → slice_get symbols n ≡ Some w → text ≢ spelling w) (λ n. (w : Word) × (slice_get symbols n ≡ Some w) × (text ≡ spelling w))
symbol_result text v None named none = λ n w at e. none n (at ∙ sym (symbol_named n w at text e) ∙ sym named)
symbol_result text v (Some n) named at = (v, at, symbol_read n v at text (sym named))
