-- The first character tells a piece's kind, or nearly so.
use Rattle.std.proofs.Common.{◌≡◌, ℕ, zero, suc, ◌<◌, ◌≤◌, ◌⊎◌, inl, inr, List, [], ◌∷◌, length, take, drop, get_or, Bool, true, refl, sym, ap, subst, arith}
use Rattle.std.specs.Prelude.{◌==◌, ◌||◌, if◌then◌else◌, IsTrue}
use Rattle.std.proofs.lemmas.Bool.Decides.{nat_tests}
use Rattle.std.proofs.lemmas.Bool.{cases_lt}
use Rattle.p8_lexer.specs.declared.piece.PieceKind.{PieceKind}
use Rattle.p8_lexer.specs.declared.piece.PieceKind.TheVariants.{Blank, LineComment, Comment, DocComment, Token as TokenOf}
use Rattle.p8_lexer.specs.declared.piece.Radix.{Radix}
use Rattle.p8_lexer.specs.declared.piece.Radix.TheVariants as radix
use Rattle.p8_lexer.specs.declared.piece.Class.TheVariants as class
use Rattle.p8_lexer.specs.declared.token.TokenKind.TheVariants.{Name, Number, Float, Str, Symbol, LineEnd}
use Rattle.p8_lexer.specs.Lexing.{is_letter, is_line_end, is_digit, is_in, mark, base, value_behind, AreDigits, IsFloatTail, Is, Cuts, NoneIs}
use Rattle.p8_lexer.specs.Cutting.{IsGreatest}
use Rattle.p8_lexer.proofs.Symbols.{is_symbol_first, symbol_first, dollar_alone}
use Rattle.p8_lexer.proofs.NumberLemmas.{exponent_above}

-- the classes of characters that begin pieces
abbrev pub class_of : ℕ → ℕ
class_of c =
    if is_letter c then 0 else
    (if is_in class.Blank c then 1 else
    (if is_line_end c then 2 else
    (if is_digit radix.Decimal c then 3 else
    (if c == 39 then 4 else
    (if c == 123 then 5 else
    (if c == 34 then 6 else
    (if c == 37 then 7 else
    (if c == 36 then 8 else
    (if is_symbol_first c then 9 else 10)))))))))

-- which class a kind of piece may begin with
abbrev pub may : PieceKind → ℕ → Bool
may Blank k = k == 1
may LineComment k = k == 4
may Comment k = k == 5
may DocComment k = k == 5
may (TokenOf Name) k = k == 0
may (TokenOf (Number _)) k = (k == 3) || ((k == 7) || (k == 8))
may (TokenOf Float) k = k == 3
may (TokenOf Str) k = k == 6
may (TokenOf (Symbol _)) k = (k == 8) || (k == 9)
may (TokenOf LineEnd) k = k == 2

pub letter_class : (c : ℕ) → is_letter c ≡ true → class_of c ≡ 0
letter_class c h = grind (arith, nat_tests)

pub blank_class : (c : ℕ) → is_in class.Blank c ≡ true → class_of c ≡ 1
blank_class c h = grind (arith, nat_tests)

line_end_class : (c : ℕ) → (c ≡ 10) ⊎ (c ≡ 13) → class_of c ≡ 2
line_end_class c h = grind (arith, nat_tests)

pub digit_class : (c : ℕ) → is_digit radix.Decimal c ≡ true → class_of c ≡ 3
digit_class c h = grind (arith, nat_tests)

symbol_class : (c : ℕ) → is_symbol_first c ≡ true → IsTrue ((class_of c == 8) || (class_of c == 9))
symbol_class c h = grind (arith, nat_tests)

at_class : (k : PieceKind) (c n : ℕ) → class_of c ≡ n → IsTrue (may k n) → IsTrue (may k (class_of c))
at_class k c n e h = subst (λ n. IsTrue (may k n)) (sym e) h

pub take_head : (text : List ℕ) (n b : ℕ) (bs : List ℕ) → take n text ≡ b ∷ bs → get_or text 0 0 ≡ b
take_head [] zero b bs e = absurd cc
take_head [] (suc n) b bs e = absurd cc
take_head (x ∷ text) zero b bs e = absurd cc
take_head (x ∷ text) (suc n) b bs e = cc

pub take_second : (text : List ℕ) (n a b : ℕ) (bs : List ℕ) → take n text ≡ a ∷ b ∷ bs → get_or text 1 0 ≡ b
take_second [] zero a b bs e = absurd cc
take_second [] (suc n) a b bs e = absurd cc
take_second (x ∷ text) zero a b bs e = absurd cc
take_second (x ∷ []) (suc zero) a b bs e = absurd cc
take_second (x ∷ []) (suc (suc n)) a b bs e = absurd cc
take_second (x ∷ y ∷ text) (suc zero) a b bs e = absurd cc
take_second (x ∷ y ∷ text) (suc (suc n)) a b bs e = cc

-- what a number's first characters are
unfoldable pub Starts : Radix → List ℕ → Type 0
Starts radix.Binary text = (get_or text 0 0 ≡ 37) × (is_digit radix.Binary (get_or text 1 0) ≡ true)
Starts radix.Quaternary text = (get_or text 0 0 ≡ 37) × (get_or text 1 0 ≡ 37)
Starts radix.Decimal text = is_digit radix.Decimal (get_or text 0 0) ≡ true
Starts radix.Hexadecimal text = get_or text 0 0 ≡ 36

pub starts : (r : Radix) (text : List ℕ) (n : ℕ) → take (length (mark r)) text ≡ mark r → AreDigits r text (length (mark r)) n → Starts r text
unfolding Starts
starts radix.Binary text n m d = (take_head text 1 37 [] m, d.1)
starts radix.Quaternary text n m d = (take_head text 2 37 (37 ∷ []) m, take_second text 2 37 37 [] m)
starts radix.Decimal text n m d = d.1
starts radix.Hexadecimal text n m d = take_head text 1 36 [] m

number_class : (r : Radix) (text : List ℕ) → Starts r text → IsTrue ((class_of (get_or text 0 0) == 3) || ((class_of (get_or text 0 0) == 7) || (class_of (get_or text 0 0) == 8)))
unfolding Starts
number_class radix.Binary text s = let e = ap class_of s.0 in grind (arith, nat_tests)
number_class radix.Quaternary text s = let e = ap class_of s.0 in grind (arith, nat_tests)
number_class radix.Decimal text s = let e = digit_class (get_or text 0 0) s in grind (arith, nat_tests)
number_class radix.Hexadecimal text s = let e = ap class_of s in grind (arith, nat_tests)

pub one_radix : (r q : Radix) (text : List ℕ) → Starts r text → Starts q text → r ≡ q
unfolding Starts
one_radix radix.Binary radix.Binary text s t = refl
one_radix radix.Quaternary radix.Quaternary text s t = refl
one_radix radix.Decimal radix.Decimal text s t = refl
one_radix radix.Hexadecimal radix.Hexadecimal text s t = refl
one_radix r q text s t = absurd (grind (arith, nat_tests))

-- a piece begins with a character of a class that its kind may begin with
pub begins : (k : PieceKind) (text : List ℕ) (n : ℕ) → Is k text n → IsTrue (may k (class_of (get_or text 0 0)))
begins Blank text n h = at_class Blank (get_or text 0 0) 1 (blank_class (get_or text 0 0) (h.1 0 (omega arith) h.0)) refl
begins LineComment text n h = at_class LineComment (get_or text 0 0) 4 (ap class_of h.1) refl
begins Comment text n h = at_class Comment (get_or text 0 0) 5 (ap class_of (take_head text n _ _ h.1.2)) refl
begins DocComment text n h = at_class DocComment (get_or text 0 0) 5 (ap class_of h.1) refl
begins (TokenOf Name) text n h = at_class (TokenOf Name) (get_or text 0 0) 0 (letter_class (get_or text 0 0) h.1) refl
begins (TokenOf (Number v)) text n (r, (m, d, e)) = number_class r text (starts r text n m d)
begins (TokenOf Float) text n (m, d, t) = at_class (TokenOf Float) (get_or text 0 0) 3 (digit_class (get_or text 0 0) d.1) refl
begins (TokenOf Str) text n h = at_class (TokenOf Str) (get_or text 0 0) 6 (ap class_of h.1) refl
begins (TokenOf (Symbol s)) text n (w, at, is) = symbol_class (get_or text 0 0) (symbol_first text s n w at is)
begins (TokenOf LineEnd) text n (inl e) = at_class (TokenOf LineEnd) (get_or text 0 0) 2 (line_end_class (get_or text 0 0) (inl (take_head text n _ _ e))) refl
begins (TokenOf LineEnd) text n (inr (inl e)) = at_class (TokenOf LineEnd) (get_or text 0 0) 2 (line_end_class (get_or text 0 0) (inr (take_head text n _ _ e))) refl
begins (TokenOf LineEnd) text n (inr (inr e)) = at_class (TokenOf LineEnd) (get_or text 0 0) 2 (line_end_class (get_or text 0 0) (inr (take_head text n _ _ e))) refl

pub class_at : (k : PieceKind) (text : List ℕ) (n c : ℕ) → Is k text n → class_of (get_or text 0 0) ≡ c → IsTrue (may k c)
class_at k text n c is e = subst (λ c. IsTrue (may k c)) e (begins k text n is)

-- numbers

-- the kinds that begin with a digit, `%` or `$`
Numeric : PieceKind → Type 0
Numeric (TokenOf (Number v)) = Unit {0}
Numeric (TokenOf Float) = Unit {0}
Numeric (TokenOf (Symbol s)) = Unit {0}
Numeric _ = ⊥

numeric : (k : PieceKind) (c : ℕ) → IsTrue (may k c) → IsTrue ((c == 3) || ((c == 7) || (c == 8))) → Numeric k
unfolding Numeric
numeric (TokenOf (Number v)) c h n = tt
numeric (TokenOf Float) c h n = tt
numeric (TokenOf (Symbol s)) c h n = tt
numeric k c h n = absurd (grind (arith, nat_tests))

pub after_mark : (text : List ℕ) (m n : ℕ) → IsFloatTail text m n → ((get_or text m 0 ≡ 46) ⊎ ((get_or text m 0 ≡ 69) ⊎ (get_or text m 0 ≡ 101))) × (m < n)
after_mark text m n (inl f) = (inl f.0, omega (arith, f.1.0))
after_mark text m n (inr (inl e)) = (inr e.0, exponent_above text m n e)
after_mark text m n (inr (inr (j, f, e))) = (inl f.0, omega (arith, f.1.0, exponent_above text j n e))

pub no_tail : (c : ℕ) → (c ≡ 46) ⊎ ((c ≡ 69) ⊎ (c ≡ 101)) → IsTrue (is_in (class.Digits radix.Decimal) c) → ⊥
no_tail c h d = grind (arith, nat_tests)

-- digits that a float's tail stands after are as many as there are
pub meets_tail : (text : List ℕ) (end m n : ℕ) → IsGreatest (AreDigits radix.Decimal text 0) (length text) end → AreDigits radix.Decimal text 0 m → n ≤ length text → IsFloatTail text m n → m ≡ end
meets_tail text end m n digits d within t = go (cases_lt m end) (cases_lt end m)
  where
    go : (m < end) ⊎ (end ≤ m) → (end < m) ⊎ (m ≤ end) → m ≡ end
    go (inl lt) h = absurd (no_tail (get_or text m 0) (after_mark text m n t).0 (digits.holds.2 m (omega (arith, d.0)) lt))
    go (inr le) (inl lt) = absurd (digits.greatest m lt (omega (arith, (after_mark text m n t).1)) d)
    go (inr le) (inr le') = omega arith

pub no_float : (text : List ℕ) (end : ℕ) → IsGreatest (AreDigits radix.Decimal text 0) (length text) end → ((n : ℕ) → n ≤ length text → IsFloatTail text end n → ⊥) → NoneIs (TokenOf Float) text
no_float text end digits none n within (m, d, t) = none n within (subst (λ m. IsFloatTail text m n) (meets_tail text end m n digits d within t) t)

-- a symbol is shorter than every number that begins with its character
pub short_symbol : (r : Radix) (text : List ℕ) (s m : ℕ) → Starts r text → length (mark r) < m → m ≤ length text → Is (TokenOf (Symbol s)) text m → ⊥
unfolding Starts
short_symbol radix.Hexadecimal text s m st above within (w, at, is) = omega (arith, dollar_alone text s m w at is within st)
short_symbol radix.Binary text s m st above within (w, at, is) = let f = symbol_first text s m w at is in let e = st.0 in grind (arith, nat_tests)
short_symbol radix.Quaternary text s m st above within (w, at, is) = let f = symbol_first text s m w at is in let e = st.0 in grind (arith, nat_tests)
short_symbol radix.Decimal text s m st above within (w, at, is) = let f = symbol_first text s m w at is in let e = st in grind (arith, nat_tests)

module _ (text : List ℕ) (r : Radix) (end : ℕ) (marked : take (length (mark r)) text ≡ mark r) (digits : IsGreatest (AreDigits r text (length (mark r))) (length text) end) (none : NoneIs (TokenOf Float) text) where
  st : Starts r text
  st = starts r text end marked digits.holds

  past : (k : PieceKind) (m : ℕ) → Numeric k → end < m → m ≤ length text → Is k text m → ⊥
  unfolding Numeric
  past (TokenOf (Number v)) m h above within (q, (mk, d, e)) =
      let same = one_radix q r text (starts q text m mk d) st in
      digits.greatest m above within (subst (λ q. AreDigits q text (length (mark q)) m) same d)
  past (TokenOf Float) m h above within is = none m within is
  past (TokenOf (Symbol s)) m h above within is = short_symbol r text s m st (omega (arith, digits.holds.0)) within is
  past k m h above within is = absurd h

  pub number_cut : (v : ℕ) → v ≡ value_behind (base r) 0 (drop (length (mark r)) (take end text)) → Cuts (TokenOf (Number v)) text end
  number_cut v e =
      record {
        within = digits.within;
        is = (r, (marked, digits.holds, e));
        longest = λ k m above within is. past k m (numeric k (class_of (get_or text 0 0)) (begins k text m is) (number_class r text st)) above within is;
      }
