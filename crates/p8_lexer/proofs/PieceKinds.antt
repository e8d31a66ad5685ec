-- A piece has one kind.
use Rattle.std.proofs.Common.{◌≡◌, ℕ, ◌≤◌, List, length, take, drop, get_or, Some, refl, sym, ap, ◌∙◌, subst, arith}
use Rattle.std.specs.Prelude.{IsTrue}
use Rattle.std.proofs.lemmas.Bool.Decides.{nat_tests}
use Rattle.p8_lexer.specs.declared.piece.PieceKind.{PieceKind}
use Rattle.p8_lexer.specs.declared.piece.PieceKind.TheVariants.{Blank, LineComment, Comment, DocComment, Token as TokenOf}
use Rattle.p8_lexer.specs.declared.piece.Radix.TheVariants as radix
use Rattle.p8_lexer.specs.declared.token.TokenKind.TheVariants.{Name, Number, Float, Str, Symbol, LineEnd}
use Rattle.p8_lexer.specs.Words.{spelling}
use Rattle.p8_lexer.specs.Lexing.{mark, base, value_behind, AreDigits, Is}
use Rattle.p8_lexer.proofs.Pieces.{class_of, may, begins, Starts, starts, one_radix, after_mark, no_tail, short_symbol}
use Rattle.p8_lexer.proofs.Symbols.{one_number}
use Rattle.p8_lexer.proofs.Cuts.{symbol_named}

-- two kinds that may begin with the same character, and aren't plainly one
Related : PieceKind → PieceKind → Type 0
Related Comment DocComment = Unit {0}
Related DocComment Comment = Unit {0}
Related (TokenOf (Number v)) (TokenOf (Number w)) = Unit {0}
Related (TokenOf (Number v)) (TokenOf Float) = Unit {0}
Related (TokenOf Float) (TokenOf (Number v)) = Unit {0}
Related (TokenOf (Number v)) (TokenOf (Symbol s)) = Unit {0}
Related (TokenOf (Symbol s)) (TokenOf (Number v)) = Unit {0}
Related (TokenOf (Symbol s)) (TokenOf (Symbol t)) = Unit {0}
Related j k = j ≡ k

related : (j k : PieceKind) (c : ℕ) → IsTrue (may j c) → IsTrue (may k c) → Related j k
unfolding Related
related Comment DocComment c p q = tt
related DocComment Comment c p q = tt
related (TokenOf (Number v)) (TokenOf (Number w)) c p q = tt
related (TokenOf (Number v)) (TokenOf Float) c p q = tt
related (TokenOf Float) (TokenOf (Number v)) c p q = tt
related (TokenOf (Number v)) (TokenOf (Symbol s)) c p q = tt
related (TokenOf (Symbol s)) (TokenOf (Number v)) c p q = tt
related (TokenOf (Symbol s)) (TokenOf (Symbol t)) c p q = tt
related Blank Blank c p q = refl
related LineComment LineComment c p q = refl
related Comment Comment c p q = refl
related DocComment DocComment c p q = refl
related (TokenOf Name) (TokenOf Name) c p q = refl
related (TokenOf Float) (TokenOf Float) c p q = refl
related (TokenOf Str) (TokenOf Str) c p q = refl
related (TokenOf LineEnd) (TokenOf LineEnd) c p q = refl
related j k c p q = absurd (grind (arith, nat_tests))

no_float_number : (text : List ℕ) (n v : ℕ) → Is (TokenOf (Number v)) text n → Is (TokenOf Float) text n → ⊥
unfolding Starts
no_float_number text n v (q, (mk, d, e)) (m, f, t) =
    let same = one_radix q radix.Decimal text (starts q text n mk d) f.1 in
    let d' = subst (λ q. AreDigits q text (length (mark q)) n) same d in
    let a = after_mark text m n t in
    no_tail (get_or text m 0) a.0 (d'.2 m (omega (arith, f.0)) a.1)

no_symbol_number : (text : List ℕ) (n v s : ℕ) → n ≤ length text → Is (TokenOf (Number v)) text n → Is (TokenOf (Symbol s)) text n → ⊥
no_symbol_number text n v s within (q, (mk, d, e)) is = short_symbol q text s n (starts q text n mk d) d.0 within is

one_value : (text : List ℕ) (n v w : ℕ) → Is (TokenOf (Number v)) text n → Is (TokenOf (Number w)) text n → v ≡ w
one_value text n v w (q, (mk, d, e)) (r, (ml, f, g)) =
    let same = one_radix q r text (starts q text n mk d) (starts r text n ml f) in
    e ∙ ap (λ q. value_behind (base q) 0 (drop (length (mark q)) (take n text))) same ∙ sym g

one_symbol : (text : List ℕ) (n s t : ℕ) → Is (TokenOf (Symbol s)) text n → Is (TokenOf (Symbol t)) text n → s ≡ t
one_symbol text n s t (w, at, is) (v, at', is') =
    let first = symbol_named s w at (spelling w) refl in
    let second = symbol_named t v at' (spelling w) (sym is ∙ is') in
    let both : Some w ≡ Some v = sym first ∙ second in
    let same : w ≡ v = cc in
    one_number s t w at (at' ∙ ap (λ v. Some v) (sym same))

-- characters that are pieces of two kinds are pieces of one
pub one_kind : (j k : PieceKind) (text : List ℕ) (n : ℕ) → n ≤ length text → Is j text n → Is k text n → j ≡ k
unfolding Related
one_kind j k text n within a b = go j k (related j k (class_of (get_or text 0 0)) (begins j text n a) (begins k text n b)) a b
  where
    go : (j k : PieceKind) → Related j k → Is j text n → Is k text n → j ≡ k
    go Comment DocComment r a b = absurd (a.0 b.2)
    go DocComment Comment r a b = absurd (b.0 a.2)
    go (TokenOf (Number v)) (TokenOf (Number w)) r a b = ap (λ v. TokenOf (Number v)) (one_value text n v w a b)
    go (TokenOf (Number v)) (TokenOf Float) r a b = absurd (no_float_number text n v a b)
    go (TokenOf Float) (TokenOf (Number v)) r a b = absurd (no_float_number text n v b a)
    go (TokenOf (Number v)) (TokenOf (Symbol s)) r a b = absurd (no_symbol_number text n v s within a b)
    go (TokenOf (Symbol s)) (TokenOf (Number v)) r a b = absurd (no_symbol_number text n v s within b a)
    go (TokenOf (Symbol s)) (TokenOf (Symbol t)) r a b = ap (λ s. TokenOf (Symbol s)) (one_symbol text n s t a b)
    go j k r a b = r
