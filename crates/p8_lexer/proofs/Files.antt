-- A file is cut in one way, and has one answer.
use Rattle.std.proofs.Common.{◌≡◌, ℕ, ◌+◌, ◌-◌, ◌<◌, ◌≤◌, ◌⊎◌, inl, inr, List, [], ◌∷◌, ◌++◌, length, drop, get_or, Bool, true, false, refl, sym, ap, ◌∙◌, subst, arith}
use Rattle.std.specs.Prelude.{IsTrue, filter_map}
use Rattle.std.proofs.lemmas.Bool.Decides.{nat_tests}
use Rattle.std.proofs.lemmas.Bool.{cases_lt}
use Rattle.std.proofs.lemmas.List.{length-drop, length-take-le}
use Rattle.std.proofs.lemmas.List.Elements.{filter_map-append}
use Rattle.std.proofs.Math.Seq.{drop-length}
use Rattle.p8_lexer.specs.declared.piece.Cut.{Cut}
use Rattle.p8_lexer.specs.declared.piece.PieceKind.{PieceKind}
use Rattle.p8_lexer.specs.declared.piece.PieceKind.TheVariants.{Blank, LineComment, Comment, DocComment, Token as TokenOf}
use Rattle.p8_lexer.specs.declared.token.Token.{Token}
use Rattle.p8_tree.specs.declared.faults.Fault.{Fault}
use Rattle.p8_lexer.specs.declared.token.TokenKind.TheVariants.{Name, Number, Float, Str, Symbol, LineEnd}
use Rattle.p8_tree.specs.declared.refusal.Refusal.{Refusal}
use Rattle.p8_tree.specs.declared.refusal.Refusal.TheVariants.{BadByte, BadNumber, OpenComment, OpenString, NameTooLong, FileTooLong}
use Rattle.p8_tree.specs.declared.places.Place.{Place}
use Rattle.p8_lexer.specs.Characters.{is_utf16, mark_length, decoded, text_of, ends_in_half}
use Rattle.p8_lexer.specs.Places.{start, place_of}
use Rattle.p8_tree.specs.Refusals.{refusal_number}
use Rattle.p8_tree.specs.Faults.{fault}
use Rattle.p8_tree.proofs.Failing.{same_fault}
use Rattle.p8_lexer.specs.Lexing.{Is, Cuts, IsGood, Piece, CutsUpTo, IsStuck, token_of, longest_file, AreTokens, IsRefused, IsFault, too_long, no_tokens}
use Rattle.p8_lexer.specs.Cutting.{IsCut, piece_tokens}
use Rattle.p8_lexer.proofs.Units.{units-length}
use Rattle.p8_lexer.proofs.Pieces.{class_of, may, begins, class_at, after_mark}
use Rattle.p8_lexer.proofs.Symbols.{spelling_length, symbol_length}
use Rattle.p8_lexer.proofs.PieceKinds.{one_kind}

-- one more piece
pub one_more : (text : List ℕ) (at mid : ℕ) (ps : List Piece) (p : Piece) → CutsUpTo text at ps mid → p.begin ≡ mid → mid ≤ p.end → Cuts p.kind (drop mid text) (p.end - mid) → IsGood p.kind (drop mid text) (p.end - mid) → CutsUpTo text at (ps ++ p ∷ []) p.end
one_more text at mid [] p h begin le cut good =
    (begin ∙ sym h, subst (λ m. m ≤ p.end) (sym h) le, subst (λ m. Cuts p.kind (drop m text) (p.end - m)) (sym h) cut, subst (λ m. IsGood p.kind (drop m text) (p.end - m)) (sym h) good, refl)
one_more text at mid (q ∷ ps) p h begin le cut good = (h.0, h.1, h.2, h.3, one_more text q.end mid ps p h.4 begin le cut good)

piece_at : ℕ → Cut → Piece
piece_at at cut = record { kind = cut.kind; begin = at; end = at + cut.length }

added : (bytes : List ℕ) (at : ℕ) (cut : Cut) → piece_tokens bytes at (place_of (text_of bytes) at) cut ≡ filter_map (token_of bytes) (piece_at at cut ∷ [])
unfolding piece_at
added bytes at cut = go cut.kind
  where
    go : (k : PieceKind) → piece_tokens bytes at (place_of (text_of bytes) at) (record { kind = k; length = cut.length }) ≡ filter_map (token_of bytes) (record { kind = k; begin = at; end = at + cut.length } ∷ [])
    go Blank = refl
    go LineComment = refl
    go Comment = refl
    go DocComment = refl
    go (TokenOf k) = refl

-- so far a file is cut into pieces, and these are its tokens
pub record SoFar (bytes : List ℕ) (at : ℕ) (tokens : List Token) : Type 0 where
  pub pieces : List Piece
  pub cut : CutsUpTo (text_of bytes) 0 pieces at
  pub are : tokens ≡ filter_map (token_of bytes) pieces

pub nothing_yet : (bytes : List ℕ) → SoFar bytes 0 []
nothing_yet bytes = record { pieces = []; cut = refl; are = refl }

pub one_further : (bytes : List ℕ) (at : ℕ) (tokens more : List Token) (cut : Cut) (place : Place) → SoFar bytes at tokens → place ≡ place_of (text_of bytes) at → IsCut (drop at (text_of bytes)) cut → more ≡ tokens ++ piece_tokens bytes at place cut → SoFar bytes (at + cut.length) more
unfolding piece_at
one_further bytes at tokens more cut place s p is e =
    let n : cut.length ≡ at + cut.length - at = omega arith in
    let text = text_of bytes in
    record {
      pieces = s.pieces ++ piece_at at cut ∷ [];
      cut = one_more text 0 at s.pieces (piece_at at cut) s.cut refl (omega arith) (subst (λ n. Cuts cut.kind (drop at text) n) n is.0) (subst (λ n. IsGood cut.kind (drop at text) n) n is.1);
      are = e ∙ ap (λ p. tokens ++ piece_tokens bytes at p cut) p ∙ ap (λ ts. tokens ++ ts) (added bytes at cut) ∙ ap (λ ts. ts ++ filter_map (token_of bytes) (piece_at at cut ∷ [])) s.are ∙ sym (filter_map-append (token_of bytes) s.pieces (piece_at at cut ∷ []));
    }

pub text_short : (bytes : List ℕ) → length (text_of bytes) ≤ length bytes
text_short bytes = go (is_utf16 bytes) (mark_length bytes)
  where
    go : (u : Bool) (n : ℕ) → length (decoded u (drop n bytes)) ≤ length bytes
    go true n = omega (arith, units-length (drop n bytes), length-drop n bytes)
    go false n = omega (arith, length-drop n bytes)

-- there is one way

Stops : List ℕ → Type 0
Stops text = (k : PieceKind) (n : ℕ) → Cuts k text n → IsGood k text n → ⊥

longest_is : (j k : PieceKind) (text : List ℕ) (n m : ℕ) → Cuts j text n → Cuts k text m → n ≡ m
longest_is j k text n m c d = go (cases_lt n m) (cases_lt m n)
  where
    go : (n < m) ⊎ (m ≤ n) → (m < n) ⊎ (n ≤ m) → n ≡ m
    go (inl lt) h = absurd (c.longest k m lt d.within d.is)
    go (inr le) (inl lt) = absurd (d.longest j n lt c.within c.is)
    go (inr le) (inr le') = omega arith

abbrev make_piece : PieceKind → ℕ → ℕ → Piece
make_piece k b e = record { kind = k; begin = b; end = e }

same_piece : (p q : Piece) → p.kind ≡ q.kind → p.begin ≡ q.begin → p.end ≡ q.end → p ≡ q
same_piece p q a b c = ap (λ k. make_piece k p.begin p.end) a ∙ ap (λ b. make_piece q.kind b p.end) b ∙ ap (make_piece q.kind q.begin) c

one_way : (text : List ℕ) (ps qs : List Piece) (at end m : ℕ) → Stops (drop end text) → Stops (drop m text) → CutsUpTo text at ps end → CutsUpTo text at qs m → (ps ≡ qs) × (end ≡ m)
unfolding Stops
one_way text [] [] at end m s t h g = (refl, sym h ∙ g)
one_way text [] (q ∷ qs) at end m s t h g = absurd (s q.kind (q.end - at) (subst (λ m. Cuts q.kind (drop m text) (q.end - at)) h g.2) (subst (λ m. IsGood q.kind (drop m text) (q.end - at)) h g.3))
one_way text (p ∷ ps) [] at end m s t h g = absurd (t p.kind (p.end - at) (subst (λ m. Cuts p.kind (drop m text) (p.end - at)) g h.2) (subst (λ m. IsGood p.kind (drop m text) (p.end - at)) g h.3))
one_way text (p ∷ ps) (q ∷ qs) at end m s t h g =
    let length_is = longest_is p.kind q.kind (drop at text) (p.end - at) (q.end - at) h.2 g.2 in
    let end_is : p.end ≡ q.end = omega (arith, length_is, h.1, g.1) in
    let kind_is = one_kind p.kind q.kind (drop at text) (p.end - at) h.2.within h.2.is (subst (λ n. Is q.kind (drop at text) n) (sym length_is) g.2.is) in
    let same = same_piece p q kind_is (h.0 ∙ sym g.0) end_is in
    let rest = one_way text ps qs p.end end m s t h.4 (subst (λ e. CutsUpTo text e qs m) (sym end_is) g.4) in
    (let tails = rest.0 in cc, rest.1)

-- nothing begins an empty text
empty_stops : (k : PieceKind) (n : ℕ) → Cuts k [] n → ⊥
empty_stops k n c = go k (begins k [] n c.is)
  where
    go : (k : PieceKind) → IsTrue (may k (class_of 0)) → ⊥
    go (TokenOf Name) h = cc
    go k h = cc

end_stops : (text : List ℕ) → Stops (drop (length text) text)
unfolding Stops
end_stops text k n c g = empty_stops k n (subst (λ t. Cuts k t n) (drop-length text) c)

-- why a text is stuck, by the class of its first character

data Why (half : Bool) (text : List ℕ) (r : Refusal) : Type 0 where
  byte : r ≡ BadByte → IsStuck BadByte half text → Why half text r
  number : r ≡ BadNumber → IsStuck BadNumber half text → Why half text r
  comment : r ≡ OpenComment → IsStuck OpenComment half text → Why half text r
  string : r ≡ OpenString → IsStuck OpenString half text → Why half text r
  name : r ≡ NameTooLong → IsStuck NameTooLong half text → Why half text r

why : (r : Refusal) (half : Bool) (text : List ℕ) → IsStuck r half text → Why half text r
why BadByte half text s = byte refl s
why BadNumber half text s = number refl s
why OpenComment half text s = comment refl s
why OpenString half text s = string refl s
why NameTooLong half text s = name refl s
why r half text s = absurd s

same_cut : (j k : PieceKind) (text : List ℕ) (n m : ℕ) → Cuts j text n → Cuts k text m → j ≡ k
same_cut j k text n m c d =
    let e = longest_is j k text n m c d in
    one_kind j k text n c.within c.is (subst (λ m. Is k text m) (sym e) d.is)

no_byte_number : (half : Bool) (text : List ℕ) → IsStuck BadByte half text → IsStuck BadNumber half text → ⊥
no_byte_number half text (inl b) (inl n) = b.4 n.0
no_byte_number half text (inl b) (inr (v, n, c, g)) = b.1 (TokenOf (Number v)) n c.within c.is
no_byte_number half text (inr b) (inl n) = let e = ap (λ t. get_or t 0 0) b.0 in omega (arith, e, n.0)
no_byte_number half text (inr b) (inr (v, n, c, g)) = empty_stops (TokenOf (Number v)) n (subst (λ t. Cuts (TokenOf (Number v)) t n) b.0 c)

no_byte_comment : (half : Bool) (text : List ℕ) → IsStuck BadByte half text → IsStuck OpenComment half text → ⊥
no_byte_comment half text (inl b) s = b.2 s.0
no_byte_comment half text (inr b) s = let e = ap (λ t. get_or t 0 0) b.0 in omega (arith, e, s.0)

no_byte_string : (half : Bool) (text : List ℕ) → IsStuck BadByte half text → IsStuck OpenString half text → ⊥
no_byte_string half text (inl b) s = b.3 s.0
no_byte_string half text (inr b) s = let e = ap (λ t. get_or t 0 0) b.0 in omega (arith, e, s.0)

no_byte_name : (half : Bool) (text : List ℕ) → IsStuck BadByte half text → IsStuck NameTooLong half text → ⊥
no_byte_name half text (inl b) (n, c, long) = b.1 (TokenOf Name) n c.within c.is
no_byte_name half text (inr b) (n, c, long) = empty_stops (TokenOf Name) n (subst (λ t. Cuts (TokenOf Name) t n) b.0 c)

number_class : (half : Bool) (text : List ℕ) → IsStuck BadNumber half text → IsTrue (may (TokenOf (Number 0)) (class_of (get_or text 0 0)))
number_class half text (inl n) = subst (λ c. IsTrue (may (TokenOf (Number 0)) (class_of c))) (sym n.0) refl
number_class half text (inr (v, n, c, g)) = begins (TokenOf (Number v)) text n c.is

clash : (c a : ℕ) → IsTrue (may (TokenOf (Number 0)) c) → c ≡ a → may (TokenOf (Number 0)) a ≡ false → ⊥
clash c a h e f = let no_more = ap (may (TokenOf (Number 0))) e ∙ f in cc

other_number : (half : Bool) (text : List ℕ) (c : ℕ) → IsStuck BadNumber half text → class_of (get_or text 0 0) ≡ c → may (TokenOf (Number 0)) c ≡ false → ⊥
other_number half text c s e f = clash (class_of (get_or text 0 0)) c (number_class half text s) e f

name_class : (half : Bool) (text : List ℕ) (c : ℕ) → IsStuck NameTooLong half text → class_of (get_or text 0 0) ≡ c → may (TokenOf Name) c ≡ false → ⊥
name_class half text c (n, cut, long) e f = let h = class_at (TokenOf Name) text n c cut.is e in cc

number_name : (half : Bool) (text : List ℕ) → IsStuck BadNumber half text → IsStuck NameTooLong half text → ⊥
number_name half text s (n, c, long) = go (class_of (get_or text 0 0)) (number_class half text s) (begins (TokenOf Name) text n c.is)
  where
    go : (c : ℕ) → IsTrue (may (TokenOf (Number 0)) c) → IsTrue (may (TokenOf Name) c) → ⊥
    go c p q = grind (arith, nat_tests)

one_reason : (r q : Refusal) (half : Bool) (text : List ℕ) → Why half text r → Why half text q → r ≡ q
one_reason r q half text (byte e s) (byte f t) = e ∙ sym f
one_reason r q half text (number e s) (number f t) = e ∙ sym f
one_reason r q half text (comment e s) (comment f t) = e ∙ sym f
one_reason r q half text (string e s) (string f t) = e ∙ sym f
one_reason r q half text (name e s) (name f t) = e ∙ sym f
one_reason r q half text (byte e s) (number f t) = absurd (no_byte_number half text s t)
one_reason r q half text (number e s) (byte f t) = absurd (no_byte_number half text t s)
one_reason r q half text (byte e s) (comment f t) = absurd (no_byte_comment half text s t)
one_reason r q half text (comment e s) (byte f t) = absurd (no_byte_comment half text t s)
one_reason r q half text (byte e s) (string f t) = absurd (no_byte_string half text s t)
one_reason r q half text (string e s) (byte f t) = absurd (no_byte_string half text t s)
one_reason r q half text (byte e s) (name f t) = absurd (no_byte_name half text s t)
one_reason r q half text (name e s) (byte f t) = absurd (no_byte_name half text t s)
one_reason r q half text (number e s) (comment f t) = absurd (other_number half text 5 s (ap class_of t.0) refl)
one_reason r q half text (comment e s) (number f t) = absurd (other_number half text 5 t (ap class_of s.0) refl)
one_reason r q half text (number e s) (string f t) = absurd (other_number half text 6 s (ap class_of t.0) refl)
one_reason r q half text (string e s) (number f t) = absurd (other_number half text 6 t (ap class_of s.0) refl)
one_reason r q half text (number e s) (name f t) = absurd (number_name half text s t)
one_reason r q half text (name e s) (number f t) = absurd (number_name half text t s)
one_reason r q half text (comment e s) (string f t) = absurd (omega (arith, s.0, t.0))
one_reason r q half text (string e s) (comment f t) = absurd (omega (arith, s.0, t.0))
one_reason r q half text (comment e s) (name f t) = absurd (name_class half text 5 t (ap class_of s.0) refl)
one_reason r q half text (name e s) (comment f t) = absurd (name_class half text 5 s (ap class_of t.0) refl)
one_reason r q half text (string e s) (name f t) = absurd (name_class half text 6 t (ap class_of s.0) refl)
one_reason r q half text (name e s) (string f t) = absurd (name_class half text 6 s (ap class_of t.0) refl)

-- where a text is stuck nothing good can be cut off
stuck_stops : (half : Bool) (text : List ℕ) (r : Refusal) → Why half text r → Stops text
unfolding Stops
stuck_stops half text r (byte e (inl b)) k n c g = b.1 k n c.within c.is
stuck_stops half text r (byte e (inr b)) k n c g = empty_stops k n (subst (λ t. Cuts k t n) b.0 c)
stuck_stops half text r (number e (inl (h, none))) k n c g = go k (class_at k text n 7 c.is (ap class_of h)) c.is
  where
    go : (k : PieceKind) → IsTrue (may k 7) → Is k text n → ⊥
    go (TokenOf (Number v)) m is = none v n c.within is
    go k m is = cc
stuck_stops half text r (number e (inr (v, m, d, bad))) k n c g =
    let same = same_cut k (TokenOf (Number v)) text n m c d in
    let long = longest_is k (TokenOf (Number v)) text n m c d in
    bad (subst (λ m. IsGood (TokenOf (Number v)) text m) long (subst (λ k. IsGood k text n) same g))
stuck_stops half text r (comment e (h, none, never)) k n c g = go k (class_at k text n 5 c.is (ap class_of h)) c.is
  where
    go : (k : PieceKind) → IsTrue (may k 5) → Is k text n → ⊥
    go Comment m is = none n c.within is
    go DocComment m is = never n c.within is
    go (TokenOf Name) m is = cc
    go k m is = cc
stuck_stops half text r (string e (h, none)) k n c g = go k (class_at k text n 6 c.is (ap class_of h)) c.is
  where
    go : (k : PieceKind) → IsTrue (may k 6) → Is k text n → ⊥
    go (TokenOf Str) m is = none n c.within is
    go k m is = cc
stuck_stops half text r (name e (m, d, bad)) k n c g =
    let same = same_cut k (TokenOf Name) text n m c d in
    let long = longest_is k (TokenOf Name) text n m c d in
    let short = subst (λ k. IsGood k text n) same g in
    omega (arith, long, short, bad)

same_refusal : (bytes : List ℕ) (r q : Refusal) (a b : Place) → IsRefused bytes r a → IsRefused bytes q b → (r ≡ q) × (a ≡ b)
same_refusal bytes r q a b (ps, at, cut, stuck, s) (qs, m, cut', stuck', t) =
    let text = text_of bytes in
    let half = ends_in_half bytes in
    let w = why r half (drop at text) stuck in
    let v = why q half (drop m text) stuck' in
    let same = one_way text ps qs 0 at m (stuck_stops half (drop at text) r w) (stuck_stops half (drop m text) q v) cut cut' in
    (one_reason r q half (drop at text) w (subst (λ m. Why half (drop m text) q) (sym same.1) v), s ∙ ap (place_of text) same.1 ∙ sym t)

pub one_fault : (bytes : List ℕ) (f g : Fault) → IsFault bytes f → IsFault bytes g → f ≡ g
one_fault bytes f g (too_long long n p) (too_long long' m q) = same_fault f g (n ∙ sym m) (p ∙ sym q)
one_fault bytes f g (too_long long n p) (no_tokens short q d k) = absurd (omega arith)
one_fault bytes f g (no_tokens short r e h) (too_long long n p) = absurd (omega arith)
one_fault bytes f g (no_tokens short r e h) (no_tokens short' q d k) =
    let same = same_refusal bytes r q f.place g.place h k in
    same_fault f g (e ∙ ap refusal_number same.0 ∙ sym d) same.1

pub one_list : (bytes : List ℕ) (ts us : List Token) → AreTokens bytes ts → AreTokens bytes us → ts ≡ us
one_list bytes ts us (a, (ps, cut, e)) (c, (qs, cut', f)) =
    let text = text_of bytes in
    let same = one_way text ps qs 0 (length text) (length text) (end_stops text) (end_stops text) cut cut' in
    e ∙ ap (filter_map (token_of bytes)) same.0 ∙ sym f

-- nothing is stuck at the end of a text without half a unit
end_not_stuck : (r : Refusal) → Why false [] r → ⊥
end_not_stuck r (byte e (inl b)) = omega (arith, b.0)
end_not_stuck r (byte e (inr b)) = let h = b.1 in cc
end_not_stuck r (number e (inl n)) = omega (arith, n.0)
end_not_stuck r (number e (inr (v, n, c, g))) = empty_stops (TokenOf (Number v)) n c
end_not_stuck r (comment e s) = omega (arith, s.0)
end_not_stuck r (string e s) = omega (arith, s.0)
end_not_stuck r (name e (n, c, long)) = empty_stops (TokenOf Name) n c

-- a file has tokens, or nothing more can be cut off it somewhere
tokens_or_refusal : (bytes : List ℕ) (tokens : List Token) (r : Refusal) (place : Place) → AreTokens bytes tokens → IsRefused bytes r place → ⊥
tokens_or_refusal bytes tokens r place (whole, (ps, cut, e)) (qs, m, cut', stuck, p) =
    let text = text_of bytes in
    let w = why r (ends_in_half bytes) (drop m text) stuck in
    let same = one_way text ps qs 0 (length text) m (end_stops text) (stuck_stops (ends_in_half bytes) (drop m text) r w) cut cut' in
    end_not_stuck r (subst (λ t. Why false t r) (ap (λ m. drop m text) (sym same.1) ∙ drop-length text) (subst (λ b. Why b (drop m text) r) whole w))

pub never_both : (bytes : List ℕ) (tokens : List Token) (fault : Fault) → AreTokens bytes tokens → length bytes ≤ longest_file → IsFault bytes fault → ⊥
never_both bytes tokens fault are short (too_long long n p) = omega arith
never_both bytes tokens fault are short (no_tokens short' r d h) = tokens_or_refusal bytes tokens r fault.place are h

-- what a lexer finds at the end of a text

pub whole : (bytes : List ℕ) (at : ℕ) (tokens : List Token) → at ≡ length (text_of bytes) → ends_in_half bytes ≡ false → SoFar bytes at tokens → AreTokens bytes tokens
whole bytes at tokens e half s = (half, (s.pieces, subst (CutsUpTo (text_of bytes) 0 s.pieces) e s.cut, s.are))

-- which refusals a stuck text can have
pub stuck_refusal : (bytes : List ℕ) (at : ℕ) (tokens : List Token) (r : Refusal) (place : Place) → SoFar bytes at tokens → IsStuck r false (drop at (text_of bytes)) → place ≡ place_of (text_of bytes) at → IsRefused bytes r place
stuck_refusal bytes at tokens r place s h p = (s.pieces, at, s.cut, go (why r false (drop at (text_of bytes)) h), p)
  where
    go : Why false (drop at (text_of bytes)) r → IsStuck r (ends_in_half bytes) (drop at (text_of bytes))
    go (byte e (inl b)) = subst (λ r. IsStuck r (ends_in_half bytes) (drop at (text_of bytes))) (sym e) (inl b)
    go (byte e (inr b)) = absurd (let no_half = b.1 in cc)
    go (number e t) = subst (λ r. IsStuck r (ends_in_half bytes) (drop at (text_of bytes))) (sym e) t
    go (comment e t) = subst (λ r. IsStuck r (ends_in_half bytes) (drop at (text_of bytes))) (sym e) t
    go (string e t) = subst (λ r. IsStuck r (ends_in_half bytes) (drop at (text_of bytes))) (sym e) t
    go (name e t) = subst (λ r. IsStuck r (ends_in_half bytes) (drop at (text_of bytes))) (sym e) t

pub half_refusal : (bytes : List ℕ) (at : ℕ) (tokens : List Token) (place : Place) → SoFar bytes at tokens → at ≡ length (text_of bytes) → ends_in_half bytes ≡ true → place ≡ place_of (text_of bytes) at → IsRefused bytes BadByte place
half_refusal bytes at tokens place s e half p =
    (s.pieces, at, s.cut, inr (ap (λ m. drop m (text_of bytes)) e ∙ drop-length (text_of bytes), half), p)

pub length_fault : (bytes : List ℕ) (f : Fault) → longest_file < length bytes → f ≡ fault FileTooLong start → IsFault bytes f
length_fault bytes f long e = too_long long (ap (λ g. g.number) e) (ap (λ g. g.place) e)

pub fault_is : (bytes : List ℕ) (r : Refusal) (place : Place) (f : Fault) → length bytes ≤ longest_file → f ≡ fault r place → IsRefused bytes r place → IsFault bytes f
fault_is bytes r place f short e h = no_tokens short r (ap (λ g. g.number) e) (subst (IsRefused bytes r) (sym (ap (λ g. g.place) e)) h)

-- a piece has characters
pub positive : (k : PieceKind) (text : List ℕ) (n : ℕ) → n ≤ length text → Is k text n → 0 < n
positive Blank text n within h = h.0
positive LineComment text n within h = h.0
positive Comment text n within (alone, (cs, inside, e)) = omega (arith, ap length e, length-take-le n text within)
positive DocComment text n within h = omega (arith, h.0)
positive (TokenOf Name) text n within h = h.0
positive (TokenOf (Number v)) text n within (r, (m, d, e)) = omega (arith, d.0)
positive (TokenOf Float) text n within (m, d, t) = omega (arith, (after_mark text m n t).1)
positive (TokenOf Str) text n within h = omega (arith, h.0)
positive (TokenOf (Symbol s)) text n within (w, at, is) = omega (arith, (spelling_length text s n w at is).0, symbol_length text s n w at is within)
positive (TokenOf LineEnd) text n within (inl e) = omega (arith, ap length e, length-take-le n text within)
positive (TokenOf LineEnd) text n within (inr (inl e)) = omega (arith, ap length e, length-take-le n text within)
positive (TokenOf LineEnd) text n within (inr (inr e)) = omega (arith, ap length e, length-take-le n text within)
