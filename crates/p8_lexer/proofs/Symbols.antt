-- The symbols and their numbers.
use Rattle.std.proofs.Common.{◌≡◌, ℕ, zero, suc, ◌+◌, ◌<◌, ◌≤◌, Bool, true, false, List, [], ◌∷◌, length, take, get_or, Some, refl, sym, ap, ◌∙◌, arith}
use Rattle.std.specs.Prelude.{nat_lt, slice_get, ◌==◌, not, ◌&&◌, ◌||◌, if◌then◌else◌}
use Rattle.std.proofs.lemmas.List.{length-take-le}
use Rattle.std.specs.List.{list_all}
use Rattle.std.proofs.lemmas.Bool.Decides.{nat_tests}
use denote.Enum.Declared.{tag_of}
use Rattle.p8_lexer.specs.contracts.word.Word.{the_type}
use Rattle.p8_lexer.specs.declared.word.Word.{Word}
use Rattle.p8_lexer.specs.declared.word.Word.TheVariants as word
use Rattle.p8_lexer.specs.Words.{spelling, symbols}
use Rattle.p8_lexer.specs.Lexing.{is_between}

and_left : (a b : Bool) → a && b ≡ true → a ≡ true
and_left true b h = refl
and_left false b h = h

and_right : (a b : Bool) → a && b ≡ true → b ≡ true
and_right true b h = h
and_right false b h = absurd cc

below : (a b : ℕ) → nat_lt a b ≡ true → a < b
below a b h = grind (arith, nat_tests)

-- what all elements pass, each of them passes
pub passes_at : {X : Type 0} (p : X → Bool) (xs : List X) → list_all p xs ≡ true → (n : ℕ) (x : X) → slice_get xs n ≡ Some x → p x ≡ true
passes_at p [] h n x e = absurd cc
passes_at p (y ∷ ys) h zero x e = let same : y ≡ x = cc in ap p (sym same) ∙ and_left (p y) (list_all p ys) h
passes_at p (y ∷ ys) h (suc n) x e = passes_at p ys (and_right (p y) (list_all p ys) h) n x e

tags_small : list_all (λ v. nat_lt (tag_of the_type v) 71) symbols ≡ true
unfolding symbols
tags_small = refl

pub symbol_tag : (n : ℕ) (w : Word) → slice_get symbols n ≡ Some w → tag_of the_type w < 71
symbol_tag n w e = below (tag_of the_type w) 71 (passes_at (λ v. nat_lt (tag_of the_type v) 71) symbols tags_small n w e)

-- each symbol stands at its number
at_tag_or : (w : Word) → (if nat_lt (tag_of the_type w) 71 then slice_get symbols (tag_of the_type w) else Some w) ≡ Some w
unfolding symbols
at_tag_or word.PlusPlus = refl
at_tag_or _ = refl

chosen : {X : Type 0} (b : Bool) (x y : X) → b ≡ true → (if b then x else y) ≡ x
chosen true x y h = refl
chosen false x y h = absurd cc

tested : (a b : ℕ) → a < b → nat_lt a b ≡ true
tested a b h = grind (arith, nat_tests)

pub at_tag : (w : Word) → tag_of the_type w < 71 → slice_get symbols (tag_of the_type w) ≡ Some w
at_tag w h = sym (chosen (nat_lt (tag_of the_type w) 71) (slice_get symbols (tag_of the_type w)) (Some w) (tested (tag_of the_type w) 71 h)) ∙ at_tag_or w

-- what a symbol begins with
abbrev pub is_symbol_first : ℕ → Bool
is_symbol_first c =
    (c == 33) || (is_between 35 36 c || ((c == 38) || (is_between 40 47 c || ((c == 58) || (is_between 60 64 c || (is_between 91 94 c || ((c == 124) || (c == 126))))))))

firsts_pass : list_all (λ v. is_symbol_first (get_or (spelling v) 0 0)) symbols ≡ true
unfolding symbols
firsts_pass = refl

lengths_pass : list_all (λ v. is_between 1 3 (length (spelling v))) symbols ≡ true
unfolding symbols
lengths_pass = refl

dollars_pass : list_all (λ v. not (get_or (spelling v) 0 0 == 36) || (length (spelling v) == 1)) symbols ≡ true
unfolding symbols
dollars_pass = refl

take_first : (text : List ℕ) (n : ℕ) (t : List ℕ) → take n text ≡ t → 0 < length t → get_or text 0 0 ≡ get_or t 0 0
take_first [] zero t e h = absurd (omega (arith, ap length e))
take_first [] (suc n) t e h = absurd (omega (arith, ap length e))
take_first (x ∷ text) zero t e h = absurd (omega (arith, ap length e))
take_first (x ∷ text) (suc n) t e h = ap (λ l. get_or l 0 0) e

between : (a b c : ℕ) → is_between a b c ≡ true → (a ≤ c) × (c ≤ b)
between a b c h = grind (arith, nat_tests)

module _ (text : List ℕ) (s n : ℕ) (w : Word) (at : slice_get symbols s ≡ Some w) (is : take n text ≡ spelling w) where
  pub spelling_length : (1 ≤ length (spelling w)) × (length (spelling w) ≤ 3)
  spelling_length = between 1 3 (length (spelling w)) (passes_at (λ v. is_between 1 3 (length (spelling v))) symbols lengths_pass s w at)

  pub symbol_first_is : get_or text 0 0 ≡ get_or (spelling w) 0 0
  symbol_first_is = take_first text n (spelling w) is (omega (arith, spelling_length.0))

  pub symbol_first : is_symbol_first (get_or text 0 0) ≡ true
  symbol_first = ap is_symbol_first symbol_first_is ∙ passes_at (λ v. is_symbol_first (get_or (spelling v) 0 0)) symbols firsts_pass s w at

  pub symbol_length : n ≤ length text → n ≡ length (spelling w)
  symbol_length within = sym (length-take-le n text within) ∙ ap length is

  one : (a : Bool) (l : ℕ) → not a || (l == 1) ≡ true → a ≡ true → l ≡ 1
  one a l h e = grind (arith, nat_tests)

  same_first : (c : ℕ) → c ≡ 36 → (c == 36) ≡ true
  same_first c e = grind (arith, nat_tests)

  pub dollar_alone : n ≤ length text → get_or text 0 0 ≡ 36 → n ≡ 1
  dollar_alone within e =
      symbol_length within ∙ one (get_or (spelling w) 0 0 == 36) (length (spelling w)) (passes_at (λ v. not (get_or (spelling v) 0 0 == 36) || (length (spelling v) == 1)) symbols dollars_pass s w at) (same_first (get_or (spelling w) 0 0) (sym symbol_first_is ∙ e))

-- a symbol's number is its place
counts_from : ℕ → List Word → Bool
counts_from k [] = true
counts_from k (w ∷ ws) = (tag_of the_type w == k) && counts_from (suc k) ws

counts : counts_from 0 symbols ≡ true
unfolding symbols counts_from
counts = refl

equal : (a b : ℕ) → (a == b) ≡ true → a ≡ b
equal a b h = grind (arith, nat_tests)

counts_at : (k : ℕ) (ws : List Word) → counts_from k ws ≡ true → (n : ℕ) (w : Word) → slice_get ws n ≡ Some w → tag_of the_type w ≡ k + n
unfolding counts_from
counts_at k [] h n w e = absurd cc
counts_at k (v ∷ vs) h zero w e =
    let same : v ≡ w = cc in
    let at : tag_of the_type v ≡ k = equal (tag_of the_type v) k (and_left (tag_of the_type v == k) (counts_from (suc k) vs) h) in
    ap (tag_of the_type) (sym same) ∙ at ∙ (let z : k ≡ k + 0 = omega arith in z)
counts_at k (v ∷ vs) h (suc n) w e = counts_at (suc k) vs (and_right (tag_of the_type v == k) (counts_from (suc k) vs) h) n w e ∙ (let z : suc k + n ≡ k + suc n = omega arith in z)

pub one_number : (s t : ℕ) (w : Word) → slice_get symbols s ≡ Some w → slice_get symbols t ≡ Some w → s ≡ t
one_number s t w d e = omega (arith, counts_at 0 symbols counts s w d, counts_at 0 symbols counts t w e)
