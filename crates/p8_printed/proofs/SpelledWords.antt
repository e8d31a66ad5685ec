-- The words that are written: what each begins with, and that it is read as itself.
use Rattle.std.proofs.Common.{◌≡◌, ◌≢◌, ℕ, zero, suc, ◌+◌, ◌*◌, ◌/◌, ◌%◌, ◌^◌, ◌<◌, ◌≤◌, ◌⊎◌, inl, inr, Bool, true, false, List, [], ◌∷◌, ◌++◌, length, map, get_or, Some, refl, sym, ap, ◌∙◌, subst, arith}
use Rattle.std.specs.Prelude.{◌==◌, ◌&&◌, ◌||◌, not, nat_lt, nat_le, if◌then◌else◌, IsTrue, slice_get}
use Rattle.std.specs.List.{list_all}
use Rattle.std.specs.Fmt.{decimal}
use Rattle.std.proofs.lemmas.Bool.Decides.{nat_tests}
use Rattle.std.proofs.lemmas.Bool.{cases_lt}
use Rattle.std.proofs.lemmas.List.{length-append, get_or_append_left, get_or-append-add}
use Rattle.std.proofs.lemmas.Fmt.{decimal_by_steps}
use denote.Enum.Declared.{tag_of}
use Rattle.p8_lexer.specs.contracts.word.Word.{the_type}
use Rattle.p8_lexer.specs.declared.word.Word.{Word}
use Rattle.p8_lexer.specs.declared.word.Word.TheVariants as word
use Rattle.p8_lexer.specs.declared.piece.Radix.TheVariants as radix
use Rattle.p8_lexer.specs.declared.piece.Class.TheVariants as class
use Rattle.p8_lexer.specs.Lexing.{is_letter, is_line_end, is_digit, is_in, digit_value, value_behind}
use Rattle.p8_lexer.specs.Words.{spelling, symbols, every_word, capital, same, first_spelled, word_spelled}
use Rattle.p8_lexer.proofs.Symbols.{passes_at, at_tag}
use Rattle.p8_lexer.proofs.Searches.{same-true, read_back, spells_itself}
use Rattle.p8_print.specs.Spelled.{is_free}

-- tests

pub both : (a b : Bool) → a && b ≡ true → (a ≡ true) × (b ≡ true)
both true b h = (refl, h)
both false b h = absurd cc

either : (a b : Bool) → a || b ≡ true → (a ≡ true) ⊎ (b ≡ true)
either true b h = inl refl
either false b h = inr h

below : (a b : ℕ) → nat_lt a b ≡ true → a < b
below a b h = grind (arith, nat_tests)

at_most : (a b : ℕ) → nat_le a b ≡ true → a ≤ b
at_most a b h = grind (arith, nat_tests)

-- what all characters pass, each of them passes
pub all_at : (p : ℕ → Bool) (cs : List ℕ) → list_all p cs ≡ true → (i : ℕ) → i < length cs → p (get_or cs i 0) ≡ true
all_at p [] h i lt = absurd (omega arith)
all_at p (c ∷ cs) h zero lt = (both (p c) (list_all p cs) h).0
all_at p (c ∷ cs) h (suc i) lt = all_at p cs (both (p c) (list_all p cs) h).1 i (omega arith)

-- reserved words

-- a reserved word is spelled in capitals, and is a symbol or has the form of a name
abbrev well_spelled : Word → Bool
well_spelled w =
    same (map capital (spelling w)) (spelling w) && (nat_lt 0 (length (spelling w)) && (list_all (λ c. not (is_line_end c)) (spelling w)
    && (nat_lt (tag_of the_type w) 71 || (is_letter (get_or (spelling w) 0 0) && (list_all (is_in class.Name) (spelling w) && nat_le (length (spelling w)) 30)))))

all_well_spelled : (w : Word) → (if is_free w then true else well_spelled w) ≡ true
all_well_spelled word.PlusPlus = refl
all_well_spelled _ = refl

chosen : (b c : Bool) → (if b then true else c) ≡ true → b ≡ false → c ≡ true
chosen true c h e = absurd cc
chosen false c h e = h

-- a reserved word of letters
pub record HasLetters (w : Word) : Type 0 where
  pub first : IsTrue (is_letter (get_or (spelling w) 0 0))
  pub all : (i : ℕ) → i < length (spelling w) → IsTrue (is_in class.Name (get_or (spelling w) i 0))
  pub short : length (spelling w) ≤ 30

-- what is known of a reserved word
pub record IsReserved (w : Word) : Type 0 where
  pub capitals : map capital (spelling w) ≡ spelling w
  pub some : 0 < length (spelling w)
  pub on_a_line : (i : ℕ) → i < length (spelling w) → IsTrue (is_in class.Line (get_or (spelling w) i 0))
  pub kind : (slice_get symbols (tag_of the_type w) ≡ Some w) ⊎ HasLetters w

pub reserved_is : (w : Word) → is_free w ≡ false → IsReserved w
reserved_is w free = go (chosen (is_free w) (well_spelled w) (all_well_spelled w) free)
  where
    kinds : (nat_lt (tag_of the_type w) 71 ≡ true) ⊎ (is_letter (get_or (spelling w) 0 0) && (list_all (is_in class.Name) (spelling w) && nat_le (length (spelling w)) 30) ≡ true) → (slice_get symbols (tag_of the_type w) ≡ Some w) ⊎ HasLetters w
    kinds (inl h) = inl (at_tag w (below (tag_of the_type w) 71 h))
    kinds (inr h) =
        let p = both (is_letter (get_or (spelling w) 0 0)) (list_all (is_in class.Name) (spelling w) && nat_le (length (spelling w)) 30) h in
        let q = both (list_all (is_in class.Name) (spelling w)) (nat_le (length (spelling w)) 30) p.1 in
        inr (record { first = p.0; all = all_at (is_in class.Name) (spelling w) q.0; short = at_most (length (spelling w)) 30 q.1 })

    go : well_spelled w ≡ true → IsReserved w
    go h =
        let symbol = nat_lt (tag_of the_type w) 71 in
        let letters = is_letter (get_or (spelling w) 0 0) && (list_all (is_in class.Name) (spelling w) && nat_le (length (spelling w)) 30) in
        let p = both (same (map capital (spelling w)) (spelling w)) (nat_lt 0 (length (spelling w)) && (list_all (λ c. not (is_line_end c)) (spelling w) && (symbol || letters))) h in
        let q = both (nat_lt 0 (length (spelling w))) (list_all (λ c. not (is_line_end c)) (spelling w) && (symbol || letters)) p.1 in
        let r = both (list_all (λ c. not (is_line_end c)) (spelling w)) (symbol || letters) q.1 in
        record {
          capitals = same-true (map capital (spelling w)) (spelling w) p.0;
          some = below 0 (length (spelling w)) q.0;
          on_a_line = all_at (λ c. not (is_line_end c)) (spelling w) r.0;
          kind = kinds (either symbol letters r.1);
        }

pub spelled_back : (w : Word) → IsReserved w → word_spelled (spelling w) ≡ Some w
spelled_back w r =
    ap (λ t. first_spelled t every_word) r.capitals ∙ read_back w (spelling w) (spells_itself w r.some)

-- no symbol has a blank inside

no_blanks : list_all (λ v. list_all (λ c. not (c == 32)) (spelling v)) symbols ≡ true
unfolding symbols
no_blanks = refl

not_blank : (c : ℕ) → not (c == 32) ≡ true → c ≢ 32
not_blank c h e = grind (arith, nat_tests)

pub no_blank_inside : (s i : ℕ) (w : Word) → slice_get symbols s ≡ Some w → i < length (spelling w) → get_or (spelling w) i 0 ≢ 32
no_blank_inside s i w at lt = not_blank (get_or (spelling w) i 0) (all_at (λ c. not (c == 32)) (spelling w) (passes_at (λ v. list_all (λ c. not (c == 32)) (spelling v)) symbols no_blanks s w at) i lt)

-- numbers

value_push : (b v : ℕ) (cs : List ℕ) (c : ℕ) → value_behind b v (cs ++ c ∷ []) ≡ (if c == 95 then value_behind b v cs else b * value_behind b v cs + digit_value c)
value_push b v [] c = refl
value_push b v (x ∷ cs) c = value_push b (if x == 95 then v else b * v + digit_value x) cs c

-- digits that stand for a number
pub record AreDigitsOf (n : ℕ) (ds : List ℕ) : Type 0 where
  pub some : 0 < length ds
  pub digits : (i : ℕ) → i < length ds → IsTrue (is_digit radix.Decimal (get_or ds i 0))
  pub value : value_behind 10 0 ds ≡ n

digit_is : (d : ℕ) → d < 10 → IsTrue (is_digit radix.Decimal (48 + d))
digit_is d lt = grind (arith, nat_tests)

digit_adds : (d v : ℕ) → d < 10 → (if 48 + d == 95 then v else 10 * v + digit_value (48 + d)) ≡ 10 * v + d
digit_adds d v lt = grind (arith, nat_tests)

one_digit : (n : ℕ) → n < 10 → AreDigitsOf n ((48 + n) ∷ [])
one_digit n lt = record { some = omega arith; digits = digits; value = digit_adds n 0 lt ∙ (let z : 10 * 0 + n ≡ n = omega arith in z) }
  where
    digits : (i : ℕ) → i < 1 → IsTrue (is_digit radix.Decimal (get_or ((48 + n) ∷ []) i 0))
    digits zero h = digit_is n lt
    digits (suc i) h = absurd (omega arith)

one_more_digit : (n : ℕ) (ds : List ℕ) → 10 ≤ n → AreDigitsOf (n / 10) ds → AreDigitsOf n (ds ++ ((48 + n % 10) ∷ []))
one_more_digit n ds le h =
    record {
      some = omega (arith, length-append ds ((48 + n % 10) ∷ []));
      digits = λ i lt. go i (omega (arith, length-append ds ((48 + n % 10) ∷ []))) (cases_lt i (length ds));
      value = value_push 10 0 ds (48 + n % 10) ∙ digit_adds (n % 10) (value_behind 10 0 ds) (omega arith) ∙ (let v : 10 * value_behind 10 0 ds + n % 10 ≡ n = omega (arith, h.value) in v);
    }
  where
    go : (i : ℕ) → i < length ds + 1 → (i < length ds) ⊎ (length ds ≤ i) → IsTrue (is_digit radix.Decimal (get_or (ds ++ ((48 + n % 10) ∷ [])) i 0))
    go i lt (inl small) = subst (λ c. IsTrue (is_digit radix.Decimal c)) (sym (get_or_append_left ds ((48 + n % 10) ∷ []) 0 i small)) (h.digits i small)
    go i lt (inr large) =
        let e : length ds + 0 ≡ i = omega arith in
        subst (λ i. IsTrue (is_digit radix.Decimal (get_or (ds ++ ((48 + n % 10) ∷ [])) i 0))) e (subst (λ c. IsTrue (is_digit radix.Decimal c)) (sym (get_or-append-add ds ((48 + n % 10) ∷ []) 0 0)) (digit_is (n % 10) (omega arith)))

pub decimal_digits : (n : ℕ) → n < 2 ^ 64 → AreDigitsOf n (decimal n)
decimal_digits n lt = decimal_by_steps AreDigitsOf one_digit one_more_digit n lt
