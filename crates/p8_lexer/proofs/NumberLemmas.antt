-- What digits stand for, and fractions and exponents.
use Rattle.std.proofs.Common.{◌≡◌, ℕ, zero, suc, ◌+◌, ◌*◌, ◌<◌, ◌≤◌, ◌⊎◌, inl, inr, Bool, true, false, List, [], ◌∷◌, ◌++◌, length, take, drop, get_or, Option, Some, None, refl, sym, ap, ◌∙◌, subst, arith, take-append-drop}
use Rattle.std.specs.Prelude.{◌==◌, if◌then◌else◌, IsTrue, unwrap_or}
use Rattle.std.proofs.lemmas.Bool.Decides.{nat_tests}
use Rattle.std.proofs.lemmas.Bool.{cases_lt}
use Rattle.std.proofs.lemmas.List.{take_more, take-take, length-take-le, drop-append-le}
use Rattle.p8_lexer.specs.declared.piece.Radix.{Radix}
use Rattle.p8_lexer.specs.declared.piece.Radix.TheVariants as radix
use Rattle.p8_lexer.specs.declared.piece.Class.TheVariants as class
use Rattle.p8_lexer.specs.Lexing.{is_in, AreDigits, IsFraction, IsExponent, IsFloatTail, base, digit_value, value_behind}
use Rattle.p8_lexer.specs.Cutting.{IsGreatest, IsLongest}

base_positive : (r : Radix) → 1 ≤ base r
base_positive radix.Binary = omega arith
base_positive radix.Quaternary = omega arith
base_positive radix.Decimal = omega arith
base_positive radix.Hexadecimal = omega arith

value_push : (b v : ℕ) (cs : List ℕ) (c : ℕ) → value_behind b v (cs ++ c ∷ []) ≡ (if c == 95 then value_behind b v cs else b * value_behind b v cs + digit_value c)
value_push b v [] c = refl
value_push b v (x ∷ cs) c = value_push b (if x == 95 then v else b * v + digit_value x) cs c

value_append : (b v : ℕ) (cs ds : List ℕ) → value_behind b v (cs ++ ds) ≡ value_behind b (value_behind b v cs) ds
value_append b v [] ds = refl
value_append b v (x ∷ cs) ds = value_append b (if x == 95 then v else b * v + digit_value x) cs ds

grows : (b v d : ℕ) → 1 ≤ b → v ≤ b * v + d
grows zero v d h = absurd (omega arith)
grows (suc b) v d h = grind arith

value_grows : (r : Radix) (v : ℕ) (cs : List ℕ) → v ≤ value_behind (base r) v cs
value_grows r v [] = omega arith
value_grows r v (x ∷ cs) = go (x == 95) (value_grows r v cs) (value_grows r (base r * v + digit_value x) cs)
  where
    go : (t : Bool) → v ≤ value_behind (base r) v cs → base r * v + digit_value x ≤ value_behind (base r) (base r * v + digit_value x) cs → v ≤ value_behind (base r) (if t then v else base r * v + digit_value x) cs
    go true h k = h
    go false h k = omega (arith, grows (base r) v (digit_value x) (base_positive r), k)

-- the digits from one place up to another
part_more : (text : List ℕ) (from i : ℕ) → from ≤ i → i < length text → drop from (take (i + 1) text) ≡ drop from (take i text) ++ get_or text i 0 ∷ []
part_more text from i le lt = ap (drop from) (take_more text i 0 lt) ∙ drop-append-le from (take i text) (get_or text i 0 ∷ []) (omega (arith, length-take-le i text (omega arith)))

pub value_more : (r : Radix) (text : List ℕ) (from i v w : ℕ) → from ≤ i → i < length text → v ≡ value_behind (base r) 0 (drop from (take i text)) → w ≡ (if get_or text i 0 == 95 then v else base r * v + digit_value (get_or text i 0)) → w ≡ value_behind (base r) 0 (drop from (take (i + 1) text))
value_more r text from i v w le lt h e =
    e ∙ ap (λ v. if get_or text i 0 == 95 then v else base r * v + digit_value (get_or text i 0)) h ∙ sym (value_push (base r) 0 (drop from (take i text)) (get_or text i 0)) ∙ ap (value_behind (base r) 0) (sym (part_more text from i le lt))

part_split : (text : List ℕ) (from i to : ℕ) → from ≤ i → i ≤ to → to ≤ length text → drop from (take to text) ≡ drop from (take i text) ++ drop i (take to text)
part_split text from i to le le' within =
    ap (drop from) (sym (take-append-drop i (take to text)) ∙ ap (λ t. t ++ drop i (take to text)) (take-take i to text le')) ∙ drop-append-le from (take i text) (drop i (take to text)) (omega (arith, length-take-le i text (omega arith)))

pub value_so_far : (r : Radix) (text : List ℕ) (from i to : ℕ) → from ≤ i → i ≤ to → to ≤ length text → value_behind (base r) 0 (drop from (take i text)) ≤ value_behind (base r) 0 (drop from (take to text))
value_so_far r text from i to le le' within =
    let e = ap (value_behind (base r) 0) (part_split text from i to le le' within) ∙ value_append (base r) 0 (drop from (take i text)) (drop i (take to text)) in
    omega (arith, value_grows r (value_behind (base r) 0 (drop from (take i text))) (drop i (take to text)), e)

pub no_value : (b : ℕ) (text : List ℕ) (from : ℕ) → value_behind b 0 (drop from (take from text)) ≡ 0
no_value b text from = ap (value_behind b 0) (nothing text from)
  where
    nothing : (text : List ℕ) (n : ℕ) → drop n (take n text) ≡ []
    nothing [] zero = refl
    nothing [] (suc n) = refl
    nothing (x ∷ text) zero = refl
    nothing (x ∷ text) (suc n) = nothing text n

-- fractions and exponents

fraction_digit : (text : List ℕ) (from j k : ℕ) → IsFraction text from k → IsFraction text from j → j < k → IsTrue (is_in (class.Digits radix.Decimal) (get_or text j 0))
fraction_digit text from j k f g lt = f.1.2 j (omega (arith, g.1.0)) lt

no_mark : (c : ℕ) → IsTrue (is_in (class.Digits radix.Decimal) c) → (c ≡ 69) ⊎ (c ≡ 101) → ⊥
no_mark c d h = grind (arith, nat_tests)

pub exponent_above : (text : List ℕ) (from to : ℕ) → IsExponent text from to → from < to
exponent_above text from to e = go e.1
  where
    go : AreDigits radix.Decimal text (from + 1) to ⊎ (((get_or text (from + 1) 0 ≡ 43) ⊎ (get_or text (from + 1) 0 ≡ 45)) × AreDigits radix.Decimal text (from + 2) to) → from < to
    go (inl d) = omega (arith, d.0)
    go (inr d) = omega (arith, d.1.0)

dot_or_mark : (c : ℕ) → c ≡ 46 → (c ≡ 69) ⊎ (c ≡ 101) → ⊥
dot_or_mark c d h = grind arith

module _ (text : List ℕ) (from k : ℕ) (frac : IsGreatest (IsFraction text from) (length text) k) where
  -- a fraction and an exponent after it meet where the longest fraction ends
  meets : (j m : ℕ) → m ≤ length text → IsFraction text from j → IsExponent text j m → j ≡ k
  meets j m within f e = go (cases_lt j k) (cases_lt k j)
    where
      go : (j < k) ⊎ (k ≤ j) → (k < j) ⊎ (j ≤ k) → j ≡ k
      go (inl lt) h = absurd (no_mark (get_or text j 0) (fraction_digit text from j k frac.holds f lt) e.0)
      go (inr le) (inl lt) = absurd (frac.greatest j lt (omega (arith, exponent_above text j m e)) f)
      go (inr le) (inr le') = omega arith

  tail_past : (m : ℕ) → k < m → m ≤ length text → IsFloatTail text from m → IsExponent text k m
  tail_past m above within (inl f) = absurd (frac.greatest m above within f)
  tail_past m above within (inr (inl e)) = absurd (dot_or_mark (get_or text from 0) frac.holds.0 e.0)
  tail_past m above within (inr (inr (j, f, e))) = subst (λ j. IsExponent text j m) (meets j m within f e) e

  pub fraction_alone : ((n : ℕ) → n ≤ length text → IsExponent text k n → ⊥) → IsGreatest (IsFloatTail text from) (length text) k
  fraction_alone none = record { within = frac.within; holds = inl frac.holds; greatest = λ m above within t. none m within (tail_past m above within t) }

  pub fraction_and_exponent : (n : ℕ) → IsGreatest (IsExponent text k) (length text) n → IsGreatest (IsFloatTail text from) (length text) n
  fraction_and_exponent n exp =
      record {
        within = exp.within;
        holds = inr (inr (k, frac.holds, exp.holds));
        greatest = λ m above within t. exp.greatest m above within (tail_past m (omega (arith, exponent_above text k n exp.holds)) within t);
      }

  pub fraction_longest : (r : Option ℕ) → IsLongest (IsExponent text k) (length text) r → IsGreatest (IsFloatTail text from) (length text) (unwrap_or r k)
  fraction_longest None h = fraction_alone h
  fraction_longest (Some n) h = fraction_and_exponent n h

module _ (text : List ℕ) (from : ℕ) (none : (n : ℕ) → n ≤ length text → IsFraction text from n → ⊥) where
  no_fraction : (m : ℕ) → m ≤ length text → IsFloatTail text from m → IsExponent text from m
  no_fraction m within (inl f) = absurd (none m within f)
  no_fraction m within (inr (inl e)) = e
  no_fraction m within (inr (inr (j, f, e))) = absurd (none j (omega (arith, exponent_above text j m e)) f)

  pub exponent_longest : (r : Option ℕ) → IsLongest (IsExponent text from) (length text) r → IsLongest (IsFloatTail text from) (length text) r
  exponent_longest None h = λ n within t. h n within (no_fraction n within t)
  exponent_longest (Some n) h = record { within = h.within; holds = inr (inl h.holds); greatest = λ m above within t. h.greatest m above within (no_fraction m within t) }
