-- Facts on a few numbers, one by one.
use Rattle.std.proofs.Common.{◌≡◌, refl, sym, ap, ◌∙◌, subst, arith, ℕ, zero, suc, ◌+◌, ◌<◌, ◌≤◌, ◌==◌, Bool, true, false, ◌&&◌, ◌||◌, List, [], ◌∷◌, IsTrue}
use Rattle.std.proofs.lemmas.Bool.Decides.{nat_tests}
use Rattle.p8_tree.specs.Proper.{is_one_of, is_size}
use Rattle.p8_compiled.proofs.Truths.{equal, first-true, second-true}

-- ---- numbers on a list

abbrev pub EachOf : (P : ℕ → Type 0) → List ℕ → Type 0
EachOf P [] = Unit {0}
EachOf P (n ∷ ns) = P n × EachOf P ns

each-by : (P : ℕ → Type 0) (n k : ℕ) (others : Bool) → P n → (others ≡ true → P k) → (same : Bool) → (k == n) ≡ same → (same || others) ≡ true → P k
each-by P n k others fact rest true same is = subst P (sym (equal k n same)) fact
each-by P n k others fact rest false same is = rest is

pub each : (P : ℕ → Type 0) (ns : List ℕ) → EachOf P ns → (k : ℕ) → is_one_of ns k ≡ true → P k
each P [] facts k is = absurd (cc)
each P (n ∷ ns) facts k is = each-by P n k (is_one_of ns k) facts.0 (each P ns facts.1 k) (k == n) refl is

-- ---- sizes

pub by-size : (P : ℕ → Type 0) → P 1 → P 2 → P 4 → (z : ℕ) → IsTrue (is_size z) → P z
by-size P one two four z is = each P (1 ∷ 2 ∷ 4 ∷ []) (one, (two, (four, tt))) z is

-- ---- numbers in a row, by a test

abbrev pub all_from : (test : ℕ → Bool) → (first count : ℕ) → Bool
all_from test first zero = true
all_from test first (suc count) = test first && all_from test (first + 1) count

within-row-by : (test : ℕ → Bool) (first k : ℕ) (others : Bool) → first ≤ k → (test first && others) ≡ true → (others ≡ true → first + 1 ≤ k → test k ≡ true) → (same : Bool) → (k == first) ≡ same → test k ≡ true
within-row-by test first k others least all rest true same = ap test (equal k first same) ∙ first-true (test first) others all
within-row-by test first k others least all rest false same = rest (second-true (test first) others all) (grind (arith, nat_tests, least, same))

pub within-row : (test : ℕ → Bool) (first count : ℕ) → all_from test first count ≡ true → (k : ℕ) → first ≤ k → k < first + count → test k ≡ true
within-row test first zero all k least most = absurd (omega (arith, least, most))
within-row test first (suc count) all k least most =
    within-row-by test first k _ least all (λ others next. within-row test (first + 1) count others k next (omega (arith, most))) (k == first) refl
