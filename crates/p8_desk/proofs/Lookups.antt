-- What is known of a cog's pass, after a change of one, without one, and in two lists.
use Rattle.std.proofs.Common.{◌≡◌, ◌≢◌, ◌⊎◌, inl, inr, ⊎_elim, ◌∙◌, ap, sym, refl, ℕ, ◌==◌, List, [], ◌∷◌, ◌++◌, Bool, true, false, Option, Some, None, arith}
use Rattle.std.proofs.lemmas.Bool.Decides.{nat_tests}
use Rattle.p8_desk.specs.declared.rule.Known.{Known}
use Rattle.p8_ledger.specs.Records.{Record}
use Rattle.p8_desk.specs.Rules.{known, change, of_same_cog, without, list_of, seen_as, all_seen}

pub some-same : {A : Type 0} (a b : A) → Some a ≡ Some b → a ≡ b
some-same a b e = cc

pub none-some : {A : Type 0} (a : A) → None ≡ Some a → ⊥
none-some a e = cc

pub some-none : {A : Type 0} (a : A) → Some a ≡ None → ⊥
some-none a e = cc

pub same-by-test : (a b : ℕ) → (a == b) ≡ true → a ≡ b
same-by-test a b e = grind (arith, nat_tests)

pub apart-by-test : (a b : ℕ) → (a == b) ≡ false → a ≢ b
apart-by-test a b e h = grind (arith, nat_tests)

pub test-same : (a b : ℕ) → a ≡ b → (a == b) ≡ true
test-same a b e = grind (arith, nat_tests)

pub test-apart : (a b : ℕ) → a ≢ b → (a == b) ≡ false
test-apart a b e = grind (arith, nat_tests)

pub known-cog : (ps : List Known) (n : ℕ) (p : Known) → known ps n ≡ Some p → p.cog ≡ n
known-cog [] n p e = absurd (none-some p e)
known-cog (x ∷ ps) n p e = by-test (known-cog ps n p) (x.cog == n) refl
  where
    by-test : (known ps n ≡ Some p → p.cog ≡ n) → (b : Bool) → (x.cog == n) ≡ b → p.cog ≡ n
    by-test more true t = ap (λ (k : Known). k.cog) (sym (some-same _ _ (rw t at e))) ∙ same-by-test _ _ t
    by-test more false t = more (rw t at e)

module _ (n : ℕ) (f : Known → Known) where
  -- an entry after a change is the changed one, or it is another cog's
  abbrev Was : List Known → ℕ → Known → Type 0
  Was ps m q = ((m ≡ n) × (p : Known) × (known ps n ≡ Some p) × (of_same_cog p (f p) ≡ q)) ⊎ ((m ≢ n) × (known ps m ≡ Some q))

  pub known-after : (ps : List Known) (m : ℕ) (q : Known) → known (change n f ps) m ≡ Some q
      → ((m ≡ n) × (p : Known) × (known ps n ≡ Some p) × (of_same_cog p (f p) ≡ q)) ⊎ ((m ≢ n) × (known ps m ≡ Some q))
  known-after [] m q e = absurd (none-some q e)
  known-after (p ∷ ps) m q e = by-tests (known-after ps m q) (p.cog == n) refl (p.cog == m) refl
    where
      by-tests : (known (change n f ps) m ≡ Some q → Was ps m q) → (b : Bool) → (p.cog == n) ≡ b → (c : Bool) → (p.cog == m) ≡ c → Was (p ∷ ps) m q
      by-tests more true here true there =
          inl (sym (same-by-test _ _ there) ∙ same-by-test _ _ here, p, rw here refl, some-same _ _ (rw (here, there) at e))
      by-tests more true here false there =
          let apart : m ≢ n = λ s. apart-by-test _ _ there (same-by-test _ _ here ∙ sym s) in
          elim (more (rw (here, there) at e)) [ inl x ↦ absurd (apart x.0) | inr x ↦ inr (apart, rw there x.1) ]
      by-tests more false here true there =
          inr ((λ s. apart-by-test _ _ here (same-by-test _ _ there ∙ s)), rw there (rw (here, there) at e))
      by-tests more false here false there =
          elim (more (rw (here, there) at e)) [ inl x ↦ inl (x.0, x.1, rw here x.2, x.3) | inr x ↦ inr (x.0, rw there x.1) ]

  pub known-changed : (ps : List Known) (p : Known) → known ps n ≡ Some p → known (change n f ps) n ≡ Some (of_same_cog p (f p))
  known-changed [] p e = absurd (none-some p e)
  known-changed (x ∷ ps) p e = by-test (known-changed ps p) (x.cog == n) refl
    where
      by-test : (known ps n ≡ Some p → known (change n f ps) n ≡ Some (of_same_cog p (f p))) → (b : Bool) → (x.cog == n) ≡ b → known (change n f (x ∷ ps)) n ≡ Some (of_same_cog p (f p))
      by-test more true t = rw (t, t) (ap (λ (y : Known). Some (of_same_cog y (f y))) (some-same _ _ (rw t at e)))
      by-test more false t = rw (t, t) (more (rw t at e))

  pub known-beside : (ps : List Known) (m : ℕ) → m ≢ n → known (change n f ps) m ≡ known ps m
  known-beside [] m ne = refl
  known-beside (x ∷ ps) m ne = by-tests (known-beside ps m ne) (x.cog == n) refl (x.cog == m) refl
    where
      by-tests : known (change n f ps) m ≡ known ps m → (b : Bool) → (x.cog == n) ≡ b → (c : Bool) → (x.cog == m) ≡ c → known (change n f (x ∷ ps)) m ≡ known (x ∷ ps) m
      by-tests more true here true there = absurd (ne (sym (same-by-test _ _ there) ∙ same-by-test _ _ here))
      by-tests more true here false there = rw (here, there) more
      by-tests more false here true there = rw (here, there) refl
      by-tests more false here false there = rw (here, there) more

-- an entry of passes that have all seen a record
module _ (r : Record) where
  pub known-all-seen : (ps : List Known) (n : ℕ) (p : Known) → known ps n ≡ Some p → known (all_seen r ps) n ≡ Some (seen_as r p)
  known-all-seen [] n p e = absurd (none-some p e)
  known-all-seen (x ∷ ps) n p e = by-test (known-all-seen ps n p) (x.cog == n) refl
    where
      by-test : (known ps n ≡ Some p → known (all_seen r ps) n ≡ Some (seen_as r p)) → (b : Bool) → (x.cog == n) ≡ b → known (all_seen r (x ∷ ps)) n ≡ Some (seen_as r p)
      by-test more true t = rw t (ap (λ (y : Known). Some (seen_as r y)) (some-same _ _ (rw t at e)))
      by-test more false t = rw t (more (rw t at e))

  pub known-seen : (ps : List Known) (n : ℕ) (q : Known) → known (all_seen r ps) n ≡ Some q → (p : Known) × (known ps n ≡ Some p) × (seen_as r p ≡ q)
  known-seen [] n q e = absurd (none-some q e)
  known-seen (x ∷ ps) n q e = by-test (known-seen ps n q) (x.cog == n) refl
    where
      by-test : (known (all_seen r ps) n ≡ Some q → (p : Known) × (known ps n ≡ Some p) × (seen_as r p ≡ q)) → (b : Bool) → (x.cog == n) ≡ b → (p : Known) × (known (x ∷ ps) n ≡ Some p) × (seen_as r p ≡ q)
      by-test more true t = (x, rw t refl, some-same _ _ (rw t at e))
      by-test more false t = (let y = more (rw t at e) in (y.0, rw t y.1, y.2))

  pub none-seen : (ps : List Known) (n : ℕ) → known ps n ≡ None → known (all_seen r ps) n ≡ None
  none-seen [] n e = refl
  none-seen (x ∷ ps) n e = by-test (none-seen ps n) (x.cog == n) refl
    where
      by-test : (known ps n ≡ None → known (all_seen r ps) n ≡ None) → (b : Bool) → (x.cog == n) ≡ b → known (all_seen r (x ∷ ps)) n ≡ None
      by-test more true t = absurd (some-none x (rw t at e))
      by-test more false t = rw t (more (rw t at e))

pub known-without : (n : ℕ) (ps : List Known) (m : ℕ) (q : Known) → known (without n ps) m ≡ Some q → (m ≢ n) × (known ps m ≡ Some q)
known-without n [] m q e = absurd (none-some q e)
known-without n (p ∷ ps) m q e = by-tests (known-without n ps m q) (p.cog == n) refl (p.cog == m) refl
  where
    by-tests : (known (without n ps) m ≡ Some q → (m ≢ n) × (known ps m ≡ Some q)) → (b : Bool) → (p.cog == n) ≡ b → (c : Bool) → (p.cog == m) ≡ c → (m ≢ n) × (known (p ∷ ps) m ≡ Some q)
    by-tests more true here true there = let r = more (rw here at e) in absurd (r.0 (sym (same-by-test _ _ there) ∙ same-by-test _ _ here))
    by-tests more true here false there = let r = more (rw here at e) in (r.0, rw there r.1)
    by-tests more false here true there = ((λ s. apart-by-test _ _ here (same-by-test _ _ there ∙ s)), rw there (rw (here, there) at e))
    by-tests more false here false there = let r = more (rw (here, there) at e) in (r.0, rw there r.1)

-- of two lists one has it
pub known-of-two : (ps qs : List Known) (m : ℕ) (q : Known) → known (ps ++ qs) m ≡ Some q → (known ps m ≡ Some q) ⊎ (known qs m ≡ Some q)
known-of-two [] qs m q e = inr e
known-of-two (p ∷ ps) qs m q e = by-test (known-of-two ps qs m q) (p.cog == m) refl
  where
    by-test : (known (ps ++ qs) m ≡ Some q → (known ps m ≡ Some q) ⊎ (known qs m ≡ Some q)) → (b : Bool) → (p.cog == m) ≡ b → (known (p ∷ ps) m ≡ Some q) ⊎ (known qs m ≡ Some q)
    by-test more true t = inl (rw t (rw t at e))
    by-test more false t = ⊎_elim (λ x. inl (rw t x)) (λ x. inr x) (more (rw t at e))

pub known-left : (ps qs : List Known) (n : ℕ) (p : Known) → known ps n ≡ Some p → known (ps ++ qs) n ≡ Some p
known-left [] qs n p e = absurd (none-some p e)
known-left (x ∷ ps) qs n p e = by-test (known-left ps qs n p) (x.cog == n) refl
  where
    by-test : (known ps n ≡ Some p → known (ps ++ qs) n ≡ Some p) → (b : Bool) → (x.cog == n) ≡ b → known ((x ∷ ps) ++ qs) n ≡ Some p
    by-test more true t = rw t (rw t at e)
    by-test more false t = rw t (more (rw t at e))

pub known-right : (ps qs : List Known) (n : ℕ) → known ps n ≡ None → known (ps ++ qs) n ≡ known qs n
known-right [] qs n e = refl
known-right (x ∷ ps) qs n e = by-test (known-right ps qs n) (x.cog == n) refl
  where
    by-test : (known ps n ≡ None → known (ps ++ qs) n ≡ known qs n) → (b : Bool) → (x.cog == n) ≡ b → known ((x ∷ ps) ++ qs) n ≡ known qs n
    by-test more true t = absurd (some-none x (rw t at e))
    by-test more false t = rw t (more (rw t at e))

pub known-kept : (n : ℕ) (ps : List Known) (m : ℕ) → m ≢ n → known (without n ps) m ≡ known ps m
known-kept n [] m ne = refl
known-kept n (p ∷ ps) m ne = by-tests (known-kept n ps m ne) (p.cog == n) refl (p.cog == m) refl
  where
    by-tests : known (without n ps) m ≡ known ps m → (b : Bool) → (p.cog == n) ≡ b → (c : Bool) → (p.cog == m) ≡ c → known (without n (p ∷ ps)) m ≡ known (p ∷ ps) m
    by-tests more true here true there = absurd (ne (sym (same-by-test _ _ there) ∙ same-by-test _ _ here))
    by-tests more true here false there = rw (here, there) more
    by-tests more false here true there = rw (here, there) refl
    by-tests more false here false there = rw (here, there) more

-- a cog's pass alone
pub known-alone : (ps : List Known) (n : ℕ) (p : Known) → known ps n ≡ Some p → known (list_of (known ps n)) n ≡ Some p
known-alone ps n p e = ap (λ (o : Option Known). known (list_of o) n) e ∙ rw (test-same p.cog n (known-cog ps n p e)) refl

pub none-beside : (ps : List Known) (n : ℕ) (p : Known) (m : ℕ) → known ps n ≡ Some p → m ≢ n → known (list_of (known ps n)) m ≡ None
none-beside ps n p m e ne = ap (λ (o : Option Known). known (list_of o) m) e ∙ rw (test-apart p.cog m (λ c. ne (sym c ∙ known-cog ps n p e))) refl
