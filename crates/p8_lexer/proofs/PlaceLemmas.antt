-- The place of one character after another.
use Rattle.std.proofs.Common.{◌≡◌, ℕ, zero, suc, ◌+◌, ◌-◌, ◌*◌, ◌/◌, ◌<◌, ◌≤◌, Bool, true, false, List, [], ◌∷◌, ◌++◌, length, take, get_or, refl, sym, ap, ◌∙◌, subst, arith}
use Rattle.std.specs.Prelude.{◌==◌, if◌then◌else◌}
use Rattle.std.proofs.lemmas.Bool.Decides.{nat_tests}
use Rattle.std.proofs.lemmas.List.{take_more, length-take-le}
use Rattle.p8_tree.specs.declared.places.Place.{Place}
use Rattle.p8_lexer.specs.Places.{start, behind, place_behind, place_of}

-- the last of some characters, or the one that stood before them
last : ℕ → List ℕ → ℕ
last before [] = before
last before (c ∷ cs) = last c cs

place_push : (before : ℕ) (p : Place) (cs : List ℕ) (c : ℕ) → place_behind before p (cs ++ c ∷ []) ≡ behind (last before cs) (place_behind before p cs) c
unfolding last
place_push before p [] c = refl
place_push before p (x ∷ cs) c = place_push x (behind before p x) cs c

last_push : (before : ℕ) (cs : List ℕ) (c : ℕ) → last before (cs ++ c ∷ []) ≡ c
unfolding last
last_push before [] c = refl
last_push before (x ∷ cs) c = last_push x cs c

-- the character before the one of this number, or 0 where it's the first
abbrev pub before_at : List ℕ → ℕ → ℕ
before_at text i = if i == 0 then 0 else get_or text (i - 1) 0

last_is : (text : List ℕ) (i : ℕ) → i ≤ length text → last 0 (take i text) ≡ before_at text i
unfolding last
last_is text zero h = refl
last_is text (suc i) h =
    let e : i + 1 ≡ suc i = omega arith in
    let f : suc i - 1 ≡ i = omega arith in
    let n : (suc i == 0) ≡ false = grind (arith, nat_tests) in
    ap (λ n. last 0 (take n text)) (sym e) ∙ ap (last 0) (take_more text i 0 (omega arith)) ∙ last_push 0 (take i text) (get_or text i 0) ∙ ap (λ n. get_or text n 0) (sym f)
    ∙ ap (λ b. if b then 0 else get_or text (suc i - 1) 0) (sym n)

pub place_more : (text : List ℕ) (i before : ℕ) (p q : Place) → i < length text → before ≡ before_at text i → p ≡ place_of text i → q ≡ behind before p (get_or text i 0) → q ≡ place_of text (i + 1)
place_more text i before p q lt b h e =
    let l = last_is text i (omega arith) in
    e ∙ ap (λ p. behind before p (get_or text i 0)) h ∙ ap (λ b. behind b (place_of text i) (get_or text i 0)) (b ∙ sym l) ∙ sym (place_push 0 start (take i text) (get_or text i 0)) ∙ ap (place_behind 0 start) (sym (take_more text i 0 lt))

pub before_more : (text : List ℕ) (i c : ℕ) → c ≡ get_or text i 0 → c ≡ before_at text (i + 1)
before_more text i c e =
    let f : i + 1 - 1 ≡ i = omega arith in
    let n : (i + 1 == 0) ≡ false = grind (arith, nat_tests) in
    e ∙ ap (λ n. get_or text n 0) (sym f) ∙ ap (λ b. if b then 0 else get_or text (i + 1 - 1) 0) (sym n)

-- how far a place can have come
record Within (n : ℕ) (p : Place) : Type 0 where
  line : p.line ≤ n + 1
  counted : 1 ≤ p.column
  column : p.column ≤ 8 * n + 1

step_within : (n before : ℕ) (p : Place) (c : ℕ) → Within n p → Within (n + 1) (behind before p c)
step_within n before p c w = go (c == 10) (before == 13) (c == 13) (c == 9)
  where
    go : (a b d e : Bool) → Within (n + 1) (if a then (if b then p else record { line = p.line + 1; column = 1 }) else (if d then record { line = p.line + 1; column = 1 } else (if e then record { line = p.line; column = 8 * ((p.column - 1) / 8) + 9 } else record { line = p.line; column = p.column + 1 })))
    go true true d e = record { line = omega (arith, w.line); counted = w.counted; column = omega (arith, w.column) }
    go true false d e = record { line = omega (arith, w.line); counted = omega arith; column = omega arith }
    go false b true e = record { line = omega (arith, w.line); counted = omega arith; column = omega arith }
    go false b false true = record { line = omega (arith, w.line); counted = omega arith; column = omega (arith, w.column) }
    go false b false false = record { line = omega (arith, w.line); counted = omega arith; column = omega (arith, w.column) }

fold_within : (cs : List ℕ) (n before : ℕ) (p : Place) → Within n p → Within (n + length cs) (place_behind before p cs)
fold_within [] n before p w = subst (λ m. Within m p) (let e : n ≡ n + 0 = omega arith in e) w
fold_within (c ∷ cs) n before p w = subst (λ m. Within m (place_behind c (behind before p c) cs)) (let e : n + 1 + length cs ≡ n + suc (length cs) = omega arith in e) (fold_within cs (n + 1) c (behind before p c) (step_within n before p c w))

place_within : (text : List ℕ) (n : ℕ) → n ≤ length text → Within n (place_of text n)
place_within text n h = subst (λ m. Within m (place_of text n)) (let e : 0 + length (take n text) ≡ n = omega (arith, length-take-le n text h) in e) (fold_within (take n text) 0 0 start (record { line = omega arith; counted = omega arith; column = omega arith }))

pub line_small : (text : List ℕ) (n : ℕ) (p : Place) → n ≤ length text → p ≡ place_of text n → p.line ≤ n + 1
line_small text n p h e = omega (arith, ap (λ (p : Place). p.line) e, (place_within text n h).line)

pub column_counted : (text : List ℕ) (n : ℕ) (p : Place) → n ≤ length text → p ≡ place_of text n → 1 ≤ p.column
column_counted text n p h e = omega (arith, ap (λ (p : Place). p.column) e, (place_within text n h).counted)

pub column_small : (text : List ℕ) (n : ℕ) (p : Place) → n ≤ length text → p ≡ place_of text n → p.column ≤ 8 * n + 1
column_small text n p h e = omega (arith, ap (λ (p : Place). p.column) e, (place_within text n h).column)
