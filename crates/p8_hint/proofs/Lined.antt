-- The lines of a text, one character after the other.
use Rattle.std.proofs.Common.{◌≡◌, ℕ, zero, suc, ◌+◌, ◌-◌, ◌<◌, ◌≤◌, ◌==◌, Bool, true, false, if◌then◌else◌, List, [], ◌∷◌, ◌++◌, length, Some, None, inl, inr, Vec, refl, ap, ap₂, sym, ◌∙◌, append_assoc, append-nil, arith}
use Rattle.std.proofs.Math.Dec.{eqb-zero-suc, eqb-suc-zero}
use Rattle.std.proofs.lemmas.Bool.{cases_Bool, eq-eqb, eqb-true, eqb-false, false_from_ne_true, ltb-true, ltb-false}
use Rattle.std.proofs.lemmas.Option.{none-some, same_Some}
use Rattle.std.proofs.lemmas.List.{length-append}
use Rattle.std.specs.Prelude.{slice_get, nat_lt}
use Rattle.std.specs.declared.alloc.Global.{Global}
use Rattle.p8_tree.specs.declared.places.Place.{Place}
use Rattle.p8_lexer.specs.Places.{behind, start, next_line, next_column, next_tab}
use Rattle.p8_explain.specs.Explaining.{cell, line_from}
use Rattle.p8_hint.specs.declared.lines.Lines.{Lines}
use Rattle.p8_hint.specs.Shown.{items_of, line_in, shown_line, IsEnded}

-- two tests of numbers that come to the same
test_same : (a b c d : ℕ) → (a ≡ b → c ≡ d) → (c ≡ d → a ≡ b) → (a == b) ≡ (c == d)
test_same a b c d to from =
    elim (cases_Bool (a == b)) [
      | inl alike ↦ alike ∙ sym (eq-eqb c d (to (eqb-true a b alike)))
      | inr apart ↦ apart ∙ sym (false_from_ne_true (c == d) (λ so. eqb-false a b apart (from (eqb-true c d so))))
    ]

same_suc : (a b : ℕ) → (a == b) ≡ (suc a == suc b)
same_suc a b = test_same a b (suc a) (suc b) (λ e. ap suc e) (λ e. omega (arith, e))

same_number : (k n : ℕ) → ((k + 1) == (n + 1)) ≡ (k == n)
same_number k n = test_same (k + 1) (n + 1) k n (λ e. omega (arith, e)) (λ e. omega (arith, e))

-- characters at the end of the last line
pub more_at_last : (ls : List (List ℕ)) (last x : List ℕ) (n : ℕ) → line_in ls (last ++ x) n ≡ line_in ls last n ++ (if length ls == n then x else [])
more_at_last [] last x zero = refl
more_at_last [] last x (suc n) = ap (λ b. if b then x else []) (sym (eqb-zero-suc n))
more_at_last (l ∷ ls) last x zero = sym (append-nil l) ∙ ap (λ b. l ++ (if b then x else [])) (sym (eqb-suc-zero (length ls)))
more_at_last (l ∷ ls) last x (suc n) = more_at_last ls last x n ∙ ap (λ b. line_in ls last n ++ (if b then x else [])) (same_suc (length ls) n)

-- a last line that is ended
pub ended_line : (ls : List (List ℕ)) (last : List ℕ) (n : ℕ) → line_in (ls ++ last ∷ []) [] n ≡ line_in ls last n
ended_line [] last zero = refl
ended_line [] last (suc zero) = refl
ended_line [] last (suc (suc n)) = refl
ended_line (l ∷ ls) last zero = refl
ended_line (l ∷ ls) last (suc n) = ended_line ls last n

-- the lines stay what they are, however the last one is kept
pub ended_or_not : (b : Bool) (old new : Lines) → IsEnded b old new → (n : ℕ) → line_in (items_of new.lines.items) new.last.items n ≡ line_in (items_of old.lines.items) old.last.items n
ended_or_not true old new e n = ap₂ (λ ls last. line_in ls last n) e.0 e.1 ∙ ended_line (items_of old.lines.items) old.last.items n
ended_or_not false old new e n = ap₂ (λ ls last. line_in ls last n) e.0 e.1

-- a line inside, and the last one or one past the end
pub line_inside : (vs : List (Vec ℕ Global)) (last : List ℕ) (n : ℕ) (v : Vec ℕ Global) → slice_get vs n ≡ Some v → line_in (items_of vs) last n ≡ v.items
line_inside [] last n v e = absurd (none-some v e)
line_inside (w ∷ vs) last zero v e = ap (λ (x : Vec ℕ Global). x.items) (same_Some w v e)
line_inside (w ∷ vs) last (suc n) v e = line_inside vs last n v e

pub line_else : (vs : List (Vec ℕ Global)) (last : List ℕ) (n : ℕ) → slice_get vs n ≡ None → (if n == length vs then last else []) ≡ line_in (items_of vs) last n
line_else [] last zero e = refl
line_else [] last (suc n) e = ap (λ b. if b then last else []) (eqb-suc-zero n)
line_else (w ∷ vs) last zero e = absurd (none-some w (sym e))
line_else (w ∷ vs) last (suc n) e = ap (λ b. if b then last else []) (sym (same_suc n (length vs))) ∙ line_else vs last n e

-- places

at_least : (a b d e : Bool) (p : Place) → p.line ≤ (if a then (if b then p else next_line p) else (if d then next_line p else (if e then next_tab p else next_column p))).line
at_least true true d e p = omega arith
at_least true false d e p = omega arith
at_least false b true e p = omega arith
at_least false b false true p = omega arith
at_least false b false false p = omega arith

pub behind_line : (before : ℕ) (p : Place) (c : ℕ) → p.line ≤ (behind before p c).line
behind_line before p c = at_least (c == 10) (before == 13) (c == 13) (c == 9) p

-- how many lines are over
pub lines_over : (b : Bool) (old new : Lines) (line next : ℕ) → IsEnded b old new → b ≡ nat_lt line next → line ≤ next → next ≤ line + 1 → line ≡ length (items_of old.lines.items) + 1 → next ≡ length (items_of new.lines.items) + 1
lines_over true old new line next e is l m before =
    let longer : length (items_of new.lines.items) ≡ length (items_of old.lines.items) + 1 = ap length e.0 ∙ length-append (items_of old.lines.items) (old.last.items ∷ []) in
    let further : line < next = ltb-true line next (sym is) in
    omega (arith, longer, further, m, before)
lines_over false old new line next e is l m before =
    let same : length (items_of new.lines.items) ≡ length (items_of old.lines.items) = ap length e.0 in
    let as_far : next ≤ line = ltb-false line next (sym is) in
    omega (arith, same, as_far, l, before)

-- one character more
pub line_next : (ls : List (List ℕ)) (last : List ℕ) (text whole : List ℕ) (before : ℕ) (p : Place) (c n : ℕ) → p.line ≡ length ls + 1
    → line_in ls last n ++ line_from (n + 1) before p (c ∷ text) ≡ whole
    → line_in ls (last ++ cell p c) n ++ line_from (n + 1) c (behind before p c) text ≡ whole
line_next ls last text whole before p c n at is =
    let rest = line_from (n + 1) c (behind before p c) text in
    let here : (length ls == n) ≡ (p.line == (n + 1)) = sym (same_number (length ls) n) ∙ ap (λ (k : ℕ). k == (n + 1)) (sym at) in
    ap (λ m. m ++ rest) (more_at_last ls last (cell p c) n) ∙ append_assoc (line_in ls last n) (if length ls == n then cell p c else []) rest
    ∙ ap (λ b. line_in ls last n ++ ((if b then cell p c else []) ++ rest)) here ∙ is

-- a line by its number, counted from 1
pub shown_is : (lines : Lines) (n : ℕ) → 0 < n → line_in (items_of lines.lines.items) lines.last.items (n - 1) ≡ shown_line lines n
shown_is lines zero l = absurd (omega arith)
shown_is lines (suc n) l = ap (line_in (items_of lines.lines.items) lines.last.items) (let same : suc n - 1 ≡ n = omega arith in same)

-- no character stands in line 0
no_line : (k : ℕ) → 1 ≤ k → (k == 0) ≡ false
no_line k l = false_from_ne_true (k == 0) (λ so. let none = eqb-true k 0 so in absurd (omega (arith, none, l)))

none_at_zero : (before : ℕ) (p : Place) (text : List ℕ) → 1 ≤ p.line → line_from 0 before p text ≡ []
none_at_zero before p [] l = refl
none_at_zero before p (c ∷ cs) l =
    ap (λ b. (if b then cell p c else []) ++ line_from 0 c (behind before p c) cs) (no_line p.line l) ∙ none_at_zero c (behind before p c) cs (omega (arith, l, behind_line before p c))

-- all lines, by their numbers counted from 1
pub lines_done : (lines : Lines) (text : List ℕ) → ((n : ℕ) → line_in (items_of lines.lines.items) lines.last.items n ≡ line_from (n + 1) 0 start text) → (line : ℕ) → shown_line lines line ≡ line_from line 0 start text
lines_done lines text h zero = sym (none_at_zero 0 start text (omega arith))
lines_done lines text h (suc n) = h n ∙ ap (λ (k : ℕ). line_from k 0 start text) (let same : n + 1 ≡ suc n = omega arith in same)

pub not_zero : (n : ℕ) → (n ≡ 0 → ⊥) → 0 < n
not_zero zero h = absurd (h refl)
not_zero (suc n) h = omega arith
