-- Where the search for a word may begin.
use Rattle.std.proofs.Common.{◌≡◌, ◌∙◌, ℕ, zero, suc, ◌+◌, ◌-◌, ◌*◌, ◌/◌, ◌<◌, ◌≤◌, ◌⊎◌, inl, inr, Bool, true, false, List, [], ◌∷◌, ◌++◌, length, drop, get_or, slice_get, Some, refl, sym, ap, subst, arith}
use Rattle.std.specs.Prelude.{◌==◌, ◌&&◌, if◌then◌else◌}
use Rattle.std.proofs.lemmas.Bool.Decides.{nat_tests}
use Rattle.std.proofs.lemmas.List.{drop_more}
use Rattle.std.proofs.lemmas.Option.{same_Some, slice_get_read, slice_get_within}
use Rattle.p8_tree.specs.declared.places.Place.{Place}
use Rattle.p8_tree.specs.Places.{PlaceBefore}
use Rattle.p8_lexer.specs.Lexing.{is_letter}
use Rattle.p8_lexer.specs.Places.{start, behind}
use Rattle.p8_lexer.specs.declared.spelling.Checkpoint.{Checkpoint}
use Rattle.p8_lexer.specs.Marks.{AreMarks, IsMark, LeadsTo}
use Rattle.p8_lexer.specs.Spelling.{begins_at, word_at}

-- the mark of this number
pub mark-at : (text : List ℕ) (marks : List Checkpoint) → AreMarks text marks → (i : ℕ) (m : Checkpoint) → slice_get marks i ≡ Some m → IsMark text m
mark-at text [] are i m at = let within = slice_get_within [] i m at in absurd (omega (arith, within))
mark-at text (x ∷ marks) are zero m at = subst (IsMark text) (same_Some x m at) are.0
mark-at text (x ∷ marks) are (suc i) m at = mark-at text marks are.1 i m at

-- the mark where a text begins
pub first-leads : (text : List ℕ) (place : Place) → LeadsTo text place (record { at = 0; before = 0; place = start })
first-leads [] place = refl
first-leads (c ∷ text) place = refl

pub first-mark : (text : List ℕ) → IsMark text (record { at = 0; before = 0; place = start })
first-mark text = ((omega arith, omega arith, omega arith, omega arith), λ place later. first-leads text place)

-- one more behind the others
and-one : (text : List ℕ) (marks : List Checkpoint) (m : Checkpoint) → AreMarks text marks → IsMark text m → AreMarks text (marks ++ m ∷ [])
and-one text [] m are is = (is, tt)
and-one text (x ∷ marks) m are is = (are.0, and-one text marks m are.1 is)

pub one-more : (text : List ℕ) (marks new : List Checkpoint) (m : Checkpoint) (own : Bool) → AreMarks text marks → IsMark text m → new ≡ marks ++ (if own then m ∷ [] else []) → AreMarks text new
one-more text marks new m true are is e = subst (AreMarks text) (sym e) (and-one text marks m are is)
one-more text marks new m false are is e = subst (AreMarks text) (sym (e ∙ nothing marks)) are
  where
    nothing : (marks : List Checkpoint) → marks ++ [] ≡ marks
    nothing [] = refl
    nothing (x ∷ marks) = ap (λ xs. x ∷ xs) (nothing marks)

-- ---- the next mark

-- a place at or before another one
abbrev IsUpTo : Place → Place → Type 0
IsUpTo p q = (p.line < q.line) ⊎ ((p.line ≡ q.line) × (p.column ≤ q.column))

-- no character goes back
onward : (before : ℕ) (p : Place) (c : ℕ) → 1 ≤ p.column → IsUpTo p (behind before p c)
onward before p c counted = go (c == 10) (before == 13) (c == 13) (c == 9)
  where
    go : (a b d e : Bool) → IsUpTo p (if a then (if b then p else record { line = p.line + 1; column = 1 }) else (if d then record { line = p.line + 1; column = 1 } else (if e then record { line = p.line; column = 8 * ((p.column - 1) / 8) + 9 } else record { line = p.line; column = p.column + 1 })))
    go true true d e = inr (refl, omega arith)
    go true false d e = inl (omega arith)
    go false b true e = inl (omega arith)
    go false b false true = inr (refl, omega (arith, counted))
    go false b false false = inr (refl, omega arith)

sooner : (p q r : Place) → IsUpTo p q → PlaceBefore q r → PlaceBefore p r
sooner p q r (inl l) (inl m) = inl (omega (arith, l, m))
sooner p q r (inl l) (inr m) = let e = m.0 in inl (omega (arith, l, e))
sooner p q r (inr l) (inl m) = let e = l.0 in inl (omega (arith, e, m))
sooner p q r (inr l) (inr m) = let d = l.1 in let e = m.1 in inr (l.0 ∙ m.0, omega (arith, d, e))

never : (b : Bool) → b && false ≡ false
never true = refl
never false = refl

less-not_same : (m n : ℕ) → m < n → (m == n) ≡ false
less-not_same m n h = grind (arith, nat_tests)

-- before a place nothing begins there
not-there : (place at : Place) (c : ℕ) → PlaceBefore at place → begins_at place at c ≡ false
not-there place at c (inl l) = ap (λ (b : Bool). b && ((at.column == place.column) && is_letter c)) (less-not_same at.line place.line l)
not-there place at c (inr l) = ap (λ (b : Bool). (at.line == place.line) && (b && is_letter c)) (less-not_same at.column place.column l.1) ∙ never (at.line == place.line)

pub leads-on : (text : List ℕ) (m : Checkpoint) (c : ℕ) → m.at < length text → 1 ≤ m.place.column → c ≡ get_or text m.at 0 → ((place : Place) → PlaceBefore m.place place → LeadsTo text place m)
    → (place : Place) → PlaceBefore (behind m.before m.place c) place → LeadsTo text place (record { at = m.at + 1; before = c; place = behind m.before m.place c })
leads-on text m c within counted is leads place later =
    let before = sooner m.place (behind m.before m.place c) place (onward m.before m.place c counted) later in
    let rest = drop (m.at + 1) text in
    leads place before
    ∙ ap (word_at place m.before m.place) (drop_more text m.at 0 within ∙ ap (λ d. d ∷ rest) (sym is))
    ∙ ap (λ (b : Bool). if b then c ∷ rest else word_at place c (behind m.before m.place c) rest) (not-there place m.place c before)

pub mark-in : (text own : List ℕ) (marks some : List Checkpoint) (i : ℕ) (m : Checkpoint) → own ≡ text → some ≡ marks → AreMarks own marks → i < length some → m ≡ get_or some i m → IsMark text m
mark-in text own marks some i m same are_same are within is =
    mark-at text some (subst (λ (t : List ℕ). AreMarks t some) same (subst (AreMarks own) (sym are_same) are)) i m (slice_get_read some (length some) i m refl within is)
