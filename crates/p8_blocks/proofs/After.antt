-- What is asked of each of some lines, after those before it, and the open blocks there.
use Rattle.std.proofs.Common.{◌≡◌, ℕ, ◌≤◌, List, [], ◌∷◌, ◌++◌, refl, sym, subst, append_assoc, append-nil}
use Rattle.p8_columns.specs.Lines.{Line}
use Rattle.p8_columns.specs.Blocks.{Bound, May, Contents}
use Rattle.p8_columns.specs.Reader.{Frame, state}
use Rattle.p8_columns.proofs.Made.{fresh, Made}
use Rattle.p8_columns.proofs.Standing.{top, base, Pending, Closed, Seen, sees}

abbrev pub After : (List Line → Line → Type 0) → List Line → List Line → Type 0
After P before [] = Unit {0}
After P before (l ∷ later) = P before l × After P (before ++ l ∷ []) later

pub after_append : (P : List Line → Line → Type 0) (before xs ys : List Line) → After P before xs → After P (before ++ xs) ys → After P before (xs ++ ys)
after_append P before [] ys h g = subst (λ b. After P b ys) (append-nil before) g
after_append P before (x ∷ xs) ys h g = (h.0, after_append P (before ++ x ∷ []) xs ys h.1 (subst (λ b. After P b ys) (sym (append_assoc before (x ∷ []) xs)) g))

pub after_first : (P : List Line → Line → Type 0) (before xs ys : List Line) → After P before (xs ++ ys) → After P before xs
after_first P before [] ys h = tt
after_first P before (x ∷ xs) ys h = (h.0, after_first P (before ++ x ∷ []) xs ys h.1)

pub after_rest : (P : List Line → Line → Type 0) (before xs ys : List Line) → After P before (xs ++ ys) → After P (before ++ xs) ys
after_rest P before [] ys h = subst (λ b. After P b ys) (sym (append-nil before)) h
after_rest P before (x ∷ xs) ys h = subst (λ b. After P b ys) (append_assoc before (x ∷ []) xs) (after_rest P (before ++ x ∷ []) xs ys h.1)

-- one line more
pub after_more : (P : List Line → Line → Type 0) (ls : List Line) (l : Line) → After P [] ls → P ls l → After P [] (ls ++ l ∷ [])
after_more P ls l h g = after_append P [] ls (l ∷ []) h (g, tt)

-- the blocks that are open where a line may stand next
pub seen_next : {b : Bound} {x : Contents} {ls : List Line} (k : List Frame) (us : List Line) (c : ℕ) → Pending k us → Made (top k) b x ls → fresh x ≡ base k → May c b → top k ≤ c → Seen c k ls (us ++ ls)
seen_next {b} {x} {ls} k us c w m s may le =
    let z : Closed c (state x k) (us ++ ls) = record { b = b; may = may; stands = record { us = us; vs = ls; pending = w; made = m; sort = s; is = refl }; below = le } in
    sees c (state x k) (us ++ ls) z
