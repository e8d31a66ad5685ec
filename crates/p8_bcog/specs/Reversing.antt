-- internal: the first of some items, seen from the end. No public contract cites it.
use Rattle.std.proofs.Common.{◌≡◌, ℕ, ◌-◌, List, ◌++◌, length, take, drop, reverse, sym, ◌∙◌, ap, length-drop}
use Rattle.std.proofs.lemmas.List.{reverse-append, length-reverse, take-append-drop}
use Rattle.std.proofs.Math.Seq.{drop-append_seam}

pub reverse-take : {X : Type 0} (n : ℕ) (xs : List X) → reverse (take n xs) ≡ drop (length (reverse xs) - n) (reverse xs)
reverse-take n xs =
    let split : reverse (drop n xs) ++ reverse (take n xs) ≡ reverse xs = sym (reverse-append (take n xs) (drop n xs)) ∙ ap reverse (take-append-drop n xs) in
    let size : length (reverse (drop n xs)) ≡ length (reverse xs) - n = length-reverse (drop n xs) ∙ length-drop n xs ∙ ap (λ (k : ℕ). k - n)
    (sym (length-reverse xs)) in
    sym (drop-append_seam (reverse (drop n xs)) (reverse (take n xs)))
    ∙ ap (λ (k : ℕ). drop k (reverse (drop n xs) ++ reverse (take n xs))) size
    ∙ ap (λ ys. drop (length (reverse xs) - n) ys) split
