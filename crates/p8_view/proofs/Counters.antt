-- The counter of a turn stands among those of a history at the number of the turns before it.
use Rattle.std.proofs.Common.{◌≡◌, ◌∙◌, refl, sym, ap, subst, ℕ, suc, Option, List, [], ◌∷◌, ◌++◌, append_assoc, length, reverse, slice_get, Some}
use Rattle.std.proofs.lemmas.List.{reverse-append, reverse-reverse, length-reverse}
use Rattle.p8_access.specs.declared.order.Turn.{Turn}
use Rattle.p8_access.specs.Worlds.{World}
use Rattle.p8_access.specs.Hub.{cog_state}
use Rattle.p8_machine.specs.Counted.{IsCounterIn, AreCounters}
use Rattle.p8_view.specs.View.{counter_of, counter_or}

-- the counters of later turns, of one, and of those before it
record IsParted (w : World) (turn : Turn) (past : List Turn) (all : List (Option ℕ)) : Type 0 where
  front : List (Option ℕ)
  counter : Option ℕ
  rest : List (Option ℕ)
  is : all ≡ front ++ counter ∷ rest
  own : IsCounterIn w past turn.key.cog (cog_state w past turn.key.cog) counter
  many : length rest ≡ length past

as-many : (w : World) (past : List Turn) (all : List (Option ℕ)) → AreCounters w past all → length all ≡ length past
as-many w [] [] are = refl
as-many w [] (c ∷ cs) are = absurd are
as-many w (turn ∷ past) [] are = absurd are
as-many w (turn ∷ past) (c ∷ cs) are = ap suc (as-many w past cs are.1)

parted : (w : World) (later : List Turn) (turn : Turn) (past : List Turn) (all : List (Option ℕ)) → AreCounters w (later ++ turn ∷ past) all → IsParted w turn past all
parted w [] turn past [] are = absurd are
parted w [] turn past (c ∷ cs) are = record { front = []; counter = c; rest = cs; is = refl; own = are.0; many = as-many w past cs are.1 }
parted w (t ∷ later) turn past [] are = absurd are
parted w (t ∷ later) turn past (c ∷ cs) are =
    let h = parted w later turn past cs are.1 in
    record { front = c ∷ h.front; counter = h.counter; rest = h.rest; is = ap (λ (xs : List (Option ℕ)). c ∷ xs) h.is; own = h.own; many = h.many }

at-length : (xs ys : List (Option ℕ)) (c : Option ℕ) → slice_get (xs ++ c ∷ ys) (length xs) ≡ Some c
at-length [] ys c = refl
at-length (x ∷ xs) ys c = at-length xs ys c

-- what is reversed ends with those of the front
turned : (front rest : List (Option ℕ)) (c : Option ℕ) → reverse (front ++ c ∷ rest) ≡ reverse rest ++ c ∷ reverse front
turned front rest c =
    reverse-append front (c ∷ rest)
    ∙ ap (λ (xs : List (Option ℕ)). xs ++ reverse front) (reverse-append (c ∷ []) rest)
    ∙ append_assoc (reverse rest) (c ∷ []) (reverse front)

pub counter-is : (w : World) (history : List Turn) (counters : List (Option ℕ)) → AreCounters w history (reverse counters) → (later : List Turn) (turn : Turn) (past : List Turn) → history ≡ later ++ turn ∷ past
    → IsCounterIn w past turn.key.cog (cog_state w past turn.key.cog) (counter_of counters (length past))
counter-is w history counters are later turn past is =
    let h = parted w later turn past (reverse counters) (subst (λ (xs : List Turn). AreCounters w xs (reverse counters)) is are) in
    let all : counters ≡ reverse h.rest ++ h.counter ∷ reverse h.front = sym (reverse-reverse counters) ∙ ap reverse h.is ∙ turned h.front h.rest h.counter in
    let place : length past ≡ length (reverse h.rest) = sym (length-reverse h.rest ∙ h.many) in
    let at : slice_get counters (length past) ≡ Some h.counter = ap (λ (xs : List (Option ℕ)). slice_get xs (length past)) all ∙ ap (slice_get (reverse h.rest ++ h.counter ∷ reverse h.front)) place ∙ at-length (reverse h.rest) (reverse h.front) h.counter in
    subst (IsCounterIn w past turn.key.cog (cog_state w past turn.key.cog)) (sym (ap counter_or at)) h.own
