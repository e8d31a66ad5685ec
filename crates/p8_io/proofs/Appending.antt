-- One write after another.
use Rattle.std.proofs.Common.{◌≡◌, ◌∙◌, ap, sym, subst, ℕ, suc, ◌+◌, ◌<◌, ◌≤◌, min, List, ◌∷◌, ◌++◌, length, take, drop, get_or, Option, Some, None, Result, Ok, Err, IsErr, arith, inl, inr, append_assoc, drop-cons}
use Rattle.std.specs.List.{flat_map}
use Rattle.std.proofs.Math.Seq.{take-append-add}
use Rattle.std.proofs.lemmas.List.{take-append-drop}
use denote.Bor.{Bor}
use Rattle.std.proofs.lemmas.Grind.{common_steps, flat_map-append}
use Rattle.p8_io.specs.declared.sink.SinkFailed.{SinkFailed}
use Rattle.p8_io.specs.Counts.{Rose}
use Rattle.p8_io.specs.Sinks.{Appended, AppendedPrefix, Writes, Wrote}

rose-since : (a b c : ℕ) → a ≤ b → Rose b c → Rose a c
rose-since a b c le (inl l) = inl (omega arith)
rose-since a b c le (inr e) = inr e

appended-both : (t u v : Option (List ℕ)) (a b : List ℕ) → Appended t u a → Appended u v b → Appended t v (a ++ b)
appended-both None u v a b p q = subst (λ (o : Option (List ℕ)). Appended o v b) p q
appended-both (Some x) u v a b p q =
    let q' = subst (λ (o : Option (List ℕ)). Appended o v b) p q in
    q' ∙ ap Some (append_assoc x a b)

-- a prefix of b, which more may follow, after all of a
prefix-after : (t u v : Option (List ℕ)) (a b rest : List ℕ) → Appended t u a → AppendedPrefix u v b → AppendedPrefix t v (a ++ (b ++ rest))
prefix-after t u v a b rest p q =
    (length a + min q.0 (length b), rw (take-append-add a (b ++ rest) (min q.0 (length b))) (appended-both t u v a _ p (rw (same q.0) q.1)))
  where
    same : (n : ℕ) → take (min n (length b)) (b ++ rest) ≡ take n b
    same n = grind (arith, common_steps)

-- the bytes of some pieces
abbrev bytes_of : List (Bor (List ℕ)) → List ℕ
bytes_of pieces = flat_map (λ piece. piece.now) pieces

-- all pieces are those before one, that one and those after it
split : (pieces : List (Bor (List ℕ))) (i : ℕ) (d : Bor (List ℕ)) → i < length pieces → bytes_of pieces ≡ bytes_of (take i pieces) ++ ((get_or pieces i d).now ++ bytes_of (drop (suc i) pieces))
split pieces i d h =
    ap bytes_of (sym (take-append-drop i pieces) ∙ ap (λ (rest : List (Bor (List ℕ))). take i pieces ++ rest) (drop-cons pieces i d h))
    ∙ flat_map-append (λ piece. piece.now) (take i pieces) (get_or pieces i d ∷ drop (suc i) pieces)

-- the pieces before the i-th were written, and the write of that one failed
failed-at : (b m n : ℕ) (t u v : Option (List ℕ)) (pieces : List (Bor (List ℕ))) (i : ℕ) (d : Bor (List ℕ)) → i < length pieces → b ≤ m → Appended t u (bytes_of (take i pieces)) → Rose m n → AppendedPrefix u v (get_or pieces i d).now → Rose b n × AppendedPrefix t v (bytes_of pieces)
failed-at b m n t u v pieces i d h le before rose p = (rose-since b m n le rose, rw (split pieces i d h) (prefix-after t u v _ _ _ before p))

pub writes-until : (b m n : ℕ) (t u v : Option (List ℕ)) (pieces : List (Bor (List ℕ))) (i : ℕ) (d : Bor (List ℕ)) (r : Result (Unit {0}) SinkFailed) → IsErr r → i < length pieces → b ≤ m → Appended t u (bytes_of (take i pieces)) → Rose m n → AppendedPrefix u v (get_or pieces i d).now → Writes b n t v (bytes_of pieces) r
writes-until b m n t u v pieces i d (Ok done) failed h le before rose p = cc
writes-until b m n t u v pieces i d (Err e) failed h le before rose p = failed-at b m n t u v pieces i d h le before rose p

pub wrote-until : (b m n : ℕ) (t u v : Option (List ℕ)) (pieces : List (Bor (List ℕ))) (i : ℕ) (d : Bor (List ℕ)) → i < length pieces → b ≤ m → Appended t u (bytes_of (take i pieces)) → Rose m n → AppendedPrefix u v (get_or pieces i d).now → Wrote b n t v (bytes_of pieces)
wrote-until b m n t u v pieces i d h le before rose p = inr (failed-at b m n t u v pieces i d h le before rose p)
