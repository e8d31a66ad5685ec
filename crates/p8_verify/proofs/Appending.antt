-- Records are appended one after the other, and the turns of a history have one.
use Rattle.std.proofs.Common.{reverse, take, [], subst, ◌≡◌, ◌∙◌, ap, sym, ℕ, ◌+◌, ◌<◌, List, ◌∷◌, ◌++◌, drop, length, get_or, append_assoc, add-one, drop-cons}
use Rattle.std.specs.List.{All}
use Rattle.std.proofs.lemmas.List.{take_more, reverse-append}
use Rattle.std.proofs.lemmas.List.Elements.{All-nil, All-cons, All-append, All-head, All-tail}
use Rattle.p8_access.specs.declared.order.Turn.{Turn}
use Rattle.p8_ledger.specs.Turns.{IsProperTurn, AreProper}
use Rattle.p8_verify.specs.Halts.{NamesRegister}
use Rattle.p8_verify.specs.Table.{turn_bytes, IsWithin}
use Rattle.p8_verify.specs.Fitting.{Fits}
use Rattle.p8_verify.specs.Files.{records}

pub appended : (turns : List Turn) (i : ℕ) (d : Turn) (out new all : List ℕ) → i < length turns → out ++ records (drop i turns) ≡ all → new ≡ out ++ turn_bytes (get_or turns i d) → new ++ records (drop (i + 1) turns) ≡ all
appended turns i d out new all h so is =
    let first : drop i turns ≡ get_or turns i d ∷ drop (i + 1) turns = rw (add-one) (drop-cons turns i d h) in
    ap (λ (xs : List ℕ). xs ++ records (drop (i + 1) turns)) is
    ∙ append_assoc out (turn_bytes (get_or turns i d)) (records (drop (i + 1) turns))
    ∙ ap (λ (ts : List Turn). out ++ records ts) (sym first)
    ∙ so

pub one-more-fits : (turns : List Turn) (i : ℕ) (d : Turn) → i < length turns → All Fits (take i turns) → Fits (get_or turns i d) → All Fits (take (i + 1) turns)
one-more-fits turns i d below all one =
    subst (All Fits) (sym (take_more turns i d below)) (All-append Fits (take i turns) (get_or turns i d ∷ []) all (All-cons Fits (get_or turns i d) [] one (All-nil Fits)))

each-proper : (turns : List Turn) → AreProper turns → All IsProperTurn turns
each-proper [] are = All-nil IsProperTurn
each-proper (turn ∷ turns) are = All-cons IsProperTurn turn turns are.0 (each-proper turns are.1)

pub all-within : (turns : List Turn) → AreProper turns → All NamesRegister turns → All Fits turns → All IsWithin turns
all-within turns are names fits = λ k d below. fits k d below (each-proper turns are k d below) (names k d below)

pub all-reversed : {X : Type 0} (P : X → Type 0) (xs : List X) → All P xs → All P (reverse xs)
all-reversed P [] all = all
all-reversed P (x ∷ xs) all =
    subst (All P) (sym (reverse-append (x ∷ []) xs))
    (All-append P (reverse xs) (x ∷ []) (all-reversed P xs (All-tail P x xs all)) (All-cons P x [] (All-head P x xs all) (All-nil P)))
