-- Where some lines begin a file within the limits, they are within them.
use Rattle.std.proofs.Common.{◌≡◌, ◌⊎◌, inl, inr, List, [], ◌∷◌, ◌++◌, refl, sym, ap, ◌∙◌, subst, append_assoc, append-nil, false}
use Rattle.p8_lines.specs.Tokens.{LineToken}
use Rattle.p8_lines.proofs.Splits.{Compared, same, beyond, short, compare}
use Rattle.p8_lines.proofs.Ways.{cancel}
use Rattle.p8_blocks.specs.Files.{any_height, within_limits}
use Rattle.p8_blocks.specs.Refusals.{BeginsWithinLimits}
use Rattle.p8_blocks.proofs.Walks.{Progress, Line, line_any, Walk, none, more, walk_any}
use Rattle.p8_blocks.proofs.Runs as runs
use Rattle.p8_blocks.proofs.Runs.{Run, walk_run, nothing_left, next_line, one_line}
use Rattle.p8_blocks.proofs.Keeping.{AllKinds}
use Rattle.p8_blocks.proofs.Walking.{file_walk}
use Rattle.p8_blocks.proofs.Going.{AllShallow, depths, run_before}
use Rattle.p8_blocks.proofs.Ending.{one_place, no_more}

-- of two lists that are nothing together the first is nothing
pub none_first : {X : Type 0} (xs ys : List X) → xs ++ ys ≡ [] → xs ≡ []
none_first [] ys e = refl
none_first (x ∷ xs) ys e = absurd cc

the_same : {x z : Progress} {ts us : List LineToken} → Walk any_height x ts → Walk within_limits z us → us ≡ ts → Walk within_limits x ts
the_same {x} {z} {ts} {us} v w e =
    let y : Walk within_limits z ts = subst (Walk within_limits z) e w in
    subst (λ z. Walk within_limits z ts) (one_place (walk_any within_limits y) v) y

-- a walk up to a place within the last line of another ends where that line ends
last_line : {x y z : Progress} {ts os us : List LineToken} (k : LineToken) (ks later : List LineToken) → Walk any_height x ts → Walk within_limits y os → Line within_limits y us z → ts ≡ os ++ k ∷ ks → us ≡ k ∷ (ks ++ later) → us ≡ k ∷ ks
last_line {x} {us = us} k ks later v w l e f =
    let n = next_line k ks (walk_any within_limits w) (subst (Walk any_height x) e v) in
    let o = one_line (n.2 ++ later) [] n.3 (line_any within_limits l) (sym (append_assoc n.1 n.2 later) ∙ ap (λ m. m ++ later) (sym n.4) ∙ sym f ∙ sym (append-nil us)) in
    let whole : k ∷ ks ≡ (k ∷ ks) ++ (later ++ n.2) = n.4 ∙ ap (λ m. m ++ n.2) (o.rests ∙ f) ∙ append_assoc (k ∷ ks) later n.2 in
    let nothing = none_first later n.2 (sym (cancel (k ∷ ks) [] (later ++ n.2) (append-nil (k ∷ ks) ∙ whole))) in
    f ∙ ap (λ m. k ∷ (ks ++ m)) nothing ∙ append-nil (k ∷ ks)

prefix_within : {x z : Progress} {ts us : List LineToken} → Walk within_limits z us → Walk any_height x ts → (later : List LineToken) → us ≡ ts ++ later → Walk within_limits x ts
prefix_within {ts = ts} none v later e = the_same v none (sym (none_first ts later (sym e)))
prefix_within {x} {z} {ts} (more {ts = os} {us = us} w l) v later e = go (compare ts later os us (sym e)) (λ k ks f. prefix_within w v (k ∷ ks) f)
  where
    go : Compared ts later os us → ((k : LineToken) (ks : List LineToken) → os ≡ ts ++ k ∷ ks → Walk within_limits x ts) → Walk within_limits x ts
    go (same a b) again = the_same v w (sym a)
    go (short k ks a b) again = again k ks a
    go (beyond k ks a b) again = the_same v (more w l) (ap (λ m. os ++ m) (last_line k ks later v w l a b) ∙ sym a)

shallow_before : {x z : Progress} {ts : List LineToken} (later : List LineToken) → Walk any_height x ts → Walk any_height z (ts ++ later) → AllShallow z.0 → AllShallow x.0
shallow_before {x} {z} {ts} later v w h = go (runs.compare (walk_run v later) (subst (λ l. Run ([], false) l z []) (append-nil (ts ++ later)) (walk_run w [])))
  where
    ended : (l : List LineToken) → l ≡ [] → Run z [] x l → AllShallow x.0
    ended l e r = subst (λ x. AllShallow x.0) (no_more r) h

    go : Run x later z [] ⊎ Run z [] x later → AllShallow x.0
    go (inl r) = run_before r h
    go (inr r) = ended later (nothing_left r) r

pub within_before : AllKinds → {x : Progress} {ts : List LineToken} (later : List LineToken) → Walk any_height x ts → BeginsWithinLimits (ts ++ later) → Walk within_limits x ts × AllShallow x.0
within_before kinds {ts = ts} later v (rest, s, f) =
    let y = file_walk kinds f.0 in
    let w = subst (λ l. Walk within_limits (y.parts, y.begun) l) (append_assoc ts later rest) y.walk in
    (prefix_within w v (later ++ rest) refl, shallow_before (later ++ rest) v (walk_any within_limits w) ((depths y.blocks).1 f.1))
