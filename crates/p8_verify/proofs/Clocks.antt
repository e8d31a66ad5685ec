-- A legal history is within the limits of its world.
use Rattle.std.proofs.Common.{◌≡◌, sym, subst, ℕ, ◌<◌, ◌≤◌, List, [], ◌∷◌, length, reverse, arith}
use Rattle.std.specs.List.{All}
use Rattle.std.proofs.lemmas.List.{length-reverse, reverse-reverse, reverse-append}
use Rattle.std.proofs.lemmas.List.Elements.{All-nil, All-cons, All-append}
use Rattle.p8_access.specs.declared.order.Turn.{Turn}
use Rattle.p8_access.specs.Worlds.{World}
use Rattle.p8_access.specs.Histories.{Legal}
use Rattle.p8_cog.specs.Lives.{asks}

-- so many clocks are enough
abbrev pub Early : ℕ → Turn → Type 0
Early clocks turn = turn.key.clock < clocks

early : (w : World) (past : List Turn) → Legal asks w past → All (Early w.clocks) (reverse past)
early w [] legal = All-nil (Early w.clocks)
early w (turn ∷ past) legal =
    subst (All (Early w.clocks)) (sym (reverse-append (turn ∷ []) past))
    (All-append (Early w.clocks) (reverse past) (turn ∷ []) (early w past legal.0) (All-cons (Early w.clocks) turn [] legal.1.next.below (All-nil (Early w.clocks))))

pub legal-length : (w : World) (past : List Turn) → Legal asks w past → length past ≤ w.turns
legal-length w [] legal = omega arith
legal-length w (turn ∷ past) legal = let room : length past < w.turns = legal.1.room in omega arith

-- the turns of a legal history, the oldest first, come before its limit, and are no more than may be
pub all-early : (w : World) (turns : List Turn) → Legal asks w (reverse turns) → All (Early w.clocks) turns
all-early w turns legal = subst (All (Early w.clocks)) (reverse-reverse turns) (early w (reverse turns) legal)

pub no-more : (w : World) (turns : List Turn) → Legal asks w (reverse turns) → length turns ≤ w.turns
no-more w turns legal = let all = legal-length w (reverse turns) legal in let same : length (reverse turns) ≡ length turns = length-reverse turns in omega arith
