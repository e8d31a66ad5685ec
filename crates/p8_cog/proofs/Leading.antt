-- A run of instructions in two parts.
use Rattle.std.proofs.Common.{◌≡◌, ℕ, ◌+◌, ◌-◌, ◌≤◌, ap, ◌∙◌, arith}
use Rattle.p8_access.specs.declared.lives.Next.{Next}
use Rattle.p8_access.specs.declared.lives.Next.TheVariants.{At, Quiet, More}
use Rattle.p8_cog.specs.Replay.{Outcome, after}
use Rattle.p8_cog.specs.Stops.{Leads, IsSpent}

-- none leads nowhere else
pub leads-none : (cog : ℕ) (here : Outcome) → Leads cog 0 here here
leads-none cog here = λ n o h.
    let e : n + 0 ≡ n = omega arith in
    ap (λ (k : ℕ). after cog k o) e ∙ h

-- one part, and what follows it
pub leads-on : (cog one other : ℕ) (from mid to : Outcome) → Leads cog one from mid → Leads cog other mid to → Leads cog (one + other) from to
leads-on cog one other from mid to first rest = λ n o h.
    let e : n + (one + other) ≡ n + one + other = omega arith in
    ap (λ (k : ℕ). after cog k o) e ∙ rest (n + one) o (first n o h)

-- the second part spends what the first has left
pub spent-on : (one other budget reached until : ℕ) (next : Next) → one ≤ budget → IsSpent other (budget - one) reached until next → IsSpent (one + other) budget reached until next
spent-on one other budget reached until (At clock access) le spent = tt
spent-on one other budget reached until Quiet le spent = tt
spent-on one other budget reached until (More bound) le spent = (omega (arith, le, spent.0), spent.1, spent.2)
