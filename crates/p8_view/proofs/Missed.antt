-- When a wait ends that is missed.
use Rattle.std.proofs.Common.{◌≡◌, ◌∙◌, subst, sym, ℕ, ◌%◌, ◌^◌, ◌<◌, ◌≤◌, List, arith}
use Rattle.p8_access.specs.declared.kinds.Test.TheVariants.{Count}
use Rattle.p8_access.specs.declared.order.Key.{Key}
use Rattle.p8_access.specs.declared.order.Turn.{Turn}
use Rattle.p8_access.specs.Worlds.{World}
use Rattle.p8_access.specs.Histories.{IsAfter, IsWoken}
use Rattle.p8_view.specs.Nexts.{clocks_since, comes_again}

-- the counter is the number then
is-again : (target since : ℕ) → target < 2 ^ 32 → 0 < clocks_since target since → comes_again since (clocks_since target since) % 2 ^ 32 ≡ target
is-again target since small missed = omega arith

-- it comes after the begin of the wait
is-later : (target since : ℕ) → since ≤ comes_again since (clocks_since target since)
is-later target since = omega arith

-- and at no clock between the two is it that
is-least : (target since clock : ℕ) → target < 2 ^ 32 → 0 < clocks_since target since → since ≤ clock → clock ≤ comes_again since (clocks_since target since) → clock % 2 ^ 32 ≡ target
    → clock ≡ comes_again since (clocks_since target since)
is-least target since clock small missed from up_to is = omega arith

pub missed-ends : (w : World) (past : List Turn) (n target since clock : ℕ) (again : Key) → target < 2 ^ 32 → 0 < clocks_since target since → again.clock ≡ comes_again since (clocks_since target since)
    → again.cog ≡ n → IsAfter past again → IsWoken w past n (Count target) since clock → clock ≡ again.clock
missed-ends w past n target since clock again small missed at own after woken =
    let end = comes_again since (clocks_since target since) in
    let key : again ≡ record { clock = end; cog = n } = λ i. record { clock = at i; cog = own i } in
    let most = woken.least end (is-later target since) (subst (IsAfter past) key after) (is-again target since small missed) in
    is-least target since clock small missed woken.not_before most woken.holds ∙ sym at
