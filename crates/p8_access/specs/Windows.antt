-- The windows of the cogs and the order of keys (this project's profile; the hub serves each cog once
-- in 16 clocks, P8X32A datasheet, "Hub").
use Rattle.std.specs.Prelude.{ℕ, ◌+◌, ◌-◌, ◌*◌, ◌%◌, ◌≡◌, ◌<◌, ◌⊎◌}
use Rattle.p8_access.specs.declared.order.Key.{Key}

-- a clock at which the hub serves this cog
abbrev pub IsWindow : ℕ → ℕ → Type 0
IsWindow cog clock = clock % 16 ≡ 2 * cog

-- the least window of a cog from a clock on
abbrev pub window_of : ℕ → ℕ → ℕ
window_of cog from = from + (2 * cog + 16 - from % 16) % 16

-- by clock, then by cog
abbrev pub Before : Key → Key → Type 0
Before a b = (a.clock < b.clock) ⊎ ((a.clock ≡ b.clock) × (a.cog < b.cog))
