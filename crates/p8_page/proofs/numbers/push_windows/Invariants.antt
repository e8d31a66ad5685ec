use Rattle.std.proofs.Common.{◌≡◌, ◌++◌, ℕ}
use Rattle.std.specs.List.{flat_map, range_with_len}
use Rattle.p8_access.specs.Windows.{window_of}
use Rattle.p8_page.specs.Page.{number_line}
use Rattle.p8_page.proofs.numbers.push_windows.Given as goal

abbrev pub invariant-loop-cog : goal.invariant-loop-cog
invariant-loop-cog l = l.out.items ≡ l.initial.out.items ++ flat_map (λ (cog : ℕ). number_line (window_of cog l.from)) (range_with_len 0 l.cog)
