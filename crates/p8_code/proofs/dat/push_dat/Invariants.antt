use Rattle.std.proofs.Common.{◌≡◌, ◌++◌, drop}
use Rattle.p8_code.specs.Listing.{dat_lines}
use Rattle.p8_code.proofs.dat.push_dat.Given as goal

abbrev pub invariant-loop-line : goal.invariant-loop-line
invariant-loop-line l =
    l.out.items ++ dat_lines (λ text. text) l.source l.base l.labels l.start l.place l.told l.longs (drop l.line-index l.lines)
    ≡ l.initial.out.items ++ dat_lines (λ text. text) l.source l.base l.labels l.start l.start 0 l.initial.longs l.lines
