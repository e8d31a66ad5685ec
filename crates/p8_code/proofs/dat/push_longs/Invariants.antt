use Rattle.std.proofs.Common.{◌≡◌, ◌++◌, drop}
use Rattle.p8_code.specs.Listing.{long_lines}
use Rattle.p8_code.proofs.dat.push_longs.Given as goal

abbrev pub invariant-loop-long : goal.invariant-loop-long
invariant-loop-long l =
    l.out.items ++ long_lines (λ text. text) l.base l.labels l.place (drop l.long-index l.longs) ≡ l.initial.out.items ++ long_lines (λ text. text) l.base l.labels l.initial.place l.longs
