use Rattle.std.proofs.Common.{◌≡◌, ◌++◌, drop}
use Rattle.p8_image.specs.Listing.{long_lines}
use Rattle.p8_image.proofs.dat.push_long_lines.Given as goal

abbrev pub invariant-loop-long : goal.invariant-loop-long
invariant-loop-long l = l.out.items ++ long_lines l.place (drop l.long-index l.longs) ≡ l.initial.out.items ++ long_lines l.initial.place l.longs
