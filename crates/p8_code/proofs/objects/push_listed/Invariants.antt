use Rattle.std.proofs.Common.{◌≡◌, ◌++◌, drop}
use Rattle.p8_code.specs.Listing.{listed}
use Rattle.p8_code.proofs.objects.push_listed.Given as goal

abbrev pub invariant-loop-name : goal.invariant-loop-name
invariant-loop-name l = l.out.items ++ listed l.before (drop l.name-index l.names) ≡ l.initial.out.items ++ listed l.initial.before l.names
