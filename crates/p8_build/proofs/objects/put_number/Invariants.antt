use Rattle.std.proofs.Common.{◌≡◌, ◌++◌, replicate}
use Rattle.p8_build.proofs.objects.put_number.Given as goal

abbrev pub invariant-loop : goal.invariant-loop
invariant-loop l = l.numbers ≡ l.initial.numbers ++ replicate l.counter l.number
