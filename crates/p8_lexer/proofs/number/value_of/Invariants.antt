use Rattle.std.proofs.Common.{◌≡◌, ◌<◌, ◌^◌, take, drop}
use Rattle.p8_lexer.specs.Lexing.{base, value_behind}
use Rattle.p8_lexer.proofs.number.value_of.Given as goal

abbrev pub invariant-loop-i : goal.invariant-loop-i
invariant-loop-i l = record { value_is : l.value ≡ value_behind (base l.radix) 0 (drop l.from (take l.i l.text)); small : l.value < 2 ^ 32 }
