-- The digits so far.
use Rattle.std.proofs.Common.{◌≡◌, take}
use Rattle.std.specs.Str.Parse.{AllDigits, digits_value}
use Rattle.p8_pins.proofs.line_text.number.Given as goal

abbrev pub invariant-loop-byte : goal.invariant-loop-byte
invariant-loop-byte l =
    AllDigits l.base (take l.byte-index l.digits) × (l.value ≡ digits_value l.base (take l.byte-index l.digits))
