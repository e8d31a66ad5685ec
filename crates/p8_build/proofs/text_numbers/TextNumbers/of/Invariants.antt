use Rattle.std.proofs.Common.{◌≡◌, map, drop}
use Rattle.std.specs.Option.{option_or}
use Rattle.p8_tree.specs.declared.places.Place.{Place}
use Rattle.p8_build.specs.Numbers.{text_of, at_place, number_in}
use Rattle.p8_build.proofs.text_numbers.TextNumbers.of.Given as goal

abbrev pub invariant-loop-string : goal.invariant-loop-string
invariant-loop-string l = record {
  at : (p : Place) → option_or (at_place p l.places) (number_in l.count (map text_of (drop l.string-index l.strings)) p) ≡ number_in 0 (map text_of l.strings) p;
  count : l.count ≡ l.string-index;
}
