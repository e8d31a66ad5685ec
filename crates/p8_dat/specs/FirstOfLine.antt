-- internal: the first fault of a line, told at once.
use Rattle.std.specs.Prelude.{Option, Some, None}
use Rattle.std.specs.Result.{result_err}
use Rattle.p8_tree.specs.declared.places.Place.{Place}
use Rattle.p8_tree.specs.Expressions.{Tree}
use Rattle.p8_tree.specs.Sources.{Instruction}
use Rattle.p8_tree.specs.declared.faults.Fault.{Fault}
use Rattle.p8_tree.specs.Faults.{first_of_two}
use Rattle.p8_fold.specs.Meanings.{Setting}
use Rattle.p8_fold.specs.Verdicts.{verdict}
use Rattle.p8_dat.specs.Encoding.{range_fault, call_fault}

abbrev pub first_in_operand : Setting → Option Tree → Place → Option Fault
first_in_operand s None place = None
first_in_operand s (Some e) place = first_of_two (result_err (verdict s e)) (range_fault s e place)

abbrev pub first_in_instruction : Setting → Instruction → Option Fault
first_in_instruction s x =
    first_of_two (first_of_two (first_in_operand s x.dest x.dest_place) (first_in_operand s x.source x.source_place)) (call_fault s x)
