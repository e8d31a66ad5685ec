use Rattle.std.proofs.Common.{◌≤◌, length}
use Rattle.p8_objects.specs.Standing.{Stands, DoneFrom}
use Rattle.p8_objects.specs.Mentioned.{sources_of}
use Rattle.p8_objects.proofs.next.next_file.Given as goal

abbrev pub invariant-files : goal.invariant-files
invariant-files l = record {
  stands : Stands (sources_of l.files) l.done;
  within : l.at-counter ≤ length l.files;
  behind : DoneFrom (sources_of l.files) l.done l.at-counter;
}
