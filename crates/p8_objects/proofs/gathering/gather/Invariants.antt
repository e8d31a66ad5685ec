use Rattle.std.proofs.Common.{◌≡◌, ◌≤◌, ◌-◌, length}
use Rattle.p8_objects.specs.Standing.{Stands}
use Rattle.p8_objects.specs.Mentioned.{sources_of}
use Rattle.p8_objects.specs.Goings.{CallsFor, GoesOn}
use Rattle.p8_objects.specs.Whole.{AreSources, EachTree}
use Rattle.p8_objects.proofs.Ordering.{HaveBeenRead}
use Rattle.p8_tree.specs.Proper.{IsProperFile}
use Rattle.p8_tree.specs.Projects.{most_files}
use Rattle.p8_objects.proofs.gathering.gather.Given as goal

abbrev pub invariant-files : goal.invariant-files
invariant-files g l = record {
  stands : Stands (sources_of l.files) l.done;
  asked : CallsFor (g.S.Shelf.files l.fn.shelf) l.top (sources_of l.files) l.done l.asked;
  read : HaveBeenRead (g.S.Shelf.files l.fn.shelf) l.top (g.S.Shelf.log l.fn.shelf) (g.S.Shelf.log l.shelf) (sources_of l.files);
  on : GoesOn (g.S.Shelf.files l.fn.shelf) (g.S.Shelf.faults l.fn.shelf) l.top (sources_of l.files);
  sources : AreSources (g.S.Shelf.files l.fn.shelf) (sources_of l.files) l.sources;
  proper : EachTree IsProperFile (sources_of l.files);
  later : g.S.Shelf.faults l.fn.shelf ≤ g.S.Shelf.faults l.shelf;
  kept : g.S.Shelf.files l.shelf ≡ g.S.Shelf.files l.fn.shelf;
}

abbrev pub decreases-files : goal.decreases-files
decreases-files g l = most_files - length l.files
