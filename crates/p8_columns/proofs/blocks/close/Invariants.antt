use Rattle.std.proofs.Common.{◌≡◌, length}
use Rattle.p8_columns.specs.Reader.{close}
use Rattle.p8_columns.specs.Views.{contents_of, frames_in}
use Rattle.p8_columns.proofs.blocks.close.Given as goal

abbrev pub invariant-closes : goal.invariant-closes
invariant-closes l = close l.column (contents_of l.fn.contents) (frames_in l.fn.stack) ≡ close l.column (contents_of l.contents) (frames_in l.stack)

abbrev pub decreases-closes : goal.decreases-closes
decreases-closes l = length l.stack
