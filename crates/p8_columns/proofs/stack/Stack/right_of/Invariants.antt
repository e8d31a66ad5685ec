use Rattle.std.proofs.Common.{◌≡◌, ◌+◌, ◌-◌, ◌≤◌, length, drop}
use Rattle.p8_columns.specs.Reader.{right_of}
use Rattle.p8_columns.specs.Views.{frames_in}
use Rattle.p8_columns.proofs.stack.Stack.right_of.Given as goal

abbrev pub invariant-inward : goal.invariant-inward
invariant-inward l = record {
  within : l.index ≤ length l.self;
  counted : right_of l.column (frames_in l.self) ≡ l.index + right_of l.column (frames_in (drop l.index l.self));
}

abbrev pub decreases-inward : goal.decreases-inward
decreases-inward l = length l.self - l.index
