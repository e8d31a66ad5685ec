use Rattle.std.proofs.Common.{◌≡◌, length, map}
use Rattle.p8_tree.specs.Views.{method_of}
use Rattle.p8_opt.specs.Steps.{AreShortCodes}
use Rattle.p8_opt.proofs.coding.short_codes.Given as goal

abbrev pub invariant-loop-index : goal.invariant-loop-index
invariant-loop-index l = (length l.codes ≡ l.index) × AreShortCodes l.kinds l.tables (map (λ m. method_of m.now) l.methods) l.codes
