use Rattle.std.proofs.Common.{◌≡◌, Some, length}
use Rattle.std.specs.Prelude.{All}
use Rattle.p8_fold.specs.ConstantEntries.{setting_of}
use Rattle.p8_kinds.specs.Entries.{at_bytes}
use Rattle.p8_kinds.proofs.Tables.{IsPartly}
use Rattle.p8_kinds.proofs.settings.enter_meanings.Given as goal

abbrev pub invariant-entries : goal.invariant-entries
invariant-entries l = record {
  partly : IsPartly l.names l.children l.left (setting_of l.consts);
  here : (setting_of l.consts).here ≡ (setting_of l.fn.consts).here;
  found : All (λ e. at_bytes e.0.items l.names ≡ Some e.1) l.left;
}

abbrev pub decreases-entries : goal.decreases-entries
decreases-entries l = length l.left
