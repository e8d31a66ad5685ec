use Rattle.std.proofs.Common.{ℕ}
use Rattle.p8_view.specs.Ending.{last_asking}
use Rattle.p8_view.proofs.Eights.{one_of}
use Rattle.p8_view.proofs.doings.Doings.asking.Goals as goal

pub returns : goal.returns
returns c = λ w counters past are.
    rw c.from.ensures (one_of (λ (n : ℕ). last_asking w counters past n) c.args.self.now.askings _ c.args.cog are.askings c.requires)
