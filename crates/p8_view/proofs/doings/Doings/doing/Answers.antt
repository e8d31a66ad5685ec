use Rattle.std.proofs.Common.{ℕ}
use Rattle.p8_view.specs.Ending.{doing}
use Rattle.p8_view.proofs.Eights.{one_of}
use Rattle.p8_view.proofs.doings.Doings.doing.Goals as goal

pub returns : goal.returns
returns c = λ w counters past are. rw c.from.ensures (one_of (λ (n : ℕ). doing past n) c.args.self.now.doings _ c.args.cog are.doings c.requires)
