use Rattle.std.proofs.Common.{ℕ}
use Rattle.p8_access.specs.Hub.{cog_state, origin_of}
use Rattle.p8_view.proofs.Eights.{one_of}
use Rattle.p8_view.proofs.cogs.Cogs.origin.Goals as goal

pub returns : goal.returns
returns c = λ w past are. rw c.from.ensures (one_of (λ (n : ℕ). origin_of (cog_state w past n)) c.args.self.now.origins _ c.args.cog are.origins c.requires)
