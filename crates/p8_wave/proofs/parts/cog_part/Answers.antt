use Rattle.p8_wave.proofs.Together.{inside-cog}
use Rattle.p8_wave.proofs.parts.cog_part.Goals as goal

pub new-requires : goal.new-requires
new-requires c = rw (c.in_ok-push_cog.ensures, c.new-entries.ensures.items) (inside-cog c.args.cog)
