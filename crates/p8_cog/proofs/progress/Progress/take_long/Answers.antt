use Rattle.std.proofs.Common.{refl}
use Rattle.p8_cog.specs.Keeping.{last-loads}
use Rattle.p8_cog.proofs.progress.Progress.take_long.Goals as goal

pub returns : goal.returns
returns c =
    let h = last-loads c.args.self.now.begun c.load.new.self c.begin.new.self c.args.long c.load.ensures.par c.load.ensures.at c.load.ensures.clock c.load.ensures.longs c.requires.at c.if-self-lt-LOADED_LONGS.false c.begin.ensures in
    (h.0, h.1, refl)
