use Rattle.std.proofs.Common.{◌∙◌, sym}
use Rattle.p8_wave.proofs.Same.{cog-same}
use Rattle.p8_wave.proofs.snapshot.Snapshot.has_cog_of.Goals as goal

pub returns : goal.returns
returns c = λ told.
    cog-same c.args.self.now c.args.other.now c.args.cog c.differs-outa.result c.differs-dira.result c.differs-state.result c.differs-outa.ensures c.differs-dira.ensures c.differs-state.ensures
    (sym c.is_none_of.ensures ∙ told)
