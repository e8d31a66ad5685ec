use Rattle.std.proofs.Common.{◌∙◌, sym}
use Rattle.p8_wave.proofs.Same.{set-same}
use Rattle.p8_wave.proofs.snapshot.Snapshot.has_set_of.Goals as goal

pub returns : goal.returns
returns c = λ told. set-same c.args.self.now c.args.other.now (sym c.eq.ensures ∙ told)
