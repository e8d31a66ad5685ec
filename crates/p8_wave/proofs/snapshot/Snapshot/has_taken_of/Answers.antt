use Rattle.std.proofs.Common.{◌∙◌, sym}
use Rattle.p8_wave.proofs.Same.{taken-same}
use Rattle.p8_wave.proofs.snapshot.Snapshot.has_taken_of.Goals as goal

pub returns : goal.returns
returns c = λ told. taken-same c.args.self.now c.args.other.now (sym c.eq.ensures ∙ told)
