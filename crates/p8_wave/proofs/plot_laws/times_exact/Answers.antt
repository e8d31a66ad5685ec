use Rattle.p8_wave.proofs.Lasting.{exact-times}
use Rattle.p8_wave.proofs.plot_laws.times_exact.Goals as goal

pub returns : goal.returns
returns c = exact-times
