use Rattle.p8_legend.proofs.DatLinesTold.{line-told}
use Rattle.p8_legend.proofs.dat_laws.addresses_of_dat_have_their_lines.Goals as goal

pub returns : goal.returns
returns c = line-told
