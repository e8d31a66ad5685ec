use Rattle.p8_build.proofs.Knowing.{told_of_file}
use Rattle.p8_build.proofs.laws.miscounted_calls_are_told.Goals as goal

pub returns : goal.returns
returns c = λ s source children f few count h. told_of_file s source children f few count h
