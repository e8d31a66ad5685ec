use Rattle.p8_gen.proofs.Spelled.{value_sound, alone_whole}
use Rattle.p8_gen.proofs.laws.bytecodes_are_whole.Goals as goal

pub returns-clause-values : goal.returns-clause-values
returns-clause-values c = λ n few env same e proper clean w whole. (value_sound n few env same e proper clean).keeps w whole

pub returns-clause-alone : goal.returns-clause-alone
returns-clause-alone c = λ n few env same e done clean w whole. (alone_whole n few env same e done clean).keeps w whole
