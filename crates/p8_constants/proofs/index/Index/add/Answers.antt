use Rattle.p8_fold.specs.ConstantEntries.{setting_of, at_bytes}
use Rattle.p8_constants.proofs.Rowing.{unnamed_more}
use Rattle.p8_constants.proofs.index.Index.add.Goals as goal

pub returns-in-None : goal.returns-in-None
returns-in-None c = λ n. unnamed_more (setting_of c.args.outside.now) n c.args.name.now c.args.node (at_bytes n c.args.self.now.names) c.in-None.is
