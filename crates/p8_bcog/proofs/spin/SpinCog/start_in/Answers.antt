use Rattle.p8_bcog.proofs.Answering.{started_stands}
use Rattle.p8_bcog.proofs.spin.SpinCog.start_in.Goals as goal

pub returns-clause-stands : goal.returns-clause-stands
returns-clause-stands c = started_stands c.args.code c.args.cog c.args.begin c.args.origin c.begin.new.self c.begin.ensures
