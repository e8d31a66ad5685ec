use Rattle.std.proofs.Common.{sym}
use Rattle.p8_ledger.specs.Records.{said}
use Rattle.p8_ledger.proofs.Rows.{got-item}
use Rattle.p8_ledger.proofs.ledger.Ledger.said.Goals as goal

pub returns : goal.returns
returns c = λ w r found. sym (got-item c.args.self.now.sayings c.args.cog (said c.args.cog r) _ (found.sayings c.args.cog c.requires))
