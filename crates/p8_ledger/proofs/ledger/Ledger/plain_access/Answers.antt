use Rattle.p8_ledger.proofs.Granting.{read-at, plain-suits, plain-announced}
use Rattle.p8_ledger.proofs.ledger.Ledger.plain_access.Goals as goal

pub access_in-requires-clause-announced : goal.access_in-requires-clause-announced
access_in-requires-clause-announced c = plain-announced _ c.args.key.clock (c.requires.plain _ (read-at c.args.self.now.sayings c.args.key.cog _ c.args.self.now.eight c.requires.cog))

pub returns : goal.returns
returns c = plain-suits c.args.self.now.sayings c.args.key.cog c.args.key.clock _ c.access_in.result.now c.args.self.now.eight c.requires.cog c.access_in.ensures.made c.requires.plain c.access_in.ensures.said
