use Rattle.std.proofs.Common.{Some, None}
use Rattle.p8_columns.specs.Views.{line_of}
use Rattle.p8_columns.specs.declared.room.Chain.TheVariants.{Missing}
use Rattle.p8_columns.proofs.Queries.{chain_found}
use Rattle.p8_columns.proofs.blocks.Blocks.chain.Goals as goal

pub returns-in-Some : goal.returns-in-Some
returns-in-Some c = λ lines h. chain_found c.args.column lines c.args.self.now h c.from.result c.right_of-right.result c.from.ensures c.right_of-right.ensures.exact (Some (line_of c.in-Some.opener.now)) c.in-Some.ensures c.chain_at.result c.chain_at.ensures

pub returns-in-None : goal.returns-in-None
returns-in-None c = λ lines h. chain_found c.args.column lines c.args.self.now h c.from.result c.right_of-right.result c.from.ensures c.right_of-right.ensures.exact None c.in-None.ensures Missing (λ x. x, λ x. x)
