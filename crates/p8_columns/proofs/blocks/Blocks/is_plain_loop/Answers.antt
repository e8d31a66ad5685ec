use Rattle.std.proofs.Common.{Some, None, false}
use Rattle.std.proofs.lemmas.Bool.{false≢true}
use Rattle.p8_columns.specs.Views.{line_of}
use Rattle.p8_columns.proofs.Queries.{loop_found}
use Rattle.p8_columns.proofs.blocks.Blocks.is_plain_loop.Goals as goal

pub returns-in-Some : goal.returns-in-Some
returns-in-Some c = λ lines h. loop_found c.args.column lines c.args.self.now h c.from.result c.right_of-right.result c.from.ensures c.right_of-right.ensures.exact (Some (line_of c.in-Some.opener.now)) c.in-Some.ensures c.is_plain_loop_at.result c.is_plain_loop_at.ensures

pub returns-in-None : goal.returns-in-None
returns-in-None c = λ lines h. loop_found c.args.column lines c.args.self.now h c.from.result c.right_of-right.result c.from.ensures c.right_of-right.ensures.exact None c.in-None.ensures false (λ x. absurd (false≢true x), λ x. absurd x)
