use Rattle.std.proofs.Common.{ap}
use Rattle.p8_columns.specs.Views.{line_of, contents_of, frames_in}
use Rattle.p8_columns.proofs.Queries.{took}
use Rattle.p8_columns.proofs.blocks.Blocks.take.Goals as goal

pub returns : goal.returns
returns c = λ lines h. took lines c.args.self.now (record { contents = c.in_ok-self.field-0; stack = c.put.new.stack }) (line_of c.args.line) c.from-column.result (contents_of c.replace-contents.result) (contents_of c.in_ok-contents.contents) (frames_in c.close.new.stack) h (c.requires lines h) c.from-column.ensures (ap contents_of c.replace-contents.ensures.value) c.in_ok-contents.ensures c.in_ok-self.ensures
