use Rattle.std.proofs.Common.{ap, sym, ◌∙◌}
use Rattle.p8_tree.specs.Views.{statements_of}
use Rattle.p8_columns.specs.Reader.{State, statements_in}
use Rattle.p8_columns.proofs.Queries.{finished}
use Rattle.p8_columns.proofs.blocks.Blocks.finish.Goals as goal

pub returns : goal.returns
returns c = λ lines h. finished lines c.args.self h _ (ap (λ (s : State). statements_in s.contents) c.in_ok-contents.ensures ∙ sym c.into_statements.ensures ∙ ap statements_of (sym c.from_vec.ensures))
