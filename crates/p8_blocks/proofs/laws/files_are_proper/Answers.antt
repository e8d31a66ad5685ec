use Rattle.p8_blocks.proofs.ProperFiles.{files_are_proper}
use Rattle.p8_blocks.proofs.laws.files_are_proper.Goals as goal

pub returns : goal.returns
returns c = files_are_proper (record {
  pieces = c.rows_are_proper.ensures.pieces;
  actions = c.rows_are_proper.ensures.actions;
  constants = c.declarations_are_proper.ensures.constants;
  variables = c.declarations_are_proper.ensures.variables;
  objects = c.declarations_are_proper.ensures.objects;
  heads = c.declarations_are_proper.ensures.heads;
  kinds = c.kinds_are_proper.ensures;
  first_data = c.data_are_proper.ensures.head;
  data_lines = c.data_are_proper.ensures.line;
})
