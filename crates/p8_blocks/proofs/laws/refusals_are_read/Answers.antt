use Rattle.p8_blocks.proofs.Refusing.{refused_as_read}
use Rattle.p8_blocks.proofs.laws.refusals_are_read.Goals as goal

pub returns : goal.returns
returns c = refused_as_read (record {
  con_head = c.constants_have_values.ensures.head;
  con_line = c.constants_have_values.ensures.line;
  var_head = c.variables_have_values.ensures.head;
  var_line = c.variables_have_values.ensures.line;
  obj_head = c.objects_have_values.ensures.head;
  obj_line = c.objects_have_values.ensures.line;
  dat_head = c.data_have_values.ensures.head;
  dat_line = c.data_have_values.ensures.line;
  methods = c.methods_have_values.ensures;
  kinds = c.lines_have_kinds.ensures;
})
