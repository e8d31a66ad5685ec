use Rattle.p8_blocks.proofs.Limits.{past_limits}
use Rattle.p8_blocks.proofs.laws.refusals_pass_limits.Goals as goal

pub returns-clause-passes : goal.returns-clause-passes
returns-clause-passes c = λ ts n p h e. (past_limits (record {
  con_head = c.constants_have_values.ensures.head;
  con_line = c.constants_have_values.ensures.line;
  var_head = c.variables_have_values.ensures.head;
  var_line = c.variables_have_values.ensures.line;
  obj_head = c.objects_have_values.ensures.head;
  obj_line = c.objects_have_values.ensures.line;
  dat_head = c.data_have_values.ensures.head;
  dat_line = c.data_have_values.ensures.line;
  methods = c.methods_have_values.ensures;
  kinds = c.lines_have_kinds.ensures;
}) ts n p h e).0

pub returns-clause-there : goal.returns-clause-there
returns-clause-there c = λ ts n p h e. (past_limits (record {
  con_head = c.constants_have_values.ensures.head;
  con_line = c.constants_have_values.ensures.line;
  var_head = c.variables_have_values.ensures.head;
  var_line = c.variables_have_values.ensures.line;
  obj_head = c.objects_have_values.ensures.head;
  obj_line = c.objects_have_values.ensures.line;
  dat_head = c.data_have_values.ensures.head;
  dat_line = c.data_have_values.ensures.line;
  methods = c.methods_have_values.ensures;
  kinds = c.lines_have_kinds.ensures;
}) ts n p h e).1
