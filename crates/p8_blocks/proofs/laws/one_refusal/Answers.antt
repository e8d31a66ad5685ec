use Rattle.p8_blocks.proofs.OneRefusal.{one_refusal}
use Rattle.p8_blocks.proofs.laws.one_refusal.Goals as goal

pub returns-clause-number : goal.returns-clause-number
returns-clause-number c = λ ts n k p q x y. (one_refusal (record {
  con_head = c.constants_have_values.ensures.head;
  con_line = c.constants_have_values.ensures.line;
  var_head = c.variables_have_values.ensures.head;
  var_line = c.variables_have_values.ensures.line;
  obj_head = c.objects_have_values.ensures.head;
  obj_line = c.objects_have_values.ensures.line;
  dat_head = c.data_have_values.ensures.head;
  dat_line = c.data_have_values.ensures.line;
  methods = c.methods_have_values.ensures;
  kinds = c.lines_have_kinds.ensures;
}) x y).0

pub returns-clause-place : goal.returns-clause-place
returns-clause-place c = λ ts n k p q x y. (one_refusal (record {
  con_head = c.constants_have_values.ensures.head;
  con_line = c.constants_have_values.ensures.line;
  var_head = c.variables_have_values.ensures.head;
  var_line = c.variables_have_values.ensures.line;
  obj_head = c.objects_have_values.ensures.head;
  obj_line = c.objects_have_values.ensures.line;
  dat_head = c.data_have_values.ensures.head;
  dat_line = c.data_have_values.ensures.line;
  methods = c.methods_have_values.ensures;
  kinds = c.lines_have_kinds.ensures;
}) x y).1
