use Rattle.p8_blocks.proofs.Agreeing.{files_are_read}
use Rattle.p8_blocks.proofs.Keeping.{all_kinds}
use Rattle.p8_objects.proofs.Agreeing.{one_outcome}
use Rattle.p8_objects.proofs.laws.one_outcome.Goals as goal

pub returns : goal.returns
returns c = λ files before now top a b g h i j. one_outcome (record {
  never_both = c.one_answer.ensures.never_both;
  one_list = c.one_answer.ensures.one_list;
  one_fault = c.one_answer.ensures.one_fault;
  one_reading = c.one_answer-2.ensures;
  are_read = files_are_read
      (all_kinds c.statements_have_kinds.ensures c.chain_lines_have_kinds.ensures c.loop_ends_have_kinds.ensures c.case_items_have_kinds.ensures);
}) files before now top g h i j
