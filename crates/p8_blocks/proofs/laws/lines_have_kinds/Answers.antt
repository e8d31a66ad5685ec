use Rattle.p8_blocks.proofs.Keeping.{all_kinds}
use Rattle.p8_blocks.proofs.laws.lines_have_kinds.Goals as goal

pub returns : goal.returns
returns c = all_kinds c.statements_have_kinds.ensures c.chain_lines_have_kinds.ensures c.loop_ends_have_kinds.ensures c.case_items_have_kinds.ensures
