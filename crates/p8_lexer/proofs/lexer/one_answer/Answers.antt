use Rattle.p8_lexer.proofs.Files.{never_both, one_list, one_fault}
use Rattle.p8_lexer.proofs.lexer.one_answer.Goals as goal

pub returns-clause-never_both : goal.returns-clause-never_both
returns-clause-never_both c = never_both

pub returns-clause-one_list : goal.returns-clause-one_list
returns-clause-one_list c = one_list

pub returns-clause-one_fault : goal.returns-clause-one_fault
returns-clause-one_fault c = one_fault
