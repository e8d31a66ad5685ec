use Rattle.p8_printed.proofs.Files.{tree_of_file}
use Rattle.p8_printed.proofs.laws.trees_are_of_files.Goals as goal

pub returns : goal.returns
returns c = tree_of_file c.tokens_are_lexemes.ensures
