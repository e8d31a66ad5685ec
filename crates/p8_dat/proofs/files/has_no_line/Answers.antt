use Rattle.std.proofs.Common.{map, ap, ◌∙◌}
use Rattle.p8_tree.specs.Views.{block_of, line_of}
use Rattle.p8_dat.specs.Blocks.{block_lines}
use Rattle.p8_dat.proofs.files.has_no_line.Goals as goal

pub returns-in-Dat : goal.returns-in-Dat
returns-in-Dat c = λ none. ap (λ b. block_lines (block_of b)) c.in-Dat.is ∙ ap (map line_of) (c.is_empty.ensures.0 none)
