-- Trees that files have, whatever their length.
use Rattle.std.specs.Prelude.{List}
use Rattle.p8_tree.specs.Sources.{Source}
use Rattle.p8_lines.specs.Tokens.{LineToken}
use Rattle.p8_blocks.specs.Files.{IsFileWithinLimits}
use Rattle.p8_printed.specs.Rereading.{AreOfSource}

-- Tokens that a source can have, at whatever places, are a file with this tree.
pub record IsOfFile (s : Source) : Type 0 where
  pub tokens : List LineToken
  pub of_source : AreOfSource tokens
  pub file : IsFileWithinLimits s tokens
