use Rattle.std.proofs.Common.{◌+◌}
use Rattle.p8_kinds.specs.FileSettings.{file_setting}
use Rattle.p8_opt.proofs.Resolved.{are-words, hide-none}
use Rattle.p8_opt.proofs.folded_laws.resolved_files_can_be_folded.Goals as goal

pub returns : goal.returns
returns c = record {
  words = λ files all children i file seen stands beside top found named.
      are-words (file_setting found seen) (c.resolved_constants_are_words.ensures files all children i file seen stands beside top found named);
  names = λ source seen top found named k m at proper labels statement.
      hide-none found seen labels (k + 1) statement (c.own_names_are_apart.ensures.apart source seen top found named k m at proper);
}
