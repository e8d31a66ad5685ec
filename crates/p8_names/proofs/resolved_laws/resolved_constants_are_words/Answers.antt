use Rattle.p8_names.proofs.Seen.{has-words}
use Rattle.p8_names.proofs.resolved_laws.resolved_constants_are_words.Goals as goal

pub returns : goal.returns
returns c = λ files all children i file seen stands beside top found named. has-words files all children i file seen top found stands beside named
