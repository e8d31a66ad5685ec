use Rattle.std.proofs.Common.{Err, subst, refl}
use Rattle.p8_objects.specs.Outcomes.{shelved, Answers}
use Rattle.p8_inputs.specs.Sources.{while_gathered}
use Rattle.p8_inputs.proofs.Gathering.{refusal-gathered}
use Rattle.p8_inputs.proofs.sources.stop_of_gathering.Goals as goal

pub returns-in-Source : goal.returns-in-Source
returns-in-Source c files before now short top answers =
    while_gathered (refusal-gathered files before now top c.in-Source.file c.in-Source.fault (subst (λ fault. Answers (shelved files before now) top (Err fault)) c.in-Source.is answers)) refl
