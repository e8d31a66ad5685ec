use Rattle.std.proofs.Common.{Bool, subst, sym}
use Rattle.std.specs.Prelude.{IfOk}
use Rattle.p8_tree.specs.Views.{named_sources_of}
use Rattle.p8_inputs.specs.Sources.{IsCodeBy}
use Rattle.p8_inputs.proofs.Gathering.{mentioned, no_ring}
use Rattle.p8_inputs.proofs.codes.built_code.Goals as goal

pub project_short_code-requires-clause-mentioned : goal.project_short_code-requires-clause-mentioned
project_short_code-requires-clause-mentioned c = mentioned (named_sources_of c.args.project.now) c.requires.whole.mentioned

pub project_short_code-requires-clause-no_ring : goal.project_short_code-requires-clause-no_ring
project_short_code-requires-clause-no_ring c = no_ring (named_sources_of c.args.project.now) c.requires.whole.no_ring

pub project_short_code-requires-clause-proper : goal.project_short_code-requires-clause-proper
project_short_code-requires-clause-proper c i file stands = c.requires.whole.proper i file (record { is = stands })

pub project_code-requires-clause-mentioned : goal.project_code-requires-clause-mentioned
project_code-requires-clause-mentioned c = mentioned (named_sources_of c.args.project.now) c.requires.whole.mentioned

pub project_code-requires-clause-no_ring : goal.project_code-requires-clause-no_ring
project_code-requires-clause-no_ring c = no_ring (named_sources_of c.args.project.now) c.requires.whole.no_ring

pub project_code-requires-clause-proper : goal.project_code-requires-clause-proper
project_code-requires-clause-proper c i file stands = c.requires.whole.proper i file (record { is = stands })

pub returns-then-short-clause-coded : goal.returns-then-short-clause-coded
returns-then-short-clause-coded c =
    let sources = named_sources_of c.args.project.now in
    subst (λ (b : Bool). IfOk c.project_short_code.result (λ text. IsCodeBy b c.args.sources.now sources text.items)) (sym c.if-short.true) c.project_short_code.ensures.coded

pub returns-else-short-clause-coded : goal.returns-else-short-clause-coded
returns-else-short-clause-coded c =
    let sources = named_sources_of c.args.project.now in
    subst (λ (b : Bool). IfOk c.project_code.result (λ text. IsCodeBy b c.args.sources.now sources text.items)) (sym c.if-short.false) c.project_code.ensures.coded
