use Rattle.std.proofs.Common.{Bool, subst, sym}
use Rattle.std.specs.Prelude.{IfOk}
use Rattle.std.proofs.lemmas.Result.{IfOk-weaker}
use Rattle.p8_tree.specs.Views.{named_sources_of}
use Rattle.p8_inputs.specs.Gathered.{IsImageBuiltBy}
use Rattle.p8_inputs.proofs.Building.{short-image, long-image}
use Rattle.p8_inputs.proofs.Gathering.{mentioned, no_ring}
use Rattle.p8_inputs.proofs.sources.built_image.Goals as goal

pub build_short-requires-clause-mentioned : goal.build_short-requires-clause-mentioned
build_short-requires-clause-mentioned c = mentioned (named_sources_of c.args.project.now) c.requires.mentioned

pub build_short-requires-clause-no_ring : goal.build_short-requires-clause-no_ring
build_short-requires-clause-no_ring c = no_ring (named_sources_of c.args.project.now) c.requires.no_ring

pub build_short-requires-clause-proper : goal.build_short-requires-clause-proper
build_short-requires-clause-proper c i file stands = c.requires.proper i file (record { is = stands })

pub build-requires-clause-mentioned : goal.build-requires-clause-mentioned
build-requires-clause-mentioned c = mentioned (named_sources_of c.args.project.now) c.requires.mentioned

pub build-requires-clause-no_ring : goal.build-requires-clause-no_ring
build-requires-clause-no_ring c = no_ring (named_sources_of c.args.project.now) c.requires.no_ring

pub build-requires-clause-proper : goal.build-requires-clause-proper
build-requires-clause-proper c i file stands = c.requires.proper i file (record { is = stands })

pub returns-then-short-clause-built : goal.returns-then-short-clause-built
returns-then-short-clause-built c =
    let sources = named_sources_of c.args.project.now in
    subst (λ (b : Bool). IfOk c.build_short.result (IsImageBuiltBy b sources)) (sym c.if-short.true) (IfOk-weaker c.build_short.result _ _ (λ built is. short-image sources built is) c.build_short.ensures.built)

pub returns-else-short-clause-built : goal.returns-else-short-clause-built
returns-else-short-clause-built c =
    let sources = named_sources_of c.args.project.now in
    subst (λ (b : Bool). IfOk c.build.result (IsImageBuiltBy b sources)) (sym c.if-short.false) (IfOk-weaker c.build.result _ _ (λ built is. long-image sources built is) c.build.ensures.built)
