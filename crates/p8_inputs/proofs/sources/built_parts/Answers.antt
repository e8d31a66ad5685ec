use Rattle.std.proofs.Common.{Bool, subst, sym}
use Rattle.std.specs.Prelude.{IfOk}
use Rattle.std.proofs.lemmas.Result.{IfOk-weaker}
use Rattle.p8_tree.specs.Views.{named_sources_of}
use Rattle.p8_inputs.specs.Gathered.{AreBuiltBy}
use Rattle.p8_inputs.proofs.Building.{short-parts, long-parts}
use Rattle.p8_inputs.proofs.Gathering.{mentioned, no_ring}
use Rattle.p8_inputs.proofs.sources.built_parts.Goals as goal

pub build_short_parts-requires-clause-mentioned : goal.build_short_parts-requires-clause-mentioned
build_short_parts-requires-clause-mentioned c = mentioned (named_sources_of c.args.project.now) c.requires.mentioned

pub build_short_parts-requires-clause-no_ring : goal.build_short_parts-requires-clause-no_ring
build_short_parts-requires-clause-no_ring c = no_ring (named_sources_of c.args.project.now) c.requires.no_ring

pub build_short_parts-requires-clause-proper : goal.build_short_parts-requires-clause-proper
build_short_parts-requires-clause-proper c i file stands = c.requires.proper i file (record { is = stands })

pub build_parts-requires-clause-mentioned : goal.build_parts-requires-clause-mentioned
build_parts-requires-clause-mentioned c = mentioned (named_sources_of c.args.project.now) c.requires.mentioned

pub build_parts-requires-clause-no_ring : goal.build_parts-requires-clause-no_ring
build_parts-requires-clause-no_ring c = no_ring (named_sources_of c.args.project.now) c.requires.no_ring

pub build_parts-requires-clause-proper : goal.build_parts-requires-clause-proper
build_parts-requires-clause-proper c i file stands = c.requires.proper i file (record { is = stands })

pub returns-then-short-clause-built : goal.returns-then-short-clause-built
returns-then-short-clause-built c =
    let sources = named_sources_of c.args.project.now in
    subst (λ (b : Bool). IfOk c.build_short_parts.result (λ built. AreBuiltBy b sources built.objects)) (sym c.if-short.true) (IfOk-weaker c.build_short_parts.result _ _ (λ built is. short-parts sources built is) c.build_short_parts.ensures.built)

pub returns-else-short-clause-built : goal.returns-else-short-clause-built
returns-else-short-clause-built c =
    let sources = named_sources_of c.args.project.now in
    subst (λ (b : Bool). IfOk c.build_parts.result (λ built. AreBuiltBy b sources built.objects)) (sym c.if-short.false) (IfOk-weaker c.build_parts.result _ _ (λ built is. long-parts sources built is) c.build_parts.ensures.built)
