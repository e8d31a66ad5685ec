use Rattle.std.proofs.Common.{◌∙◌, List, length, map, ap, sym, subst}
use Rattle.std.proofs.lemmas.List.{length-map}
use Rattle.p8_tree.specs.declared.projects.ProjectFile.{ProjectFile}
use Rattle.p8_tree.specs.Views.{named_sources_of, named_source_of}
use Rattle.p8_build.specs.Accepted.{IsAccepted}
use Rattle.p8_legend.specs.Projects.{IsLegendOf}
use Rattle.p8_inputs.proofs.Building.{long-image}
use Rattle.p8_inputs.proofs.Gathering.{mentioned, no_ring}
use Rattle.p8_inputs.proofs.sources.explained_project.Goals as goal

pub accept-requires-clause-mentioned : goal.accept-requires-clause-mentioned
accept-requires-clause-mentioned c = mentioned (named_sources_of c.args.gathered.now.project) c.requires.whole.mentioned

pub accept-requires-clause-no_ring : goal.accept-requires-clause-no_ring
accept-requires-clause-no_ring c = no_ring (named_sources_of c.args.gathered.now.project) c.requires.whole.no_ring

pub accept-requires-clause-proper : goal.accept-requires-clause-proper
accept-requires-clause-proper c i file stands = c.requires.whole.proper i file (record { is = stands })

pub legend_of_accepted-requires-clause-beside : goal.legend_of_accepted-requires-clause-beside
legend_of_accepted-requires-clause-beside c =
    ap length c.as_slice.ensures ∙ c.requires.beside ∙ length-map c.args.gathered.now.project.files named_source_of ∙ sym (ap length c.as_slice-files.ensures)

pub legend_of_accepted-requires-clause-accepted : goal.legend_of_accepted-requires-clause-accepted
legend_of_accepted-requires-clause-accepted c =
    subst (λ (fs : List ProjectFile). IsAccepted (map named_source_of fs) c.in-Ok.accepted) (sym c.as_slice-files.ensures) c.in-Ok.ensures.accepted

pub returns-clause-image : goal.returns-clause-image
returns-clause-image c =
    let sources = named_sources_of c.args.gathered.now.project in
    long-image sources _ (c.into_image-image.ensures.built sources c.in-Ok.ensures.accepted)

pub returns-clause-legend : goal.returns-clause-legend
returns-clause-legend c =
    subst (λ (fs : List ProjectFile). IsLegendOf c.args.gathered.now.sources (map named_source_of fs) c.in_ok-legend.legend) c.as_slice-files.ensures
    (subst (λ (texts : _). IsLegendOf texts (map named_source_of c.as_slice-files.result.now) c.in_ok-legend.legend) c.as_slice.ensures c.in_ok-legend.ensures)
