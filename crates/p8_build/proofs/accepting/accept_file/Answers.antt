use Rattle.std.proofs.Common.{◌==◌, length, map, refl, sym, subst, arith}
use Rattle.std.specs.Prelude.{IfOk, IfErr}
use Rattle.std.proofs.lemmas.Option.{slice_get_read}
use Rattle.std.proofs.lemmas.Result.{IfOk-weaker}
use Rattle.p8_tree.specs.declared.projects.ProjectFile.{ProjectFile}
use Rattle.p8_tree.specs.Proper.{IsProperFile}
use Rattle.p8_tree.specs.Views.{source_of, named_source_of}
use Rattle.p8_build.specs.Builds.{IsFile}
use Rattle.p8_build.specs.Phases.{IsAcceptedFile, IsFirstOfFile, IfPhaseRefused, IsFirstIn}
use Rattle.p8_build.proofs.Lists.{mapped}
use Rattle.p8_build.proofs.Refusals.{first_in}
use Rattle.p8_build.proofs.Here.{accepted_here, refused_as}
use Rattle.p8_build.proofs.accepting.accept_file.Goals as goal

pub file_of-requires : goal.file_of-requires
file_of-requires c =
    subst (λ (p : ProjectFile). IsProperFile (source_of p.tree)) c.index-files-index.is
    (c.requires.proper c.args.index (named_source_of c.index-files-index.result) (mapped named_source_of c.args.files.now c.args.index c.index-files-index.result c.requires.within c.index-files-index.is))

pub returns-clause-accepted : goal.returns-clause-accepted
returns-clause-accepted c =
    let files = map named_source_of c.args.files.now in
    let children = c.args.children.now in
    let i = c.args.index in
    let file = named_source_of c.index-files-index.result in
    let seen = c.index-children-index.result in
    let is : IsFile files children i file seen = record {
      stands = mapped named_source_of c.args.files.now i c.index-files-index.result c.requires.within c.index-files-index.is;
      beside = slice_get_read children (length children) i seen refl (omega (arith, c.requires.within, c.requires.children)) c.index-children-index.is;
    } in
    IfOk-weaker c.file_of.result _ _ (λ f h. accepted_here files children i file seen f is h)
    (subst (λ (p : ProjectFile). IfOk c.file_of.result (IsAcceptedFile (source_of p.tree) seen (i == 0))) (sym c.index-files-index.is) c.file_of.ensures.accepted)

pub returns-clause-refused : goal.returns-clause-refused
returns-clause-refused c =
    let files = map named_source_of c.args.files.now in
    let children = c.args.children.now in
    let i = c.args.index in
    let file = named_source_of c.index-files-index.result in
    let seen = c.index-children-index.result in
    let is : IsFile files children i file seen = record {
      stands = mapped named_source_of c.args.files.now i c.index-files-index.result c.requires.within c.index-files-index.is;
      beside = slice_get_read children (length children) i seen refl (omega (arith, c.requires.within, c.requires.children)) c.index-children-index.is;
    } in
    refused_as (IsFirstOfFile file.tree seen i) (IsFirstIn files children i) c.file_of.result (first_in files children i file seen is)
    (subst (λ (p : ProjectFile). IfErr c.file_of.result (IfPhaseRefused (IsFirstOfFile (source_of p.tree) seen i))) (sym c.index-files-index.is) c.file_of.ensures.refused)
