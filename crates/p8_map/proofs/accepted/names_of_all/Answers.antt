use Rattle.std.proofs.Common.{◌∙◌, length, map, refl, arith}
use Rattle.std.proofs.lemmas.List.{length-map}
use Rattle.std.proofs.lemmas.Option.{slice_get_read}
use Rattle.p8_tree.specs.Views.{named_source_of}
use Rattle.p8_build.proofs.Lists.{mapped, each_more, count_more}
use Rattle.p8_map.specs.Accepting.{AreNamesAt}
use Rattle.p8_map.proofs.AcceptedFiles.{names-here}
use Rattle.p8_map.proofs.accepted.names_of_all.Goals as goal

pub loop-index-preserved : goal.loop-index-preserved
loop-index-preserved c =
    let files = map named_source_of c.args.files.now in
    let sources = c.args.sources.now in
    let accepted = c.args.accepted.now in
    let i = c.loop-index.index in
    let x = c.index-files-index.result in
    let b = c.index-sources-index.result in
    let m = c.index-accepted-index.result in
    let n = c.in_ok-names.names in
    record {
      count = count_more c.loop-index.all c.push.new.self n i c.loop-index.invariant.count c.in_ok-push.ensures.ok;
      each = each_more (AreNamesAt sources files accepted) c.loop-index.all c.push.new.self i n c.loop-index.invariant.each c.loop-index.invariant.count
          (names-here sources files accepted i b (named_source_of x) m n (slice_get_read sources (length sources) i b refl (omega arith) c.index-sources-index.is) (mapped named_source_of c.args.files.now i x c.loop-index-test.true c.index-files-index.is)
          (slice_get_read accepted (length accepted) i m refl (omega arith) c.index-accepted-index.is) c.in_ok-names.ensures)
          c.in_ok-push.ensures.ok;
    }

pub returns : goal.returns
returns c = record {
  count = c.loop-index.invariant.count ∙ (omega (arith, length-map c.args.files.now named_source_of));
  each = c.loop-index.invariant.each.at;
}
