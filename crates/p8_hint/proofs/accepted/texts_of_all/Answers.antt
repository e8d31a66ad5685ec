use Rattle.std.proofs.Common.{◌∙◌, length, map, refl, arith}
use Rattle.std.proofs.lemmas.List.{length-map}
use Rattle.std.proofs.lemmas.Option.{slice_get_read}
use Rattle.p8_tree.specs.Views.{named_source_of}
use Rattle.p8_build.proofs.Lists.{mapped, each_more, count_more}
use Rattle.p8_hint.specs.Accepting.{IsTextAt}
use Rattle.p8_hint.proofs.AcceptedFiles.{text-here}
use Rattle.p8_hint.proofs.accepted.texts_of_all.Goals as goal

pub text_of_one-requires : goal.text_of_one-requires
text_of_one-requires c =
    c.requires.ready c.loop-index.index c.index-accepted-index.result (slice_get_read c.args.accepted.now (length c.args.accepted.now) c.loop-index.index c.index-accepted-index.result refl (omega arith) c.index-accepted-index.is)

pub loop-index-preserved : goal.loop-index-preserved
loop-index-preserved c =
    let files = map named_source_of c.args.files.now in
    let sources = c.args.sources.now in
    let accepted = c.args.accepted.now in
    let i = c.loop-index.index in
    let f = c.index-files-index.result in
    let b = c.index-sources-index.result in
    let x = c.index-accepted-index.result in
    let t = c.in_ok-text_of_one.field-0 in
    record {
      count = count_more c.loop-index.all c.push.new.self t i c.loop-index.invariant.count c.in_ok-push.ensures.ok;
      each = each_more (IsTextAt sources files accepted) c.loop-index.all c.push.new.self i t c.loop-index.invariant.each c.loop-index.invariant.count
          (text-here sources files accepted i b (named_source_of f) x t (slice_get_read sources (length sources) i b refl (omega arith) c.index-sources-index.is) (mapped named_source_of c.args.files.now i f c.loop-index-test.true c.index-files-index.is)
          (slice_get_read accepted (length accepted) i x refl (omega arith) c.index-accepted-index.is) c.in_ok-text_of_one.ensures)
          c.in_ok-push.ensures.ok;
    }

pub returns : goal.returns
returns c = record {
  count = c.loop-index.invariant.count ∙ (omega (arith, length-map c.args.files.now named_source_of));
  each = c.loop-index.invariant.each.at;
}
