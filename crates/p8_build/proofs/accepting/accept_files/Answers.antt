use Rattle.std.proofs.Common.{map, ◌∙◌, arith}
use Rattle.std.proofs.lemmas.List.{length-map}
use Rattle.p8_tree.specs.Views.{named_source_of}
use Rattle.p8_build.specs.Phases.{IsAcceptedAt}
use Rattle.p8_build.proofs.Lists.{each_more, count_more}
use Rattle.p8_build.proofs.Earliest.{none_below, first_begins}
use Rattle.p8_build.proofs.accepting.accept_files.Goals as goal

pub first_of_all-requires-clause-first : goal.first_of_all-requires-clause-first
first_of_all-requires-clause-first c =
    let files = map named_source_of c.args.files.now in
    let children = c.args.children.now in
    let i = c.loop-index.index in
    rw c.in-Err-Refused.field-0-is
    (first_begins files children i c.in-Err-Refused.first (none_below files children c.loop-index.accepted i c.loop-index.invariant.each c.loop-index.invariant.count)
    (rw c.in-Err-Refused.field-0-is at c.in-Err-Refused.ensures.refused))

pub loop-index-preserved : goal.loop-index-preserved
loop-index-preserved c =
    let files = map named_source_of c.args.files.now in
    let i = c.loop-index.index in
    record {
      count = count_more c.loop-index.accepted c.push.new.self c.in-Ok.file i c.loop-index.invariant.count c.in_ok-push-in-Ok.ensures.ok;
      each = each_more (IsAcceptedAt files c.args.children.now) c.loop-index.accepted c.push.new.self i c.in-Ok.file c.loop-index.invariant.each c.loop-index.invariant.count c.in-Ok.ensures.accepted c.in_ok-push-in-Ok.ensures.ok;
    }

pub returns-clause-accepted : goal.returns-clause-accepted
returns-clause-accepted c = record {
  count = c.loop-index.invariant.count ∙ (omega (arith, length-map c.args.files.now named_source_of));
  each = c.loop-index.invariant.each.at;
}
