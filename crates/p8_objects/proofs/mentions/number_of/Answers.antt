use Rattle.std.proofs.Common.{◌≡◌, arith}
use Rattle.p8_tree.specs.Views.{named_source_of}
use Rattle.p8_objects.specs.Mentioned.{sources_of}
use Rattle.p8_objects.proofs.Elements.{mapped_at, is_within_mapped, each_more}
use Rattle.p8_objects.proofs.Finishing.{true_not_false}
use Rattle.p8_objects.proofs.mentions.number_of.Goals as goal

pub returns-then-is_same : goal.returns-then-is_same
returns-then-is_same c = record {
  file = named_source_of c.index-files-at.result;
  stands = mapped_at named_source_of c.args.files.now c.loop-at.at c.index-files-at.result (omega arith) c.index-files-at.is;
  named = c.is_same.ensures.0 c.if-is_same.true;
}

pub loop-at-preserved : goal.loop-at-preserved
loop-at-preserved c =
    each_more (λ f. ¬ (f.name ≡ c.args.name.now)) (sources_of c.args.files.now) c.loop-at.at (named_source_of c.index-files-at.result)
    (mapped_at named_source_of c.args.files.now c.loop-at.at c.index-files-at.result (omega arith) c.index-files-at.is)
    (λ e. true_not_false (c.is_same.ensures.1 e) c.if-is_same.false) c.loop-at.invariant

pub returns : goal.returns
returns c = λ h. c.loop-at.invariant h.number h.element (let w = is_within_mapped named_source_of c.args.files.now h.stands in omega arith) h.stands h.holds
