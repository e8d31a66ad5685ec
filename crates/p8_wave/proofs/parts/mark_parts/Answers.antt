use Rattle.std.proofs.Common.{◌∙◌, ap, Bool, ◌||◌, List, map, set}
use Rattle.p8_wave.specs.declared.entries.Entry.{Entry}
use Rattle.p8_wave.specs.Sections.{marked, some_differ}
use Rattle.p8_wave.proofs.Lists.{set_more, any_more}
use Rattle.p8_wave.proofs.parts.mark_parts.Goals as goal

pub loop-part-preserved : goal.loop-part-preserved
loop-part-preserved c =
    let old = c.args.old.now in
    let new = c.args.new.now in
    let i = c.loop-part.part-index in
    record {
      any = ap (λ (b : Bool). c.loop-part.any || b) c.mark-differs.ensures.any ∙ any_more (map (marked old new)) c.args.parts.now c.loop-part.parts i _ c.loop-part.invariant.marked c.loop-part-test.true (some_differ old new) c.loop-part.any c.loop-part.invariant.any;
      marked = ap (λ (es : List Entry). set c.loop-part.parts i es) c.mark-differs.ensures.marked ∙ set_more (map (marked old new)) c.args.parts.now c.loop-part.parts i _ c.loop-part.invariant.marked c.loop-part-test.true;
    }
