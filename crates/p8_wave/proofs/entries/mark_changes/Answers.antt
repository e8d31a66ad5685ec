use Rattle.std.proofs.Common.{◌∙◌, ap, Bool, ◌||◌, set}
use Rattle.p8_wave.specs.declared.entries.Entry.{Entry}
use Rattle.p8_wave.specs.Following.{differs}
use Rattle.p8_wave.specs.Sections.{marked}
use Rattle.p8_wave.proofs.Lists.{set_more, any_more}
use Rattle.p8_wave.proofs.entries.mark_changes.Goals as goal

pub loop-entry-preserved : goal.loop-entry-preserved
loop-entry-preserved c =
    let old = c.args.old.now in
    let new = c.args.new.now in
    let i = c.loop-entry.entry-index in
    record {
      any = ap (λ (b : Bool). c.loop-entry.any || b) c.mark_change-differs.ensures.differs ∙ any_more (marked old new) c.args.entries.now c.loop-entry.entries i _ c.loop-entry.invariant.marked c.loop-entry-test.true (λ (e : Entry). differs old new e.variable) c.loop-entry.any c.loop-entry.invariant.any;
      marked = ap (λ (e : Entry). set c.loop-entry.entries i e) c.mark_change-differs.ensures.marked ∙ set_more (marked old new) c.args.entries.now c.loop-entry.entries i _ c.loop-entry.invariant.marked c.loop-entry-test.true;
    }
