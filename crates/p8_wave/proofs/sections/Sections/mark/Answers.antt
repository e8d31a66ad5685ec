use Rattle.std.proofs.Common.{◌∙◌, ap, sym}
use Rattle.p8_wave.specs.Sections.{marked}
use Rattle.p8_wave.specs.Parts.{together}
use Rattle.p8_wave.proofs.Same.{all_kept, none_differ, same_pictures}
use Rattle.p8_wave.proofs.Together.{together-map, together-any}
use Rattle.p8_wave.proofs.sections.Sections.mark.Goals as goal

pub returns-then-eq-clause-any : goal.returns-then-eq-clause-any
returns-then-eq-clause-any c = sym (none_differ c.args.old.now c.args.new.now (same_pictures _ _ c.if-eq.ensures) (together c.args.self.now.parts.items))

pub returns-then-eq-clause-entries : goal.returns-then-eq-clause-entries
returns-then-eq-clause-entries c = sym (all_kept c.args.old.now c.args.new.now (same_pictures _ _ c.if-eq.ensures) (together c.args.self.now.parts.items))

pub returns-clause-any : goal.returns-clause-any
returns-clause-any c = c.mark_all.ensures.any ∙ together-any c.args.old.now c.args.new.now c.args.self.now.parts.items

pub returns-clause-entries : goal.returns-clause-entries
returns-clause-entries c = ap together c.mark_all.ensures.marked ∙ together-map (marked c.args.old.now c.args.new.now) c.args.self.now.parts.items
