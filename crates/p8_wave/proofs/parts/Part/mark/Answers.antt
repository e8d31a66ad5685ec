use Rattle.std.proofs.Common.{◌∙◌, ap, sym, map}
use Rattle.p8_wave.specs.Sections.{marked, some_differ}
use Rattle.p8_wave.proofs.Together.{inside-marked, part-kept, part-silent}
use Rattle.p8_wave.proofs.parts.Part.mark.Goals as goal

pub returns-then-is_same_in-clause-any : goal.returns-then-is_same_in-clause-any
returns-then-is_same_in-clause-any c =
    let old = c.args.old.now in
    let new = c.args.new.now in
    sym (ap (some_differ old new) (sym c.self.view_is) ∙ part-silent old new c.self.inside.scope (c.is_same_in.ensures c.if-is_same_in.true) c.self.inside.entries.items c.self.invariant)

pub returns-then-is_same_in-clause-marked : goal.returns-then-is_same_in-clause-marked
returns-then-is_same_in-clause-marked c =
    let old = c.args.old.now in
    let new = c.args.new.now in
    sym (ap (map (marked old new)) (sym c.self.view_is) ∙ part-kept old new c.self.inside.scope (c.is_same_in.ensures c.if-is_same_in.true) c.self.inside.entries.items c.self.invariant ∙ c.self.view_is)

pub invariant_of-self : goal.invariant_of-self
invariant_of-self c =
    rw c.mark_entries.ensures.marked (inside-marked c.args.old.now c.args.new.now c.self.inside.scope c.self.inside.entries.items c.self.invariant)
