use Rattle.std.proofs.Common.{◌∙◌, ap, sym, ◌++◌, ℕ, List}
use Rattle.std.specs.List.{flat_map}
use Rattle.std.proofs.lemmas.List.{append-nil}
use Rattle.p8_wave.specs.Sections.{change_text}
use Rattle.p8_wave.proofs.Together.{part-textless}
use Rattle.p8_wave.proofs.parts.Part.push.Goals as goal

pub returns-then-is_same_in : goal.returns-then-is_same_in
returns-then-is_same_in c =
    let old = c.args.old.now in
    let new = c.args.new.now in
    sym (
    ap (λ (xs : List ℕ). c.args.out.now.items ++ xs) (ap (flat_map (change_text old new)) (sym c.self.view_is) ∙ part-textless old new c.self.inside.scope (c.is_same_in.ensures c.if-is_same_in.true) c.self.inside.entries.items c.self.invariant)
    ∙ append-nil c.args.out.now.items
    )
