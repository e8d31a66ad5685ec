use Rattle.std.proofs.Common.{map, ap, ◌∙◌, subst}
use Rattle.std.specs.Prelude.{option_map}
use Rattle.p8_tree.specs.Views.{datum_of}
use Rattle.p8_declarations.specs.Lines.{items}
use Rattle.p8_declarations.specs.DataViews.{part_of, rest, from, stage_of, Steps}
use Rattle.p8_declarations.proofs.Stepping.{stops, goes_on, next_from, no_stage}
use Rattle.p8_declarations.proofs.items.items_from.Goals as goal

pub returns-in_default-2 : goal.returns-in_default-2
returns-in_default-2 c =
    stops _ (map datum_of c.parts.read) (map datum_of c.step.new.read) (stage_of c.parts.stage) (part_of c.in-Some.part) (rest c.parts.row)
    (c.parts.invariant ∙ ap (λ n. items (map datum_of c.parts.read) (stage_of c.parts.stage) (from n c.parts.row)) c.in-Some.is)
    (subst (λ o. Steps (map datum_of c.parts.read) (stage_of c.parts.stage) (part_of c.in-Some.part) (map datum_of c.step.new.read) o) (no_stage c.in_ok-further.field-0 c.in_default-2.not-Some) c.in_ok-further.ensures)

pub parts-preserved : goal.parts-preserved
parts-preserved c =
    goes_on _ (map datum_of c.parts.read) (map datum_of c.step.new.read) (stage_of c.parts.stage) (stage_of c.in-Some-2.further) (part_of c.in-Some.part) (rest c.parts.row)
    (c.parts.invariant ∙ ap (λ n. items (map datum_of c.parts.read) (stage_of c.parts.stage) (from n c.parts.row)) c.in-Some.is)
    (subst (λ o. Steps (map datum_of c.parts.read) (stage_of c.parts.stage) (part_of c.in-Some.part) (map datum_of c.step.new.read) (option_map stage_of o)) c.in-Some-2.is c.in_ok-further.ensures)
    ∙ ap (λ l. items (map datum_of c.step.new.read) (stage_of c.in-Some-2.further) l) (next_from c.next-next.result c.parts.row c.next-next.new.self c.next-next.ensures)
