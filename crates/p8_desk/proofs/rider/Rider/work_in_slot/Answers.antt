use Rattle.std.proofs.Common.{◌≡◌, ◌∙◌, [], ◌∷◌, ◌<◌, ◌^◌, ℕ, Some, List, sym, ap, subst, arith}
use Rattle.atomic_table.specs.Table.{rest}
use Rattle.p8_ledger.specs.declared.ledger.Ledger.{Ledger}
use Rattle.p8_ledger.specs.Ledgers.{Found}
use Rattle.p8_desk.specs.Passes.{DeskValue}
use Rattle.p8_desk.specs.Rules.{Slot}
use Rattle.p8_desk.proofs.Gathering.{first_slot}
use Rattle.p8_desk.proofs.Lookups.{some-same}
use Rattle.p8_desk.proofs.rider.Rider.work_in_slot.Goals as goal

pub slot_mut-requires : goal.slot_mut-requires
slot_mut-requires c =
    let h = c.requires.has in
    let table = ap (λ (d : DeskValue). d.table) c.desk.view_is in
    (c.requires.own.0 ∙ sym table, (Some h.0, h.2 ∙ ap (λ (l : List (ℕ × Slot)). (0, Some h.0) ∷ rest l) (sym h.2)))

pub work-requires-clause-stands : goal.work-requires-clause-stands
work-requires-clause-stands c =
    let h = c.requires.has in
    let here : c.slot_mut.result.now ≡ Some h.0 = ap first_slot (sym c.slot_mut.ensures.value ∙ h.2) in
    let same : h.0 ≡ c.in-Some.ledger = some-same _ _ (sym here ∙ c.in-Some.is) in
    let turns : c.args.desk.now.world.turns ≡ c.desk.inside.start.limits.turns = ap (λ (d : DeskValue). d.world.turns) (sym c.desk.view_is) in
    let most = c.desk.invariant.4 in
    let small : c.args.desk.now.world.turns < 2 ^ 63 = omega arith in
    (c.args.desk.now.world, h.1, ap (λ (d : DeskValue). d.world.script) c.desk.view_is, small, subst (λ (l : Ledger). Found c.args.desk.now.world l h.1) same h.3, h.4)

pub returns-clause-worked : goal.returns-clause-worked
returns-clause-worked c = λ ledger r slot stands carries.
    let here : c.slot_mut.result.now ≡ Some ledger = ap first_slot (sym c.slot_mut.ensures.value ∙ slot) in
    let same : ledger ≡ c.in-Some.ledger = some-same _ _ (sym here ∙ c.in-Some.is) in
    let none : rest c.args.seat.now.me.1 ≡ [] = ap rest slot in
    let script = ap (λ (d : DeskValue). d.world.script) c.desk.view_is in (
      c.work.new.ledger,
      ap (λ (l : List (ℕ × Slot)). (c.args.seat.now.me.0, (0, Some c.work.new.ledger) ∷ l)) none,
      c.work.ensures.worked c.args.desk.now.world r script (subst (λ (l : Ledger). Found c.args.desk.now.world l r) same stands) carries,
    )
