use Rattle.std.proofs.Common.{◌∙◌, ◌∷◌, ℕ, ap, subst, Some, List, arith}
use mathlib.Core.Option.{none}
use Rattle.atomic_table.specs.Table.{step as move}
use Rattle.p8_desk.specs.Rules.{Hand, Slot, Seized}
use Rattle.p8_desk.proofs.Gathering.{riding-all, found-free, ending}
use Rattle.p8_desk.proofs.desk.Desk.close.Goals as goal

pub seize-requires-clause-pass : goal.seize-requires-clause-pass
seize-requires-clause-pass c =
    let riding = riding-all c.args.self.now c.args.passes _ c.gather-seat.result.me c.requires.there c.gather-seat.ensures.gathered in
    let one = riding.each 0 (omega arith) in
    (one.p, one.has)

pub take_out-requires-clause-has : goal.take_out-requires-clause-has
take_out-requires-clause-has c =
    let riding = riding-all c.args.self.now c.args.passes _ c.gather-seat.result.me c.requires.there c.gather-seat.ensures.gathered in
    let free = found-free c.args.self.now.world _ _ _ c.seize.result riding c.seize.ensures.seized in
    let h : Seized (move 1 0 0 1 none) c.gather-seat.result.me 0 c.seize.new.seat.me = subst (λ (k : ℕ). Seized (move 1 0 0 1 none) c.gather-seat.result.me k c.seize.new.seat.me) free c.seize.ensures.seized in
    (h.1, ap (λ (m : Hand). m.1) h.4 ∙ ap (λ (l : List (ℕ × Slot)). (0, Some h.1) ∷ l) riding.idle.empty)

pub returns-clause-closed : goal.returns-clause-closed
returns-clause-closed c =
    let riding = riding-all c.args.self.now c.args.passes _ c.gather-seat.result.me c.requires.there c.gather-seat.ensures.gathered in
    let free = found-free c.args.self.now.world _ _ _ c.seize.result riding c.seize.ensures.seized in
    let h : Seized (move 1 0 0 1 none) c.gather-seat.result.me 0 c.seize.new.seat.me = subst (λ (k : ℕ). Seized (move 1 0 0 1 none) c.gather-seat.result.me k c.seize.new.seat.me) free c.seize.ensures.seized in
    let e = ending c.args.self.now c.args.passes _ c.gather-seat.result.me c.seize.new.seat.me c.take_out.result c.gather-seat.ensures.eight c.gather-seat.ensures.gathered h c.take_out.ensures.out.0 c.requires.over in record {
      r = e.r;
      each = e.each;
      history = c.end.ensures.past c.args.self.now.world e.r e.found;
      ended_run = e.ended;
      hub = c.end.ensures.hub c.args.self.now.world e.r e.found;
      world = c.end.ensures.world c.args.self.now.world e.r e.found;
    }
