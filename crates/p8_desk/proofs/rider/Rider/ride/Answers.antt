use Rattle.std.proofs.Common.{sym, ap, refl}
use Rattle.p8_access.specs.Worlds.{World}
use Rattle.p8_desk.specs.Passes.{DeskValue}
use Rattle.p8_desk.specs.Rules.{Hand}
use Rattle.p8_desk.proofs.Carrying.{carries-ran}
use Rattle.p8_desk.proofs.Trying.{lost, won, can-tell, can-free, rode}
use Rattle.p8_desk.proofs.rider.Rider.ride.Goals as goal

pub returns-then-found-ne0-clause-rode : goal.returns-then-found-ne0-clause-rode
returns-then-found-ne0-clause-rode c = λ p has keeps.
    let limit = ap (λ (d : DeskValue). d.world.clocks) (sym c.desk.view_is) in
    (lost c.args.self.now.cog c.seize-found.result c.args.seat.now.me c.seize-found.new.seat.me c.if-found-ne0.true c.seize-found.ensures.seized, carries-ran c.args.desk.now.world p.seen c.args.self.now c.find.new.self keeps.carries (c.find.ensures.rides c.args.desk.now.world c.args.self.now.cog p.seen limit keeps.carries.rides), refl)

pub work_in_slot-outcome-requires-clause-has : goal.work_in_slot-outcome-requires-clause-has
work_in_slot-outcome-requires-clause-has c =
    let h = c.requires.pass in
    let n = c.args.self.now.cog in
    let w : World = c.args.desk.now.world in
    let limit = ap (λ (d : DeskValue). d.world.clocks) (sym c.desk.view_is) in
    let k = won w n c.seize-found.result c.args.seat.now.me c.seize-found.new.seat.me h.0 c.args.self.now c.find.new.self c.requires.idle h.1 refl h.2 (c.find.ensures.rides w n h.0.seen limit h.2.carries.rides) c.if-found-ne0.false c.seize-found.ensures.seized in
    (k.ledger, k.r, ap (λ (a : Hand). a.1) k.hand, k.stands, k.carries)

pub tell-requires-clause-told : goal.tell-requires-clause-told
tell-requires-clause-told c =
    let h = c.requires.pass in
    let n = c.args.self.now.cog in
    let w : World = c.args.desk.now.world in
    let limit = ap (λ (d : DeskValue). d.world.clocks) (sym c.desk.view_is) in
    let k = won w n c.seize-found.result c.args.seat.now.me c.seize-found.new.seat.me h.0 c.args.self.now c.find.new.self c.requires.idle h.1 refl h.2 (c.find.ensures.rides w n h.0.seen limit h.2.carries.rides) c.if-found-ne0.false c.seize-found.ensures.seized in
    let x = c.work_in_slot-outcome.ensures.worked k.ledger k.r (ap (λ (a : Hand). a.1) k.hand) k.stands k.carries in
    can-tell w n c.args.seat.now.me c.seize-found.new.seat.me h.0 c.requires.idle h.1 _ k _ c.work_in_slot-outcome.result x.0 _ x.2 c.work_in_slot-outcome.new.seat.me x.1

pub release-requires-clause-free : goal.release-requires-clause-free
release-requires-clause-free c =
    let h = c.requires.pass in
    let n = c.args.self.now.cog in
    let w : World = c.args.desk.now.world in
    let limit = ap (λ (d : DeskValue). d.world.clocks) (sym c.desk.view_is) in
    let k = won w n c.seize-found.result c.args.seat.now.me c.seize-found.new.seat.me h.0 c.args.self.now c.find.new.self c.requires.idle h.1 refl h.2 (c.find.ensures.rides w n h.0.seen limit h.2.carries.rides) c.if-found-ne0.false c.seize-found.ensures.seized in
    let x = c.work_in_slot-outcome.ensures.worked k.ledger k.r (ap (λ (a : Hand). a.1) k.hand) k.stands k.carries in
    can-free w n c.args.seat.now.me c.seize-found.new.seat.me h.0 c.requires.idle h.1 _ k _ c.work_in_slot-outcome.result x.0 _ x.2 c.work_in_slot-outcome.new.seat.me x.1 c.tell.new.seat.me c.tell.ensures.told

pub returns-clause-rode : goal.returns-clause-rode
returns-clause-rode c = λ p has keeps.
    let n = c.args.self.now.cog in
    let w : World = c.args.desk.now.world in
    let limit = ap (λ (d : DeskValue). d.world.clocks) (sym c.desk.view_is) in
    let k = won w n c.seize-found.result c.args.seat.now.me c.seize-found.new.seat.me p c.args.self.now c.find.new.self c.requires.idle has refl keeps (c.find.ensures.rides w n p.seen limit keeps.carries.rides) c.if-found-ne0.false c.seize-found.ensures.seized in
    let x = c.work_in_slot-outcome.ensures.worked k.ledger k.r (ap (λ (a : Hand). a.1) k.hand) k.stands k.carries in
    rode w n c.args.seat.now.me c.seize-found.new.seat.me p c.requires.idle has _ k _ c.work_in_slot-outcome.result x.0 _ x.2 c.work_in_slot-outcome.new.seat.me x.1 c.tell.new.seat.me c.tell.ensures.told c.release.new.seat.me c.args.count.now c.release.ensures.released
