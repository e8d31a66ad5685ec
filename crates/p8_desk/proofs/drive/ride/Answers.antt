use Rattle.std.proofs.Common.{◌∙◌, ◌<◌, ℕ, sym, subst}
use Rattle.p8_desk.proofs.Driving.{its-cog, its-pass, rode-all}
use Rattle.p8_desk.proofs.Gathering.{index-of}
use Rattle.p8_desk.proofs.Lookups.{none-some}
use Rattle.p8_desk.proofs.drive.ride.Goals as goal

pub ride-requires-clause-own : goal.ride-requires-clause-own
ride-requires-clause-own c = (c.requires.own, subst (λ (n : ℕ). n < 8) (sym (its-cog c.args.desk.now.world c.args.cog c.requires.cog c.args.seat.now.me c.args.riders.now c.requires.riding c.in-Some.rider _ c.in-Some.is)) c.requires.cog)

pub ride-requires-clause-idle : goal.ride-requires-clause-idle
ride-requires-clause-idle c = c.requires.riding.idle

pub ride-requires-clause-pass : goal.ride-requires-clause-pass
ride-requires-clause-pass c = its-pass c.args.desk.now.world c.args.cog c.requires.cog c.args.seat.now.me c.args.riders.now c.requires.riding c.in-Some.rider _ c.in-Some.is

pub unreachable-requires : goal.unreachable-requires
unreachable-requires c =
    let one = c.requires.riding.each c.args.cog c.requires.cog in
    none-some one.rider (sym c.in-None.is ∙ index-of c.args.riders.now c.args.cog _ _ one.there)

pub returns-clause-rode : goal.returns-clause-rode
returns-clause-rode c = rode-all c.args.desk.now.world c.args.cog c.requires.cog c.args.seat.now.me c.args.riders.now c.requires.riding c.in-Some.rider _ c.in-Some.is c.ride.new.seat.me c.ride.new.self c.args.count.now c.ride.new.count c.ride.result c.ride.ensures.own.1 c.ride.ensures.over c.ride.ensures.rode
