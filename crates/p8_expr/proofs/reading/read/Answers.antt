use Rattle.std.proofs.Common.{◌<◌, ◌≤◌, ap, subst, arith}
use Rattle.p8_grammar.specs.Views.{setting_of}
use Rattle.p8_grammar.specs.Least.{least}
use Rattle.p8_expr.specs.Reading.{state_of, Turns}
use Rattle.p8_expr.proofs.Answered.{started, turned, turned_fewer, ends_reading, high_reading}
use Rattle.p8_expr.proofs.reading.read.Goals as goal

pub turns-init : goal.turns-init
turns-init c = started _ (setting_of c.args.setting) c.args.here c.new.ensures.1 (ap setting_of c.new.ensures.2) c.new-3.ensures.0 c.new-2.ensures c.new.ensures.0 c.new-3.ensures.1

pub turns-preserved : goal.turns-preserved
turns-preserved c =
    let here = c.args.here in
    let old = c.turns.reader in
    turned (setting_of c.args.setting) here.bytes here.tokens here.at (least (state_of old)) old c.turn.new.self c.turns.invariant
    (subst (λ r. Turns (least (state_of old)) (state_of old) old.ahead r c.turn.new.self) c.in_default.is c.in_ok-ended.ensures)

pub turns-smaller : goal.turns-smaller
turns-smaller c =
    let here = c.args.here in
    let old = c.turns.reader in
    turned_fewer (setting_of c.args.setting) here.bytes here.tokens here.at (least (state_of old)) old c.turn.new.self c.turns.invariant
    (subst (λ r. Turns (least (state_of old)) (state_of old) old.ahead r c.turn.new.self) c.in_default.is c.in_ok-ended.ensures)

pub returns-in-Some : goal.returns-in-Some
returns-in-Some c =
    let here = c.args.here in
    let old = c.turns.reader in
    let low : least (state_of old) ≤ c.args.height = omega (arith, c.least.ensures, c.turns-test.true, c.requires.limit) in
    ends_reading (setting_of c.args.setting) c.args.height here.bytes here.tokens here.at old c.turn.new.self c.in-Some.ended (omega (arith, c.requires.within)) c.turns.invariant low
    (subst (λ r. Turns (least (state_of old)) (state_of old) old.ahead r c.turn.new.self) c.in-Some.is c.in_ok-ended.ensures)

pub returns : goal.returns
returns c =
    let here = c.args.here in
    let old = c.turns.reader in
    let high : c.args.height < least (state_of old) = omega (arith, c.least.ensures, c.turns-test.false) in
    high_reading (setting_of c.args.setting) c.args.height here.bytes here.tokens here.at old c.turns.invariant high

pub turn-requires : goal.turn-requires
turn-requires c = record { fits = c.turns.invariant.fits; tall = c.turns.invariant.tall }

pub least-requires : goal.least-requires
least-requires c = c.turns.invariant.tall
