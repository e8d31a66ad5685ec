use Rattle.std.proofs.Common.{◌≡◌, ap, sym, ℕ, ◌+◌, Bool, arith, subst}
use Rattle.p8_access.specs.Worlds.{level_at}
use Rattle.p8_pins.specs.Levels.{is_high}
use Rattle.p8_pins.specs.LevelChanges.{lines_of}
use Rattle.p8_serial.specs.Receiving.{HasReceived}
use Rattle.p8_serial.proofs.Counting.{opened, opened-fewer, goes-on, ended, at-most-one}
use Rattle.p8_serial.proofs.frames.frames_text.Goals as goal

pub loop-frame-init : goal.loop-frame-init
loop-frame-init c =
    let changes = c.args.changes.now in let n = c.new-cursor.ensures in let g = c.go_to.ensures in
    record {
      received = opened c.args.pin c.args.bits c.args.end changes c.new-cursor.result c.go_to.new.self n.pins n.changes c.requires.rise g.passed g.later _ c.new-out.ensures.items;
      count = omega (arith, opened-fewer c.args.pin c.args.bits c.args.end changes c.new-cursor.result c.go_to.new.self n.pins n.changes c.requires.rise g.passed g.later);
    }

pub loop-frame-preserved : goal.loop-frame-preserved
loop-frame-preserved c =
    let pin = c.args.pin in let bits = c.args.bits in let end = c.args.end in
    let high : ℕ → Bool = λ t. is_high pin (level_at (lines_of c.args.changes.now) t) in
    let h = c.loop-frame.invariant.received in
    let sum : c.loop-frame.count + c.from-count.result ≡ _ = ap (λ (x : ℕ). c.loop-frame.count + x) c.from-count.ensures in
    record {
      received = subst (HasReceived high pin bits end c.receive.new.cursor c.push_frame.new.out.items) (sym sum)
          (goes-on high pin bits end c.loop-frame.cursor c.receive.new.cursor c.in-Some.frame c.loop-frame.out.items c.push_frame.new.out.items c.loop-frame.count h (c.in-Some.ensures.frame high h.after h.at) c.in_ok-push_frame.ensures);
      count = omega (arith, c.loop-frame.invariant.count, c.in-Some.ensures.shorter, c.from-count.ensures, at-most-one c.in-Some.frame.good);
    }

pub returns : goal.returns
returns c =
    let high : ℕ → Bool = λ t. is_high c.args.pin (level_at (lines_of c.args.changes.now) t) in
    let h = c.loop-frame.invariant.received in
    ended high c.args.pin c.args.bits c.args.end c.loop-frame.cursor c.loop-frame.out.items c.push_text.new.out.items c.push_decimal.new.out.items c.push_text-2.new.out.items c.loop-frame.count h
    (c.in_default.ensures.frame high h.after h.at) c.in_ok-push_text.ensures c.in_ok-push_decimal.ensures c.in_ok-push_text-2.ensures
