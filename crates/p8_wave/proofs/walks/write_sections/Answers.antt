use Rattle.std.proofs.Common.{◌≡◌, ◌∙◌, ap, subst, refl, ℕ, ◌*◌, ◌-◌, arith}
use Rattle.std.proofs.lemmas.Result.{on_ok_weaker}
use Rattle.p8_wave.specs.Scale.{frequency, period_of, ticks_in}
use Rattle.p8_wave.specs.Walks.{IsAt, Shows}
use Rattle.p8_wave.specs.Sections.{IsDone}
use Rattle.p8_wave.specs.Parts.{together}
use Rattle.p8_wave.proofs.Walking.{begun, stepped, end_entries, end_text}
use Rattle.p8_wave.proofs.Picturing.{shows_end}
use Rattle.p8_wave.proofs.walks.write_sections.Goals as goal

pub loop-next-init : goal.loop-next-init
loop-next-init c = record {
  within = c.next_clock-next.ensures.within;
  ticks = refl;
  done = λ w past vs are set at unchanged.
      begun w past vs are 0 c.next_clock-next.result c.args.turns.now c.args.course.now c.snapshot-old.result set.rises at (omega (arith, c.next_clock-next.ensures.within, set.ends)) c.next_clock-next.ensures.quiet (omega arith) c.snapshot-old.ensures.signals (λ turns. c.snapshot-old.ensures.pins w turns)
      refl (λ some. c.next_clock-next.ensures.later 0 (omega (arith, some, set.ends)) at.later at.line) c.args.sections.now.text.items (together c.args.sections.now.parts.items) unchanged;
}

pub loop-next-smaller : goal.loop-next-smaller
loop-next-smaller c =
    let later = c.next_clock-next-in-loop-next.ensures.later c.loop-next.next c.loop-next-test.true c.go-left.ensures.turn c.go-left.ensures.line in
    omega arith

pub loop-next-preserved : goal.loop-next-preserved
loop-next-preserved c =
    let clock = c.loop-next.next in
    let next = c.next_clock-next-in-loop-next in
    let later = next.ensures.later clock c.loop-next-test.true c.go-left.ensures.turn c.go-left.ensures.line in
    record {
      within = next.ensures.within;
      ticks = c.change.ensures.ticks ∙ c.loop-next.invariant.ticks;
      done = λ w past vs are set at unchanged.
          let before = c.loop-next.invariant.done w past vs are set at unchanged in
          let here = c.go-left.ensures.at w past (clock - 1) set.lines set.rises (omega arith) before.at in
          let units = c.loop-next.invariant.ticks ∙ set.lasts in
          stepped w past vs are clock next.result c.go-left.result.now c.go-left.new.self c.snapshot-new.result set.rises here (omega (arith, next.ensures.within, set.ends)) next.ensures.quiet (omega (arith, later)) c.snapshot-new.ensures.signals (λ turns. c.snapshot-new.ensures.pins w turns)
          c.loop-next.left.now c.loop-next.course c.loop-next.old (together c.loop-next.sections.parts.items) (together c.change.new.self.parts.items) c.args.sections.now.text.items c.loop-next.sections.text.items c.change.new.self.text.items (clock * c.loop-next.sections.ticks)
          before (omega (arith, c.loop-next-test.true, set.ends)) later (ap (λ (n : ℕ). clock * n) units) c.change.ensures.entries c.in_ok-change.ensures.text;
    }

pub returns-clause-text : goal.returns-clause-text
returns-clause-text c = λ w past vs are set at unchanged.
    let inv = c.loop-next.invariant.done w past vs are set at unchanged in
    let is_end : c.loop-next.next ≡ c.args.end = omega (arith, c.loop-next.invariant.within, c.loop-next-test.false) in
    let left = c.loop-next.left.now in
    let course = c.loop-next.course in
    let done = subst (λ (n : ℕ). IsDone w past vs n left course c.loop-next.old (together c.loop-next.sections.parts.items) c.args.sections.now.text.items c.loop-next.sections.text.items) (is_end ∙ set.ends) inv in
    let at_end = subst (λ (n : ℕ). IsAt w past (n - 1) left course) is_end inv.at in
    let shows = subst (λ (n : ℕ). Shows w past n c.snapshot.result) set.ends (shows_end w past c.args.end left course c.take_turns.new.signals c.snapshot.result set.rises set.ends at_end (c.take_turns.ensures.signals w) c.snapshot.ensures.signals (λ turns. c.snapshot.ensures.pins w turns)) in
    let time = c.args.end * c.loop-next.sections.ticks in
    let is_time = ap (λ (n : ℕ). c.args.end * n) (c.loop-next.invariant.ticks ∙ set.lasts) ∙ ap (λ (n : ℕ). n * ticks_in (period_of (frequency w))) set.ends in
    on_ok_weaker c.end.result
    (λ e. end_text w past vs are left course c.loop-next.old c.snapshot.result (together c.loop-next.sections.parts.items) (together c.end.new.self.parts.items) c.args.sections.now.text.items c.loop-next.sections.text.items time done is_time shows c.end.ensures.entries c.args.end c.end.new.self.text.items set.ends e)
    c.end.ensures.text

pub returns-clause-entries : goal.returns-clause-entries
returns-clause-entries c = λ w past vs are set at unchanged.
    let inv = c.loop-next.invariant.done w past vs are set at unchanged in
    let is_end : c.loop-next.next ≡ c.args.end = omega (arith, c.loop-next.invariant.within, c.loop-next-test.false) in
    let left = c.loop-next.left.now in
    let course = c.loop-next.course in
    let done = subst (λ (n : ℕ). IsDone w past vs n left course c.loop-next.old (together c.loop-next.sections.parts.items) c.args.sections.now.text.items c.loop-next.sections.text.items) (is_end ∙ set.ends) inv in
    let at_end = subst (λ (n : ℕ). IsAt w past (n - 1) left course) is_end inv.at in
    let shows = subst (λ (n : ℕ). Shows w past n c.snapshot.result) set.ends (shows_end w past c.args.end left course c.take_turns.new.signals c.snapshot.result set.rises set.ends at_end (c.take_turns.ensures.signals w) c.snapshot.ensures.signals (λ turns. c.snapshot.ensures.pins w turns)) in
    let time = c.args.end * c.loop-next.sections.ticks in
    let is_time = ap (λ (n : ℕ). c.args.end * n) (c.loop-next.invariant.ticks ∙ set.lasts) ∙ ap (λ (n : ℕ). n * ticks_in (period_of (frequency w))) set.ends in
    on_ok_weaker c.end.result
    (λ _. end_entries w past vs are left course c.loop-next.old c.snapshot.result (together c.loop-next.sections.parts.items) (together c.end.new.self.parts.items) c.args.sections.now.text.items c.loop-next.sections.text.items time done is_time shows c.end.ensures.entries)
    c.end.ensures.text
