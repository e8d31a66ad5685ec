-- The levels of the lines up to the clock hold up to the next line.
use Rattle.std.proofs.Common.{sym, ◌∙◌}
use Rattle.p8_pins.proofs.Levels.{SplitsAt, level_at-is, next_clock-is, level_at-same, next-later}
use Rattle.p8_pins.proofs.pin_script.PinScript.span_near.Goals as goal

splits : (c : goal.After-span_by) → SplitsAt c.args.self.now c.lines_near.result c.args.clock
splits c = record {
  within = c.lines_near.ensures.within;
  before = c.lines_near.ensures.before;
  after = c.lines_near.ensures.after;
}

pub returns-clause-levels : goal.returns-clause-levels
returns-clause-levels c = c.span_by.ensures.levels ∙ sym (level_at-is c.args.self.now c.lines_near.result c.args.clock (splits c))

pub returns-clause-end : goal.returns-clause-end
returns-clause-end c = c.span_by.ensures.end ∙ sym (next_clock-is c.args.self.now c.lines_near.result c.args.clock (splits c))

pub returns-clause-later : goal.returns-clause-later
returns-clause-later c = next-later c.args.self.now c.lines_near.result c.args.clock c.span_by.result.end (splits c) c.span_by.ensures.end

pub returns-clause-same : goal.returns-clause-same
returns-clause-same c = λ u le before.
    level_at-same c.args.self.now c.lines_near.result c.args.clock u c.span_by.result.end (splits c) c.span_by.ensures.end le before
    ∙ sym c.span_by.ensures.levels
