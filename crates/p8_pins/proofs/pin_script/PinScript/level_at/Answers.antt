-- The levels of the lines up to the clock.
use Rattle.std.proofs.Common.{sym, ◌∙◌}
use Rattle.p8_pins.proofs.Levels.{level_at-is}
use Rattle.p8_pins.proofs.pin_script.PinScript.level_at.Goals as goal

pub returns : goal.returns
returns c =
    c.levels_after.ensures
    ∙ sym (level_at-is c.args.self.now c.lines_by.result c.args.clock (record {
      within = c.lines_by.ensures.within;
      before = c.lines_by.ensures.before;
      after = c.lines_by.ensures.after;
    }))
