use Rattle.std.proofs.Common.{◌≡◌, ◌∙◌, ap, sym, subst, ℕ, List, ◌++◌, arith}
use Rattle.p8_access.specs.Worlds.{Line, level_at}
use Rattle.p8_pins.specs.Matches.{IsBefore}
use Rattle.p8_wave.specs.declared.courses.Course.{Course}
use Rattle.p8_wave.specs.Variables.{variables}
use Rattle.p8_pins.specs.Levels.{by}
use Rattle.p8_wave.specs.Wave.{changes_text}
use Rattle.p8_wave.specs.Walks.{IsSet}
use Rattle.p8_wave.proofs.Sectioning.{all_variables}
use Rattle.p8_wave.proofs.Picturing.{opened, before_end, shows_at}
use Rattle.p8_wave.proofs.walks.walk_along.Goals as goal

pub returns : goal.returns
returns c = λ w past set is_past.
    let span = c.open-course.result.span in
    let course : Course = record { signals = c.take_turns-left.new.signals; span = span } in
    let levels = subst (λ (script : List Line). (u : ℕ) → IsBefore u span.end → level_at script u ≡ span.levels) (sym set.lines) c.open-course.ensures.levels in
    let at = opened w past c.args.turns.now c.take_turns-left.result.now c.take_turns-left.new.signals c.open-course.result.signals span set.rises is_past c.take_turns-left.ensures.left (c.open-course.ensures.signals w) (c.take_turns-left.ensures.signals w) (before_end 0 _ c.open-course.ensures.later) levels in
    let set' : IsSet w past c.args.script.now c.in_ok-sections.sections.ticks c.args.end = record { lines = set.lines; rises = set.rises; ends = set.ends; lasts = c.in_ok-sections.ensures.ticks ∙ set.lasts } in
    let vs = variables c.args.pins_only in
    let are = all_variables c.args.pins_only in
    record {
      text = c.in_ok-write_sections.ensures.text w past vs are set' at c.in_ok-sections.ensures.entries ∙ ap (λ (xs : List ℕ). xs ++ changes_text w past vs) c.in_ok-sections.ensures.text;
      entries = c.in_ok-write_sections.ensures.entries w past vs are set' at c.in_ok-sections.ensures.entries;
      first = shows_at w past 0 c.take_turns-left.result.now course c.snapshot-first.result at (omega arith) c.snapshot-first.ensures.signals (c.snapshot-first.ensures.pins w (by past 0) at.signals);
    }
