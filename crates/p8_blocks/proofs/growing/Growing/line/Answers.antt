use Rattle.std.proofs.Common.{None, refl, sym, subst}
use Rattle.p8_expr.specs.Cursors.{Spot}
use Rattle.p8_lines.specs.Tokens.{left, left_behind}
use Rattle.p8_blocks.specs.Standing.{Continues}
use Rattle.p8_blocks.specs.declared.growing.Growing.{Growing}
use Rattle.p8_blocks.proofs.Entering.{granted, denied}
use Rattle.p8_blocks.proofs.Stepping.{blank_continues, later_by_one}
use Rattle.p8_blocks.proofs.growing.Growing.line.Goals as goal

pub returns-then-is_line_end-clause-read : goal.returns-then-is_line_end-clause-read
returns-then-is_line_end-clause-read c = λ x s.
    let file : Growing = record { done = c.args.self.now.done; current = c.args.self.now.current; begun = None } in
    let ts = left c.args.here.now in
    let behind : Continues x ts file (left_behind c.args.here.now) = blank_continues x c.at-first.ensures (granted c.if-is_line_end.true c.is_line_end.ensures) s refl refl refl in
    subst (λ (t : Spot). Continues x ts file (left t)) (sym c.advance.ensures) behind

pub returns-then-is_line_end-clause-later : goal.returns-then-is_line_end-clause-later
returns-then-is_line_end-clause-later c = later_by_one c.requires c.advance.ensures

pub line_from-requires-clause-not_end : goal.line_from-requires-clause-not_end
line_from-requires-clause-not_end c = denied c.if-is_line_end.false c.is_line_end.ensures
