use Rattle.std.proofs.Common.{◌≡◌, ◌+◌, ◌-◌, ◌∙◌, Some, length, sym, ap, subst, arith}
use Rattle.std.specs.Prelude.{◌≤◌, option_map}
use Rattle.p8_tree.specs.Views.{tree_of}
use Rattle.p8_grammar.specs.Views.{setting_of}
use Rattle.p8_lexer.specs.Pieces as pieces
use Rattle.p8_lexer.specs.Pieces.{piece_of, pieces_of}
use Rattle.p8_expr.specs.Cursors.{Spot, moved, place_there}
use Rattle.p8_expr.proofs.Runs.{granted}
use Rattle.p8_lines.specs.Diagram.{Phrase, choices}
use Rattle.p8_lines.specs.Tokens.{piece}
use Rattle.p8_lines.specs.Tokens as line_tokens
use Rattle.p8_lines.specs.Lines.{Follows, behind, number_of}
use Rattle.p8_lines.specs.Stopping.{next, run}
use Rattle.p8_lines.proofs.Targets.{follow, no_follow, place_here}
use Rattle.p8_lines.proofs.Steps.{none_stops, ended_stops, stops_behind_tree, tree_step, kept_as, not_ended}
use Rattle.p8_lines.proofs.reading.step_over_tree.Goals as goal

pub returns-in_default-clause-stops : goal.returns-in_default-clause-stops
returns-in_default-clause-stops c =
    let old = c.args.here.now in
    none_stops (setting_of c.args.line) old.bytes old.tokens old.at c.args.state c.fault_at.result.number c.fault_at.result.place c.requires.within c.requires.unended c.requires.alone
    (ap (option_map setting_of) (sym c.in_default.is) ∙ c.expression.ensures) c.fault_at.ensures.number c.fault_at.ensures.place

pub returns-then-is_at_end-clause-stops : goal.returns-then-is_at_end-clause-stops
returns-then-is_at_end-clause-stops c =
    let old = c.args.here.now in
    let ge = granted c.is_at_end.result (length old.tokens ≤ old.at) c.if-is_at_end.true c.is_at_end.ensures in
    let le = c.requires.within in
    ended_stops (setting_of c.args.line) old.bytes old.tokens old.at c.args.state (setting_of c.in-Some.setting) c.fault_at-then-is_at_end.result.number c.fault_at-then-is_at_end.result.place
    (omega (arith, ge, le)) c.requires.alone (sym c.expression.ensures ∙ ap (option_map setting_of) c.in-Some.is) c.fault_at-then-is_at_end.ensures.number c.fault_at-then-is_at_end.ensures.place

pub read_tree-requires-clause-within : goal.read_tree-requires-clause-within
read_tree-requires-clause-within c = not_ended c.args.here.now c.is_at_end.result c.if-is_at_end.false c.is_at_end.ensures

pub arrows_behind-requires : goal.arrows_behind-requires
arrows_behind-requires c =
    let begin = ap (λ (s : Spot). s.at) c.copied-begin.ensures in
    let count = ap (λ (s : Spot). length s.tokens) c.copied-begin.ensures in
    let o = c.in_ok-expr.ensures.ordered in
    let w = c.in_ok-expr.ensures.within in
    record { ordered = omega (arith, begin, o, c.at.ensures); within = omega (arith, count, w, c.at.ensures) }

pub returns-in_default-target-clause-stops : goal.returns-in_default-target-clause-stops
returns-in_default-target-clause-stops c =
    let old = c.args.here.now in
    let there = c.read_tree.new.here in
    let same = c.in_ok-expr.ensures.moved in
    let arrows = c.arrows_behind.result.now in
    let s = setting_of c.args.line in
    let arrows_are : (h : Phrase) → (choices c.args.state).phrase ≡ Some h → arrows ≡ behind h (run old.bytes old.tokens old.at (there.at - old.at)) = λ h p.
    subst (λ (b : Spot). arrows ≡ behind h (run b.bytes b.tokens b.at (there.at - b.at))) c.copied-begin.ensures
    (subst (λ end. arrows ≡ behind h (run c.copied-begin.result.bytes c.copied-begin.result.tokens c.copied-begin.result.at (end - c.copied-begin.result.at))) c.at.ensures (c.arrows_behind.ensures h p)) in
    stops_behind_tree s old.bytes old.tokens old.at there.at c.args.state (setting_of c.in-Some.setting) (tree_of c.in_ok-expr.expr) arrows c.fault_at-in_default-target.result.number c.fault_at-in_default-target.result.place
    (not_ended old c.is_at_end.result c.if-is_at_end.false c.is_at_end.ensures) (sym c.expression.ensures ∙ ap (option_map setting_of) c.in-Some.is) c.in_ok-expr.ensures.read c.requires.alone arrows_are
    (λ r. subst (λ (x : Spot). ¬ Follows arrows (next x) r) same (no_follow arrows (next there) c.target.result c.target.ensures c.in_default-target.is r))
    (c.fault_at-in_default-target.ensures.number ∙ ap (λ x. number_of s (line_tokens.word (next x))) same) (c.fault_at-in_default-target.ensures.place ∙ ap (λ x. (next x).place) same)

pub returns-clause-advances : goal.returns-clause-advances
returns-clause-advances c =
    let old = c.args.here.now in
    let there = c.read_tree.new.here in
    let same = c.in_ok-expr.ensures.moved in
    let arrows = c.arrows_behind.result.now in
    let arrows_are : (h : Phrase) → (choices c.args.state).phrase ≡ Some h → arrows ≡ behind h (run old.bytes old.tokens old.at (there.at - old.at)) = λ h p.
    subst (λ (b : Spot). arrows ≡ behind h (run b.bytes b.tokens b.at (there.at - b.at))) c.copied-begin.ensures
    (subst (λ end. arrows ≡ behind h (run c.copied-begin.result.bytes c.copied-begin.result.tokens c.copied-begin.result.at (end - c.copied-begin.result.at))) c.at.ensures (c.arrows_behind.ensures h p)) in
    let expr = pieces.tree (tree_of c.in_ok-expr.expr) in
    let place = c.place.ensures ∙ ap place_there c.copied-begin.ensures ∙ place_here old in
    tree_step old c.advance.new.self there.at c.args.state c.in-Some-target.next (setting_of c.in-Some.setting) (tree_of c.in_ok-expr.expr) arrows (pieces_of c.args.pieces.now.items) (pieces_of c.push.new.pieces.items) (pieces_of c.push-2.new.pieces.items)
    (not_ended old c.is_at_end.result c.if-is_at_end.false c.is_at_end.ensures) (sym c.expression.ensures ∙ ap (option_map setting_of) c.in-Some.is) c.in_ok-expr.ensures.read arrows_are
    (subst (λ (x : Spot). Follows arrows (next x) c.in-Some-target.next) same (follow arrows (next there) c.target.result c.in-Some-target.next c.target.ensures c.in-Some-target.is))
    (kept_as (pieces_of c.args.pieces.now.items) (pieces_of c.push.new.pieces.items) (expr c.place.result) (expr (next old).place) c.in_ok-push.ensures (ap expr place))
    (kept_as (pieces_of c.push.new.pieces.items) (pieces_of c.push-2.new.pieces.items) (piece_of c.in_ok-piece.piece) (piece (next (moved old there.at))) c.in_ok-push-2.ensures (c.in_ok-piece.ensures ∙ ap (λ x. piece (next x)) same))
    (c.advance.ensures ∙ ap (λ (x : Spot). moved x (there.at + 1)) same)
