-- The walk over the lines.
use Rattle.std.proofs.Common.{◌≡◌, refl, subst, List, rules, arith}
use Rattle.std.specs.List.Sorted.{IsStrictlyIncreasing}
use Rattle.p8_access.specs.Worlds.{Line}
use Rattle.p8_pins.specs.Scripts.{clocks_of}
use Rattle.p8_pins.specs.declared.line_text.Change.{Change}
use Rattle.p8_pins.specs.Changes.{lines_of}
use Rattle.p8_pins.proofs.Levels.{IsKeptAt, kept-at}
use Rattle.p8_pins.proofs.Walks.{holds-first, clear-first, clear-more, holds-here, least-here}
use Rattle.p8_pins.proofs.pin_script.PinScript.first_pins.Goals as goal

pub returns-then-holds-clause-holds : goal.returns-then-holds-clause-holds
returns-then-holds-clause-holds c =
    holds-first c.args.self.now c.args.dira c.args.outputs c.args.test.now c.requires c.args.from c.lines_by-count.result c.levels_after.result c.pins.result (record {
      within = c.lines_by-count.ensures.within;
      before = c.lines_by-count.ensures.before;
      after = c.lines_by-count.ensures.after;
    }) c.levels_after.ensures c.pins.ensures (search (rules, c.if-holds.ensures.0))

pub loop-i-init : goal.loop-i-init
loop-i-init c =
    clear-first c.args.self.now c.args.dira c.args.outputs c.args.test.now c.requires c.args.from c.lines_by-count.result c.levels_after.result c.pins.result (record {
      within = c.lines_by-count.ensures.within;
      before = c.lines_by-count.ensures.before;
      after = c.lines_by-count.ensures.after;
    }) c.levels_after.ensures c.pins.ensures (λ h. absurd (search (rules, c.if-holds.ensures.1 h)))

rising : (lines : List Line) (changes : List Change) → lines_of changes ≡ lines → IsStrictlyIncreasing (clocks_of (lines_of changes)) → IsStrictlyIncreasing (clocks_of lines)
rising lines changes view up = subst (λ (ls : List Line). IsStrictlyIncreasing (clocks_of ls)) view up

kept : (c : goal.Then-holds-2) → IsKeptAt c.args.self.now c.loop-i.i c.index-change.result.now
kept c =
    kept-at c.args.self.now c.self.inside.changes.items c.loop-i.i c.index-change.result.now c.self.view_is
    (omega (arith, c.loop-i-test.true, c.len-i-end.ensures)) c.index-change.ensures

pub returns-then-holds-2-clause-below : goal.returns-then-holds-2-clause-below
returns-then-holds-2-clause-below c =
    let own = kept-at (lines_of c.self.inside.changes.items) c.self.inside.changes.items c.loop-i.i c.index-change.result.now refl
    (omega (arith, c.loop-i-test.true, c.len-i-end.ensures)) c.index-change.ensures in
    omega (arith, own.clock, c.self.invariant.1 c.loop-i.i own.inside)

pub returns-then-holds-2-clause-not_before : goal.returns-then-holds-2-clause-not_before
returns-then-holds-2-clause-not_before c =
    omega (arith, (kept c).clock, c.lines_by-count.ensures.after c.loop-i.i c.loop-i.auto.i (kept c).inside)

pub returns-then-holds-2-clause-holds : goal.returns-then-holds-2-clause-holds
returns-then-holds-2-clause-holds c =
    holds-here c.args.self.now c.args.dira c.args.outputs c.args.test.now c.requires
    (rising c.args.self.now c.self.inside.changes.items c.self.view_is c.self.invariant.0) c.loop-i.i c.index-change.result.now (kept c)
    c.pins-in-loop-i.result c.pins-in-loop-i.ensures (search (rules, c.if-holds-2.ensures.0))

pub returns-then-holds-2-clause-least : goal.returns-then-holds-2-clause-least
returns-then-holds-2-clause-least c =
    λ u le holds. least-here c.args.self.now c.args.dira c.args.outputs c.args.test.now c.requires
    (rising c.args.self.now c.self.inside.changes.items c.self.view_is c.self.invariant.0) c.loop-i.i c.index-change.result.now (kept c)
    c.args.from u c.loop-i.invariant le holds

pub loop-i-preserved : goal.loop-i-preserved
loop-i-preserved c =
    clear-more c.args.self.now c.args.dira c.args.outputs c.args.test.now c.requires
    (rising c.args.self.now c.self.inside.changes.items c.self.view_is c.self.invariant.0) c.loop-i.i c.index-change.result.now
    (kept-at c.args.self.now c.self.inside.changes.items c.loop-i.i c.index-change.result.now c.self.view_is
    (omega (arith, c.loop-i-test.true, c.len-i-end.ensures)) c.index-change.ensures)
    c.args.from c.pins-in-loop-i.result c.loop-i.invariant c.pins-in-loop-i.ensures (λ h. absurd (search (rules, c.if-holds-2.ensures.1 h)))
