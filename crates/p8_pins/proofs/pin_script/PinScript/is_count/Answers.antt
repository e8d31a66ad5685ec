-- The clocks rise, so two lines tell of all.
use Rattle.std.proofs.Common.{◌≡◌, ◌<◌, ◌≤◌, ◌+◌, subst, List, length, arith, MatchBool}
use Rattle.std.specs.List.Sorted.{IsStrictlyIncreasing}
use Rattle.p8_access.specs.Worlds.{Line}
use Rattle.p8_pins.specs.Scripts.{clocks_of}
use Rattle.p8_pins.specs.Changes.{lines_of, clock_of as clock_in}
use Rattle.p8_pins.specs.declared.line_text.Change.{Change}
use Rattle.p8_pins.proofs.Levels.{not-true, later-all, by-all}
use Rattle.p8_pins.proofs.pin_script.PinScript.is_count.Goals as goal

rising : (lines : List Line) (changes : List Change) → lines_of changes ≡ lines → IsStrictlyIncreasing (clocks_of (lines_of changes)) → IsStrictlyIncreasing (clocks_of lines)
rising lines changes view up = subst (λ (ls : List Line). IsStrictlyIncreasing (clocks_of ls)) view up

pub returns-in-None-clause-after : goal.returns-in-None-clause-after
returns-in-None-clause-after c = λ is.
    later-all c.args.self.now c.args.count c.args.clock (rising c.args.self.now c.self.inside.changes.items c.self.view_is c.self.invariant.0)
    (subst (λ b. MatchBool b (c.args.count < length c.args.self.now → c.args.clock < clock_in c.args.self.now c.args.count) ((c.args.count < length c.args.self.now) × (clock_in c.args.self.now c.args.count ≤ c.args.clock))) c.if-not-is_later.false c.is_later.ensures)

pub returns-then-last-len-clause-after : goal.returns-then-last-len-clause-after
returns-then-last-len-clause-after c = λ is.
    later-all c.args.self.now c.args.count c.args.clock (rising c.args.self.now c.self.inside.changes.items c.self.view_is c.self.invariant.0)
    (subst (λ b. MatchBool b (c.args.count < length c.args.self.now → c.args.clock < clock_in c.args.self.now c.args.count) ((c.args.count < length c.args.self.now) × (clock_in c.args.self.now c.args.count ≤ c.args.clock))) c.if-not-is_later.false c.is_later.ensures)

pub returns-then-last-len-clause-before : goal.returns-then-last-len-clause-before
returns-then-last-len-clause-before c = λ is k below.
    by-all c.args.self.now c.in-Some.last c.args.clock (rising c.args.self.now c.self.inside.changes.items c.self.view_is c.self.invariant.0)
    (not-true c.is_later-then-last-len.result _ _ c.is_later-then-last-len.ensures is) k (let one : c.in-Some.last + 1 ≡ c.args.count = omega (arith, c.in-Some.ensures) in omega arith)
