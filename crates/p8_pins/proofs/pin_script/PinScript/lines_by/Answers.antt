-- The clocks rise, so the search finds where the later ones begin.
use Rattle.std.proofs.Common.{◌≡◌, nat_le, true, false, List, rules, arith, sym, subst}
use Rattle.std.specs.List.Sorted.{IsPartitionPoint, IsNonDecreasingBy}
use Rattle.std.proofs.lemmas.List.Sorted.{IsPartitionPoint-from_clause, IsPartitionedBy-leb}
use Rattle.p8_pins.specs.declared.line_text.Change.{Change}
use Rattle.p8_pins.proofs.Levels.{SplitsAt, splits-kept, kept-rising}
use Rattle.p8_pins.proofs.pin_script.PinScript.lines_by.Goals as goal

parts : (c : goal.After-partition_point) → IsPartitionPoint (λ (x : Change). nat_le x.clock c.args.clock ≡ true) (λ (x : Change). nat_le x.clock c.args.clock ≡ false) c.deref.result.now c.partition_point.result
parts c =
    IsPartitionPoint-from_clause (λ (x : Change). nat_le x.clock c.args.clock) c.deref.result.now c.partition_point.result c.partition_point.ensures.partitioned
    (IsPartitionedBy-leb (λ (x : Change). x.clock) c.deref.result.now c.args.clock
    (subst (λ (xs : List Change). IsNonDecreasingBy (λ (x : Change). x.clock) xs) (sym c.deref.ensures.value) (kept-rising c.args.self.now c.self.inside.changes.items c.self.view_is c.self.invariant.0)))
    (λ a r f called. search rules)

splits : (c : goal.After-partition_point) → SplitsAt c.args.self.now c.partition_point.result c.args.clock
splits c =
    let found = rw c.deref.ensures.value at (parts c) in
    splits-kept c.args.self.now c.self.inside.changes.items c.partition_point.result c.args.clock c.self.view_is
    (omega (arith, c.partition_point.ensures.bound, c.deref.ensures.len)) found.0 found.1

pub returns-clause-before : goal.returns-clause-before
returns-clause-before c = (splits c).before

pub returns-clause-after : goal.returns-clause-after
returns-clause-after c = (splits c).after
