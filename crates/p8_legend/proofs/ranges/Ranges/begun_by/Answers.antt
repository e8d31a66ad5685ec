use Rattle.std.proofs.Common.{nat_le, List, rules, sym, subst}
use Rattle.std.specs.List.Sorted.{IsNonDecreasingBy}
use Rattle.std.proofs.lemmas.List.Sorted.{IsPartitionPoint-from_clause, IsPartitionedBy-leb}
use Rattle.p8_legend.specs.declared.ranges.Range.{Range}
use Rattle.p8_legend.specs.Finding.{Splits}
use Rattle.p8_legend.proofs.Apart.{rising, splits-at}
use Rattle.p8_legend.proofs.ranges.Ranges.begun_by.Goals as goal

pub returns-clause-begun : goal.returns-clause-begun
returns-clause-begun c =
    let ranges = c.as_slice.result.now in
    subst (λ (xs : List Range). Splits xs c.args.address c.partition_point.result) c.as_slice.ensures
    (splits-at ranges c.args.address c.partition_point.result c.partition_point.ensures.bound
    (IsPartitionPoint-from_clause (λ (r : Range). nat_le r.address c.args.address) ranges c.partition_point.result c.partition_point.ensures.partitioned
    (IsPartitionedBy-leb (λ (r : Range). r.address) ranges c.args.address (subst (IsNonDecreasingBy (λ (r : Range). r.address)) (sym c.as_slice.ensures) (rising 0 c.args.self.now.ranges c.args.self.now.apart)))
    (λ a r f called. search rules)))
