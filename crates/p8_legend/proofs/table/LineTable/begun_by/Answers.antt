use Rattle.std.proofs.Common.{nat_le, List, rules, sym, subst}
use Rattle.std.specs.List.Sorted.{IsNonDecreasingBy}
use Rattle.std.proofs.lemmas.List.Sorted.{IsPartitionPoint-from_clause, IsPartitionedBy-leb}
use Rattle.p8_legend.specs.declared.table.LineRow.{LineRow}
use Rattle.p8_legend.specs.Steps.{Splits}
use Rattle.p8_legend.proofs.Finding.{rising, splits-at}
use Rattle.p8_legend.proofs.table.LineTable.begun_by.Goals as goal

pub returns-clause-begun : goal.returns-clause-begun
returns-clause-begun c = λ apart.
    let rows = c.as_slice.result.now in
    subst (λ (xs : List LineRow). Splits xs c.args.address c.partition_point.result) c.as_slice.ensures
    (splits-at rows c.args.address c.partition_point.result c.partition_point.ensures.bound
    (IsPartitionPoint-from_clause (λ (row : LineRow). nat_le row.address c.args.address) rows c.partition_point.result c.partition_point.ensures.partitioned
    (IsPartitionedBy-leb (λ (row : LineRow). row.address) rows c.args.address (subst (IsNonDecreasingBy (λ (row : LineRow). row.address)) (sym c.as_slice.ensures) (rising c.args.self.now.rows apart)))
    (λ a r f called. search rules)))
