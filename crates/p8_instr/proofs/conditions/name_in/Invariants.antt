use Rattle.std.proofs.Common.{◌≡◌, ◌==◌, length, map}
use Rattle.p8_instr.specs.Mnemonics.{word_where}
use Rattle.p8_instr.proofs.conditions.name_in.Given as goal

abbrev pub invariant-loop-table : goal.invariant-loop-table
invariant-loop-table l =
    word_where (λ named. named == l.field) (map (λ entry. (entry.0.now, entry.1)) l.table)
    ≡ word_where (λ named. named == l.field) (map (λ entry. (entry.0.now, entry.1)) l.initial.table)

abbrev pub decreases-loop-table : goal.decreases-loop-table
decreases-loop-table l = length l.table
