use Rattle.std.proofs.Common.{◌≡◌, length, map}
use Rattle.p8_instr.specs.Mnemonics.{word_where, is_named_by}
use Rattle.p8_instr.proofs.mnemonics.mnemonic_in.Given as goal

abbrev pub invariant-loop-table : goal.invariant-loop-table
invariant-loop-table l =
    word_where (is_named_by l.opcode l.writes_result) (map (λ entry. (entry.0.now, entry.1)) l.table)
    ≡ word_where (is_named_by l.opcode l.writes_result) (map (λ entry. (entry.0.now, entry.1)) l.initial.table)

abbrev pub decreases-loop-table : goal.decreases-loop-table
decreases-loop-table l = length l.table
