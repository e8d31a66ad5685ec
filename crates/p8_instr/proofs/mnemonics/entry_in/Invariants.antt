use Rattle.std.proofs.Common.{◌≡◌, length, map}
use Rattle.p8_instr.specs.Mnemonics.{entry_of}
use Rattle.p8_instr.proofs.mnemonics.entry_in.Given as goal

abbrev pub invariant-loop-table : goal.invariant-loop-table
invariant-loop-table g l =
    entry_of (map (λ entry. (entry.0.now, entry.1)) l.table) l.word ≡ entry_of (map (λ entry. (entry.0.now, entry.1)) l.initial.table) l.word

abbrev pub decreases-loop-table : goal.decreases-loop-table
decreases-loop-table g l = length l.table
