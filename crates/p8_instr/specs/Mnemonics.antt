-- The words of assembly source that stand for an instruction, and what each stands for before its operands and effects are put in.
-- Source: the Propeller Manual v1.2, assembly chapter; which words write their result unless told otherwise is this project's profile.
use Rattle.std.specs.Prelude.{ℕ, Bool, ◌&&◌, ◌||◌, nat_le, ◌==◌, if◌then◌else◌, List, [], ◌∷◌, Option, Some, None, codes}
use Rattle.std.specs.Str.{str_eq_ignore_ascii_case}
use Rattle.p8_instr.specs.declared.instruction.Instr.{Instr}

-- what stands beside a word in a list, its letters taken in any case; the list's first word counts
abbrev pub entry_of : {T : Type 0} → List (List ℕ × T) → List ℕ → Option T
entry_of [] word = None
entry_of (entry ∷ entries) word = if str_eq_ignore_ascii_case entry.0 word then Some entry.1 else entry_of entries word

-- the first word of a list beside which something stands that passes the test
abbrev pub word_where : {T : Type 0} → (T → Bool) → List (List ℕ × T) → Option (List ℕ)
word_where test [] = None
word_where test (entry ∷ entries) = if test entry.1 then Some entry.0 else word_where test entries

-- an instruction of this opcode that always executes and writes its result unless NR is written
abbrev pub writing : ℕ → Instr
writing opcode = record { opcode = opcode; flags = 2; cond = 15; dest = 0; source = 0 }

-- one that writes its result only where WR is written
abbrev pub quiet : ℕ → Instr
quiet opcode = record { opcode = opcode; flags = 0; cond = 15; dest = 0; source = 0 }

-- the hub instruction with the number n in its source field; its one operand is the destination
abbrev pub hub_writing : ℕ → Instr
hub_writing n = record { opcode = 3; flags = 3; cond = 15; dest = 0; source = n }

abbrev pub hub_quiet : ℕ → Instr
hub_quiet n = record { opcode = 3; flags = 1; cond = 15; dest = 0; source = n }

-- Every word: first those of the opcodes 0 to 63, from 4 on four in a line, then the further words for some of them. RET is a jump to the number 0 and
-- CALL a jump with return to a number, so their source is immediate. NOP is the long 0.
unfoldable pub mnemonics : List (List ℕ × Instr)
mnemonics =
    (codes "RDBYTE", writing 0) ∷ (codes "RDWORD", writing 1) ∷ (codes "RDLONG", writing 2) ∷
    (codes "WRBYTE", quiet 0) ∷ (codes "WRWORD", quiet 1) ∷ (codes "WRLONG", quiet 2) ∷
    (codes "HUBOP", quiet 3) ∷
    (codes "MUL", writing 4) ∷ (codes "MULS", writing 5) ∷ (codes "ENC", writing 6) ∷ (codes "ONES", writing 7) ∷
    (codes "ROR", writing 8) ∷ (codes "ROL", writing 9) ∷ (codes "SHR", writing 10) ∷ (codes "SHL", writing 11) ∷
    (codes "RCR", writing 12) ∷ (codes "RCL", writing 13) ∷ (codes "SAR", writing 14) ∷ (codes "REV", writing 15) ∷
    (codes "MINS", writing 16) ∷ (codes "MAXS", writing 17) ∷ (codes "MIN", writing 18) ∷ (codes "MAX", writing 19) ∷
    (codes "MOVS", writing 20) ∷ (codes "MOVD", writing 21) ∷ (codes "MOVI", writing 22) ∷ (codes "JMPRET", writing 23) ∷
    (codes "AND", writing 24) ∷ (codes "ANDN", writing 25) ∷ (codes "OR", writing 26) ∷ (codes "XOR", writing 27) ∷
    (codes "MUXC", writing 28) ∷ (codes "MUXNC", writing 29) ∷ (codes "MUXZ", writing 30) ∷ (codes "MUXNZ", writing 31) ∷
    (codes "ADD", writing 32) ∷ (codes "SUB", writing 33) ∷ (codes "ADDABS", writing 34) ∷ (codes "SUBABS", writing 35) ∷
    (codes "SUMC", writing 36) ∷ (codes "SUMNC", writing 37) ∷ (codes "SUMZ", writing 38) ∷ (codes "SUMNZ", writing 39) ∷
    (codes "MOV", writing 40) ∷ (codes "NEG", writing 41) ∷ (codes "ABS", writing 42) ∷ (codes "ABSNEG", writing 43) ∷
    (codes "NEGC", writing 44) ∷ (codes "NEGNC", writing 45) ∷ (codes "NEGZ", writing 46) ∷ (codes "NEGNZ", writing 47) ∷
    (codes "CMPS", quiet 48) ∷ (codes "CMPSX", quiet 49) ∷ (codes "ADDX", writing 50) ∷ (codes "SUBX", writing 51) ∷
    (codes "ADDS", writing 52) ∷ (codes "SUBS", writing 53) ∷ (codes "ADDSX", writing 54) ∷ (codes "SUBSX", writing 55) ∷
    (codes "CMPSUB", writing 56) ∷ (codes "DJNZ", writing 57) ∷ (codes "TJNZ", quiet 58) ∷ (codes "TJZ", quiet 59) ∷
    (codes "WAITPEQ", quiet 60) ∷ (codes "WAITPNE", quiet 61) ∷ (codes "WAITCNT", writing 62) ∷ (codes "WAITVID", quiet 63) ∷
    (codes "TEST", quiet 24) ∷ (codes "TESTN", quiet 25) ∷ (codes "CMP", quiet 33) ∷ (codes "CMPX", quiet 51) ∷
    (codes "JMP", quiet 23) ∷
    (codes "RET", record { opcode = 23; flags = 1; cond = 15; dest = 0; source = 0 }) ∷
    (codes "CALL", record { opcode = 23; flags = 3; cond = 15; dest = 0; source = 0 }) ∷
    (codes "CLKSET", hub_quiet 0) ∷ (codes "COGID", hub_writing 1) ∷ (codes "COGINIT", hub_quiet 2) ∷ (codes "COGSTOP", hub_quiet 3) ∷
    (codes "LOCKNEW", hub_writing 4) ∷ (codes "LOCKRET", hub_quiet 5) ∷ (codes "LOCKSET", hub_quiet 6) ∷ (codes "LOCKCLR", hub_quiet 7) ∷
    (codes "NOP", record { opcode = 0; flags = 0; cond = 0; dest = 0; source = 0 }) ∷
    []

-- whether a listing names an instruction of this opcode, which writes its result or not, by the word of i: the opcodes 0 to 2 read where they
-- write their result, and else write to the hub
abbrev pub is_named_by : ℕ → Bool → Instr → Bool
is_named_by opcode writes i = i.opcode == opcode && (nat_le 3 opcode || (if writes then i.flags == 2 else i.flags == 0))
