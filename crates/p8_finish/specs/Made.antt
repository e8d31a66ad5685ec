-- A made program, by its seed (this project's profile). All eight cogs run the same 400 instructions in a loop, on
-- 16 registers of their own and on 16 longs of the hub.
use Rattle.std.specs.Prelude.{ℕ, zero, suc, ◌+◌, ◌*◌, ◌/◌, ◌%◌, ◌^◌, ◌==◌, if◌then◌else◌, List, [], ◌∷◌, ◌++◌, map, flat_map, replicate}
use Rattle.std.specs.Int.{to_le_bytes, w32}
use Rattle.std.specs.List.{range_with_len}
use Rattle.p8_instr.specs.declared.instruction.Instr.{Instr}
use Rattle.p8_instr.specs.Instruction.{long_of}
use Rattle.p8_instr.specs.Mnemonics.{writing, quiet, hub_writing}

-- the number after a number, and the k-th after a seed
abbrev pub after : ℕ → ℕ
after number = (1664525 * number + 1013904223) % 2 ^ 32

unfoldable pub number : (seed k : ℕ) → ℕ
number seed zero = seed
number seed (suc k) = after (number seed k)

-- an instruction with these operands
abbrev pub with_operands : Instr → (dest source : ℕ) → Instr
with_operands instr dest source = record { opcode = instr.opcode; flags = instr.flags; cond = instr.cond; dest = dest; source = source }

-- the eight instructions: RDLONG, WRLONG, ADD, XOR, SUB, ROL, COGID, MOV
abbrev pub chosen : (choice dest source address : ℕ) → Instr
chosen choice dest source address =
    if choice == 0 then with_operands (writing 2) dest address
    else (if choice == 1 then with_operands (quiet 2) dest address
    else (if choice == 2 then with_operands (writing 32) dest source
    else (if choice == 3 then with_operands (writing 27) dest source
    else (if choice == 4 then with_operands (writing 33) dest source
    else (if choice == 5 then with_operands (writing 9) dest source
    else (if choice == 6 then with_operands (hub_writing 1) dest 1
    else with_operands (writing 40) dest source))))))

-- the instruction that a number makes: its registers are 480 to 495, and 464 to 479 hold addresses of the hub
abbrev pub made_instr : ℕ → Instr
made_instr n = chosen (n / 2 ^ 28 % 8) (480 + n / 2 ^ 8 % 16) (480 + n / 2 ^ 12 % 16) (464 + n / 2 ^ 16 % 16)

-- the longs of the first so many instructions; number 1 makes the first of them
unfoldable pub instr_longs : (seed count : ℕ) → List ℕ
instr_longs seed count = map (λ (i : ℕ). long_of (made_instr (number seed (i + 1)))) (range_with_len 0 count)

-- longs 0 to 7 of the hub: the program with which cog 0 starts seven more cogs from long 8 on, and then itself. It is COGINIT of long
-- 4, DJNZ of long 5 to the first instruction, COGINIT of long 6; what these start is told by longs 4 and 6, and long 5 counts.
abbrev pub first_longs : List ℕ
first_longs = 0x0C7C0802 ∷ 0xE4FC0A00 ∷ 0x0C7C0C02 ∷ 0 ∷ 0x88 ∷ 7 ∷ 0x80 ∷ 0 ∷ []

-- a jump to the first instruction
abbrev pub jump_back : ℕ
jump_back = 0x5C7C0000

-- what each cog loads: the 400 instructions, a jump to the first of them, 63 zeros, the addresses of the 16 longs from
-- $1000 on, and what the 16 registers hold at first
unfoldable pub made_longs : ℕ → List ℕ
made_longs seed =
    first_longs
    ++ instr_longs seed 400
    ++ jump_back ∷ replicate 63 0
    ++ map (λ (j : ℕ). 4096 + 4 * j) (range_with_len 0 16)
    ++ map (λ (j : ℕ). number seed (401 + j)) (range_with_len 0 16)

-- their bytes in the hub
abbrev pub made_bytes : ℕ → List ℕ
made_bytes seed = flat_map (to_le_bytes w32) (made_longs seed)
