-- The names of Spin's bytecodes, of their effects and of the registers.
-- Source: the public Spin bytecode listing of the Propeller P8X32A; that an effect's name doesn't tell the size by which it adds or subtracts is this
-- project's profile.
use Rattle.std.specs.Prelude.{ℕ, ◌+◌, ◌-◌, ◌/◌, ◌%◌, ◌==◌, nat_lt, if◌then◌else◌, List, [], ◌∷◌, ◌++◌, slice_get, unwrap_or, codes}
use Rattle.p8_bytecode.specs.Table.{is_step}

-- one table: 64 bytecodes from 00 on; 32 operators; 16 rows of effects, of four numbers each; 16 registers; what is done with a variable, its base, its
-- size, whether there is an index, and the base of a long by its number; the steps of `REPEAT`
unfoldable pub names : List (List ℕ)
names =
    codes "FRAME_CALL_RETURN" ∷ codes "FRAME_CALL_NORETURN" ∷ codes "FRAME_CALL_ABORT" ∷ codes "FRAME_CALL_TRASHABORT" ∷ codes "BRANCH" ∷
    codes "CALL" ∷ codes "OBJCALL" ∷ codes "OBJCALL_INDEXED" ∷ codes "LOOP_START" ∷ codes "LOOP_CONTINUE" ∷ codes "JUMP_IF_FALSE" ∷
    codes "JUMP_IF_TRUE" ∷ codes "JUMP_FROM_STACK" ∷ codes "COMPARE_CASE" ∷ codes "COMPARE_CASE_RANGE" ∷ codes "LOOK_ABORT" ∷
    codes "LOOKUP_COMPARE" ∷ codes "LOOKDOWN_COMPARE" ∷ codes "LOOKUPRANGE_COMPARE" ∷ codes "LOOKDOWNRANGE_COMPARE" ∷ codes "QUIT" ∷
    codes "MARK_INTERPRETED" ∷ codes "STRSIZE" ∷ codes "STRCOMP" ∷ codes "BYTEFILL" ∷ codes "WORDFILL" ∷ codes "LONGFILL" ∷ codes "WAITPEQ" ∷
    codes "BYTEMOVE" ∷ codes "WORDMOVE" ∷ codes "LONGMOVE" ∷ codes "WAITPNE" ∷ [] ∷ codes "COGSTOP" ∷ codes "LOCKRET" ∷ codes "WAITCNT" ∷ [] ∷ [] ∷
    [] ∷ [] ∷ codes "COGINIT_RETURNS" ∷ codes "LOCKNEW_RETURNS" ∷ codes "LOCKSET_RETURNS" ∷ codes "LOCKCLR_RETURNS" ∷ codes "COGINIT" ∷
    codes "LOCKNEW" ∷ codes "LOCKSET" ∷ codes "LOCKCLR" ∷ codes "ABORT" ∷ codes "ABORT_WITH_RETURN" ∷ codes "RETURN" ∷ codes "POP_RETURN" ∷
    codes "PUSH_NEG1" ∷ codes "PUSH_0" ∷ codes "PUSH_1" ∷ codes "PUSH_PACKED_LIT" ∷ codes "PUSH_BYTE_LIT" ∷ codes "PUSH_WORD_LIT" ∷
    codes "PUSH_MID_LIT" ∷ codes "PUSH_LONG_LIT" ∷ [] ∷ codes "INDEXED_MEM_OP" ∷ codes "INDEXED_RANGE_MEM_OP" ∷ codes "MEMORY_OP" ∷
    -- 64: E0 to FF
    codes "ROTATE_RIGHT" ∷ codes "ROTATE_LEFT" ∷ codes "SHIFT_RIGHT" ∷ codes "SHIFT_LEFT" ∷ codes "LIMIT_MIN" ∷ codes "LIMIT_MAX" ∷ codes "NEGATE" ∷
    codes "COMPLEMENT" ∷ codes "BIT_AND" ∷ codes "ABSOLUTE_VALUE" ∷ codes "BIT_OR" ∷ codes "BIT_XOR" ∷ codes "ADD" ∷ codes "SUBTRACT" ∷
    codes "ARITH_SHIFT_RIGHT" ∷ codes "BIT_REVERSE" ∷ codes "LOGICAL_AND" ∷ codes "ENCODE" ∷ codes "LOGICAL_OR" ∷ codes "DECODE" ∷ codes "MULTIPLY" ∷
    codes "MULTIPLY_HI" ∷ codes "DIVIDE" ∷ codes "MODULO" ∷ codes "SQUARE_ROOT" ∷ codes "LESS" ∷ codes "GREATER" ∷ codes "NOT_EQUAL" ∷
    codes "EQUAL" ∷ codes "LESS_EQUAL" ∷ codes "GREATER_EQUAL" ∷ codes "LOGICAL_NOT" ∷
    -- 96: the effects 00, 04, .. 3C
    codes "COPY" ∷ [] ∷ [] ∷ [] ∷ codes "EXTEND_8" ∷ codes "EXTEND_16" ∷ codes "BIT_CLEAR" ∷ codes "BIT_SET" ∷ codes "PRE_INCREMENT" ∷
    codes "PRE_INCREMENT" ∷ codes "POST_INCREMENT" ∷ codes "POST_INCREMENT" ∷ codes "PRE_DECREMENT" ∷ codes "PRE_DECREMENT" ∷
    codes "POST_DECREMENT" ∷ codes "POST_DECREMENT" ∷
    -- 112: $1F0 to $1FF
    codes "PAR" ∷ codes "CNT" ∷ codes "INA" ∷ codes "INB" ∷ codes "OUTA" ∷ codes "OUTB" ∷ codes "DIRA" ∷ codes "DIRB" ∷ codes "CTRA" ∷ codes "CTRB" ∷
    codes "FRQA" ∷ codes "FRQB" ∷ codes "PHSA" ∷ codes "PHSB" ∷ codes "VCFG" ∷ codes "VSCL" ∷
    -- 128
    codes "PUSH_" ∷ codes "POP_" ∷ codes "EFFECT_" ∷ codes "REFERENCE_" ∷
    codes "MAINMEM_" ∷ codes "OBJECTMEM_" ∷ codes "VARIABLEMEM_" ∷ codes "LOCALMEM_" ∷
    codes "BYTE" ∷ codes "WORD" ∷ codes "LONG" ∷ [] ∷
    [] ∷ codes "INDEXED_" ∷ codes "VARMEM_LONG" ∷ codes "LOCALMEM_LONG" ∷
    codes "REPEAT_COMPARE" ∷ codes "REPEAT_COMPARE_STEP" ∷
    []

-- the name at a number; nothing where there is none
abbrev pub named : ℕ → List ℕ
named n = unwrap_or (slice_get names n) []

-- 80 to DF: memory. Bits 1 and 0 say what is done, bit 4 that there is an index, bits 3 and 2 the base, bits 6 and 5 the size
abbrev pub memory_name : ℕ → List ℕ
memory_name code = named (128 + code % 4) ++ named (140 + code / 16 % 2) ++ named (132 + code / 4 % 4) ++ named (136 + code / 32 % 4)

-- 40 to 7F: a long by its number, in VAR or, where bit 5 says so, in the frame
abbrev pub short_name : ℕ → List ℕ
short_name code = named (128 + code % 4) ++ named (142 + code / 32 % 2)

-- a bytecode by its byte
abbrev pub bytecode_name : ℕ → List ℕ
bytecode_name code =
    if nat_lt code 0x40 then named code
    else if nat_lt code 0x80 then short_name code
    else if nat_lt code 0xE0 then memory_name code
    else named (code - 0xA0)

-- an effect without bit 7; those from 40 to 5F are the operators
abbrev pub effect_name : ℕ → List ℕ
effect_name effect =
    if is_step effect then named (144 + effect / 4)
    else if nat_lt effect 0x40 then named (96 + effect / 4)
    else named effect

-- a register by the byte that names it; 89 is COGID
abbrev pub register_name : (byte : ℕ) → List ℕ
register_name byte = if byte == 0x89 then codes "COGID" else named (112 + byte % 16)
