-- The words of Spin and Propeller Assembly: how each is spelled, and what it is to an expression (Propeller Manual v1.2, "Reserved Words", the operator
-- tables, "Spin Language Reference" and "Propeller Assembly Language Reference"; the symbols with `=` after an operator are this project's profile).
use Rattle.std.specs.Prelude.{ℕ, ◌==◌, if◌then◌else◌, List, [], ◌∷◌, ◌++◌, codes, Option, Some, None, option_and_then}
use Prim.Native.String.{String}
use denote.Enum.Declared.{tag_of}
use Rattle.p8_tree.specs.Names.{is_among}
use Rattle.p8_lexer.specs.contracts.word.Word.{the_type}
use Rattle.p8_lexer.specs.declared.word.Word.{Word}
use Rattle.p8_lexer.specs.declared.word.Word.TheVariants as w
use Rattle.p8_lexer.specs.Words.{first_of}
use Rattle.p8_grammar.specs.Lexemes.{pins, input_pins, input, assembly, left_parenthesis, right_parenthesis, left_bracket, right_bracket, comma, colon, dot}
use Rattle.p8_grammar.specs.Lexemes.{dot_dot, hash, backslash, equal, Lexeme, method_result, mark, prefix_word, infix_word, sign, assigns, changes, address}
use Rattle.p8_grammar.specs.Lexemes.{object_address, size, register, here, string_word, constant_word, look, value, built_in, command, other}

-- What the table says of a word: its spellings, in capitals, of which the first one is the word in trees; what it is to an expression; and the field of a
-- condition. Operators, built-ins and changes have the numbers of their bytecodes and effect bytes, registers those of their addresses in a cog. An
-- instruction that is an operator or a built-in too is that to an expression.
pub record Entry : Type 0 where
  pub word : Word
  pub spellings : List (List ℕ)
  pub lexeme : Lexeme
  pub condition : Option ℕ

abbrev pub says : Word → String → Lexeme → Entry
says v text x = record { word = v; spellings = codes text ∷ []; lexeme = x; condition = None }

-- a word that stands in no expression
abbrev pub plain : Word → String → Entry
plain v text = says v text other

abbrev pub condition : Word → ℕ → List (List ℕ) → Entry
condition v bits texts = record { word = v; spellings = texts; lexeme = other; condition = Some bits }

-- the symbols; a symbol's number is its place here, from 0
unfoldable pub symbols : List Entry
symbols =
    -- before or after a variable, and addresses
    says w.PlusPlus "++" (changes 0x20 0x28) ∷ says w.MinusMinus "--" (changes 0x30 0x38) ∷ says w.Tilde "~" (changes 0x10 0x18) ∷
    says w.TildeTilde "~~" (changes 0x14 0x1C) ∷ says w.At "@" address ∷ says w.AtAt "@@" object_address ∷
    -- before a value, and sums
    says w.Plus "+" (sign 0xEC 0xEC) ∷ says w.Minus "-" (sign 0xE6 0xED) ∷ says w.SquareRoot "^^" (prefix_word 1 0xF8) ∷
    says w.Absolute "||" (prefix_word 1 0xE9) ∷ says w.DecodeBit "|<" (prefix_word 1 0xF3) ∷ says w.EncodeBit ">|" (prefix_word 1 0xF1) ∷
    says w.Invert "!" (prefix_word 1 0xE7) ∷
    -- between values
    says w.RotateRight "->" (infix_word 2 0xE0) ∷ says w.RotateLeft "<-" (infix_word 2 0xE1) ∷ says w.ShiftRight ">>" (infix_word 2 0xE2) ∷
    says w.ShiftLeft "<<" (infix_word 2 0xE3) ∷ says w.ArithmeticShift "~>" (infix_word 2 0xEE) ∷ says w.Reverse "><" (infix_word 2 0xEF) ∷
    says w.BitAnd "&" (infix_word 3 0xE8) ∷ says w.BitOr "|" (infix_word 4 0xEA) ∷ says w.BitXor "^" (infix_word 4 0xEB) ∷
    says w.Multiply "*" (infix_word 5 0xF4) ∷ says w.MultiplyHigh "**" (infix_word 5 0xF5) ∷ says w.Divide "/" (infix_word 5 0xF6) ∷
    says w.Remainder "//" (infix_word 5 0xF7) ∷ says w.LimitMinimum "#>" (infix_word 7 0xE4) ∷ says w.LimitMaximum "<#" (infix_word 7 0xE5) ∷
    says w.Less "<" (infix_word 8 0xF9) ∷ says w.Greater ">" (infix_word 8 0xFA) ∷ says w.NotEqual "<>" (infix_word 8 0xFB) ∷
    says w.Equal "==" (infix_word 8 0xFC) ∷ says w.LessOrEqual "=<" (infix_word 8 0xFD) ∷ says w.GreaterOrEqual "=>" (infix_word 8 0xFE) ∷
    -- assignments
    says w.Assign ":=" (assigns None) ∷ says w.RotateRightAssign "->=" (assigns (Some 0xE0)) ∷ says w.RotateLeftAssign "<-=" (assigns (Some 0xE1)) ∷
    says w.ShiftRightAssign ">>=" (assigns (Some 0xE2)) ∷ says w.ShiftLeftAssign "<<=" (assigns (Some 0xE3)) ∷
    says w.ArithmeticShiftAssign "~>=" (assigns (Some 0xEE)) ∷ says w.ReverseAssign "><=" (assigns (Some 0xEF)) ∷
    says w.BitAndAssign "&=" (assigns (Some 0xE8)) ∷ says w.BitOrAssign "|=" (assigns (Some 0xEA)) ∷ says w.BitXorAssign "^=" (assigns (Some 0xEB)) ∷
    says w.MultiplyAssign "*=" (assigns (Some 0xF4)) ∷ says w.MultiplyHighAssign "**=" (assigns (Some 0xF5)) ∷
    says w.DivideAssign "/=" (assigns (Some 0xF6)) ∷ says w.RemainderAssign "//=" (assigns (Some 0xF7)) ∷ says w.PlusAssign "+=" (assigns (Some 0xEC)) ∷
    says w.MinusAssign "-=" (assigns (Some 0xED)) ∷ says w.LimitMinimumAssign "#>=" (assigns (Some 0xE4)) ∷
    says w.LimitMaximumAssign "<#=" (assigns (Some 0xE5)) ∷ says w.LessAssign "<=" (assigns (Some 0xF9)) ∷ says w.GreaterAssign ">=" (assigns (Some 0xFA)) ∷
    says w.NotEqualAssign "<>=" (assigns (Some 0xFB)) ∷ says w.EqualAssign "===" (assigns (Some 0xFC)) ∷
    says w.LessOrEqualAssign "=<=" (assigns (Some 0xFD)) ∷ says w.GreaterOrEqualAssign "=>=" (assigns (Some 0xFE)) ∷
    -- punctuation
    says w.LeftParenthesis "(" (mark left_parenthesis) ∷ says w.RightParenthesis ")" (mark right_parenthesis) ∷ says w.LeftBracket "[" (mark left_bracket) ∷
    says w.RightBracket "]" (mark right_bracket) ∷ says w.Comma "," (mark comma) ∷ says w.Colon ":" (mark colon) ∷ says w.Dot "." (mark dot) ∷
    says w.DotDot ".." (mark dot_dot) ∷ says w.EqualSign "=" (mark equal) ∷ says w.Hash "#" (mark hash) ∷ says w.Dollar "$" here ∷
    says w.Backslash "\\" (mark backslash) ∷ plain w.QuestionMark "?" ∷ []

-- the reserved words
unfoldable pub reserved_words : List Entry
reserved_words =
    -- sections, sizes and DAT
    plain w.Con "CON" ∷ plain w.Var "VAR" ∷ plain w.Obj "OBJ" ∷ plain w.Pub "PUB" ∷ plain w.Pri "PRI" ∷ plain w.Dat "DAT" ∷ says w.ByteSize "BYTE" (size 1) ∷
    says w.WordSize "WORD" (size 2) ∷ says w.LongSize "LONG" (size 4) ∷ plain w.Org "ORG" ∷ plain w.Res "RES" ∷ plain w.Fit "FIT" ∷ plain w.File "FILE" ∷
    -- statements
    plain w.If "IF" ∷ plain w.Ifnot "IFNOT" ∷ plain w.Elseif "ELSEIF" ∷ plain w.Elseifnot "ELSEIFNOT" ∷ plain w.Else "ELSE" ∷ plain w.Repeat "REPEAT" ∷
    plain w.Case "CASE" ∷ plain w.Other "OTHER" ∷ plain w.While "WHILE" ∷ plain w.Until "UNTIL" ∷ plain w.From "FROM" ∷ plain w.To "TO" ∷
    plain w.Step "STEP" ∷ plain w.Next "NEXT" ∷ plain w.Quit "QUIT" ∷ plain w.Return "RETURN" ∷ plain w.Abort "ABORT" ∷
    -- operators that are words
    says w.Not "NOT" (prefix_word 8 0xFF) ∷ says w.And "AND" (infix_word 9 0xF0) ∷ says w.Or "OR" (infix_word 10 0xF2) ∷
    -- registers
    says w.Result "RESULT" method_result ∷ says w.Par "PAR" (register 0x1F0 input) ∷ says w.Cnt "CNT" (register 0x1F1 input) ∷
    says w.Ina "INA" (register 0x1F2 input_pins) ∷ says w.Inb "INB" (register 0x1F3 assembly) ∷ says w.Outa "OUTA" (register 0x1F4 pins) ∷
    says w.Outb "OUTB" (register 0x1F5 assembly) ∷ says w.Dira "DIRA" (register 0x1F6 pins) ∷ says w.Dirb "DIRB" (register 0x1F7 assembly) ∷
    says w.Ctra "CTRA" (register 0x1F8 assembly) ∷ says w.Ctrb "CTRB" (register 0x1F9 assembly) ∷ says w.Frqa "FRQA" (register 0x1FA assembly) ∷
    says w.Frqb "FRQB" (register 0x1FB assembly) ∷ says w.Phsa "PHSA" (register 0x1FC assembly) ∷ says w.Phsb "PHSB" (register 0x1FD assembly) ∷
    says w.Vcfg "VCFG" (register 0x1FE assembly) ∷ says w.Vscl "VSCL" (register 0x1FF assembly) ∷ plain w.Spr "SPR" ∷
    -- built-ins
    says w.String "STRING" string_word ∷ says w.Constant "CONSTANT" constant_word ∷ says w.Lookup "LOOKUP" (look 0x10) ∷
    says w.Lookupz "LOOKUPZ" (look 0x12) ∷ says w.Lookdown "LOOKDOWN" (look 0x11) ∷ says w.Lookdownz "LOOKDOWNZ" (look 0x13) ∷
    says w.Clkfreq "CLKFREQ" (value 0xC0) ∷ says w.Clkmode "CLKMODE" (value 0x80) ∷ says w.Cogid "COGID" (value 0x3F) ∷
    says w.Cognew "COGNEW" (built_in 0x2C) ∷ says w.Coginit "COGINIT" (built_in 0x28) ∷ says w.Cogstop "COGSTOP" (command 0x21) ∷
    says w.Locknew "LOCKNEW" (built_in 0x29) ∷ says w.Lockret "LOCKRET" (command 0x22) ∷ says w.Lockset "LOCKSET" (built_in 0x2A) ∷
    says w.Lockclr "LOCKCLR" (built_in 0x2B) ∷ says w.Waitcnt "WAITCNT" (command 0x23) ∷ says w.Waitpeq "WAITPEQ" (command 0x1B) ∷
    says w.Waitpne "WAITPNE" (command 0x1F) ∷ plain w.Waitvid "WAITVID" ∷ says w.Bytefill "BYTEFILL" (command 0x18) ∷
    says w.Wordfill "WORDFILL" (command 0x19) ∷ says w.Longfill "LONGFILL" (command 0x1A) ∷ says w.Bytemove "BYTEMOVE" (command 0x1C) ∷
    says w.Wordmove "WORDMOVE" (command 0x1D) ∷ says w.Longmove "LONGMOVE" (command 0x1E) ∷ says w.Strsize "STRSIZE" (built_in 0x16) ∷
    says w.Strcomp "STRCOMP" (built_in 0x17) ∷ plain w.Clkset "CLKSET" ∷ plain w.Reboot "REBOOT" ∷ plain w.Chipver "CHIPVER" ∷ plain w.Float "FLOAT" ∷
    plain w.Round "ROUND" ∷ plain w.Trunc "TRUNC" ∷ plain w.Pi "PI" ∷
    -- instructions
    plain w.Rdbyte "RDBYTE" ∷ plain w.Rdword "RDWORD" ∷ plain w.Rdlong "RDLONG" ∷ plain w.Wrbyte "WRBYTE" ∷ plain w.Wrword "WRWORD" ∷
    plain w.Wrlong "WRLONG" ∷ plain w.Hubop "HUBOP" ∷ plain w.Mul "MUL" ∷ plain w.Muls "MULS" ∷ plain w.Enc "ENC" ∷ plain w.Ones "ONES" ∷ plain w.Ror "ROR" ∷
    plain w.Rol "ROL" ∷ plain w.Shr "SHR" ∷ plain w.Shl "SHL" ∷ plain w.Rcr "RCR" ∷ plain w.Rcl "RCL" ∷ plain w.Sar "SAR" ∷ plain w.Rev "REV" ∷
    plain w.Mins "MINS" ∷ plain w.Maxs "MAXS" ∷ plain w.Min "MIN" ∷ plain w.Max "MAX" ∷ plain w.Movs "MOVS" ∷ plain w.Movd "MOVD" ∷ plain w.Movi "MOVI" ∷
    plain w.Jmpret "JMPRET" ∷ plain w.Andn "ANDN" ∷ plain w.Xor "XOR" ∷ plain w.Muxc "MUXC" ∷ plain w.Muxnc "MUXNC" ∷ plain w.Muxz "MUXZ" ∷
    plain w.Muxnz "MUXNZ" ∷ plain w.Add "ADD" ∷ plain w.Sub "SUB" ∷ plain w.Addabs "ADDABS" ∷ plain w.Subabs "SUBABS" ∷ plain w.Sumc "SUMC" ∷
    plain w.Sumnc "SUMNC" ∷ plain w.Sumz "SUMZ" ∷ plain w.Sumnz "SUMNZ" ∷ plain w.Mov "MOV" ∷ plain w.Neg "NEG" ∷ plain w.Abs "ABS" ∷
    plain w.Absneg "ABSNEG" ∷ plain w.Negc "NEGC" ∷ plain w.Negnc "NEGNC" ∷ plain w.Negz "NEGZ" ∷ plain w.Negnz "NEGNZ" ∷ plain w.Cmps "CMPS" ∷
    plain w.Cmpsx "CMPSX" ∷ plain w.Addx "ADDX" ∷ plain w.Subx "SUBX" ∷ plain w.Adds "ADDS" ∷ plain w.Subs "SUBS" ∷ plain w.Addsx "ADDSX" ∷
    plain w.Subsx "SUBSX" ∷ plain w.Cmpsub "CMPSUB" ∷ plain w.Djnz "DJNZ" ∷ plain w.Tjnz "TJNZ" ∷ plain w.Tjz "TJZ" ∷ plain w.Test "TEST" ∷
    plain w.Testn "TESTN" ∷ plain w.Cmp "CMP" ∷ plain w.Cmpx "CMPX" ∷ plain w.Jmp "JMP" ∷ plain w.Ret "RET" ∷ plain w.Call "CALL" ∷ plain w.Nop "NOP" ∷
    -- effects of an instruction
    plain w.Wz "WZ" ∷ plain w.Wc "WC" ∷ plain w.Wr "WR" ∷ plain w.Nr "NR" ∷
    -- conditions of an instruction: bit 2C + Z says whether it is executed
    condition w.IfAlways 15 (codes "IF_ALWAYS" ∷ []) ∷ condition w.IfNever 0 (codes "IF_NEVER" ∷ []) ∷ condition w.IfE 10 (codes "IF_E" ∷ codes "IF_Z" ∷ []) ∷
    condition w.IfNe 5 (codes "IF_NE" ∷ codes "IF_NZ" ∷ []) ∷ condition w.IfA 1 (codes "IF_A" ∷ codes "IF_NC_AND_NZ" ∷ codes "IF_NZ_AND_NC" ∷ []) ∷
    condition w.IfB 12 (codes "IF_B" ∷ codes "IF_C" ∷ []) ∷ condition w.IfAe 3 (codes "IF_AE" ∷ codes "IF_NC" ∷ []) ∷
    condition w.IfBe 14 (codes "IF_BE" ∷ codes "IF_C_OR_Z" ∷ codes "IF_Z_OR_C" ∷ []) ∷
    condition w.IfNcAndZ 2 (codes "IF_NC_AND_Z" ∷ codes "IF_Z_AND_NC" ∷ []) ∷ condition w.IfCAndNz 4 (codes "IF_C_AND_NZ" ∷ codes "IF_NZ_AND_C" ∷ []) ∷
    condition w.IfCAndZ 8 (codes "IF_C_AND_Z" ∷ codes "IF_Z_AND_C" ∷ []) ∷ condition w.IfCEqZ 9 (codes "IF_C_EQ_Z" ∷ codes "IF_Z_EQ_C" ∷ []) ∷
    condition w.IfCNeZ 6 (codes "IF_C_NE_Z" ∷ codes "IF_Z_NE_C" ∷ []) ∷ condition w.IfCOrNz 13 (codes "IF_C_OR_NZ" ∷ codes "IF_NZ_OR_C" ∷ []) ∷
    condition w.IfNcOrZ 11 (codes "IF_NC_OR_Z" ∷ codes "IF_Z_OR_NC" ∷ []) ∷ condition w.IfNcOrNz 7 (codes "IF_NC_OR_NZ" ∷ codes "IF_NZ_OR_NC" ∷ []) ∷ []

-- the first of these that is spelled so
abbrev pub spelled_so : List ℕ → List Entry → Option Entry
spelled_so text [] = None
spelled_so text (e ∷ es) = if is_among e.spellings text then Some e else spelled_so text es

-- what these say of a word
abbrev pub said_of : Word → List Entry → Option Entry
said_of v [] = None
said_of v (e ∷ es) = if tag_of the_type e.word == tag_of the_type v then Some e else said_of v es

-- the word of an instruction as trees have it
abbrev pub spelling_by : Option Entry → List ℕ
spelling_by None = []
spelling_by (Some e) = first_of e.spellings

abbrev pub spelling : Word → List ℕ
spelling v = spelling_by (said_of v (symbols ++ reserved_words))

-- the field of a condition
abbrev pub condition_of : Word → Option ℕ
condition_of v = option_and_then (λ (e : Entry). e.condition) (said_of v (symbols ++ reserved_words))
