-- The words of Spin and Propeller Assembly: how each is spelled, and what it means (Propeller Manual v1.2, "Reserved Words", the operator tables,
-- "Spin Language Reference" and "Propeller Assembly Language Reference"; the symbols with `=` after an operator are this project's profile).
use Rattle.std.specs.Prelude.{ℕ, ◌-◌, Bool, ◌&&◌, nat_le, if◌then◌else◌, List, [], ◌∷◌, ◌++◌, codes, map, slice_get, Option, Some, None, unwrap_or}
pub use Rattle.p8_tree.specs.Names.{same, is_among}
use Rattle.p8_lexer.specs.declared.word.Word.{Word}
use Rattle.p8_lexer.specs.declared.word.Word.TheVariants as word
use Rattle.p8_lexer.specs.declared.meaning.Meaning.{Meaning}
use Rattle.p8_lexer.specs.declared.meaning.Meaning.TheVariants as meant
use Rattle.p8_lexer.specs.declared.token.Token.{Token}
use Rattle.p8_lexer.specs.declared.token.TokenKind.{TokenKind}
use Rattle.p8_lexer.specs.declared.token.TokenKind.TheVariants as kind
use Rattle.p8_lexer.specs.Characters.{characters}

-- What the table says of a word: its spellings, in capitals, of which the first one is printed, and what it means. Operators, built-ins and changes
-- have the numbers of their bytecodes and effect bytes, registers those of their addresses in a cog. An instruction that is an operator or a built-in
-- too has its meaning in Spin.
pub record Entry : Type 0 where
  pub spellings : List (List ℕ)
  pub meaning : Meaning

abbrev pub spelt : List ℕ → Meaning → Entry
spelt text m = record { spellings = text ∷ []; meaning = m }

-- a word that means no more than itself
abbrev pub plain : List ℕ → Entry
plain text = spelt text meant.Nothing

abbrev pub condition : ℕ → List (List ℕ) → Entry
condition bits texts = record { spellings = texts; meaning = meant.Condition bits }

-- the table of words; what is neither a symbol nor reserved has no spelling
abbrev pub entry : Word → Entry
-- before or after a variable, and addresses
entry word.PlusPlus = spelt (codes "++") (meant.Changes 0x20 0x28)
entry word.MinusMinus = spelt (codes "--") (meant.Changes 0x30 0x38)
entry word.Tilde = spelt (codes "~") (meant.Changes 0x10 0x18)
entry word.TildeTilde = spelt (codes "~~") (meant.Changes 0x14 0x1C)
entry word.At = spelt (codes "@") meant.Address
entry word.AtAt = spelt (codes "@@") meant.ObjectAddress
-- before a value, and sums
entry word.Plus = spelt (codes "+") (meant.Sign 0xEC 0xEC)
entry word.Minus = spelt (codes "-") (meant.Sign 0xE6 0xED)
entry word.SquareRoot = spelt (codes "^^") (meant.Prefix 1 0xF8)
entry word.Absolute = spelt (codes "||") (meant.Prefix 1 0xE9)
entry word.DecodeBit = spelt (codes "|<") (meant.Prefix 1 0xF3)
entry word.EncodeBit = spelt (codes ">|") (meant.Prefix 1 0xF1)
entry word.Invert = spelt (codes "!") (meant.Prefix 1 0xE7)
-- between values
entry word.RotateRight = spelt (codes "->") (meant.Infix 2 0xE0)
entry word.RotateLeft = spelt (codes "<-") (meant.Infix 2 0xE1)
entry word.ShiftRight = spelt (codes ">>") (meant.Infix 2 0xE2)
entry word.ShiftLeft = spelt (codes "<<") (meant.Infix 2 0xE3)
entry word.ArithmeticShift = spelt (codes "~>") (meant.Infix 2 0xEE)
entry word.Reverse = spelt (codes "><") (meant.Infix 2 0xEF)
entry word.BitAnd = spelt (codes "&") (meant.Infix 3 0xE8)
entry word.BitOr = spelt (codes "|") (meant.Infix 4 0xEA)
entry word.BitXor = spelt (codes "^") (meant.Infix 4 0xEB)
entry word.Multiply = spelt (codes "*") (meant.Infix 5 0xF4)
entry word.MultiplyHigh = spelt (codes "**") (meant.Infix 5 0xF5)
entry word.Divide = spelt (codes "/") (meant.Infix 5 0xF6)
entry word.Remainder = spelt (codes "//") (meant.Infix 5 0xF7)
entry word.LimitMinimum = spelt (codes "#>") (meant.Infix 7 0xE4)
entry word.LimitMaximum = spelt (codes "<#") (meant.Infix 7 0xE5)
entry word.Less = spelt (codes "<") (meant.Infix 8 0xF9)
entry word.Greater = spelt (codes ">") (meant.Infix 8 0xFA)
entry word.NotEqual = spelt (codes "<>") (meant.Infix 8 0xFB)
entry word.Equal = spelt (codes "==") (meant.Infix 8 0xFC)
entry word.LessOrEqual = spelt (codes "=<") (meant.Infix 8 0xFD)
entry word.GreaterOrEqual = spelt (codes "=>") (meant.Infix 8 0xFE)
-- assignments
entry word.Assign = spelt (codes ":=") (meant.Assigns None)
entry word.RotateRightAssign = spelt (codes "->=") (meant.Assigns (Some 0xE0))
entry word.RotateLeftAssign = spelt (codes "<-=") (meant.Assigns (Some 0xE1))
entry word.ShiftRightAssign = spelt (codes ">>=") (meant.Assigns (Some 0xE2))
entry word.ShiftLeftAssign = spelt (codes "<<=") (meant.Assigns (Some 0xE3))
entry word.ArithmeticShiftAssign = spelt (codes "~>=") (meant.Assigns (Some 0xEE))
entry word.ReverseAssign = spelt (codes "><=") (meant.Assigns (Some 0xEF))
entry word.BitAndAssign = spelt (codes "&=") (meant.Assigns (Some 0xE8))
entry word.BitOrAssign = spelt (codes "|=") (meant.Assigns (Some 0xEA))
entry word.BitXorAssign = spelt (codes "^=") (meant.Assigns (Some 0xEB))
entry word.MultiplyAssign = spelt (codes "*=") (meant.Assigns (Some 0xF4))
entry word.MultiplyHighAssign = spelt (codes "**=") (meant.Assigns (Some 0xF5))
entry word.DivideAssign = spelt (codes "/=") (meant.Assigns (Some 0xF6))
entry word.RemainderAssign = spelt (codes "//=") (meant.Assigns (Some 0xF7))
entry word.PlusAssign = spelt (codes "+=") (meant.Assigns (Some 0xEC))
entry word.MinusAssign = spelt (codes "-=") (meant.Assigns (Some 0xED))
entry word.LimitMinimumAssign = spelt (codes "#>=") (meant.Assigns (Some 0xE4))
entry word.LimitMaximumAssign = spelt (codes "<#=") (meant.Assigns (Some 0xE5))
entry word.LessAssign = spelt (codes "<=") (meant.Assigns (Some 0xF9))
entry word.GreaterAssign = spelt (codes ">=") (meant.Assigns (Some 0xFA))
entry word.NotEqualAssign = spelt (codes "<>=") (meant.Assigns (Some 0xFB))
entry word.EqualAssign = spelt (codes "===") (meant.Assigns (Some 0xFC))
entry word.LessOrEqualAssign = spelt (codes "=<=") (meant.Assigns (Some 0xFD))
entry word.GreaterOrEqualAssign = spelt (codes "=>=") (meant.Assigns (Some 0xFE))
-- punctuation
entry word.LeftParenthesis = spelt (codes "(") meant.Mark
entry word.RightParenthesis = spelt (codes ")") meant.Mark
entry word.LeftBracket = spelt (codes "[") meant.Mark
entry word.RightBracket = spelt (codes "]") meant.Mark
entry word.Comma = spelt (codes ",") meant.Mark
entry word.Colon = spelt (codes ":") meant.Mark
entry word.Dot = spelt (codes ".") meant.Mark
entry word.DotDot = spelt (codes "..") meant.Mark
entry word.EqualSign = spelt (codes "=") meant.Mark
entry word.Hash = spelt (codes "#") meant.Mark
entry word.Dollar = spelt (codes "$") meant.Here
entry word.Backslash = spelt (codes "\\") meant.Mark
entry word.QuestionMark = plain (codes "?")
-- sections
entry word.Con = plain (codes "CON")
entry word.Var = plain (codes "VAR")
entry word.Obj = plain (codes "OBJ")
entry word.Pub = plain (codes "PUB")
entry word.Pri = plain (codes "PRI")
entry word.Dat = plain (codes "DAT")
-- sizes
entry word.ByteSize = spelt (codes "BYTE") (meant.Size 1)
entry word.WordSize = spelt (codes "WORD") (meant.Size 2)
entry word.LongSize = spelt (codes "LONG") (meant.Size 4)
-- DAT
entry word.Org = plain (codes "ORG")
entry word.Res = plain (codes "RES")
entry word.Fit = plain (codes "FIT")
entry word.File = plain (codes "FILE")
-- statements
entry word.If = plain (codes "IF")
entry word.Ifnot = plain (codes "IFNOT")
entry word.Elseif = plain (codes "ELSEIF")
entry word.Elseifnot = plain (codes "ELSEIFNOT")
entry word.Else = plain (codes "ELSE")
entry word.Repeat = plain (codes "REPEAT")
entry word.Case = plain (codes "CASE")
entry word.Other = plain (codes "OTHER")
entry word.While = plain (codes "WHILE")
entry word.Until = plain (codes "UNTIL")
entry word.From = plain (codes "FROM")
entry word.To = plain (codes "TO")
entry word.Step = plain (codes "STEP")
entry word.Next = plain (codes "NEXT")
entry word.Quit = plain (codes "QUIT")
entry word.Return = plain (codes "RETURN")
entry word.Abort = plain (codes "ABORT")
-- operators of letters
entry word.Not = spelt (codes "NOT") (meant.Prefix 8 0xFF)
entry word.And = spelt (codes "AND") (meant.Infix 9 0xF0)
entry word.Or = spelt (codes "OR") (meant.Infix 10 0xF2)
-- variables
entry word.Result = spelt (codes "RESULT") meant.MethodResult
entry word.Par = spelt (codes "PAR") (meant.Register 0x1F0)
entry word.Cnt = spelt (codes "CNT") (meant.Register 0x1F1)
entry word.Ina = spelt (codes "INA") (meant.Register 0x1F2)
entry word.Inb = spelt (codes "INB") (meant.Register 0x1F3)
entry word.Outa = spelt (codes "OUTA") (meant.Register 0x1F4)
entry word.Outb = spelt (codes "OUTB") (meant.Register 0x1F5)
entry word.Dira = spelt (codes "DIRA") (meant.Register 0x1F6)
entry word.Dirb = spelt (codes "DIRB") (meant.Register 0x1F7)
entry word.Ctra = spelt (codes "CTRA") (meant.Register 0x1F8)
entry word.Ctrb = spelt (codes "CTRB") (meant.Register 0x1F9)
entry word.Frqa = spelt (codes "FRQA") (meant.Register 0x1FA)
entry word.Frqb = spelt (codes "FRQB") (meant.Register 0x1FB)
entry word.Phsa = spelt (codes "PHSA") (meant.Register 0x1FC)
entry word.Phsb = spelt (codes "PHSB") (meant.Register 0x1FD)
entry word.Vcfg = spelt (codes "VCFG") (meant.Register 0x1FE)
entry word.Vscl = spelt (codes "VSCL") (meant.Register 0x1FF)
entry word.Spr = plain (codes "SPR")
-- expressions
entry word.String = spelt (codes "STRING") meant.StringWord
entry word.Constant = spelt (codes "CONSTANT") meant.ConstantWord
entry word.Lookup = spelt (codes "LOOKUP") (meant.Look 0x10)
entry word.Lookupz = spelt (codes "LOOKUPZ") (meant.Look 0x12)
entry word.Lookdown = spelt (codes "LOOKDOWN") (meant.Look 0x11)
entry word.Lookdownz = spelt (codes "LOOKDOWNZ") (meant.Look 0x13)
entry word.Clkfreq = spelt (codes "CLKFREQ") (meant.Value 0xC0)
entry word.Clkmode = spelt (codes "CLKMODE") (meant.Value 0x80)
-- built-in methods; some are instructions too
entry word.Cogid = spelt (codes "COGID") (meant.Value 0x3F)
entry word.Cognew = spelt (codes "COGNEW") (meant.BuiltIn 0x2C)
entry word.Coginit = spelt (codes "COGINIT") (meant.BuiltIn 0x28)
entry word.Cogstop = spelt (codes "COGSTOP") (meant.Command 0x21)
entry word.Locknew = spelt (codes "LOCKNEW") (meant.BuiltIn 0x29)
entry word.Lockret = spelt (codes "LOCKRET") (meant.Command 0x22)
entry word.Lockset = spelt (codes "LOCKSET") (meant.BuiltIn 0x2A)
entry word.Lockclr = spelt (codes "LOCKCLR") (meant.BuiltIn 0x2B)
entry word.Waitcnt = spelt (codes "WAITCNT") (meant.Command 0x23)
entry word.Waitpeq = spelt (codes "WAITPEQ") (meant.Command 0x1B)
entry word.Waitpne = spelt (codes "WAITPNE") (meant.Command 0x1F)
entry word.Waitvid = spelt (codes "WAITVID") meant.TwoOperands
entry word.Bytefill = spelt (codes "BYTEFILL") (meant.Command 0x18)
entry word.Wordfill = spelt (codes "WORDFILL") (meant.Command 0x19)
entry word.Longfill = spelt (codes "LONGFILL") (meant.Command 0x1A)
entry word.Bytemove = spelt (codes "BYTEMOVE") (meant.Command 0x1C)
entry word.Wordmove = spelt (codes "WORDMOVE") (meant.Command 0x1D)
entry word.Longmove = spelt (codes "LONGMOVE") (meant.Command 0x1E)
entry word.Strsize = spelt (codes "STRSIZE") (meant.BuiltIn 0x16)
entry word.Strcomp = spelt (codes "STRCOMP") (meant.BuiltIn 0x17)
entry word.Clkset = plain (codes "CLKSET")
entry word.Reboot = plain (codes "REBOOT")
entry word.Chipver = plain (codes "CHIPVER")
-- floating point
entry word.Float = plain (codes "FLOAT")
entry word.Round = plain (codes "ROUND")
entry word.Trunc = plain (codes "TRUNC")
entry word.Pi = plain (codes "PI")
-- instructions
entry word.Rdbyte = spelt (codes "RDBYTE") meant.OnMemory
entry word.Rdword = spelt (codes "RDWORD") meant.OnMemory
entry word.Rdlong = spelt (codes "RDLONG") meant.OnMemory
entry word.Wrbyte = spelt (codes "WRBYTE") meant.OnMemory
entry word.Wrword = spelt (codes "WRWORD") meant.OnMemory
entry word.Wrlong = spelt (codes "WRLONG") meant.OnMemory
entry word.Hubop = spelt (codes "HUBOP") meant.TwoOperands
entry word.Mul = spelt (codes "MUL") meant.TwoOperands
entry word.Muls = spelt (codes "MULS") meant.TwoOperands
entry word.Enc = spelt (codes "ENC") meant.TwoOperands
entry word.Ones = spelt (codes "ONES") meant.TwoOperands
entry word.Ror = spelt (codes "ROR") meant.TwoOperands
entry word.Rol = spelt (codes "ROL") meant.TwoOperands
entry word.Shr = spelt (codes "SHR") meant.TwoOperands
entry word.Shl = spelt (codes "SHL") meant.TwoOperands
entry word.Rcr = spelt (codes "RCR") meant.TwoOperands
entry word.Rcl = spelt (codes "RCL") meant.TwoOperands
entry word.Sar = spelt (codes "SAR") meant.TwoOperands
entry word.Rev = spelt (codes "REV") meant.TwoOperands
entry word.Mins = spelt (codes "MINS") meant.TwoOperands
entry word.Maxs = spelt (codes "MAXS") meant.TwoOperands
entry word.Min = spelt (codes "MIN") meant.TwoOperands
entry word.Max = spelt (codes "MAX") meant.TwoOperands
entry word.Movs = spelt (codes "MOVS") meant.TwoOperands
entry word.Movd = spelt (codes "MOVD") meant.TwoOperands
entry word.Movi = spelt (codes "MOVI") meant.TwoOperands
entry word.Jmpret = spelt (codes "JMPRET") meant.TwoOperands
entry word.Andn = spelt (codes "ANDN") meant.TwoOperands
entry word.Xor = spelt (codes "XOR") meant.TwoOperands
entry word.Muxc = spelt (codes "MUXC") meant.TwoOperands
entry word.Muxnc = spelt (codes "MUXNC") meant.TwoOperands
entry word.Muxz = spelt (codes "MUXZ") meant.TwoOperands
entry word.Muxnz = spelt (codes "MUXNZ") meant.TwoOperands
entry word.Add = spelt (codes "ADD") meant.TwoOperands
entry word.Sub = spelt (codes "SUB") meant.TwoOperands
entry word.Addabs = spelt (codes "ADDABS") meant.TwoOperands
entry word.Subabs = spelt (codes "SUBABS") meant.TwoOperands
entry word.Sumc = spelt (codes "SUMC") meant.TwoOperands
entry word.Sumnc = spelt (codes "SUMNC") meant.TwoOperands
entry word.Sumz = spelt (codes "SUMZ") meant.TwoOperands
entry word.Sumnz = spelt (codes "SUMNZ") meant.TwoOperands
entry word.Mov = spelt (codes "MOV") meant.TwoOperands
entry word.Neg = spelt (codes "NEG") meant.TwoOperands
entry word.Abs = spelt (codes "ABS") meant.TwoOperands
entry word.Absneg = spelt (codes "ABSNEG") meant.TwoOperands
entry word.Negc = spelt (codes "NEGC") meant.TwoOperands
entry word.Negnc = spelt (codes "NEGNC") meant.TwoOperands
entry word.Negz = spelt (codes "NEGZ") meant.TwoOperands
entry word.Negnz = spelt (codes "NEGNZ") meant.TwoOperands
entry word.Cmps = spelt (codes "CMPS") meant.TwoOperands
entry word.Cmpsx = spelt (codes "CMPSX") meant.TwoOperands
entry word.Addx = spelt (codes "ADDX") meant.TwoOperands
entry word.Subx = spelt (codes "SUBX") meant.TwoOperands
entry word.Adds = spelt (codes "ADDS") meant.TwoOperands
entry word.Subs = spelt (codes "SUBS") meant.TwoOperands
entry word.Addsx = spelt (codes "ADDSX") meant.TwoOperands
entry word.Subsx = spelt (codes "SUBSX") meant.TwoOperands
entry word.Cmpsub = spelt (codes "CMPSUB") meant.TwoOperands
entry word.Djnz = spelt (codes "DJNZ") meant.TwoOperands
entry word.Tjnz = spelt (codes "TJNZ") meant.TwoOperands
entry word.Tjz = spelt (codes "TJZ") meant.TwoOperands
entry word.Test = spelt (codes "TEST") meant.TwoOperands
entry word.Testn = spelt (codes "TESTN") meant.TwoOperands
entry word.Cmp = spelt (codes "CMP") meant.TwoOperands
entry word.Cmpx = spelt (codes "CMPX") meant.TwoOperands
entry word.Jmp = plain (codes "JMP")
entry word.Ret = plain (codes "RET")
entry word.Call = plain (codes "CALL")
entry word.Nop = plain (codes "NOP")
-- effects of an instruction
entry word.Wz = spelt (codes "WZ") (meant.Effect 1)
entry word.Wc = spelt (codes "WC") (meant.Effect 2)
entry word.Wr = spelt (codes "WR") (meant.Effect 4)
entry word.Nr = spelt (codes "NR") (meant.Effect 8)
-- conditions of an instruction: bit 2C + Z says whether it is executed
entry word.IfAlways = condition 15 (codes "IF_ALWAYS" ∷ [])
entry word.IfNever = condition 0 (codes "IF_NEVER" ∷ [])
entry word.IfE = condition 10 (codes "IF_E" ∷ codes "IF_Z" ∷ [])
entry word.IfNe = condition 5 (codes "IF_NE" ∷ codes "IF_NZ" ∷ [])
entry word.IfA = condition 1 (codes "IF_A" ∷ codes "IF_NC_AND_NZ" ∷ codes "IF_NZ_AND_NC" ∷ [])
entry word.IfB = condition 12 (codes "IF_B" ∷ codes "IF_C" ∷ [])
entry word.IfAe = condition 3 (codes "IF_AE" ∷ codes "IF_NC" ∷ [])
entry word.IfBe = condition 14 (codes "IF_BE" ∷ codes "IF_C_OR_Z" ∷ codes "IF_Z_OR_C" ∷ [])
entry word.IfNcAndZ = condition 2 (codes "IF_NC_AND_Z" ∷ codes "IF_Z_AND_NC" ∷ [])
entry word.IfCAndNz = condition 4 (codes "IF_C_AND_NZ" ∷ codes "IF_NZ_AND_C" ∷ [])
entry word.IfCAndZ = condition 8 (codes "IF_C_AND_Z" ∷ codes "IF_Z_AND_C" ∷ [])
entry word.IfCEqZ = condition 9 (codes "IF_C_EQ_Z" ∷ codes "IF_Z_EQ_C" ∷ [])
entry word.IfCNeZ = condition 6 (codes "IF_C_NE_Z" ∷ codes "IF_Z_NE_C" ∷ [])
entry word.IfCOrNz = condition 13 (codes "IF_C_OR_NZ" ∷ codes "IF_NZ_OR_C" ∷ [])
entry word.IfNcOrZ = condition 11 (codes "IF_NC_OR_Z" ∷ codes "IF_Z_OR_NC" ∷ [])
entry word.IfNcOrNz = condition 7 (codes "IF_NC_OR_NZ" ∷ codes "IF_NZ_OR_NC" ∷ [])
entry _ = record { spellings = []; meaning = meant.Nothing }

abbrev pub first_of : List (List ℕ) → List ℕ
first_of [] = []
first_of (text ∷ texts) = text

-- how a symbol or a reserved word is spelled
abbrev pub spelling : Word → List ℕ
spelling w = first_of (entry w).spellings

-- the symbols; a symbol's number is its place here, from 0
unfoldable pub symbols : List Word
symbols =
    word.PlusPlus ∷ word.MinusMinus ∷ word.Tilde ∷ word.TildeTilde ∷ word.At ∷ word.AtAt ∷ word.Plus ∷ word.Minus ∷ word.SquareRoot ∷ word.Absolute ∷
    word.DecodeBit ∷ word.EncodeBit ∷ word.Invert ∷ word.RotateRight ∷ word.RotateLeft ∷ word.ShiftRight ∷ word.ShiftLeft ∷ word.ArithmeticShift ∷
    word.Reverse ∷ word.BitAnd ∷ word.BitOr ∷ word.BitXor ∷ word.Multiply ∷ word.MultiplyHigh ∷ word.Divide ∷ word.Remainder ∷ word.LimitMinimum ∷
    word.LimitMaximum ∷ word.Less ∷ word.Greater ∷ word.NotEqual ∷ word.Equal ∷ word.LessOrEqual ∷ word.GreaterOrEqual ∷ word.Assign ∷
    word.RotateRightAssign ∷ word.RotateLeftAssign ∷ word.ShiftRightAssign ∷ word.ShiftLeftAssign ∷ word.ArithmeticShiftAssign ∷ word.ReverseAssign ∷
    word.BitAndAssign ∷ word.BitOrAssign ∷ word.BitXorAssign ∷ word.MultiplyAssign ∷ word.MultiplyHighAssign ∷ word.DivideAssign ∷
    word.RemainderAssign ∷ word.PlusAssign ∷ word.MinusAssign ∷ word.LimitMinimumAssign ∷ word.LimitMaximumAssign ∷ word.LessAssign ∷
    word.GreaterAssign ∷ word.NotEqualAssign ∷ word.EqualAssign ∷ word.LessOrEqualAssign ∷ word.GreaterOrEqualAssign ∷ word.LeftParenthesis ∷
    word.RightParenthesis ∷ word.LeftBracket ∷ word.RightBracket ∷ word.Comma ∷ word.Colon ∷ word.Dot ∷ word.DotDot ∷ word.EqualSign ∷ word.Hash ∷
    word.Dollar ∷ word.Backslash ∷ word.QuestionMark ∷ []

-- the reserved words
unfoldable pub reserved_words : List Word
reserved_words =
    word.Con ∷ word.Var ∷ word.Obj ∷ word.Pub ∷ word.Pri ∷ word.Dat ∷ word.ByteSize ∷ word.WordSize ∷ word.LongSize ∷ word.Org ∷ word.Res ∷ word.Fit ∷
    word.File ∷ word.If ∷ word.Ifnot ∷ word.Elseif ∷ word.Elseifnot ∷ word.Else ∷ word.Repeat ∷ word.Case ∷ word.Other ∷ word.While ∷ word.Until ∷
    word.From ∷ word.To ∷ word.Step ∷ word.Next ∷ word.Quit ∷ word.Return ∷ word.Abort ∷ word.Not ∷ word.And ∷ word.Or ∷ word.Result ∷ word.Par ∷
    word.Cnt ∷ word.Ina ∷ word.Inb ∷ word.Outa ∷ word.Outb ∷ word.Dira ∷ word.Dirb ∷ word.Ctra ∷ word.Ctrb ∷ word.Frqa ∷ word.Frqb ∷ word.Phsa ∷
    word.Phsb ∷ word.Vcfg ∷ word.Vscl ∷ word.Spr ∷ word.String ∷ word.Constant ∷ word.Lookup ∷ word.Lookupz ∷ word.Lookdown ∷ word.Lookdownz ∷
    word.Clkfreq ∷ word.Clkmode ∷ word.Cogid ∷ word.Cognew ∷ word.Coginit ∷ word.Cogstop ∷ word.Locknew ∷ word.Lockret ∷ word.Lockset ∷ word.Lockclr ∷
    word.Waitcnt ∷ word.Waitpeq ∷ word.Waitpne ∷ word.Waitvid ∷ word.Bytefill ∷ word.Wordfill ∷ word.Longfill ∷ word.Bytemove ∷ word.Wordmove ∷
    word.Longmove ∷ word.Strsize ∷ word.Strcomp ∷ word.Clkset ∷ word.Reboot ∷ word.Chipver ∷ word.Float ∷ word.Round ∷ word.Trunc ∷ word.Pi ∷
    word.Rdbyte ∷ word.Rdword ∷ word.Rdlong ∷ word.Wrbyte ∷ word.Wrword ∷ word.Wrlong ∷ word.Hubop ∷ word.Mul ∷ word.Muls ∷ word.Enc ∷ word.Ones ∷
    word.Ror ∷ word.Rol ∷ word.Shr ∷ word.Shl ∷ word.Rcr ∷ word.Rcl ∷ word.Sar ∷ word.Rev ∷ word.Mins ∷ word.Maxs ∷ word.Min ∷ word.Max ∷ word.Movs ∷
    word.Movd ∷ word.Movi ∷ word.Jmpret ∷ word.Andn ∷ word.Xor ∷ word.Muxc ∷ word.Muxnc ∷ word.Muxz ∷ word.Muxnz ∷ word.Add ∷ word.Sub ∷ word.Addabs ∷
    word.Subabs ∷ word.Sumc ∷ word.Sumnc ∷ word.Sumz ∷ word.Sumnz ∷ word.Mov ∷ word.Neg ∷ word.Abs ∷ word.Absneg ∷ word.Negc ∷ word.Negnc ∷
    word.Negz ∷ word.Negnz ∷ word.Cmps ∷ word.Cmpsx ∷ word.Addx ∷ word.Subx ∷ word.Adds ∷ word.Subs ∷ word.Addsx ∷ word.Subsx ∷ word.Cmpsub ∷
    word.Djnz ∷ word.Tjnz ∷ word.Tjz ∷ word.Test ∷ word.Testn ∷ word.Cmp ∷ word.Cmpx ∷ word.Jmp ∷ word.Ret ∷ word.Call ∷ word.Nop ∷ word.Wz ∷
    word.Wc ∷ word.Wr ∷ word.Nr ∷ word.IfAlways ∷ word.IfNever ∷ word.IfE ∷ word.IfNe ∷ word.IfA ∷ word.IfB ∷ word.IfAe ∷ word.IfBe ∷ word.IfNcAndZ ∷
    word.IfCAndNz ∷ word.IfCAndZ ∷ word.IfCEqZ ∷ word.IfCNeZ ∷ word.IfCOrNz ∷ word.IfNcOrZ ∷ word.IfNcOrNz ∷ []

-- the symbols and the reserved words
unfoldable pub every_word : List Word
every_word = symbols ++ reserved_words

-- a character as a capital letter, where it's a small one
abbrev pub capital : ℕ → ℕ
capital c = if nat_le 97 c && nat_le c 122 then c - 32 else c

-- whether a word is spelled so
abbrev pub is_spelled : Word → List ℕ → Bool
is_spelled w text = is_among (entry w).spellings text

-- the first of these words that is spelled so
abbrev pub first_spelled : List ℕ → List Word → Option Word
first_spelled text [] = None
first_spelled text (w ∷ ws) = if is_spelled w text then Some w else first_spelled text ws

-- the symbol or the reserved word that is spelled so, whatever the case of its letters
abbrev pub word_spelled : List ℕ → Option Word
word_spelled text = first_spelled (map capital text) every_word

-- what a token of a file is to a reader of Spin
abbrev pub word_of_kind : List ℕ → TokenKind → Word
word_of_kind text kind.Name = unwrap_or (word_spelled text) word.Name
word_of_kind text (kind.Number _) = word.Number
word_of_kind text kind.Float = word.FloatNumber
word_of_kind text kind.Str = word.Str
word_of_kind text (kind.Symbol n) = unwrap_or (slice_get symbols n) word.Name
word_of_kind text kind.LineEnd = word.LineEnd

abbrev pub word_of : List ℕ → Token → Word
word_of bytes token = word_of_kind (characters bytes token) token.kind
