-- Names and strings, as trees hold them (Propeller Manual v1.2, "Elements of the Spin language" and "Reserved Words"; the
-- limits are this project's profile).
use Rattle.std.specs.Prelude.{◌≡◌, ◌≢◌, ℕ, ◌<◌, ◌≤◌, Bool, true, false, ◌==◌, nat_le, ◌&&◌, ◌||◌, IsTrue, List, [], ◌∷◌, ◌++◌, length, codes, All}

-- characters: 10 is LF, 13 CR, 34 `"`, 48 to 57 are the digits, 58 is `:`, 65 to 90 are the capitals, 95 is `_`

-- a capital letter or `_`
abbrev pub is_capital : ℕ → Bool
is_capital c = (nat_le 65 c && nat_le c 90) || (c == 95)

abbrev pub is_in_name : ℕ → Bool
is_in_name c = is_capital c || (nat_le 48 c && nat_le c 57)

abbrev pub begins_name : List ℕ → Bool
begins_name [] = false
begins_name (c ∷ cs) = is_capital c

-- whether two texts have the same characters
abbrev pub same : List ℕ → List ℕ → Bool
same [] [] = true
same [] (y ∷ ys) = false
same (x ∷ xs) [] = false
same (x ∷ xs) (y ∷ ys) = (x == y) && same xs ys

-- whether a text is among these
abbrev pub is_among : List (List ℕ) → List ℕ → Bool
is_among [] text = false
is_among (t ∷ ts) text = same t text || is_among ts text

-- the instructions with a destination and a source, but for those on main memory
unfoldable pub two_operands : List (List ℕ)
two_operands =
    codes "HUBOP" ∷ codes "MUL" ∷ codes "MULS" ∷ codes "ENC" ∷ codes "ONES" ∷ codes "ROR" ∷ codes "ROL" ∷ codes "SHR" ∷
    codes "SHL" ∷ codes "RCR" ∷ codes "RCL" ∷ codes "SAR" ∷ codes "REV" ∷ codes "MINS" ∷ codes "MAXS" ∷ codes "MIN" ∷
    codes "MAX" ∷ codes "MOVS" ∷ codes "MOVD" ∷ codes "MOVI" ∷ codes "JMPRET" ∷ codes "AND" ∷ codes "ANDN" ∷ codes "OR" ∷
    codes "XOR" ∷ codes "MUXC" ∷ codes "MUXNC" ∷ codes "MUXZ" ∷ codes "MUXNZ" ∷ codes "ADD" ∷ codes "SUB" ∷
    codes "ADDABS" ∷ codes "SUBABS" ∷ codes "SUMC" ∷ codes "SUMNC" ∷ codes "SUMZ" ∷ codes "SUMNZ" ∷ codes "MOV" ∷
    codes "NEG" ∷ codes "ABS" ∷ codes "ABSNEG" ∷ codes "NEGC" ∷ codes "NEGNC" ∷ codes "NEGZ" ∷ codes "NEGNZ" ∷
    codes "CMPS" ∷ codes "CMPSX" ∷ codes "ADDX" ∷ codes "SUBX" ∷ codes "ADDS" ∷ codes "SUBS" ∷ codes "ADDSX" ∷
    codes "SUBSX" ∷ codes "CMPSUB" ∷ codes "DJNZ" ∷ codes "TJNZ" ∷ codes "TJZ" ∷ codes "TEST" ∷ codes "TESTN" ∷
    codes "CMP" ∷ codes "CMPX" ∷ codes "WAITPEQ" ∷ codes "WAITPNE" ∷ codes "WAITCNT" ∷ codes "WAITVID" ∷ []

-- the instructions on main memory
unfoldable pub on_memory : List (List ℕ)
on_memory = codes "RDBYTE" ∷ codes "RDWORD" ∷ codes "RDLONG" ∷ codes "WRBYTE" ∷ codes "WRWORD" ∷ codes "WRLONG" ∷ []

-- the instructions with a destination alone
unfoldable pub one_operand : List (List ℕ)
one_operand =
    codes "CLKSET" ∷ codes "COGID" ∷ codes "COGINIT" ∷ codes "COGSTOP" ∷ codes "LOCKNEW" ∷ codes "LOCKRET" ∷
    codes "LOCKSET" ∷ codes "LOCKCLR" ∷ []

-- the words of instructions
abbrev pub mnemonics : List (List ℕ)
mnemonics = two_operands ++ (on_memory ++ (one_operand ++ (codes "JMP" ∷ codes "CALL" ∷ codes "RET" ∷ codes "NOP" ∷ [])))

-- RESULT, which only stands for the result of a method
abbrev pub result_word : List ℕ
result_word = codes "RESULT"

-- the other reserved words
unfoldable pub spin_words : List (List ℕ)
spin_words =
    codes "CON" ∷ codes "VAR" ∷ codes "OBJ" ∷ codes "PUB" ∷ codes "PRI" ∷ codes "DAT" ∷ codes "BYTE" ∷ codes "WORD" ∷
    codes "LONG" ∷ codes "ORG" ∷ codes "RES" ∷ codes "FIT" ∷ codes "FILE" ∷ codes "IF" ∷ codes "IFNOT" ∷
    codes "ELSEIF" ∷ codes "ELSEIFNOT" ∷ codes "ELSE" ∷ codes "REPEAT" ∷ codes "CASE" ∷ codes "OTHER" ∷ codes "WHILE" ∷
    codes "UNTIL" ∷ codes "FROM" ∷ codes "TO" ∷ codes "STEP" ∷ codes "NEXT" ∷ codes "QUIT" ∷ codes "RETURN" ∷
    codes "ABORT" ∷ codes "NOT" ∷ codes "PAR" ∷ codes "CNT" ∷ codes "INA" ∷ codes "INB" ∷ codes "OUTA" ∷ codes "OUTB" ∷
    codes "DIRA" ∷ codes "DIRB" ∷ codes "CTRA" ∷ codes "CTRB" ∷ codes "FRQA" ∷ codes "FRQB" ∷ codes "PHSA" ∷
    codes "PHSB" ∷ codes "VCFG" ∷ codes "VSCL" ∷ codes "SPR" ∷ codes "STRING" ∷ codes "CONSTANT" ∷ codes "LOOKUP" ∷
    codes "LOOKUPZ" ∷ codes "LOOKDOWN" ∷ codes "LOOKDOWNZ" ∷ codes "CLKFREQ" ∷ codes "CLKMODE" ∷ codes "COGNEW" ∷
    codes "BYTEFILL" ∷ codes "WORDFILL" ∷ codes "LONGFILL" ∷ codes "BYTEMOVE" ∷ codes "WORDMOVE" ∷ codes "LONGMOVE" ∷
    codes "STRSIZE" ∷ codes "STRCOMP" ∷ codes "REBOOT" ∷ codes "CHIPVER" ∷ codes "FLOAT" ∷ codes "ROUND" ∷
    codes "TRUNC" ∷ codes "PI" ∷ codes "WZ" ∷ codes "WC" ∷ codes "WR" ∷ codes "NR" ∷ []

-- the conditions of instructions
unfoldable pub condition_words : List (List ℕ)
condition_words =
    codes "IF_ALWAYS" ∷ codes "IF_NEVER" ∷ codes "IF_E" ∷ codes "IF_Z" ∷ codes "IF_NE" ∷ codes "IF_NZ" ∷ codes "IF_A" ∷
    codes "IF_NC_AND_NZ" ∷ codes "IF_NZ_AND_NC" ∷ codes "IF_B" ∷ codes "IF_C" ∷ codes "IF_AE" ∷ codes "IF_NC" ∷
    codes "IF_BE" ∷ codes "IF_C_OR_Z" ∷ codes "IF_Z_OR_C" ∷ codes "IF_NC_AND_Z" ∷ codes "IF_Z_AND_NC" ∷
    codes "IF_C_AND_NZ" ∷ codes "IF_NZ_AND_C" ∷ codes "IF_C_AND_Z" ∷ codes "IF_Z_AND_C" ∷ codes "IF_C_EQ_Z" ∷
    codes "IF_Z_EQ_C" ∷ codes "IF_C_NE_Z" ∷ codes "IF_Z_NE_C" ∷ codes "IF_C_OR_NZ" ∷ codes "IF_NZ_OR_C" ∷
    codes "IF_NC_OR_Z" ∷ codes "IF_Z_OR_NC" ∷ codes "IF_NC_OR_NZ" ∷ codes "IF_NZ_OR_NC" ∷ []

abbrev pub is_reserved : List ℕ → Bool
is_reserved n = is_among (result_word ∷ []) n || (is_among mnemonics n || (is_among spin_words n || is_among condition_words n))

-- a name, in capitals
pub record IsName (n : List ℕ) : Type 0 where
  pub begins : IsTrue (begins_name n)
  pub characters : All (λ c. IsTrue (is_in_name c)) n
  pub short : length n ≤ 30
  pub free : is_reserved n ≡ false

-- a word, reserved or not, in capitals
pub record IsWord (n : List ℕ) : Type 0 where
  pub begins : IsTrue (begins_name n)
  pub characters : All (λ c. IsTrue (is_in_name c)) n
  pub short : length n ≤ 30

-- the name of a label; that of a local one is any word behind its colon
pub data IsLabel : List ℕ → Type 0 where
  plain : {n : List ℕ} → IsName n → IsLabel n
  behind_colon : {n : List ℕ} → IsWord n → IsLabel (58 ∷ n)

-- whether a label is local: it begins with a colon
abbrev pub is_local : List ℕ → Bool
is_local [] = false
is_local (c ∷ cs) = c == 58

-- the name of a variable: RESULT too, and in DAT that of a local label
pub data IsVariableName (dat : Bool) : List ℕ → Type 0 where
  plain_name : {n : List ℕ} → IsName n → IsVariableName dat n
  result_name : IsVariableName dat result_word
  local_label : {n : List ℕ} → IsTrue dat → IsWord n → IsVariableName dat (58 ∷ n)

-- a character that a string may have
abbrev pub IsQuoted : ℕ → Type 0
IsQuoted c = (c < 256) × (c ≢ 34) × (c ≢ 10) × (c ≢ 13)

-- the characters of a string that isn't empty
abbrev pub IsString : List ℕ → Type 0
IsString t = (0 < length t) × All IsQuoted t

-- the name of a file, with a dot (46)
abbrev pub has_dot : List ℕ → Bool
has_dot [] = false
has_dot (c ∷ cs) = (c == 46) || has_dot cs

abbrev pub IsFileName : List ℕ → Type 0
IsFileName t = IsString t × IsTrue (has_dot t)
