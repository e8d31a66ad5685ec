-- The text of a long, and the tokens that are read of it.
use Rattle.std.proofs.Common.{◌≡◌, ℕ, ◌+◌, ◌*◌, ◌<◌, ◌≤◌, Bool, true, false, List, [], ◌∷◌, ◌++◌, length, get_or, refl, sym, ap, ◌∙◌, subst, arith, codes, append_assoc}
use Rattle.std.proofs.lemmas.List.{length-append}
use Rattle.std.specs.Prelude.{◌==◌, nat_lt, nat_le, if◌then◌else◌, unwrap_or, IsTrue}
use Rattle.std.specs.Int.{from_bool}
use Rattle.p8_lexer.specs.declared.word.Word.{Word}
use Rattle.p8_lexer.specs.declared.word.Word.TheVariants as word
use Rattle.p8_lexer.specs.declared.piece.Class.TheVariants as class
use Rattle.p8_lexer.specs.Lexing.{is_in}
use Rattle.p8_lexer.specs.Words.{spelling}
use Rattle.p8_lines.specs.Tokens.{LineToken}
use Rattle.std.proofs.lemmas.Bool.Decides.{nat_tests}
use Rattle.p8_instr.specs.declared.instruction.Instr.{Instr}
use Rattle.p8_instr.specs.Conditions.{conditions}
use Rattle.p8_instr.specs.Mnemonics.{word_where}
use Rattle.p8_instr.specs.Instruction.{writes_z, writes_c, writes_result, is_immediate, FitsFields}
use Rattle.p8_print.specs.Spelled.{Spelled, reserved}
use Rattle.p8_print.specs.DataWords.{words_of_effects}
use Rattle.p8_printed.proofs.Made.{sixteen}
use Rattle.p8_printed.proofs.Going.{AreEnded}
use Rattle.p8_dat.specs.Printed.{effects_of}
use Rattle.p8_instr.specs.Numerals.{hex}
use Rattle.p8_instr.specs.Instructions.{condition_text, word_text, operands_text, effects_text, instruction_text}
use Rattle.p8_printed.proofs.Words.{Lettered, lettered, has_class, instruction_lettered, condition_lettered, WordFor, opcode_word, is_condition_for, condition_word, condition_is}
use Rattle.p8_printed.proofs.Runs.{IsPlain}
use Rattle.p8_printed.proofs.LongReading.{Reads, so, Worded, Numbered, no_blank, blanks_read, end_read, word_read, ended_read, comma_read, hash_read, number_read}

-- ---- the effects as words

abbrev pub result_words : Bool → Bool → List Spelled
result_words low r = if low then [] else (if r then reserved word.Wr ∷ [] else reserved word.Nr ∷ [])

abbrev pub effect_words : Bool → Bool → Bool → Bool → List Spelled
effect_words z c low r = (if z then reserved word.Wz ∷ [] else []) ++ ((if c then reserved word.Wc ∷ [] else []) ++ (result_words low r ++ []))

abbrev pub effects_by : Bool → Bool → Bool → Bool → ℕ
effects_by z c low r = from_bool z + 2 * from_bool c + (if low then 0 else (if r then 4 else 8))

effect_words_are : (z c low r : Bool) → effect_words z c low r ≡ words_of_effects (effects_by z c low r)
effect_words_are = sixteen (λ z c low r. effect_words z c low r ≡ words_of_effects (effects_by z c low r)) (refl, refl, refl, refl, refl, refl, refl, refl, refl, refl, refl, refl, refl, refl, refl, refl)

-- ---- the text, from its parts on

abbrev pub result_text : Bool → Bool → List ℕ
result_text low r = if low then [] else (if r then codes " WR" else codes " NR")

abbrev pub behind_operands : Bool → Bool → Bool → Bool → List ℕ
behind_operands z c low r = (if z then codes " WZ" else []) ++ ((if c then codes " WC" else []) ++ (result_text low r ++ codes "\n"))

-- `#` in front of a number
abbrev pub mark_text : Bool → List ℕ
mark_text immediate = if immediate then codes "#$" else codes "$"

abbrev pub behind_comma : Bool → ℕ → List ℕ → List ℕ
behind_comma immediate source rest = mark_text immediate ++ (hex 3 source ++ rest)

abbrev pub behind_word : Instr → List ℕ → List ℕ
behind_word i rest = 32 ∷ (36 ∷ (hex 3 i.dest ++ (44 ∷ 32 ∷ behind_comma (is_immediate i) i.source rest)))

abbrev pub rest_of : Instr → List ℕ
rest_of i = behind_operands (writes_z i) (writes_c i) (nat_lt i.opcode 3) (writes_result i)

abbrev pub behind_of : Instr → List ℕ
behind_of i = 44 ∷ 32 ∷ behind_comma (is_immediate i) i.source (rest_of i)

abbrev pub line_text : Instr → List ℕ
line_text i = condition_text i ++ (word_text i ++ behind_word i (rest_of i))

in_parts : (c w o e n : List ℕ) → c ++ w ++ codes " " ++ o ++ e ++ n ≡ c ++ (w ++ (32 ∷ (o ++ (e ++ n))))
in_parts c w o e n =
    append_assoc (c ++ w ++ codes " " ++ o) e n ∙ append_assoc (c ++ w ++ codes " ") o (e ++ n) ∙ append_assoc (c ++ w) (codes " ") (o ++ (e ++ n)) ∙ append_assoc c w (32 ∷ (o ++ (e ++ n)))

in_operands : (d m s rest : List ℕ) → codes "$" ++ d ++ m ++ s ++ rest ≡ 36 ∷ (d ++ (m ++ (s ++ rest)))
in_operands d m s rest = append_assoc (codes "$" ++ d ++ m) s rest ∙ append_assoc (codes "$" ++ d) m (s ++ rest)

in_effects : (a b c n : List ℕ) → a ++ b ++ c ++ n ≡ a ++ (b ++ (c ++ n))
in_effects a b c n = append_assoc (a ++ b) c n ∙ append_assoc a b (c ++ n)

between : (b : Bool) → (if b then codes ", #$" else codes ", $") ≡ 44 ∷ 32 ∷ mark_text b
between true = refl
between false = refl

pub text_is : (i : Instr) → instruction_text i ++ codes "\n" ≡ line_text i
text_is i =
    let z = if writes_z i then codes " WZ" else [] in
    let c = if writes_c i then codes " WC" else [] in
    let r = result_text (nat_lt i.opcode 3) (writes_result i) in
    let rest = behind_operands (writes_z i) (writes_c i) (nat_lt i.opcode 3) (writes_result i) in
    let m = if is_immediate i then codes ", #$" else codes ", $" in
    in_parts (condition_text i) (word_text i) (operands_text i) (effects_text i) (codes "\n")
    ∙ ap (λ e. condition_text i ++ (word_text i ++ (32 ∷ (operands_text i ++ e)))) (in_effects z c r (codes "\n"))
    ∙ ap (λ o. condition_text i ++ (word_text i ++ (32 ∷ o))) (in_operands (hex 3 i.dest) m (hex 3 i.source) rest)
    ∙ ap (λ m. condition_text i ++ (word_text i ++ (32 ∷ (36 ∷ (hex 3 i.dest ++ (m ++ (hex 3 i.source ++ rest))))))) (between (is_immediate i))

-- ---- what is read of it

-- the tokens after the comma, and from the word of the instruction on
abbrev pub SourceOf : Bool → ℕ → ℕ → List LineToken → Type 0
SourceOf true v f = Worded word.Hash (Numbered v (AreEnded (words_of_effects f)))
SourceOf false v f = Numbered v (AreEnded (words_of_effects f))

abbrev pub FromWord : Instr → Word → List LineToken → Type 0
FromWord i w = Worded w (Numbered i.dest (Worded word.Comma (SourceOf (is_immediate i) i.source (effects_of i))))

-- with the condition, if there is one
pub data LineOf (i : Instr) (w : Word) : List LineToken → Type 0 where
  always : {ts : List LineToken} → i.cond ≡ 15 → FromWord i w ts → LineOf i w ts
  conditional : {ts : List LineToken} (c : Word) → IsTrue (is_condition_for i.cond c) → Worded c (FromWord i w) ts → LineOf i w ts

equal : (a b : ℕ) → (a == b) ≡ true → a ≡ b
equal a b h = grind (arith, nat_tests)

-- the word of its opcode
pub word_of : (i : Instr) → FitsFields i → WordFor (has_class (nat_lt i.opcode 3)) (word_text i)
word_of i fits = opcode_word i.opcode (writes_result i) fits.opcode

wz : Lettered word.Wz
wz = lettered word.Wz refl

wc : Lettered word.Wc
wc = lettered word.Wc refl

wr : Lettered word.Wr
wr = lettered word.Wr refl

nr : Lettered word.Nr
nr = lettered word.Nr refl

module _ (bytes : List ℕ) (plain : IsPlain bytes) where
  -- words of effects up to the line's end, in front of which no name goes on
  record Tail (rest : List ℕ) (ws : List Spelled) : Type 0 where
    reads : Reads bytes rest (AreEnded ws)
    stops : is_in class.Name (get_or rest 0 0) ≡ false

  one_effect : (w : Word) (rest : List ℕ) (ws : List Spelled) → Lettered w → Tail rest ws → Tail (32 ∷ (spelling w ++ rest)) (reserved w ∷ ws)
  one_effect w rest ws l t = record { reads = blanks_read bytes plain 1 (spelling w ++ rest) (omega arith) (no_blank w rest l) (ended_read bytes plain w rest ws l t.stops t.reads); stops = refl }

  maybe_wz : (b : Bool) (rest : List ℕ) (ws : List Spelled) → Tail rest ws → Tail ((if b then codes " WZ" else []) ++ rest) ((if b then reserved word.Wz ∷ [] else []) ++ ws)
  maybe_wz true rest ws t = one_effect word.Wz rest ws wz t
  maybe_wz false rest ws t = t

  maybe_wc : (b : Bool) (rest : List ℕ) (ws : List Spelled) → Tail rest ws → Tail ((if b then codes " WC" else []) ++ rest) ((if b then reserved word.Wc ∷ [] else []) ++ ws)
  maybe_wc true rest ws t = one_effect word.Wc rest ws wc t
  maybe_wc false rest ws t = t

  result_read : (low r : Bool) (rest : List ℕ) (ws : List Spelled) → Tail rest ws → Tail (result_text low r ++ rest) (result_words low r ++ ws)
  result_read true r rest ws t = t
  result_read false true rest ws t = one_effect word.Wr rest ws wr t
  result_read false false rest ws t = one_effect word.Nr rest ws nr t

  effects_read : (z c low r : Bool) → Tail (behind_operands z c low r) (words_of_effects (effects_by z c low r))
  effects_read z c low r =
      let end : Tail (codes "\n") [] = record { reads = end_read bytes plain; stops = refl } in
      let result = result_read low r (codes "\n") [] end in
      let flags = maybe_wc c (result_text low r ++ codes "\n") (result_words low r ++ []) result in
      subst (Tail (behind_operands z c low r)) (effect_words_are z c low r)
      (maybe_wz z ((if c then codes " WC" else []) ++ (result_text low r ++ codes "\n")) ((if c then reserved word.Wc ∷ [] else []) ++ (result_words low r ++ [])) flags)

  source_read : (b : Bool) (v f : ℕ) (rest : List ℕ) → v < 512 → Tail rest (words_of_effects f) → Reads bytes (32 ∷ behind_comma b v rest) (SourceOf b v f)
  source_read true v f rest small t =
      blanks_read bytes plain 1 (35 ∷ 36 ∷ (hex 3 v ++ rest)) (omega arith) refl (hash_read bytes plain (hex 3 v ++ rest) (number_read bytes plain v rest (omega arith) t.stops t.reads))
  source_read false v f rest small t = blanks_read bytes plain 1 (36 ∷ (hex 3 v ++ rest)) (omega arith) refl (number_read bytes plain v rest (omega arith) t.stops t.reads)

  module _ (i : Instr) (fits : FitsFields i) where
    from_word : (w : Word) → Lettered w → Reads bytes (spelling w ++ behind_word i (rest_of i)) (FromWord i w)
    from_word w l =
        word_read bytes plain w (behind_word i (rest_of i)) l refl
        (blanks_read bytes plain 1 (36 ∷ (hex 3 i.dest ++ (behind_of i))) (omega arith) refl
        (number_read bytes plain i.dest (behind_of i) (omega (arith, fits.dest)) refl
        (comma_read bytes plain (behind_comma (is_immediate i) i.source (rest_of i))
        (source_read (is_immediate i) i.source (effects_of i) (rest_of i) fits.source (effects_read (writes_z i) (writes_c i) (nat_lt i.opcode 3) (writes_result i))))))

    whole_word : Reads bytes (word_text i ++ behind_word i (rest_of i)) (FromWord i (word_of i fits).word)
    whole_word = subst (λ t. Reads bytes (t ++ behind_word i (rest_of i)) (FromWord i (word_of i fits).word)) (sym (word_of i fits).spelled) (from_word (word_of i fits).word (instruction_lettered (nat_lt i.opcode 3) (word_of i fits).word (word_of i fits).kind))

    word_no_blank : is_in class.Blank (get_or (word_text i ++ behind_word i (rest_of i)) 0 0) ≡ false
    word_no_blank = ap (λ t. is_in class.Blank (get_or (t ++ behind_word i (rest_of i)) 0 0)) (word_of i fits).spelled ∙ no_blank (word_of i fits).word (behind_word i (rest_of i)) (instruction_lettered (nat_lt i.opcode 3) (word_of i fits).word (word_of i fits).kind)

    from_condition : (b : Bool) → (i.cond == 15) ≡ b → Reads bytes ((if b then [] else unwrap_or (word_where (λ field. field == i.cond) conditions) [] ++ codes " ") ++ (word_text i ++ behind_word i (rest_of i))) (LineOf i (word_of i fits).word)
    from_condition true e = so (λ ts h. always (equal i.cond 15 e) h) whole_word
    from_condition false e =
        let c = condition_word i.cond fits.cond in
        let l = condition_lettered c.word (condition_is i.cond c.word c.kind).0 in
        let more = word_text i ++ behind_word i (rest_of i) in
        let blank = blanks_read bytes plain 1 more (omega arith) word_no_blank whole_word in
        let read = so (λ ts h. conditional c.word c.kind h) (word_read bytes plain c.word (32 ∷ more) l refl blank) in
        subst (λ t. Reads bytes t (LineOf i (word_of i fits).word)) (sym (ap (λ t. t ++ codes " " ++ more) c.spelled ∙ append_assoc (spelling c.word) (codes " ") more)) read

    pub line_read : Reads bytes (line_text i) (LineOf i (word_of i fits).word)
    line_read = from_condition (i.cond == 15) refl

    no_blank_first : (b : Bool) → (i.cond == 15) ≡ b → is_in class.Blank (get_or ((if b then [] else unwrap_or (word_where (λ field. field == i.cond) conditions) [] ++ codes " ") ++ (word_text i ++ behind_word i (rest_of i))) 0 0) ≡ false
    no_blank_first true e = word_no_blank
    no_blank_first false e =
        let c = condition_word i.cond fits.cond in
        let l = condition_lettered c.word (condition_is i.cond c.word c.kind).0 in
        let more = word_text i ++ behind_word i (rest_of i) in
        ap (λ t. is_in class.Blank (get_or t 0 0)) (ap (λ t. t ++ codes " " ++ more) c.spelled ∙ append_assoc (spelling c.word) (codes " ") more) ∙ no_blank c.word (32 ∷ more) l

    pub line_no_blank : is_in class.Blank (get_or (line_text i) 0 0) ≡ false
    line_no_blank = no_blank_first (i.cond == 15) refl

-- ---- how long it is

rest_short : (z c low r : Bool) → nat_le (length (behind_operands z c low r)) 10 ≡ true
rest_short = sixteen (λ z c low r. nat_le (length (behind_operands z c low r)) 10 ≡ true) (refl, refl, refl, refl, refl, refl, refl, refl, refl, refl, refl, refl, refl, refl, refl, refl)

mark_short : (b : Bool) → nat_le (length (mark_text b)) 2 ≡ true
mark_short true = refl
mark_short false = refl

hex_long : (n : ℕ) → length (hex 3 n) ≡ 3
unfolding hex
hex_long n = refl

at_most : (a b : ℕ) → nat_le a b ≡ true → a ≤ b
at_most a b h = grind (arith, nat_tests)

pub line_short : (i : Instr) → FitsFields i → length (line_text i) ≤ 100
line_short i fits =
    let rest = behind_operands (writes_z i) (writes_c i) (nat_lt i.opcode 3) (writes_result i) in
    let w = word_of i fits in
    let l = instruction_lettered (nat_lt i.opcode 3) w.word w.kind in
    let word_length : length (word_text i) ≤ 30 = subst (λ t. length t ≤ 30) (sym w.spelled) l.short in
    let condition_length = condition_short (i.cond == 15) in
    omega (
      arith,
      condition_length,
      word_length,
      at_most (length rest) 10 (rest_short (writes_z i) (writes_c i) (nat_lt i.opcode 3) (writes_result i)),
      at_most (length (mark_text (is_immediate i))) 2 (mark_short (is_immediate i)),
      hex_long i.dest,
      hex_long i.source,
      length-append (condition_text i) (word_text i ++ behind_word i rest),
      length-append (word_text i) (behind_word i rest),
      length-append (hex 3 i.dest) (44 ∷ 32 ∷ behind_comma (is_immediate i) i.source rest),
      length-append (mark_text (is_immediate i)) (hex 3 i.source ++ rest),
      length-append (hex 3 i.source) rest,
    )
  where
    condition_short : (b : Bool) → length (if b then [] else unwrap_or (word_where (λ field. field == i.cond) conditions) [] ++ codes " ") ≤ 31
    condition_short true = omega arith
    condition_short false =
        let c = condition_word i.cond fits.cond in
        let l = condition_lettered c.word (condition_is i.cond c.word c.kind).0 in
        let long : length (unwrap_or (word_where (λ field. field == i.cond) conditions) []) ≤ 30 = subst (λ t. length t ≤ 30) (sym c.spelled) l.short in
        omega (arith, long, length-append (unwrap_or (word_where (λ field. field == i.cond) conditions) []) (codes " "))
