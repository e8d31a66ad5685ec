-- The source with the text of a long is the file with its line.
use Rattle.std.proofs.Common.{◌≡◌, ℕ, ◌%◌, ◌^◌, ◌<◌, ◌≤◌, Bool, true, false, List, [], ◌∷◌, ◌++◌, length, map, replicate, get_or, Some, None, option_map, refl, sym, ap, ◌∙◌, subst, arith, codes}
use Rattle.std.specs.Prelude.{◌==◌, ◌&&◌, if◌then◌else◌}
use Rattle.std.proofs.lemmas.Bool.Decides.{nat_tests}
use Rattle.std.proofs.lemmas.List.Elements.{All-nil, All-cons}
use Rattle.p8_tree.specs.declared.places.Place.{Place}
use Rattle.p8_tree.specs.Sources as sources
use Rattle.p8_tree.specs.Sources.{Instruction, Instr, Line}
use Rattle.p8_lexer.specs.declared.word.Word.TheVariants as word
use Rattle.p8_lexer.specs.declared.piece.Class.TheVariants as class
use Rattle.p8_lexer.specs.declared.token.Token as token
use Rattle.p8_lexer.specs.Lexing.{is_in, longest_file, AreTokens}
use Rattle.p8_lexer.specs.Words.{spelling}
use Rattle.p8_lines.specs.declared.state.LineState.TheVariants as state
use Rattle.p8_lines.specs.Diagram.{choices}
use Rattle.p8_lines.specs.Tokens as tokens
use Rattle.p8_lines.specs.Tokens.{LineToken, line_token, string_length, text_end, all_tokens, piece}
use Rattle.p8_lines.specs.Lines.{Leads, nowhere, by_token}
use Rattle.p8_lines.proofs.Matching.{target, follows}
use Rattle.p8_declarations.specs.DataParts.{Part, part_of_word, place_of, before_end, parts}
use Rattle.p8_declarations.specs.Lines.{filled, blank, maybe_line}
use Rattle.p8_blocks.specs.Files.{within_limits, Declare, no_line, a_blank, a_line, lines_in, lines_of_row, IsBlock, dat, IsFile, first, one_more, IsFileWithinLimits}
use Rattle.p8_blocks.specs.Trees.{IsShallowBlock}
use Rattle.p8_blocks.proofs.DataWords.{plain_part}
use Rattle.p8_printed.proofs.Going.{Going}
use Rattle.p8_printed.proofs.Going.{so as going_so}
use Rattle.p8_instr.specs.Instruction.{instr_of, FitsFields}
use Rattle.p8_dat.specs.Printed.{printed_line}
use Rattle.p8_instr.specs.Instructions.{instruction_text}
use Rattle.p8_printed.specs.ReadBack.{source_with, source_text, nop_line, read_line, IsLineOf, file_with}
use Rattle.p8_printed.proofs.Words.{Lettered, lettered}
use Rattle.p8_printed.proofs.Runs.{IsPlain}
use Rattle.p8_printed.proofs.LongReading.{Found, Reads, so, Worded, AtFront, blanks_read, line_end_read, end_read, word_read, first_read}
use Rattle.p8_printed.proofs.Texts.{line_text, text_is, word_of, line_read, line_no_blank, line_short}
use Rattle.p8_printed.proofs.LongRows.{HasLine, line_row, nop_row}

dat_letters : Lettered word.Dat
dat_letters = lettered word.Dat refl

nop_letters : Lettered word.Nop
nop_letters = lettered word.Nop refl

line_end_part : (t : LineToken) → tokens.word t ≡ word.LineEnd → parts (piece t ∷ []) ≡ []
unfolding part_of_word
line_end_part t e = ap (λ x. before_end (x ∷ [])) (plain_part t word.LineEnd refl e)

no_line_there : (t : LineToken) → tokens.word t ≡ word.LineEnd → lines_of_row (piece t ∷ []) ≡ Some []
no_line_there t e = ap (λ ps. option_map lines_in (maybe_line (place_of (piece t)) ps)) (line_end_part t e)

-- the tokens of a row that is a line with such an instruction
abbrev IsRow : (Place → Place → Instruction) → List LineToken → Type 0
IsRow make ts = Going (choices state.DatLine).arrows ts (HasLine make)

-- what is read of a source with one line
record Source (bytes : List ℕ) (long : ℕ) : Type 0 where
  tokens : List token.Token
  line : Line
  are : AreTokens bytes tokens
  is : IsLineOf long line
  file : IsFileWithinLimits (file_with line) (all_tokens bytes tokens)

module _ (bytes : List ℕ) (plain : IsPlain bytes) (long : ℕ) where
  -- DAT, the end of its line, and the line
  in_data : (line : List ℕ) → is_in class.Blank (get_or line 0 0) ≡ false → bytes ≡ spelling word.Dat ++ (10 ∷ (replicate 2 32 ++ line)) → Reads bytes line (IsRow (read_line long)) → Found bytes 0 (AtFront word.Dat (Worded word.LineEnd (IsRow (read_line long))))
  in_data line no_blank whole reads =
      first_read bytes plain word.Dat (10 ∷ (replicate 2 32 ++ line)) dat_letters refl whole
      (line_end_read bytes plain (replicate 2 32 ++ line) (blanks_read bytes plain 2 line (omega arith) no_blank reads))

  module _ (found : Found bytes 0 (AtFront word.Dat (Worded word.LineEnd (IsRow (read_line long))))) where
    source_is : Source bytes long
    source_is =
        let ts = map (line_token bytes) found.tokens in
        let head = found.holds.words in
        let end = head.rest in
        let going = end.rest in
        let has = going.value in
        let row = piece going.token ∷ going.row in
        let line : Line = filled (blank (place_of (piece going.token)) None) has.at (Instr (read_line long has.first has.second)) in
        let leads : Leads state.DatLine end.others row state.End = subst (λ us. Leads state.DatLine us row state.End) (sym going.is) (by_token going.follows going.leads) in
        let is_line : lines_of_row row ≡ Some (line ∷ []) = ap (option_map lines_in) (has.given (place_of (piece going.token))) in
        let lines : Declare within_limits lines_of_row state.DatLine (line ∷ []) (end.others ++ text_end ts ∷ []) = a_blank (text_end ts) refl (a_line end.others row leads is_line no_line) in
        let goes = follows (choices state.DatHead).arrows end.token state.End (ap (λ w. target (choices state.DatHead).arrows w (string_length end.token)) end.word_is) in
        let block : IsBlock within_limits (sources.Dat (line ∷ [])) (head.token ∷ (end.token ∷ (end.others ++ text_end ts ∷ []))) =
        dat head.token (end.token ∷ []) (piece end.token ∷ []) (record { is = head.word_is; first = found.holds.column }) (by_token goes nowhere) (no_line_there end.token end.word_is) lines in
        let file : IsFile within_limits (file_with line) (ts ++ text_end ts ∷ []) =
        subst (λ us. IsFile within_limits (file_with line) (us ++ text_end ts ∷ [])) (sym (head.is ∙ ap (λ us. head.token ∷ us) end.is)) (one_more (first no_line) block) in
        record {
          tokens = found.tokens;
          line = line;
          are = (ap (λ u. u && (length bytes % 2 == 1)) plain.narrow, (found.run.pieces, found.run.cut, found.run.are));
          is = record { label = refl; destination = has.first; source = has.second; contents = refl };
          file = (file, All-cons IsShallowBlock (sources.Dat (line ∷ [])) [] tt (All-nil IsShallowBlock));
        }

-- ---- the text of a long

not_nop : (long : ℕ) → (long == 0) ≡ false → (ps : List Part) → HasLine (printed_line (instr_of long)) ps → HasLine (read_line long) ps
not_nop long e ps k = record {
  at = k.at;
  first = k.first;
  second = k.second;
  given = λ p. k.given p ∙ ap (λ b. Some (Some (filled (blank p None) k.at (Instr (if b then nop_line k.first else printed_line (instr_of long) k.first k.second))))) (sym e);
}

fields_fit : (long : ℕ) → long < 2 ^ 32 → FitsFields (instr_of long)
fields_fit long small = record { opcode = omega arith; flags = omega arith; cond = omega arith; dest = omega arith; source = omega arith }

whole_text : (long : ℕ) → (long == 0) ≡ false → source_text long ≡ codes "DAT\n  " ++ line_text (instr_of long)
whole_text long e =
    ap (λ b. source_with (if b then codes "NOP" else instruction_text (instr_of long))) e ∙ ap (λ t. codes "DAT\n  " ++ t) (text_is (instr_of long))

instruction_source : (long : ℕ) → long < 2 ^ 32 → (long == 0) ≡ false → Source (source_text long) long
instruction_source long small e =
    let i = instr_of long in
    let fits = fields_fit long small in
    let bytes = source_text long in
    let plain : IsPlain bytes = record { narrow = refl; unmarked = refl } in
    let reads = so (λ ts h. going_so (line_row i (word_of i fits) ts h) (not_nop long e)) (line_read bytes plain i fits) in
    source_is bytes plain long (in_data bytes plain long (line_text i) (line_no_blank bytes plain i fits) (whole_text long e) reads)

nop_source : Source (source_text 0) 0
nop_source =
    let bytes = source_text 0 in
    let plain : IsPlain bytes = record { narrow = refl; unmarked = refl } in
    let reads = so nop_row (word_read bytes plain word.Nop (10 ∷ []) nop_letters refl (end_read bytes plain)) in
    source_is bytes plain 0 (in_data bytes plain 0 (codes "NOP\n") refl refl reads)

zero_is : (n : ℕ) → (n == 0) ≡ true → 0 ≡ n
zero_is n h = grind (arith, nat_tests)

long_source : (long : ℕ) → long < 2 ^ 32 → Source (source_text long) long
long_source long small = go (long == 0) refl
  where
    go : (b : Bool) → (long == 0) ≡ b → Source (source_text long) long
    go true e = subst (λ n. Source (source_text n) n) (zero_is long e) nop_source
    go false e = instruction_source long small e

pub text_read : (long : ℕ) → long < 2 ^ 32 → (tokens : List token.Token) × (line : Line) × AreTokens (source_text long) tokens × IsLineOf long line × IsFileWithinLimits (file_with line) (all_tokens (source_text long) tokens)
text_read long small = let s = long_source long small in (s.tokens, s.line, s.are, s.is, s.file)

-- ---- how long it is

pub text_short : (long : ℕ) → long < 2 ^ 32 → length (source_text long) ≤ longest_file
text_short long small = go (long == 0) refl
  where
    nop : length (source_text 0) ≤ longest_file
    nop = omega arith

    go : (b : Bool) → (long == 0) ≡ b → length (source_text long) ≤ longest_file
    go true e = subst (λ n. length (source_text n) ≤ longest_file) (zero_is long e) nop
    go false e = omega (arith, ap length (whole_text long e), line_short (instr_of long) (fields_fit long small))
