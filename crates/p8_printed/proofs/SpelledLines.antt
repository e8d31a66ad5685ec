-- The text of lines is read as these lines.
use Rattle.std.proofs.Common.{◌≡◌, ℕ, zero, suc, ◌+◌, ◌%◌, ◌<◌, ◌≤◌, false, List, [], ◌∷◌, ◌++◌, length, take, get_or, replicate, refl, sym, ap, ◌∙◌, subst, arith}
use Rattle.std.specs.Prelude.{◌==◌, ◌&&◌, All}
use Rattle.std.proofs.lemmas.List.{append_assoc, take_at, length-drop}
use Rattle.std.proofs.lemmas.List.Elements.{All-head, All-tail}
use Rattle.p8_lexer.specs.declared.piece.Class.TheVariants as class
use Rattle.p8_lexer.specs.declared.token.Token.{Token}
use Rattle.p8_tree.specs.declared.faults.Fault.{Fault}
use Rattle.p8_lexer.specs.declared.token.TokenKind.TheVariants.{LineEnd}
use Rattle.p8_lexer.specs.Characters.{text_of}
use Rattle.p8_lexer.specs.Lexing.{is_in, longest_file, AreTokens, IsFault}
use Rattle.p8_lexer.specs.Words.{word_of_kind}
use Rattle.p8_lexer.proofs.Files.{one_list, never_both}
use Rattle.p8_print.specs.Spelled.{Spelled, SpelledLine, IsReadable, IsReadableLine, spell, text_of_words, text_of_line, text_of_lines}
use Rattle.p8_printed.specs.Reading.{column_behind, IsWord, AreWords, AreLines, AreRead}
use Rattle.p8_printed.proofs.WordCuts.{IsCutOff, cut_off, begins_no_blank, begins_small, blanks_piece, line_end_piece}
use Rattle.p8_printed.proofs.Runs.{IsPlain, begins_plain, Stands, begins_text, further, next, over_blanks, Run, no_run, join, text_is, blank_run, made, token_run, characters_made, place_made}

-- the text of words and of lines, one after the other

word_first : (w : Spelled) (ws : List Spelled) (rest : List ℕ) → text_of_words (w ∷ ws) ++ 10 ∷ rest ≡ spell w ++ 32 ∷ (text_of_words ws ++ 10 ∷ rest)
word_first w ws rest = append_assoc (spell w ++ 32 ∷ []) (text_of_words ws) (10 ∷ rest) ∙ append_assoc (spell w) (32 ∷ []) (text_of_words ws ++ 10 ∷ rest)

line_first : (l : SpelledLine) (rest : List ℕ) → text_of_line l ++ rest ≡ replicate l.indent 32 ++ (text_of_words l.words ++ 10 ∷ rest)
line_first l rest = append_assoc (replicate l.indent 32) (text_of_words l.words ++ 10 ∷ []) rest ∙ ap (λ t. replicate l.indent 32 ++ t) (append_assoc (text_of_words l.words) (10 ∷ []) rest)

no_blank_first : (ws : List Spelled) (rest : List ℕ) → All IsReadable ws → is_in class.Blank (get_or (text_of_words ws ++ 10 ∷ rest) 0 0) ≡ false
no_blank_first [] rest h = refl
no_blank_first (w ∷ ws) rest h =
    let more = text_of_words ws ++ 10 ∷ rest in
    ap (λ t. is_in class.Blank (get_or t 0 0)) (word_first w ws rest) ∙ begins_no_blank w more (cut_off w more (All-head IsReadable w ws h))

-- no text of lines begins with the mark of an encoding

small_word : (ws : List Spelled) (rest : List ℕ) → All IsReadable ws → get_or (text_of_words ws ++ 10 ∷ rest) 0 0 < 128
small_word [] rest h = omega arith
small_word (w ∷ ws) rest h =
    let more = text_of_words ws ++ 10 ∷ rest in
    subst (λ t. get_or t 0 0 < 128) (sym (word_first w ws rest)) (begins_small w more (cut_off w more (All-head IsReadable w ws h)))

small_line : (n : ℕ) (ws : List Spelled) (rest : List ℕ) → All IsReadable ws → get_or (replicate n 32 ++ (text_of_words ws ++ 10 ∷ rest)) 0 0 < 128
small_line zero ws rest h = small_word ws rest h
small_line (suc n) ws rest h = omega arith

small_first : (ls : List SpelledLine) → All IsReadableLine ls → get_or (text_of_lines ls) 0 0 < 128
small_first [] h = omega arith
small_first (l ∷ ls) h = subst (λ t. get_or t 0 0 < 128) (sym (line_first l (text_of_lines ls))) (small_line l.indent l.words (text_of_lines ls) (All-head IsReadableLine l ls h))

pub plain_lines : (ls : List SpelledLine) → All IsReadableLine ls → IsPlain (text_of_lines ls)
plain_lines ls h = begins_plain (text_of_lines ls) (small_first ls h)

-- a word that is read
record OneWord (bytes : List ℕ) (at line column : ℕ) (w : Spelled) (more : List ℕ) : Type 0 where
  end : ℕ
  token : Token
  run : Run bytes at end (token ∷ [])
  is : IsWord bytes line column w token
  then_stands : Stands bytes end line (column_behind column (spell w) + 1) more

-- the words of a line that are read, and its end
record OneLine (bytes : List ℕ) (at line column : ℕ) (ws : List Spelled) (rest : List ℕ) : Type 0 where
  end : ℕ
  own : List Token
  run : Run bytes at end own
  are : AreWords bytes line column ws own
  then_stands : Stands bytes end (line + 1) 1 rest

-- lines that are read up to the end of a file
record AllLines (bytes : List ℕ) (at line : ℕ) (ls : List SpelledLine) : Type 0 where
  tokens : List Token
  run : Run bytes at (length (text_of bytes)) tokens
  are : AreLines bytes line ls tokens

module _ (bytes : List ℕ) (plain : IsPlain bytes) where
  one_word : (at line column : ℕ) (w : Spelled) (more : List ℕ) → IsCutOff w more → is_in class.Blank (get_or more 0 0) ≡ false → Stands bytes at line column (spell w ++ 32 ∷ more) → OneWord bytes at line column w more
  one_word at line column w more cut first s =
      let n = length (spell w) in
      let rest = spell w ++ 32 ∷ more in
      let moved = further bytes at line column (spell w) (32 ∷ more) cut.on_a_line s in
      let blank = blank_run bytes plain (at + n) 1 (32 ∷ more) moved.rest_is (blanks_piece 1 more (omega arith) first) in
      let same : take n rest ≡ spell w = take_at (spell w) (32 ∷ more) n refl in
      let chars = characters_made bytes plain at n rest s.rest_is cut.kind ∙ same in
      record {
        end = at + n + 1;
        token = made bytes plain at n rest s.rest_is cut.kind;
        run = join bytes at (at + n) (at + n + 1) (made bytes plain at n rest s.rest_is cut.kind ∷ []) [] (token_run bytes plain at n rest s.rest_is cut.kind cut.cut cut.good) blank;
        is = record {
          kind = cut.is_kind;
          word = ap (λ cs. word_of_kind cs cut.kind) chars ∙ cut.word;
          characters = chars;
          place = place_made bytes plain at n rest s.rest_is line column s;
        };
        then_stands = over_blanks bytes (at + n) line (column_behind column (spell w)) 1 more moved;
      }

  line_end : (at line column : ℕ) (rest : List ℕ) → Stands bytes at line column (10 ∷ rest) → OneLine bytes at line column [] rest
  line_end at line column rest s =
      let chars = characters_made bytes plain at 1 (10 ∷ rest) s.rest_is LineEnd in
      record {
        end = at + 1;
        own = made bytes plain at 1 (10 ∷ rest) s.rest_is LineEnd ∷ [];
        run = token_run bytes plain at 1 (10 ∷ rest) s.rest_is LineEnd (line_end_piece rest) tt;
        are = record { kind = refl; word = refl; characters = chars; place = place_made bytes plain at 1 (10 ∷ rest) s.rest_is line column s };
        then_stands = next bytes at line column rest s;
      }

  one_line : (ws : List Spelled) (at line column : ℕ) (rest : List ℕ) → All IsReadable ws → Stands bytes at line column (text_of_words ws ++ 10 ∷ rest) → OneLine bytes at line column ws rest
  one_line [] at line column rest h s = line_end at line column rest s
  one_line (w ∷ ws) at line column rest h s =
      let more = text_of_words ws ++ 10 ∷ rest in
      let others = All-tail IsReadable w ws h in
      let first = one_word at line column w more (cut_off w more (All-head IsReadable w ws h)) (no_blank_first ws rest others) (subst (Stands bytes at line column) (word_first w ws rest) s) in
      let tail = one_line ws first.end line (column_behind column (spell w) + 1) rest others first.then_stands in
      record {
        end = tail.end;
        own = first.token ∷ tail.own;
        run = join bytes at first.end tail.end (first.token ∷ []) tail.own first.run tail.run;
        are = (first.is, tail.are);
        then_stands = tail.then_stands;
      }

  indentation : (n at line column : ℕ) (rest : List ℕ) → is_in class.Blank (get_or rest 0 0) ≡ false → Stands bytes at line column (replicate n 32 ++ rest) → Run bytes at (at + n) []
  indentation zero at line column rest first s = let e : at ≡ at + 0 = omega arith in subst (λ end. Run bytes at end []) e (no_run bytes at)
  indentation (suc n) at line column rest first s = blank_run bytes plain at (suc n) (replicate (suc n) 32 ++ rest) s.rest_is (blanks_piece (suc n) rest (omega arith) first)

  all_lines : (ls : List SpelledLine) (at line : ℕ) → All IsReadableLine ls → Stands bytes at line 1 (text_of_lines ls) → AllLines bytes at line ls
  all_lines [] at line h s =
      let e : at ≡ length (text_of bytes) = omega (arith, s.within, ap length s.rest_is, length-drop at bytes, ap length (text_is bytes plain)) in
      record { tokens = []; run = record { pieces = []; cut = e; are = refl }; are = refl }
  all_lines (l ∷ ls) at line h s =
      let rest = text_of_lines ls in
      let own = All-head IsReadableLine l ls h in
      let here = subst (Stands bytes at line 1) (line_first l rest) s in
      let words = text_of_words l.words ++ 10 ∷ rest in
      let blanks = indentation l.indent at line 1 words (no_blank_first l.words rest own) here in
      let column : 1 + l.indent ≡ l.indent + 1 = omega arith in
      let there = subst (λ c. Stands bytes (at + l.indent) line c words) column (over_blanks bytes at line 1 l.indent words here) in
      let first = one_line l.words (at + l.indent) line (l.indent + 1) rest own there in
      let tail = all_lines ls first.end (line + 1) (All-tail IsReadableLine l ls h) first.then_stands in
      record {
        tokens = first.own ++ tail.tokens;
        run = join bytes at first.end (length (text_of bytes)) first.own tail.tokens (join bytes at (at + l.indent) first.end [] first.own blanks first.run) tail.run;
        are = (first.own, tail.tokens, refl {a = first.own ++ tail.tokens}, first.are, tail.are);
      }

-- the law

module _ (ls : List SpelledLine) (readable : All IsReadableLine ls) where
  told : AllLines (text_of_lines ls) 0 1 ls
  told = all_lines (text_of_lines ls) (plain_lines ls readable) ls 0 1 readable (begins_text (text_of_lines ls))

  pub read_back : (tokens : List Token) × AreTokens (text_of_lines ls) tokens × AreRead (text_of_lines ls) ls tokens
  read_back = (told.tokens, (ap (λ u. u && (length (text_of_lines ls) % 2 == 1)) (plain_lines ls readable).narrow, (told.run.pieces, told.run.cut, told.run.are)), told.are)

  pub read_only : (tokens : List Token) → AreTokens (text_of_lines ls) tokens → AreRead (text_of_lines ls) ls tokens
  read_only tokens h = let mine = read_back in subst (AreRead (text_of_lines ls) ls) (one_list (text_of_lines ls) mine.0 tokens mine.1 h) mine.2

  pub never_refused : (fault : Fault) → length (text_of_lines ls) ≤ longest_file → IsFault (text_of_lines ls) fault → ⊥
  never_refused fault short h = let mine = read_back in never_both (text_of_lines ls) mine.0 fault mine.1 short h
