-- What holds of reserved words, of names, of the words of local labels and of the words of expressions holds of the words of a line.
use Rattle.std.proofs.Common.{◌≡◌, ◌⊎◌, inl, inr, ℕ, List, [], ◌∷◌, ◌++◌, Option, Some, None, Bool, true, false, All, refl, sym, subst, append-nil}
use Rattle.std.specs.Prelude.{IsTrue}
use Rattle.std.proofs.lemmas.List.Elements.{All-nil, All-cons, All-append}
use Rattle.p8_tree.specs.Expressions.{Tree}
use Rattle.p8_tree.specs.Sources.{Datum, Instruction, Contents, Line}
use Rattle.p8_lexer.specs.declared.word.Word.{Word}
use Rattle.p8_lexer.specs.declared.word.Word.TheVariants as word
use Rattle.p8_lexer.specs.Words.{spelling, symbols, reserved_words, every_word}
use Rattle.p8_lexer.specs.Meanings.{word_by}
use Rattle.p8_lexer.specs.Table.{rows}
use Rattle.p8_grammar.specs.Lexemes.{Setting, in_dat}
use Rattle.p8_lines.specs.Signs.{is_condition, takes_two, is_on_memory, takes_one}
use Rattle.p8_print.specs.Spelled as spelled
use Rattle.p8_print.specs.Spelled.{Spelled, reserved, word_of_label, is_free}
use Rattle.p8_print.specs.Tables.{size_word}
use Rattle.p8_print.specs.Wording.{words_of_name, wrapped, words_of_count, words_of_value}
use Rattle.p8_print.specs.DataWords.{words_of_label, words_of_size, words_of_datum, more_data, words_of_data, words_of_condition, instruction_word, is_call, source_with, words_of_operands, words_of_effects, words_of_contents, words_of_line}
use Rattle.p8_printed.proofs.Readings.{IsRead, IsName, IsWord, IsSize, byte_size, word_size, long_size}
use Rattle.p8_printed.proofs.Made.{IfThere, IsLabel, plain, behind_colon, IsDatum, AreData, condition_number, IsCondition, a_condition, no_condition, IsInstruction, two, on_memory, one, jump, call, return, nothing, IsContents, of_data, of_org, of_res, of_fit, of_instruction, IsLine, label_alone, with_contents}
use Rattle.p8_printed.proofs.DataNames.{name_words}
use Rattle.p8_printed.proofs.Effects.{effects_all, flags_all}
use Rattle.p8_printed.proofs.InstructionsRead.{suiting, two_suits, memory_suits, one_suits, own_word}
use Rattle.p8_printed.proofs.DataLinesRead.{condition_of, condition_words}

size_not_free : (n : ℕ) → IsSize n → is_free (size_word n) ≡ false
unfolding word_by rows every_word symbols reserved_words
size_not_free n byte_size = refl
size_not_free n word_size = refl
size_not_free n long_size = refl

condition_not_free : (w : Word) → IsTrue (is_condition w) → is_free w ≡ false
condition_not_free word.Name h = absurd cc
condition_not_free word.Number h = absurd cc
condition_not_free word.FloatNumber h = absurd cc
condition_not_free word.Str h = absurd cc
condition_not_free word.LineEnd h = absurd cc
condition_not_free w h = refl

module _ (P : Spelled → Type 0) (each : (w : Word) → is_free w ≡ false → P (reserved w)) (names : (n : List ℕ) → IsName n → P (spelled.name n)) (labels : (n : List ℕ) → IsWord n → P (word_of_label n)) (trees : (s : Setting) (e : Tree) → IsRead s e → All P (wrapped e)) where
  -- a reserved word before others
  behind : (w : Word) (ws : List Spelled) → is_free w ≡ false → All P ws → All P (reserved w ∷ ws)
  behind w ws free all = All-cons P (reserved w) ws (each w free) all

  joined : (xs ys : List Spelled) → All P xs → All P ys → All P (xs ++ ys)
  joined xs ys x y = All-append P xs ys x y

  all_name : (n : List ℕ) → IsLabel n → All P (words_of_name n)
  all_name n (plain is) = subst (All P) (sym (name_words n is)) (All-cons P (spelled.name n) [] (names n is) (All-nil P))
  all_name n (behind_colon {n = m} is) = behind word.Colon (word_of_label m ∷ []) refl (All-cons P (word_of_label m) [] (labels m is) (All-nil P))

  all_size : (s : Option ℕ) → IfThere IsSize s → All P (words_of_size s)
  all_size None is = All-nil P
  all_size (Some n) is = behind (size_word n) [] (size_not_free n is) (All-nil P)

  all_count : (c : Option Tree) → IfThere (IsRead in_dat) c → All P (words_of_count c)
  all_count None was = All-nil P
  all_count (Some e) was = behind word.LeftBracket (wrapped e ++ reserved word.RightBracket ∷ []) refl (joined (wrapped e) (reserved word.RightBracket ∷ []) (trees in_dat e was) (behind word.RightBracket [] refl (All-nil P)))

  all_datum : (x : Datum) → IsDatum x → All P (words_of_datum x)
  all_datum x is = joined (words_of_size x.size) (wrapped x.value ++ words_of_count x.count) (all_size x.size is.size) (joined (wrapped x.value) (words_of_count x.count) (trees _ x.value is.value) (all_count x.count is.count))

  all_more : (xs : List Datum) → AreData xs → All P (more_data xs)
  all_more [] are = All-nil P
  all_more (x ∷ xs) are = behind word.Comma (words_of_datum x ++ more_data xs) refl (joined (words_of_datum x) (more_data xs) (all_datum x are.0) (all_more xs are.1))

  all_data : (xs : List Datum) → AreData xs → All P (words_of_data xs)
  all_data [] are = All-nil P
  all_data (x ∷ xs) are = joined (words_of_datum x) (more_data xs) (all_datum x are.0) (all_more xs are.1)

  all_value : (v : Option Tree) → IfThere (IsRead in_dat) v → All P (words_of_value v)
  all_value None was = All-nil P
  all_value (Some e) was = trees in_dat e was

  all_condition : (c : ℕ) → IsCondition c → All P (words_of_condition c)
  all_condition c no_condition = All-nil P
  all_condition c (a_condition w h) = go (condition_words w h)
    where
      go : ((words_of_condition (condition_number w) ≡ []) × (condition_number w ≡ 15)) ⊎ (words_of_condition (condition_number w) ≡ reserved w ∷ []) → All P (words_of_condition (condition_number w))
      go (inl y) = subst (All P) (sym y.0) (All-nil P)
      go (inr y) = subst (All P) (sym y) (behind w [] (condition_not_free w h) (All-nil P))

  all_source : (b : Bool) (e : Tree) → IsRead in_dat e → All P (source_with false b e)
  all_source true e was = behind word.Hash (wrapped e) refl (trees in_dat e was)
  all_source false e was = trees in_dat e was

  all_both : (w : Word) (d : Tree) (b : Bool) (e : Tree) → is_call (spelling w) ≡ false → IsRead in_dat d → IsRead in_dat e → All P (wrapped d ++ reserved word.Comma ∷ source_with (is_call (spelling w)) b e)
  all_both w d b e calls wd we =
      joined (wrapped d) (reserved word.Comma ∷ source_with (is_call (spelling w)) b e) (trees in_dat d wd)
      (behind word.Comma (source_with (is_call (spelling w)) b e) refl (subst (λ c. All P (source_with c b e)) (sym calls) (all_source b e we)))

  -- from the word of an instruction on
  from_word : (w : Word) (operands effects : List Spelled) → is_free w ≡ false → All P operands → All P effects → All P (reserved (instruction_word (spelling w)) ∷ (operands ++ effects))
  from_word w operands effects free x y =
      All-cons P (reserved (instruction_word (spelling w))) (operands ++ effects) (subst (λ w. P (reserved w)) (sym (own_word w free)) (each w free)) (joined operands effects x y)

  all_behind_condition : (i : Instruction) → IsInstruction i → All P (reserved (instruction_word i.word) ∷ (words_of_operands i ++ words_of_effects i.effects))
  all_behind_condition i (two w {f = f} {d = d} {e = e} {b = b} h k wd we ef) =
      let suit = suiting takes_two w (two_suits w) h in
      from_word w (wrapped d ++ reserved word.Comma ∷ source_with (is_call (spelling w)) b e) (words_of_effects f) suit.0 (all_both w d b e suit.1 wd we) (effects_all P each f ef)
  all_behind_condition i (on_memory w {f = f} {d = d} {e = e} {b = b} h k wd we ef) =
      let suit = suiting is_on_memory w (memory_suits w) h in
      from_word w (wrapped d ++ reserved word.Comma ∷ source_with (is_call (spelling w)) b e) (words_of_effects f) suit.0 (all_both w d b e suit.1 wd we) (flags_all P each f ef)
  all_behind_condition i (one w {f = f} {d = d} h k wd ef) =
      from_word w (wrapped d) (words_of_effects f) (suiting takes_one w (one_suits w) h).0 (trees in_dat d wd) (effects_all P each f ef)
  all_behind_condition i (jump {f = f} {e = e} {b = b} k we ef) = from_word word.Jmp (source_with false b e) (words_of_effects f) refl (all_source b e we) (effects_all P each f ef)
  all_behind_condition i (call {f = f} {n = n} k is ef) =
      from_word word.Call (reserved word.Hash ∷ (words_of_name n ++ [])) (words_of_effects f) refl
      (behind word.Hash (words_of_name n ++ []) refl (subst (All P) (sym (append-nil (words_of_name n))) (all_name n is))) (effects_all P each f ef)
  all_behind_condition i (return {f = f} k ef) = from_word word.Ret [] (words_of_effects f) refl (All-nil P) (effects_all P each f ef)
  all_behind_condition i (nothing k) = from_word word.Nop [] [] refl (All-nil P) (All-nil P)

  all_contents : (c : Contents) → IsContents c → All P (words_of_contents c)
  all_contents c (of_data {n = n} {xs = xs} is are) = behind (size_word n) (words_of_data xs) (size_not_free n is) (all_data xs are)
  all_contents c (of_org {v = v} is) = behind word.Org (words_of_value v) refl (all_value v is)
  all_contents c (of_res {v = v} is) = behind word.Res (words_of_value v) refl (all_value v is)
  all_contents c (of_fit {v = v} is) = behind word.Fit (words_of_value v) refl (all_value v is)
  all_contents c (of_instruction {i = i} is) = joined (words_of_condition i.cond) (reserved (instruction_word i.word) ∷ (words_of_operands i ++ words_of_effects i.effects)) (all_condition i.cond (condition_of is)) (all_behind_condition i is)

  all_label : (l : Option (List ℕ)) → IfThere IsLabel l → All P (words_of_label l)
  all_label None is = All-nil P
  all_label (Some n) is = all_name n is

  pub all_line : (x : Line) → IsLine x → All P (words_of_line x)
  all_line x (label_alone {n = n} is) = joined (words_of_name n) [] (all_name n is) (All-nil P)
  all_line x (with_contents {l = l} {x = c} is are) = joined (words_of_label l) (words_of_contents c) (all_label l is) (all_contents c are)
