-- Each variable of a line of VAR is read back, and so are the names of locals with their counts.
use Rattle.std.proofs.Common.{◌≡◌, ℕ, List, [], ◌∷◌, ◌++◌, map, Option, Some, None, false, refl, sym, ap, ◌∙◌, subst, append_assoc, append-nil}
use Rattle.std.specs.Prelude.{if◌then◌else◌}
use Rattle.std.specs.List.{AllByRecursion}
use Rattle.p8_tree.specs.declared.places.Place.{Place}
use Rattle.p8_tree.specs.Expressions.{Tree}
use Rattle.p8_tree.specs.Sources.{Declared}
use Rattle.p8_tree.specs.Forgetting.{anywhere, declared_anywhere}
use Rattle.p8_lexer.specs.declared.word.Word.{Word}
use Rattle.p8_lexer.specs.Words.{symbols, reserved_words, every_word}
use Rattle.p8_lexer.specs.Meanings.{word_by}
use Rattle.p8_lexer.specs.Table.{rows}
use Rattle.p8_lexer.specs.declared.word.Word.TheVariants as word_case
use Rattle.p8_grammar.specs.Lexemes.{Setting, in_declaration}
use Rattle.p8_lines.specs.declared.arrow.Arrow.{Arrow}
use Rattle.p8_lines.specs.declared.state.LineState.{LineState}
use Rattle.p8_lines.specs.declared.state.LineState.TheVariants as state
use Rattle.p8_lines.specs.Diagram.{choices}
use Rattle.p8_declarations.specs.Parts.{Part, comma, left_bracket, right_bracket, size, name, tree, part_of_word, is_line_end, with_first}
use Rattle.p8_declarations.specs.Variables.{variable, variables, sized_variables, variables_of_row}
use Rattle.p8_print.specs.Spelled as spelled
use Rattle.p8_print.specs.Spelled.{is_free}
use Rattle.p8_print.specs.Tables.{size_word}
use Rattle.p8_print.specs.Wording.{wrapped}
use Rattle.p8_printed.specs.Rereading.{ReadsBack}
use Rattle.p8_print.specs.DeclarationWords.{words_of_name_and_count, words_of_variable, more_locals}
use Rattle.p8_printed.proofs.Readings.{IsRead, IsName, IsSize, byte_size, word_size, long_size}
use Rattle.p8_blocks.proofs.Pieces.{is_labelled}
use Rattle.p8_printed.proofs.RowSteps.{LeadsTo, unlabelled_end}
use Rattle.p8_printed.proofs.Steps.{Back, weaker, same_words, Expects, ends, a_word, a_name, before, reads_back}

-- a variable of this size that was read from tokens of a source
pub data IsVariable (s : Setting) (z : ℕ) : Declared → Type 0 where
  alone : {n : List ℕ} {p : Place} → IsName n → IsVariable s z (variable z n p None)
  counted : {n : List ℕ} {p : Place} {e : Tree} → IsName n → IsRead s e → IsVariable s z (variable z n p (Some e))

-- names with their counts

-- parts are these variables, but for places
abbrev pub AreVariables : ℕ → List Declared → List Part → Type 0
AreVariables z xs ps = (ys : List Declared) × (variables z ps ≡ Some ys) × (map declared_anywhere ys ≡ map declared_anywhere xs)

-- the states of such names: before a name, after it, in its brackets and after them
pub record Names (s : Setting) (q named inside more : LineState) : Type 0 where
  pub unlabelled : is_labelled q ≡ false
  pub arrows : List Arrow
  pub name : LeadsTo (choices q).arrows word_case.Name named
  pub opened : LeadsTo (choices named).arrows word_case.LeftBracket inside
  pub next : LeadsTo (choices named).arrows word_case.Comma q
  pub over : LeadsTo (choices named).arrows word_case.LineEnd state.End
  pub count : Expects inside s arrows
  pub closed : LeadsTo arrows word_case.RightBracket more
  pub next_counted : LeadsTo (choices more).arrows word_case.Comma q
  pub over_counted : LeadsTo (choices more).arrows word_case.LineEnd state.End

one_more : (z : ℕ) (x y : Declared) (xs : List Declared) (rest ps : List Part) → declared_anywhere y ≡ declared_anywhere x → variables z ps ≡ with_first y (variables z rest) → AreVariables z xs rest → AreVariables z (x ∷ xs) ps
one_more z x y xs rest ps same is r = (y ∷ r.0, is ∙ ap (with_first y) r.1, λ i. same i ∷ r.2 i)

module _ (s : Setting) (q named inside more : LineState) (at : Names s q named inside more) where
  pub names_back : (z : ℕ) (x : Declared) (xs : List Declared) → IsVariable s z x → AllByRecursion (IsVariable s z) xs → Back q (words_of_name_and_count x ++ more_locals xs) (AreVariables z (x ∷ xs))
  unfolding part_of_word
  names_back z _ [] (alone {n = n} {p = o} y) h =
      a_name q named at.unlabelled n y at.name
      (ends named at.over (λ p. (variable z n p None ∷ [], refl, refl)))
  names_back z _ (x ∷ xs) (alone {n = n} {p = o} y) h =
      a_name q named at.unlabelled n y at.name
      (a_word named q (unlabelled_end named at.over) word_case.Comma refl at.next
      (weaker (λ ps r b p. one_more z (variable z n o None) (variable z n p None) (x ∷ xs) ps (name n p ∷ comma ∷ ps) refl refl r) (names_back z x xs h.0 h.1)))
  names_back z _ [] (counted {n = n} {p = o} {e = e} y r) h =
      same_words (ap (λ l. spelled.name n ∷ spelled.reserved word_case.LeftBracket ∷ l) (append_assoc (wrapped e) (spelled.reserved word_case.RightBracket ∷ []) []))
      (a_name q named at.unlabelled n y at.name
      (a_word named inside (unlabelled_end named at.over) word_case.LeftBracket refl at.opened
      (before inside more s e word_case.RightBracket at.count r refl at.closed
      (ends more at.over_counted (λ c e' same b p. (variable z n p (Some e') ∷ [], refl, ap (λ t. variable z n anywhere (Some t) ∷ []) same))))))
  names_back z _ (x ∷ xs) (counted {n = n} {p = o} {e = e} y r) h =
      same_words (ap (λ l. spelled.name n ∷ spelled.reserved word_case.LeftBracket ∷ l) (append_assoc (wrapped e) (spelled.reserved word_case.RightBracket ∷ []) (more_locals (x ∷ xs))))
      (a_name q named at.unlabelled n y at.name
      (a_word named inside (unlabelled_end named at.over) word_case.LeftBracket refl at.opened
      (before inside more s e word_case.RightBracket at.count r refl at.closed
      (a_word more q (unlabelled_end more at.over_counted) word_case.Comma refl at.next_counted
      (weaker (λ ps v a c e' same b p.
      one_more z (variable z n o (Some e)) (variable z n p (Some e')) (x ∷ xs) ps (name n p ∷ left_bracket ∷ tree e' ∷ right_bracket ∷ comma ∷ ps) (ap (λ t. variable z n anywhere (Some t)) same) refl v) (names_back z x xs h.0 h.1))))))

-- a line of VAR

abbrev variables_of_parts : List Part → Option (List Declared)
variables_of_parts ps = if is_line_end ps then Some [] else sized_variables ps

abbrev Declares : Declared → List Part → Type 0
Declares x ps = (xs : List Declared) × (variables_of_parts ps ≡ Some xs) × (map declared_anywhere xs ≡ declared_anywhere x ∷ [])

names : Names in_declaration state.VarName state.VarNamed state.VarCount state.VarMore
names = record {
  unlabelled = refl;
  arrows = _;
  name = λ k. refl;
  opened = λ k. refl;
  next = λ k. refl;
  over = λ k. refl;
  count = refl;
  closed = λ k. refl;
  next_counted = λ k. refl;
  over_counted = λ k. refl;
}

name_back : (z : ℕ) (x : Declared) → IsVariable in_declaration z x → Back state.VarName (words_of_name_and_count x) (AreVariables z (x ∷ []))
name_back z x y = same_words (sym (append-nil (words_of_name_and_count x))) (names_back in_declaration state.VarName state.VarNamed state.VarCount state.VarMore names z x [] y tt)

-- a line of one variable, by the word of its size
by_size : (z : ℕ) (w : Word) (x : Declared) → is_free w ≡ false → LeadsTo (choices state.VarLine).arrows w state.VarName → ((p : Place) → part_of_word w p ≡ size z) → IsVariable in_declaration z x → Back state.VarLine (spelled.reserved w ∷ words_of_name_and_count x) (Declares x)
by_size z w x free leads part y =
    a_word state.VarLine state.VarName refl w free leads
    (weaker (λ ps r p. subst (λ a. Declares x (a ∷ ps)) (sym (part p)) r) (name_back z x y))

size_is : {s : Setting} {z : ℕ} {x : Declared} → IsVariable s z x → x.size ≡ z
size_is (alone y) = refl
size_is (counted y r) = refl

sized : {z : ℕ} (x : Declared) → IsVariable in_declaration z x → Back state.VarLine (spelled.reserved (size_word z) ∷ words_of_name_and_count x) (Declares x) → Back state.VarLine (words_of_variable x) (Declares x)
sized x y b = same_words (ap (λ z. spelled.reserved (size_word z) ∷ words_of_name_and_count x) (size_is y)) b

variable_back : {z : ℕ} (x : Declared) → IsSize z → IsVariable in_declaration z x → Back state.VarLine (words_of_variable x) (Declares x)
unfolding part_of_word word_by rows every_word symbols reserved_words
variable_back x byte_size y = sized x y (by_size 1 word_case.ByteSize x refl (λ k. refl) (λ p. refl) y)
variable_back x word_size y = sized x y (by_size 2 word_case.WordSize x refl (λ k. refl) (λ p. refl) y)
variable_back x long_size y = sized x y (by_size 4 word_case.LongSize x refl (λ k. refl) (λ p. refl) y)

abbrev pub IsReadBack : Declared → Type 0
IsReadBack x = ReadsBack variables_of_row (map declared_anywhere) state.VarLine (words_of_variable x) (x ∷ [])

pub read_back : {z : ℕ} (x : Declared) → IsSize z → IsVariable in_declaration z x → IsReadBack x
read_back x k y = reads_back variables_of_row variables_of_parts (map declared_anywhere) state.VarLine (words_of_variable x) (x ∷ []) (λ row. refl) (variable_back x k y)
