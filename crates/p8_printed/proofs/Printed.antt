-- What is printed of a tree is read as this tree, but for places.
use Rattle.std.proofs.Common.{◌≡◌, inl, inr, ℕ, suc, ◌+◌, ◌*◌, ◌<◌, ◌≤◌, ◌^◌, Bool, true, false, List, [], ◌∷◌, ◌++◌, length, map, Option, Some, None, refl, sym, ap, ap₂, ◌∙◌, subst, append-nil, append_assoc, arith}
use Rattle.std.specs.Prelude.{if◌then◌else◌, IsTrue, All, slice_index}
use Rattle.std.proofs.lemmas.List.Elements.{All-nil, All-cons, All-head, All-tail, All-append}
use Rattle.p8_lexer.specs.declared.word.Word.TheVariants as word_case
use Rattle.p8_lexer.specs.Words.{symbols, reserved_words, every_word}
use Rattle.p8_lexer.specs.Meanings.{word_by}
use Rattle.p8_lexer.specs.Table.{rows}
use Rattle.p8_tree.specs.declared.places.Place.{Place}
use Rattle.p8_tree.specs.Expressions.{Tree, node, Number, Str, Strings, Unary, Binary, Assign, ObjectAddress, Look, Variable, Named, no_index, single, range, Trees, no_trees, ◌▷◌, Items, ◌▸◌}
use Rattle.p8_tree.specs.Forgetting.{anywhere, IsSameTree}
use Rattle.p8_grammar.specs.Lexemes as lexemes
use Rattle.p8_grammar.specs.Lexemes.{Setting, in_method, in_declaration, in_dat, in_data_item, in_action, is_value, allows_index, is_dat, inside, behind, Access, is_written, Mark, left_parenthesis, right_parenthesis, comma, dot_dot, equal, Lexeme, number, string, string_word, mark, infix_word, assigns, changes, plain, Token, token}
use Rattle.p8_grammar.specs.Grammar.{word, upto, unquoted, Row, begin, ◌▹◌, Variables, named, plain_name, Choices, no_choices, value_choice, range_choice, with_characters, text_choice, quoted, Texts, first_text, first_value, next_text, next_value, Forms, a_number, a_character, the_place, parentheses, variable, name_alone, changed_by, changed_before, changed_after, address_of, plain_call, bare_call, full_call, object_constant, a_value, a_string, one_item, items_text, items_value, a_constant, look_value, look_range, look_text, Prefix, at_object, unary, rank, with_prefix, prefix_of, effect_of, infix_of, is_boolean, Reads, operand, before, between, assigned, assigned_by_word, Spells, nothing, a_word, a_reserved_word, an_expression, an_unquoted}
use Rattle.p8_grammar.specs.Heights.{height}
use Rattle.p8_grammar.proofs.Settings.{inside_value, behind_value}
use Rattle.p8_print.specs.Spelled as spelled
use Rattle.p8_print.specs.Spelled.{Spelled, reserved}
use Rattle.p8_print.specs.Tables.{operator_word, change_word, built_word}
use Rattle.p8_print.specs.Wording.{is_number, operand_with, change_with, words_of_assignment, words_of, words_of_variable, words_before, choices_before, wrapped}
use Rattle.p8_grammar.specs.Proper.{lexeme_in}
use Rattle.p8_expr.specs.Sources.{IsLexeme, AreLexemes}
use Rattle.p8_printed.specs.Lexemes.{lexeme_of_spelled, AreWords}
use Rattle.p8_printed.proofs.TableWords.{IsPrinted, mark_word, spelled_of, Prints, Written, Shows, mark_prints, number_prints, prints, plain_lexeme, plain_written, infix_plain, infix_prints, prefix_plain, prefix_operator, prefix_prints, boolean_prints, boolean_word, boolean_number, no_boolean, assigning_word, assignment_prints, change_parts, change_word_same, stands_alone}
use Rattle.p8_printed.proofs.Alike.{Alike, alike_begin, alike_word, alike_upto, alike_unquoted, Fits, value_too, VariablesAs, variables_as, forms_as}
use Rattle.p8_printed.proofs.WordTokens.{none_left, next_word, first_word, split_words, final_word, last_word, all_left, all_right, all_same}
use Rattle.p8_printed.proofs.Heights.{same_height}
use Rattle.p8_printed.proofs.OperandWords.{words_of_row, words_from, row_words, joined, Good, good_begin, good_word, good_upto, good_unquoted, Adds, variables_words, heads_words, arguments_words}
use Rattle.p8_printed.proofs.Rows.{mark_lexeme, string_word_lexeme}
use Rattle.p8_printed.proofs.Unquoted.{not_string_alone}

-- settings

inside_dat : (s : Setting) → is_dat (inside s) ≡ is_dat s
inside_dat in_method = refl
inside_dat in_declaration = refl
inside_dat in_dat = refl
inside_dat in_data_item = refl
inside_dat in_action = refl

inside_indexes : (s : Setting) → IsTrue (allows_index (inside s))
inside_indexes in_method = refl
inside_indexes in_declaration = refl
inside_indexes in_dat = refl
inside_indexes in_data_item = refl
inside_indexes in_action = refl

behind_dat : (s : Setting) → is_dat (behind s) ≡ is_dat s
behind_dat in_method = refl
behind_dat in_declaration = refl
behind_dat in_dat = refl
behind_dat in_data_item = refl
behind_dat in_action = refl

behind_indexes : (s : Setting) → allows_index (behind s) ≡ allows_index s
behind_indexes in_method = refl
behind_indexes in_declaration = refl
behind_indexes in_dat = refl
behind_indexes in_data_item = refl
behind_indexes in_action = refl

fits_itself : (s : Setting) → IsTrue (is_value s) → Fits s (inside s)
fits_itself s v = record { dat = inside_dat s; value = inside_value s ∙ sym v; indexes = inside_indexes s }

fits_inside : {s s' : Setting} → IsTrue (is_value s) → Fits s s' → Fits s (inside s')
fits_inside {s' = s'} v f = record { dat = inside_dat s' ∙ f.dat; value = inside_value s' ∙ sym v; indexes = inside_indexes s' }

fits_within : {s s' : Setting} → IsTrue (is_value s) → Fits s s' → Fits (inside s) s'
fits_within {s = s} v f = record { dat = f.dat ∙ sym (inside_dat s); value = f.value ∙ v ∙ sym (inside_value s); indexes = f.indexes }

both_inside : {s s' : Setting} → Fits s s' → Fits (inside s) (inside s')
both_inside {s = s} {s' = s'} f = record { dat = inside_dat s' ∙ f.dat ∙ sym (inside_dat s); value = inside_value s' ∙ sym (inside_value s); indexes = inside_indexes s' }

both_behind : {s s' : Setting} → Fits s s' → Fits (behind s) (behind s')
both_behind {s = s} {s' = s'} f = record { dat = behind_dat s' ∙ f.dat ∙ sym (behind_dat s); value = behind_value s' ∙ sym (behind_value s); indexes = subst IsTrue (sym (behind_indexes s')) f.indexes }

-- printed words that are read back
pub record Back (s : Setting) (e : Tree) (us : List Token) : Type 0 where
  pub other : Tree
  pub reads : Reads s 22 other us
  pub same : IsSameTree other e

-- a tree that can be printed
pub record Printed (s : Setting) (e : Tree) : Type 0 where
  pub words : All IsPrinted (words_of e)
  pub back : (s' : Setting) (us : List Token) → Fits s s' → AreWords us (words_of e) → Back s' e us

abbrev GoodRow : Setting → Row → Type 0
GoodRow s row = Good (Printed (inside s)) row

-- printed words

one_printed : (w : Spelled) → IsPrinted w → All IsPrinted (w ∷ [])
one_printed w h = All-cons IsPrinted w [] h (All-nil IsPrinted)

marked_printed : (e : Tree) (m : Mark) → All IsPrinted (words_of e) → All IsPrinted (words_of e ++ reserved (mark_word m) ∷ [])
marked_printed e m h = All-append IsPrinted (words_of e) (reserved (mark_word m) ∷ []) h (one_printed (reserved (mark_word m)) (mark_prints m).printed)

row_printed : (s : Setting) {row : Row} → GoodRow s row → All IsPrinted (words_of_row row)
row_printed s good_begin = All-nil IsPrinted
row_printed s (good_word {row = row} {x = x} g h) = All-append IsPrinted (words_of_row row) (spelled_of x ∷ []) (row_printed s g) (one_printed (spelled_of x) (prints x h).printed)
row_printed s (good_upto {row = row} {e = e} {m = m} g pr) = All-append IsPrinted (words_of_row row) (words_of e ++ reserved (mark_word m) ∷ []) (row_printed s g) (marked_printed e m pr.words)
row_printed s (good_unquoted {row = row} {e = e} {m = m} g pr) = All-append IsPrinted (words_of_row row) (words_of e ++ reserved (mark_word m) ∷ []) (row_printed s g) (marked_printed e m pr.words)

enclosed_printed : (ws : List Spelled) → All IsPrinted ws → All IsPrinted (reserved word_case.LeftParenthesis ∷ (ws ++ reserved word_case.RightParenthesis ∷ []))
enclosed_printed ws h =
    All-cons IsPrinted (reserved word_case.LeftParenthesis) (ws ++ reserved word_case.RightParenthesis ∷ []) (mark_prints left_parenthesis).printed
    (All-append IsPrinted ws (reserved word_case.RightParenthesis ∷ []) h (one_printed (reserved word_case.RightParenthesis) (mark_prints right_parenthesis).printed))

operand_printed : (b : Bool) (ws : List Spelled) → All IsPrinted ws → All IsPrinted (operand_with b ws)
operand_printed true ws h = h
operand_printed false ws h = enclosed_printed ws h

-- rows

record RowBack (s : Setting) (row : Row) (us : List Token) : Type 0 where
  other : Row
  alike : Alike row other
  spells : Spells s other us

-- a word, maybe with its characters
word_spelled : {s : Setting} {row : Row} {p : Place} {x y : Lexeme} {ts : List Token} → Spells s row ts → Written y x → Spells s (row ▹ word p x) (ts ++ token p y ∷ [])
word_spelled {s = s} {row = row} {p = p} {x = x} {ts = ts} sp (inl e) = subst (λ y. Spells s (row ▹ word p x) (ts ++ token p y ∷ [])) (sym e) (a_word sp)
word_spelled {s = s} {row = row} {p = p} {x = x} {ts = ts} sp (inr (n, free, e)) = subst (λ y. Spells s (row ▹ word p x) (ts ++ token p y ∷ [])) (sym e) (a_reserved_word n free sp)

row_back : {s : Setting} {row : Row} → GoodRow s row → (s' : Setting) (us : List Token) → Fits s s' → AreWords us (words_of_row row) → RowBack s' row us
row_back good_begin s' us f h = record { other = begin; alike = alike_begin; spells = subst (λ us. Spells s' begin us) (sym (none_left us h)) nothing }
row_back (good_word {row = row} {x = x} g k) s' us f h =
    let l = final_word us (words_of_row row) (spelled_of x) h in
    let r = row_back g s' l.left f l.words in
    record { other = r.other ▹ word l.place x; alike = alike_word r.alike; spells = subst (λ us. Spells s' (r.other ▹ word l.place x) us) (sym l.is) (word_spelled r.spells (prints x k).is) }
row_back (good_upto {row = row} {e = e} {m = m} g pr) s' us f h =
    let y = split_words us (words_of_row row) (words_of e ++ reserved (mark_word m) ∷ []) h in
    let l = last_word y.right (words_of e) (reserved (mark_word m)) (mark m) (mark_prints m) y.words_right in
    let r = row_back g s' y.left f y.words_left in
    let b = pr.back (inside s') l.left (both_inside f) l.words in
    record {
      other = r.other ▹ upto b.other m;
      alike = alike_upto r.alike b.same;
      spells = subst (λ us. Spells s' (r.other ▹ upto b.other m) us) (sym (y.is ∙ ap (λ ts. y.left ++ ts) l.is)) (an_expression l.place r.spells b.reads);
    }
row_back (good_unquoted {row = row} {e = e} {m = m} g pr) s' us f h =
    let y = split_words us (words_of_row row) (words_of e ++ reserved (mark_word m) ∷ []) h in
    let l = last_word y.right (words_of e) (reserved (mark_word m)) (mark m) (mark_prints m) y.words_right in
    let r = row_back g s' y.left f y.words_left in
    let b = pr.back (inside s') l.left (both_inside f) l.words in
    record {
      other = r.other ▹ unquoted b.other m;
      alike = alike_unquoted r.alike b.same;
      spells = subst (λ us. Spells s' (r.other ▹ unquoted b.other m) us) (sym (y.is ∙ ap (λ ts. y.left ++ ts) l.is)) (an_unquoted l.place r.spells b.reads (not_string_alone e l.left l.words));
    }

-- forms

-- one whose words are those of its row
plainly : {s : Setting} {e : Tree} {row : Row} → Forms s e row → GoodRow s row → words_of e ≡ words_from row [] → Printed s e
plainly {s = s} {e = e} {row = row} form g eq = record {
  words = all_same IsPrinted is (row_printed s g);
  back = λ s' us f h.
      let r = row_back g s' us f (h ∙ ap (λ ws. map lexeme_of_spelled ws) is) in
      let t = forms_as f form r.alike in
      record { other = t.other; reads = operand t.forms r.spells; same = t.same };
}
  where
    is : words_of e ≡ words_of_row row
    is = eq ∙ sym (row_words row)

printed_inside : {s : Setting} {e : Tree} → IsTrue (is_value s) → Printed (inside s) e → Printed s e
printed_inside v pr = record { words = pr.words; back = λ s' us f h. pr.back s' us (fits_within v f) h }

-- a number, which has 32 bits
one_number : (s : Setting) (l n : ℕ) (us : List Token) → IsTrue (is_value s) → n < 2 ^ 32 → AreWords us (spelled.number n ∷ []) → (q : Place) × Reads s l (node q (Number n)) us
one_number s l n us v small h =
    let t = first_word us (spelled.number n) (number n) [] (number_prints n small) h in
    (t.place, subst (λ us. Reads s l (node t.place (Number n)) us) (sym (t.is ∙ ap (λ ts. token t.place (number n) ∷ ts) (none_left t.others t.words))) (operand (a_number v) (a_word nothing)))

number_printed : (s : Setting) (p : Place) (n : ℕ) → IsTrue (is_value s) → n < 2 ^ 32 → Printed s (node p (Number n))
number_printed s p n v small = record {
  words = one_printed (spelled.number n) (number_prints n small).printed;
  back = λ s' us f h. let r = one_number s' 22 n us (value_too f v) small h in record { other = node r.0 (Number n); reads = r.1; same = refl };
}

variable_words : {I : Tree → Type 0} {row : Row} (v : Variable) → Adds I begin (words_of_variable v) row → words_of_variable v ≡ words_from row []
variable_words v r = sym (r.from [] ∙ append-nil (words_of_variable v))

behind_words : (b a : ℕ) → IsLexeme (changes b a) → (ws : List Spelled) → change_with a ws ≡ ws ++ reserved (change_word b) ∷ []
behind_words b a h ws =
    ap (λ x. if x then ws ++ reserved (change_word a) ∷ [] else reserved (change_word a) ∷ ws) (change_parts b a h).1
    ∙ ap (λ w. ws ++ reserved w ∷ []) (change_word_same b a h)

before_words : (b a : ℕ) → IsLexeme (changes b a) → (ws : List Spelled) → change_with b ws ≡ reserved (change_word b) ∷ ws
before_words b a h ws = ap (λ x. if x then ws ++ reserved (change_word b) ∷ [] else reserved (change_word b) ∷ ws) (change_parts b a h).0

good_first : {I : Tree → Type 0} {p : Place} {x : Lexeme} → Good I (begin ▹ word p x) → IsLexeme x
good_first (good_word g h) = h

small_character : (c : ℕ) → IsLexeme (string (c ∷ [])) → c < 2 ^ 32
small_character c h = let small : c < 256 = h.1 0 (omega arith) in omega arith

changed_before_words : {I : Tree → Type 0} {p : Place} {row : Row} (b a : ℕ) (v : Variable) → Adds I (begin ▹ word p (changes b a)) (words_of_variable v) row → change_with b (words_of_variable v) ≡ words_from row []
changed_before_words b a v r = before_words b a (good_first r.good) (words_of_variable v) ∙ ap (λ ws. reserved (change_word b) ∷ ws) (sym (append-nil (words_of_variable v))) ∙ sym (r.from [])

changed_by_words : {I : Tree → Type 0} {p : Place} {row : Row} (x : Lexeme) (o : Prefix) (k : ℕ) (v : Variable) → prefix_of x ≡ Some o → effect_of o ≡ Some k → Adds I (begin ▹ word p x) (words_of_variable v) row → change_with k (words_of_variable v) ≡ words_from row []
changed_by_words x o k v e f r =
    let y = stands_alone x o k (good_first r.good) e f in
    let ws = words_of_variable v in
    ap (λ b. if b then ws ++ reserved (change_word k) ∷ [] else reserved (change_word k) ∷ ws) y.before
    ∙ ap₂ (λ w ws. w ∷ ws) (sym y.word) (sym (append-nil ws))
    ∙ sym (r.from [])

changed_after_words : {I : Tree → Type 0} {row : Row} (b a : ℕ) (v : Variable) → IsLexeme (changes b a) → Adds I begin (words_of_variable v) row → change_with a (words_of_variable v) ≡ words_from row (reserved (change_word b) ∷ [])
changed_after_words b a v h r = behind_words b a h (words_of_variable v) ∙ sym (r.from (reserved (change_word b) ∷ []))

address_words : {I : Tree → Type 0} {p : Place} {x : Lexeme} {row : Row} (v : Variable) → Adds I (begin ▹ word p x) (words_of_variable v) row → spelled_of x ∷ words_of_variable v ≡ words_from row []
address_words {x = x} v r = ap (λ ws. spelled_of x ∷ ws) (sym (append-nil (words_of_variable v))) ∙ sym (r.from [])

-- ---- items, each of which is printed as the expression that it is

abbrev comma_word : Spelled
comma_word = reserved word_case.Comma

-- the items of a LOOK function, each up to its comma
record ChoicesPrinted (s : Setting) (base : Row) (xs : Items) : Type 0 where
  row : Row
  choices : Choices base xs row
  good : GoodRow s row
  words : (rest : List Spelled) → words_from row rest ≡ words_from base (choices_before xs ++ rest)

one_choice : {s : Setting} {base : Row} {xs : Items} (e : Tree) → ChoicesPrinted s base xs → Printed (inside s) e → ChoicesPrinted s base (xs ▸ single e)
one_choice {base = base} {xs = xs} e r pr = record {
  row = r.row ▹ upto e comma;
  choices = value_choice r.choices;
  good = good_upto r.good pr;
  words = λ rest. r.words (words_of e ++ comma_word ∷ rest) ∙ ap (λ ws. words_from base ws) (joined (choices_before xs) (words_of e) comma_word rest);
}

one_range : {s : Setting} {base : Row} {xs : Items} (a b : Tree) → ChoicesPrinted s base xs → Printed (inside s) a → Printed (inside s) b → ChoicesPrinted s base (xs ▸ range a b)
one_range {base = base} {xs = xs} a b r pa pb = record {
  row = r.row ▹ upto a dot_dot ▹ upto b comma;
  choices = range_choice r.choices;
  good = good_upto (good_upto r.good pa) pb;
  words = λ rest. r.words (words_of a ++ reserved word_case.DotDot ∷ (words_of b ++ comma_word ∷ rest))
      ∙ ap (λ ws. words_from base (choices_before xs ++ ws)) (sym (append_assoc (words_of a) (reserved word_case.DotDot ∷ words_of b) (comma_word ∷ rest)))
      ∙ ap (λ ws. words_from base ws) (joined (choices_before xs) (words_of a ++ reserved word_case.DotDot ∷ words_of b) comma_word rest);
}

code_printed : (s : Setting) (p : Place) (c : ℕ) → c < 256 → Printed (inside s) (node p (Number c))
code_printed s p c small = number_printed (inside s) p c (inside_value s) (omega (arith, small))

-- the characters of a string, the last one apart
record CharactersPrinted (s : Setting) (base : Row) (p : Place) (cs : List ℕ) (xs : Items) : Type 0 where
  items : Items
  last : ℕ
  small : last < 256
  choices : ChoicesPrinted s base items
  is : with_characters p cs xs ≡ items ▸ single (node p (Number last))

characters_printed : {s : Setting} {base : Row} {xs : Items} (p : Place) (c : ℕ) (cs : List ℕ) → ((i : ℕ) → i < length (c ∷ cs) → slice_index (c ∷ cs) i < 256) → ChoicesPrinted s base xs → CharactersPrinted s base p (c ∷ cs) xs
characters_printed {xs = xs} p c [] small r = record { items = xs; last = c; small = small 0 (omega arith); choices = r; is = refl }
characters_printed {s = s} p c (d ∷ t) small r =
    let k = characters_printed p d t (λ i lt. small (suc i) (omega (arith, lt))) (one_choice (node p (Number c)) r (code_printed s p c (small 0 (omega arith)))) in
    record { items = k.items; last = k.last; small = k.small; choices = k.choices; is = k.is }

choices_printed : {s : Setting} {base row : Row} {xs : Items} → Choices base xs row → GoodRow s row → ChoicesPrinted s base xs
choices_printed {base = base} no_choices g = record { row = base; choices = no_choices; good = g; words = λ rest. refl }
choices_printed (value_choice {e = e} k) (good_upto g pr) = one_choice e (choices_printed k g) pr
choices_printed (range_choice {low = low} {high = high} k) (good_upto (good_upto g pa) pb) = one_range low high (choices_printed k g) pa pb
choices_printed {s = s} {base = base} (text_choice {p = p} {c = c} {d = d} {t = t} k) (good_word (good_word g h) h') =
    let w = characters_printed p c (d ∷ t) h.1 (choices_printed k g) in
    subst (λ xs. ChoicesPrinted s base xs) (sym w.is) (one_choice (node p (Number w.last)) w.choices (code_printed s p w.last w.small))

-- the items of STRING

abbrev opened_words : List Spelled → List Spelled
opened_words ws = reserved word_case.String ∷ reserved word_case.LeftParenthesis ∷ ws

record TextsPrinted (s : Setting) (p : Place) (es : Trees) : Type 0 where
  row : Row
  texts : Texts p es row
  good : GoodRow s row
  words : (rest : List Spelled) → words_from row rest ≡ opened_words (words_before es ++ rest)

string_printed : (s : Setting) (p : Place) (c : ℕ) (t : List ℕ) → IsLexeme (string (c ∷ t)) → Printed (inside s) (node p (Str (c ∷ t)))
string_printed s p c t h =
    plainly (a_string {q = p} {r = p} {o = p} (inside_value s)) (good_word (good_word (good_word (good_word good_begin string_word_lexeme) (mark_lexeme left_parenthesis)) h) (mark_lexeme right_parenthesis)) refl

quoted_printed : (s : Setting) (p : Place) (c : ℕ) (t : List ℕ) → IsLexeme (string (c ∷ t)) → Printed (inside s) (quoted p (c ∷ t))
quoted_printed s p c [] h = number_printed (inside s) p c (inside_value s) (small_character c h)
quoted_printed s p c (d ∷ t) h = string_printed s p c (d ∷ t) h

first_item : {s : Setting} (p : Place) (e : Tree) → Printed (inside s) e → TextsPrinted s p (no_trees ▷ e)
first_item p e pr = record {
  row = begin ▹ word p string_word ▹ word p (mark left_parenthesis) ▹ unquoted e comma;
  texts = first_value;
  good = good_unquoted (good_word (good_word good_begin string_word_lexeme) (mark_lexeme left_parenthesis)) pr;
  words = λ rest. ap opened_words (joined [] (words_of e) comma_word rest);
}

next_item : {s : Setting} {p : Place} {es : Trees} (e : Tree) → TextsPrinted s p es → Printed (inside s) e → TextsPrinted s p (es ▷ e)
next_item {es = es} e r pr = record {
  row = r.row ▹ upto e comma;
  texts = next_value r.texts;
  good = good_upto r.good pr;
  words = λ rest. r.words (words_of e ++ comma_word ∷ rest) ∙ ap opened_words (joined (words_before es) (words_of e) comma_word rest);
}

texts_printed : {s : Setting} {p : Place} {row : Row} {es : Trees} → Texts p es row → GoodRow s row → TextsPrinted s p es
texts_printed {s = s} {p = p} (first_text {r = r} {c = c} {t = t}) (good_word (good_word g h) h') = first_item p (quoted r (c ∷ t)) (quoted_printed s r c t h)
texts_printed {p = p} (first_value {e = e}) (good_unquoted g pr) = first_item p e pr
texts_printed {s = s} (next_text {r = r} {c = c} {d = d} {t = t} k) (good_word (good_word g h) h') = next_item (node r (Str (c ∷ d ∷ t))) (texts_printed k g) (string_printed s r c (d ∷ t) h)
texts_printed (next_value {e = e} k) (good_upto g pr) = next_item e (texts_printed k g) pr

list_printed : {s : Setting} {p : Place} {es : Trees} (e : Tree) → IsTrue (is_value s) → TextsPrinted s p es → Printed (inside s) e → Printed s (node p (Strings (es ▷ e)))
list_printed e v r pr = plainly (items_value v r.texts) (good_upto r.good pr) (sym (r.words (words_of e ++ reserved word_case.RightParenthesis ∷ [])))

-- ---- forms

abbrev look_words : ℕ → Tree → List Spelled → List Spelled
look_words k x ws = reserved (built_word k) ∷ reserved word_case.LeftParenthesis ∷ (words_of x ++ reserved word_case.Colon ∷ ws)

pub form_printed : {s : Setting} {e : Tree} {row : Row} → Forms s e row → GoodRow s row → Printed s e
unfolding word_by rows every_word symbols reserved_words
form_printed (a_number v) g = plainly (a_number v) g refl
form_printed {s = s} (a_character {c = c} {p = p} v) (good_word g h) = number_printed s p c v (small_character c h)
form_printed (the_place d) g = plainly (the_place d) g refl
form_printed (parentheses v) (good_upto g pr) = printed_inside v pr
form_printed (variable {v = v} is y) g = plainly (variable is y) g (variable_words v (variables_words y g))
form_printed {s = s} (name_alone {n = n} {p = p} a) g = plainly (name_alone a) g (variable_words (Named n no_index p) (variables_words {s = s} (named plain_name) g))
form_printed (changed_by {v = v} {w = x} {o = o} {k = k} a e f w y) g = plainly (changed_by a e f w y) g (changed_by_words x o k v e f (variables_words y g))
form_printed (changed_before {v = v} {b = b} {a = a} w y) g = plainly (changed_before {b = b} {a = a} w y) g (changed_before_words b a v (variables_words y g))
form_printed (changed_after {v = v} {b = b} {a = a} w y) (good_word g h) = plainly (changed_after {b = b} {a = a} w y) (good_word g h) (changed_after_words b a v h (variables_words y g))
form_printed (address_of {v = v} is y) g = plainly (address_of is y) g (address_words v (variables_words y g))
form_printed (plain_call {es = es} {e = e} a) g = plainly (plain_call a) g (sym (arguments_words a (words_of e ++ reserved word_case.RightParenthesis ∷ [])))
form_printed (bare_call y) g = plainly (bare_call y) g (heads_words y no_trees)
form_printed (full_call {q = q} {es = es} {e = e} {row = row} y a) g =
    plainly (full_call y a) g (heads_words y (es ▷ e) ∙ sym (arguments_words a (words_of e ++ reserved word_case.RightParenthesis ∷ [])))
form_printed (object_constant v) g = plainly (object_constant v) g refl
form_printed a_value g = plainly a_value g refl
form_printed (a_string v) g = plainly (a_string v) g refl
form_printed (one_item v) g = plainly (one_item v) g refl
form_printed {s = s} (items_text {r = r} {c = c} {d = d} {t = t} v k) (good_word (good_word g h) h') = list_printed (node r (Str (c ∷ d ∷ t))) v (texts_printed k g) (string_printed s r c (d ∷ t) h)
form_printed (items_value {e = e} v k) (good_upto g pr) = list_printed e v (texts_printed k g) pr
form_printed (a_constant v) g = plainly (a_constant v) g refl
form_printed (look_value {e = e} v c) (good_upto g pr) = let r = choices_printed c g in plainly (look_value v r.choices) (good_upto r.good pr) (sym (r.words (words_of e ++ reserved word_case.RightParenthesis ∷ [])))
form_printed (look_range {k = k} {x = x} {low = low} {high = high} {xs = xs} v c) (good_upto (good_upto g pa) pb) =
    let r = choices_printed c g in
    plainly (look_range v r.choices) (good_upto (good_upto r.good pa) pb) (
    ap (λ ws. look_words k x (choices_before xs ++ ws)) (append_assoc (words_of low) (reserved word_case.DotDot ∷ words_of high) (reserved word_case.RightParenthesis ∷ []))
    ∙ sym (r.words (words_of low ++ reserved word_case.DotDot ∷ (words_of high ++ reserved word_case.RightParenthesis ∷ []))))
form_printed {s = s} (look_text {k = k} {p = p} {r = r} {x = x} {c = c} {d = d} {t = t} v m) (good_word (good_word g h) h') =
    let w = characters_printed r c (d ∷ t) h.1 (choices_printed m g) in
    let last = node r (Number w.last) in
    subst (λ ys. Printed s (node p (Look k x ys))) (sym w.is)
    (plainly (look_value v w.choices.choices) (good_upto w.choices.good (code_printed s r w.last w.small)) (sym (w.choices.words (words_of last ++ reserved word_case.RightParenthesis ∷ []))))

-- operands of operators, which may stand at any level

abbrev operand_words : Tree → List Spelled
operand_words e = operand_with (is_number e) (words_of e)

record OperandBack (s : Setting) (e : Tree) (us : List Token) : Type 0 where
  other : Tree
  reads : (l : ℕ) → Reads s l other us
  same : IsSameTree other e

-- in parentheses
enclosed_back : {s s' : Setting} {e : Tree} (us : List Token) → IsTrue (is_value s') → Printed s e → Fits s (inside s') → AreWords us (reserved word_case.LeftParenthesis ∷ (words_of e ++ reserved word_case.RightParenthesis ∷ [])) → OperandBack s' e us
enclosed_back {s' = s'} {e = e} us v pr f h =
    let t = first_word us (reserved word_case.LeftParenthesis) (mark left_parenthesis) (words_of e ++ reserved word_case.RightParenthesis ∷ []) (mark_prints left_parenthesis) h in
    let l = last_word t.others (words_of e) (reserved word_case.RightParenthesis) (mark right_parenthesis) (mark_prints right_parenthesis) t.words in
    let b = pr.back (inside s') l.left f l.words in
    record {
      other = b.other;
      reads = λ level. subst (λ us. Reads s' level b.other us) (sym (t.is ∙ ap (λ ts. token t.place (mark left_parenthesis) ∷ ts) l.is))
          (operand (parentheses {q = t.place} v) (an_expression l.place (a_word nothing) b.reads));
      same = b.same;
    }

number_back : {s : Setting} (e : Tree) (us : List Token) → IsTrue (is_value s) → is_number e ≡ true → All IsPrinted (words_of e) → AreWords us (words_of e) → OperandBack s e us
number_back {s = s} (node p (Number n)) us v is r h =
    let t = first_word us (spelled.number n) (number n) [] (number_prints n (All-head IsPrinted (spelled.number n) [] r).0) h in
    record {
      other = node t.place (Number n);
      reads = λ l. subst (λ us. Reads s l (node t.place (Number n)) us) (sym (t.is ∙ ap (λ ts. token t.place (number n) ∷ ts) (none_left t.others t.words))) (operand (a_number v) (a_word nothing));
      same = refl;
    }
number_back e us v is r h = absurd cc

operand_back : {s s' : Setting} {e : Tree} (us : List Token) → IsTrue (is_value s) → Printed s e → Fits s s' → AreWords us (operand_with (is_number e) (words_of e)) → OperandBack s' e us
operand_back {s = s} {s' = s'} {e = e} us v pr f h = go (is_number e) refl h
  where
    go : (b : Bool) → is_number e ≡ b → AreWords us (operand_with b (words_of e)) → OperandBack s' e us
    go true is h = number_back e us (value_too f v) is pr.words h
    go false is h = enclosed_back us (value_too f v) pr (fits_inside v f) h

-- operators

prefix_words : (p : Place) (o : Prefix) (e : Tree) → words_of (node p (with_prefix o e)) ≡ reserved (prefix_operator o) ∷ operand_with (is_number e) (words_of e)
prefix_words p at_object e = refl
prefix_words p (unary r k) e = refl

same_prefix : (p q : Place) (o : Prefix) (e e' : Tree) → IsSameTree e' e → IsSameTree (node q (with_prefix o e')) (node p (with_prefix o e))
same_prefix p q at_object e e' h = ap (λ t. node anywhere (ObjectAddress t)) h
same_prefix p q (unary r k) e e' h = ap (λ t. node anywhere (Unary k t)) h

before_printed : (s : Setting) (p : Place) (x : Lexeme) (o : Prefix) (e : Tree) → IsTrue (is_value s) → IsLexeme x → prefix_of (plain x) ≡ Some o → 2 * rank o + 1 ≤ 22 → Printed s e → Printed s (node p (with_prefix o e))
before_printed s p x o e v k is le pr = record {
  words = all_same IsPrinted (prefix_words p o e) (All-cons IsPrinted (reserved (prefix_operator o)) (operand_words e) print.printed (operand_printed (is_number e) (words_of e) pr.words));
  back = λ s' us f h.
      let t = next_word us (reserved (prefix_operator o)) (operand_words e) (h ∙ ap (λ ws. map lexeme_of_spelled ws) (prefix_words p o e)) in
      let b = operand_back t.others v pr f t.words in
      record {
        other = node t.place (with_prefix o b.other);
        reads = subst (λ us. Reads s' 22 (node t.place (with_prefix o b.other)) us) (sym t.is) (before (value_too f v) again le (b.reads (2 * rank o + 1)));
        same = same_prefix p t.place o e b.other b.same;
      };
}
  where
    print : Shows (reserved (prefix_operator o)) (plain x)
    print = prefix_prints (plain x) o (plain_lexeme x k) is

    again : prefix_of (plain (lexeme_of_spelled (reserved (prefix_operator o)))) ≡ Some o
    again = ap prefix_of (plain_written (lexeme_of_spelled (reserved (prefix_operator o))) (plain x) print.is ∙ prefix_plain (plain x) o is) ∙ is

between_printed : (s : Setting) (p : Place) (x : Lexeme) (r k : ℕ) (a b : Tree) → IsTrue (is_value s) → IsLexeme x → infix_of (plain x) ≡ Some (suc r, k) → r < 10 → Printed s a → Printed s b → Printed s (node p (Binary k a b))
between_printed s p x r k a b v good is le pa pb = record {
  words = All-append IsPrinted (operand_words a) (reserved (operator_word k) ∷ (operand_words b)) (operand_printed (is_number a) (words_of a) pa.words)
      (All-cons IsPrinted (reserved (operator_word k)) (operand_words b) print.printed (operand_printed (is_number b) (words_of b) pb.words));
  back = λ s' us f h.
      let y = split_words us (operand_words a) (reserved (operator_word k) ∷ (operand_words b)) h in
      let t = next_word y.right (reserved (operator_word k)) (operand_words b) y.words_right in
      let first = operand_back y.left v pa f y.words_left in
      let last = operand_back t.others v pb f t.words in
      record {
        other = node t.place (Binary k first.other last.other);
        reads = subst (λ us. Reads s' 22 (node t.place (Binary k first.other last.other)) us) (sym (y.is ∙ ap (λ ts. y.left ++ ts) t.is))
            (between (lexeme_of_spelled (reserved (operator_word k))) (value_too f v) again le (omega (arith, le)) (first.reads (2 * suc r)) (last.reads (2 * r + 1)));
        same = ap₂ (λ t u. node anywhere (Binary k t u)) first.same last.same;
      };
}
  where
    print : Shows (reserved (operator_word k)) (plain x)
    print = infix_prints (plain x) (suc r) k (plain_lexeme x good) is

    again : infix_of (plain (lexeme_of_spelled (reserved (operator_word k)))) ≡ Some (suc r, k)
    again = ap infix_of (plain_written (lexeme_of_spelled (reserved (operator_word k))) (plain x) print.is ∙ infix_plain (plain x) (suc r) k is) ∙ is

-- assignments

-- what stands after an operator's words
record Operated (s : Setting) (o : Option ℕ) (x : Access) (us : List Token) (rest : List Spelled) : Type 0 where
  others : List Token
  words : AreWords others rest
  place : Place
  reads : {v : Variable} {e : Tree} {row : Row} {ts : List Token} → Variables s begin x v row → Spells s row ts → Reads (behind s) 21 e others → Reads s 22 (node place (Assign v o e)) (ts ++ us)

-- the operator of an assignment, which is read back
record Operator (o : Option ℕ) : Type 0 where
  words : All IsPrinted (words_of_assignment o)
  back : (s : Setting) (x : Access) (us : List Token) (rest : List Spelled) → IsTrue (is_written x) → AreWords us (words_of_assignment o ++ rest) → Operated s o x us rest

-- in one word
one_word : (o : Option ℕ) → IsLexeme (assigns o) → words_of_assignment o ≡ reserved (assigning_word o) ∷ []
one_word None h = refl
one_word (Some k) h = ap (λ b. if b then reserved (operator_word k) ∷ reserved word_case.EqualSign ∷ [] else reserved (assigning_word (Some k)) ∷ []) (no_boolean k h)

operates : (o : Option ℕ) → IsLexeme (assigns o) → Operator o
operates o good = record {
  words = all_same IsPrinted (one_word o good) (one_printed (reserved (assigning_word o)) print.printed);
  back = λ s x us rest w h.
      let t = first_word us (reserved (assigning_word o)) (assigns o) rest print (h ∙ ap (λ ws. map lexeme_of_spelled (ws ++ rest)) (one_word o good)) in
      record {
        others = t.others;
        words = t.words;
        place = t.place;
        reads = λ {v} {e} {row} {ts} y sp r. subst (λ us. Reads s 22 (node t.place (Assign v o e)) (ts ++ us)) (sym t.is) (assigned x (omega arith) w y sp r);
      };
}
  where
    print : Prints (reserved (assigning_word o)) (assigns o)
    print = assignment_prints o good

-- in two words
two_words : (r k : ℕ) → IsLexeme (infix_word r k) → IsTrue (is_boolean r) → words_of_assignment (Some k) ≡ reserved (operator_word k) ∷ reserved word_case.EqualSign ∷ []
two_words r k h b = ap (λ b. if b then reserved (operator_word k) ∷ reserved word_case.EqualSign ∷ [] else reserved (assigning_word (Some k)) ∷ []) (boolean_number r k h b)

operates_by_word : (r k : ℕ) → IsLexeme (infix_word r k) → IsTrue (is_boolean r) → Operator (Some k)
operates_by_word r k good boolean = record {
  words = all_same IsPrinted (two_words r k good boolean)
      (All-cons IsPrinted (reserved (operator_word k)) (reserved word_case.EqualSign ∷ []) print.printed (one_printed (reserved word_case.EqualSign) (mark_prints equal).printed));
  back = λ s x us rest w h.
      let t = next_word us (reserved (operator_word k)) (reserved word_case.EqualSign ∷ rest) (h ∙ ap (λ ws. map lexeme_of_spelled (ws ++ rest)) (two_words r k good boolean)) in
      let z = first_word t.others (reserved word_case.EqualSign) (mark equal) rest (mark_prints equal) t.words in
      record {
        others = z.others;
        words = z.words;
        place = t.place;
        reads = λ {v} {e} {row} {ts} y sp q. subst (λ us. Reads s 22 (node t.place (Assign v (Some k) e)) (ts ++ us)) (sym (t.is ∙ ap (λ us. token t.place (lexeme_of_spelled (reserved (operator_word k))) ∷ us) z.is))
            (assigned_by_word x (lexeme_of_spelled (reserved (operator_word k))) r z.place (omega arith) w again boolean y sp q);
      };
}
  where
    print : Shows (reserved (operator_word k)) (infix_word r k)
    print = boolean_prints r k good

    again : infix_of (plain (lexeme_of_spelled (reserved (operator_word k)))) ≡ Some (r, k)
    again = ap infix_of (plain_written (lexeme_of_spelled (reserved (operator_word k))) (infix_word r k) print.is)

assigned_printed : (s : Setting) (p : Place) (o : Option ℕ) (v : Variable) (e : Tree) (x : Access) (row : Row) → Operator o → IsTrue (is_written x) → Variables s begin x v row → GoodRow s row → Printed (behind s) e → Printed s (node p (Assign v o e))
assigned_printed s p o v e x row op w y g pr = record {
  words = All-append IsPrinted (words_of_variable v) (words_of_assignment o ++ operand_words e) (all_same IsPrinted is (row_printed s g))
      (All-append IsPrinted (words_of_assignment o) (operand_words e) op.words (operand_printed (is_number e) (words_of e) pr.words));
  back = λ s' us f h.
      let z = split_words us (words_of_variable v) (words_of_assignment o ++ operand_words e) h in
      let t = op.back s' x z.right (operand_words e) w z.words_right in
      let r = row_back g s' z.left f (z.words_left ∙ ap (λ ws. map lexeme_of_spelled ws) is) in
      let last = operand_back t.others (behind_value s) pr (both_behind f) t.words in
      put s' us z.left z.right z.is r (variables_as f y r.alike) t last;
}
  where
    is : words_of_variable v ≡ words_of_row row
    is = variable_words v (variables_words y g) ∙ sym (row_words row)

    put : (s' : Setting) (us left right : List Token) → us ≡ left ++ right → (r : RowBack s' row left) → VariablesAs s' begin x v r.other → (t : Operated s' o x right (operand_words e)) → OperandBack (behind s') e t.others → Back s' (node p (Assign v o e)) us
    put s' us left right is r a t last = go a.base a.alike a.variables
      where
        go : (base : Row) → Alike begin base → Variables s' base x a.other r.other → Back s' (node p (Assign v o e)) us
        go (_ ▹ _) k y = elim k [ ]
        go begin alike_begin y = record {
          other = node t.place (Assign a.other o last.other);
          reads = subst (λ us. Reads s' 22 (node t.place (Assign a.other o last.other)) us) (sym is) (t.reads y r.spells (last.reads 21));
          same = ap₂ (λ u t. node anywhere (Assign u o t)) a.same last.same;
        }

-- what a source can have is printed

abbrev Has : Token → Type 0
Has t = IsLexeme (lexeme_in t)

mutual
  pub printed : {s : Setting} {l : ℕ} {e : Tree} {ts : List Token} → Reads s l e ts → l ≤ 22 → AreLexemes ts → Printed s e
  printed (operand form sp) small h = form_printed form (good sp h)
  printed {s = s} (before {x = x} {o = o} {p = p} {e = e} {ts = ts} v is le r) small h =
      before_printed s p x o e v (All-head Has (token p x) ts h) is (omega arith) (printed r (omega arith) (All-tail Has (token p x) ts h))
  printed {s = s} (between {r = r} {k = k} {p = p} {a = a} {b = b} {ts = ts} {us = us} x v is low le ra rb) small h =
      let behind = all_right Has ts (token p x ∷ us) h in
      between_printed s p x r k a b v (All-head Has (token p x) us behind) is low (printed ra (omega arith) (all_left Has ts (token p x ∷ us) h)) (printed rb (omega arith) (All-tail Has (token p x) us behind))
  printed {s = s} (assigned {o = o} {p = p} {v = v} {e = e} {row = row} {ts = ts} {us = us} x le w y sp r) small h =
      let behind = all_right Has ts (token p (assigns o) ∷ us) h in
      assigned_printed s p o v e x row (operates o (All-head Has (token p (assigns o)) us behind)) w y (good sp (all_left Has ts (token p (assigns o) ∷ us) h)) (printed r (omega arith) (All-tail Has (token p (assigns o)) us behind))
  printed {s = s} (assigned_by_word {k = k} {p = p} {v = v} {e = e} {row = row} {ts = ts} {us = us} x o r q le w is b y sp z) small h =
      let behind = all_right Has ts (token p o ∷ token q (mark equal) ∷ us) h in
      let last = All-tail Has (token p o) (token q (mark equal) ∷ us) behind in
      let boolean = boolean_word (plain o) r k (plain_lexeme o (All-head Has (token p o) (token q (mark equal) ∷ us) behind)) is b in
      assigned_printed s p (Some k) v e x row (operates_by_word r k boolean b) w y (good sp (all_left Has ts (token p o ∷ token q (mark equal) ∷ us) h))
      (printed z (omega arith) (All-tail Has (token q (mark equal)) us last))

  good : {s : Setting} {row : Row} {ts : List Token} → Spells s row ts → AreLexemes ts → GoodRow s row
  good nothing h = good_begin
  good (a_word {p = p} {x = x} {ts = ts} sp) h = good_word (good sp (all_left Has ts (token p x ∷ []) h)) (All-head Has (token p x) [] (all_right Has ts (token p x ∷ []) h))
  good (a_reserved_word {p = p} {x = x} {ts = ts} n free sp) h =
      good_word (good sp (all_left Has ts (token p (lexemes.reserved n x) ∷ []) h)) (plain_lexeme (lexemes.reserved n x) (All-head Has (token p (lexemes.reserved n x)) [] (all_right Has ts (token p (lexemes.reserved n x) ∷ []) h)))
  good (an_expression {m = m} {ts = ts} {us = us} p sp r) h =
      let behind = all_right Has ts (us ++ token p (mark m) ∷ []) h in
      good_upto (good sp (all_left Has ts (us ++ token p (mark m) ∷ []) h)) (printed r (omega arith) (all_left Has us (token p (mark m) ∷ []) behind))
  good (an_unquoted {m = m} {ts = ts} {us = us} p sp r apart) h =
      let behind = all_right Has ts (us ++ token p (mark m) ∷ []) h in
      good_unquoted (good sp (all_left Has ts (us ++ token p (mark m) ∷ []) h)) (printed r (omega arith) (all_left Has us (token p (mark m) ∷ []) behind))

-- a whole expression

pub wrapped_printed : {s : Setting} {e : Tree} {ts : List Token} → Reads s 22 e ts → AreLexemes ts → All IsPrinted (wrapped e)
wrapped_printed {e = e} r h = enclosed_printed (words_of e) (printed r (omega arith) h).words

pub wrapped_back : {s : Setting} {e : Tree} {ts us : List Token} → IsTrue (is_value s) → Reads s 22 e ts → AreLexemes ts → AreWords us (wrapped e) → (e' : Tree) × Reads s 22 e' us × IsSameTree e' e × (height e' ≡ height e)
wrapped_back {s = s} {e = e} {us = us} v r h is =
    let b = enclosed_back us v (printed r (omega arith) h) (fits_itself s v) is in
    (b.other, b.reads 22, b.same, same_height b.other e b.same)

pub bare_back : {s : Setting} {e : Tree} {ts us : List Token} → IsTrue (allows_index s) → Reads s 22 e ts → AreLexemes ts → AreWords us (words_of e) → (e' : Tree) × Reads s 22 e' us × IsSameTree e' e × (height e' ≡ height e)
bare_back {s = s} {e = e} {us = us} i r h is =
    let b = (printed r (omega arith) h).back s us (record { dat = refl; value = refl; indexes = i }) is in
    (b.other, b.reads, b.same, same_height b.other e b.same)
