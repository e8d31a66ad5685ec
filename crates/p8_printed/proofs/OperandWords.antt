-- The words of a row, and those of the form that it spells.
use Rattle.std.proofs.Common.{◌≡◌, ℕ, Bool, true, false, List, [], ◌∷◌, ◌++◌, Some, None, refl, sym, ap, ◌∙◌, subst, append_assoc, append-nil, arith}
use Rattle.std.specs.Prelude.{◌==◌, if◌then◌else◌, IsTrue}
use Rattle.std.proofs.lemmas.Bool.Decides.{nat_tests}
use Rattle.p8_lexer.specs.declared.word.Word.TheVariants as word_case
use Rattle.p8_lexer.specs.Lexing.{is_letter}
use Rattle.p8_lexer.specs.Words.{same, word_spelled, symbols, reserved_words, every_word}
use Rattle.p8_lexer.proofs.Searches.{same-true}
use Rattle.p8_tree.specs.declared.places.Place.{Place}
use Rattle.p8_tree.specs.Expressions.{Tree, Variable, index, Trees}
use Rattle.p8_grammar.specs.Lexemes as lexemes
use Rattle.p8_grammar.specs.Lexemes.{Setting, Access, Lexeme, name, name_in}
use Rattle.p8_grammar.specs.Grammar.{word, upto, unquoted, Row, begin, ◌▹◌, result_name, Names, plain_name, result_word, local_label, Variables, named, indexed, part, part_indexed, memory_at, memory_indexed, register_whole, register_bit, register_bits, Head, applied, Heads, trapped, of_object, of_element, of_built_in, of_command, Arguments, no_arguments, argument}
use Rattle.p8_print.specs.Spelled as spelled
use Rattle.p8_print.specs.Spelled.{Spelled, reserved, label_by, word_of_label, IsReadable}
use Rattle.p8_print.specs.Tables.{size_word, register_word}
use Rattle.p8_print.specs.Wording.{words_of, words_of_name, words_of_variable, words_of_index, words_of_arguments, words_before}
use Rattle.p8_expr.specs.Sources.{IsLexeme}
use Rattle.p8_printed.proofs.TableWords.{mark_word, spelled_of}

abbrev pub words_of_row : Row → List Spelled
words_of_row begin = []
words_of_row (row ▹ word p x) = words_of_row row ++ spelled_of x ∷ []
words_of_row (row ▹ upto e m) = words_of_row row ++ (words_of e ++ reserved (mark_word m) ∷ [])
words_of_row (row ▹ unquoted e m) = words_of_row row ++ (words_of e ++ reserved (mark_word m) ∷ [])

-- the words of a row, and others after them
abbrev pub words_from : Row → List Spelled → List Spelled
words_from begin rest = rest
words_from (row ▹ word p x) rest = words_from row (spelled_of x ∷ rest)
words_from (row ▹ upto e m) rest = words_from row (words_of e ++ reserved (mark_word m) ∷ rest)
words_from (row ▹ unquoted e m) rest = words_from row (words_of e ++ reserved (mark_word m) ∷ rest)

expression_followed : (ws : List Spelled) (e : Tree) (m : _) (rest : List Spelled) → (ws ++ (words_of e ++ reserved (mark_word m) ∷ [])) ++ rest ≡ ws ++ (words_of e ++ reserved (mark_word m) ∷ rest)
expression_followed ws e m rest =
    append_assoc ws (words_of e ++ reserved (mark_word m) ∷ []) rest ∙ ap (λ us. ws ++ us) (append_assoc (words_of e) (reserved (mark_word m) ∷ []) rest)

followed : (row : Row) (rest : List Spelled) → words_of_row row ++ rest ≡ words_from row rest
followed begin rest = refl
followed (row ▹ word p x) rest = append_assoc (words_of_row row) (spelled_of x ∷ []) rest ∙ followed row (spelled_of x ∷ rest)
followed (row ▹ upto e m) rest = expression_followed (words_of_row row) e m rest ∙ followed row (words_of e ++ reserved (mark_word m) ∷ rest)
followed (row ▹ unquoted e m) rest = expression_followed (words_of_row row) e m rest ∙ followed row (words_of e ++ reserved (mark_word m) ∷ rest)

pub row_words : (row : Row) → words_of_row row ≡ words_from row []
row_words row = sym (append-nil (words_of_row row)) ∙ followed row []

-- joins

one_more : (xs : List Spelled) (w : Spelled) (rest : List Spelled) → (xs ++ w ∷ []) ++ rest ≡ xs ++ w ∷ rest
one_more xs w rest = append_assoc xs (w ∷ []) rest

-- names

abbrev colon_word : Spelled
colon_word = reserved word_case.Colon

abbrev left_word : Spelled
left_word = reserved word_case.LeftBracket

abbrev right_word : Spelled
right_word = reserved word_case.RightBracket

abbrev dots_word : Spelled
dots_word = reserved word_case.DotDot

result_reserved : word_spelled result_name ≡ Some word_case.Result
unfolding every_word symbols reserved_words
result_reserved = refl

no_colon : (c : ℕ) → IsTrue (is_letter c) → (c == 58) ≡ false
no_colon c h = go (c == 58) refl
  where
    go : (b : Bool) → (c == 58) ≡ b → (c == 58) ≡ false
    go false e = e
    go true e =
        let is : c ≡ 58 = grind (arith, nat_tests) in
        let letter : IsTrue (is_letter 58) = subst (λ c. IsTrue (is_letter c)) is h in
        absurd cc

no_result : (n : List ℕ) → word_spelled n ≡ None → same n result_name ≡ false
no_result n h = go (same n result_name) refl
  where
    go : (b : Bool) → same n result_name ≡ b → same n result_name ≡ false
    go false e = e
    go true e =
        let is : word_spelled n ≡ Some word_case.Result = ap word_spelled (same-true n result_name e) ∙ result_reserved in
        absurd cc

pub plain_words : (n : List ℕ) → IsReadable (spelled.name n) → words_of_name n ≡ spelled.name n ∷ []
plain_words [] h = refl
plain_words (c ∷ cs) h =
    ap (λ b. if b then colon_word ∷ word_of_label cs ∷ [] else if same (c ∷ cs) result_name then reserved word_case.Result ∷ [] else spelled.name (c ∷ cs) ∷ []) (no_colon c h.2)
    ∙ ap (λ b. if b then reserved word_case.Result ∷ [] else spelled.name (c ∷ cs) ∷ []) (no_result (c ∷ cs) h.4)

-- the word behind a local label's colon
label_word : (x : Lexeme) (n : List ℕ) → IsLexeme x → name_in x ≡ Some n → word_of_label n ≡ spelled_of x
label_word (name m) n h e = let same : n ≡ m = cc in ap word_of_label same ∙ ap (λ o. label_by o m) h.0.4
label_word (lexemes.reserved m x) n h e = let same : n ≡ m = cc in ap word_of_label same ∙ ap (λ o. label_by o m) h.2.1
label_word x n h e = absurd cc

-- words of a row each of which a source can have, and facts on the expressions inside
pub data Good (Inside : Tree → Type 0) : Row → Type 0 where
  good_begin : Good Inside begin
  good_word : {row : Row} {p : Place} {x : Lexeme} → Good Inside row → IsLexeme x → Good Inside (row ▹ word p x)
  good_upto : {row : Row} {e : Tree} {m : _} → Good Inside row → Inside e → Good Inside (row ▹ upto e m)
  good_unquoted : {row : Row} {e : Tree} {m : _} → Good Inside row → Inside e → Good Inside (row ▹ unquoted e m)

-- a row's words are those before it and these
pub record Adds (Inside : Tree → Type 0) (before : Row) (words : List Spelled) (row : Row) : Type 0 where
  pub good : Good Inside before
  pub from : (rest : List Spelled) → words_from row rest ≡ words_from before (words ++ rest)

names_words : {I : Tree → Type 0} {s : Setting} {before row : Row} {n : List ℕ} {p : Place} → Names s before n p row → Good I row → Adds I before (words_of_name n) row
names_words {before = before} (plain_name {n = n}) (good_word g h) = record { good = g; from = λ rest. ap (λ ws. words_from before (ws ++ rest)) (sym (plain_words n h.0)) }
names_words result_word (good_word g h) = record { good = g; from = λ rest. refl }
names_words {before = before} (local_label {n = n} {x = x} d is) (good_word (good_word g h') h) = record { good = g; from = λ rest. ap (λ w. words_from before (colon_word ∷ w ∷ rest)) (sym (label_word x n h is)) }

index_words : (ns : List Spelled) (e : Tree) (rest : List Spelled) → ns ++ left_word ∷ (words_of e ++ right_word ∷ rest) ≡ (ns ++ words_of_index (index e)) ++ rest
index_words ns e rest = sym (append_assoc ns (words_of_index (index e)) rest ∙ ap (λ ws. ns ++ left_word ∷ ws) (one_more (words_of e) right_word rest))

range_words : (a b : List Spelled) (w : Spelled) (rest : List Spelled) → a ++ dots_word ∷ (b ++ w ∷ rest) ≡ ((a ++ dots_word ∷ b) ++ w ∷ []) ++ rest
range_words a b w rest = sym (one_more (a ++ dots_word ∷ b) w rest ∙ append_assoc a (dots_word ∷ b) (w ∷ rest))

pub variables_words : {I : Tree → Type 0} {s : Setting} {before row : Row} {x : Access} {v : Variable} → Variables s before x v row → Good I row → Adds I before (words_of_variable v) row
variables_words {before = before} (named {n = n} a) g =
    let r = names_words a g in
    record { good = r.good; from = λ rest. r.from rest ∙ ap (λ ws. words_from before (ws ++ rest)) (sym (append-nil (words_of_name n))) }
variables_words {before = before} (indexed {n = n} {e = e} i a) (good_upto (good_word g h) k) =
    let r = names_words a g in
    record { good = r.good; from = λ rest. r.from (left_word ∷ (words_of e ++ right_word ∷ rest)) ∙ ap (λ ws. words_from before ws) (index_words (words_of_name n) e rest) }
variables_words {before = before} (part {n = n} {z = z} a) (good_word (good_word g h) h') =
    let r = names_words a g in
    let dot : List Spelled = reserved word_case.Dot ∷ reserved (size_word z) ∷ [] in
    record { good = r.good; from = λ rest. r.from (dot ++ rest) ∙ ap (λ ws. words_from before ws) (sym (append_assoc (words_of_name n) dot rest)) }
variables_words {before = before} (part_indexed {n = n} {z = z} {e = e} i a) (good_upto (good_word (good_word (good_word g h) h') h'') k) =
    let r = names_words a g in
    let dot : List Spelled = reserved word_case.Dot ∷ reserved (size_word z) ∷ [] in
    record {
      good = r.good;
      from = λ rest. r.from (dot ++ left_word ∷ (words_of e ++ right_word ∷ rest))
          ∙ ap (λ ws. words_from before ws) (ap (λ ws. words_of_name n ++ ws) (index_words dot e rest) ∙ sym (append_assoc (words_of_name n) (dot ++ words_of_index (index e)) rest));
    }
variables_words {before = before} (memory_at {z = z} {e = e} i) (good_upto (good_word (good_word g h) h') k) =
    record { good = g; from = λ rest. ap (λ ws. words_from before ws) (index_words (reserved (size_word z) ∷ []) e rest) }
variables_words {before = before} (memory_indexed {z = z} {e = e} {i = j} i) (good_upto (good_word (good_upto (good_word (good_word g h) h') k) h'') k') =
    let size : List Spelled = reserved (size_word z) ∷ left_word ∷ [] in
    record {
      good = g;
      from = λ rest. ap (λ ws. words_from before (size ++ ws)) (ap (λ ws. words_of e ++ ws) (index_words (right_word ∷ []) j rest) ∙ sym (append_assoc (words_of e) (right_word ∷ words_of_index (index j)) rest));
    }
variables_words (register_whole i) (good_word g h) = record { good = g; from = λ rest. refl }
variables_words {before = before} (register_bit {a = a} {e = e} b i c) (good_upto (good_word (good_word g h) h') k) =
    record { good = g; from = λ rest. ap (λ ws. words_from before ws) (index_words (reserved (register_word a) ∷ []) e rest) }
variables_words {before = before} (register_bits {a = a} {low = low} {high = high} b i c) (good_upto (good_upto (good_word (good_word g h) h') k) k') =
    record { good = g; from = λ rest. ap (λ ws. words_from before (reserved (register_word a) ∷ left_word ∷ ws)) (range_words (words_of low) (words_of high) right_word rest) }

-- calls

object_words : (e : Tree) (rest : List Spelled) → left_word ∷ (words_of e ++ right_word ∷ reserved word_case.Dot ∷ rest) ≡ (words_of_index (index e) ++ reserved word_case.Dot ∷ []) ++ rest
object_words e rest = index_words [] e (reserved word_case.Dot ∷ rest) ∙ sym (one_more (words_of_index (index e)) (reserved word_case.Dot) rest)

pub heads_words : {s : Setting} {h : Head} {row : Row} → Heads s h row → (es : Trees) → words_of (applied h es) ≡ words_from row (words_of_arguments es)
heads_words (trapped o) es = refl
heads_words (of_object {trap = true} o) es = refl
heads_words (of_object {trap = false} o) es = refl
heads_words (of_element {trap = true} {n = n} {m = m} {e = e} o i) es = ap (λ ws. reserved word_case.Backslash ∷ spelled.name n ∷ ws) (sym (object_words e (spelled.name m ∷ words_of_arguments es)))
heads_words (of_element {trap = false} {n = n} {m = m} {e = e} o i) es = ap (λ ws. spelled.name n ∷ ws) (sym (object_words e (spelled.name m ∷ words_of_arguments es)))
heads_words of_built_in es = refl
heads_words (of_command a) es = refl

pub joined : (xs ys : List Spelled) (w : Spelled) (rest : List Spelled) → xs ++ (ys ++ w ∷ rest) ≡ (xs ++ (ys ++ w ∷ [])) ++ rest
joined xs ys w rest = sym (append_assoc xs (ys ++ w ∷ []) rest ∙ ap (λ ws. xs ++ ws) (one_more ys w rest))

pub arguments_words : {before row : Row} {es : Trees} → Arguments before es row → (rest : List Spelled) → words_from row rest ≡ words_from before (words_before es ++ rest)
arguments_words no_arguments rest = refl
arguments_words {before = before} (argument {es = es} {e = e} a) rest =
    arguments_words a (words_of e ++ reserved word_case.Comma ∷ rest) ∙ ap (λ ws. words_from before ws) (joined (words_before es) (words_of e) (reserved word_case.Comma) rest)
