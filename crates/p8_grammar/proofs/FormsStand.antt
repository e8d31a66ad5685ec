-- What the reader keeps of a form stands for a row of the grammar.
use Rattle.std.proofs.Common.{◌≡◌, ℕ, List, [], ◌∷◌, ◌++◌, Option, Some, None, Bool, true, false, refl, ap, subst}
use Rattle.std.specs.Prelude.{IsTrue, if◌then◌else◌, not, ◌||◌}
use Rattle.p8_tree.specs.declared.places.Place.{Place}
use Rattle.p8_tree.specs.Expressions.{Tree, node, Str, Variable, Index, Trees, ◌▷◌, Items}
use Rattle.p8_grammar.specs.Lexemes.{Setting, is_value, allows_index, is_dat, Access, memory, is_written, has_bits, is_in, Mark, left_parenthesis, right_parenthesis, left_bracket, right_bracket, comma, colon, dot, dot_dot, hash, backslash, Lexeme, number, name, method_result, string, mark, prefix_word, sign, assigns, changes, address, size, register, here, string_word, constant_word, look, value, built_in, command, other, reserved, is_free, token, Token}
use Rattle.p8_grammar.specs.Grammar as grammar
use Rattle.p8_grammar.specs.Grammar.{word, upto, unquoted, Row, begin, ◌▹◌, Names, plain_name, result_word, local_label, Variables, named, indexed, part_indexed, memory_at, memory_indexed, register_whole, register_bit, register_bits, Head, calls, applied, Heads, trapped, of_object, of_element, of_built_in, of_command, Arguments, no_arguments, argument, with_characters, Choices, no_choices, value_choice, range_choice, text_choice, Texts, first_text, first_value, next_text, next_value, Forms, a_number, a_character, the_place, parentheses, variable, name_alone, changed_by, changed_before, changed_after, address_of, plain_call, bare_call, full_call, object_constant, a_value, a_string, one_item, items_text, items_value, a_constant, look_value, look_range, look_text, Prefix, unary, prefix_of, effect_of, Spells, a_word, a_reserved_word}
use Rattle.p8_grammar.specs.Machine as machine
use Rattle.p8_grammar.specs.Machine.{Use, reading, addressing, changing, used, takes, Shape, using, coloned, sized, element, dotted, trapping, trapped_element, object_dot, headed, hashed, opening, string_read, strings_read, choices_read, done, Hole, parenthesis, name_index, part_index, memory_address, memory_index, first_bit, last_bit, trapped_index, argument_of, first_item, item_of, string_opened, constant_of, look_for, choice_of, choice_to, Next, stays, opens, only_if, tree, if_reading, target, unless, whole_in, altering, first, bracketed, changed, grow, close, on_item, freed, bare, is_plain as is_name_alone}
use Rattle.p8_grammar.proofs.Walks.{first_true, second_true}
use Rattle.p8_grammar.proofs.Settings.{clash, in_written}

-- what stands before a variable
pub data UseRow (s : Setting) : Use → Row → Type 0 where
  at_reading : UseRow s reading begin
  at_address : {p : Place} → IsTrue (is_value s) → UseRow s (addressing p) (begin ▹ word p address)
  at_change : {p : Place} {b a : ℕ} → UseRow s (changing p b) (begin ▹ word p (changes b a))
  at_operator : {p : Place} {w : Lexeme} {o : Prefix} {k : ℕ} → IsTrue (not (is_value s)) → prefix_of w ≡ Some o → effect_of o ≡ Some k → UseRow s (changing p k) (begin ▹ word p w)

-- what has been read of STRING and of a LOOK function
abbrev pub string_row : Place → Place → Row
string_row p q = begin ▹ word p string_word ▹ word q (mark left_parenthesis)

abbrev pub look_row : Place → Place → ℕ → Tree → Row
look_row p q k x = begin ▹ word p (look k) ▹ word q (mark left_parenthesis) ▹ upto x colon

pub data ShapeStands (s : Setting) : Shape → Row → Type 0 where
  is_using : {u : Use} {before : Row} → UseRow s u before → ShapeStands s (using u) before
  is_coloned : {u : Use} {before : Row} {p : Place} → UseRow s u before → IsTrue (is_dat s) → ShapeStands s (coloned u p) (before ▹ word p (mark colon))
  is_sized : {u : Use} {before : Row} {p : Place} {z : ℕ} → UseRow s u before → IsTrue (allows_index s) → ShapeStands s (sized u p z) (before ▹ word p (size z))
  is_plain : {u : Use} {before : Row} {p : Place} {n : List ℕ} → UseRow s u before → ShapeStands s (machine.named true u p n) (before ▹ word p (name n))
  is_named : {u : Use} {before row : Row} {p : Place} {n : List ℕ} → UseRow s u before → Names s before n p row → ShapeStands s (machine.named false u p n) row
  is_element : {p q : Place} {n : List ℕ} {e : Tree} → IsTrue (allows_index s) → ShapeStands s (element p n e) (begin ▹ word p (name n) ▹ word q (mark left_bracket) ▹ upto e right_bracket)
  is_plain_dot : {u : Use} {before : Row} {p q : Place} {n : List ℕ} → UseRow s u before → ShapeStands s (dotted true u p n) (before ▹ word p (name n) ▹ word q (mark dot))
  is_dotted : {u : Use} {before row : Row} {p q : Place} {n : List ℕ} → UseRow s u before → Names s before n p row → ShapeStands s (dotted false u p n) (row ▹ word q (mark dot))
  is_part : {u : Use} {before row : Row} {v : Variable} {x : Access} → UseRow s u before → IsTrue (takes u x) → Variables s before x v row → ShapeStands s (machine.part u v x) row
  is_trapping : {o : Place} → ShapeStands s trapping (begin ▹ word o (mark backslash))
  is_trapped_element : {o p q : Place} {n : List ℕ} {e : Tree} → IsTrue (allows_index s) → ShapeStands s (trapped_element p n e) (begin ▹ word o (mark backslash) ▹ word p (name n) ▹ word q (mark left_bracket) ▹ upto e right_bracket)
  is_object_dot : {t : Bool} {p : Place} {n : List ℕ} {i : Index} {row : Row} → ((m : List ℕ) (q : Place) → Heads s (calls t (Some n) i m q p) (row ▹ word q (name m))) → ShapeStands s (object_dot t p n i) row
  is_headed : {h : Head} {row : Row} → Heads s h row → ShapeStands s (headed h) row
  is_hashed : {p r : Place} {n : List ℕ} → IsTrue (is_value s) → ShapeStands s (hashed p n) (begin ▹ word p (name n) ▹ word r (mark hash))
  is_string_begun : {p : Place} → IsTrue (is_value s) → ShapeStands s (opening p string_word) (begin ▹ word p string_word)
  is_constant_begun : {p : Place} → IsTrue (is_value s) → ShapeStands s (opening p constant_word) (begin ▹ word p constant_word)
  is_look_begun : {p : Place} {k : ℕ} → IsTrue (is_value s) → ShapeStands s (opening p (look k)) (begin ▹ word p (look k))
  is_string_opened : {p q : Place} → IsTrue (is_value s) → ShapeStands s (string_opened p) (string_row p q)
  is_string_read : {p q r : Place} {c : ℕ} {t : List ℕ} → IsTrue (is_value s) → ShapeStands s (string_read p r (c ∷ t)) (string_row p q ▹ word r (string (c ∷ t)))
  is_strings_read : {p r : Place} {c d : ℕ} {t : List ℕ} {es : Trees} {row : Row} → IsTrue (is_value s) → Texts p es row → ShapeStands s (strings_read p (es ▷ node r (Str (c ∷ d ∷ t)))) (row ▹ word r (string (c ∷ d ∷ t)))
  is_choices_read : {p q r : Place} {k : ℕ} {x : Tree} {c d : ℕ} {t : List ℕ} {xs : Items} {row : Row} → IsTrue (is_value s) → Choices (look_row p q k x) xs row → ShapeStands s (choices_read p k x (with_characters r (c ∷ d ∷ t) xs)) (row ▹ word r (string (c ∷ d ∷ t)))
  is_done : {e : Tree} {row : Row} → Forms s e row → ShapeStands s (done e) row

pub data HoleStands (s : Setting) : Hole → Row → Type 0 where
  is_parenthesis : {q : Place} → IsTrue (is_value s) → HoleStands s parenthesis (begin ▹ word q (mark left_parenthesis))
  is_plain_index : {u : Use} {before : Row} {p q : Place} {n : List ℕ} → UseRow s u before → IsTrue (allows_index s) → HoleStands s (name_index true u p n) (before ▹ word p (name n) ▹ word q (mark left_bracket))
  is_name_index : {u : Use} {before row : Row} {p q : Place} {n : List ℕ} → UseRow s u before → IsTrue (allows_index s) → Names s before n p row → HoleStands s (name_index false u p n) (row ▹ word q (mark left_bracket))
  is_part_index : {u : Use} {before row : Row} {p q r o : Place} {n : List ℕ} {z : ℕ} → UseRow s u before → IsTrue (allows_index s) → Names s before n p row → HoleStands s (part_index u p n z) (row ▹ word q (mark dot) ▹ word r (size z) ▹ word o (mark left_bracket))
  is_memory_address : {u : Use} {before : Row} {p q : Place} {z : ℕ} → UseRow s u before → IsTrue (allows_index s) → HoleStands s (memory_address u p z) (before ▹ word p (size z) ▹ word q (mark left_bracket))
  is_memory_index : {u : Use} {before : Row} {p q r : Place} {z : ℕ} {e : Tree} → UseRow s u before → IsTrue (allows_index s) → HoleStands s (memory_index u p z e) (before ▹ word p (size z) ▹ word q (mark left_bracket) ▹ upto e right_bracket ▹ word r (mark left_bracket))
  is_first_bit : {u : Use} {before : Row} {p q : Place} {a : ℕ} {x : Access} → UseRow s u before → IsTrue (allows_index s) → IsTrue (is_in s x) → IsTrue (has_bits x) → IsTrue (takes u x) → HoleStands s (first_bit u p a x) (before ▹ word p (register a x) ▹ word q (mark left_bracket))
  is_last_bit : {u : Use} {before : Row} {p q : Place} {a : ℕ} {x : Access} {low : Tree} → UseRow s u before → IsTrue (allows_index s) → IsTrue (is_in s x) → IsTrue (has_bits x) → IsTrue (takes u x) → HoleStands s (last_bit u p a x low) (before ▹ word p (register a x) ▹ word q (mark left_bracket) ▹ upto low dot_dot)
  is_trapped_index : {o p q : Place} {n : List ℕ} → IsTrue (allows_index s) → HoleStands s (trapped_index p n) (begin ▹ word o (mark backslash) ▹ word p (name n) ▹ word q (mark left_bracket))
  is_argument : {h : Head} {es : Trees} {before row : Row} → ((es : Trees) (e : Tree) (row : Row) → Arguments before es row → Forms s (applied h (es ▷ e)) (row ▹ upto e right_parenthesis)) → Arguments before es row → HoleStands s (argument_of h es) row
  is_next_item : {p : Place} {es : Trees} {row : Row} → IsTrue (is_value s) → Texts p es row → HoleStands s (item_of p es) row
  is_constant : {p q : Place} → IsTrue (is_value s) → HoleStands s (constant_of p) (begin ▹ word p constant_word ▹ word q (mark left_parenthesis))
  is_look_for : {p q : Place} {k : ℕ} → IsTrue (is_value s) → HoleStands s (look_for p k) (begin ▹ word p (look k) ▹ word q (mark left_parenthesis))
  is_choice : {p q : Place} {k : ℕ} {x : Tree} {xs : Items} {row : Row} → IsTrue (is_value s) → Choices (look_row p q k x) xs row → HoleStands s (choice_of p k x xs) row
  is_choice_to : {p q : Place} {k : ℕ} {x low : Tree} {xs : Items} {row : Row} → IsTrue (is_value s) → Choices (look_row p q k x) xs row → HoleStands s (choice_to p k x xs low) (row ▹ upto low dot_dot)

abbrev pub NextStands : Setting → Next → Row → Type 0
NextStands s (stays sh) row = ShapeStands s sh row
NextStands s (opens h) row = HoleStands s h row

landed : (s : Setting) (row : Row) (n n' : Next) → Some n ≡ Some n' → NextStands s n row → NextStands s n' row
landed s row n n' h st = subst (λ n. NextStands s n row) (same n n' h) st
  where
    same : (n n' : Next) → Some n ≡ Some n' → n ≡ n'
    same n n' h = cc

-- what follows where a test lets a form go on
allowed : (s : Setting) (row : Row) (b : Bool) (n n' : Next) → only_if b n ≡ Some n' → (IsTrue b → NextStands s n row) → NextStands s n' row
allowed s row true n n' h st = landed s row n n' h (st refl)
allowed s row false n n' h st = absurd cc

pub variable_written : {s : Setting} {before row : Row} {x : Access} {v : Variable} → Variables s before x v row → IsTrue (not (is_value s)) → IsTrue (is_written x)
variable_written {s = s} (register_whole {x = x} i) d = in_written s x d i
variable_written {s = s} (register_bit {x = x} b i c) d = in_written s x d i
variable_written {s = s} (register_bits {x = x} b i c) d = in_written s x d i
variable_written v d = refl

takes_memory : {s : Setting} {u : Use} {before : Row} → UseRow s u before → IsTrue (takes u memory)
takes_memory (at_address y) = refl
takes_memory u = refl

-- the form of a variable in its use
use_form : {s : Setting} {u : Use} {before row : Row} {x : Access} {v : Variable} → UseRow s u before → IsTrue (takes u x) → Variables s before x v row → IsTrue (is_value s) → Forms s (used u v) row
use_form at_reading t v d = variable d v
use_form at_change t v d = changed_before t v
use_form (at_operator y a b) t v d = changed_by y a b t v
use_form {x = memory} (at_address y) t v d = address_of y v
use_form (at_address y) t v d = absurd cc

is_tree : (s : Setting) (row : Row) (x y : Tree) → Some x ≡ Some y → Forms s x row → Forms s y row
is_tree s row x y h f = let same : x ≡ y = cc in subst (λ e. Forms s e row) same f

-- a whole form, where values stand
tree_stands : {s : Setting} {sh : Shape} {row : Row} → ShapeStands s sh row → IsTrue (is_value s) → (e : Tree) → tree sh ≡ Some e → Forms s e row
tree_stands (is_plain u) d e h = is_tree _ _ _ _ h (use_form u (takes_memory u) (named plain_name) d)
tree_stands (is_named u n) d e h = is_tree _ _ _ _ h (use_form u (takes_memory u) (named n) d)
tree_stands (is_element i) d e h = is_tree _ _ _ _ h (variable d (indexed i plain_name))
tree_stands (is_part u t v) d e h = is_tree _ _ _ _ h (use_form u t v d)
tree_stands (is_headed y) d e h = is_tree _ _ _ _ h (bare_call y)
tree_stands (is_done f) d e h = is_tree _ _ _ _ h f
tree_stands st d e h = absurd cc

-- the form of a variable in its use, where actions stand
changed_form : {s : Setting} {u : Use} {before row : Row} {x : Access} {v : Variable} → UseRow s u before → IsTrue (takes u x) → Variables s before x v row → IsTrue (not (is_value s)) → (e : Tree) → unless (if_reading u (is_written x) v) (Some (used u v)) ≡ Some e → Forms s e row
changed_form at_change t v d e h = is_tree _ _ _ _ h (changed_before t v)
changed_form (at_operator y a b) t v d e h = is_tree _ _ _ _ h (changed_by y a b t v)
changed_form {s = s} (at_address y) t v d e h = absurd (clash s y d)
changed_form {x = x} {v = w} at_reading t v d e h = absurd (go (is_written x) (variable_written v d) h)
  where
    go : (b : Bool) → IsTrue b → unless (if_reading reading b w) (Some (used reading w)) ≡ Some e → ⊥
    go true y h = cc
    go false y h = cc

acting_stands : {s : Setting} {sh : Shape} {row : Row} → ShapeStands s sh row → IsTrue (not (is_value s)) → (e : Tree) → (if is_name_alone sh then tree sh else unless (target sh) (tree sh)) ≡ Some e → Forms s e row
acting_stands (is_plain at_reading) d e h = is_tree _ _ _ _ h (name_alone d)
acting_stands {s = s} (is_plain (at_address y)) d e h = absurd (clash s y d)
acting_stands (is_plain at_change) d e h = changed_form at_change refl (named plain_name) d e h
acting_stands (is_plain (at_operator y a b)) d e h = changed_form (at_operator y a b) refl (named plain_name) d e h
acting_stands (is_named u n) d e h = changed_form u (takes_memory u) (named n) d e h
acting_stands (is_part u t v) d e h = changed_form u t v d e h
acting_stands (is_headed y) d e h = is_tree _ _ _ _ h (bare_call y)
acting_stands (is_done f) d e h = is_tree _ _ _ _ h f
acting_stands st d e h = absurd cc

-- a form that is whole as what stands in its setting
pub whole_stands : {s : Setting} {sh : Shape} {row : Row} → ShapeStands s sh row → (e : Tree) → whole_in s sh ≡ Some e → Forms s e row
whole_stands {s = s} {sh = sh} {row = row} st e h = go (is_value s) refl h
  where
    go : (b : Bool) → is_value s ≡ b → (if b || is_name_alone sh then tree sh else unless (target sh) (tree sh)) ≡ Some e → Forms s e row
    go true d h = tree_stands st d e h
    go false d h = acting_stands st (ap not d) e h

-- a variable that may be written
pub record Written (s : Setting) (v : Variable) (row : Row) : Type 0 where
  pub x : Access
  pub written : IsTrue (is_written x)
  pub variable : Variables s begin x v row

read_variable : {s : Setting} {u : Use} {before row : Row} {v v' : Variable} → UseRow s u before → (x : Access) → if_reading u (is_written x) v ≡ Some v' → Variables s before x v row → Written s v' row
read_variable {s = s} {row = row} {v = w} {v' = w'} at_reading x h v = go (is_written x) refl h
  where
    go : (b : Bool) → is_written x ≡ b → (if b then Some w else None) ≡ Some w' → Written s w' row
    go true e h = let same : w ≡ w' = cc in record { x = x; written = e; variable = subst (λ v. Variables s begin x v row) same v }
    go false e h = absurd cc
read_variable u x h v = absurd cc

pub target_stands : {s : Setting} {sh : Shape} {row : Row} → ShapeStands s sh row → (v : Variable) → target sh ≡ Some v → Written s v row
target_stands (is_plain u) v h = read_variable u memory h (named plain_name)
target_stands (is_named u n) v h = read_variable u memory h (named n)
target_stands (is_element i) v h = read_variable at_reading memory h (indexed i plain_name)
target_stands (is_part {x = x} u t w) v h = read_variable u x h w
target_stands st v h = absurd cc

changed_stands : {s : Setting} {sh : Shape} {row : Row} → ShapeStands s sh row → (p : Place) (b a : ℕ) (n' : Next) → changed (target sh) p a ≡ Some n' → NextStands s n' (row ▹ word p (changes b a))
changed_stands {s = s} {sh = sh} {row = row} st p b a n' h = go (target sh) refl h
  where
    go : (o : Option Variable) → target sh ≡ o → changed o p a ≡ Some n' → NextStands s n' (row ▹ word p (changes b a))
    go None e h = absurd cc
    go (Some v) e h = let w = target_stands st v e in landed s (row ▹ word p (changes b a)) _ _ h (is_done (changed_after w.written w.variable))

-- an operator that changes the variable after it
altering_stands : (s : Setting) (x : Lexeme) (o : Prefix) (p : Place) (n' : Next) → prefix_of x ≡ Some o → altering s p (effect_of o) ≡ Some n' → NextStands s n' (begin ▹ word p x)
altering_stands s x o p n' is h = go (effect_of o) refl h
  where
    go : (e : Option ℕ) → effect_of o ≡ e → altering s p e ≡ Some n' → NextStands s n' (begin ▹ word p x)
    go None e h = absurd cc
    go (Some k) e h = allowed s _ _ _ _ h (λ d. is_using (at_operator d is e))

-- the first word of an operand
first_stands : (s : Setting) (p : Place) (x : Lexeme) (n' : Next) → first s p x ≡ Some n' → NextStands s n' (begin ▹ word p x)
first_stands s p (number n) n' h = allowed s _ _ _ _ h (λ d. is_done (a_number d))
first_stands s p (string (c ∷ [])) n' h = allowed s _ _ _ _ h (λ d. is_done (a_character d))
first_stands s p (mark left_parenthesis) n' h = allowed s _ _ _ _ h (λ d. is_parenthesis d)
first_stands s p (mark backslash) n' h = landed s _ _ _ h is_trapping
first_stands s p (prefix_word r k) n' h = altering_stands s (prefix_word r k) (unary r k) p n' refl h
first_stands s p (sign k j) n' h = altering_stands s (sign k j) (unary 1 k) p n' refl h
first_stands s p (changes b a) n' h = landed s _ _ _ h (is_using at_change)
first_stands s p address n' h = allowed s _ _ _ _ h (λ d. is_using (at_address d))
first_stands s p here n' h = allowed s _ _ _ _ h (λ d. is_done (the_place d))
first_stands s p string_word n' h = allowed s _ _ _ _ h (λ d. is_string_begun d)
first_stands s p constant_word n' h = allowed s _ _ _ _ h (λ d. is_constant_begun d)
first_stands s p (look k) n' h = allowed s _ _ _ _ h (λ d. is_look_begun d)
first_stands s p (value k) n' h = landed s _ _ _ h (is_done a_value)
first_stands s p (built_in k) n' h = landed s _ _ _ h (is_headed of_built_in)
first_stands s p (command k) n' h = allowed s _ _ _ _ h (λ d. is_headed (of_command d))
first_stands s p x n' h = absurd cc

bracket_stands : {s : Setting} {u : Use} {before row : Row} {x : Access} {v : Variable} → UseRow s u before → IsTrue (takes u x) → Variables s before x v row → (p : Place) (n' : Next) → bracketed s u v x ≡ Some n' → NextStands s n' (row ▹ word p (mark left_bracket))
bracket_stands {s = s} u t (grammar.part y) p n' h = allowed s _ _ _ _ h (λ b. is_part_index u b y)
bracket_stands {s = s} u t (memory_at i) p n' h = allowed s _ _ _ _ h (λ b. is_memory_index u b)
bracket_stands {s = s} u t (register_whole {x = x} i) p n' h = allowed s _ _ _ _ h (λ b. is_first_bit u (first_true (allows_index s) (has_bits x) b) i (second_true (allows_index s) (has_bits x) b) t)
bracket_stands u t v p n' h = absurd cc

abbrev is_reserved : Lexeme → Bool
is_reserved (reserved n x) = true
is_reserved x = false

-- one word more that isn't reserved
word_stands : {s : Setting} {sh : Shape} {row : Row} → ShapeStands s sh row → (p : Place) (x : Lexeme) (n' : Next) → is_reserved x ≡ false → grow s sh p x ≡ Some n' → NextStands s n' (row ▹ word p x)
word_stands (is_using u) p (name n) n' f h = landed _ _ _ _ h (is_plain u)
word_stands (is_using u) p method_result n' f h = landed _ _ _ _ h (is_named u result_word)
word_stands (is_using u) p (mark colon) n' f h = allowed _ _ _ _ _ h (λ b. is_coloned u b)
word_stands (is_using u) p (size z) n' f h = allowed _ _ _ _ _ h (λ b. is_sized u b)
word_stands {s = s} (is_using {u = w} u) p (register a x) n' f h = allowed _ _ _ _ _ h (λ b. is_part u (second_true (is_in s x) (takes w x) b) (register_whole (first_true (is_in s x) (takes w x) b)))
word_stands {s = s} (is_using at_reading) p x n' f h = first_stands s p x n' h
word_stands (is_coloned u d) p (name n) n' f h = landed _ _ _ _ h (is_named u (local_label d refl))
word_stands (is_sized u i) p (mark left_bracket) n' f h = allowed _ _ _ _ _ h (λ b. is_memory_address u b)
word_stands (is_plain u) p (mark left_bracket) n' f h = allowed _ _ _ _ _ h (λ b. is_plain_index u b)
word_stands (is_plain u) p (mark dot) n' f h = landed _ _ _ _ h (is_plain_dot u)
word_stands (is_plain at_reading) p (mark left_parenthesis) n' f h = landed _ _ _ _ h (is_argument (λ es e row a. plain_call a) no_arguments)
word_stands (is_plain at_reading) p (mark hash) n' f h = allowed _ _ _ _ _ h (λ b. is_hashed b)
word_stands (is_named u y) p (mark left_bracket) n' f h = allowed _ _ _ _ _ h (λ b. is_name_index u b y)
word_stands (is_named u y) p (mark dot) n' f h = landed _ _ _ _ h (is_dotted u y)
word_stands (is_element i) p (mark dot) n' f h = landed _ _ _ _ h (is_object_dot (λ m q. of_element {trap = false} p i))
word_stands (is_plain_dot u) p (size z) n' f h = landed _ _ _ _ h (is_part u (takes_memory u) (grammar.part plain_name))
word_stands (is_plain_dot {p = q} at_reading) p (name n) n' f h = landed _ _ _ _ h (is_headed (of_object {trap = false} q))
word_stands (is_dotted u y) p (size z) n' f h = landed _ _ _ _ h (is_part u (takes_memory u) (grammar.part y))
word_stands (is_part u t v) p (mark left_bracket) n' f h = bracket_stands u t v p n' h
word_stands (is_trapping {o = o}) p (name n) n' f h = landed _ _ _ _ h (is_headed (trapped o))
word_stands (is_trapped_element {o = o} i) p (mark dot) n' f h = landed _ _ _ _ h (is_object_dot (λ m q. of_element {trap = true} o i))
word_stands (is_object_dot g) p (name n) n' f h = landed _ _ _ _ h (is_headed (g n p))
word_stands (is_headed y) p (mark left_parenthesis) n' f h = landed _ _ _ _ h (is_argument (λ es e row a. full_call y a) no_arguments)
word_stands (is_headed (trapped o)) p (mark left_bracket) n' f h = allowed _ _ _ _ _ h (λ b. is_trapped_index b)
word_stands (is_headed (trapped o)) p (mark dot) n' f h = landed _ _ _ _ h (is_object_dot (λ m q. of_object {trap = true} o))
word_stands (is_hashed d) p (name n) n' f h = landed _ _ _ _ h (is_done (object_constant d))
word_stands (is_string_begun d) p (mark left_parenthesis) n' f h = landed _ _ _ _ h (is_string_opened d)
word_stands (is_string_opened d) p (string (c ∷ t)) n' f h = landed _ _ _ _ h (is_string_read d)
word_stands (is_constant_begun d) p (mark left_parenthesis) n' f h = landed _ _ _ _ h (is_constant d)
word_stands (is_look_begun d) p (mark left_parenthesis) n' f h = landed _ _ _ _ h (is_look_for d)
word_stands (is_string_read d) p (mark right_parenthesis) n' f h = landed _ _ _ _ h (is_done (a_string d))
word_stands (is_string_read d) p (mark comma) n' f h = landed _ _ _ _ h (is_next_item d first_text)
word_stands (is_strings_read d a) p (mark right_parenthesis) n' f h = landed _ _ _ _ h (is_done (items_text d a))
word_stands (is_strings_read d a) p (mark comma) n' f h = landed _ _ _ _ h (is_next_item d (next_text a))
word_stands (is_choices_read d a) p (mark right_parenthesis) n' f h = landed _ _ _ _ h (is_done (look_text d a))
word_stands (is_choices_read d a) p (mark comma) n' f h = landed _ _ _ _ h (is_choice d (text_choice a))
word_stands (is_headed (of_object {trap = true} o)) p x n' f h = absurd cc
word_stands (is_headed (of_object {trap = false} o)) p x n' f h = absurd cc
word_stands (is_headed (of_element {trap = true} o i)) p x n' f h = absurd cc
word_stands (is_headed (of_element {trap = false} o i)) p x n' f h = absurd cc
word_stands st p (changes b a) n' f h = changed_stands st p b a n' h
word_stands st p x n' f h = absurd cc

-- one word more: what it is to the row, and what it spells
pub record Worded (s : Setting) (n' : Next) (row : Row) (p : Place) (x : Lexeme) : Type 0 where
  pub is : Lexeme
  pub stands : NextStands s n' (row ▹ word p is)
  pub spells : {vs : List Token} → Spells s row vs → Spells s (row ▹ word p is) (vs ++ token p x ∷ [])

unnamed : (x : Lexeme) → is_free x ≡ true → is_reserved x ≡ false
unnamed (reserved n x) h = absurd cc
unnamed x h = refl

other_grows : {s : Setting} {sh : Shape} {row : Row} → ShapeStands s sh row → (p : Place) (n' : Next) → grow s sh p other ≡ Some n' → ⊥
other_grows (is_using at_reading) p n' h = cc
other_grows st p n' h = cc

-- a reserved word, where it's no label
freed_stands : {s : Setting} {sh : Shape} {row : Row} → ShapeStands s sh row → (p : Place) (m : List ℕ) (x : Lexeme) (n' : Next) → grow s sh p (freed x) ≡ Some n' → Worded s n' row p (reserved m x)
freed_stands {s = s} {sh = sh} {row = row} st p m x n' h = by_word x h
  where
    nothing_grows : grow s sh p other ≡ Some n' → ⊥
    nothing_grows h = other_grows st p n' h

    go : (x : Lexeme) (b : Bool) → is_free x ≡ b → grow s sh p (if b then x else other) ≡ Some n' → Worded s n' row p (reserved m x)
    go x true e h = record { is = x; stands = word_stands st p x n' (unnamed x e) h; spells = a_reserved_word m e }
    go x false e h = absurd (nothing_grows h)

    by_word : (x : Lexeme) → grow s sh p (freed x) ≡ Some n' → Worded s n' row p (reserved m x)
    by_word (assigns o) h = absurd (nothing_grows h)
    by_word x h = go x (is_free x) refl h

pub grow_stands : {s : Setting} {sh : Shape} {row : Row} → ShapeStands s sh row → (p : Place) (x : Lexeme) (n' : Next) → grow s sh p (bare sh x) ≡ Some n' → Worded s n' row p x
grow_stands (is_coloned u d) p (reserved m x) n' h = record { is = reserved m x; stands = landed _ _ _ _ h (is_named u (local_label d refl)); spells = a_word }
grow_stands st p (reserved m x) n' h = freed_stands st p m x n' h
grow_stands st p x n' h = record { is = x; stands = word_stands st p x n' refl h; spells = a_word }

-- an expression more, up to the mark that ends it
pub close_stands : {s : Setting} {hole : Hole} {row : Row} → HoleStands s hole row → (m : Mark) (e : Tree) (n' : Next) → close m hole e ≡ Some n' → NextStands s n' (row ▹ upto e m)
close_stands (is_parenthesis d) right_parenthesis e n' h = landed _ _ _ _ h (is_done (parentheses d))
close_stands (is_plain_index at_reading i) right_bracket e n' h = landed _ _ _ _ h (is_element i)
close_stands (is_plain_index u i) right_bracket e n' h = landed _ _ _ _ h (is_part u (takes_memory u) (indexed i plain_name))
close_stands (is_name_index u i y) right_bracket e n' h = landed _ _ _ _ h (is_part u (takes_memory u) (indexed i y))
close_stands (is_part_index u i y) right_bracket e n' h = landed _ _ _ _ h (is_part u (takes_memory u) (part_indexed i y))
close_stands (is_memory_address u i) right_bracket e n' h = landed _ _ _ _ h (is_part u (takes_memory u) (memory_at i))
close_stands (is_memory_index u i) right_bracket e n' h = landed _ _ _ _ h (is_part u (takes_memory u) (memory_indexed i))
close_stands (is_first_bit u i y b t) right_bracket e n' h = landed _ _ _ _ h (is_part u t (register_bit i y b))
close_stands (is_first_bit u i y b t) dot_dot e n' h = landed _ _ _ _ h (is_last_bit u i y b t)
close_stands (is_last_bit u i y b t) right_bracket e n' h = landed _ _ _ _ h (is_part u t (register_bits i y b))
close_stands (is_trapped_index i) right_bracket e n' h = landed _ _ _ _ h (is_trapped_element i)
close_stands (is_argument f a) right_parenthesis e n' h = landed _ _ _ _ h (is_done (f _ e _ a))
close_stands (is_argument f a) comma e n' h = landed _ _ _ _ h (is_argument f (argument a))
close_stands (is_next_item d a) right_parenthesis e n' h = landed _ _ _ _ h (is_done (items_value d a))
close_stands (is_next_item d a) comma e n' h = landed _ _ _ _ h (is_next_item d (next_value a))
close_stands (is_constant d) right_parenthesis e n' h = landed _ _ _ _ h (is_done (a_constant d))
close_stands (is_look_for d) colon e n' h = landed _ _ _ _ h (is_choice d no_choices)
close_stands (is_choice d c) right_parenthesis e n' h = landed _ _ _ _ h (is_done (look_value d c))
close_stands (is_choice d c) comma e n' h = landed _ _ _ _ h (is_choice d (value_choice c))
close_stands (is_choice d c) dot_dot e n' h = landed _ _ _ _ h (is_choice_to d c)
close_stands (is_choice_to d c) right_parenthesis e n' h = landed _ _ _ _ h (is_done (look_range d c))
close_stands (is_choice_to d c) comma e n' h = landed _ _ _ _ h (is_choice d (range_choice c))
close_stands st m e n' h = absurd cc

-- a string of several characters in place of an expression
pub item_stands : {s : Setting} {hole : Hole} {row : Row} → HoleStands s hole row → (p : Place) (t : List ℕ) (n' : Next) → on_item p t hole ≡ Some n' → NextStands s n' (row ▹ word p (string t))
item_stands (is_next_item d a) p (c ∷ e ∷ t) n' h = landed _ _ _ _ h (is_strings_read d a)
item_stands (is_choice d a) p (c ∷ e ∷ t) n' h = landed _ _ _ _ h (is_choices_read d a)
item_stands st p [] n' h = absurd cc
item_stands st p (c ∷ []) n' h = absurd cc
item_stands st p (c ∷ d ∷ t) n' h = absurd cc

-- the first item of STRING, up to the mark that ends it
pub first_closed : (s : Setting) → IsTrue (is_value s) → (p q : Place) (m : Mark) (e : Tree) (n' : Next) → close m (first_item p) e ≡ Some n' → NextStands s n' (string_row p q ▹ unquoted e m)
first_closed s d p q right_parenthesis e n' h = landed _ _ _ _ h (is_done (one_item d))
first_closed s d p q comma e n' h = landed _ _ _ _ h (is_next_item d first_value)
first_closed s d p q m e n' h = absurd cc
