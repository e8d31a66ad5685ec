-- Each form is read as it stands in the grammar.
use Rattle.std.proofs.Common.{◌≡◌, ℕ, List, ◌∷◌, Option, Some, None, Bool, true, false, refl, ap, ◌∙◌}
use Rattle.std.specs.Prelude.{option_and_then, IsTrue, if◌then◌else◌, not, ◌&&◌, ◌||◌}
use Rattle.p8_tree.specs.declared.places.Place.{Place}
use Rattle.p8_tree.specs.Expressions.{Tree, node, Str, Strings, Number, Here, ObjConst, Built, Look, Change, Call, Variable, Named, Part, Memory, Register, no_index, index, whole, bits, single, range, Trees, no_trees, ◌▷◌, Items, no_items, ◌▸◌}
use Rattle.p8_grammar.specs.Lexemes.{Setting, is_value, allows_index, is_dat, Access, memory, is_written, has_bits, is_in, left_parenthesis, right_parenthesis, left_bracket, right_bracket, comma, colon, dot, dot_dot, hash, backslash, Lexeme, prefix_word, sign, changes, object_address, name, method_result, string, mark, size, register, string_word, constant_word, look, reserved, name_in}
use Rattle.p8_grammar.specs.Grammar.{Piece, word, upto, unquoted, Row, begin, ◌▹◌, Names, plain_name, result_word, local_label, Variables, named, indexed, part, part_indexed, memory_at, memory_indexed, register_whole, register_bit, register_bits, Head, calls, built, applied, Heads, trapped, of_object, of_element, of_built_in, of_command, Arguments, no_arguments, argument, with_characters, Choices, no_choices, value_choice, range_choice, text_choice, Texts, first_text, first_value, next_text, next_value, Forms, a_number, a_character, the_place, parentheses, variable, name_alone, changed_by, changed_before, changed_after, address_of, plain_call, bare_call, full_call, object_constant, a_value, a_string, one_item, items_text, items_value, a_constant, look_value, look_range, look_text, Prefix, at_object, prefix_of, effect_of}
use Rattle.p8_grammar.specs.Machine as machine
use Rattle.p8_grammar.specs.Machine.{Use, reading, addressing, changing, used, takes, Shape, using, coloned, sized, dotted, trapped_element, object_dot, headed, hashed, opening, string_read, strings_read, choices_read, done, parenthesis, name_index, part_index, memory_address, memory_index, first_bit, last_bit, argument_of, first_item, item_of, string_opened, constant_of, look_for, choice_of, choice_to, Next, stays, opens, fresh, tree, if_reading, target, is_plain, unless, whole_in, altering, changed, grow, named_element, close, on_item}
use Rattle.p8_grammar.proofs.Walks.{only, passed, both}

abbrev pub fed : Setting → Piece → Next → Option Next
fed s (word p x) (stays sh) = grow s sh p x
fed s (word p (string t)) (opens h) = on_item p t h
fed s (word p x) (opens h) = None
fed s (upto e m) (stays sh) = None
fed s (upto e m) (opens h) = close m h e
fed s (unquoted e m) (stays (string_opened q)) = close m (first_item q) e
fed s (unquoted e m) n = None

-- what the reader makes of a row
abbrev pub run : Setting → Row → Option Next
run s begin = Some (stays fresh)
run s (row ▹ x) = option_and_then (λ n. fed s x n) (run s row)

-- one piece more
pub fed_on : (s : Setting) (row : Row) (x : Piece) (n n' : Next) → run s row ≡ Some n → fed s x n ≡ Some n' → run s (row ▹ x) ≡ Some n'
fed_on s row x n n' h e = ap (λ o. option_and_then (λ n. fed s x n) o) h ∙ e

-- any word is a name behind the colon of a local label
label_grows : (s : Setting) (u : Use) (p q : Place) (x : Lexeme) (n : List ℕ) → name_in x ≡ Some n → grow s (coloned u p) q x ≡ Some (stays (machine.named false u p (58 ∷ n)))
label_grows s u p q (name m) n is = ap (λ m. Some (stays (machine.named false u p (58 ∷ m)))) (same m n is)
  where
    same : (m n : List ℕ) → Some m ≡ Some n → m ≡ n
    same m n h = cc
label_grows s u p q (reserved m x) n is = ap (λ m. Some (stays (machine.named false u p (58 ∷ m)))) (same m n is)
  where
    same : (m n : List ℕ) → Some m ≡ Some n → m ≡ n
    same m n h = cc
label_grows s u p q x n is = absurd cc

names_run : {s : Setting} {before row : Row} {n : List ℕ} {p : Place} → Names s before n p row → (u : Use) → run s before ≡ Some (stays (using u)) → (b : Bool) × (run s row ≡ Some (stays (machine.named b u p n)))
names_run {s = s} {before = before} (plain_name {n = n} {p = p}) u h = (true, fed_on s before (word p (name n)) _ _ h refl)
names_run {s = s} {before = before} (result_word {p = p}) u h = (false, fed_on s before (word p method_result) _ _ h refl)
names_run {s = s} {before = before} (local_label {n = n} {p = p} {q = q} {x = x} d is) u h =
    (false, fed_on s (before ▹ word p (mark colon)) (word q x) (stays (coloned u p)) _ (fed_on s before (word p (mark colon)) (stays (using u)) _ h (only (is_dat s) _ d)) (label_grows s u p q x n is))

-- a variable that has been read for some use
pub record ReadFor (s : Setting) (u : Use) (x : Access) (v : Variable) (row : Row) : Type 0 where
  pub sh : Shape
  pub is : run s row ≡ Some (stays sh)
  pub whole : tree sh ≡ Some (used u v)
  pub written : target sh ≡ if_reading u (is_written x) v

indexed_read : (b : Bool) (u : Use) (p : Place) (n : List ℕ) (e : Tree) → (tree (named_element b u p n e) ≡ Some (used u (Named n (index e) p))) × (target (named_element b u p n e) ≡ if_reading u true (Named n (index e) p))
indexed_read true reading p n e = (refl, refl)
indexed_read b u p n e = (refl, refl)

pub variables_run : {s : Setting} {before row : Row} {x : Access} {v : Variable} → Variables s before x v row → (u : Use) → IsTrue (takes u x) → run s before ≡ Some (stays (using u)) → ReadFor s u x v row
variables_run (named {n = n} {p = p} a) u t h =
    let r = names_run a u h in
    record { sh = machine.named r.0 u p n; is = r.1; whole = refl; written = refl }
variables_run {s = s} (indexed {n = n} {p = p} {q = q} {e = e} {row = row} i a) u t h =
    let r = names_run a u h in
    let x = indexed_read r.0 u p n e in
    record {
      sh = named_element r.0 u p n e;
      is = fed_on s (row ▹ word q (mark left_bracket)) (upto e right_bracket) (opens (name_index r.0 u p n)) _ (fed_on s row (word q (mark left_bracket)) _ _ r.1 (only (allows_index s) _ i)) refl;
      whole = x.0;
      written = x.1;
    }
variables_run {s = s} (part {n = n} {p = p} {q = q} {r = r} {z = z} {row = row} a) u t h =
    let y = names_run a u h in
    record {
      sh = machine.part u (Part n z no_index p) memory;
      is = fed_on s (row ▹ word q (mark dot)) (word r (size z)) (stays (dotted y.0 u p n)) _ (fed_on s row (word q (mark dot)) _ _ y.1 refl) refl;
      whole = refl;
      written = refl;
    }
variables_run {s = s} (part_indexed {n = n} {p = p} {q = q} {r = r} {o = o} {z = z} {e = e} {row = row} i a) u t h =
    let y = names_run a u h in
    let row1 : Row = row ▹ word q (mark dot) in
    let row2 : Row = row1 ▹ word r (size z) in
    let row3 : Row = row2 ▹ word o (mark left_bracket) in
    record {
      sh = machine.part u (Part n z (index e) p) memory;
      is = fed_on s row3 (upto e right_bracket) (opens (part_index u p n z)) _ (fed_on s row2 (word o (mark left_bracket)) (stays (machine.part u (Part n z no_index p) memory)) _ (fed_on s row1 (word r (size z)) (stays (dotted y.0 u p n)) _ (fed_on s row (word q (mark dot)) _ _ y.1 refl) refl) (only (allows_index s) _ i)) refl;
      whole = refl;
      written = refl;
    }
variables_run {s = s} {before = before} (memory_at {p = p} {q = q} {z = z} {e = e} i) u t h =
    let row1 : Row = before ▹ word p (size z) in
    let row2 : Row = row1 ▹ word q (mark left_bracket) in
    record {
      sh = machine.part u (Memory z e no_index p) memory;
      is = fed_on s row2 (upto e right_bracket) (opens (memory_address u p z)) _ (fed_on s row1 (word q (mark left_bracket)) (stays (sized u p z)) _ (fed_on s before (word p (size z)) _ _ h (only (allows_index s) _ i)) (only (allows_index s) _ i)) refl;
      whole = refl;
      written = refl;
    }
variables_run {s = s} {before = before} (memory_indexed {p = p} {q = q} {r = r} {z = z} {e = e} {i = i} a) u t h =
    let row1 : Row = before ▹ word p (size z) in
    let row2 : Row = row1 ▹ word q (mark left_bracket) in
    let row3 : Row = row2 ▹ upto e right_bracket in
    let row4 : Row = row3 ▹ word r (mark left_bracket) in
    record {
      sh = machine.part u (Memory z e (index i) p) memory;
      is = fed_on s row4 (upto i right_bracket) (opens (memory_index u p z e)) _ (fed_on s row3 (word r (mark left_bracket)) (stays (machine.part u (Memory z e no_index p) memory)) _ (fed_on s row2 (upto e right_bracket) (opens (memory_address u p z)) _ (fed_on s row1 (word q (mark left_bracket)) (stays (sized u p z)) _ (fed_on s before (word p (size z)) _ _ h (only (allows_index s) _ a)) (only (allows_index s) _ a)) refl) (only (allows_index s) _ a)) refl;
      whole = refl;
      written = refl;
    }
variables_run {s = s} {before = before} (register_whole {a = a} {x = x} {p = p} i) u t h =
    record { sh = machine.part u (Register a whole p) x; is = fed_on s before (word p (register a x)) _ _ h (only (is_in s x && takes u x) _ (both _ _ i t)); whole = refl; written = refl }
variables_run {s = s} {before = before} (register_bit {a = a} {x = x} {p = p} {q = q} {e = e} b i c) u t h =
    let row1 : Row = before ▹ word p (register a x) in
    let row2 : Row = row1 ▹ word q (mark left_bracket) in
    record {
      sh = machine.part u (Register a (bits (single e)) p) x;
      is = fed_on s row2 (upto e right_bracket) (opens (first_bit u p a x)) _ (fed_on s row1 (word q (mark left_bracket)) (stays (machine.part u (Register a whole p) x)) _ (fed_on s before (word p (register a x)) _ _ h (only (is_in s x && takes u x) _ (both _ _ i t))) (only (allows_index s && has_bits x) _ (both _ _ b c))) refl;
      whole = refl;
      written = refl;
    }
variables_run {s = s} {before = before} (register_bits {a = a} {x = x} {p = p} {q = q} {low = low} {high = high} b i c) u t h =
    let row1 : Row = before ▹ word p (register a x) in
    let row2 : Row = row1 ▹ word q (mark left_bracket) in
    let row3 : Row = row2 ▹ upto low dot_dot in
    record {
      sh = machine.part u (Register a (bits (range low high)) p) x;
      is = fed_on s row3 (upto high right_bracket) (opens (last_bit u p a x low)) _ (fed_on s row2 (upto low dot_dot) (opens (first_bit u p a x)) _ (fed_on s row1 (word q (mark left_bracket)) (stays (machine.part u (Register a whole p) x)) _ (fed_on s before (word p (register a x)) _ _ h (only (is_in s x && takes u x) _ (both _ _ i t))) (only (allows_index s && has_bits x) _ (both _ _ b c))) refl) refl;
      whole = refl;
      written = refl;
    }

-- a whole form where values stand, and where actions do
pub value_whole : (s : Setting) (sh : Shape) → IsTrue (is_value s) → whole_in s sh ≡ tree sh
value_whole s sh d = passed (is_value s || is_plain sh) (tree sh) (unless (target sh) (tree sh)) (left (is_value s) (is_plain sh) d)
  where
    left : (a b : Bool) → IsTrue a → IsTrue (a || b)
    left true b h = refl
    left false b h = absurd cc

-- what is no variable that may be written is whole everywhere
pub standing : (s : Setting) (sh : Shape) (e : Tree) → tree sh ≡ Some e → target sh ≡ None → whole_in s sh ≡ Some e
standing s sh e t none = go (is_value s || is_plain sh)
  where
    go : (b : Bool) → (if b then tree sh else unless (target sh) (tree sh)) ≡ Some e
    go true = t
    go false = ap (λ v. unless v (tree sh)) none ∙ t

pub done_whole : (s : Setting) (e : Tree) → whole_in s (done e) ≡ Some e
done_whole s e = standing s (done e) e refl refl

-- a form that is whole in a setting is whole
pub whole_tree : (s : Setting) (sh : Shape) (e : Tree) → whole_in s sh ≡ Some e → tree sh ≡ Some e
whole_tree s sh e h = go (is_value s || is_plain sh) (target sh) h
  where
    go : (b : Bool) (v : Option Variable) → (if b then tree sh else unless v (tree sh)) ≡ Some e → tree sh ≡ Some e
    go true v h = h
    go false None h = h
    go false (Some v) h = absurd cc

-- a name alone is whole everywhere
plain_whole : (s : Setting) (p : Place) (n : List ℕ) → whole_in s (machine.named true reading p n) ≡ Some (used reading (Named n no_index p))
plain_whole s p n = go (is_value s)
  where
    go : (b : Bool) → (if b || true then Some (used reading (Named n no_index p)) else None) ≡ Some (used reading (Named n no_index p))
    go true = refl
    go false = refl

-- a head that has been read
record HeadRead (s : Setting) (h : Head) (row : Row) : Type 0 where
  sh : Shape
  is : run s row ≡ Some (stays sh)
  whole : tree sh ≡ Some (applied h no_trees)
  more : (q : Place) → grow s sh q (mark left_parenthesis) ≡ Some (opens (argument_of h no_trees))
  no_variable : target sh ≡ None

heads_run : {s : Setting} {h : Head} {row : Row} → Heads s h row → HeadRead s h row
heads_run (trapped {n = n} {p = p} o) = record { sh = headed (calls true None no_index n p p); is = refl; whole = refl; more = λ q. refl; no_variable = refl }
heads_run (of_object {trap = true} {n = n} {m = m} {p = p} {q = q} o) = record { sh = headed (calls true (Some n) no_index m q p); is = refl; whole = refl; more = λ q. refl; no_variable = refl }
heads_run (of_object {trap = false} {n = n} {m = m} {p = p} {q = q} o) = record { sh = headed (calls false (Some n) no_index m q p); is = refl; whole = refl; more = λ q. refl; no_variable = refl }
heads_run {s = s} (of_element {trap = true} {n = n} {m = m} {p = p} {q = q} {r = r} {u = u} {e = e} o i) =
    let row1 : Row = begin ▹ word o (mark backslash) ▹ word p (name n) in
    let row2 : Row = row1 ▹ word u (mark left_bracket) in
    let row3 : Row = row2 ▹ upto e right_bracket in
    let row4 : Row = row3 ▹ word r (mark dot) in
    record {
      sh = headed (calls true (Some n) (index e) m q p);
      is = fed_on s row4 (word q (name m)) (stays (object_dot true p n (index e))) _ (fed_on s row3 (word r (mark dot)) (stays (trapped_element p n e)) _ (fed_on s row2 (upto e right_bracket) (opens (machine.trapped_index p n)) _ (fed_on s row1 (word u (mark left_bracket)) (stays (headed (calls true None no_index n p p))) _ refl (only (allows_index s) _ i)) refl) refl) refl;
      whole = refl;
      more = λ q. refl;
      no_variable = refl;
    }
heads_run {s = s} (of_element {trap = false} {n = n} {m = m} {p = p} {q = q} {r = r} {u = u} {e = e} o i) =
    let row1 : Row = begin ▹ word p (name n) in
    let row2 : Row = row1 ▹ word u (mark left_bracket) in
    let row3 : Row = row2 ▹ upto e right_bracket in
    let row4 : Row = row3 ▹ word r (mark dot) in
    record {
      sh = headed (calls false (Some n) (index e) m q p);
      is = fed_on s row4 (word q (name m)) (stays (object_dot false p n (index e))) _ (fed_on s row3 (word r (mark dot)) (stays (machine.element p n e)) _ (fed_on s row2 (upto e right_bracket) (opens (name_index true reading p n)) _ (fed_on s row1 (word u (mark left_bracket)) (stays (machine.named true reading p n)) _ refl (only (allows_index s) _ i)) refl) refl) refl;
      whole = refl;
      more = λ q. refl;
      no_variable = refl;
    }
heads_run (of_built_in {k = k} {p = p}) = record { sh = headed (built k p); is = refl; whole = refl; more = λ q. refl; no_variable = refl }
heads_run {s = s} (of_command {k = k} {p = p} d) = record { sh = headed (built k p); is = only (not (is_value s)) _ d; whole = refl; more = λ q. refl; no_variable = refl }

arguments_run : (s : Setting) {before row : Row} {es : Trees} → Arguments before es row → (h : Head) → run s before ≡ Some (opens (argument_of h no_trees)) → run s row ≡ Some (opens (argument_of h es))
arguments_run s no_arguments h e = e
arguments_run s (argument {es = es} {e = x} {row = row} a) h e = fed_on s row (upto x comma) (opens (argument_of h es)) _ (arguments_run s a h e) refl

choices_run : (s : Setting) {before row : Row} {xs : Items} → Choices before xs row → (p : Place) (k : ℕ) (x : Tree) → run s before ≡ Some (opens (choice_of p k x no_items)) → run s row ≡ Some (opens (choice_of p k x xs))
choices_run s no_choices p k x h = h
choices_run s (value_choice {xs = xs} {e = e} {row = row} c) p k x h = fed_on s row (upto e comma) (opens (choice_of p k x xs)) _ (choices_run s c p k x h) refl
choices_run s (range_choice {xs = xs} {low = low} {high = high} {row = row} c) p k x h =
    fed_on s (row ▹ upto low dot_dot) (upto high comma) (opens (choice_to p k x xs low)) _ (fed_on s row (upto low dot_dot) (opens (choice_of p k x xs)) _ (choices_run s c p k x h) refl) refl
choices_run s (text_choice {xs = xs} {p = r} {o = o} {c = c} {d = d} {t = t} {row = row} a) p k x h =
    fed_on s (row ▹ word r (string (c ∷ d ∷ t))) (word o (mark comma)) (stays (choices_read p k x (with_characters r (c ∷ d ∷ t) xs))) _ (fed_on s row (word r (string (c ∷ d ∷ t))) (opens (choice_of p k x xs)) _ (choices_run s a p k x h) refl) refl

-- a form that has been read
pub record FormRead (s : Setting) (e : Tree) (row : Row) : Type 0 where
  pub sh : Shape
  pub is : run s row ≡ Some (stays sh)
  pub whole : whole_in s sh ≡ Some e

pub written_target : (x : Access) (v : Variable) (sh : Shape) → IsTrue (is_written x) → target sh ≡ if_reading reading (is_written x) v → target sh ≡ Some v
written_target x v sh w h = h ∙ go (is_written x) w
  where
    go : (b : Bool) → IsTrue b → if_reading reading b v ≡ Some v
    go true w = refl
    go false w = absurd cc

-- a change after a whole variable
pub changes_after : (s : Setting) (sh : Shape) (p : Place) (b a : ℕ) (v : Variable) → target sh ≡ Some v → grow s sh p (changes b a) ≡ Some (stays (done (node p (Change v a))))
changes_after s (using u) p b a v h = absurd cc
changes_after s sh p b a v h = ap (λ o. changed o p a) h

-- a LOOK function up to its colon
look_begins : (s : Setting) (p q : Place) (k : ℕ) (x : Tree) → IsTrue (is_value s) → run s (begin ▹ word p (look k) ▹ word q (mark left_parenthesis) ▹ upto x colon) ≡ Some (opens (choice_of p k x no_items))
look_begins s p q k x d = fed_on s (begin ▹ word p (look k) ▹ word q (mark left_parenthesis)) (upto x colon) (opens (look_for p k)) _ (fed_on s (begin ▹ word p (look k)) (word q (mark left_parenthesis)) (stays (opening p (look k))) _ (only (is_value s) _ d) refl) refl

-- STRING up to its parenthesis
opened_run : (s : Setting) (p q : Place) → IsTrue (is_value s) → run s (begin ▹ word p string_word ▹ word q (mark left_parenthesis)) ≡ Some (stays (string_opened p))
opened_run s p q d = fed_on s (begin ▹ word p string_word) (word q (mark left_parenthesis)) (stays (opening p string_word)) _ (only (is_value s) _ d) refl

-- STRING up to a comma
texts_run : (s : Setting) {p : Place} {es : Trees} {row : Row} → Texts p es row → IsTrue (is_value s) → run s row ≡ Some (opens (item_of p es))
texts_run s {p = p} (first_text {q = q} {r = r} {o = o} {c = c} {t = t}) d =
    let row : Row = begin ▹ word p string_word ▹ word q (mark left_parenthesis) in
    fed_on s (row ▹ word r (string (c ∷ t))) (word o (mark comma)) (stays (string_read p r (c ∷ t))) _ (fed_on s row (word r (string (c ∷ t))) (stays (string_opened p)) _ (opened_run s p q d) refl) refl
texts_run s {p = p} (first_value {q = q} {e = e}) d =
    fed_on s (begin ▹ word p string_word ▹ word q (mark left_parenthesis)) (unquoted e comma) (stays (string_opened p)) _ (opened_run s p q d) refl
texts_run s {p = p} (next_text {es = es} {r = r} {o = o} {c = c} {d = d'} {t = t} {row = row} a) d =
    fed_on s (row ▹ word r (string (c ∷ d' ∷ t))) (word o (mark comma)) (stays (strings_read p (es ▷ node r (Str (c ∷ d' ∷ t))))) _ (fed_on s row (word r (string (c ∷ d' ∷ t))) (opens (item_of p es)) _ (texts_run s a d) refl) refl
texts_run s {p = p} (next_value {es = es} {e = e} {row = row} a) d = fed_on s row (upto e comma) (opens (item_of p es)) _ (texts_run s a d) refl

-- an operator before the variable that it changes
altered : (s : Setting) (w : Lexeme) (o : Prefix) (k : ℕ) (p : Place) → IsTrue (not (is_value s)) → prefix_of w ≡ Some o → effect_of o ≡ Some k → grow s fresh p w ≡ Some (stays (using (changing p k)))
altered s w o k p d is e = by_word w is
  where
    by_effect : (x : Prefix) → Some x ≡ Some o → altering s p (effect_of x) ≡ Some (stays (using (changing p k)))
    by_effect x h = let same : x ≡ o = cc in ap (λ x. altering s p (effect_of x)) same ∙ ap (altering s p) e ∙ only (not (is_value s)) _ d

    by_word : (w : Lexeme) → prefix_of w ≡ Some o → grow s fresh p w ≡ Some (stays (using (changing p k)))
    by_word (prefix_word r c) h = by_effect _ h
    by_word (sign c j) h = by_effect _ h
    by_word object_address h = let same : at_object ≡ o = cc in let x : None ≡ Some k = ap effect_of same ∙ e in absurd cc
    by_word w h = absurd cc

pub forms_run : {s : Setting} {e : Tree} {row : Row} → Forms s e row → FormRead s e row
forms_run {s = s} (a_number {n = n} {p = p} d) = record { sh = done (node p (Number n)); is = only (is_value s) _ d; whole = done_whole s _ }
forms_run {s = s} (a_character {c = c} {p = p} d) = record { sh = done (node p (Number c)); is = only (is_value s) _ d; whole = done_whole s _ }
forms_run {s = s} (the_place {p = p} d) = record { sh = done (node p Here); is = only (is_dat s) _ d; whole = done_whole s _ }
forms_run {s = s} (parentheses {e = e} {q = q} d) = record { sh = done e; is = fed_on s (begin ▹ word q (mark left_parenthesis)) (upto e right_parenthesis) (opens parenthesis) _ (only (is_value s) _ d) refl; whole = done_whole s _ }
forms_run {s = s} (variable {x = x} {v = v} d w) = let r = variables_run w reading refl refl in record { sh = r.sh; is = r.is; whole = value_whole s r.sh d ∙ r.whole }
forms_run {s = s} (name_alone {n = n} {p = p} d) = record { sh = machine.named true reading p n; is = refl; whole = plain_whole s p n }
forms_run {s = s} (changed_by {x = x} {v = v} {p = p} {w = w} {o = o} {k = k} d is e t y) = let r = variables_run y (changing p k) t (altered s w o k p d is e) in record { sh = r.sh; is = r.is; whole = standing s r.sh _ r.whole r.written }
forms_run {s = s} (changed_before {x = x} {v = v} {p = p} {b = b} {a = a} w y) = let r = variables_run y (changing p b) w refl in record { sh = r.sh; is = r.is; whole = standing s r.sh _ r.whole r.written }
forms_run {s = s} (changed_after {x = x} {v = v} {p = p} {b = b} {a = a} {row = row} w y) =
    let r = variables_run y reading refl refl in
    record { sh = done (node p (Change v a)); is = fed_on s row (word p (changes b a)) (stays r.sh) _ r.is (changes_after s r.sh p b a v (written_target x v r.sh w r.written)); whole = done_whole s _ }
forms_run {s = s} (address_of {v = v} {p = p} d y) = let r = variables_run y (addressing p) refl (only (is_value s) _ d) in record { sh = r.sh; is = r.is; whole = value_whole s r.sh d ∙ r.whole }
forms_run {s = s} (plain_call {n = n} {p = p} {q = q} {es = es} {e = e} {row = row} a) =
    record {
      sh = done (node p (Call false None no_index n p (es ▷ e)));
      is = fed_on s row (upto e right_parenthesis) (opens (argument_of (calls false None no_index n p p) es)) _ (arguments_run s a (calls false None no_index n p p) refl) refl;
      whole = done_whole s _;
    }
forms_run {s = s} (bare_call h) = let r = heads_run h in record { sh = r.sh; is = r.is; whole = standing s r.sh _ r.whole r.no_variable }
forms_run {s = s} (full_call {h = h} {q = q} {es = es} {e = e} {row = row} {row' = row'} y a) =
    let r = heads_run y in
    record {
      sh = done (applied h (es ▷ e));
      is = fed_on s row' (upto e right_parenthesis) (opens (argument_of h es)) _ (arguments_run s a h (fed_on s row (word q (mark left_parenthesis)) (stays r.sh) _ r.is (r.more q))) refl;
      whole = done_whole s _;
    }
forms_run {s = s} (object_constant {n = n} {m = m} {p = p} {q = q} {r = r} d) = record { sh = done (node p (ObjConst n m q)); is = fed_on s (begin ▹ word p (name n) ▹ word r (mark hash)) (word q (name m)) (stays (hashed p n)) _ (only (is_value s) _ d) refl; whole = done_whole s _ }
forms_run {s = s} (a_value {k = k} {p = p}) = record { sh = done (node p (Built k no_trees)); is = refl; whole = done_whole s _ }
forms_run {s = s} (a_string {c = c} {t = t} {p = p} {q = q} {r = r} {o = o} d) =
    let row : Row = begin ▹ word p string_word ▹ word q (mark left_parenthesis) in
    record { sh = done (node p (Str (c ∷ t))); is = fed_on s (row ▹ word r (string (c ∷ t))) (word o (mark right_parenthesis)) (stays (string_read p r (c ∷ t))) _ (fed_on s row (word r (string (c ∷ t))) (stays (string_opened p)) _ (opened_run s p q d) refl) refl; whole = done_whole s _ }
forms_run {s = s} (one_item {p = p} {q = q} {e = e} d) =
    record { sh = done (node p (Strings (no_trees ▷ e))); is = fed_on s (begin ▹ word p string_word ▹ word q (mark left_parenthesis)) (unquoted e right_parenthesis) (stays (string_opened p)) _ (opened_run s p q d) refl; whole = done_whole s _ }
forms_run {s = s} (items_text {p = p} {r = r} {o = o} {c = c} {d = d} {t = t} {es = es} {row = row} v a) =
    record { sh = done (node p (Strings (es ▷ node r (Str (c ∷ d ∷ t))))); is = fed_on s (row ▹ word r (string (c ∷ d ∷ t))) (word o (mark right_parenthesis)) (stays (strings_read p (es ▷ node r (Str (c ∷ d ∷ t))))) _ (fed_on s row (word r (string (c ∷ d ∷ t))) (opens (item_of p es)) _ (texts_run s a v) refl) refl; whole = done_whole s _ }
forms_run {s = s} (items_value {p = p} {e = e} {es = es} {row = row} v a) =
    record { sh = done (node p (Strings (es ▷ e))); is = fed_on s row (upto e right_parenthesis) (opens (item_of p es)) _ (texts_run s a v) refl; whole = done_whole s _ }
forms_run {s = s} (a_constant {p = p} {q = q} {e = e} d) =
    let row1 : Row = begin ▹ word p constant_word in
    let row2 : Row = row1 ▹ word q (mark left_parenthesis) in
    record { sh = done (node p (Built 0 (no_trees ▷ e))); is = fed_on s row2 (upto e right_parenthesis) (opens (constant_of p)) _ (fed_on s row1 (word q (mark left_parenthesis)) (stays (opening p constant_word)) _ (only (is_value s) _ d) refl) refl; whole = done_whole s _ }
forms_run {s = s} (look_value {k = k} {p = p} {q = q} {x = x} {e = e} {xs = xs} {row = row} d c) =
    record { sh = done (node p (Look k x (xs ▸ single e))); is = fed_on s row (upto e right_parenthesis) (opens (choice_of p k x xs)) _ (choices_run s c p k x (look_begins s p q k x d)) refl; whole = done_whole s _ }
forms_run {s = s} (look_range {k = k} {p = p} {q = q} {x = x} {low = low} {high = high} {xs = xs} {row = row} d c) =
    record { sh = done (node p (Look k x (xs ▸ range low high))); is = fed_on s (row ▹ upto low dot_dot) (upto high right_parenthesis) (opens (choice_to p k x xs low)) _ (fed_on s row (upto low dot_dot) (opens (choice_of p k x xs)) _ (choices_run s c p k x (look_begins s p q k x d)) refl) refl; whole = done_whole s _ }
forms_run {s = s} (look_text {k = k} {p = p} {q = q} {r = r} {o = o} {x = x} {c = c} {d = d} {t = t} {xs = xs} {row = row} v a) =
    record { sh = done (node p (Look k x (with_characters r (c ∷ d ∷ t) xs))); is = fed_on s (row ▹ word r (string (c ∷ d ∷ t))) (word o (mark right_parenthesis)) (stays (choices_read p k x (with_characters r (c ∷ d ∷ t) xs))) _ (fed_on s row (word r (string (c ∷ d ∷ t))) (opens (choice_of p k x xs)) _ (choices_run s a p k x (look_begins s p q k x v)) refl) refl; whole = done_whole s _ }
