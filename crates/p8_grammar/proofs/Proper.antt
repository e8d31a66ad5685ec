-- A tree that proper words spell is proper.
use Rattle.std.proofs.Common.{◌≡◌, ℕ, suc, ◌^◌, ◌<◌, Bool, true, false, List, [], ◌∷◌, ◌++◌, Option, Some, None, refl, sym, ap, subst, ◌∙◌, arith}
use Rattle.std.specs.Prelude.{◌==◌, ◌||◌, ◌-◌, if◌then◌else◌, not, IsTrue, All}
use Rattle.std.proofs.lemmas.Bool.Decides.{nat_tests}
use Rattle.std.proofs.lemmas.List.{get_or_append_left, length-append}
use Rattle.std.proofs.lemmas.List.Elements.{All-head, All-tail}
use Rattle.p8_tree.specs.declared.places.Place.{Place}
use Rattle.p8_tree.specs.Expressions.{Tree, node, Number, Variable, Register, no_index, whole, bits, single, range, Trees, no_trees, ◌▷◌, Items, ◌▸◌}
use Rattle.p8_tree.specs.Names.{IsName, IsVariableName, plain_name, result_name, local_label, IsQuoted, IsWord}
use Rattle.p8_tree.specs.Proper.{is_one_of, IsProperIndex, is_binary, is_written_register, has_bits as register_has_bits, is_register, is_in_memory, is_no_item, is_written as variable_is_written, arguments_fit, is_value, gives_value, gives_no_value, is_change, is_operator_alone, is_unary, IsProperTree, IsProperForm, IsProperVariable, AreProperTrees, AreProperItems}
use Rattle.p8_grammar.specs.Lexemes.{Setting, in_method, in_declaration, in_dat, in_data_item, in_action, is_value as takes_value, is_dat, inside, behind, Access, memory, pins, input_pins, input, assembly, is_written, has_bits, is_in, mark, equal as equal_mark, assigns, Lexeme, prefix_word, infix_word, sign, object_address, Token, token, name, reserved, plain, name_in}
use Rattle.p8_grammar.specs.Grammar as grammar
use Rattle.p8_grammar.specs.Grammar.{word, upto, unquoted, Row, begin, ◌▹◌, Names, result_word, Variables, named, indexed, part, part_indexed, memory_at, memory_indexed, register_whole, register_bit, register_bits, Head, calls, built, applied, Heads, trapped, of_object, of_element, of_built_in, of_command, Arguments, no_arguments, argument, with_characters, Choices, no_choices, value_choice, range_choice, text_choice, quoted, Texts, first_text, first_value, next_text, next_value, Forms, a_number, a_character, the_place, parentheses, variable, name_alone, changed_by, changed_before, changed_after, address_of, plain_call, bare_call, full_call, object_constant, a_value, a_string, one_item, items_text, items_value, a_constant, look_value, look_range, look_text, Prefix, at_object, unary, with_prefix, prefix_of, effect_of, infix_of, Reads, operand, before, between, assigned, assigned_by_word, Spells, nothing, a_word, an_expression, an_unquoted, a_reserved_word}
use Rattle.p8_grammar.specs.Proper.{is_register_for, IsProperLexeme, lexeme_in, AreProper, IsProperAction}
use Rattle.p8_grammar.proofs.Settings.{clash, inside_value, behind_value}

-- words one after the other

abbrev Has : Token → Type 0
Has t = IsProperLexeme (lexeme_in t)

left : (ts us : List Token) → AreProper (ts ++ us) → AreProper ts
left ts us h k d lt = subst Has (get_or_append_left ts us d k lt) (h k d (omega (arith, lt, length-append ts us)))

right : (ts us : List Token) → AreProper (ts ++ us) → AreProper us
right [] us h = h
right (t ∷ ts) us h = right ts us (All-tail Has t (ts ++ us) h)

-- rows

-- the words and the expressions of a row are proper
abbrev IsProperRow : Bool → Row → Type 0
IsProperRow dat begin = Unit {0}
IsProperRow dat (row ▹ word p x) = IsProperRow dat row × IsProperLexeme x
IsProperRow dat (row ▹ upto e m) = IsProperRow dat row × IsProperTree dat e
IsProperRow dat (row ▹ unquoted e m) = IsProperRow dat row × IsProperTree dat e

-- the name that a proper word is behind a colon
pub name_word : (x : Lexeme) (n : List ℕ) → name_in x ≡ Some n → IsProperLexeme x → IsWord n
name_word (name m) n is h = subst IsWord (same m n is) (record { begins = h.begins; characters = h.characters; short = h.short })
  where
    same : (m n : List ℕ) → Some m ≡ Some n → m ≡ n
    same m n h = cc
name_word (reserved m x) n is h = subst IsWord (same m n is) h.0
  where
    same : (m n : List ℕ) → Some m ≡ Some n → m ≡ n
    same m n h = cc
name_word x n is h = absurd cc

names_proper : (s : Setting) {b : Row} {n : List ℕ} {p : Place} {row : Row} → Names s b n p row → IsProperRow (is_dat s) row → IsVariableName (is_dat s) n × IsProperRow (is_dat s) b
names_proper s grammar.plain_name h = (plain_name h.1, h.0)
names_proper s result_word h = (result_name, h.0)
names_proper s (grammar.local_label {x = x} dat is) h = (local_label dat (name_word x _ is h.1), h.0.0)

-- registers

or_true : (a b : Bool) → IsTrue b → IsTrue (a || b)
or_true true b h = refl
or_true false b h = h

or_left : (a b : Bool) → IsTrue a → IsTrue (a || b)
or_left true b h = refl
or_left false b h = absurd cc

equal : (x y : ℕ) → (x == y) ≡ true → x ≡ y
equal x y h = grind (arith, nat_tests)

-- what holds of each of these numbers holds of one of them
abbrev Each : (ℕ → Type 0) → List ℕ → Type 0
Each P [] = Unit {0}
Each P (n ∷ ns) = P n × Each P ns

one_of : (P : ℕ → Type 0) (ns : List ℕ) (a : ℕ) → IsTrue (is_one_of ns a) → Each P ns → P a
one_of P [] a h e = absurd cc
one_of P (n ∷ ns) a h e = go (a == n) refl (λ later. one_of P ns a later e.1)
  where
    go : (b : Bool) → (a == n) ≡ b → (IsTrue (is_one_of ns a) → P a) → P a
    go true t others = subst P (sym (equal a n t)) e.0
    go false f others = others (subst (λ b. IsTrue (b || is_one_of ns a)) f h)

outside : (dat : Bool) (x : Access) (a : ℕ) → IsTrue (is_register_for x a) → (x ≡ assembly → ⊥) → IsTrue (is_register dat a)
outside dat memory a h n = absurd cc
outside true pins a h n = one_of (λ a. IsTrue (is_register true a)) (0x1F4 ∷ 0x1F6 ∷ []) a h (refl, (refl, tt))
outside false pins a h n = one_of (λ a. IsTrue (is_register false a)) (0x1F4 ∷ 0x1F6 ∷ []) a h (refl, (refl, tt))
outside true input_pins a h n = one_of (λ a. IsTrue (is_register true a)) (0x1F2 ∷ []) a h (refl, tt)
outside false input_pins a h n = one_of (λ a. IsTrue (is_register false a)) (0x1F2 ∷ []) a h (refl, tt)
outside true input a h n = one_of (λ a. IsTrue (is_register true a)) (0x1F0 ∷ 0x1F1 ∷ []) a h (refl, (refl, tt))
outside false input a h n = one_of (λ a. IsTrue (is_register false a)) (0x1F0 ∷ 0x1F1 ∷ []) a h (refl, (refl, tt))
outside dat assembly a h n = absurd (n refl)

register_in : (s : Setting) (x : Access) (a : ℕ) → IsTrue (is_in s x) → IsTrue (is_register_for x a) → IsTrue (is_register (is_dat s) a)
register_in s assembly a i h = subst (λ dat. IsTrue (is_register dat a)) (sym i) h
register_in s x a i h = outside (is_dat s) x a h (λ e. cc)

written_register : (x : Access) (a : ℕ) → IsTrue (is_written x) → IsTrue (is_register_for x a) → IsTrue (is_written_register a)
written_register memory a w h = absurd cc
written_register pins a w h = h
written_register _ a w h = absurd cc

bits_of : (x : Access) (a : ℕ) → IsTrue (has_bits x) → IsTrue (is_register_for x a) → IsTrue (register_has_bits a)
bits_of pins a b h = one_of (λ a. IsTrue (register_has_bits a)) (0x1F4 ∷ 0x1F6 ∷ []) a h (refl, (refl, tt))
bits_of input_pins a b h = one_of (λ a. IsTrue (register_has_bits a)) (0x1F2 ∷ []) a h (refl, tt)
bits_of _ a b h = absurd cc

not_memory : (a : ℕ) → IsTrue (is_register_for memory a) → ⊥
not_memory a h = cc

-- variables

record ProperVariable (s : Setting) (b : Row) (x : Access) (v : Variable) : Type 0 where
  is : IsProperVariable (is_dat s) v
  written : IsTrue (is_written x) → IsTrue (variable_is_written v)
  in_memory : x ≡ memory → IsTrue (is_in_memory v)
  rest : IsProperRow (is_dat s) b

in_memory_variable : {s : Setting} {b : Row} {x : Access} {v : Variable} → IsTrue (variable_is_written v) → IsTrue (is_in_memory v) → IsProperVariable (is_dat s) v → IsProperRow (is_dat s) b → ProperVariable s b x v
in_memory_variable w m is rest = record { is = is; written = λ _. w; in_memory = λ _. m; rest = rest }

register_variable : {s : Setting} {b : Row} {x : Access} {a : ℕ} {p : Place} (i : _) → IsTrue (is_register_for x a) → IsProperVariable (is_dat s) (Register a i p) → IsProperRow (is_dat s) b → ProperVariable s b x (Register a i p)
register_variable {x = x} {a = a} i h is rest = record { is = is; written = λ w. written_register x a w h; in_memory = λ e. absurd (not_memory a (subst (λ x. IsTrue (is_register_for x a)) e h)); rest = rest }

variables_proper : (s : Setting) {b : Row} {x : Access} {v : Variable} {row : Row} → Variables s b x v row → IsProperRow (is_dat s) row → ProperVariable s b x v
variables_proper s (named n) h = let r = names_proper s n h in in_memory_variable refl refl (r.0, tt) r.1
variables_proper s (indexed i n) h = let r = names_proper s n h.0.0 in in_memory_variable refl refl (r.0, h.1) r.1
variables_proper s (part n) h = let r = names_proper s n h.0.0 in in_memory_variable refl refl (r.0, h.1, tt) r.1
variables_proper s (part_indexed i n) h = let r = names_proper s n h.0.0.0.0 in in_memory_variable refl refl (r.0, h.0.0.1, h.1) r.1
variables_proper s (memory_at i) h = in_memory_variable refl refl (h.0.0.1, h.1, tt) h.0.0.0
variables_proper s (memory_indexed i) h = in_memory_variable refl refl (h.0.0.0.0.1, h.0.0.1, h.1) h.0.0.0.0.0
variables_proper s (register_whole {a = a} {x = x} i) h = register_variable whole h.1 (register_in s x a i h.1, refl, tt) h.0
variables_proper s (register_bit {a = a} {x = x} {e = e} j i b) h = register_variable (bits (single e)) h.0.0.1 (register_in s x a i h.0.0.1, bits_of x a b h.0.0.1, h.1) h.0.0.0
variables_proper s (register_bits {a = a} {x = x} {low = low} {high = high} j i b) h =
    register_variable (bits (range low high)) h.0.0.0.1 (register_in s x a i h.0.0.0.1, bits_of x a b h.0.0.0.1, (h.0.1, h.1)) h.0.0.0.0

-- calls and built-ins

abbrev IsProperHead : Bool → Head → Type 0
IsProperHead dat (calls trap (Some object) i n q p) = IsName n × IsName object × IsProperIndex dat i
IsProperHead dat (calls trap None i n q p) = IsName n × (trap ≡ true) × (i ≡ no_index)
IsProperHead dat (built k p) = IsTrue (gives_value k)

heads_proper : (s : Setting) {h : Head} {row : Row} → IsTrue (takes_value s) → Heads s h row → IsProperRow (is_dat s) row → IsProperHead (is_dat s) h
heads_proper s d (trapped o) r = (r.1, refl, refl)
heads_proper s d (of_object o) r = (r.1, r.0.0.1, tt)
heads_proper s d (of_element o i) r = (r.1, r.0.0.0.0.1, r.0.0.1)
heads_proper s d of_built_in r = r.1
heads_proper s d (of_command y) r = absurd (clash s d y)

-- a built-in with arguments
with_arguments : (es : Trees) (e : Tree) (k : ℕ) → IsTrue (gives_value k) → IsTrue (arguments_fit (es ▷ e) k)
with_arguments no_trees e k h = or_true (k == 0) (gives_value k) h
with_arguments (es ▷ d) e k h = h

no_call : (dat : Bool) (h : Head) → IsProperHead dat h → IsProperTree dat (applied h no_trees)
no_call dat (calls true None no_index n q p) h = (h.0, (refl, refl), tt, tt)
no_call dat (calls t (Some object) i n q p) h = (h.0, h.1, h.2, tt)
no_call dat (built k p) h = (or_true (is_value k) (gives_value k) h, tt)
no_call dat (calls t None i n q p) h = absurd cc

full : (dat : Bool) (h : Head) (es : Trees) (e : Tree) → IsProperHead dat h → AreProperTrees dat (es ▷ e) → IsProperTree dat (applied h (es ▷ e))
full dat (calls true None no_index n q p) es e h a = (h.0, (refl, refl), tt, a)
full dat (calls t (Some object) i n q p) es e h a = (h.0, h.1, h.2, a)
full dat (built k p) es e h a = (with_arguments es e k h, a)
full dat (calls t None i n q p) es e h a = absurd cc

arguments_proper : (dat : Bool) {b : Row} {es : Trees} {row : Row} → Arguments b es row → IsProperRow dat row → AreProperTrees dat es × IsProperRow dat b
arguments_proper dat no_arguments h = (tt, h)
arguments_proper dat (argument a) h = let r = arguments_proper dat a h.0 in ((r.0, h.1), r.1)

-- forms

small : (c : ℕ) → c < 256 → c < 2 ^ 32
small c h = omega arith

-- a string's characters
characters_proper : (dat : Bool) (p : Place) (t : List ℕ) (xs : Items) → All IsQuoted t → AreProperItems dat xs → AreProperItems dat (with_characters p t xs)
characters_proper dat p [] xs q h = h
characters_proper dat p (c ∷ t) xs q h = characters_proper dat p t (xs ▸ single (node p (Number c))) (All-tail IsQuoted c t q) (h, small c (All-head IsQuoted c t q).0)

some_characters : (p : Place) (t : List ℕ) (xs : Items) → IsTrue (not (is_no_item xs)) → IsTrue (not (is_no_item (with_characters p t xs)))
some_characters p [] xs h = h
some_characters p (c ∷ t) xs h = some_characters p t (xs ▸ single (node p (Number c))) refl

choices_proper : (dat : Bool) {b : Row} {xs : Items} {row : Row} → Choices b xs row → IsProperRow dat row → AreProperItems dat xs × IsProperRow dat b
choices_proper dat no_choices h = (tt, h)
choices_proper dat (value_choice c) h = let r = choices_proper dat c h.0 in ((r.0, h.1), r.1)
choices_proper dat (range_choice c) h = let r = choices_proper dat c h.0.0 in ((r.0, (h.0.1, h.1)), r.1)
choices_proper dat (text_choice {xs = xs} {p = p} {c = d} {d = e} {t = t} c) h = let r = choices_proper dat c h.0.0 in (characters_proper dat p (d ∷ e ∷ t) xs h.0.1 r.0, r.1)

quoted_proper : (dat : Bool) (p : Place) (c : ℕ) (t : List ℕ) → All IsQuoted (c ∷ t) → IsProperTree dat (quoted p (c ∷ t))
quoted_proper dat p c [] h = small c (All-head IsQuoted c [] h).0
quoted_proper dat p c (d ∷ t) h = (omega arith, h)

texts_proper : (dat : Bool) {p : Place} {es : Trees} {row : Row} → Texts p es row → IsProperRow dat row → AreProperTrees dat es
texts_proper dat (first_text {r = r} {c = c} {t = t}) h = (tt, quoted_proper dat r c t h.0.1)
texts_proper dat first_value h = (tt, h.1)
texts_proper dat (next_text a) h = (texts_proper dat a h.0.0, (omega arith, h.0.1))
texts_proper dat (next_value a) h = (texts_proper dat a h.0, h.1)

forms_proper : (s : Setting) {e : Tree} {row : Row} → IsTrue (takes_value s) → Forms s e row → IsProperRow (is_dat s) row → IsProperTree (is_dat s) e
forms_proper s d (a_number y) h = h.1
forms_proper s d (a_character {c = c} y) h = small c (All-head IsQuoted c [] h.1).0
forms_proper s d (the_place dat) h = dat
forms_proper s d (parentheses y) h = h.1
forms_proper s d (variable y v) h = (variables_proper s v h).is
forms_proper s d (name_alone y) h = absurd (clash s d y)
forms_proper s d (changed_by y a b w v) h = absurd (clash s d y)
forms_proper s d (changed_before w v) h = let r = variables_proper s v h in (r.rest.1.0, r.written w, r.is)
forms_proper s d (changed_after w v) h = let r = variables_proper s v h.0 in (h.1.1, r.written w, r.is)
forms_proper s d (address_of y v) h = let r = variables_proper s v h in (r.in_memory refl, r.is)
forms_proper s d (plain_call a) h = let r = arguments_proper (is_dat s) a h.0 in (r.1.0.1, (refl, refl), tt, (r.0, h.1))
forms_proper s d (bare_call {h = x} r) h = no_call (is_dat s) x (heads_proper s d r h)
forms_proper s d (full_call {h = x} {es = es} {e = e} r a) h = let b = arguments_proper (is_dat s) a h.0 in full (is_dat s) x es e (heads_proper s d r b.1.0) (b.0, h.1)
forms_proper s d (object_constant y) h = (h.0.0.1, h.1)
forms_proper s d (a_value {k = k}) h = (or_left (is_value k) (gives_value k) h.1, tt)
forms_proper s d (a_string {c = c} {t = t} y) h = (omega arith, h.0.1)
forms_proper s d (one_item y) h = (refl, (tt, h.1))
forms_proper s d (items_text y a) h = (refl, (texts_proper (is_dat s) a h.0.0, (omega arith, h.0.1)))
forms_proper s d (items_value y a) h = (refl, (texts_proper (is_dat s) a h.0, h.1))
forms_proper s d (a_constant y) h = (refl, (tt, h.1))
forms_proper s d (look_value y c) h = let r = choices_proper (is_dat s) c h.0 in (r.1.0.0.1, refl, r.1.1, (r.0, h.1))
forms_proper s d (look_range y c) h = let r = choices_proper (is_dat s) c h.0.0 in (r.1.0.0.1, refl, r.1.1, (r.0, (h.0.1, h.1)))
forms_proper s d (look_text {r = p} {c = a} {d = b} {t = t} {xs = xs} y c) h =
    let r = choices_proper (is_dat s) c h.0.0 in
    (r.1.0.0.1, some_characters p t (xs ▸ single (node p (Number a)) ▸ single (node p (Number b))) refl, r.1.1, characters_proper (is_dat s) p (a ∷ b ∷ t) xs h.0.1 r.0)

-- operators

prefix_proper : (dat : Bool) (x : Lexeme) (o : Prefix) (e : Tree) → prefix_of x ≡ Some o → IsProperLexeme x → IsProperTree dat e → IsProperForm dat (with_prefix o e)
prefix_proper dat (prefix_word r k) o e h x p = subst (λ o. IsProperForm dat (with_prefix o e)) (given h) (x, p)
  where
    given : Some (unary r k) ≡ Some o → unary r k ≡ o
    given h = cc
prefix_proper dat (sign k j) o e h x p = subst (λ o. IsProperForm dat (with_prefix o e)) (given h) (x.0, p)
  where
    given : Some (unary 1 k) ≡ Some o → unary 1 k ≡ o
    given h = cc
prefix_proper dat object_address o e h x p = subst (λ o. IsProperForm dat (with_prefix o e)) (given h) p
  where
    given : Some at_object ≡ Some o → at_object ≡ o
    given h = cc
prefix_proper dat x o e h p q = absurd cc

-- what a proper word is is proper
plain_proper : (x : Lexeme) → IsProperLexeme x → IsProperLexeme (plain x)
plain_proper (reserved n x) h = h.1
plain_proper x h = h

abbrev effect : Option Prefix → Option ℕ
effect None = None
effect (Some o) = effect_of o

abbrev code_in : Option (ℕ × ℕ) → ℕ
code_in None = 0
code_in (Some x) = x.1

infix_proper : (x : Lexeme) (r k : ℕ) → infix_of x ≡ Some (r, k) → IsProperLexeme x → IsTrue (is_binary k)
infix_proper (infix_word r' k') r k h p = subst (λ k. IsTrue (is_binary k)) (ap code_in h) p
infix_proper (sign i j) r k h p = subst (λ k. IsTrue (is_binary k)) (ap code_in h) p.1
infix_proper x r k h p = absurd cc

-- expressions

inside_dat : (s : Setting) → is_dat (inside s) ≡ is_dat s
inside_dat in_method = refl
inside_dat in_declaration = refl
inside_dat in_dat = refl
inside_dat in_data_item = refl
inside_dat in_action = refl

behind_dat : (s : Setting) → is_dat (behind s) ≡ is_dat s
behind_dat in_method = refl
behind_dat in_declaration = refl
behind_dat in_dat = refl
behind_dat in_data_item = refl
behind_dat in_action = refl

mutual
  pub tree_proper : {s : Setting} {l : ℕ} {e : Tree} {ts : List Token} → IsTrue (takes_value s) → Reads s l e ts → AreProper ts → IsProperTree (is_dat s) e
  tree_proper {s = s} d (operand f sp) h = forms_proper s d f (row_proper sp h)
  tree_proper {s = s} d (before {x = x} {o = o} {p = p} {e = e} {ts = ts} y is le r) h = prefix_proper (is_dat s) (plain x) o e is (plain_proper x (All-head Has (token p x) ts h)) (tree_proper d r (All-tail Has (token p x) ts h))
  tree_proper {s = s} d (between {r = r} {k = k} {p = p} {ts = ts} {us = us} x y is tight le a b) h =
      let behind = right ts (token p x ∷ us) h in
      (infix_proper (plain x) (suc r) k is (plain_proper x (All-head Has (token p x) us behind)), tree_proper d a (left ts (token p x ∷ us) h), tree_proper d b (All-tail Has (token p x) us behind))
  tree_proper {s = s} d (assigned {o = o} {p = p} {e = e} {ts = ts} {us = us} x le w v sp r) h =
      let behind = right ts (token p (assigns o) ∷ us) h in
      let y = variables_proper s v (row_proper sp (left ts (token p (assigns o) ∷ us) h)) in
      (All-head Has (token p (assigns o)) us behind, y.written w, y.is, subst (λ dat. IsProperTree dat e) (behind_dat s) (tree_proper (behind_value s) r (All-tail Has (token p (assigns o)) us behind)))
  tree_proper {s = s} d (assigned_by_word {k = k} {p = p} {e = e} {ts = ts} {us = us} x o r q le w f b v sp t) h =
      let behind = right ts (token p o ∷ token q (mark equal_mark) ∷ us) h in
      let y = variables_proper s v (row_proper sp (left ts (token p o ∷ token q (mark equal_mark) ∷ us) h)) in
      let last = All-tail Has (token p o) (token q (mark equal_mark) ∷ us) behind in
      (infix_proper (plain o) r k f (plain_proper o (All-head Has (token p o) (token q (mark equal_mark) ∷ us) behind)), y.written w, y.is, subst (λ dat. IsProperTree dat e) (behind_dat s) (tree_proper (behind_value s) t (All-tail Has (token q (mark equal_mark)) us last)))

  row_proper : {s : Setting} {row : Row} {ts : List Token} → Spells s row ts → AreProper ts → IsProperRow (is_dat s) row
  row_proper nothing h = tt
  row_proper (a_word {p = p} {x = x} {ts = ts} sp) h = (row_proper sp (left ts (token p x ∷ []) h), All-head Has (token p x) [] (right ts (token p x ∷ []) h))
  row_proper (a_reserved_word {p = p} {x = x} {ts = ts} n none sp) h = (row_proper sp (left ts (token p (reserved n x) ∷ []) h), (All-head Has (token p (reserved n x)) [] (right ts (token p (reserved n x) ∷ []) h)).1)
  row_proper {s = s} (an_expression {e = e} {m = m} {ts = ts} {us = us} p sp r) h =
      let behind = right ts (us ++ token p (mark m) ∷ []) h in
      (row_proper sp (left ts (us ++ token p (mark m) ∷ []) h), subst (λ dat. IsProperTree dat e) (inside_dat s) (tree_proper (inside_value s) r (left us (token p (mark m) ∷ []) behind)))
  row_proper {s = s} (an_unquoted {e = e} {m = m} {ts = ts} {us = us} p sp r a) h =
      let behind = right ts (us ++ token p (mark m) ∷ []) h in
      (row_proper sp (left ts (us ++ token p (mark m) ∷ []) h), subst (λ dat. IsProperTree dat e) (inside_dat s) (tree_proper (inside_value s) r (left us (token p (mark m) ∷ []) behind)))

-- actions

abbrev IsDoneHead : Head → Type 0
IsDoneHead (built k p) = IsTrue (gives_value k || gives_no_value k)
IsDoneHead h = IsProperHead false h

-- the effect byte of an operator alone
effect_proper : (k e : ℕ) → IsTrue (is_unary k) → (if k == 0xEC then None else Some (k - 0xA0)) ≡ Some e → IsTrue (is_operator_alone e)
effect_proper k e u h = one_of (λ k. (if k == 0xEC then None else Some (k - 0xA0)) ≡ Some e → IsTrue (is_operator_alone e)) (0xE6 ∷ 0xE7 ∷ 0xE9 ∷ 0xEC ∷ 0xF1 ∷ 0xF3 ∷ 0xF8 ∷ 0xFF ∷ []) k u (given 0x46 refl, (given 0x47 refl, (given 0x49 refl, ((λ h. absurd cc), (given 0x51 refl, (given 0x53 refl, (given 0x58 refl, (given 0x5F refl, tt)))))))) h
  where
    same : (n : ℕ) → Some n ≡ Some e → n ≡ e
    same n h = cc

    given : (n : ℕ) → IsTrue (is_operator_alone n) → Some n ≡ Some e → IsTrue (is_operator_alone e)
    given n t h = subst (λ e. IsTrue (is_operator_alone e)) (same n h) t

operator_proper : (w : Lexeme) (o : Prefix) (e : ℕ) → prefix_of w ≡ Some o → effect_of o ≡ Some e → IsProperLexeme w → IsTrue (is_operator_alone e)
operator_proper (prefix_word r k) o e is h p = effect_proper k e p (ap effect is ∙ h)
operator_proper (sign k j) o e is h p = effect_proper k e p.0 (ap effect is ∙ h)
operator_proper object_address o e is h p = let x : None ≡ Some e = ap effect is ∙ h in absurd cc
operator_proper w o e is h p = absurd cc

heads_done : {h : Head} {row : Row} → Heads in_action h row → IsProperRow false row → IsDoneHead h
heads_done (trapped o) r = (r.1, refl, refl)
heads_done (of_object o) r = (r.1, r.0.0.1, tt)
heads_done (of_element o i) r = (r.1, r.0.0.0.0.1, r.0.0.1)
heads_done (of_built_in {k = k}) r = or_left (gives_value k) (gives_no_value k) r.1
heads_done (of_command {k = k} y) r = or_true (gives_value k) (gives_no_value k) r.1

no_call_done : (h : Head) → IsDoneHead h → IsProperAction (applied h no_trees)
no_call_done (calls true None no_index n q p) h = (h.0, (refl, refl), tt, tt)
no_call_done (calls t (Some object) i n q p) h = (h.0, h.1, h.2, tt)
no_call_done (built k p) h = (or_true (is_value k) (gives_value k || gives_no_value k) h, tt)
no_call_done (calls t None i n q p) h = absurd cc

full_done : (h : Head) (es : Trees) (e : Tree) → IsDoneHead h → AreProperTrees false (es ▷ e) → IsProperAction (applied h (es ▷ e))
full_done (calls true None no_index n q p) es e h a = (h.0, (refl, refl), tt, a)
full_done (calls t (Some object) i n q p) es e h a = (h.0, h.1, h.2, a)
full_done (built k p) es e h a = (h, a)
full_done (calls t None i n q p) es e h a = absurd cc

forms_done : {e : Tree} {row : Row} → Forms in_action e row → IsProperRow false row → IsProperAction e
forms_done (name_alone y) h = h.1
forms_done (changed_by {w = w} {o = o} {k = k} y a b x v) h = let r = variables_proper in_action v h in (or_true (is_change k) (is_operator_alone k) (operator_proper w o k a b r.rest.1), r.written x, r.is)
forms_done (changed_before {b = b} w v) h = let r = variables_proper in_action v h in (or_left (is_change b) (is_operator_alone b) r.rest.1.0, r.written w, r.is)
forms_done (changed_after {a = a} w v) h = let r = variables_proper in_action v h.0 in (or_left (is_change a) (is_operator_alone a) h.1.1, r.written w, r.is)
forms_done (plain_call a) h = let r = arguments_proper false a h.0 in (r.1.0.1, (refl, refl), tt, (r.0, h.1))
forms_done (bare_call {h = x} r) h = no_call_done x (heads_done r h)
forms_done (full_call {h = x} {es = es} {e = e} r a) h = let b = arguments_proper false a h.0 in full_done x es e (heads_done r b.1.0) (b.0, h.1)
forms_done (a_value {k = k}) h = (or_left (is_value k) (gives_value k || gives_no_value k) h.1, tt)
forms_done (a_number y) h = absurd cc
forms_done (a_character y) h = absurd cc
forms_done (the_place y) h = absurd cc
forms_done (parentheses y) h = absurd cc
forms_done (variable y v) h = absurd cc
forms_done (address_of y v) h = absurd cc
forms_done (object_constant y) h = absurd cc
forms_done (a_string y) h = absurd cc
forms_done (one_item y) h = absurd cc
forms_done (items_text y a) h = absurd cc
forms_done (items_value y a) h = absurd cc
forms_done (a_constant y) h = absurd cc
forms_done (look_value y c) h = absurd cc
forms_done (look_range y c) h = absurd cc
forms_done (look_text y c) h = absurd cc

action_proper : {l : ℕ} {e : Tree} {ts : List Token} → Reads in_action l e ts → AreProper ts → IsProperAction e
action_proper (operand f sp) h = forms_done f (row_proper sp h)
action_proper (before y is le r) h = absurd cc
action_proper (between x y is tight le a b) h = absurd cc
action_proper (assigned {o = o} {p = p} {ts = ts} {us = us} x le w v sp r) h =
    let behind = right ts (token p (assigns o) ∷ us) h in
    let y = variables_proper in_action v (row_proper sp (left ts (token p (assigns o) ∷ us) h)) in
    (All-head Has (token p (assigns o)) us behind, y.written w, y.is, tree_proper refl r (All-tail Has (token p (assigns o)) us behind))
action_proper (assigned_by_word {k = k} {p = p} {ts = ts} {us = us} x o r q le w f b v sp t) h =
    let behind = right ts (token p o ∷ token q (mark equal_mark) ∷ us) h in
    let y = variables_proper in_action v (row_proper sp (left ts (token p o ∷ token q (mark equal_mark) ∷ us) h)) in
    let last = All-tail Has (token p o) (token q (mark equal_mark) ∷ us) behind in
    (infix_proper (plain o) r k f (plain_proper o (All-head Has (token p o) (token q (mark equal_mark) ∷ us) behind)), y.written w, y.is, tree_proper refl t (All-tail Has (token q (mark equal_mark)) us last))

pub spelled_proper : (s : Setting) (ts : List Token) (e : Tree) → IsTrue (takes_value s) → Reads s 22 e ts → AreProper ts → IsProperTree (is_dat s) e
spelled_proper s ts e d r h = tree_proper d r h

pub spelled_done : (ts : List Token) (e : Tree) → Reads in_action 22 e ts → AreProper ts → IsProperAction e
spelled_done ts e r h = action_proper r h
