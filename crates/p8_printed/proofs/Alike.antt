-- Rows that are alike but for places stand for trees that are alike.
use Rattle.std.proofs.Common.{◌≡◌, ℕ, true, false, List, [], ◌∷◌, Some, None, refl, sym, ap, ap₂, subst}
use Rattle.std.specs.Prelude.{IsTrue, not}
use Rattle.p8_tree.specs.declared.places.Place.{Place}
use Rattle.p8_tree.specs.Expressions.{Tree, node, Number, Str, Strings, Here, Var, Call, Change, Address, ObjConst, Built, Look, Variable, Named, Part, Memory, Register, no_index, index, whole, bits, single, range, Trees, no_trees, ◌▷◌, Items, no_items, ◌▸◌}
use Rattle.p8_tree.specs.Forgetting.{anywhere, variable_anywhere, trees_anywhere, items_anywhere, IsSameTree}
use Rattle.p8_grammar.specs.Lexemes.{Setting, is_value, allows_index, is_dat, Access, memory, input_pins, input, assembly, is_written, is_in, Mark, left_parenthesis, right_parenthesis, colon, dot_dot, Lexeme, name, string, mark, changes, address, look}
use Rattle.p8_grammar.specs.Grammar.{word, upto, unquoted, Row, begin, ◌▹◌, Names, plain_name, result_word, local_label, Variables, named, indexed, part, part_indexed, memory_at, memory_indexed, register_whole, register_bit, register_bits, place_of, Head, calls, built, applied, Heads, trapped, of_object, of_element, of_built_in, of_command, Arguments, no_arguments, argument, Choices, no_choices, value_choice, range_choice, with_characters, text_choice, quoted, Texts, first_text, first_value, next_text, next_value, Forms, a_number, a_character, the_place, parentheses, variable, name_alone, changed_by, Prefix, prefix_of, effect_of, changed_before, changed_after, address_of, plain_call, bare_call, full_call, object_constant, a_value, a_string, one_item, items_text, items_value, a_constant, look_value, look_range, look_text}

pub data Alike : Row → Row → Type 0 where
  alike_begin : Alike begin begin
  alike_word : {row row' : Row} {p p' : Place} {x : Lexeme} → Alike row row' → Alike (row ▹ word p x) (row' ▹ word p' x)
  alike_upto : {row row' : Row} {e e' : Tree} {m : Mark} → Alike row row' → IsSameTree e' e → Alike (row ▹ upto e m) (row' ▹ upto e' m)
  alike_unquoted : {row row' : Row} {e e' : Tree} {m : Mark} → Alike row row' → IsSameTree e' e → Alike (row ▹ unquoted e m) (row' ▹ unquoted e' m)

-- a setting in which all stands that stands in another, indexes among it
pub record Fits (s s' : Setting) : Type 0 where
  pub dat : is_dat s' ≡ is_dat s
  pub value : is_value s' ≡ is_value s
  pub indexes : IsTrue (allows_index s')

in_dat_too : {s s' : Setting} → Fits s s' → IsTrue (is_dat s) → IsTrue (is_dat s')
in_dat_too f h = subst IsTrue (sym f.dat) h

pub value_too : {s s' : Setting} → Fits s s' → IsTrue (is_value s) → IsTrue (is_value s')
value_too f h = subst IsTrue (sym f.value) h

action_too : {s s' : Setting} → Fits s s' → IsTrue (not (is_value s)) → IsTrue (not (is_value s'))
action_too f h = subst (λ b. IsTrue (not b)) (sym f.value) h

is_in_too : {s s' : Setting} → Fits s s' → (x : Access) → IsTrue (is_in s x) → IsTrue (is_in s' x)
is_in_too f assembly h = subst IsTrue (sym f.dat) h
is_in_too f input_pins h = value_too f h
is_in_too f input h = value_too f h
is_in_too f x h = h

pub record NamesAs (s : Setting) (before : Row) (n : List ℕ) (row : Row) : Type 0 where
  base : Row
  place : Place
  alike : Alike before base
  names : Names s base n place row

names_as : {s s' : Setting} {before row row' : Row} {n : List ℕ} {p : Place} → Fits s s' → Names s before n p row → Alike row row' → NamesAs s' before n row'
names_as f plain_name (alike_word {row' = base} {p' = p'} h) = record { base = base; place = p'; alike = h; names = plain_name }
names_as f result_word (alike_word {row' = base} {p' = p'} h) = record { base = base; place = p'; alike = h; names = result_word }
names_as f (local_label d is) (alike_word (alike_word {row' = base} {p' = p'} h)) = record { base = base; place = p'; alike = h; names = local_label (in_dat_too f d) is }

pub record VariablesAs (s : Setting) (before : Row) (x : Access) (v : Variable) (row : Row) : Type 0 where
  pub base : Row
  pub other : Variable
  pub alike : Alike before base
  pub variables : Variables s base x other row
  pub same : variable_anywhere other ≡ variable_anywhere v

pub variables_as : {s s' : Setting} {before row row' : Row} {x : Access} {v : Variable} → Fits s s' → Variables s before x v row → Alike row row' → VariablesAs s' before x v row'
variables_as f (named {n = n} a) h =
    let r = names_as f a h in
    record { base = r.base; other = Named n no_index r.place; alike = r.alike; variables = named r.names; same = refl }
variables_as f (indexed {n = n} i a) (alike_upto {e' = e'} (alike_word h) d) =
    let r = names_as f a h in
    record { base = r.base; other = Named n (index e') r.place; alike = r.alike; variables = indexed f.indexes r.names; same = ap (λ t. Named n (index t) anywhere) d }
variables_as f (part {n = n} {z = z} a) (alike_word (alike_word h)) =
    let r = names_as f a h in
    record { base = r.base; other = Part n z no_index r.place; alike = r.alike; variables = part r.names; same = refl }
variables_as f (part_indexed {n = n} {z = z} i a) (alike_upto {e' = e'} (alike_word (alike_word (alike_word h))) d) =
    let r = names_as f a h in
    record { base = r.base; other = Part n z (index e') r.place; alike = r.alike; variables = part_indexed f.indexes r.names; same = ap (λ t. Part n z (index t) anywhere) d }
variables_as f (memory_at {z = z} i) (alike_upto {e' = e'} (alike_word (alike_word {row' = base} {p' = p'} h)) d) =
    record { base = base; other = Memory z e' no_index p'; alike = h; variables = memory_at f.indexes; same = ap (λ t. Memory z t no_index anywhere) d }
variables_as f (memory_indexed {z = z} i) (alike_upto {e' = i'} (alike_word (alike_upto {e' = e'} (alike_word (alike_word {row' = base} {p' = p'} h)) d)) d') =
    record { base = base; other = Memory z e' (index i') p'; alike = h; variables = memory_indexed f.indexes; same = ap₂ (λ t u. Memory z t (index u) anywhere) d d' }
variables_as f (register_whole {a = a} {x = x} i) (alike_word {row' = base} {p' = p'} h) =
    record { base = base; other = Register a whole p'; alike = h; variables = register_whole (is_in_too f x i); same = refl }
variables_as f (register_bit {a = a} {x = x} b i c) (alike_upto {e' = e'} (alike_word (alike_word {row' = base} {p' = p'} h)) d) =
    record { base = base; other = Register a (bits (single e')) p'; alike = h; variables = register_bit f.indexes (is_in_too f x i) c; same = ap (λ t. Register a (bits (single t)) anywhere) d }
variables_as f (register_bits {a = a} {x = x} b i c) (alike_upto {e' = high'} (alike_upto {e' = low'} (alike_word (alike_word {row' = base} {p' = p'} h)) d) d') =
    record { base = base; other = Register a (bits (range low' high')) p'; alike = h; variables = register_bits f.indexes (is_in_too f x i) c; same = ap₂ (λ t u. Register a (bits (range t u)) anywhere) d d' }

record HeadsAs (s : Setting) (h : Head) (row : Row) : Type 0 where
  other : Head
  heads : Heads s other row
  same : (es es' : Trees) → trees_anywhere es' ≡ trees_anywhere es → IsSameTree (applied other es') (applied h es)

heads_as : {s s' : Setting} {h : Head} {row row' : Row} → Fits s s' → Heads s h row → Alike row row' → HeadsAs s' h row'
heads_as f (trapped {n = n} o) (alike_word {p' = p'} (alike_word {p' = o'} alike_begin)) =
    record { other = calls true None no_index n p' p'; heads = trapped o'; same = λ es es' d. ap (λ t. node anywhere (Call true None no_index n anywhere t)) d }
heads_as f (of_object {trap = true} {n = n} {m = m} o) (alike_word {p' = q'} (alike_word (alike_word {p' = p'} (alike_word {p' = o'} alike_begin)))) =
    record { other = calls true (Some n) no_index m q' p'; heads = of_object {trap = true} o'; same = λ es es' d. ap (λ t. node anywhere (Call true (Some n) no_index m anywhere t)) d }
heads_as f (of_object {trap = false} {n = n} {m = m} o) (alike_word {p' = q'} (alike_word (alike_word {p' = p'} alike_begin))) =
    record { other = calls false (Some n) no_index m q' p'; heads = of_object {trap = false} o; same = λ es es' d. ap (λ t. node anywhere (Call false (Some n) no_index m anywhere t)) d }
heads_as f (of_element {trap = true} {n = n} {m = m} o i) (alike_word {p' = q'} (alike_word (alike_upto {e' = e'} (alike_word (alike_word {p' = p'} (alike_word {p' = o'} alike_begin))) d))) =
    record { other = calls true (Some n) (index e') m q' p'; heads = of_element {trap = true} o' f.indexes; same = λ es es' d'. ap₂ (λ t u. node anywhere (Call true (Some n) (index t) m anywhere u)) d d' }
heads_as f (of_element {trap = false} {n = n} {m = m} o i) (alike_word {p' = q'} (alike_word (alike_upto {e' = e'} (alike_word (alike_word {p' = p'} alike_begin)) d))) =
    record { other = calls false (Some n) (index e') m q' p'; heads = of_element {trap = false} o f.indexes; same = λ es es' d'. ap₂ (λ t u. node anywhere (Call false (Some n) (index t) m anywhere u)) d d' }
heads_as f (of_built_in {k = k}) (alike_word {p' = p'} alike_begin) =
    record { other = built k p'; heads = of_built_in; same = λ es es' d. ap (λ t. node anywhere (Built k t)) d }
heads_as f (of_command {k = k} a) (alike_word {p' = p'} alike_begin) =
    record { other = built k p'; heads = of_command (action_too f a); same = λ es es' d. ap (λ t. node anywhere (Built k t)) d }

record ArgumentsAs (before : Row) (es : Trees) (row : Row) : Type 0 where
  base : Row
  other : Trees
  alike : Alike before base
  arguments : Arguments base other row
  same : trees_anywhere other ≡ trees_anywhere es

arguments_as : {before row row' : Row} {es : Trees} → Arguments before es row → Alike row row' → ArgumentsAs before es row'
arguments_as {row' = row'} no_arguments h = record { base = row'; other = no_trees; alike = h; arguments = no_arguments; same = refl }
arguments_as (argument a) (alike_upto {e' = e'} h d) =
    let r = arguments_as a h in
    record { base = r.base; other = r.other ▷ e'; alike = r.alike; arguments = argument r.arguments; same = ap₂ (λ ts t. ts ▷ t) r.same d }

record ChoicesAs (before : Row) (xs : Items) (row : Row) : Type 0 where
  base : Row
  other : Items
  alike : Alike before base
  choices : Choices base other row
  same : items_anywhere other ≡ items_anywhere xs

characters_same : (p p' : Place) (cs : List ℕ) (xs ys : Items) → items_anywhere ys ≡ items_anywhere xs → items_anywhere (with_characters p' cs ys) ≡ items_anywhere (with_characters p cs xs)
characters_same p p' [] xs ys h = h
characters_same p p' (c ∷ cs) xs ys h = characters_same p p' cs (xs ▸ single (node p (Number c))) (ys ▸ single (node p' (Number c))) (ap (λ zs. zs ▸ single (node anywhere (Number c))) h)

choices_as : {before row row' : Row} {xs : Items} → Choices before xs row → Alike row row' → ChoicesAs before xs row'
choices_as {row' = row'} no_choices h = record { base = row'; other = no_items; alike = h; choices = no_choices; same = refl }
choices_as (value_choice c) (alike_upto {e' = e'} h d) =
    let r = choices_as c h in
    record { base = r.base; other = r.other ▸ single e'; alike = r.alike; choices = value_choice r.choices; same = ap₂ (λ xs t. xs ▸ single t) r.same d }
choices_as (range_choice c) (alike_upto {e' = high'} (alike_upto {e' = low'} h d) d') =
    let r = choices_as c h in
    record { base = r.base; other = r.other ▸ range low' high'; alike = r.alike; choices = range_choice r.choices; same = ap₂ (λ xs x. xs ▸ x) r.same (ap₂ range d d') }
choices_as (text_choice {xs = xs} {p = p} {c = c} {d = d} {t = t} k) (alike_word (alike_word {p' = p'} h)) =
    let r = choices_as k h in
    record { base = r.base; other = with_characters p' (c ∷ d ∷ t) r.other; alike = r.alike; choices = text_choice r.choices; same = characters_same p p' (c ∷ d ∷ t) xs r.other r.same }

-- the items of STRING
quoted_same : (p p' : Place) (t : List ℕ) → IsSameTree (quoted p' t) (quoted p t)
quoted_same p p' [] = refl
quoted_same p p' (c ∷ []) = refl
quoted_same p p' (c ∷ d ∷ t) = refl

record TextsAs (es : Trees) (row : Row) : Type 0 where
  place : Place
  other : Trees
  texts : Texts place other row
  same : trees_anywhere other ≡ trees_anywhere es

texts_as : {p : Place} {row row' : Row} {es : Trees} → Texts p es row → Alike row row' → TextsAs es row'
texts_as (first_text {r = r} {c = c} {t = t}) (alike_word (alike_word {p' = r'} (alike_word (alike_word {p' = p'} alike_begin)))) =
    record { place = p'; other = no_trees ▷ quoted r' (c ∷ t); texts = first_text; same = ap (λ e. no_trees ▷ e) (quoted_same r r' (c ∷ t)) }
texts_as first_value (alike_unquoted {e' = e'} (alike_word (alike_word {p' = p'} alike_begin)) d) = record { place = p'; other = no_trees ▷ e'; texts = first_value; same = ap (λ e. no_trees ▷ e) d }
texts_as (next_text {c = c} {d = d} {t = t} k) (alike_word (alike_word {p' = r'} h)) =
    let a = texts_as k h in
    record { place = a.place; other = a.other ▷ node r' (Str (c ∷ d ∷ t)); texts = next_text a.texts; same = ap (λ es. es ▷ node anywhere (Str (c ∷ d ∷ t))) a.same }
texts_as (next_value k) (alike_upto {e' = e'} h d) =
    let a = texts_as k h in
    record { place = a.place; other = a.other ▷ e'; texts = next_value a.texts; same = ap₂ (λ es e. es ▷ e) a.same d }

-- the form of a row that is alike
pub record FormsAs (s : Setting) (e : Tree) (row : Row) : Type 0 where
  pub other : Tree
  pub forms : Forms s other row
  pub same : IsSameTree other e

read_as : {s : Setting} {x : Access} {v : Variable} {row : Row} → IsTrue (is_value s) → VariablesAs s begin x v row → FormsAs s (node (place_of v) (Var v)) row
read_as {s = s} {x = x} {v = v} {row = row} is r = go r.base r.alike r.variables
  where
    go : (base : Row) → Alike begin base → Variables s base x r.other row → FormsAs s (node (place_of v) (Var v)) row
    go begin alike_begin y = record { other = node (place_of r.other) (Var r.other); forms = variable is y; same = ap (λ w. node anywhere (Var w)) r.same }
    go (_ ▹ _) k y = elim k [ ]

changed_before_as : {s : Setting} {p : Place} {b a : ℕ} {x : Access} {v : Variable} {row : Row} → IsTrue (is_written x) → VariablesAs s (begin ▹ word p (changes b a)) x v row → FormsAs s (node p (Change v b)) row
changed_before_as {s = s} {p = p} {b = b} {a = a} {x = x} {v = v} {row = row} w r = go r.base r.alike r.variables
  where
    go : (base : Row) → Alike (begin ▹ word p (changes b a)) base → Variables s base x r.other row → FormsAs s (node p (Change v b)) row
    go base (alike_word {p' = p'} alike_begin) y = record { other = node p' (Change r.other b); forms = changed_before w y; same = ap (λ u. node anywhere (Change u b)) r.same }

changed_by_as : {s : Setting} {p : Place} {w : Lexeme} {o : Prefix} {k : ℕ} {x : Access} {v : Variable} {row : Row} → IsTrue (not (is_value s)) → prefix_of w ≡ Some o → effect_of o ≡ Some k → IsTrue (is_written x) → VariablesAs s (begin ▹ word p w) x v row → FormsAs s (node p (Change v k)) row
changed_by_as {s = s} {p = p} {w = w} {k = k} {x = x} {v = v} {row = row} a e f h r = go r.base r.alike r.variables
  where
    go : (base : Row) → Alike (begin ▹ word p w) base → Variables s base x r.other row → FormsAs s (node p (Change v k)) row
    go base (alike_word {p' = p'} alike_begin) y = record { other = node p' (Change r.other k); forms = changed_by a e f h y; same = ap (λ u. node anywhere (Change u k)) r.same }

changed_after_as : {s : Setting} {p p' : Place} {b a : ℕ} {x : Access} {v : Variable} {row : Row} → IsTrue (is_written x) → VariablesAs s begin x v row → FormsAs s (node p (Change v a)) (row ▹ word p' (changes b a))
changed_after_as {s = s} {p = p} {p' = p'} {b = b} {a = a} {x = x} {v = v} {row = row} w r = go r.base r.alike r.variables
  where
    go : (base : Row) → Alike begin base → Variables s base x r.other row → FormsAs s (node p (Change v a)) (row ▹ word p' (changes b a))
    go begin alike_begin y = record { other = node p' (Change r.other a); forms = changed_after w y; same = ap (λ u. node anywhere (Change u a)) r.same }
    go (_ ▹ _) k y = elim k [ ]

address_as : {s : Setting} {p : Place} {v : Variable} {row : Row} → IsTrue (is_value s) → VariablesAs s (begin ▹ word p address) memory v row → FormsAs s (node p (Address v)) row
address_as {s = s} {p = p} {v = v} {row = row} is r = go r.base r.alike r.variables
  where
    go : (base : Row) → Alike (begin ▹ word p address) base → Variables s base memory r.other row → FormsAs s (node p (Address v)) row
    go base (alike_word {p' = p'} alike_begin) y = record { other = node p' (Address r.other); forms = address_of is y; same = ap (λ u. node anywhere (Address u)) r.same }

plain_call_as : {s : Setting} {n : List ℕ} {p q : Place} {es : Trees} {e e' : Tree} {row : Row} → ArgumentsAs (begin ▹ word p (name n) ▹ word q (mark left_parenthesis)) es row → IsSameTree e' e → FormsAs s (node p (Call false None no_index n p (es ▷ e))) (row ▹ upto e' right_parenthesis)
plain_call_as {s = s} {n = n} {p = p} {q = q} {es = es} {e = e} {e' = e'} {row = row} r d = go r.base r.alike r.arguments
  where
    go : (base : Row) → Alike (begin ▹ word p (name n) ▹ word q (mark left_parenthesis)) base → Arguments base r.other row → FormsAs s (node p (Call false None no_index n p (es ▷ e))) (row ▹ upto e' right_parenthesis)
    go base (alike_word (alike_word {p' = p'} alike_begin)) a =
        record { other = node p' (Call false None no_index n p' (r.other ▷ e')); forms = plain_call a; same = ap₂ (λ ts t. node anywhere (Call false None no_index n anywhere (ts ▷ t))) r.same d }

full_call_as : {s s' : Setting} {h : Head} {q : Place} {es : Trees} {e' : Tree} {row row' : Row} (e : Tree) → Fits s s' → Heads s h row → ArgumentsAs (row ▹ word q (mark left_parenthesis)) es row' → IsSameTree e' e → FormsAs s' (applied h (es ▷ e)) (row' ▹ upto e' right_parenthesis)
full_call_as {s' = s'} {h = h} {q = q} {es = es} {e' = e'} {row = row} {row' = row'} e f y r d = go r.base r.alike r.arguments
  where
    go : (base : Row) → Alike (row ▹ word q (mark left_parenthesis)) base → Arguments base r.other row' → FormsAs s' (applied h (es ▷ e)) (row' ▹ upto e' right_parenthesis)
    go base (alike_word k) a =
        let z = heads_as f y k in
        record { other = applied z.other (r.other ▷ e'); forms = full_call z.heads a; same = z.same (es ▷ e) (r.other ▷ e') (ap₂ (λ ts t. ts ▷ t) r.same d) }

look_value_as : {s : Setting} {k : ℕ} {p q : Place} {x e e' : Tree} {xs : Items} {row : Row} → IsTrue (is_value s) → ChoicesAs (begin ▹ word p (look k) ▹ word q (mark left_parenthesis) ▹ upto x colon) xs row → IsSameTree e' e → FormsAs s (node p (Look k x (xs ▸ single e))) (row ▹ upto e' right_parenthesis)
look_value_as {s = s} {k = k} {p = p} {q = q} {x = x} {e = e} {e' = e'} {xs = xs} {row = row} is r d = go r.base r.alike r.choices
  where
    go : (base : Row) → Alike (begin ▹ word p (look k) ▹ word q (mark left_parenthesis) ▹ upto x colon) base → Choices base r.other row → FormsAs s (node p (Look k x (xs ▸ single e))) (row ▹ upto e' right_parenthesis)
    go base (alike_upto {e' = x'} (alike_word (alike_word {p' = p'} alike_begin)) dx) c =
        record { other = node p' (Look k x' (r.other ▸ single e')); forms = look_value is c; same = ap₂ (λ t ys. node anywhere (Look k t ys)) dx (ap₂ (λ ys t. ys ▸ single t) r.same d) }

look_range_as : {s : Setting} {k : ℕ} {p q : Place} {x low low' high high' : Tree} {xs : Items} {row : Row} → IsTrue (is_value s) → ChoicesAs (begin ▹ word p (look k) ▹ word q (mark left_parenthesis) ▹ upto x colon) xs row → IsSameTree low' low → IsSameTree high' high → FormsAs s (node p (Look k x (xs ▸ range low high))) (row ▹ upto low' dot_dot ▹ upto high' right_parenthesis)
look_range_as {s = s} {k = k} {p = p} {q = q} {x = x} {low = low} {low' = low'} {high = high} {high' = high'} {xs = xs} {row = row} is r d d' = go r.base r.alike r.choices
  where
    go : (base : Row) → Alike (begin ▹ word p (look k) ▹ word q (mark left_parenthesis) ▹ upto x colon) base → Choices base r.other row → FormsAs s (node p (Look k x (xs ▸ range low high))) (row ▹ upto low' dot_dot ▹ upto high' right_parenthesis)
    go base (alike_upto {e' = x'} (alike_word (alike_word {p' = p'} alike_begin)) dx) c =
        record { other = node p' (Look k x' (r.other ▸ range low' high')); forms = look_range is c; same = ap₂ (λ t ys. node anywhere (Look k t ys)) dx (ap₂ (λ ys y. ys ▸ y) r.same (ap₂ range d d')) }

look_text_as : {s : Setting} {k : ℕ} {p q r' o' : Place} {x : Tree} {c d : ℕ} {t : List ℕ} {xs : Items} {row : Row} (r : Place) → IsTrue (is_value s) → ChoicesAs (begin ▹ word p (look k) ▹ word q (mark left_parenthesis) ▹ upto x colon) xs row
    → FormsAs s (node p (Look k x (with_characters r (c ∷ d ∷ t) xs))) (row ▹ word r' (string (c ∷ d ∷ t)) ▹ word o' (mark right_parenthesis))
look_text_as {s = s} {k = k} {p = p} {q = q} {r' = r'} {o' = o'} {x = x} {c = c} {d = d} {t = t} {xs = xs} {row = row} r is a = go a.base a.alike a.choices
  where
    go : (base : Row) → Alike (begin ▹ word p (look k) ▹ word q (mark left_parenthesis) ▹ upto x colon) base → Choices base a.other row → FormsAs s (node p (Look k x (with_characters r (c ∷ d ∷ t) xs))) (row ▹ word r' (string (c ∷ d ∷ t)) ▹ word o' (mark right_parenthesis))
    go base (alike_upto {e' = x'} (alike_word (alike_word {p' = p'} alike_begin)) dx) b =
        record { other = node p' (Look k x' (with_characters r' (c ∷ d ∷ t) a.other)); forms = look_text is b; same = ap₂ (λ u ys. node anywhere (Look k u ys)) dx (characters_same r r' (c ∷ d ∷ t) xs a.other a.same) }

pub forms_as : {s s' : Setting} {e : Tree} {row row' : Row} → Fits s s' → Forms s e row → Alike row row' → FormsAs s' e row'
forms_as f (a_number {n = n} v) (alike_word {p' = p'} alike_begin) = record { other = node p' (Number n); forms = a_number (value_too f v); same = refl }
forms_as f (a_character {c = c} v) (alike_word {p' = p'} alike_begin) = record { other = node p' (Number c); forms = a_character (value_too f v); same = refl }
forms_as f (the_place d) (alike_word {p' = p'} alike_begin) = record { other = node p' Here; forms = the_place (in_dat_too f d); same = refl }
forms_as f (parentheses v) (alike_upto {e' = e'} (alike_word alike_begin) d) = record { other = e'; forms = parentheses (value_too f v); same = d }
forms_as f (variable v y) h = read_as (value_too f v) (variables_as f y h)
forms_as f (name_alone {n = n} a) (alike_word {p' = p'} alike_begin) = record { other = node p' (Var (Named n no_index p')); forms = name_alone (action_too f a); same = refl }
forms_as f (changed_by a e k w y) h = changed_by_as (action_too f a) e k w (variables_as f y h)
forms_as f (changed_before w y) h = changed_before_as w (variables_as f y h)
forms_as f (changed_after w y) (alike_word h) = changed_after_as w (variables_as f y h)
forms_as f (address_of v y) h = address_as (value_too f v) (variables_as f y h)
forms_as f (plain_call a) (alike_upto h d) = plain_call_as (arguments_as a h) d
forms_as f (bare_call y) h =
    let r = heads_as f y h in
    record { other = applied r.other no_trees; forms = bare_call r.heads; same = r.same no_trees no_trees refl }
forms_as f (full_call {e = e} y a) (alike_upto h d) = full_call_as e f y (arguments_as a h) d
forms_as f (object_constant {n = n} {m = m} v) (alike_word {p' = q'} (alike_word (alike_word {p' = p'} alike_begin))) = record { other = node p' (ObjConst n m q'); forms = object_constant (value_too f v); same = refl }
forms_as f (a_value {k = k}) (alike_word {p' = p'} alike_begin) = record { other = node p' (Built k no_trees); forms = a_value; same = refl }
forms_as f (a_string {c = c} {t = t} v) (alike_word (alike_word (alike_word (alike_word {p' = p'} alike_begin)))) = record { other = node p' (Str (c ∷ t)); forms = a_string (value_too f v); same = refl }
forms_as f (one_item v) (alike_unquoted {e' = e'} (alike_word (alike_word {p' = p'} alike_begin)) d) =
    record { other = node p' (Strings (no_trees ▷ e')); forms = one_item (value_too f v); same = ap (λ t. node anywhere (Strings (no_trees ▷ t))) d }
forms_as f (items_text {c = c} {d = d} {t = t} v k) (alike_word (alike_word {p' = r'} h)) =
    let a = texts_as k h in
    record { other = node a.place (Strings (a.other ▷ node r' (Str (c ∷ d ∷ t)))); forms = items_text (value_too f v) a.texts; same = ap (λ es. node anywhere (Strings (es ▷ node anywhere (Str (c ∷ d ∷ t))))) a.same }
forms_as f (items_value v k) (alike_upto {e' = e'} h d) =
    let a = texts_as k h in
    record { other = node a.place (Strings (a.other ▷ e')); forms = items_value (value_too f v) a.texts; same = ap₂ (λ es e. node anywhere (Strings (es ▷ e))) a.same d }
forms_as f (a_constant v) (alike_upto {e' = e'} (alike_word (alike_word {p' = p'} alike_begin)) d) =
    record { other = node p' (Built 0 (no_trees ▷ e')); forms = a_constant (value_too f v); same = ap (λ t. node anywhere (Built 0 (no_trees ▷ t))) d }
forms_as f (look_value v c) (alike_upto h d) = look_value_as (value_too f v) (choices_as c h) d
forms_as f (look_range v c) (alike_upto (alike_upto h d) d') = look_range_as (value_too f v) (choices_as c h) d d'
forms_as f (look_text {r = r} v c) (alike_word (alike_word h)) = look_text_as r (value_too f v) (choices_as c h)
