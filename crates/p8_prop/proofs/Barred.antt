-- In an expression brackets pair, and outside them stands neither a mark that parts expressions nor a word that belongs to none. So such a mark, or word,
-- behind a whole expression is no part of a longer one.
use Rattle.std.proofs.Common.{◌≡◌, ◌⊎◌, inl, inr, ◌∙◌, sym, ap, subst, refl, ℕ, zero, suc, Bool, true, false, List, [], ◌∷◌, ◌++◌, Option, Some, None}
use Rattle.std.specs.Prelude.{IsTrue, if◌then◌else◌, option_and_then}
use Rattle.p8_tree.specs.declared.places.Place.{Place}
use Rattle.p8_tree.specs.Expressions.{Tree, Variable, Trees, Items}
use Rattle.p8_grammar.specs.Lexemes.{Setting, in_method, allows_index, is_dat, inside, behind, Access, Mark, left_parenthesis, right_parenthesis}
use Rattle.p8_grammar.specs.Lexemes.{left_bracket, right_bracket, comma, colon, dot_dot, equal, Lexeme, name, string, mark, prefix_word, infix_word}
use Rattle.p8_grammar.specs.Lexemes.{sign, assigns, object_address, look, other, Token, token, reserved, plain, name_in, is_free}
use Rattle.p8_grammar.specs.Grammar.{Piece, Row, begin, ◌▹◌, word, upto, unquoted, Names, plain_name, result_word, local_label, Variables, named}
use Rattle.p8_grammar.specs.Grammar.{indexed, part, part_indexed, memory_at, memory_indexed, register_whole, register_bit, register_bits, Head}
use Rattle.p8_grammar.specs.Grammar.{opening, Heads, trapped, of_object, of_element, of_built_in, of_command, Arguments, no_arguments, argument}
use Rattle.p8_grammar.specs.Grammar.{Choices, no_choices, value_choice, range_choice, text_choice, Texts, first_text, first_value, next_text}
use Rattle.p8_grammar.specs.Grammar.{next_value, Prefix, prefix_of, infix_of, Forms, a_number, a_character, the_place, parentheses, variable}
use Rattle.p8_grammar.specs.Grammar.{name_alone, changed_by, changed_before, changed_after, address_of, plain_call, bare_call, full_call}
use Rattle.p8_grammar.specs.Grammar.{object_constant, a_value, a_string, one_item, items_text, items_value, a_constant, look_value, look_range}
use Rattle.p8_grammar.specs.Grammar.{look_text, Reads, operand, before, between, assigned, assigned_by_word, Spells, nothing, a_word, a_reserved_word}
use Rattle.p8_grammar.specs.Grammar.{an_expression, an_unquoted, IsExpression}

-- ---- how deep in brackets

-- how deep, and whether behind a colon with which a local label may begin
pub data Depth : Type 0 where
  at : ℕ → Depth
  label : ℕ → Depth

abbrev out : ℕ → Option Depth
out zero = None
out (suc n) = Some (at n)

abbrev kept : ℕ → Option Depth
kept zero = None
kept (suc n) = Some (at (suc n))

abbrev deeper : ℕ → Option Depth
deeper zero = None
deeper (suc n) = Some (at (suc (suc n)))

-- behind a mark: `dat` where a local label may stand, `index` where a bracket may stand outside all others
abbrev by_mark : Bool → Bool → ℕ → Mark → Option Depth
by_mark dat index n left_parenthesis = Some (at (suc n))
by_mark dat index n left_bracket = if index then Some (at (suc n)) else deeper n
by_mark dat index n right_parenthesis = out n
by_mark dat index n right_bracket = out n
by_mark dat index n comma = kept n
by_mark dat index n colon = if dat then Some (label n) else kept n
by_mark dat index n dot_dot = kept n
by_mark dat index n m = Some (at n)

abbrev by_word : Bool → Bool → ℕ → Lexeme → Option Depth
by_word dat index n (mark m) = by_mark dat index n m
by_word dat index n other = None
by_word dat index n (reserved m other) = None
by_word dat index n x = Some (at n)

abbrev by_label : Bool → Bool → ℕ → Lexeme → Option Depth
by_label dat index n (reserved m x) = Some (at n)
by_label dat index n x = by_word dat index n x

abbrev pub step : Bool → Bool → Depth → Lexeme → Option Depth
step dat index (at n) x = by_word dat index n x
step dat index (label n) x = by_label dat index n x

abbrev pub scan : Bool → Bool → Option Depth → List Token → Option Depth
scan dat index o [] = o
scan dat index o (token p x ∷ ts) = scan dat index (option_and_then (λ q. step dat index q x) o) ts

scan-append : (dat index : Bool) (o : Option Depth) (ts us : List Token) → scan dat index o (ts ++ us) ≡ scan dat index (scan dat index o ts) us
scan-append dat index o [] us = refl
scan-append dat index o (token p x ∷ ts) us = scan-append dat index (option_and_then (λ q. step dat index q x) o) ts us

scan-none : (dat index : Bool) (ts : List Token) → scan dat index None ts ≡ None
scan-none dat index [] = refl
scan-none dat index (token p x ∷ ts) = scan-none dat index ts

-- from there on
scan-on : (dat index : Bool) (o : Option Depth) (ts us : List Token) {r : Option Depth} → scan dat index o ts ≡ r
    → scan dat index o (ts ++ us) ≡ scan dat index r us
scan-on dat index o ts us h = scan-append dat index o ts us ∙ ap (λ (r : Option Depth). scan dat index r us) h

-- ---- a level deeper, and behind a colon

-- what is known of where this leads, if anywhere
abbrev IfSome : Option Depth → (Depth → Type 0) → Type 0
IfSome None P = Unit {0}
IfSome (Some q) P = P q

abbrev up : Depth → Depth
up (at n) = at (suc n)
up (label n) = label (suc n)

abbrev up_all : Option Depth → Option Depth
up_all None = None
up_all (Some q) = Some (up q)

-- the one leads where the other does, if that leads anywhere
abbrev Follows : Option Depth → Option Depth → Type 0
Follows a None = Unit {0}
Follows a (Some q) = a ≡ Some q

out-up : (n : ℕ) → Follows (out (suc n)) (up_all (out n))
out-up zero = tt
out-up (suc n) = refl

kept-up : (n : ℕ) → Follows (kept (suc n)) (up_all (kept n))
kept-up zero = tt
kept-up (suc n) = refl

mark-up : (dat j i : Bool) (n : ℕ) (m : Mark) → Follows (by_mark dat i (suc n) m) (up_all (by_mark dat j n m))
mark-up dat true true n left_bracket = refl
mark-up dat true false n left_bracket = refl
mark-up dat false i zero left_bracket = tt
mark-up dat false true (suc n) left_bracket = refl
mark-up dat false false (suc n) left_bracket = refl
mark-up dat j i n right_parenthesis = out-up n
mark-up dat j i n right_bracket = out-up n
mark-up dat j i n comma = kept-up n
mark-up true j i n colon = refl
mark-up false j i n colon = kept-up n
mark-up dat j i n dot_dot = kept-up n
mark-up dat j i n m = refl

word-up : (dat j i : Bool) (n : ℕ) (x : Lexeme) → Follows (by_word dat i (suc n) x) (up_all (by_word dat j n x))
word-up dat j i n (mark m) = mark-up dat j i n m
word-up dat j i n other = tt
word-up dat j i n (reserved m other) = tt
word-up dat j i n (reserved m x) = refl
word-up dat j i n x = refl

step-up : (dat j i : Bool) (q : Depth) (x : Lexeme) → Follows (step dat i (up q) x) (up_all (step dat j q x))
step-up dat j i (at n) x = word-up dat j i n x
step-up dat j i (label n) (reserved m x) = refl
step-up dat j i (label n) x = word-up dat j i n x

scan-up : (dat j i : Bool) (o o' : Option Depth) (ts : List Token) → Follows o' (up_all o) → Follows (scan dat i o' ts) (up_all (scan dat j o ts))
scan-up dat j i o o' [] h = h
scan-up dat j i None o' (token p x ∷ ts) h =
    subst (λ (r : Option Depth). Follows (scan dat i (option_and_then (λ q. step dat i q x) o') ts) (up_all r)) (sym (scan-none dat j ts)) tt
scan-up dat j i (Some q) o' (token p x ∷ ts) h =
    scan-up dat j i (step dat j q x) (option_and_then (λ q. step dat i q x) o') ts
    (subst (λ (r : Option Depth). Follows (option_and_then (λ q. step dat i q x) r) (up_all (step dat j q x))) (sym h) (step-up dat j i q x))

-- behind a colon a token stands as elsewhere
label-step : (dat index : Bool) (n : ℕ) (x : Lexeme) → Follows (step dat index (label n) x) (step dat index (at n) x)
label-step dat index n (reserved m other) = tt
label-step dat index n (reserved m x) = refl
label-step dat index n (mark m) = same (by_mark dat index n m)
  where
    same : (o : Option Depth) → Follows o o
    same None = tt
    same (Some q) = refl
label-step dat index n other = tt
label-step dat index n x = refl

scan-same : (dat index : Bool) (o o' : Option Depth) (ts : List Token) → Follows o' o → Follows (scan dat index o' ts) (scan dat index o ts)
scan-same dat index None o' ts h = subst (λ (r : Option Depth). Follows (scan dat index o' ts) r) (sym (scan-none dat index ts)) tt
scan-same dat index (Some q) o' ts h =
    subst (λ (r : Option Depth). Follows (scan dat index r ts) (scan dat index (Some q) ts)) (sym h) (same (scan dat index (Some q) ts))
  where
    same : (o : Option Depth) → Follows o o
    same None = tt
    same (Some q) = refl

label-scan : (dat index : Bool) (n : ℕ) (us : List Token) (p : Place) (x : Lexeme) {r : Depth} → scan dat index (Some (at n)) (us ++ token p x ∷ []) ≡ Some r
    → scan dat index (Some (label n)) (us ++ token p x ∷ []) ≡ Some r
label-scan dat index n [] p x {r = r} h = subst (λ (o : Option Depth). Follows (step dat index (label n) x) o) h (label-step dat index n x)
label-scan dat index n (token q y ∷ us) p x {r = r} h =
    subst (λ (o : Option Depth). Follows (scan dat index (step dat index (label n) y) (us ++ token p x ∷ [])) o) h
    (scan-same dat index (step dat index (at n) y) (step dat index (label n) y) (us ++ token p x ∷ []) (label-step dat index n y))

-- ---- rows

-- behind an expression up to a mark, which stands in brackets
abbrev up_to : Bool → Bool → Mark → Depth → Option Depth
up_to dat index m (at zero) = None
up_to dat index m (at (suc n)) = by_mark dat index (suc n) m
up_to dat index m (label zero) = None
up_to dat index m (label (suc n)) = by_mark dat index (suc n) m

abbrev part_step : Bool → Bool → Piece → Depth → Option Depth
part_step dat index (word p x) q = step dat index q x
part_step dat index (upto e m) q = up_to dat index m q
part_step dat index (unquoted e m) q = up_to dat index m q

abbrev row_depth : Bool → Bool → Row → Option Depth
row_depth dat index begin = Some (at 0)
row_depth dat index (row ▹ x) = option_and_then (part_step dat index x) (row_depth dat index row)

-- so deep is one behind a row
record IsAt (s : Setting) (row : Row) (q : Depth) : Type 0 where
  is : row_depth (is_dat s) (allows_index s) row ≡ Some q

module _ (s : Setting) where
  start : IsAt s begin (at 0)
  start = record { is = refl }

  -- one more part
  one-more : {row : Row} {q r : Depth} (x : Piece) → IsAt s row q → part_step (is_dat s) (allows_index s) x q ≡ Some r → IsAt s (row ▹ x) r
  one-more x h g = record { is = ap (λ (o : Option Depth). option_and_then (part_step (is_dat s) (allows_index s) x) o) h.is ∙ g }

  bracket : (n : ℕ) → IsTrue (allows_index s) → step (is_dat s) (allows_index s) (at n) (mark left_bracket) ≡ Some (at (suc n))
  bracket n h = ap (λ (b : Bool). if b then Some (at (suc n)) else deeper n) h

  in-brackets : {row : Row} (q : Place) (e : Tree) → IsTrue (allows_index s) → IsAt s row (at 0)
      → IsAt s (row ▹ word q (mark left_bracket) ▹ upto e right_bracket) (at 0)
  in-brackets q e i h = one-more (upto e right_bracket) (one-more (word q (mark left_bracket)) h (bracket 0 i)) refl

  name-depth : {before row : Row} {n : List ℕ} {p : Place} → Names s before n p row → IsAt s before (at 0) → IsAt s row (at 0)
  name-depth (plain_name {n = n} {p = p}) h = one-more (word p (name n)) h refl
  name-depth (result_word {p = p}) h = one-more (word p _) h refl
  name-depth (local_label {n = n} {p = p} {q = q} {x = x} d is) h =
      one-more (word q x) (one-more (word p (mark colon)) h (ap (λ (b : Bool). if b then Some (label 0) else kept 0) d)) (go x is)
    where
      go : (x : Lexeme) → name_in x ≡ Some n → step (is_dat s) (allows_index s) (label 0) x ≡ Some (at 0)
      go (name m) is = refl
      go (reserved m x) is = refl
      go x is = absurd cc

  variable-depth : {before row : Row} {x : Access} {v : Variable} → Variables s before x v row → IsAt s before (at 0) → IsAt s row (at 0)
  variable-depth (named n) h = name-depth n h
  variable-depth (indexed {q = q} {e = e} i n) h = in-brackets q e i (name-depth n h)
  variable-depth (part {q = q} {r = r} n) h = one-more (word r _) (one-more (word q _) (name-depth n h) refl) refl
  variable-depth (part_indexed {q = q} {r = r} {o = o} {e = e} i n) h = in-brackets o e i (one-more (word r _) (one-more (word q _) (name-depth n h) refl) refl)
  variable-depth (memory_at {p = p} {q = q} {e = e} i) h = in-brackets q e i (one-more (word p _) h refl)
  variable-depth (memory_indexed {p = p} {q = q} {r = r} {e = e} {i = i} j) h = in-brackets r i j (in-brackets q e j (one-more (word p _) h refl))
  variable-depth (register_whole {p = p} i) h = one-more (word p _) h refl
  variable-depth (register_bit {p = p} {q = q} {e = e} i j k) h = in-brackets q e i (one-more (word p _) h refl)
  variable-depth (register_bits {p = p} {q = q} {low = low} {high = high} i j k) h =
      one-more (upto high right_bracket)
      (one-more (upto low dot_dot) (one-more (word q (mark left_bracket)) (one-more (word p _) h refl) (bracket 0 i)) refl) refl

  opening-depth : (t : Bool) (o : Place) → IsAt s (opening t o) (at 0)
  opening-depth true o = record { is = refl }
  opening-depth false o = record { is = refl }

  head-depth : {x : Head} {row : Row} → Heads s x row → IsAt s row (at 0)
  head-depth (trapped o) = record { is = refl }
  head-depth (of_object {trap = trap} {p = p} {q = q} {r = r} o) =
      one-more (word q _) (one-more (word r _) (one-more (word p _) (opening-depth trap o) refl) refl) refl
  head-depth (of_element {trap = trap} {p = p} {q = q} {r = r} {u = u} {e = e} o i) =
      one-more (word q _) (one-more (word r _) (in-brackets u e i (one-more (word p _) (opening-depth trap o) refl)) refl) refl
  head-depth of_built_in = record { is = refl }
  head-depth (of_command d) = record { is = refl }

  arguments-depth : {before row : Row} {es : Trees} → Arguments before es row → IsAt s before (at 1) → IsAt s row (at 1)
  arguments-depth no_arguments h = h
  arguments-depth (argument {e = e} a) h = one-more (upto e comma) (arguments-depth a h) refl

  -- in one pair of brackets, perhaps behind a colon
  abbrev IsInside : Row → Type 0
  IsInside row = (IsAt s row (at 1)) ⊎ (IsAt s row (label 1))

  closed : {row : Row} {r : Depth} (e : Tree) (m : Mark) → by_mark (is_dat s) (allows_index s) 1 m ≡ Some r → IsInside row → IsAt s (row ▹ upto e m) r
  closed e m h (inl i) = one-more (upto e m) i h
  closed e m h (inr i) = one-more (upto e m) i h

  quoted-inside : {row : Row} (p : Place) (t : List ℕ) → IsInside row → IsAt s (row ▹ word p (string t)) (at 1)
  quoted-inside p t (inl i) = one-more (word p (string t)) i refl
  quoted-inside p t (inr i) = one-more (word p (string t)) i refl

  choices-depth : {before row : Row} {xs : Items} → Choices before xs row → IsInside before → IsInside row
  choices-depth no_choices h = h
  choices-depth (value_choice {e = e} c) h = inl (closed e comma refl (choices-depth c h))
  choices-depth (range_choice {low = low} {high = high} c) h = inl (one-more (upto high comma) (closed low dot_dot refl (choices-depth c h)) refl)
  choices-depth (text_choice {p = p} {o = o} c) h = inl (one-more (word o _) (quoted-inside p _ (choices-depth c h)) refl)

  texts-depth : {p : Place} {es : Trees} {row : Row} → Texts p es row → IsAt s row (at 1)
  texts-depth first_text = record { is = refl }
  texts-depth first_value = record { is = refl }
  texts-depth (next_text {r = r} {o = o} t) = one-more (word o _) (one-more (word r _) (texts-depth t) refl) refl
  texts-depth (next_value {e = e} t) = one-more (upto e comma) (texts-depth t) refl

  prefix-depth : (w : Lexeme) (o : Prefix) → prefix_of w ≡ Some o → step (is_dat s) (allows_index s) (at 0) w ≡ Some (at 0)
  prefix-depth object_address o h = refl
  prefix-depth (prefix_word r k) o h = refl
  prefix-depth (sign k j) o h = refl
  prefix-depth w o h = absurd cc

  -- what a LOOK function looks for
  looked : (k : ℕ) (p q : Place) (x : Tree) → IsInside (begin ▹ word p (look k) ▹ word q (mark left_parenthesis) ▹ upto x colon)
  looked k p q x = go (is_dat s) refl
    where
      go : (b : Bool) → is_dat s ≡ b → IsInside (begin ▹ word p (look k) ▹ word q (mark left_parenthesis) ▹ upto x colon)
      go true h = inr (record { is = ap (λ (b : Bool). if b then Some (label 1) else Some (at 1)) h })
      go false h = inl (record { is = ap (λ (b : Bool). if b then Some (label 1) else Some (at 1)) h })

  form-depth : {e : Tree} {row : Row} → Forms s e row → IsAt s row (at 0)
  form-depth (a_number d) = record { is = refl }
  form-depth (a_character d) = record { is = refl }
  form-depth (the_place d) = record { is = refl }
  form-depth (parentheses d) = record { is = refl }
  form-depth (variable d v) = variable-depth v (record { is = refl })
  form-depth (name_alone d) = record { is = refl }
  form-depth (changed_by {p = p} {w = w} {o = o} d is k written v) = variable-depth v (one-more (word p w) start (prefix-depth w o is))
  form-depth (changed_before {p = p} written v) = variable-depth v (record { is = refl })
  form-depth (changed_after {p = p} written v) = one-more (word p _) (variable-depth v (record { is = refl })) refl
  form-depth (address_of {p = p} d v) = variable-depth v (record { is = refl })
  form-depth (plain_call {e = e} a) = one-more (upto e right_parenthesis) (arguments-depth a (record { is = refl })) refl
  form-depth (bare_call h) = head-depth h
  form-depth (full_call {q = q} {e = e} h a) =
      one-more (upto e right_parenthesis) (arguments-depth a (one-more (word q (mark left_parenthesis)) (head-depth h) refl)) refl
  form-depth (object_constant d) = record { is = refl }
  form-depth a_value = record { is = refl }
  form-depth (a_string d) = record { is = refl }
  form-depth (one_item d) = record { is = refl }
  form-depth (items_text {r = r} {o = o} d t) = one-more (word o _) (one-more (word r _) (texts-depth t) refl) refl
  form-depth (items_value {e = e} d t) = one-more (upto e right_parenthesis) (texts-depth t) refl
  form-depth (a_constant d) = record { is = refl }
  form-depth (look_value {k = k} {p = p} {q = q} {x = x} {e = e} d c) = closed e right_parenthesis refl (choices-depth c (looked k p q x))
  form-depth (look_range {k = k} {p = p} {q = q} {x = x} {low = low} {high = high} d c) =
      one-more (upto high right_parenthesis) (closed low dot_dot refl (choices-depth c (looked k p q x))) refl
  form-depth (look_text {k = k} {p = p} {q = q} {r = r} {o = o} {x = x} d c) = one-more (word o _) (quoted-inside r _ (choices-depth c (looked k p q x))) refl

-- ---- expressions

abbrev pub depth-of : Setting → List Token → Option Depth
depth-of s ts = scan (is_dat s) (allows_index s) (Some (at 0)) ts

dat-inside : (s : Setting) → is_dat (inside s) ≡ is_dat s
dat-inside in_method = refl
dat-inside s = refl

behind-same : (s : Setting) (ts : List Token) → depth-of (behind s) ts ≡ depth-of s ts
behind-same in_method ts = refl
behind-same s ts = refl

-- a reserved word is as deep as what it is
free-step : (dat index : Bool) (q : Depth) (n : List ℕ) (x : Lexeme) {r : Depth} → IsTrue (is_free x) → step dat index q x ≡ Some r
    → step dat index q (reserved n x) ≡ Some r
free-step dat index (at m) n (mark k) f h = absurd cc
free-step dat index (at m) n (reserved k x) f h = absurd cc
free-step dat index (at m) n other f h = absurd cc
free-step dat index (at m) n x f h = h
free-step dat index (label m) n (mark k) f h = absurd cc
free-step dat index (label m) n (reserved k x) f h = absurd cc
free-step dat index (label m) n other f h = absurd cc
free-step dat index (label m) n x f h = h

-- an operator, reserved or not
prefix-step : (dat index : Bool) (x : Lexeme) (o : Prefix) → prefix_of (plain x) ≡ Some o → step dat index (at 0) x ≡ Some (at 0)
prefix-step dat index (reserved n object_address) o h = refl
prefix-step dat index (reserved n (prefix_word r k)) o h = refl
prefix-step dat index (reserved n (sign k j)) o h = refl
prefix-step dat index (reserved n x) o h = absurd cc
prefix-step dat index object_address o h = refl
prefix-step dat index (prefix_word r k) o h = refl
prefix-step dat index (sign k j) o h = refl
prefix-step dat index x o h = absurd cc

infix-step : (dat index : Bool) (x : Lexeme) (k : ℕ × ℕ) → infix_of (plain x) ≡ Some k → step dat index (at 0) x ≡ Some (at 0)
infix-step dat index (reserved n (infix_word r k)) o h = refl
infix-step dat index (reserved n (sign k j)) o h = refl
infix-step dat index (reserved n x) o h = absurd cc
infix-step dat index (infix_word r k) o h = refl
infix-step dat index (sign k j) o h = refl
infix-step dat index x o h = absurd cc

-- behind a whole expression and one more token
one-token : (dat index : Bool) (o : Option Depth) (ts : List Token) (p : Place) (x : Lexeme) {q : Depth} {r : Option Depth} → scan dat index o ts ≡ Some q
    → step dat index q x ≡ r → scan dat index o (ts ++ token p x ∷ []) ≡ r
one-token dat index o ts p x h g = scan-on dat index o ts (token p x ∷ []) h ∙ g

-- an expression at any depth
higher : (s : Setting) (n : ℕ) (us : List Token) → depth-of (inside s) us ≡ Some (at 0)
    → scan (is_dat s) (allows_index s) (Some (at (suc n))) us ≡ Some (at (suc n))
higher s zero us d =
    subst (λ (o : Option Depth). Follows (scan (is_dat s) (allows_index s) (Some (at 1)) us) (up_all o))
    (subst (λ (b : Bool). scan b (allows_index (inside s)) (Some (at 0)) us ≡ Some (at 0)) (dat-inside s) d)
    (scan-up (is_dat s) (allows_index (inside s)) (allows_index s) (Some (at 0)) (Some (at 1)) us refl)
higher s (suc n) us d =
    subst (λ (o : Option Depth). Follows (scan (is_dat s) (allows_index s) (Some (at (suc (suc n)))) us) (up_all o)) (higher s n us d)
    (scan-up (is_dat s) (allows_index s) (allows_index s) (Some (at (suc n))) (Some (at (suc (suc n)))) us refl)

-- an expression in brackets, up to its mark
in-hole : (s : Setting) (q : Depth) (us : List Token) (p : Place) (m : Mark) {r : Depth} → up_to (is_dat s) (allows_index s) m q ≡ Some r
    → depth-of (inside s) us ≡ Some (at 0) → scan (is_dat s) (allows_index s) (Some q) (us ++ token p (mark m) ∷ []) ≡ Some r
in-hole s (at zero) us p m h d = absurd cc
in-hole s (label zero) us p m h d = absurd cc
in-hole s (at (suc n)) us p m h d = one-token (is_dat s) (allows_index s) (Some (at (suc n))) us p (mark m) (higher s n us d) h
in-hole s (label (suc n)) us p m h d =
    label-scan (is_dat s) (allows_index s) (suc n) us p (mark m) (one-token (is_dat s) (allows_index s) (Some (at (suc n))) us p (mark m) (higher s n us d) h)

there : (o : Option Depth) (f : Depth → Option Depth) {q : Depth} → option_and_then f o ≡ Some q → (r : Depth) × (o ≡ Some r) × (f r ≡ Some q)
there None f h = absurd cc
there (Some r) f h = (r, refl, h)

mutual
  reads-depth : (s : Setting) {l : ℕ} {e : Tree} {ts : List Token} → Reads s l e ts → depth-of s ts ≡ Some (at 0)
  reads-depth s (operand f spells) = spells-depth s spells (form-depth s f).is
  reads-depth s (before {x = x} {o = o} {ts = ts} d is le r) =
      ap (λ (q : Option Depth). scan (is_dat s) (allows_index s) q ts) (prefix-step (is_dat s) (allows_index s) x o is) ∙ reads-depth s r
  reads-depth s (between {p = p} {ts = ts} {us = us} x d is lt le a b) =
      scan-on (is_dat s) (allows_index s) (Some (at 0)) ts (token p x ∷ us) (reads-depth s a)
      ∙ (ap (λ (q : Option Depth). scan (is_dat s) (allows_index s) q us) (infix-step (is_dat s) (allows_index s) x _ is) ∙ reads-depth s b)
  reads-depth s (assigned {o = o} {p = p} {ts = ts} {us = us} x le written v spells r) =
      scan-on (is_dat s) (allows_index s) (Some (at 0)) ts (token p (assigns o) ∷ us) (spells-depth s spells (variable-depth s v (start s)).is)
      ∙ (sym (behind-same s us) ∙ reads-depth (behind s) r)
  reads-depth s (assigned_by_word {p = p} {ts = ts} {us = us} x w k q le written is b v spells r) =
      scan-on (is_dat s) (allows_index s) (Some (at 0)) ts (token p w ∷ token q (mark equal) ∷ us) (spells-depth s spells (variable-depth s v (start s)).is)
      ∙ (ap (λ (o : Option Depth). scan (is_dat s) (allows_index s) o (token q (mark equal) ∷ us)) (infix-step (is_dat s) (allows_index s) w _ is)
      ∙ (sym (behind-same s us) ∙ reads-depth (behind s) r))

  spells-depth : (s : Setting) {row : Row} {ts : List Token} → Spells s row ts → {q : Depth} → row_depth (is_dat s) (allows_index s) row ≡ Some q
      → depth-of s ts ≡ Some q
  spells-depth s nothing h = h
  spells-depth s (a_word {row = row} {p = p} {x = x} {ts = ts} spells) h =
      let it = there (row_depth (is_dat s) (allows_index s) row) _ h in
      one-token (is_dat s) (allows_index s) (Some (at 0)) ts p x (spells-depth s spells it.1) it.2
  spells-depth s (a_reserved_word {row = row} {p = p} {x = x} {ts = ts} n free spells) h =
      let it = there (row_depth (is_dat s) (allows_index s) row) _ h in
      one-token (is_dat s) (allows_index s) (Some (at 0)) ts p (reserved n x) (spells-depth s spells it.1)
      (free-step (is_dat s) (allows_index s) it.0 n x free it.2)
  spells-depth s (an_expression {row = row} {m = m} {ts = ts} {us = us} p spells r) h =
      let it = there (row_depth (is_dat s) (allows_index s) row) _ h in
      scan-on (is_dat s) (allows_index s) (Some (at 0)) ts (us ++ token p (mark m) ∷ []) (spells-depth s spells it.1)
      ∙ in-hole s it.0 us p m it.2 (reads-depth (inside s) r)
  spells-depth s (an_unquoted {row = row} {m = m} {ts = ts} {us = us} p spells r apart) h =
      let it = there (row_depth (is_dat s) (allows_index s) row) _ h in
      scan-on (is_dat s) (allows_index s) (Some (at 0)) ts (us ++ token p (mark m) ∷ []) (spells-depth s spells it.1)
      ∙ in-hole s it.0 us p m it.2 (reads-depth (inside s) r)

-- ---- what an expression neither begins nor goes on with

-- what stands outside brackets in no expression
abbrev pub Bars : Setting → Lexeme → Type 0
Bars s x = step (is_dat s) (allows_index s) (at 0) x ≡ None

-- settings that are alike to brackets
abbrev pub Alike : Setting → Setting → Type 0
Alike s s' = (is_dat s ≡ is_dat s') × (allows_index s ≡ allows_index s')

barred : (s : Setting) {e : Tree} (ts us : List Token) (p : Place) (x : Lexeme) → scan (is_dat s) (allows_index s) (Some (at 0)) ts ≡ Some (at 0)
    → Bars s x → IsExpression s e (ts ++ token p x ∷ us) → ⊥
barred s ts us p x h b r =
    let none : depth-of s (ts ++ token p x ∷ us) ≡ None =
    scan-on (is_dat s) (allows_index s) (Some (at 0)) ts (token p x ∷ us) h
    ∙ (ap (λ (q : Option Depth). scan (is_dat s) (allows_index s) q us) b ∙ scan-none (is_dat s) (allows_index s) us) in
    let never = sym none ∙ reads-depth s r in cc

pub begins-none : (s : Setting) {e : Tree} (us : List Token) (p : Place) (x : Lexeme) → Bars s x → IsExpression s e (token p x ∷ us) → ⊥
begins-none s us p x b r = barred s [] us p x refl b r

pub no-longer : (s s' : Setting) {e e' : Tree} (ts us : List Token) (p : Place) (x : Lexeme) → Alike s s' → Bars s' x → IsExpression s e ts
    → IsExpression s' e' (ts ++ token p x ∷ us) → ⊥
no-longer s s' ts us p x alike b r r' =
    barred s' ts us p x
    (ap (λ (index : Bool). scan (is_dat s') index (Some (at 0)) ts) (sym alike.1)
    ∙ ap (λ (dat : Bool). scan dat (allows_index s) (Some (at 0)) ts) (sym alike.0) ∙ reads-depth s r)
    b r'
