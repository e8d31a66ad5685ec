-- Which tokens spell which expression and which action, with all forms and levels of this project's profile of Spin
-- (Propeller Manual v1.2, "Spin Language Reference": "Operators" and the entries of the words).
--
-- A form is a row of parts: words, and whole expressions with the mark that ends each. Places are
-- those by which refusals name a form.
use Rattle.std.specs.Prelude.{◌≡◌, ℕ, ◌<◌, ◌≤◌, suc, ◌+◌, ◌-◌, ◌*◌, ◌==◌, nat_le, if◌then◌else◌, not, Bool, true, false, ◌&&◌, IsTrue, Option, Some}
use Rattle.std.specs.Prelude.{None, List, [], ◌∷◌, ◌++◌, length, take}
use Rattle.p8_tree.specs.declared.places.Place.{Place}
use Rattle.p8_tree.specs.Expressions.{Tree, node, Form, Number, Str, Strings, Here, Var, Call, Unary, Binary, Assign, Change, Address, ObjectAddress}
use Rattle.p8_tree.specs.Expressions.{ObjConst, Built, Look, Variable, Named, Part, Memory, Register, Index, no_index, index, whole, bits, single}
use Rattle.p8_tree.specs.Expressions.{range, Trees, no_trees, ◌▷◌, Items, no_items, ◌▸◌}
use Rattle.p8_grammar.specs.Lexemes.{Setting, is_value, allows_index, is_dat, inside, behind, Access, memory, is_written, has_bits, is_in, Mark}
use Rattle.p8_grammar.specs.Lexemes.{left_parenthesis, right_parenthesis, left_bracket, right_bracket, comma, colon, dot, dot_dot, hash, backslash}
use Rattle.p8_grammar.specs.Lexemes.{equal, Lexeme, number, name, method_result, string, mark, prefix_word, infix_word, sign, assigns, changes}
use Rattle.p8_grammar.specs.Lexemes.{address, object_address, size, register, here, string_word, constant_word, look, value, built_in, command}
use Rattle.p8_grammar.specs.Lexemes.{Token, token, reserved, plain, name_in, is_free}

infixl 30 ◌▹◌
-- a word, or an expression up to the mark that ends it; or one that isn't a string alone
pub data Piece : Type 0 where
  word : Place → Lexeme → Piece
  upto : Tree → Mark → Piece
  unquoted : Tree → Mark → Piece

pub data Row : Type 0 where
  begin : Row
  ◌▹◌ : Row → Piece → Row

-- RESULT as a name
abbrev pub result_name : List ℕ
result_name = 82 ∷ 69 ∷ 83 ∷ 85 ∷ 76 ∷ 84 ∷ []

-- a variable's name after what stands before it, with its place; that of a local label of DAT
-- begins with its colon, behind which any word may stand
pub data Names (s : Setting) (before : Row) : List ℕ → Place → Row → Type 0 where
  plain_name : {n : List ℕ} {p : Place} → Names s before n p (before ▹ word p (name n))
  result_word : {p : Place} → Names s before result_name p (before ▹ word p method_result)
  local_label : {n : List ℕ} {p q : Place} {x : Lexeme} → IsTrue (is_dat s) → name_in x ≡ Some n →
      Names s before (58 ∷ n) p (before ▹ word p (mark colon) ▹ word q x)

-- a variable after what stands before it, and what may be done with it
pub data Variables (s : Setting) (before : Row) : Access → Variable → Row → Type 0 where
  -- name
  named : {n : List ℕ} {p : Place} {row : Row} → Names s before n p row → Variables s before memory (Named n no_index p) row
  -- name[e]
  indexed : {n : List ℕ} {p q : Place} {e : Tree} {row : Row} → IsTrue (allows_index s) → Names s before n p row →
      Variables s before memory (Named n (index e) p) (row ▹ word q (mark left_bracket) ▹ upto e right_bracket)
  -- name.BYTE
  part : {n : List ℕ} {p q r : Place} {z : ℕ} {row : Row} → Names s before n p row →
      Variables s before memory (Part n z no_index p) (row ▹ word q (mark dot) ▹ word r (size z))
  -- name.BYTE[e]
  part_indexed : {n : List ℕ} {p q r o : Place} {z : ℕ} {e : Tree} {row : Row} → IsTrue (allows_index s) → Names s before n p row →
      Variables s before memory (Part n z (index e) p) (row ▹ word q (mark dot) ▹ word r (size z) ▹ word o (mark left_bracket) ▹ upto e right_bracket)
  -- BYTE[e]
  memory_at : {p q : Place} {z : ℕ} {e : Tree} → IsTrue (allows_index s) →
      Variables s before memory (Memory z e no_index p) (before ▹ word p (size z) ▹ word q (mark left_bracket) ▹ upto e right_bracket)
  -- BYTE[e][e]
  memory_indexed : {p q r : Place} {z : ℕ} {e i : Tree} → IsTrue (allows_index s) →
      Variables s before memory (Memory z e (index i) p)
      (before ▹ word p (size z) ▹ word q (mark left_bracket) ▹ upto e right_bracket ▹ word r (mark left_bracket) ▹ upto i right_bracket)
  -- a register
  register_whole : {a : ℕ} {x : Access} {p : Place} → IsTrue (is_in s x) → Variables s before x (Register a whole p) (before ▹ word p (register a x))
  -- a register[e]
  register_bit : {a : ℕ} {x : Access} {p q : Place} {e : Tree} → IsTrue (allows_index s) → IsTrue (is_in s x) → IsTrue (has_bits x) →
      Variables s before x (Register a (bits (single e)) p) (before ▹ word p (register a x) ▹ word q (mark left_bracket) ▹ upto e right_bracket)
  -- a register[e..e]
  register_bits : {a : ℕ} {x : Access} {p q : Place} {low high : Tree} → IsTrue (allows_index s) → IsTrue (is_in s x) → IsTrue (has_bits x) →
      Variables s before x (Register a (bits (range low high)) p)
      (before ▹ word p (register a x) ▹ word q (mark left_bracket) ▹ upto low dot_dot ▹ upto high right_bracket)

abbrev pub place_of : Variable → Place
place_of (Named n i p) = p
place_of (Part n z i p) = p
place_of (Memory z e i p) = p
place_of (Register a x p) = p

-- what arguments in parentheses may follow: a method of the same object or of another, or a
-- built-in
pub data Head : Type 0 where
  -- whether it stops an abort, the object, its index, the method, the method's place, the place
  calls : Bool → Option (List ℕ) → Index → List ℕ → Place → Place → Head
  built : ℕ → Place → Head

abbrev pub applied : Head → Trees → Tree
applied (calls trap object i method q p) es = node p (Call trap object i method q es)
applied (built k p) es = node p (Built k es)

-- `\`, where the call stops an abort
abbrev pub opening : Bool → Place → Row
opening true o = begin ▹ word o (mark backslash)
opening false o = begin

-- the heads that may also stand without arguments
pub data Heads (s : Setting) : Head → Row → Type 0 where
  -- \m
  trapped : {n : List ℕ} {p : Place} (o : Place) → Heads s (calls true None no_index n p p) (opening true o ▹ word p (name n))
  -- obj.m and \obj.m
  of_object : {trap : Bool} {n m : List ℕ} {p q r : Place} (o : Place) →
      Heads s (calls trap (Some n) no_index m q p) (opening trap o ▹ word p (name n) ▹ word r (mark dot) ▹ word q (name m))
  -- obj[e].m and \obj[e].m
  of_element : {trap : Bool} {n m : List ℕ} {p q r u : Place} {e : Tree} (o : Place) → IsTrue (allows_index s) →
      Heads s (calls trap (Some n) (index e) m q p) (opening trap o ▹ word p (name n) ▹ word u (mark left_bracket) ▹ upto e right_bracket ▹ word r
      (mark dot) ▹ word q (name m))
  -- LOCKNEW and the like
  of_built_in : {k : ℕ} {p : Place} → Heads s (built k p) (begin ▹ word p (built_in k))
  -- WAITCNT and the like, as an action
  of_command : {k : ℕ} {p : Place} → IsTrue (not (is_value s)) → Heads s (built k p) (begin ▹ word p (command k))

-- arguments, each with the comma after it
pub data Arguments (before : Row) : Trees → Row → Type 0 where
  no_arguments : Arguments before no_trees before
  argument : {es : Trees} {e : Tree} {row : Row} → Arguments before es row → Arguments before (es ▷ e) (row ▹ upto e comma)

-- a string of several characters among the items of a LOOK function stands for its characters, each an item
abbrev pub with_characters : Place → List ℕ → Items → Items
with_characters p [] xs = xs
with_characters p (c ∷ t) xs = with_characters p t (xs ▸ single (node p (Number c)))

-- the items of a LOOK function, each with the comma after it
pub data Choices (before : Row) : Items → Row → Type 0 where
  no_choices : Choices before no_items before
  value_choice : {xs : Items} {e : Tree} {row : Row} → Choices before xs row → Choices before (xs ▸ single e) (row ▹ upto e comma)
  range_choice : {xs : Items} {low high : Tree} {row : Row} → Choices before xs row →
      Choices before (xs ▸ range low high) (row ▹ upto low dot_dot ▹ upto high comma)
  text_choice : {xs : Items} {p o : Place} {c d : ℕ} {t : List ℕ} {row : Row} → Choices before xs row →
      Choices before (with_characters p (c ∷ d ∷ t) xs) (row ▹ word p (string (c ∷ d ∷ t)) ▹ word o (mark comma))

-- a string as an item of STRING: one of one character is its code
abbrev pub quoted : Place → List ℕ → Tree
quoted p (c ∷ []) = node p (Number c)
quoted p t = node p (Str t)

-- STRING with this place and its items but for the last, each with the comma after it
pub data Texts (p : Place) : Trees → Row → Type 0 where
  first_text : {q r o : Place} {c : ℕ} {t : List ℕ} →
      Texts p (no_trees ▷ quoted r (c ∷ t)) (begin ▹ word p string_word ▹ word q (mark left_parenthesis) ▹ word r (string (c ∷ t)) ▹ word o (mark comma))
  first_value : {q : Place} {e : Tree} → Texts p (no_trees ▷ e) (begin ▹ word p string_word ▹ word q (mark left_parenthesis) ▹ unquoted e comma)
  next_text : {es : Trees} {r o : Place} {c d : ℕ} {t : List ℕ} {row : Row} → Texts p es row →
      Texts p (es ▷ node r (Str (c ∷ d ∷ t))) (row ▹ word r (string (c ∷ d ∷ t)) ▹ word o (mark comma))
  next_value : {es : Trees} {e : Tree} {row : Row} → Texts p es row → Texts p (es ▷ e) (row ▹ upto e comma)

-- an operator before its operand
pub data Prefix : Type 0 where
  at_object : Prefix
  unary : ℕ → ℕ → Prefix

abbrev pub prefix_of : Lexeme → Option Prefix
prefix_of object_address = Some at_object
prefix_of (prefix_word r k) = Some (unary r k)
prefix_of (sign k j) = Some (unary 1 k)
prefix_of _ = None

-- the effect byte of an operator that stands alone with the variable after it, as an action: `@@` and `+` don't
abbrev pub effect_of : Prefix → Option ℕ
effect_of at_object = None
effect_of (unary r k) = if k == 0xEC then None else Some (k - 0xA0)

-- the forms that are operands of the tightest level, and those that are actions
pub data Forms (s : Setting) : Tree → Row → Type 0 where
  a_number : {n : ℕ} {p : Place} → IsTrue (is_value s) → Forms s (node p (Number n)) (begin ▹ word p (number n))
  -- a string of one character is its code
  a_character : {c : ℕ} {p : Place} → IsTrue (is_value s) → Forms s (node p (Number c)) (begin ▹ word p (string (c ∷ [])))
  -- $
  the_place : {p : Place} → IsTrue (is_dat s) → Forms s (node p Here) (begin ▹ word p here)
  -- (e)
  parentheses : {e : Tree} {q : Place} → IsTrue (is_value s) → Forms s e (begin ▹ word q (mark left_parenthesis) ▹ upto e right_parenthesis)
  -- a variable
  variable : {x : Access} {v : Variable} {row : Row} → IsTrue (is_value s) → Variables s begin x v row → Forms s (node (place_of v) (Var v)) row
  -- a name alone, as an action: a call, which its tree doesn't tell
  name_alone : {n : List ℕ} {p : Place} → IsTrue (not (is_value s)) → Forms s (node p (Var (Named n no_index p))) (begin ▹ word p (name n))
  -- -v, !v and the like, as actions
  changed_by : {x : Access} {v : Variable} {p : Place} {w : Lexeme} {o : Prefix} {k : ℕ} {row : Row} → IsTrue (not (is_value s)) →
      prefix_of w ≡ Some o → effect_of o ≡ Some k → IsTrue (is_written x) → Variables s (begin ▹ word p w) x v row → Forms s (node p (Change v k)) row
  -- ++v, --v, ~v and ~~v
  changed_before : {x : Access} {v : Variable} {p : Place} {b a : ℕ} {row : Row} → IsTrue (is_written x) →
      Variables s (begin ▹ word p (changes b a)) x v row → Forms s (node p (Change v b)) row
  -- v++, v--, v~ and v~~
  changed_after : {x : Access} {v : Variable} {p : Place} {b a : ℕ} {row : Row} → IsTrue (is_written x) → Variables s begin x v row →
      Forms s (node p (Change v a)) (row ▹ word p (changes b a))
  -- @v
  address_of : {v : Variable} {p : Place} {row : Row} → IsTrue (is_value s) → Variables s (begin ▹ word p address) memory v row →
      Forms s (node p (Address v)) row
  -- m(e, e)
  plain_call : {n : List ℕ} {p q : Place} {es : Trees} {e : Tree} {row : Row} →
      Arguments (begin ▹ word p (name n) ▹ word q (mark left_parenthesis)) es row →
      Forms s (node p (Call false None no_index n p (es ▷ e))) (row ▹ upto e right_parenthesis)
  -- the other calls and the built-ins, without arguments
  bare_call : {h : Head} {row : Row} → Heads s h row → Forms s (applied h no_trees) row
  -- and with arguments
  full_call : {h : Head} {q : Place} {es : Trees} {e : Tree} {row row' : Row} → Heads s h row →
      Arguments (row ▹ word q (mark left_parenthesis)) es row' → Forms s (applied h (es ▷ e)) (row' ▹ upto e right_parenthesis)
  -- obj#name
  object_constant : {n m : List ℕ} {p q r : Place} → IsTrue (is_value s) →
      Forms s (node p (ObjConst n m q)) (begin ▹ word p (name n) ▹ word r (mark hash) ▹ word q (name m))
  -- COGID, CLKFREQ and CLKMODE
  a_value : {k : ℕ} {p : Place} → Forms s (node p (Built k no_trees)) (begin ▹ word p (value k))
  -- STRING("text")
  a_string : {c : ℕ} {t : List ℕ} {p q r o : Place} → IsTrue (is_value s) →
      Forms s (node p (Str (c ∷ t))) (begin ▹ word p string_word ▹ word q (mark left_parenthesis) ▹ word r (string (c ∷ t)) ▹ word o (mark right_parenthesis))
  -- STRING(e)
  one_item : {p q : Place} {e : Tree} → IsTrue (is_value s) →
      Forms s (node p (Strings (no_trees ▷ e))) (begin ▹ word p string_word ▹ word q (mark left_parenthesis) ▹ unquoted e right_parenthesis)
  -- STRING(items), by their last item
  items_text : {p r o : Place} {c d : ℕ} {t : List ℕ} {es : Trees} {row : Row} → IsTrue (is_value s) → Texts p es row →
      Forms s (node p (Strings (es ▷ node r (Str (c ∷ d ∷ t))))) (row ▹ word r (string (c ∷ d ∷ t)) ▹ word o (mark right_parenthesis))
  items_value : {p : Place} {e : Tree} {es : Trees} {row : Row} → IsTrue (is_value s) → Texts p es row →
      Forms s (node p (Strings (es ▷ e))) (row ▹ upto e right_parenthesis)
  -- CONSTANT(e)
  a_constant : {p q : Place} {e : Tree} → IsTrue (is_value s) →
      Forms s (node p (Built 0 (no_trees ▷ e))) (begin ▹ word p constant_word ▹ word q (mark left_parenthesis) ▹ upto e right_parenthesis)
  -- LOOKUP(e: items) and the like, by their last item
  look_value : {k : ℕ} {p q : Place} {x e : Tree} {xs : Items} {row : Row} → IsTrue (is_value s) →
      Choices (begin ▹ word p (look k) ▹ word q (mark left_parenthesis) ▹ upto x colon) xs row →
      Forms s (node p (Look k x (xs ▸ single e))) (row ▹ upto e right_parenthesis)
  look_range : {k : ℕ} {p q : Place} {x low high : Tree} {xs : Items} {row : Row} → IsTrue (is_value s) →
      Choices (begin ▹ word p (look k) ▹ word q (mark left_parenthesis) ▹ upto x colon) xs row →
      Forms s (node p (Look k x (xs ▸ range low high))) (row ▹ upto low dot_dot ▹ upto high right_parenthesis)
  look_text : {k : ℕ} {p q r o : Place} {x : Tree} {c d : ℕ} {t : List ℕ} {xs : Items} {row : Row} → IsTrue (is_value s) →
      Choices (begin ▹ word p (look k) ▹ word q (mark left_parenthesis) ▹ upto x colon) xs row →
      Forms s (node p (Look k x (with_characters r (c ∷ d ∷ t) xs))) (row ▹ word r (string (c ∷ d ∷ t)) ▹ word o (mark right_parenthesis))

-- The ranks of the operators, tightest first. An operator of rank r between operands has the level
-- 2 r, one before its operand the level 2 r + 1; an assignment has the level 21, and no level is
-- above 22.
--    0  @@                              6  + -
--    1  + - ^^ || |< >| !  before       7  #> <#
--    2  -> <- >> << ~> ><               8  < > <> == =< =>, and NOT before its operand
--    3  &                               9  AND
--    4  | ^                            10  OR, and := and each operator between operands with =
--    5  * ** / //

abbrev pub rank : Prefix → ℕ
rank at_object = 0
rank (unary r k) = r

abbrev pub with_prefix : Prefix → Tree → Form
with_prefix at_object e = ObjectAddress e
with_prefix (unary r k) e = Unary k e

-- the rank and the bytecode of an operator between operands
abbrev pub infix_of : Lexeme → Option (ℕ × ℕ)
infix_of (infix_word r k) = Some (r, k)
infix_of (sign k j) = Some (6, j)
infix_of _ = None

-- AND and OR, the operators between operands that are words: the `=` that makes them assignments is
-- a token of its own
abbrev pub is_boolean : ℕ → Bool
is_boolean r = nat_le 9 r && nat_le r 10

-- a string, and nothing else
abbrev pub is_string_alone : List Token → Bool
is_string_alone (token p (string t) ∷ []) = true
is_string_alone _ = false

mutual
  -- these tokens spell this tree, at a place that takes a tree of at most this level
  pub data Reads : Setting → ℕ → Tree → List Token → Type 0 where
    operand : {s : Setting} {l : ℕ} {e : Tree} {row : Row} {ts : List Token} → Forms s e row → Spells s row ts → Reads s l e ts
    -- an operator before its operand, whose level is at most the operator's
    before : {s : Setting} {l : ℕ} {x : Lexeme} {o : Prefix} {p : Place} {e : Tree} {ts : List Token} → IsTrue (is_value s) →
        prefix_of (plain x) ≡ Some o → 2 * rank o + 1 ≤ l → Reads s (2 * rank o + 1) e ts → Reads s l (node p (with_prefix o e)) (token p x ∷ ts)
    -- an operator between operands: the left one's level is at most the operator's, the right one's
    -- is below it
    between : {s : Setting} {l r k : ℕ} {p : Place} {a b : Tree} {ts us : List Token} (x : Lexeme) → IsTrue (is_value s) →
        infix_of (plain x) ≡ Some (suc r, k) → r < 10 → 2 * suc r ≤ l → Reads s (2 * suc r) a ts → Reads s (2 * r + 1) b us →
        Reads s l (node p (Binary k a b)) (ts ++ token p x ∷ us)
    -- an assignment: its right side may be one too
    assigned : {s : Setting} {l : ℕ} {o : Option ℕ} {p : Place} {v : Variable} {e : Tree} {row : Row} {ts us : List Token} (x : Access) → 21 ≤ l →
        IsTrue (is_written x) → Variables s begin x v row → Spells s row ts → Reads (behind s) 21 e us →
        Reads s l (node p (Assign v o e)) (ts ++ token p (assigns o) ∷ us)
    -- an assignment by AND or OR
    assigned_by_word : {s : Setting} {l k : ℕ} {p : Place} {v : Variable} {e : Tree} {row : Row} {ts us : List Token} (x : Access) (w : Lexeme)
        (r : ℕ) (q : Place) → 21 ≤ l → IsTrue (is_written x) → infix_of (plain w) ≡ Some (r, k) → IsTrue (is_boolean r) → Variables s begin x v row →
        Spells s row ts → Reads (behind s) 21 e us → Reads s l (node p (Assign v (Some k) e)) (ts ++ token p w ∷ token q (mark equal) ∷ us)

  -- these tokens spell this row
  pub data Spells : Setting → Row → List Token → Type 0 where
    nothing : {s : Setting} → Spells s begin []
    a_word : {s : Setting} {row : Row} {p : Place} {x : Lexeme} {ts : List Token} → Spells s row ts → Spells s (row ▹ word p x) (ts ++ token p x ∷ [])
    a_reserved_word : {s : Setting} {row : Row} {p : Place} {x : Lexeme} {ts : List Token} (n : List ℕ) → IsTrue (is_free x) → Spells s row ts →
        Spells s (row ▹ word p x) (ts ++ token p (reserved n x) ∷ [])
    an_expression : {s : Setting} {row : Row} {e : Tree} {m : Mark} {ts us : List Token} (p : Place) → Spells s row ts → Reads (inside s) 22 e us →
        Spells s (row ▹ upto e m) (ts ++ (us ++ token p (mark m) ∷ []))
    an_unquoted : {s : Setting} {row : Row} {e : Tree} {m : Mark} {ts us : List Token} (p : Place) → Spells s row ts → Reads (inside s) 22 e us →
        IsTrue (not (is_string_alone us)) → Spells s (row ▹ unquoted e m) (ts ++ (us ++ token p (mark m) ∷ []))

-- these tokens are an expression, with this tree
abbrev pub IsExpression : Setting → Tree → List Token → Type 0
IsExpression s e ts = Reads s 22 e ts

-- some expression goes on like this
abbrev pub IsFront : Setting → List Token → Type 0
IsFront s ts = (rest : List Token) × (e : Tree) × IsExpression s e (ts ++ rest)

-- n is the length of the longest run of the tokens, from the first one, that begins an expression
pub record IsLongestFront (s : Setting) (ts : List Token) (n : ℕ) : Type 0 where
  pub within : n ≤ length ts
  pub front : IsFront s (take n ts)
  pub stops : n < length ts → ¬ IsFront s (take (n + 1) ts)

-- tokens spell at most one tree
abbrev pub OneTree : Type 0
OneTree = (s : Setting) (ts : List Token) (e e' : Tree) → IsExpression s e ts → IsExpression s e' ts → e ≡ e'
