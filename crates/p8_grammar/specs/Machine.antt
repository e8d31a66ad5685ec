-- internal: a reader of expressions that takes a word at a time, with what is begun on a stack, for the proofs.
use Rattle.std.specs.Prelude.{ℕ, suc, zero, ◌+◌, ◌*◌, nat_lt, nat_le, if◌then◌else◌, Bool, true, false, not, ◌&&◌, ◌||◌, Option, Some, None}
use Rattle.std.specs.Prelude.{option_and_then, List, [], ◌∷◌}
use Rattle.p8_tree.specs.declared.places.Place.{Place}
use Rattle.p8_tree.specs.Expressions.{Tree, node, Number, Str, Strings, Here, Var, Binary, Assign, Change, Address, ObjConst, Built, Look, Variable}
use Rattle.p8_tree.specs.Expressions.{Named, Part, Memory, Register, Index, no_index, index, whole, bits, single, range, Trees, no_trees, ◌▷◌, Items}
use Rattle.p8_tree.specs.Expressions.{no_items, ◌▸◌}
use Rattle.p8_grammar.specs.Lexemes.{Setting, is_value, allows_index, is_dat, inside, behind, Access, memory, is_written, has_bits, is_in, Mark}
use Rattle.p8_grammar.specs.Lexemes.{left_parenthesis, right_parenthesis, left_bracket, right_bracket, comma, colon, dot, dot_dot, hash, backslash}
use Rattle.p8_grammar.specs.Lexemes.{equal, Lexeme, number, name, method_result, string, mark, prefix_word, sign, assigns, changes}
use Rattle.p8_grammar.specs.Lexemes.{address, size, register, here, string_word, constant_word, look, value, built_in, command}
use Rattle.p8_grammar.specs.Lexemes.{other, Token, token, reserved, is_free}
use Rattle.p8_grammar.specs.Grammar.{result_name, place_of, with_characters, quoted, Head, calls, built, applied, Prefix, unary, rank, with_prefix}
use Rattle.p8_grammar.specs.Grammar.{prefix_of, effect_of, infix_of, is_boolean}

-- what a variable is read for: its value, its address, or a change that stands before it
pub data Use : Type 0 where
  reading : Use
  addressing : Place → Use
  changing : Place → ℕ → Use

abbrev pub used : Use → Variable → Tree
used reading v = node (place_of v) (Var v)
used (addressing p) v = node p (Address v)
used (changing p b) v = node p (Change v b)

abbrev pub takes : Use → Access → Bool
takes reading x = true
takes (addressing p) memory = true
takes (addressing p) _ = false
takes (changing p b) x = is_written x

-- what has been read of a form, where a word comes next or the form is whole
pub data Shape : Type 0 where
  using : Use → Shape
  coloned : Use → Place → Shape
  sized : Use → Place → ℕ → Shape
  -- a name, which may be a method's or an object's or may not
  named : Bool → Use → Place → List ℕ → Shape
  -- such a name with an index
  element : Place → List ℕ → Tree → Shape
  dotted : Bool → Use → Place → List ℕ → Shape
  -- a variable that is no name alone
  part : Use → Variable → Access → Shape
  trapping : Shape
  trapped_element : Place → List ℕ → Tree → Shape
  object_dot : Bool → Place → List ℕ → Index → Shape
  headed : Head → Shape
  hashed : Place → List ℕ → Shape
  -- STRING, CONSTANT or a LOOK function, before its parenthesis
  opening : Place → Lexeme → Shape
  -- after STRING's parenthesis; a string where its first item comes; one of several characters among its items, and among those of a LOOK function
  string_opened : Place → Shape
  string_read : Place → Place → List ℕ → Shape
  strings_read : Place → Trees → Shape
  choices_read : Place → ℕ → Tree → Items → Shape
  done : Tree → Shape

-- what has been read of a form, where an expression comes next
pub data Hole : Type 0 where
  parenthesis : Hole
  name_index : Bool → Use → Place → List ℕ → Hole
  part_index : Use → Place → List ℕ → ℕ → Hole
  memory_address : Use → Place → ℕ → Hole
  memory_index : Use → Place → ℕ → Tree → Hole
  first_bit : Use → Place → ℕ → Access → Hole
  last_bit : Use → Place → ℕ → Access → Tree → Hole
  trapped_index : Place → List ℕ → Hole
  argument_of : Head → Trees → Hole
  -- the first item of STRING, which is no string alone, and a later one
  first_item : Place → Hole
  item_of : Place → Trees → Hole
  constant_of : Place → Hole
  look_for : Place → ℕ → Hole
  choice_of : Place → ℕ → Tree → Items → Hole
  choice_to : Place → ℕ → Tree → Items → Tree → Hole

pub data Next : Type 0 where
  stays : Shape → Next
  opens : Hole → Next

abbrev pub only_if : Bool → Next → Option Next
only_if b n = if b then Some n else None

abbrev pub fresh : Shape
fresh = using reading

-- the tree of a form that is whole
abbrev pub tree : Shape → Option Tree
tree (named b u p n) = Some (used u (Named n no_index p))
tree (element p n e) = Some (used reading (Named n (index e) p))
tree (part u v x) = Some (used u v)
tree (headed h) = Some (applied h no_trees)
tree (done e) = Some e
tree _ = None

abbrev pub if_reading : Use → Bool → Variable → Option Variable
if_reading reading b v = if b then Some v else None
if_reading _ b v = None

-- the variable of a form that is one, where it may be written
abbrev pub target : Shape → Option Variable
target (named b u p n) = if_reading u true (Named n no_index p)
target (element p n e) = Some (Named n (index e) p)
target (part u v x) = if_reading u (is_written x) v
target _ = None

-- a name alone
abbrev pub is_plain : Shape → Bool
is_plain (named true reading p n) = true
is_plain _ = false

abbrev pub unless : Option Variable → Option Tree → Option Tree
unless (Some v) o = None
unless None o = o

-- the tree of a form that is whole as what stands in this setting: as an action a variable that may be written is none, but for a name alone
abbrev pub whole_in : Setting → Shape → Option Tree
whole_in s sh = if is_value s || is_plain sh then tree sh else unless (target sh) (tree sh)

abbrev pub altering : Setting → Place → Option ℕ → Option Next
altering s p None = None
altering s p (Some k) = only_if (not (is_value s)) (stays (using (changing p k)))

-- the first word of an operand or of an action that isn't a variable's
abbrev pub first : Setting → Place → Lexeme → Option Next
first s p (number n) = only_if (is_value s) (stays (done (node p (Number n))))
first s p (string (c ∷ [])) = only_if (is_value s) (stays (done (node p (Number c))))
first s p (mark left_parenthesis) = only_if (is_value s) (opens parenthesis)
first s p (mark backslash) = Some (stays trapping)
first s p (prefix_word r k) = altering s p (effect_of (unary r k))
first s p (sign k j) = altering s p (effect_of (unary 1 k))
first s p (changes b a) = Some (stays (using (changing p b)))
first s p address = only_if (is_value s) (stays (using (addressing p)))
first s p here = only_if (is_dat s) (stays (done (node p Here)))
first s p string_word = only_if (is_value s) (stays (opening p string_word))
first s p constant_word = only_if (is_value s) (stays (opening p constant_word))
first s p (look k) = only_if (is_value s) (stays (opening p (look k)))
first s p (value k) = Some (stays (done (node p (Built k no_trees))))
first s p (built_in k) = Some (stays (headed (built k p)))
first s p (command k) = only_if (not (is_value s)) (stays (headed (built k p)))
first s p _ = None

-- a bracket after a variable that is no name alone
abbrev pub bracketed : Setting → Use → Variable → Access → Option Next
bracketed s u (Part n z no_index q) x = only_if (allows_index s) (opens (part_index u q n z))
bracketed s u (Memory z e no_index q) x = only_if (allows_index s) (opens (memory_index u q z e))
bracketed s u (Register a whole q) x = only_if (allows_index s && has_bits x) (opens (first_bit u q a x))
bracketed s u v x = None

abbrev pub opened_by : Place → Lexeme → Option Next
opened_by q string_word = Some (stays (string_opened q))
opened_by q constant_word = Some (opens (constant_of q))
opened_by q (look k) = Some (opens (look_for q k))
opened_by q x = None

abbrev pub changed : Option Variable → Place → ℕ → Option Next
changed None p a = None
changed (Some v) p a = Some (stays (done (node p (Change v a))))

-- what a form is with one more word
abbrev pub grow : Setting → Shape → Place → Lexeme → Option Next
grow s (using u) p (name n) = Some (stays (named true u p n))
grow s (using u) p method_result = Some (stays (named false u p result_name))
grow s (using u) p (mark colon) = only_if (is_dat s) (stays (coloned u p))
grow s (using u) p (size z) = only_if (allows_index s) (stays (sized u p z))
grow s (using u) p (register a x) = only_if (is_in s x && takes u x) (stays (part u (Register a whole p) x))
grow s (using reading) p x = first s p x
grow s (coloned u q) p (name n) = Some (stays (named false u q (58 ∷ n)))
-- any reserved word is a name there
grow s (coloned u q) p (reserved n x) = Some (stays (named false u q (58 ∷ n)))
grow s (sized u q z) p (mark left_bracket) = only_if (allows_index s) (opens (memory_address u q z))
grow s (named b u q n) p (mark left_bracket) = only_if (allows_index s) (opens (name_index b u q n))
grow s (named b u q n) p (mark dot) = Some (stays (dotted b u q n))
grow s (named true reading q n) p (mark left_parenthesis) = Some (opens (argument_of (calls false None no_index n q q) no_trees))
grow s (named true reading q n) p (mark hash) = only_if (is_value s) (stays (hashed q n))
grow s (element q n e) p (mark dot) = Some (stays (object_dot false q n (index e)))
grow s (dotted b u q n) p (size z) = Some (stays (part u (Part n z no_index q) memory))
grow s (dotted true reading q m) p (name n) = Some (stays (headed (calls false (Some m) no_index n p q)))
grow s (part u v x) p (mark left_bracket) = bracketed s u v x
grow s trapping p (name n) = Some (stays (headed (calls true None no_index n p p)))
grow s (trapped_element q n e) p (mark dot) = Some (stays (object_dot true q n (index e)))
grow s (object_dot t q m i) p (name n) = Some (stays (headed (calls t (Some m) i n p q)))
grow s (headed h) p (mark left_parenthesis) = Some (opens (argument_of h no_trees))
grow s (headed (calls true None no_index n r q)) p (mark left_bracket) = only_if (allows_index s) (opens (trapped_index q n))
grow s (headed (calls true None no_index n r q)) p (mark dot) = Some (stays (object_dot true q n no_index))
grow s (hashed q m) p (name n) = Some (stays (done (node q (ObjConst m n p))))
grow s (opening q x) p (mark left_parenthesis) = opened_by q x
grow s (string_opened q) p (string (c ∷ t)) = Some (stays (string_read q p (c ∷ t)))
grow s (string_read q r t) p (mark right_parenthesis) = Some (stays (done (node q (Str t))))
grow s (string_read q r t) p (mark comma) = Some (opens (item_of q (no_trees ▷ quoted r t)))
grow s (strings_read q es) p (mark right_parenthesis) = Some (stays (done (node q (Strings es))))
grow s (strings_read q es) p (mark comma) = Some (opens (item_of q es))
grow s (choices_read q k x xs) p (mark right_parenthesis) = Some (stays (done (node q (Look k x xs))))
grow s (choices_read q k x xs) p (mark comma) = Some (opens (choice_of q k x xs))
grow s sh p (changes b a) = changed (target sh) p a
grow s sh p _ = None

abbrev pub named_element : Bool → Use → Place → List ℕ → Tree → Shape
named_element true reading p n e = element p n e
named_element b u p n e = part u (Named n (index e) p) memory

-- what a form is with the expression that it waits for, up to the mark that ends it
abbrev pub close : Mark → Hole → Tree → Option Next
close right_parenthesis parenthesis e = Some (stays (done e))
close right_bracket (name_index b u p n) e = Some (stays (named_element b u p n e))
close right_bracket (part_index u p n z) e = Some (stays (part u (Part n z (index e) p) memory))
close right_bracket (memory_address u p z) e = Some (stays (part u (Memory z e no_index p) memory))
close right_bracket (memory_index u p z a) e = Some (stays (part u (Memory z a (index e) p) memory))
close right_bracket (first_bit u p a x) e = Some (stays (part u (Register a (bits (single e)) p) x))
close dot_dot (first_bit u p a x) e = Some (opens (last_bit u p a x e))
close right_bracket (last_bit u p a x low) e = Some (stays (part u (Register a (bits (range low e)) p) x))
close right_bracket (trapped_index p n) e = Some (stays (trapped_element p n e))
close right_parenthesis (argument_of h es) e = Some (stays (done (applied h (es ▷ e))))
close comma (argument_of h es) e = Some (opens (argument_of h (es ▷ e)))
close right_parenthesis (first_item p) e = Some (stays (done (node p (Strings (no_trees ▷ e)))))
close comma (first_item p) e = Some (opens (item_of p (no_trees ▷ e)))
close right_parenthesis (item_of p es) e = Some (stays (done (node p (Strings (es ▷ e)))))
close comma (item_of p es) e = Some (opens (item_of p (es ▷ e)))
close right_parenthesis (constant_of p) e = Some (stays (done (node p (Built 0 (no_trees ▷ e)))))
close colon (look_for p k) e = Some (opens (choice_of p k e no_items))
close right_parenthesis (choice_of p k x xs) e = Some (stays (done (node p (Look k x (xs ▸ single e)))))
close comma (choice_of p k x xs) e = Some (opens (choice_of p k x (xs ▸ single e)))
close dot_dot (choice_of p k x xs) e = Some (opens (choice_to p k x xs e))
close right_parenthesis (choice_to p k x xs low) e = Some (stays (done (node p (Look k x (xs ▸ range low e)))))
close comma (choice_to p k x xs low) e = Some (opens (choice_of p k x (xs ▸ range low e)))
close _ _ e = None

-- what a form is with a string of several characters in place of the expression that it waits for
abbrev pub on_item : Place → List ℕ → Hole → Option Next
on_item p (c ∷ d ∷ t) (item_of q es) = Some (stays (strings_read q (es ▷ node p (Str (c ∷ d ∷ t)))))
on_item p (c ∷ d ∷ t) (choice_of q k x xs) = Some (stays (choices_read q k x (with_characters p (c ∷ d ∷ t) xs)))
on_item p _ h = None

-- the left operand of an operator: a variable, where the operator is AND or OR and `=` may come next, which makes it an assignment
pub data Left : Type 0 where
  left_tree : Tree → Left
  left_variable : Variable → Left

abbrev pub tree_in : Left → Tree
tree_in (left_tree e) = e
tree_in (left_variable v) = used reading v

-- what is begun and waits for an expression or an operand
pub data Frame : Type 0 where
  prefix_frame : Prefix → Place → Frame
  -- its rank is one more than the number
  infix_frame : ℕ → ℕ → Place → Left → Frame
  assign_frame : Option ℕ → Place → Variable → Frame
  inside_frame : Setting → Hole → Frame

-- the operand after this is of a lower level
abbrev pub level_bound : Frame → ℕ
level_bound (prefix_frame o p) = 2 * rank o + 2
level_bound (infix_frame r k p a) = 2 * suc r
level_bound (assign_frame o p v) = 22
level_bound (inside_frame s h) = 23

abbrev pub level_bound_of : List Frame → ℕ
level_bound_of [] = 23
level_bound_of (f ∷ k) = level_bound f

abbrev pub wrap : Frame → Tree → Tree
wrap (prefix_frame o p) e = node p (with_prefix o e)
wrap (infix_frame r k p a) e = node p (Binary k (tree_in a) e)
wrap (assign_frame o p v) e = node p (Assign v o e)
wrap (inside_frame s h) e = e

abbrev pub reduce : ℕ → Tree → List Frame → Tree × List Frame
reduce m e [] = (e, [])
reduce m e (f ∷ k) = if nat_le (level_bound f) m then reduce m (wrap f e) k else (e, f ∷ k)

pub data State : Type 0 where
  state : Setting → Shape → List Frame → State
  -- an action's variable with AND or OR, before `=`
  becoming : Setting → ℕ → Place → Variable → List Frame → State

abbrev pub entered : Setting → List Frame → Next → State
entered s k (stays sh) = state s sh k
entered s k (opens h) = state (inside s) fresh (inside_frame s h ∷ k)

abbrev pub entered_all : Setting → List Frame → Option Next → Option State
entered_all s k None = None
entered_all s k (Some n) = Some (entered s k n)

-- a mark that ends the expression in the innermost form
abbrev pub fill_hole : Mark → Tree → List Frame → Option State
fill_hole m e (inside_frame s h ∷ k) = entered_all s k (close m h e)
fill_hole m e k = None

abbrev pub prefixed : Setting → Option Prefix → Place → List Frame → Option State
prefixed s None p k = None
prefixed s (Some o) p k = if is_value s && nat_lt (2 * rank o + 1) (level_bound_of k) then Some (state s fresh (prefix_frame o p ∷ k)) else None

-- an operator between operands, after the left one; and the variable that AND or OR may assign: an action takes them alone
abbrev pub operated : Setting → Option Variable → ℕ → ℕ → Place → Tree → List Frame → Option State
operated s (Some v) r c p e k = Some (if is_value s then state s fresh (infix_frame r c p (left_variable v) ∷ k) else becoming s c p v k)
operated s None r c p e k = if is_value s && nat_lt r 10 then
    (let x = reduce (2 * suc r) e k in Some (state s fresh (infix_frame r c p (left_tree x.0) ∷ x.1))) else None

abbrev pub operate : Setting → Option Variable → Option (ℕ × ℕ) → Place → Tree → List Frame → Option State
operate s v None p e k = None
operate s v (Some (zero, c)) p e k = None
operate s v (Some (suc r, c)) p e k = operated s (if is_boolean (suc r) && nat_lt 21 (level_bound_of k) then v else None) r c p e k

abbrev pub assign : Setting → Option Variable → Option ℕ → Place → List Frame → Option State
assign s None o p k = None
assign s (Some v) o p k = if nat_lt 21 (level_bound_of k) then Some (state (behind s) fresh (assign_frame o p v ∷ k)) else None

-- `=` after AND or OR
abbrev pub assigned : Setting → List Frame → Option State
assigned s (infix_frame r c p (left_variable v) ∷ k) = Some (state (behind s) fresh (assign_frame (Some c) p v ∷ k))
assigned s k = None

-- a word after a whole operand that is no part of it
abbrev pub after : Setting → Shape → Tree → List Frame → Place → Lexeme → Option State
after s sh e k p (mark m) = (let x = reduce 22 e k in fill_hole m x.0 x.1)
after s sh e k p (assigns o) = assign s (target sh) o p k
after s sh e k p x = operate s (target sh) (infix_of x) p e k

-- a word that is no part of a form which isn't whole
abbrev pub otherwise : Setting → Shape → List Frame → Place → Lexeme → Option State
otherwise s (using reading) k p (mark equal) = assigned s k
otherwise s (using reading) k p x = prefixed s (prefix_of x) p k
-- the first item of STRING is an expression that begins with a string
otherwise s (string_read q r (c ∷ [])) k p x = operate (inside s) None (infix_of x) p (node r (Number c)) (inside_frame s (first_item q) ∷ k)
otherwise s sh k p x = None

abbrev pub beyond : Option Tree → Setting → Shape → List Frame → Place → Lexeme → Option State
beyond None s sh k p x = otherwise s sh k p x
beyond (Some e) s sh k p x = after s sh e k p x

-- a string in place of the expression that the innermost form waits for
abbrev pub in_place : Lexeme → Shape → List Frame → Place → Option State
in_place (string t) (using reading) (inside_frame s h ∷ k) p = entered_all s k (on_item p t h)
in_place x sh k p = None

abbrev pub go_on : Option Next → Setting → Shape → List Frame → Place → Lexeme → Option State
go_on (Some n) s sh k p x = Some (entered s k n)
go_on None s sh k p x = beyond (tree sh) s sh k p x

abbrev pub first_of : Option State → Option State → Option State
first_of (Some st) o = Some st
first_of None o = o

-- what a reserved word is but for a local label's name: `:=` isn't reserved
abbrev pub freed : Lexeme → Lexeme
freed (assigns o) = other
freed x = if is_free x then x else other

abbrev pub loose : Lexeme → Lexeme
loose (reserved n x) = freed x
loose x = x

abbrev pub bare : Shape → Lexeme → Lexeme
bare (coloned u q) x = x
bare sh x = loose x

abbrev pub forward : Setting → Shape → List Frame → Place → Lexeme → Option State
forward s sh k p x = first_of (in_place x sh k p) (go_on (grow s sh p x) s sh k p x)

-- where the first item of STRING comes, what is no string begins an expression
abbrev pub opened : Setting → Place → List Frame → Place → Lexeme → Option State
opened s q k p (string t) = forward s (string_opened q) k p (string t)
opened s q k p x = forward (inside s) fresh (inside_frame s (first_item q) ∷ k) p x

abbrev pub moved : Setting → Shape → List Frame → Place → Lexeme → Option State
moved s (string_opened q) k p x = opened s q k p x
moved s sh k p x = forward s sh k p x

abbrev pub step : State → Token → Option State
step (state s sh k) (token p x) = moved s sh k p (bare sh x)
step (becoming s c p v k) (token q (mark equal)) = Some (state (behind s) fresh (assign_frame (Some c) p v ∷ k))
step (becoming s c p v k) (token q x) = None

abbrev pub walk : State → List Token → Option State
walk st [] = Some st
walk st (t ∷ ts) = option_and_then (λ st'. walk st' ts) (step st t)

abbrev pub all_of : Tree → List Frame → Option Tree
all_of e [] = Some e
all_of e (f ∷ k) = None

abbrev pub accepted : Option Tree → List Frame → Option Tree
accepted None k = None
accepted (Some e) k = (let x = reduce 22 e k in all_of x.0 x.1)

-- the tree, where what has been read is an expression
abbrev pub accept : State → Option Tree
accept (state s sh k) = accepted (whole_in s sh) k
accept (becoming s c p v k) = None

abbrev pub start : Setting → State
start s = state s fresh []
