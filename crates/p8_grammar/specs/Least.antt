-- internal: the least height of an expression that goes on from where the reader is.
use Rattle.std.specs.Prelude.{ℕ, suc, ◌+◌, max, List, [], ◌∷◌}
use Rattle.p8_grammar.specs.Lexemes.{string_word}
use Rattle.p8_grammar.specs.Grammar.{Head, calls, built}
use Rattle.p8_grammar.specs.Heights.{height, height_in_variable, height_in_index, height_of_trees, height_of_items}
use Rattle.p8_grammar.specs.Machine.{reading, Shape, using, sized, element, part, trapped_element, object_dot, headed, opening, strings_read}
use Rattle.p8_grammar.specs.Machine.{choices_read, done, Hole, parenthesis, memory_index, last_bit, argument_of, item_of, look_for, choice_of}
use Rattle.p8_grammar.specs.Machine.{choice_to, Next, stays, opens, left_variable, tree_in, Frame, prefix_frame, infix_frame, assign_frame}
use Rattle.p8_grammar.specs.Machine.{inside_frame, State, state, becoming}

abbrev pub height_in_head : Head → ℕ
height_in_head (calls t o i n q p) = height_in_index i
height_in_head (built k p) = 0

-- of a form that has been begun
abbrev pub shape_least : Shape → ℕ
shape_least (sized u p z) = 2
shape_least (element p n e) = suc (height e)
shape_least (part u v x) = suc (height_in_variable v)
shape_least (trapped_element p n e) = suc (height e)
shape_least (object_dot t p n i) = suc (height_in_index i)
shape_least (headed h) = suc (height_in_head h)
shape_least (opening p string_word) = 1
shape_least (opening p x) = 2
shape_least (strings_read p es) = suc (height_of_trees es)
shape_least (choices_read p k x xs) = suc (max (height x) (height_of_items xs))
shape_least (done e) = height e
shape_least _ = 1

-- What a form does to the height h of the expression that comes next: it makes it max of h and one number, and adds another.
abbrev pub high_in_hole : Hole → ℕ
high_in_hole (memory_index u p z a) = height a
high_in_hole (last_bit u p a x low) = height low
high_in_hole (argument_of x es) = max (height_in_head x) (height_of_trees es)
high_in_hole (item_of p es) = height_of_trees es
high_in_hole (look_for p k) = 1
high_in_hole (choice_of p k x xs) = max (height x) (height_of_items xs)
high_in_hole (choice_to p k x xs low) = max (height x) (max (height_of_items xs) (height low))
high_in_hole _ = 0

abbrev pub adds_hole : Hole → ℕ
adds_hole parenthesis = 0
adds_hole _ = 1

-- So does a frame, and so a stack.
abbrev pub high_in_frame : Frame → ℕ
high_in_frame (prefix_frame o p) = 0
high_in_frame (infix_frame r c p a) = height (tree_in a)
high_in_frame (assign_frame o p v) = height_in_variable v
high_in_frame (inside_frame s hole) = high_in_hole hole

abbrev pub adds_frame : Frame → ℕ
adds_frame (inside_frame s hole) = adds_hole hole
adds_frame _ = 1

-- of a form whose next expression has height h
abbrev pub filled : ℕ → Hole → ℕ
filled h hole = adds_hole hole + max (high_in_hole hole) h

-- of an expression with an operand of height h after these frames
abbrev pub need : ℕ → List Frame → ℕ
need h [] = h
need h (f ∷ k) = need (adds_frame f + max (high_in_frame f) h) k

-- where an operand comes: in place of AND's right operand `=` may come
abbrev pub operand_least : List Frame → ℕ
operand_least (infix_frame r c p (left_variable v) ∷ k) = need (1 + max (height_in_variable v) 1) k
operand_least k = need 1 k

abbrev pub next_least : Next → ℕ
next_least (stays sh) = shape_least sh
next_least (opens h) = filled 1 h

abbrev pub least : State → ℕ
least (state s (using reading) k) = operand_least k
least (state s sh k) = need (shape_least sh) k
least (becoming s c p v k) = need (1 + max (height_in_variable v) 1) k

abbrev pub depth : List Frame → ℕ
depth [] = 0
depth (f ∷ k) = adds_frame f + depth k

abbrev pub base : List Frame → ℕ
base [] = 0
base (f ∷ k) = max (base k) (high_in_frame f + (adds_frame f + depth k))
