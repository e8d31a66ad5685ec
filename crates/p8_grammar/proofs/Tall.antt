-- Reading on never lowers the least height.
use Rattle.std.proofs.Common.{◌≡◌, ℕ, zero, suc, ◌+◌, ◌*◌, ◌<◌, ◌≤◌, max, List, [], ◌∷◌, Option, Some, None, Bool, true, false, refl, sym, ap, ◌∙◌, subst, arith}
use Rattle.std.specs.Prelude.{option_and_then, IsTrue, if◌then◌else◌, not, ◌&&◌, nat_lt, nat_le}
use Rattle.p8_tree.specs.declared.places.Place.{Place}
use Rattle.p8_tree.specs.Expressions.{Tree, node, Number, Variable, Part, Memory, Register, no_index, whole, single, Trees, no_trees, ◌▷◌, Items, ◌▸◌}
use Rattle.p8_grammar.specs.Lexemes.{Setting, in_method, is_value, allows_index, is_dat, inside, behind, Access, is_written, has_bits, is_in, Mark, left_parenthesis, right_parenthesis, left_bracket, right_bracket, comma, colon, dot, dot_dot, hash, backslash, equal, Lexeme, number, name, method_result, string, mark, prefix_word, sign, assigns, changes, address, size, register, here, string_word, constant_word, look, value, built_in, command, reserved, token, Token}
use Rattle.p8_grammar.specs.Grammar.{Head, calls, built, applied, with_characters, Prefix, at_object, unary, prefix_of, effect_of, rank, with_prefix, infix_of, is_boolean}
use Rattle.p8_grammar.specs.Machine.{Use, reading, addressing, changing, used, takes, Shape, using, coloned, sized, named, element, dotted, part, trapping, trapped_element, object_dot, headed, hashed, opening, string_opened, string_read, strings_read, choices_read, becoming, done, Hole, parenthesis, name_index, part_index, memory_address, memory_index, first_bit, last_bit, trapped_index, argument_of, first_item, item_of, constant_of, look_for, choice_of, choice_to, Next, stays, opens, only_if, fresh, tree, target, whole_in, altering, first, bracketed, opened_by, changed, grow, close, on_item, Frame, prefix_frame, infix_frame, assign_frame, inside_frame, level_bound, level_bound_of, wrap, reduce, State, state, entered, entered_all, fill_hole, prefixed, operated, operate, assign, assigned, after, otherwise, beyond, in_place, go_on, first_of, loose, bare, forward, opened, step, walk, all_of, accepted, accept, start, left_tree, left_variable}
use Rattle.std.proofs.lemmas.Bool.{leb-true, ltb-true}
use Rattle.p8_grammar.specs.Heights.{height, height_in_variable, height_of_trees, height_of_items, IsTooHigh}
use Rattle.p8_grammar.specs.Least.{height_in_head, shape_least, high_in_frame, adds_frame, filled, need, operand_least, next_least, least}
use Rattle.p8_grammar.proofs.Walks.{goes_on, second_true}
use Rattle.p8_grammar.proofs.FormsRead.{whole_tree}
use Rattle.p8_grammar.proofs.Complete.{complete}

used_height : (u : Use) (v : Variable) → height (used u v) ≡ suc (height_in_variable v)
used_height reading v = refl
used_height (addressing p) v = refl
used_height (changing p b) v = refl

applied_height : (h : Head) → height (applied h no_trees) ≡ suc (height_in_head h)
applied_height (calls t o i n q p) = omega arith
applied_height (built k p) = refl

at_height : (x y : Tree) (n : ℕ) → Some x ≡ Some y → n ≡ height x → n ≡ height y
at_height x y n h e = let same : x ≡ y = cc in e ∙ ap height same

same_variable : (w v : Variable) {n : ℕ} → Some w ≡ Some v → n ≡ suc (height_in_variable w) → n ≡ suc (height_in_variable v)
same_variable w v h e = let same : w ≡ v = cc in e ∙ ap (λ v. suc (height_in_variable v)) same

-- the height of a whole form
pub tree_least : (sh : Shape) (e : Tree) → tree sh ≡ Some e → shape_least sh ≡ height e
tree_least (named b u p n) e h = at_height _ e _ h (sym (used_height u _))
tree_least (element p n x) e h = at_height _ e _ h refl
tree_least (part u v x) e h = at_height _ e _ h (sym (used_height u v))
tree_least (headed y) e h = at_height _ e _ h (sym (applied_height y))
tree_least (done x) e h = at_height _ e _ h refl
tree_least sh e h = absurd cc

-- a variable that may be written is as high as its form
pub target_least : (sh : Shape) (v : Variable) → target sh ≡ Some v → shape_least sh ≡ suc (height_in_variable v)
target_least (named b reading p n) v h = same_variable _ v h refl
target_least (element p n e) v h = same_variable _ v h refl
target_least (part reading w x) v h = go (is_written x) h
  where
    go : (b : Bool) → (if b then Some w else None) ≡ Some v → suc (height_in_variable w) ≡ suc (height_in_variable v)
    go true h = same_variable w v h refl
    go false h = absurd cc
target_least sh v h = absurd cc

-- a form of which something has been read
abbrev pub is_begun : Next → Bool
is_begun (stays (using reading)) = false
is_begun n = true

-- the least height may only grow where a form goes on
abbrev AtLeast : ℕ → Option Next → Type 0
AtLeast l None = Unit {0}
AtLeast l (Some n) = (l ≤ next_least n) × IsTrue (is_begun n)

only_least : (l : ℕ) (b : Bool) (n : Next) → AtLeast l (Some n) → AtLeast l (only_if b n)
only_least l true n le = le
only_least l false n le = tt

altering_least : (s : Setting) (p : Place) (o : Option ℕ) → AtLeast 1 (altering s p o)
altering_least s p None = tt
altering_least s p (Some k) = only_least 1 (not (is_value s)) _ (omega arith, refl)

first_least : (s : Setting) (p : Place) (x : Lexeme) → AtLeast 1 (first s p x)
first_least s p (number n) = only_least 1 (is_value s) _ (omega arith, refl)
first_least s p (string (c ∷ [])) = only_least 1 (is_value s) _ (omega arith, refl)
first_least s p (mark left_parenthesis) = only_least 1 (is_value s) _ (omega arith, refl)
first_least s p (mark backslash) = (omega arith, refl)
first_least s p (prefix_word r k) = altering_least s p (effect_of (unary r k))
first_least s p (sign k j) = altering_least s p (effect_of (unary 1 k))
first_least s p (changes b a) = (omega arith, refl)
first_least s p address = only_least 1 (is_value s) _ (omega arith, refl)
first_least s p here = only_least 1 (is_dat s) _ (omega arith, refl)
first_least s p string_word = only_least 1 (is_value s) _ (omega arith, refl)
first_least s p constant_word = only_least 1 (is_value s) _ (omega arith, refl)
first_least s p (look k) = only_least 1 (is_value s) _ (omega arith, refl)
first_least s p (value k) = (omega arith, refl)
first_least s p (built_in k) = (omega arith, refl)
first_least s p (command k) = only_least 1 (not (is_value s)) _ (omega arith, refl)
first_least s p x = tt

bracketed_least : (s : Setting) (u : Use) (v : Variable) (x : Access) → AtLeast (suc (height_in_variable v)) (bracketed s u v x)
bracketed_least s u (Part n z no_index q) x = only_least _ (allows_index s) _ (omega arith, refl)
bracketed_least s u (Memory z e no_index q) x = only_least _ (allows_index s) _ (omega arith, refl)
bracketed_least s u (Register a whole q) x = only_least _ (allows_index s && has_bits x) _ (omega arith, refl)
bracketed_least s u v x = tt

changed_least : (sh : Shape) (p : Place) (a : ℕ) → AtLeast (shape_least sh) (changed (target sh) p a)
changed_least sh p a = go (target sh) refl
  where
    go : (o : Option Variable) → target sh ≡ o → AtLeast (shape_least sh) (changed o p a)
    go None h = tt
    go (Some v) h = (omega (arith, target_least sh v h), refl)

opened_least : (q : Place) (x : Lexeme) → AtLeast (shape_least (opening q x)) (opened_by q x)
opened_least q string_word = (omega arith, refl)
opened_least q constant_word = (omega arith, refl)
opened_least q (look k) = (omega arith, refl)
opened_least q x = tt

grow_least : (s : Setting) (sh : Shape) (p : Place) (x : Lexeme) → AtLeast (shape_least sh) (grow s sh p x)
grow_least s (using u) p (name n) = (omega arith, refl)
grow_least s (using u) p method_result = (omega arith, refl)
grow_least s (using u) p (mark colon) = only_least 1 (is_dat s) _ (omega arith, refl)
grow_least s (using u) p (size z) = only_least 1 (allows_index s) _ (omega arith, refl)
grow_least s (using u) p (register a x) = only_least 1 (is_in s x && takes u x) _ (omega arith, refl)
grow_least s (using reading) p x = first_least s p x
grow_least s (coloned u q) p (name n) = (omega arith, refl)
grow_least s (coloned u q) p (reserved n x) = (omega arith, refl)
grow_least s (sized u q z) p (mark left_bracket) = only_least 2 (allows_index s) _ (omega arith, refl)
grow_least s (named b u q n) p (mark left_bracket) = only_least 1 (allows_index s) _ (omega arith, refl)
grow_least s (named b u q n) p (mark dot) = (omega arith, refl)
grow_least s (named true reading q n) p (mark left_parenthesis) = (omega arith, refl)
grow_least s (named true reading q n) p (mark hash) = only_least 1 (is_value s) _ (omega arith, refl)
grow_least s (element q n e) p (mark dot) = (omega arith, refl)
grow_least s (dotted b u q n) p (size z) = (omega arith, refl)
grow_least s (dotted true reading q m) p (name n) = (omega arith, refl)
grow_least s (part u v x) p (mark left_bracket) = bracketed_least s u v x
grow_least s trapping p (name n) = (omega arith, refl)
grow_least s (trapped_element q n e) p (mark dot) = (omega arith, refl)
grow_least s (object_dot t q m i) p (name n) = (omega arith, refl)
grow_least s (headed h) p (mark left_parenthesis) = (omega arith, refl)
grow_least s (headed (calls true None no_index n r q)) p (mark left_bracket) = only_least _ (allows_index s) _ (omega arith, refl)
grow_least s (headed (calls true None no_index n r q)) p (mark dot) = (omega arith, refl)
grow_least s (hashed q m) p (name n) = (omega arith, refl)
grow_least s (opening q x) p (mark left_parenthesis) = opened_least q x
grow_least s (string_opened q) p (string (c ∷ t)) = (omega arith, refl)
grow_least s (string_read q r t) p (mark right_parenthesis) = (omega arith, refl)
grow_least s (string_read q r t) p (mark comma) = (omega arith, refl)
grow_least s (strings_read q es) p (mark right_parenthesis) = (omega arith, refl)
grow_least s (strings_read q es) p (mark comma) = (omega arith, refl)
grow_least s (choices_read q k x xs) p (mark right_parenthesis) = (omega arith, refl)
grow_least s (choices_read q k x xs) p (mark comma) = (omega arith, refl)
grow_least s sh p (changes b a) = changed_least sh p a
grow_least s sh p x = tt

pub applied_least : (h : Head) (es : Trees) (e : Tree) → suc (max (max (height_in_head h) (height_of_trees es)) (height e)) ≡ height (applied h (es ▷ e))
applied_least (calls t o i n q p) es e = omega arith
applied_least (built k p) es e = omega arith

close_least : (m : Mark) (hole : Hole) (e : Tree) → AtLeast (filled (height e) hole) (close m hole e)
close_least right_parenthesis parenthesis e = (omega arith, refl)
close_least right_bracket (name_index true reading p n) e = (omega arith, refl)
close_least right_bracket (name_index b u p n) e = (omega arith, refl)
close_least right_bracket (part_index u p n z) e = (omega arith, refl)
close_least right_bracket (memory_address u p z) e = (omega arith, refl)
close_least right_bracket (memory_index u p z a) e = (omega arith, refl)
close_least right_bracket (first_bit u p a x) e = (omega arith, refl)
close_least dot_dot (first_bit u p a x) e = (omega arith, refl)
close_least right_bracket (last_bit u p a x low) e = (omega arith, refl)
close_least right_bracket (trapped_index p n) e = (omega arith, refl)
close_least right_parenthesis (argument_of h es) e = (omega (arith, applied_least h es e), refl)
close_least comma (argument_of h es) e = (omega arith, refl)
close_least right_parenthesis (first_item p) e = (omega arith, refl)
close_least comma (first_item p) e = (omega arith, refl)
close_least right_parenthesis (item_of p es) e = (omega arith, refl)
close_least comma (item_of p es) e = (omega arith, refl)
close_least right_parenthesis (constant_of p) e = (omega arith, refl)
close_least colon (look_for p k) e = (omega arith, refl)
close_least right_parenthesis (choice_of p k x xs) e = (omega arith, refl)
close_least comma (choice_of p k x xs) e = (omega arith, refl)
close_least dot_dot (choice_of p k x xs) e = (omega arith, refl)
close_least right_parenthesis (choice_to p k x xs low) e = (omega arith, refl)
close_least comma (choice_to p k x xs low) e = (omega arith, refl)
close_least m hole e = tt

-- a string's characters are items
items_grow : (p : Place) (t : List ℕ) (xs : Items) → height_of_items xs ≤ height_of_items (with_characters p t xs)
items_grow p [] xs = omega arith
items_grow p (c ∷ t) xs = omega (arith, items_grow p t (xs ▸ single (node p (Number c))))

on_item_least : (p : Place) (t : List ℕ) (hole : Hole) → AtLeast (filled 1 hole) (on_item p t hole)
on_item_least p (c ∷ d ∷ t) (item_of q es) = (omega arith, refl)
on_item_least p (c ∷ d ∷ t) (choice_of q k x xs) = (omega (arith, items_grow p (d ∷ t) (xs ▸ single (node p (Number c)))), refl)
on_item_least p t hole = tt

pub need_le : (k : List Frame) (h i : ℕ) → h ≤ i → need h k ≤ need i k
need_le [] h i le = le
need_le (f ∷ k) h i le = need_le k (adds_frame f + max (high_in_frame f) h) (adds_frame f + max (high_in_frame f) i) (omega (arith, le))

prefix_height : (o : Prefix) (p : Place) (e : Tree) → height (node p (with_prefix o e)) ≡ suc (height e)
prefix_height at_object p e = refl
prefix_height (unary r k) p e = refl

pub need_wrap : (f : Frame) (e : Tree) (k : List Frame) → level_bound f ≤ 22 → need (height (wrap f e)) k ≡ need (height e) (f ∷ k)
need_wrap (prefix_frame o p) e k le = ap (λ h. need h k) (prefix_height o p e ∙ omega arith)
need_wrap (infix_frame r c p a) e k le = ap (λ h. need h k) (omega arith)
need_wrap (assign_frame o p v) e k le = ap (λ h. need h k) (omega arith)
need_wrap (inside_frame s hole) e k le = absurd (omega arith)

-- an operand needs at least as much as an operand of height 1
pub operand_le : (k : List Frame) → operand_least k ≤ need 1 k
operand_le (infix_frame r c p (left_variable v) ∷ k) = need_le k (1 + max (height_in_variable v) 1) _ (omega arith)
operand_le k = omega arith

-- a form needs at least as much as where it is fresh
form_le : (s : Setting) (sh : Shape) (k : List Frame) → least (state s sh k) ≤ need (shape_least sh) k
form_le s (using reading) k = operand_le k
form_le s sh k = omega arith

pub need_reduce : (m : ℕ) → m ≤ 22 → (k : List Frame) (e : Tree) → need (height (reduce m e k).0) (reduce m e k).1 ≡ need (height e) k
need_reduce m small [] e = refl
need_reduce m small (f ∷ k) e = go (λ e'. need_reduce m small k e') (nat_le (level_bound f) m) refl
  where
    go : ((e' : Tree) → need (height (reduce m e' k).0) (reduce m e' k).1 ≡ need (height e') k) → (b : Bool) → nat_le (level_bound f) m ≡ b → need (height (if b then reduce m (wrap f e) k else (e, f ∷ k)).0) (if b then reduce m (wrap f e) k else (e, f ∷ k)).1 ≡ need (height e) (f ∷ k)
    go ih false h = refl
    go ih true h = let le : level_bound f ≤ m = leb-true (level_bound f) m h in ih (wrap f e) ∙ need_wrap f e k (omega arith)

-- the least height may only grow from one state to the next
abbrev LeastFrom : ℕ → Option State → Type 0
LeastFrom l None = Unit {0}
LeastFrom l (Some st) = l ≤ least st

-- what is lower at first
at_most_least : (l m : ℕ) (o : Option State) → l ≤ m → LeastFrom m o → LeastFrom l o
at_most_least l m None le h = tt
at_most_least l m (Some st) le h = omega (arith, le, h)

entered_le : (s : Setting) (k : List Frame) (n : Next) → IsTrue (is_begun n) → need (next_least n) k ≤ least (entered s k n)
entered_le s k (stays (using reading)) b = absurd cc
entered_le s k (stays sh) b = omega arith
entered_le s k (opens h) b = omega arith

entered_least : (l : ℕ) (s : Setting) (k : List Frame) (o : Option Next) → AtLeast l o → LeastFrom (need l k) (entered_all s k o)
entered_least l s k None a = tt
entered_least l s k (Some n) a = omega (arith, need_le k l (next_least n) a.0, entered_le s k n a.1)

fill_hole_least : (m : Mark) (e : Tree) (k : List Frame) → LeastFrom (need (height e) k) (fill_hole m e k)
fill_hole_least m e (inside_frame s hole ∷ k) = entered_least (filled (height e) hole) s k (close m hole e) (close_least m hole e)
fill_hole_least m e k = tt

prefixed_least : (s : Setting) (o : Option Prefix) (p : Place) (k : List Frame) → LeastFrom (need 1 k) (prefixed s o p k)
prefixed_least s None p k = tt
prefixed_least s (Some o) p k = go (is_value s && nat_lt (2 * rank o + 1) (level_bound_of k))
  where
    go : (b : Bool) → LeastFrom (need 1 k) (if b then Some (state s fresh (prefix_frame o p ∷ k)) else None)
    go false = tt
    go true = need_le k 1 _ (omega arith)

operated_least : (s : Setting) (o : Option Variable) (r c : ℕ) (p : Place) (e : Tree) (k : List Frame) → ((v : Variable) → o ≡ Some v → height e ≡ suc (height_in_variable v)) → LeastFrom (need (height e) k) (operated s o r c p e k)
operated_least s (Some v) r c p e k h = go (is_value s)
  where
    low : need (height e) k ≤ need (1 + max (height_in_variable v) 1) k
    low = need_le k (height e) (1 + max (height_in_variable v) 1) (omega (arith, h v refl))

    go : (b : Bool) → need (height e) k ≤ least (if b then state s fresh (infix_frame r c p (left_variable v) ∷ k) else becoming s c p v k)
    go true = low
    go false = low
operated_least s None r c p e k h = go (is_value s && nat_lt r 10) refl
  where
    go : (b : Bool) → (is_value s && nat_lt r 10) ≡ b → LeastFrom (need (height e) k) (if b then (let x = reduce (2 * suc r) e k in Some (state s fresh (infix_frame r c p (left_tree x.0) ∷ x.1))) else None)
    go false h = tt
    go true h =
        let small : r < 10 = ltb-true _ _ (second_true (is_value s) (nat_lt r 10) h) in
        let x = reduce (2 * suc r) e k in
        omega (arith, need_reduce (2 * suc r) (omega (arith, small)) k e, need_le x.1 (height x.0) (1 + max (height x.0) 1) (omega arith))

operate_least : (s : Setting) (o : Option Variable) (q : Option (ℕ × ℕ)) (p : Place) (e : Tree) (k : List Frame) → ((v : Variable) → o ≡ Some v → height e ≡ suc (height_in_variable v)) → LeastFrom (need (height e) k) (operate s o q p e k)
operate_least s o None p e k h = tt
operate_least s o (Some (zero, c)) p e k h = tt
operate_least s o (Some (suc r, c)) p e k h = go (is_boolean (suc r) && nat_lt 21 (level_bound_of k))
  where
    go : (b : Bool) → LeastFrom (need (height e) k) (operated s (if b then o else None) r c p e k)
    go true = operated_least s o r c p e k h
    go false = operated_least s None r c p e k (λ v e. absurd cc)

assign_least : (s : Setting) (o : Option Variable) (q : Option ℕ) (p : Place) (h : ℕ) (k : List Frame) → ((v : Variable) → o ≡ Some v → h ≡ suc (height_in_variable v)) → LeastFrom (need h k) (assign s o q p k)
assign_least s None q p h k is = tt
assign_least s (Some v) q p h k is = go (nat_lt 21 (level_bound_of k))
  where
    go : (b : Bool) → LeastFrom (need h k) (if b then Some (state (behind s) fresh (assign_frame q p v ∷ k)) else None)
    go false = tt
    go true = need_le k h (1 + max (height_in_variable v) 1) (omega (arith, is v refl))

after_least : (s : Setting) (sh : Shape) (e : Tree) (k : List Frame) (p : Place) (x : Lexeme) → tree sh ≡ Some e → LeastFrom (need (height e) k) (after s sh e k p x)
after_least s sh e k p x t = by_word x
  where
    low : (v : Variable) → target sh ≡ Some v → height e ≡ suc (height_in_variable v)
    low v h = sym (tree_least sh e t) ∙ target_least sh v h

    by_word : (x : Lexeme) → LeastFrom (need (height e) k) (after s sh e k p x)
    by_word (mark m) = subst (λ l. LeastFrom l (fill_hole m (reduce 22 e k).0 (reduce 22 e k).1)) (need_reduce 22 (omega arith) k e) (fill_hole_least m (reduce 22 e k).0 (reduce 22 e k).1)
    by_word (assigns o) = assign_least s (target sh) o p (height e) k low
    by_word x = operate_least s (target sh) (infix_of x) p e k low

in_place_least : (x : Lexeme) (sh : Shape) (k : List Frame) (p : Place) → LeastFrom (least (state in_method sh k)) (in_place x sh k p)
in_place_least (string t) (using reading) (inside_frame s h ∷ k) p = entered_least (filled 1 h) s k (on_item p t h) (on_item_least p t h)
in_place_least x sh k p = tt

assigned_least : (s : Setting) (k : List Frame) → LeastFrom (operand_least k) (assigned s k)
assigned_least s (infix_frame r c p (left_variable v) ∷ k) = need_le k (1 + max (height_in_variable v) 1) (1 + max (height_in_variable v) 1) (omega arith)
assigned_least s k = tt

otherwise_least : (s : Setting) (sh : Shape) (k : List Frame) (p : Place) (x : Lexeme) → LeastFrom (least (state s sh k)) (otherwise s sh k p x)
otherwise_least s (using reading) k p (mark equal) = assigned_least s k
otherwise_least s (using reading) k p x = at_most_least (operand_least k) (need 1 k) (prefixed s (prefix_of x) p k) (operand_le k) (prefixed_least s (prefix_of x) p k)
otherwise_least s (string_read q r (c ∷ [])) k p x =
    at_most_least (need 1 k) (need 2 k) (operate (inside s) None (infix_of x) p (node r (Number c)) (inside_frame s (first_item q) ∷ k)) (need_le k 1 2 (omega arith))
    (operate_least (inside s) None (infix_of x) p (node r (Number c)) (inside_frame s (first_item q) ∷ k) (λ v e. absurd cc))
otherwise_least s sh k p x = tt

setting_least : (s : Setting) (sh : Shape) (k : List Frame) → least (state s sh k) ≡ least (state in_method sh k)
setting_least s (using reading) k = refl
setting_least s sh k = refl

forward_least : (s : Setting) (sh : Shape) (k : List Frame) (p : Place) (x : Lexeme) → LeastFrom (least (state s sh k)) (forward s sh k p x)
forward_least s sh k p x = go (in_place x sh k p) (in_place_least x sh k p)
  where
    beyond_least : (o : Option Tree) → tree sh ≡ o → LeastFrom (least (state s sh k)) (beyond o s sh k p x)
    beyond_least None h = otherwise_least s sh k p x
    beyond_least (Some e) h = at_most_least (least (state s sh k)) (need (height e) k) (after s sh e k p x) (subst (λ l. least (state s sh k) ≤ need l k) (tree_least sh e h) (form_le s sh k)) (after_least s sh e k p x h)

    on : (o : Option Next) → AtLeast (shape_least sh) o → LeastFrom (least (state s sh k)) (go_on o s sh k p x)
    on None a = beyond_least (tree sh) refl
    on (Some n) a = at_most_least (least (state s sh k)) (need (shape_least sh) k) (Some (entered s k n)) (form_le s sh k) (entered_least (shape_least sh) s k (Some n) a)

    same_least : least (state s sh k) ≡ least (state in_method sh k)
    same_least = setting_least s sh k

    go : (o : Option State) → LeastFrom (least (state in_method sh k)) o → LeastFrom (least (state s sh k)) (first_of o (go_on (grow s sh p x) s sh k p x))
    go None a = on (grow s sh p x) (grow_least s sh p x)
    go (Some st) a = omega (arith, a, same_least)

step_least : (st : State) (t : Token) → LeastFrom (least st) (step st t)
step_least (state s (string_opened q) k) (token p x) = go (loose x)
  where
    go : (y : Lexeme) → LeastFrom (need 1 k) (opened s q k p y)
    go (string t) = forward_least s (string_opened q) k p (string t)
    go y = at_most_least (need 1 k) (need 2 k) (forward (inside s) fresh (inside_frame s (first_item q) ∷ k) p y) (need_le k 1 2 (omega arith)) (forward_least (inside s) fresh (inside_frame s (first_item q) ∷ k) p y)
step_least (state s sh k) (token p x) = forward_least s sh k p (bare sh x)
step_least (becoming s c p v k) (token q (mark equal)) = need_le k (1 + max (height_in_variable v) 1) (1 + max (height_in_variable v) 1) (omega arith)
step_least (becoming s c p v k) (token q (mark m)) = tt
step_least (becoming s c p v k) (token q x) = tt

same_some : {x y : State} → Some x ≡ Some y → x ≡ y
same_some h = cc

pub walk_least : (ts : List Token) (st st' : State) → walk st ts ≡ Some st' → least st ≤ least st'
walk_least [] st st' h = subst (λ x. least st ≤ least x) (same_some h) (omega arith)
walk_least (t ∷ ts) st st' h = go (λ x h'. walk_least ts x st' h') (step st t) (step_least st t) h
  where
    go : ((x : State) → walk x ts ≡ Some st' → least x ≤ least st') → (o : Option State) → LeastFrom (least st) o → option_and_then (λ x. walk x ts) o ≡ Some st' → least st ≤ least st'
    go ih None a h = absurd cc
    go ih (Some x) a h = omega (arith, ih x h)

pub accept_least : (st : State) (e : Tree) → accept st ≡ Some e → least st ≡ height e
accept_least (becoming s c p v k) e h = absurd cc
accept_least (state s sh k) e h = go (whole_in s sh) refl h
  where
    all_least : (x : Tree) (k : List Frame) → all_of x k ≡ Some e → need (height x) k ≡ height e
    all_least x [] h = let same : x ≡ e = cc in ap height same
    all_least x (f ∷ k) h = absurd cc

    whole_least : (sh : Shape) (x : Tree) → tree sh ≡ Some x → least (state s sh k) ≡ need (shape_least sh) k
    whole_least (using u) x t = absurd cc
    whole_least sh x t = refl

    go : (o : Option Tree) → whole_in s sh ≡ o → accepted o k ≡ Some e → least (state s sh k) ≡ height e
    go None t h = absurd cc
    go (Some x) t h = whole_least sh x (whole_tree s sh x t) ∙ ap (λ l. need l k) (tree_least sh x (whole_tree s sh x t)) ∙ sym (need_reduce 22 (omega arith) k x) ∙ all_least (reduce 22 x k).0 (reduce 22 x k).1 h

-- where the state needs more than n, each expression that begins so is higher than n
pub too_high : (s : Setting) (n : ℕ) (ts : List Token) (st : State) → walk (start s) ts ≡ Some st → n < least st → IsTooHigh s n ts
too_high s n ts st h lt rest e r =
    let c = complete s r in
    let w : walk st rest ≡ Some c.0 = sym (goes_on (start s) st ts rest h) ∙ c.1 in
    omega (arith, walk_least rest st c.0 w, accept_least c.0 e c.2)
