-- What has been read can be ended to an expression of the least height.
use Rattle.std.proofs.Common.{◌≡◌, ℕ, suc, ◌≤◌, List, [], ◌∷◌, ◌++◌, Option, Some, None, true, false, refl, sym, ap, ◌∙◌, arith}
use Rattle.std.specs.Prelude.{option_and_then}
use Rattle.p8_tree.specs.declared.places.Place.{Place}
use Rattle.p8_tree.specs.Expressions.{Tree, node, Str, Strings, Var, Change, ObjConst, Built, Look, Variable, Named, Part, Memory, Register, no_index, index, whole, bits, single, range, no_trees, ◌▷◌, no_items, ◌▸◌}
use Rattle.p8_grammar.specs.Lexemes.{Setting, allows_index, inside, behind, memory, Mark, left_parenthesis, right_parenthesis, left_bracket, right_bracket, colon, dot, equal, Lexeme, number, name, string, mark, changes, size, reserved, token, Token}
use Rattle.p8_grammar.specs.Grammar.{Row, calls, applied, with_characters, Reads, IsFront}
use Rattle.p8_grammar.specs.Machine.{reading, Shape, using, sized, named, element, part, trapped_element, headed, becoming, done, Hole, memory_address, first_item, choice_of, Next, stays, opens, fresh, tree, target, whole_in, close, Frame, infix_frame, assign_frame, inside_frame, wrap, reduce, State, state, entered, entered_all, fill_hole, step, walk, all_of, accepted, accept, start, left_variable}
use Rattle.p8_grammar.specs.Heights.{height, IsTooHigh}
use Rattle.p8_grammar.specs.Least.{shape_least, filled, need, operand_least, least}
use Rattle.p8_grammar.proofs.Walks.{walk_append, goes_on, steps_on, wraps, only, boolean_most}
use Rattle.p8_grammar.proofs.FormsStand.{ShapeStands, is_using, is_coloned, is_sized, is_plain_dot, is_dotted, is_trapping, is_trapped_element, is_object_dot, is_hashed, is_string_begun, is_string_opened, is_string_read, is_strings_read, is_constant_begun, is_look_begun, is_choices_read, HoleStands, is_parenthesis, is_plain_index, is_name_index, is_part_index, is_memory_address, is_memory_index, is_first_bit, is_last_bit, is_trapped_index, is_argument, is_next_item, is_constant, is_look_for, is_choice, is_choice_to}
use Rattle.p8_grammar.proofs.FormsRead.{changes_after, standing, done_whole, whole_tree}
use Rattle.p8_grammar.proofs.Steps.{mark_step, grown_step}
use Rattle.p8_grammar.proofs.Complete.{complete}
use Rattle.p8_grammar.proofs.Sound.{Pending, nothing_pending, after_operator, in_hole, in_first, Begun, Stands, becomes, walk_stands, start_stands, sound}
use Rattle.p8_grammar.proofs.Tall.{tree_least, target_least, need_le, need_wrap, applied_least}

somewhere : Place
somewhere = record { line = 1; column = 1 }

-- a name that a source may have, and a string
abbrev pub letter : List ℕ
letter = 65 ∷ []

-- BYTE
abbrev pub byte_word : List ℕ
byte_word = 66 ∷ 89 ∷ 84 ∷ 69 ∷ []

-- the words that end forms, each of which a source may have
pub data IsEnding : Lexeme → Type 0 where
  a_name : IsEnding (name letter)
  a_number : IsEnding (number 0)
  a_string : IsEnding (string letter)
  a_size : IsEnding (reserved byte_word (size 1))
  -- `++`, before and after a variable
  a_change : IsEnding (changes 0x20 0x28)
  a_mark : (m : Mark) → IsEnding (mark m)

pub data AreEndings : List Token → Type 0 where
  none : AreEndings []
  another : {p : Place} {x : Lexeme} {ts : List Token} → IsEnding x → AreEndings ts → AreEndings (token p x ∷ ts)

both_end : {ts us : List Token} → AreEndings ts → AreEndings us → AreEndings (ts ++ us)
both_end none y = y
both_end (another x y) z = another x (both_end y z)

-- a name's tree
abbrev alone : Tree
alone = node somewhere (Var (Named letter no_index somewhere))

-- words that make a whole form one that stands in its setting, at its height: a change of a variable, in an action
record Lasting (s : Setting) (sh : Shape) : Type 0 where
  rest : List Token
  endings : AreEndings rest
  whole : Shape
  top : Tree
  walks : (k : List Frame) → walk (state s sh k) rest ≡ Some (state s whole k)
  has : whole_in s whole ≡ Some top
  low : shape_least whole ≤ shape_least sh

lasting : (s : Setting) (sh : Shape) (e : Tree) → tree sh ≡ Some e → Lasting s sh
lasting s sh e t = go (whole_in s sh) refl (target sh) refl
  where
    go : (o : Option Tree) → whole_in s sh ≡ o → (v : Option Variable) → target sh ≡ v → Lasting s sh
    go (Some x) h v w = record { rest = []; endings = none; whole = sh; top = x; walks = λ k. refl; has = h; low = omega arith }
    go None h None w = let x = sym h ∙ standing s sh e t w in absurd cc
    go None h (Some v) w =
        let c : Tree = node somewhere (Change v 0x28) in
        record {
          rest = token somewhere (changes 0x20 0x28) ∷ [];
          endings = another a_change none;
          whole = done c;
          top = c;
          walks = λ k. steps_on (state s sh k) (state s (done c) k) (token somewhere (changes 0x20 0x28)) [] (grown_step s sh k somewhere (changes 0x20 0x28) (stays (done c)) (changes_after s sh somewhere 0x20 0x28 v w));
          has = done_whole s c;
          low = omega (arith, target_least sh v w);
        }

-- words that end a form at its least height
record Completed (s : Setting) (sh : Shape) : Type 0 where
  rest : List Token
  endings : AreEndings rest
  whole : Shape
  top : Tree
  walks : (k : List Frame) → walk (state s sh k) rest ≡ Some (state s whole k)
  has : tree whole ≡ Some top
  low : shape_least whole ≤ shape_least sh

already : (s : Setting) (sh : Shape) (e : Tree) → tree sh ≡ Some e → Completed s sh
already s sh e h = record { rest = []; endings = none; whole = sh; top = e; walks = λ k. refl; has = h; low = omega arith }

completed : {s : Setting} {sh : Shape} {row : Row} → ShapeStands s sh row → Completed s sh
completed (is_using {u = u} y) = record { rest = token somewhere (name letter) ∷ []; endings = another a_name none; whole = named true u somewhere letter; top = _; walks = λ k. refl; has = refl; low = omega arith }
completed (is_coloned {u = u} {p = p} y d) = record { rest = token somewhere (name letter) ∷ []; endings = another a_name none; whole = named false u p (58 ∷ letter); top = _; walks = λ k. refl; has = refl; low = omega arith }
completed {s = s} (is_sized {u = u} {p = p} {z = z} y i) =
    record {
      rest = token somewhere (mark left_bracket) ∷ token somewhere (name letter) ∷ token somewhere (mark right_bracket) ∷ [];
      endings = another (a_mark left_bracket) (another a_name (another (a_mark right_bracket) none));
      whole = part u (Memory z alone no_index p) memory;
      top = _;
      walks = λ k. steps_on (state s (sized u p z) k) (state (inside s) fresh (inside_frame s (memory_address u p z) ∷ k)) (token somewhere (mark left_bracket)) (token somewhere (name letter) ∷ token somewhere (mark right_bracket) ∷ []) (grown_step s (sized u p z) k somewhere (mark left_bracket) _ (only (allows_index s) _ i));
      has = refl;
      low = omega arith;
    }
completed (is_plain_dot {u = u} {p = p} {n = n} y) = record { rest = token somewhere (reserved byte_word (size 1)) ∷ []; endings = another a_size none; whole = part u (Part n 1 no_index p) memory; top = _; walks = λ k. refl; has = refl; low = omega arith }
completed (is_dotted {u = u} {p = p} {n = n} y x) = record { rest = token somewhere (reserved byte_word (size 1)) ∷ []; endings = another a_size none; whole = part u (Part n 1 no_index p) memory; top = _; walks = λ k. refl; has = refl; low = omega arith }
completed is_trapping = record { rest = token somewhere (name letter) ∷ []; endings = another a_name none; whole = headed (calls true None no_index letter somewhere somewhere); top = _; walks = λ k. refl; has = refl; low = omega arith }
completed (is_trapped_element {p = p} {n = n} {e = e} i) = record { rest = token somewhere (mark dot) ∷ token somewhere (name letter) ∷ []; endings = another (a_mark dot) (another a_name none); whole = headed (calls true (Some n) (index e) letter somewhere p); top = _; walks = λ k. refl; has = refl; low = omega arith }
completed (is_object_dot {t = t} {p = p} {n = n} {i = i} f) = record { rest = token somewhere (name letter) ∷ []; endings = another a_name none; whole = headed (calls t (Some n) i letter somewhere p); top = _; walks = λ k. refl; has = refl; low = omega arith }
completed (is_hashed {p = p} {n = n} d) = record { rest = token somewhere (name letter) ∷ []; endings = another a_name none; whole = done (node p (ObjConst n letter somewhere)); top = _; walks = λ k. refl; has = refl; low = omega arith }
completed (is_string_begun {p = p} d) = record { rest = token somewhere (mark left_parenthesis) ∷ token somewhere (string letter) ∷ token somewhere (mark right_parenthesis) ∷ []; endings = another (a_mark left_parenthesis) (another a_string (another (a_mark right_parenthesis) none)); whole = done (node p (Str letter)); top = _; walks = λ k. refl; has = refl; low = omega arith }
completed (is_string_opened {p = p} d) = record { rest = token somewhere (string letter) ∷ token somewhere (mark right_parenthesis) ∷ []; endings = another a_string (another (a_mark right_parenthesis) none); whole = done (node p (Str letter)); top = _; walks = λ k. refl; has = refl; low = omega arith }
completed (is_string_read {p = p} {c = c} {t = t} d) = record { rest = token somewhere (mark right_parenthesis) ∷ []; endings = another (a_mark right_parenthesis) none; whole = done (node p (Str (c ∷ t))); top = _; walks = λ k. refl; has = refl; low = omega arith }
completed (is_strings_read {p = p} {r = r} {c = c} {d = e} {t = t} {es = es} d a) = record { rest = token somewhere (mark right_parenthesis) ∷ []; endings = another (a_mark right_parenthesis) none; whole = done (node p (Strings (es ▷ node r (Str (c ∷ e ∷ t))))); top = _; walks = λ k. refl; has = refl; low = omega arith }
completed (is_constant_begun {p = p} d) =
    record { rest = token somewhere (mark left_parenthesis) ∷ token somewhere (name letter) ∷ token somewhere (mark right_parenthesis) ∷ []; endings = another (a_mark left_parenthesis) (another a_name (another (a_mark right_parenthesis) none)); whole = done (node p (Built 0 (no_trees ▷ alone))); top = _; walks = λ k. refl; has = refl; low = omega arith }
completed (is_look_begun {p = p} {k = c} d) =
    record {
      rest = token somewhere (mark left_parenthesis) ∷ token somewhere (name letter) ∷ token somewhere (mark colon) ∷ token somewhere (name letter) ∷ token somewhere (mark right_parenthesis) ∷ [];
      endings = another (a_mark left_parenthesis) (another a_name (another (a_mark colon) (another a_name (another (a_mark right_parenthesis) none))));
      whole = done (node p (Look c alone (no_items ▸ single alone)));
      top = _;
      walks = λ k. refl;
      has = refl;
      low = omega arith;
    }
completed (is_choices_read {p = p} {r = r} {k = j} {x = x} {c = c} {d = e} {t = t} {xs = xs} d a) = record { rest = token somewhere (mark right_parenthesis) ∷ []; endings = another (a_mark right_parenthesis) none; whole = done (node p (Look j x (with_characters r (c ∷ e ∷ t) xs))); top = _; walks = λ k. refl; has = refl; low = omega arith }
completed {s = s} st = already s _ _ refl

-- words that end a form whose next expression is there, at its least height
record Filled (s : Setting) (hole : Hole) (e : Tree) : Type 0 where
  rest : List Token
  endings : AreEndings rest
  whole : Shape
  top : Tree
  walks : (s' : Setting) (sh : Shape) (x : Tree) (k k' : List Frame) → tree sh ≡ Some x → reduce 22 x k ≡ (e, inside_frame s hole ∷ k') → walk (state s' sh k) rest ≡ Some (state s whole k')
  has : tree whole ≡ Some top
  low : shape_least whole ≤ filled (height e) hole

ended_by : (s s' : Setting) (hole : Hole) (e x : Tree) (sh : Shape) (k k' : List Frame) (m : Mark) (n : Next) → tree sh ≡ Some x → reduce 22 x k ≡ (e, inside_frame s hole ∷ k') → close m hole e ≡ Some n → step (state s' sh k) (token somewhere (mark m)) ≡ Some (entered s k' n)
ended_by s s' hole e x sh k k' m n h r c =
    mark_step s' sh k somewhere m hole e x n h c ∙ ap (λ q. fill_hole m q.0 q.1) r ∙ ap (λ o. entered_all s k' o) c

-- the mark alone ends the form
closed : (s : Setting) (hole : Hole) (e : Tree) (m : Mark) (sh' : Shape) (top : Tree) → close m hole e ≡ Some (stays sh') → tree sh' ≡ Some top → shape_least sh' ≤ filled (height e) hole → Filled s hole e
closed s hole e m sh' top c t low =
    record {
      rest = token somewhere (mark m) ∷ [];
      endings = another (a_mark m) none;
      whole = sh';
      top = top;
      walks = λ s' sh x k k' h r. steps_on (state s' sh k) (state s sh' k') (token somewhere (mark m)) [] (ended_by s s' hole e x sh k k' m (stays sh') h r c);
      has = t;
      low = low;
    }

-- the mark and other words end it
closed_by : (s : Setting) (hole : Hole) (e : Tree) (m : Mark) (n : Next) (more : List Token) (sh' : Shape) (top : Tree) → AreEndings more → close m hole e ≡ Some n → ((k : List Frame) → walk (entered s k n) more ≡ Some (state s sh' k)) → tree sh' ≡ Some top → shape_least sh' ≤ filled (height e) hole → Filled s hole e
closed_by s hole e m n more sh' top y c w t low =
    record {
      rest = token somewhere (mark m) ∷ more;
      endings = another (a_mark m) y;
      whole = sh';
      top = top;
      walks = λ s' sh x k k' h r. steps_on (state s' sh k) (entered s k' n) (token somewhere (mark m)) more (ended_by s s' hole e x sh k k' m n h r c) ∙ w k';
      has = t;
      low = low;
    }

filled_in : {s : Setting} {hole : Hole} {row : Row} → HoleStands s hole row → (e : Tree) → Filled s hole e
filled_in {s = s} (is_parenthesis d) e = closed s _ e right_parenthesis (done e) e refl refl (omega arith)
filled_in {s = s} (is_plain_index {u = reading} {p = p} {n = n} y i) e = closed s _ e right_bracket (element p n e) _ refl refl (omega arith)
filled_in {s = s} (is_plain_index {u = u} {p = p} {n = n} y i) e = closed s _ e right_bracket (part u (Named n (index e) p) memory) _ refl refl (omega arith)
filled_in {s = s} (is_name_index {u = u} {p = p} {n = n} y i x) e = closed s _ e right_bracket (part u (Named n (index e) p) memory) _ refl refl (omega arith)
filled_in {s = s} (is_part_index {u = u} {p = p} {n = n} {z = z} y i x) e = closed s _ e right_bracket (part u (Part n z (index e) p) memory) _ refl refl (omega arith)
filled_in {s = s} (is_memory_address {u = u} {p = p} {z = z} y i) e = closed s _ e right_bracket (part u (Memory z e no_index p) memory) _ refl refl (omega arith)
filled_in {s = s} (is_memory_index {u = u} {p = p} {z = z} {e = a} y i) e = closed s _ e right_bracket (part u (Memory z a (index e) p) memory) _ refl refl (omega arith)
filled_in {s = s} (is_first_bit {u = u} {p = p} {a = a} {x = x} y i b c t) e = closed s _ e right_bracket (part u (Register a (bits (single e)) p) x) _ refl refl (omega arith)
filled_in {s = s} (is_last_bit {u = u} {p = p} {a = a} {x = x} {low = low} y i b c t) e = closed s _ e right_bracket (part u (Register a (bits (range low e)) p) x) _ refl refl (omega arith)
filled_in {s = s} (is_trapped_index {p = p} {n = n} i) e = closed_by s _ e right_bracket (stays (trapped_element p n e)) (token somewhere (mark dot) ∷ token somewhere (name letter) ∷ []) (headed (calls true (Some n) (index e) letter somewhere p)) _ (another (a_mark dot) (another a_name none)) refl (λ k. refl) refl (omega arith)
filled_in {s = s} (is_argument {h = h} {es = es} f a) e = closed s _ e right_parenthesis (done (applied h (es ▷ e))) _ refl refl (omega (arith, applied_least h es e))
filled_in {s = s} (is_next_item {p = p} {es = es} d a) e = closed s _ e right_parenthesis (done (node p (Strings (es ▷ e)))) _ refl refl (omega arith)
filled_in {s = s} (is_constant {p = p} d) e = closed s _ e right_parenthesis (done (node p (Built 0 (no_trees ▷ e)))) _ refl refl (omega arith)
filled_in {s = s} (is_look_for {p = p} {k = c} d) e = closed_by s _ e colon (opens (choice_of p c e no_items)) (token somewhere (name letter) ∷ token somewhere (mark right_parenthesis) ∷ []) (done (node p (Look c e (no_items ▸ single alone)))) _ (another a_name (another (a_mark right_parenthesis) none)) refl (λ k. refl) refl (omega arith)
filled_in {s = s} (is_choice {p = p} {k = c} {x = x} {xs = xs} d y) e = closed s _ e right_parenthesis (done (node p (Look c x (xs ▸ single e)))) _ refl refl (omega arith)
filled_in {s = s} (is_choice_to {p = p} {k = c} {x = x} {low = low} {xs = xs} d y) e = closed s _ e right_parenthesis (done (node p (Look c x (xs ▸ range low e)))) _ refl refl (omega arith)

-- words that end a state to an expression of at most this height
pub record EndsAt (st : State) (n : ℕ) : Type 0 where
  pub rest : List Token
  pub endings : AreEndings rest
  pub end : State
  pub top : Tree
  pub is : walk st rest ≡ Some end
  pub accepts : accept end ≡ Some top
  pub low : height top ≤ n

-- a form with its expression
after_form : {s : Setting} {k : List Frame} {hole : Hole} {e : Tree} → Filled s hole e → ((e : Tree) (s' : Setting) (sh : Shape) (k' : List Frame) (x : Tree) → whole_in s' sh ≡ Some x → reduce 22 x k' ≡ reduce 22 e k → EndsAt (state s' sh k') (need (height e) k)) → (s' : Setting) (sh : Shape) (k' : List Frame) (x : Tree) → tree sh ≡ Some x → reduce 22 x k' ≡ (e, inside_frame s hole ∷ k) → EndsAt (state s' sh k') (need (filled (height e) hole) k)
after_form {s = s} {k = k} {hole = hole} {e = e} f below s' sh k' x h r =
    let g = lasting s f.whole f.top f.has in
    let y = below g.top s g.whole k g.top g.has refl in
    record {
      rest = f.rest ++ (g.rest ++ y.rest);
      endings = both_end f.endings (both_end g.endings y.endings);
      end = y.end;
      top = y.top;
      is = goes_on (state s' sh k') (state s f.whole k) f.rest (g.rest ++ y.rest) (f.walks s' sh x k' k h r) ∙ goes_on (state s f.whole k) (state s g.whole k) g.rest y.rest (g.walks k) ∙ y.is;
      accepts = y.accepts;
      low = omega (arith, y.low, need_le k (height g.top) (filled (height e) hole) (omega (arith, f.low, g.low, tree_least g.whole g.top (whole_tree s g.whole g.top g.has))));
    }

ends : {s0 s : Setting} {k : List Frame} {us : List Token} → Pending s0 s k us → (e : Tree) (s' : Setting) (sh : Shape) (k' : List Frame) (x : Tree) → whole_in s' sh ≡ Some x → reduce 22 x k' ≡ reduce 22 e k → EndsAt (state s' sh k') (need (height e) k)
ends nothing_pending e s' sh k' x h r =
    record { rest = []; endings = none; end = state s' sh k'; top = e; is = refl; accepts = ap (λ o. accepted o k') h ∙ ap (λ q. all_of q.0 q.1) r; low = omega arith }
ends (after_operator {f = f} {k = k} vs l p d same kept alike small low b w m g) e s' sh k' x h r =
    let y = ends p (wrap f e) s' sh k' x h (r ∙ wraps 22 e f k b) in
    record { rest = y.rest; endings = y.endings; end = y.end; top = y.top; is = y.is; accepts = y.accepts; low = omega (arith, y.low, need_wrap f e k b) }
ends (in_hole {s = s} {h = hole} {k = k} p stands sp a) e s' sh k' x h r =
    after_form (filled_in stands e) (λ e s' sh k' x h r. ends p e s' sh k' x h r) s' sh k' x (whole_tree s' sh x h) r
ends (in_first {s = s} {p = q} {k = k} p d sp a) e s' sh k' x h r =
    after_form (closed s (first_item q) e right_parenthesis (done (node q (Strings (no_trees ▷ e)))) _ refl refl (omega arith)) (λ e s' sh k' x h r. ends p e s' sh k' x h r) s' sh k' x (whole_tree s' sh x h) r

ends_form : (s0 s : Setting) (sh : Shape) (k : List Frame) (ts : List Token) → Begun s0 s (stays sh) k ts → EndsAt (state s sh k) (need (shape_least sh) k)
ends_form s0 s sh k ts b =
    let c = completed b.stands in
    let g = lasting s c.whole c.top c.has in
    let y = ends b.pending g.top s g.whole k g.top g.has refl in
    record {
      rest = c.rest ++ (g.rest ++ y.rest);
      endings = both_end c.endings (both_end g.endings y.endings);
      end = y.end;
      top = y.top;
      is = goes_on (state s sh k) (state s c.whole k) c.rest (g.rest ++ y.rest) (c.walks k) ∙ goes_on (state s c.whole k) (state s g.whole k) g.rest y.rest (g.walks k) ∙ y.is;
      accepts = y.accepts;
      low = omega (arith, y.low, need_le k (height g.top) (shape_least sh) (omega (arith, c.low, g.low, tree_least g.whole g.top (whole_tree s g.whole g.top g.has))));
    }

-- where an operand comes
ends_fresh : (s0 s : Setting) (k : List Frame) (ts us : List Token) → Begun s0 s (stays fresh) k ts → Pending s0 s k us → EndsAt (state s fresh k) (operand_least k)
ends_fresh s0 s k ts us b (after_operator {s = s'} {f = infix_frame r c p (left_variable v)} {k = k'} {us = us'} vs l pend d same kept alike small low h w may g) =
    let y = ends_form s0 (behind s') fresh (assign_frame (Some c) p v ∷ k') _ (becomes s0 s' r c p somewhere v k' us' vs pend may) in
    let e = same (omega (arith, boolean_most (suc r) may.boolean)) in
    record { rest = token somewhere (mark equal) ∷ y.rest; endings = another (a_mark equal) y.endings; end = y.end; top = y.top; is = ap (λ s. walk (state (behind s) fresh (assign_frame (Some c) p v ∷ k')) y.rest) (sym e) ∙ y.is; accepts = y.accepts; low = y.low }
ends_fresh s0 s k ts us b pend = ends_form s0 s fresh k ts b

ends_state : (s0 : Setting) (st : State) (ts : List Token) → Stands s0 st ts → EndsAt st (least st)
ends_state s0 (state s (using reading) k) ts b = ends_fresh s0 s k ts b.us b b.pending
ends_state s0 (state s sh k) ts b = ends_form s0 s sh k ts b
ends_state s0 (becoming s c p v k) ts b =
    let y = ends_form s0 (behind s) fresh (assign_frame (Some c) p v ∷ k) _ (becomes s0 s b.r c p somewhere v k b.us b.vs b.pending b.becoming_) in
    record { rest = token somewhere (mark equal) ∷ y.rest; endings = another (a_mark equal) y.endings; end = y.end; top = y.top; is = y.is; accepts = y.accepts; low = y.low }

-- an expression that goes on from what has been read, of the least height
pub record GoesOn (s : Setting) (ts : List Token) (n : ℕ) : Type 0 where
  pub rest : List Token
  pub endings : AreEndings rest
  pub top : Tree
  pub reads : Reads s 22 top (ts ++ rest)
  pub low : height top ≤ n

pub live : (s : Setting) (ts : List Token) (st : State) → walk (start s) ts ≡ Some st → GoesOn s ts (least st)
live s ts st h =
    let y = ends_state s st ts (walk_stands s ts [] (start s) st (start_stands s) h) in
    record { rest = y.rest; endings = y.endings; top = y.top; reads = sound s (ts ++ y.rest) y.end y.top (goes_on (start s) st ts y.rest h ∙ y.is) y.accepts; low = y.low }

pub is_front : (s : Setting) (ts : List Token) (st : State) → walk (start s) ts ≡ Some st → IsFront s ts
is_front s ts st h = let y = live s ts st h in (y.rest, y.top, y.reads)

-- where the state needs at most n, some expression that begins so is no higher
pub not_too_high : (s : Setting) (n : ℕ) (ts : List Token) (st : State) → walk (start s) ts ≡ Some st → least st ≤ n → ¬ IsTooHigh s n ts
not_too_high s n ts st h le high = let y = live s ts st h in let lt = high y.rest y.top y.reads in omega (arith, lt, y.low)

-- what can't be read begins no expression
pub dead : (s : Setting) (ts : List Token) → walk (start s) ts ≡ None → ¬ IsFront s ts
dead s ts h (rest, e, r) =
    let c = complete s r in
    let w : walk (start s) (ts ++ rest) ≡ None = walk_append (start s) ts rest ∙ ap (λ o. option_and_then (λ x. walk x rest) o) h in
    let e = sym w ∙ c.1 in cc

-- what begins an expression is ended by words that a source may have
pub front_ends : (s : Setting) (ts : List Token) → IsFront s ts → (n : ℕ) × GoesOn s ts n
front_ends s ts f = go (walk (start s) ts) refl
  where
    go : (o : Option State) → walk (start s) ts ≡ o → (n : ℕ) × GoesOn s ts n
    go None h = absurd (dead s ts h f)
    go (Some st) h = (least st, live s ts st h)

-- tokens spell at most one tree
pub one_tree : (s : Setting) (ts : List Token) (e e' : Tree) → Reads s 22 e ts → Reads s 22 e' ts → e ≡ e'
one_tree s ts e e' r r' =
    let c = complete s r in
    let c' = complete s r' in
    let same = sym c.1 ∙ c'.1 in
    let h = c.2 in
    let h' = c'.2 in
    cc
