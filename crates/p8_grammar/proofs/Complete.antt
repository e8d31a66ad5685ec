-- The reader reads what the grammar spells.
use Rattle.std.proofs.Common.{◌≡◌, ℕ, suc, ◌*◌, ◌<◌, ◌≤◌, List, [], ◌∷◌, ◌++◌, Option, Some, None, refl, ap, ◌∙◌, arith}
use Rattle.std.specs.Prelude.{option_and_then, IsTrue}
use Rattle.p8_tree.specs.declared.places.Place.{Place}
use Rattle.p8_tree.specs.Expressions.{Tree, node, Binary, whole}
use Rattle.p8_grammar.specs.Lexemes.{Setting, is_value, inside, behind, equal, mark, assigns, reserved, token, Token}
use Rattle.p8_grammar.specs.Grammar.{word, upto, unquoted, Row, Reads, operand, before, between, assigned_by_word, Spells, nothing, a_word, a_reserved_word, an_expression, an_unquoted}
use Rattle.p8_grammar.specs.Machine.{reading, Shape, string_opened, Hole, first_item, Next, stays, opens, fresh, whole_in, Frame, prefix_frame, infix_frame, assign_frame, inside_frame, level_bound_of, reduce, State, state, entered, entered_all, fill_hole, walk, all_of, accepted, accept, start}
use Rattle.p8_grammar.specs.Grammar.{assigned}
use Rattle.p8_grammar.proofs.Walks.{goes_on, one_step, steps_on, kept, wraps}
use Rattle.p8_grammar.proofs.Settings.{behind_value, behind_same}
use Rattle.p8_grammar.proofs.FormsRead.{fed, run, variables_run, forms_run, written_target, whole_tree}
use Rattle.p8_grammar.proofs.Steps.{no_item, prefix_step, infix_step, word_assigns, grown_step, reserved_grown, item_step, mark_step, assign_step, opened_walk}

-- the walk has read an operand, and has what it would have with e
pub record Arrives (s : Setting) (l : ℕ) (e : Tree) (k : List Frame) (o : Option State) : Type 0 where
  pub sh : Shape
  pub frames : List Frame
  pub top : Tree
  pub to : Setting
  pub is : o ≡ Some (state to sh frames)
  -- where a value is read, the setting stays
  pub same_setting : IsTrue (is_value s) → to ≡ s
  pub whole : whole_in to sh ≡ Some top
  pub same : (j : ℕ) → l ≤ 2 * j → reduce (2 * j) top frames ≡ reduce (2 * j) e k

same_next : {n n' : Next} → Some n ≡ Some n' → n ≡ n'
same_next h = cc

mutual
  pub arrives : {s : Setting} {l : ℕ} {e : Tree} {ts : List Token} → Reads s l e ts → l ≤ 22 → (k : List Frame) → l < level_bound_of k → Arrives s l e k (walk (state s fresh k) ts)
  arrives {s = s} {e = e} (operand f sp) small k lt =
      let r = forms_run f in
      record { sh = r.sh; frames = k; top = e; to = s; is = spelled sp (stays r.sh) r.is k; same_setting = λ d. refl; whole = r.whole; same = λ j h. refl }
  arrives {s = s} (before {x = x} {o = o} {p = p} {e = e} {ts = ts} d h le r) small k lt =
      let a = arrives r (omega arith) (prefix_frame o p ∷ k) (omega arith) in
      record {
        sh = a.sh;
        frames = a.frames;
        top = a.top;
        is = steps_on (state s fresh k) (state s fresh (prefix_frame o p ∷ k)) (token p x) ts (prefix_step s k p x o d h (omega arith)) ∙ a.is;
        to = a.to;
        same_setting = a.same_setting;
        whole = a.whole;
        same = λ j hj. a.same j (omega arith) ∙ wraps (2 * j) e (prefix_frame o p) k (omega arith);
      }
  arrives {s = s} (between {r = r} {k = c} {p = p} {a = a} {b = b} {ts = ts} {us = us} x d h tight le ra rb) small k lt =
      let y = arrives ra (omega arith) k (omega arith) in
      let o = infix_step s y.sh y.frames k p x y.top a r c d h (whole_tree y.to y.sh y.top y.whole) tight (y.same (suc r) (omega arith) ∙ kept (2 * suc r) a k (omega arith)) in
      let z = arrives rb (omega arith) (infix_frame r c p o.left ∷ k) (omega arith) in
      record {
        sh = z.sh;
        frames = z.frames;
        top = z.top;
        to = z.to;
        same_setting = z.same_setting;
        is = goes_on (state s fresh k) (state s y.sh y.frames) ts (token p x ∷ us) (y.is ∙ ap (λ t. Some (state t y.sh y.frames)) (y.same_setting d))
            ∙ steps_on (state s y.sh y.frames) (state s fresh (infix_frame r c p o.left ∷ k)) (token p x) us o.is
            ∙ z.is;
        whole = z.whole;
        same = λ i hi. z.same i (omega arith) ∙ wraps (2 * i) b (infix_frame r c p o.left) k (omega arith) ∙ ap (λ l. reduce (2 * i) (node p (Binary c l b)) k) o.same;
      }
  arrives {s = s} (assigned {o = o} {p = p} {v = v} {e = e} {ts = ts} {us = us} x le w y sp r) small k lt =
      let z = variables_run y reading refl refl in
      let a = arrives r (omega arith) (assign_frame o p v ∷ k) (omega arith) in
      record {
        sh = a.sh;
        frames = a.frames;
        top = a.top;
        is = goes_on (state s fresh k) (state s z.sh k) ts (token p (assigns o) ∷ us) (spelled sp (stays z.sh) z.is k)
            ∙ steps_on (state s z.sh k) (state (behind s) fresh (assign_frame o p v ∷ k)) (token p (assigns o)) us (assign_step s z.sh k p o _ v z.whole (written_target x v z.sh w z.written) (omega arith))
            ∙ a.is;
        to = a.to;
        same_setting = λ d. a.same_setting (behind_value s) ∙ behind_same s d;
        whole = a.whole;
        same = λ i hi. a.same i (omega arith) ∙ wraps (2 * i) e (assign_frame o p v) k (omega arith);
      }
  arrives {s = s} (assigned_by_word {k = c} {p = p} {v = v} {e = e} {ts = ts} {us = us} x o r q le w f b y sp rd) small k lt =
      let z = variables_run y reading refl refl in
      let a = arrives rd (omega arith) (assign_frame (Some c) p v ∷ k) (omega arith) in
      record {
        sh = a.sh;
        frames = a.frames;
        top = a.top;
        is = goes_on (state s fresh k) (state s z.sh k) ts (token p o ∷ token q (mark equal) ∷ us) (spelled sp (stays z.sh) z.is k)
            ∙ word_assigns s z.sh k p q o r c _ v us f z.whole (written_target x v z.sh w z.written) b (omega arith)
            ∙ a.is;
        to = a.to;
        same_setting = λ d. a.same_setting (behind_value s) ∙ behind_same s d;
        whole = a.whole;
        same = λ i hi. a.same i (omega arith) ∙ wraps (2 * i) e (assign_frame (Some c) p v) k (omega arith);
      }

  pub spelled : {s : Setting} {row : Row} {ts : List Token} → Spells s row ts → (n : Next) → run s row ≡ Some n → (k : List Frame) → walk (state s fresh k) ts ≡ Some (entered s k n)
  spelled {s = s} nothing n h k = ap (λ n. Some (entered s k n)) (same_next h)
  spelled {s = s} (a_word {row = row} {p = p} {x = x} {ts = ts} sp) n h k = go (λ n' h'. spelled sp n' h' k) (run s row) refl h
    where
      go : ((n' : Next) → run s row ≡ Some n' → walk (state s fresh k) ts ≡ Some (entered s k n')) → (o : Option Next) → run s row ≡ o → option_and_then (λ n. fed s (word p x) n) o ≡ Some n → walk (state s fresh k) (ts ++ token p x ∷ []) ≡ Some (entered s k n)
      go ih None e f = absurd cc
      go ih (Some (opens hole)) e f =
          goes_on (state s fresh k) (state (inside s) fresh (inside_frame s hole ∷ k)) ts (token p x ∷ []) (ih (opens hole) e)
          ∙ one_step (state (inside s) fresh (inside_frame s hole ∷ k)) (entered s k n) (token p x) (item_step s (inside s) p x hole n k f)
      go ih (Some (stays sh)) e f =
          goes_on (state s fresh k) (state s sh k) ts (token p x ∷ []) (ih (stays sh) e)
          ∙ one_step (state s sh k) (entered s k n) (token p x) (grown_step s sh k p x n f)
  spelled {s = s} (a_reserved_word {row = row} {p = p} {x = x} {ts = ts} m none sp) n h k = go (λ n' h'. spelled sp n' h' k) (run s row) refl h
    where
      go : ((n' : Next) → run s row ≡ Some n' → walk (state s fresh k) ts ≡ Some (entered s k n')) → (o : Option Next) → run s row ≡ o → option_and_then (λ n. fed s (word p x) n) o ≡ Some n → walk (state s fresh k) (ts ++ token p (reserved m x) ∷ []) ≡ Some (entered s k n)
      go ih None e f = absurd cc
      go ih (Some (opens hole)) e f = absurd (no_item s p x hole n none f)
      go ih (Some (stays sh)) e f =
          goes_on (state s fresh k) (state s sh k) ts (token p (reserved m x) ∷ []) (ih (stays sh) e)
          ∙ one_step (state s sh k) (entered s k n) (token p (reserved m x)) (reserved_grown s sh k p m x n none f)
  spelled {s = s} (an_expression {row = row} {e = e} {m = m} {ts = ts} {us = us} p sp r) n h k = go (λ n' h'. spelled sp n' h' k) (λ hole. arrives r (omega arith) (inside_frame s hole ∷ k) (omega arith)) (run s row) refl h
    where
      go : ((n' : Next) → run s row ≡ Some n' → walk (state s fresh k) ts ≡ Some (entered s k n')) → ((hole : Hole) → Arrives (inside s) 22 e (inside_frame s hole ∷ k) (walk (state (inside s) fresh (inside_frame s hole ∷ k)) us)) → (o : Option Next) → run s row ≡ o → option_and_then (λ n. fed s (upto e m) n) o ≡ Some n → walk (state s fresh k) (ts ++ (us ++ token p (mark m) ∷ [])) ≡ Some (entered s k n)
      go ih arr None eq f = absurd cc
      go ih arr (Some (stays sh)) eq f = absurd cc
      go ih arr (Some (opens hole)) eq f =
          let a = arr hole in
          let st = state (inside s) fresh (inside_frame s hole ∷ k) in
          goes_on (state s fresh k) st ts (us ++ token p (mark m) ∷ []) (ih (opens hole) eq)
          ∙ goes_on st (state a.to a.sh a.frames) us (token p (mark m) ∷ []) a.is
          ∙ one_step (state a.to a.sh a.frames) (entered s k n) (token p (mark m)) (mark_step a.to a.sh a.frames p m hole e a.top n (whole_tree a.to a.sh a.top a.whole) f ∙ ap (λ q. fill_hole m q.0 q.1) (a.same 11 (omega arith)) ∙ ap (λ o. entered_all s k o) f)
  spelled {s = s} (an_unquoted {row = row} {e = e} {m = m} {ts = ts} {us = us} p sp r apart) n h k =
      go (λ n' h'. spelled sp n' h' k) (arrives r (omega arith) [] (omega arith)) (λ q. arrives r (omega arith) (inside_frame s (first_item q) ∷ k) (omega arith)) (run s row) refl h
    where
      go : ((n' : Next) → run s row ≡ Some n' → walk (state s fresh k) ts ≡ Some (entered s k n')) → Arrives (inside s) 22 e [] (walk (state (inside s) fresh []) us) → ((q : Place) → Arrives (inside s) 22 e (inside_frame s (first_item q) ∷ k) (walk (state (inside s) fresh (inside_frame s (first_item q) ∷ k)) us)) → (o : Option Next) → run s row ≡ o → option_and_then (λ n. fed s (unquoted e m) n) o ≡ Some n → walk (state s fresh k) (ts ++ (us ++ token p (mark m) ∷ [])) ≡ Some (entered s k n)
      go ih alone arr (Some (stays (string_opened q))) eq f =
          let a = arr q in
          goes_on (state s fresh k) (state s (string_opened q) k) ts (us ++ token p (mark m) ∷ []) (ih (stays (string_opened q)) eq)
          ∙ goes_on (state s (string_opened q) k) (state a.to a.sh a.frames) us (token p (mark m) ∷ []) (opened_walk s q k us alone.to alone.sh alone.frames alone.top apart alone.is (whole_tree alone.to alone.sh alone.top alone.whole) ∙ a.is)
          ∙ one_step (state a.to a.sh a.frames) (entered s k n) (token p (mark m)) (mark_step a.to a.sh a.frames p m (first_item q) e a.top n (whole_tree a.to a.sh a.top a.whole) f ∙ ap (λ q. fill_hole m q.0 q.1) (a.same 11 (omega arith)) ∙ ap (λ o. entered_all s k o) f)
      go ih alone arr None eq f = absurd cc
      go ih alone arr (Some (opens hole)) eq f = absurd cc
      go ih alone arr (Some (stays sh)) eq f = absurd cc

-- the tokens of an expression are read whole
pub complete : (s : Setting) {e : Tree} {ts : List Token} → Reads s 22 e ts → (st : State) × (walk (start s) ts ≡ Some st) × (accept st ≡ Some e)
complete s r =
    let a = arrives r (omega arith) [] (omega arith) in
    (state a.to a.sh a.frames, a.is, ap (λ o. accepted o a.frames) a.whole ∙ ap (λ q. all_of q.0 q.1) (a.same 11 (omega arith)))
