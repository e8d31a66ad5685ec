-- Code with the offsets of texts is code with 0 in their places, in which the offsets are put where texts are used.
use Rattle.std.proofs.Common.{◌≡◌, ℕ, subst, ◌∙◌, ◌-◌, ◌%◌, ◌^◌, ◌==◌, ◌&&◌, ◌||◌, nat_le, nat_lt, Bool, true, false, not, if◌then◌else◌, List, [], ◌∷◌, ◌++◌, Option, Some, None, refl, ap, arith, length}
use Rattle.p8_tree.specs.declared.places.Place.{Place}
use Rattle.p8_tree.specs.Expressions.{Tree, node, Form, Number, Str, Strings, Here, Var, Call, Unary, Binary, Assign, Change, Address, ObjectAddress, ObjConst, Built, Look, Variable, Named, Part, Memory, Register, Index, no_index, index, whole, bits, single, range, Trees, no_trees, ◌▷◌, Items, no_items, ◌▸◌}
use Rattle.p8_tree.specs.Statements.{Forever, Count, Before, After, From, Statement, statement, Action, Do, If, Case, Repeat, Next, Quit, Return, Abort, arm, Otherwise, nothing_else, otherwise, Statements, no_statements, ◌▹◌, Arms, no_arms, ◌⊳◌}
use Rattle.p8_bytecode.specs.declared.op.Op.{Op}
use Rattle.p8_bytecode.specs.Reading.{bare}
use Rattle.p8_bytecode.specs.Table.{rows}
use Rattle.p8_kinds.specs.declared.name_kinds.NameKind.{NameKind}
use Rattle.p8_kinds.specs.declared.name_kinds.NameKind.TheVariants as kinds
use Rattle.p8_words.specs.Operators.{or_zero}
use Rattle.p8_fold.specs.Values as constants
use Rattle.p8_gen.specs.Names.{Names, moved}
use Rattle.p8_gen.specs.Pieces.{Written, Piece, empty, from_place, nothing, one, ◌⨾◌, from_start, up_to_end, up_to_jumps, of_statement, byte, text, told, jump, end_of_jump, jumping, end_of_jumping}
use Rattle.p8_gen.specs.Variables.{number, Home, Operation, plain_op, home_of, Pop, assigned}
use Rattle.p8_gen.specs.Expressions.{pasm, started, built_without, own_method, method_in, callee, name_alone, counts_from, looks_down, dropped, built_value, built, starts, starts_method, value, value_of_form, operate, in_home, values, index_value, call_of_built, arguments, looks, alone}
use Rattle.p8_gen.specs.Methods.{method_code}
use Rattle.p8_gen.specs.Statements.{Loop, inside, goes_on, leaves, with_value, test_of, tests, step_of, step_effect, plain_name, zero_jump, code, code_of, body, chain, other_body, all_tests, case_bodies}

abbrev pub zeros : Place → ℕ
zeros place = 0

-- the bytecode that pushes the address of a text at an offset
abbrev pub text_op : ℕ → Op
text_op pos = record (bare 0x87) { first = pos }

-- bytecodes with 0 for the offset of each text, their uses of texts, and the same bytecodes with the offsets
pub data Twin (t : Place → ℕ) : List Op → List (ℕ × Place) → List Op → Type 0 where
  none : Twin t [] [] []
  same : {xs ys : List Op} {us : List (ℕ × Place)} (op : Op) → Twin t xs us ys → Twin t (xs ++ op ∷ []) us (ys ++ op ∷ [])
  named : {xs ys : List Op} {us : List (ℕ × Place)} (p : Place) → Twin t xs us ys → Twin t (xs ++ text_op 0 ∷ []) (us ++ (length xs, p) ∷ []) (ys ++ text_op (t p % 2 ^ 15) ∷ [])

-- code with 0 for the offset of each text, and the same code with the offsets
pub record Twins (t : Place → ℕ) (v w : Written) : Type 0 where
  pub ends : v.end ≡ w.end
  pub jumps : v.jumps ≡ w.jumps
  pub ops : Twin t v.ops v.texts w.ops
  pub far : v.too_far ≡ w.too_far
  pub statement : v.statement ≡ w.statement
  pub lines : v.lines ≡ w.lines

-- two pieces that append such code
pub record Joined (t : Place → ℕ) (a b : Piece) : Type 0 where
  pub by : (v w : Written) → Twins t v w → Twins t (a v) (b w)

-- one line more
line-more : (v w : Written) → v.end ≡ w.end → v.statement ≡ w.statement → v.lines ≡ w.lines → v.lines ++ (v.end, v.statement) ∷ [] ≡ w.lines ++ (w.end, w.statement) ∷ []
line-more v w end made lines =
    ap (λ ls. ls ++ (v.end, v.statement) ∷ []) lines
    ∙ ap (λ n. w.lines ++ (n, v.statement) ∷ []) end
    ∙ ap (λ p. w.lines ++ (w.end, p) ∷ []) made

module _ {t : Place → ℕ} where
  nothings : Joined t nothing nothing
  nothings = record { by = λ v w h. h }

  same-one : (o : Op) → Joined t (one o) (one o)
  same-one o = record {
    by = λ v w h. record {
      ends = omega (arith, h.ends);
      jumps = h.jumps;
      ops = same o h.ops;
      far = h.far;
      statement = h.statement;
      lines = line-more v w h.ends h.statement h.lines;
    };
  }

  bytes : (c : ℕ) → Joined t (byte c) (byte c)
  bytes c = same-one _

  jumped : (wide : ℕ → Bool) (s : Place) (c x i a : ℕ) (v w : Written) → v.end ≡ i → v.jumps ≡ a → Twin t v.ops v.texts w.ops → v.too_far ≡ w.too_far → v.statement ≡ w.statement → v.lines ≡ w.lines →
      Twins t (jump wide s c x v) (jump wide s c x (record w { end = i; jumps = a }))
  jumped wide s c x i a v w end at ops far made lines =
      let before : Written = jump wide s c x v in
      subst (λ k. Twins t before (jump wide s c x (record w { end = k; jumps = a }))) end
      (subst (λ k. Twins t before (jump wide s c x (record w { end = v.end; jumps = k }))) at
      (record { ends = refl; jumps = refl; ops = same _ ops; far = ap (λ fs. fs ++ told (wide v.jumps) s (end_of_jump wide v) x) far; statement = made; lines = line-more v (record w { end = v.end }) refl made lines }))

  jumps : (wide : ℕ → Bool) (s : Place) (c x : ℕ) → Joined t (jump wide s c x) (jump wide s c x)
  jumps wide s c x = record { by = λ v w h. jumped wide s c x w.end w.jumps v w h.ends h.jumps h.ops h.far h.statement h.lines }

  stepped : (wide : ℕ → Bool) (s : Place) (x i a : ℕ) (o : Op) (v w : Written) → v.end ≡ i → v.jumps ≡ a → Twin t v.ops v.texts w.ops → v.too_far ≡ w.too_far → v.statement ≡ w.statement → v.lines ≡ w.lines →
      Twins t (jumping wide s x o v) (jumping wide s x o (record w { end = i; jumps = a }))
  stepped wide s x i a o v w end at ops far made lines =
      let before : Written = jumping wide s x o v in
      subst (λ k. Twins t before (jumping wide s x o (record w { end = k; jumps = a }))) end
      (subst (λ k. Twins t before (jumping wide s x o (record w { end = v.end; jumps = k }))) at
      (record { ends = refl; jumps = refl; ops = same _ ops; far = ap (λ fs. fs ++ told (wide v.jumps) s (end_of_jumping wide o v) x) far; statement = made; lines = line-more v (record w { end = v.end }) refl made lines }))

  steps : (wide : ℕ → Bool) (s : Place) (x : ℕ) (o : Op) → Joined t (jumping wide s x o) (jumping wide s x o)
  steps wide s x o = record { by = λ v w h. stepped wide s x w.end w.jumps o v w h.ends h.jumps h.ops h.far h.statement h.lines }

  texts : (p : Place) → Joined t (text p (0 % 2 ^ 15)) (text p (t p % 2 ^ 15))
  unfolding rows
  texts p = record {
    by = λ v w h. record {
      ends = omega (arith, h.ends);
      jumps = h.jumps;
      ops = named p h.ops;
      far = h.far;
      statement = h.statement;
      lines = line-more v w h.ends h.statement h.lines;
    };
  }

  both : {a b c d : Piece} → Joined t a c → Joined t b d → Joined t (a ⨾ b) (c ⨾ d)
  both {a} {b} {c} {d} x y = record { by = λ v w h. y.by (a v) (c w) (x.by v w h) }

  of : {a b : Piece} (s : Place) → Joined t a b → Joined t (of_statement s a) (of_statement s b)
  of s x = record {
    by = λ v w h.
        let k = x.by (record v { statement = s }) (record w { statement = s }) (record { ends = h.ends; jumps = h.jumps; ops = h.ops; far = h.far; statement = refl; lines = h.lines }) in
        record { ends = k.ends; jumps = k.jumps; ops = k.ops; far = k.far; statement = h.statement; lines = k.lines };
  }

  ups : {p q : ℕ → Piece} → ((x : ℕ) → Joined t (p x) (q x)) → Joined t (up_to_end p) (up_to_end q)
  ups {p} {q} alike = record { by = λ v w h. subst (λ k. Twins t (p (p 0 v).end v) (q k w)) ((alike 0).by v w h).ends ((alike (p 0 v).end).by v w h) }

  up-jumps : {p q : ℕ → ℕ → Piece} → ((x i : ℕ) → Joined t (p x i) (q x i)) → Joined t (up_to_jumps p) (up_to_jumps q)
  up-jumps {p} {q} alike = record {
    by = λ v w h.
        let c = (alike 0 0).by v w h in
        let end : ℕ = (p 0 0 v).end in
        let before : ℕ = (p 0 0 v).jumps in
        subst (λ k. Twins t (p end before v) (q k (q 0 0 w).jumps w)) c.ends (subst (λ k. Twins t (p end before v) (q end k w)) c.jumps ((alike end before).by v w h));
  }

  froms : {p q : ℕ → Piece} → ((x : ℕ) → Joined t (p x) (q x)) → Joined t (from_start p) (from_start q)
  froms {p} {q} alike = record { by = λ v w h. subst (λ k. Twins t (p v.end v) (q k w)) h.ends ((alike v.end).by v w h) }

  either : {a b c d : Piece} (u : Bool) → Joined t a c → Joined t b d → Joined t (if u then a else b) (if u then c else d)
  either true x y = x
  either false x y = y

  -- ---- expressions

  number-joined : (v : ℕ) → Joined t (number v) (number v)
  number-joined v =
      either (v == 0) (bytes _) (either (v == 1) (bytes _) (either (v == 2 ^ 32 - 1) (bytes _)
      (either (nat_lt v (2 ^ 8)) (same-one _) (either (nat_lt v (2 ^ 16)) (same-one _) (either (nat_lt v (2 ^ 24)) (same-one _) (same-one _))))))

  name-joined : (n : Names) (s : Place) (name : List ℕ) (kind : Option NameKind) → Joined t (name_alone (moved n zeros s) name kind) (name_alone (moved n t s) name kind)
  name-joined n s name (Some (kinds.Const v)) = number-joined v
  name-joined n s name (Some (kinds.Method number params)) = both (bytes _) (same-one _)
  name-joined n s name (Some (kinds.Global size offset)) = same-one _
  name-joined n s name _ = same-one _

  own-joined : (kind : Option NameKind) → Joined t (own_method kind) (own_method kind)
  own-joined (Some (kinds.Method number params)) = same-one _
  own-joined (Some (kinds.Const v)) = nothings
  own-joined _ = nothings

  in-joined : (n : Names) (s : Place) (kind : Option NameKind) (i : Index) (method : List ℕ) → Joined t (method_in (moved n zeros s) kind i method) (method_in (moved n t s) kind i method)
  in-joined n s (Some (kinds.Object item position count)) no_index method = same-one _
  in-joined n s (Some (kinds.Object item position count)) (index e) method = same-one _
  in-joined n s (Some (kinds.Const v)) i method = nothings
  in-joined n s _ i method = nothings

  callee-joined : (n : Names) (s : Place) (object : Option (List ℕ)) (i : Index) (method : List ℕ) → Joined t (callee (moved n zeros s) object i method) (callee (moved n t s) object i method)
  callee-joined n s None i method = own-joined (n.kind method)
  callee-joined n s (Some object) i method = in-joined n s (n.kind object) i method

  pub counts-joined : (c : ℕ) → Joined t (counts_from c) (counts_from c)
  counts-joined c = either (nat_le 0x12 c) (bytes _) (bytes _)

  dropped-joined : (used : Bool) → Joined t (dropped used) (dropped used)
  dropped-joined used = either used nothings (bytes _)

  pasm-joined : (used : Bool) → Joined t (pasm used) (pasm used)
  pasm-joined used = bytes _

  built-value-joined : (c : ℕ) → Joined t (built_value c) (built_value c)
  built-value-joined c = either (c == 0x3F) (same-one _) (either (c == 0xC0) (both (bytes _) (bytes _)) (both (same-one _) (bytes _)))

  made-joined : (used : Bool) (c : ℕ) → Joined t (built used c) (built used c)
  made-joined used c =
      either used (bytes _)
      (either (nat_le 0x29 c && nat_le c 0x2B) (bytes _) (either (c == 0x16 || c == 0x17) (both (bytes _) (bytes _)) (bytes _)))

  without-joined : (used : Bool) (c : ℕ) → Joined t (built_without used c) (built_without used c)
  without-joined used c = either (c == 0x29) (made-joined used c) (both (built-value-joined c) (dropped-joined used))

  starts-joined : (n : Names) (s : Place) (m : Tree) → Joined t (starts (moved n zeros s) m) (starts (moved n t s) m)
  starts-joined n s (node p (Call trap object i method q args)) = same-one _
  starts-joined n s (node p (Var (Named name i q))) = same-one _
  starts-joined n s (node p (Var (Part name size i q))) = nothings
  starts-joined n s (node p (Number v)) = nothings
  starts-joined n s _ = nothings

  started-joined : (n : Names) (s : Place) (used : Bool) (m : Tree) → Joined t (started (moved n zeros s) used m) (started (moved n t s) used m)
  started-joined n s used m = either (starts_method n m) (both (starts-joined n s m) (dropped-joined used)) (pasm-joined used)

  module _ (n : Names) (s : Place) where
    mutual
      pub value-joined : (e : Tree) → Joined t (value (moved n zeros s) e) (value (moved n t s) e)
      value-joined (node place form) = form-joined place form

      form-joined : (place : Place) (form : Form) → Joined t (value_of_form (moved n zeros s) place form) (value_of_form (moved n t s) place form)
      form-joined place (Number v) = number-joined v
      form-joined place (Str letters) = texts place
      form-joined place (Strings es) = texts place
      form-joined place Here = nothings
      form-joined place (Var (Named name no_index q)) = name-joined n s name (n.kind name)
      form-joined place (Var (Named name (index e) q)) = both (value-joined e) (same-one _)
      form-joined place (Var (Part name size i q)) = home-joined _ i _
      form-joined place (Var (Memory size e i q)) = operate-joined (Memory size e i q) _
      form-joined place (Var (Register address x q)) = operate-joined (Register address x q) _
      form-joined place (Call trap object i method q args) = both (both (both (bytes _) (values-joined args)) (index-joined i)) (callee-joined n s object i method)
      form-joined place (Unary operator e) = both (value-joined e) (either (operator == 0xEC) nothings (bytes _))
      form-joined place (Binary operator a b) = both (both (value-joined a) (value-joined b)) (bytes _)
      form-joined place (Assign v operator e) = both (value-joined e) (operate-joined v _)
      form-joined place (Change v effect) = operate-joined v _
      form-joined place (Address v) = operate-joined v _
      form-joined place (ObjectAddress e) = both (value-joined e) (bytes _)
      form-joined place (ObjConst object name q) = number-joined (or_zero (constants.value n.constants (node place (ObjConst object name q))))
      form-joined place (Built c args) = built-joined true c args
      form-joined place (Look c e xs) =
          ups (λ x. both (both (both (value-joined e) (counts-joined c)) (looks-joined (looks_down c) x xs)) (bytes 0x0F))

      operate-joined : (v : Variable) (o : Operation) → Joined t (operate (moved n zeros s) v o) (operate (moved n t s) v o)
      operate-joined (Named name i q) o = home-joined _ i o
      operate-joined (Part name size i q) o = home-joined _ i o
      operate-joined (Memory size e no_index q) o = both (value-joined e) (same-one _)
      operate-joined (Memory size e (index i) q) o = both (both (value-joined e) (value-joined i)) (same-one _)
      operate-joined (Register address whole q) o = same-one _
      operate-joined (Register address (bits (single e)) q) o = both (value-joined e) (same-one _)
      operate-joined (Register address (bits (range a b)) q) o = both (both (value-joined a) (value-joined b)) (same-one _)

      home-joined : (home : Home) (i : Index) (o : Operation) → Joined t (in_home (moved n zeros s) home i o) (in_home (moved n t s) home i o)
      home-joined home no_index o = same-one _
      home-joined home (index e) o = both (value-joined e) (same-one _)

      values-joined : (es : Trees) → Joined t (values (moved n zeros s) es) (values (moved n t s) es)
      values-joined no_trees = nothings
      values-joined (es ▷ e) = both (values-joined es) (value-joined e)

      index-joined : (i : Index) → Joined t (index_value (moved n zeros s) i) (index_value (moved n t s) i)
      index-joined no_index = nothings
      index-joined (index e) = value-joined e

      built-joined : (used : Bool) (c : ℕ) (args : Trees) → Joined t (call_of_built (moved n zeros s) used c args) (call_of_built (moved n t s) used c args)
      built-joined used c no_trees = without-joined used c
      built-joined used c (no_trees ▷ e) = either (c == 0) (number-joined (or_zero (constants.value n.constants e))) (both (value-joined e) (made-joined used c))
      built-joined used c (no_trees ▷ a ▷ b) =
          either (not (c == 0x2C)) (both (both (value-joined a) (value-joined b)) (made-joined used c))
          (both (both (both (bytes _) (either (starts_method n a) (arguments-joined a) (value-joined a))) (value-joined b)) (started-joined n s used a))
      built-joined used c (no_trees ▷ a ▷ b ▷ d) =
          either (not (c == 0x28)) (both (both (both (value-joined a) (value-joined b)) (value-joined d)) (made-joined used c))
          (both (both (both (value-joined a) (either (starts_method n b) (arguments-joined b) (value-joined b))) (value-joined d)) (started-joined n s used b))
      built-joined used c (es ▷ e) = both (both (values-joined es) (value-joined e)) (made-joined used c)

      arguments-joined : (m : Tree) → Joined t (arguments (moved n zeros s) m) (arguments (moved n t s) m)
      arguments-joined (node p (Call trap object i method q args)) = values-joined args
      arguments-joined _ = nothings

      pub looks-joined : (down : Bool) (x : ℕ) (xs : Items) → Joined t (looks (moved n zeros s) down x xs) (looks (moved n t s) down x xs)
      looks-joined down x no_items = nothings
      looks-joined down x (xs ▸ single e) = both (both (looks-joined down x xs) (value-joined e)) (jumps n.wide s _ x)
      looks-joined down x (xs ▸ range a b) = both (both (both (looks-joined down x xs) (value-joined a)) (value-joined b)) (jumps n.wide s _ x)

    pub alone-joined : (e : Tree) → Joined t (alone (moved n zeros s) e) (alone (moved n t s) e)
    alone-joined (node place (Var (Named name i q))) = both (bytes _) (own-joined (n.kind name))
    alone-joined (node place (Call trap object i method q args)) =
        both (both (both (bytes _) (values-joined args)) (index-joined i)) (callee-joined n s object i method)
    alone-joined (node place (Assign v operator e)) = both (value-joined e) (operate-joined v (assigned false operator))
    alone-joined (node place (Change v effect)) = operate-joined v _
    alone-joined (node place (Built c args)) = built-joined false c args
    alone-joined (node place (Number v)) = nothings
    alone-joined (node place (Var (Part name size i q))) = nothings
    alone-joined (node place (Var (Memory size e i q))) = nothings
    alone-joined (node place (Var (Register address x q))) = nothings
    alone-joined _ = nothings

    -- ---- statements

    pub with-value-joined : (e : Option Tree) (a b : ℕ) → Joined t (with_value (moved n zeros s) e a b) (with_value (moved n t s) e a b)
    with-value-joined None a b = bytes _
    with-value-joined (Some e) a b = both (value-joined e) (bytes _)

    pub test-joined : (xs : Items) → Joined t (test_of (moved n zeros s) xs) (test_of (moved n t s) xs)
    test-joined (no_items ▸ single e) = value-joined e
    test-joined no_items = nothings
    test-joined _ = nothings

    pub tests-joined : (x : ℕ) (xs : Items) → Joined t (tests (moved n zeros s) x xs) (tests (moved n t s) x xs)
    tests-joined x no_items = nothings
    tests-joined x (xs ▸ single e) = both (both (tests-joined x xs) (value-joined e)) (jumps n.wide s _ x)
    tests-joined x (xs ▸ range a b) = both (both (both (tests-joined x xs) (value-joined a)) (value-joined b)) (jumps n.wide s _ x)

    pub step-joined : (e : Option Tree) → Joined t (step_of (moved n zeros s) e) (step_of (moved n t s) e)
    step-joined None = nothings
    step-joined (Some e) = value-joined e

  goes-on-joined : (n : Names) (s : Place) (l : Option Loop) → Joined t (goes_on (moved n zeros s) l) (goes_on (moved n t s) l)
  goes-on-joined n s None = nothings
  goes-on-joined n s (Some l) = jumps n.wide s 0x04 l.next

  leaves-joined : (n : Names) (s : Place) (l : Option Loop) → Joined t (leaves (moved n zeros s) l) (leaves (moved n t s) l)
  leaves-joined n s None = nothings
  leaves-joined n s (Some l) = both (either l.counted (bytes _) nothings) (jumps n.wide s 0x04 l.quit)

  mutual
    pub code-joined : (n : Names) (s : Place) (l : Option Loop) → (x : Statement) → Joined t (code (moved n zeros s) l x) (code (moved n t s) l x)
    code-joined n s l (statement place action) = of place (action-joined n place l action)

    pub action-joined : (n : Names) (s : Place) (l : Option Loop) → (x : Action) → Joined t (code_of (moved n zeros s) l x) (code_of (moved n t s) l x)
    action-joined n s l (Do e) = alone-joined n s e
    action-joined n s l (If arms nothing_else) =
        ups (λ x. chain-joined n s l _ _ _ _ (jumps n.wide s 0x04 x) nothings arms)
    action-joined n s l (If arms (otherwise ss)) =
        ups (λ x. both (chain-joined n s l _ _ _ _ (jumps n.wide s 0x04 x) (jumps n.wide s 0x04 x) arms) (body-joined n s l ss))
    action-joined n s l (Case e arms other) =
        ups (λ x. both
        (up-jumps (λ i before.
        both (both (both (both (value-joined n s e) (all-tests-joined n s l i before arms)) (bytes 0x0C)) (other-joined n s l other))
        (jumps n.wide s 0x04 x)))
        (bodies-joined n s l x arms))
    action-joined n s l (Repeat Forever ss) =
        ups (λ x. froms (λ i. both (body-joined n s (inside i x false) ss) (jumps n.wide s 0x04 i)))
    action-joined n s l (Repeat (Count e) ss) =
        ups (λ x. both (both (value-joined n s e) (jumps n.wide s 0x08 x))
        (froms (λ i. both (ups (λ v. body-joined n s (inside v x true) ss)) (jumps n.wide s 0x09 i))))
    action-joined n s l (Repeat (Before until e) ss) =
        ups (λ x. froms (λ i.
        both (both (both (value-joined n s e) (jumps n.wide s (zero_jump until) x))
        (body-joined n s (inside i x false) ss)) (jumps n.wide s 0x04 i)))
    action-joined n s l (Repeat (After until e) ss) =
        ups (λ x. froms (λ i.
        both (both (ups (λ v. body-joined n s (inside v x false) ss)) (value-joined n s e))
        (jumps n.wide s (zero_jump (not until)) i)))
    action-joined n s l (Repeat (From name a b step q) ss) =
        ups (λ x. both (both (value-joined n s a) (same-one (plain_op (home_of n name) Pop)))
        (froms (λ i.
        both (both (both (both (ups (λ v. body-joined n s (inside v x false) ss)) (step-joined n s step)) (value-joined n s a))
        (value-joined n s b)) (steps n.wide s i (plain_name n name (step_effect step))))))
    action-joined n s l Next = goes-on-joined n s l
    action-joined n s l Quit = leaves-joined n s l
    action-joined n s l (Return e) = with-value-joined n s e 0x32 0x33
    action-joined n s l (Abort e) = with-value-joined n s e 0x30 0x31

    pub body-joined : (n : Names) (s : Place) (l : Option Loop) → (x : Statements) → Joined t (body (moved n zeros s) l x) (body (moved n t s) l x)
    body-joined n s l no_statements = nothings
    body-joined n s l (ss ▹ x) = both (body-joined n s l ss) (code-joined n s l x)

    pub chain-joined : (n : Names) (s : Place) (l : Option Loop) → (f g a b : Piece) → Joined t f g → Joined t a b → (x : Arms) → Joined t (chain (moved n zeros s) l f a x) (chain (moved n t s) l g b x)
    chain-joined n s l f g a b further last no_arms = nothings
    chain-joined n s l f g a b further last (arms ⊳ arm items negated ss) =
        both (chain-joined n s l f g f g further further arms)
        (ups (λ x. both (both (both (test-joined n s items) (jumps n.wide s (zero_jump negated) x)) (body-joined n s l ss)) last))

    pub other-joined : (n : Names) (s : Place) (l : Option Loop) → (x : Otherwise) → Joined t (other_body (moved n zeros s) l x) (other_body (moved n t s) l x)
    other-joined n s l nothing_else = nothings
    other-joined n s l (otherwise ss) = body-joined n s l ss

    pub all-tests-joined : (n : Names) (s : Place) (l : Option Loop) → (i before : ℕ) → (x : Arms) → Joined t (all_tests (moved n zeros s) l i before x) (all_tests (moved n t s) l i before x)
    all-tests-joined n s l i before no_arms = nothings
    all-tests-joined n s l i before (arms ⊳ arm items negated ss) =
        both (all-tests-joined n s l i before arms)
        (subst (λ k. Joined t (tests (moved n zeros s) (case_bodies (moved n zeros s) l 0 arms (from_place i before)).end items) (tests (moved n t s) k items))
        ((bodies-joined n s l 0 arms).by (from_place i before) (from_place i before) (record { ends = refl; jumps = refl; ops = none; far = refl; statement = refl; lines = refl })).ends
        (tests-joined n s (case_bodies (moved n zeros s) l 0 arms (from_place i before)).end items))

    pub bodies-joined : (n : Names) (s : Place) (l : Option Loop) → (i : ℕ) → (x : Arms) → Joined t (case_bodies (moved n zeros s) l i x) (case_bodies (moved n t s) l i x)
    bodies-joined n s l i no_arms = nothings
    bodies-joined n s l i (arms ⊳ arm items negated ss) =
        both (both (both (bodies-joined n s l i arms) (bytes _)) (body-joined n s l ss)) (jumps n.wide s _ i)

-- the code of a method
pub twins : (t : Place → ℕ) (n : Names) (s : Place) (ss : Statements) → Twins t (method_code (moved n zeros s) ss) (method_code (moved n t s) ss)
twins t n s ss = (both (body-joined n s None ss) (of s (bytes 0x32))).by empty empty (record { ends = refl; jumps = refl; ops = none; far = refl; statement = refl; lines = refl })
