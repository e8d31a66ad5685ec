-- Code is appended: where it begins is no later than where it ends, and where no jump of the whole goes too far, none
-- before it does.
use Rattle.std.proofs.Common.{◌≡◌, ℕ, ◌≤◌, ◌==◌, Bool, true, false, not, if◌then◌else◌, List, [], ◌∷◌, ◌++◌, Option, Some, None, refl, sym, ◌∙◌, arith}
use Rattle.p8_tree.specs.declared.places.Place.{Place}
use Rattle.p8_tree.specs.Expressions.{Tree, node, Form, Number, Str, Strings, Here, Var, Call, Unary, Binary, Assign, Change, Address, ObjectAddress, ObjConst, Built, Look, Variable, Named, Part, Memory, Register, Index, no_index, index, whole, bits, single, range, Trees, no_trees, ◌▷◌, Items, no_items, ◌▸◌}
use Rattle.p8_tree.specs.Statements.{Forever, Count, Before, After, From, Statement, statement, Action, Do, If, Case, Repeat, Next, Quit, Return, Abort, arm, Otherwise, nothing_else, otherwise, Statements, no_statements, ◌▹◌, Arms, no_arms, ◌⊳◌}
use Rattle.p8_bytecode.specs.declared.op.Op.{Op}
use Rattle.p8_words.specs.Operators.{or_zero}
use Rattle.p8_fold.specs.Values as constants
use Rattle.p8_gen.specs.Names.{Names}
use Rattle.p8_gen.specs.Pieces.{Written, Piece, nothing, one, ◌⨾◌, from_start, up_to_end, up_to_jumps, byte, text, jump, jumping, of_statement}
use Rattle.p8_gen.specs.Variables.{Home, Operation, plain_op, home_of, Pop, assigned}
use Rattle.p8_gen.specs.Expressions.{looks_down, starts_method, value, value_of_form, operate, in_home, values, index_value, call_of_built, arguments, looks, alone}
use Rattle.p8_gen.specs.Statements.{Loop, inside, goes_on, leaves, with_value, test_of, tests, step_of, step_effect, plain_name, zero_jump, code, code_of, body, chain, other_body, all_tests, case_bodies}
use Rattle.p8_opt.proofs.Fixed.{Fixed, number-fixed, name-fixed, own-fixed, callee-fixed, counts-fixed, made-fixed, without-fixed, started-fixed}

pub record Grows (a : Piece) : Type 0 where
  pub ends : (w : Written) → w.end ≤ (a w).end
  pub near : (w : Written) → (a w).too_far ≡ [] → w.too_far ≡ []

pub no-first : (xs ys : List Place) → xs ++ ys ≡ [] → xs ≡ []
no-first [] ys is = refl
no-first (x ∷ xs) ys is = absurd (cc)

pub nothings : Grows nothing
nothings = record { ends = λ w. omega arith; near = λ w is. is }

pub fixed : {a : Piece} → Fixed a → Grows a
fixed {a} x = record { ends = λ w. let is = x.ends w in omega (arith, is); near = λ w is. sym (x.far w) ∙ is }

pub ones : (op : Op) → Grows (one op)
ones op = record { ends = λ w. omega arith; near = λ w is. is }

pub bytes : (code : ℕ) → Grows (byte code)
bytes code = ones _

texts : (place : Place) (at : ℕ) → Grows (text place at)
texts place at = record { ends = λ w. omega arith; near = λ w is. is }

pub jumps : (wide : ℕ → Bool) (place : Place) (code to : ℕ) → Grows (jump wide place code to)
jumps wide place code to = record { ends = λ w. omega arith; near = λ w is. no-first w.too_far _ is }

pub steps : (wide : ℕ → Bool) (place : Place) (to : ℕ) (op : Op) → Grows (jumping wide place to op)
steps wide place to op = record { ends = λ w. omega arith; near = λ w is. no-first w.too_far _ is }

pub both : {a b : Piece} → Grows a → Grows b → Grows (a ⨾ b)
both {a} {b} x y = record {
  ends = λ w. let first = x.ends w in let second = y.ends (a w) in omega (arith, first, second);
  near = λ w is. x.near w (y.near (a w) is);
}

pub of : {a : Piece} (s : Place) → Grows a → Grows (of_statement s a)
of s x = record { ends = λ w. x.ends (record w { statement = s }); near = λ w is. x.near (record w { statement = s }) is }

pub ups : {p : ℕ → Piece} → ((x : ℕ) → Grows (p x)) → Grows (up_to_end p)
ups {p} all = record { ends = λ w. (all (p 0 w).end).ends w; near = λ w. (all (p 0 w).end).near w }

pub up-jumps : {p : ℕ → ℕ → Piece} → ((x i : ℕ) → Grows (p x i)) → Grows (up_to_jumps p)
up-jumps {p} all = record { ends = λ w. (all (p 0 0 w).end (p 0 0 w).jumps).ends w; near = λ w. (all (p 0 0 w).end (p 0 0 w).jumps).near w }

pub froms : {p : ℕ → Piece} → ((x : ℕ) → Grows (p x)) → Grows (from_start p)
froms all = record { ends = λ w. (all w.end).ends w; near = λ w. (all w.end).near w }

pub either : {a b : Piece} (t : Bool) → Grows a → Grows b → Grows (if t then a else b)
either true x y = x
either false x y = y

module _ (n : Names) where
  mutual
    pub value-grows : (e : Tree) → Grows (value n e)
    value-grows (node place form) = form-grows place form

    form-grows : (place : Place) (form : Form) → Grows (value_of_form n place form)
    form-grows place (Number v) = fixed (number-fixed v)
    form-grows place (Str letters) = texts place _
    form-grows place (Strings es) = texts place _
    form-grows place Here = nothings
    form-grows place (Var (Named name no_index q)) = fixed (name-fixed n name (n.kind name))
    form-grows place (Var (Named name (index e) q)) = both (value-grows e) (ones _)
    form-grows place (Var (Part name size i q)) = home-grows _ i _
    form-grows place (Var (Memory size e i q)) = operate-grows (Memory size e i q) _
    form-grows place (Var (Register address x q)) = operate-grows (Register address x q) _
    form-grows place (Call stops object i method q args) = both (both (both (bytes _) (values-grows args)) (index-grows i)) (fixed (callee-fixed n object i method))
    form-grows place (Unary operator e) = both (value-grows e) (either (operator == 0xEC) nothings (bytes _))
    form-grows place (Binary operator a b) = both (both (value-grows a) (value-grows b)) (bytes _)
    form-grows place (Assign v operator e) = both (value-grows e) (operate-grows v _)
    form-grows place (Change v effect) = operate-grows v _
    form-grows place (Address v) = operate-grows v _
    form-grows place (ObjectAddress e) = both (value-grows e) (bytes _)
    form-grows place (ObjConst object name q) = fixed (number-fixed (or_zero (constants.value n.constants (node place (ObjConst object name q)))))
    form-grows place (Built c args) = built-grows true c args
    form-grows place (Look c e xs) =
        ups (λ x. both (both (both (value-grows e) (fixed (counts-fixed c))) (looks-grows (looks_down c) x xs)) (bytes 0x0F))

    operate-grows : (v : Variable) (o : Operation) → Grows (operate n v o)
    operate-grows (Named name i q) o = home-grows _ i o
    operate-grows (Part name size i q) o = home-grows _ i o
    operate-grows (Memory size e no_index q) o = both (value-grows e) (ones _)
    operate-grows (Memory size e (index i) q) o = both (both (value-grows e) (value-grows i)) (ones _)
    operate-grows (Register address whole q) o = ones _
    operate-grows (Register address (bits (single e)) q) o = both (value-grows e) (ones _)
    operate-grows (Register address (bits (range a b)) q) o = both (both (value-grows a) (value-grows b)) (ones _)

    home-grows : (home : Home) (i : Index) (o : Operation) → Grows (in_home n home i o)
    home-grows home no_index o = ones _
    home-grows home (index e) o = both (value-grows e) (ones _)

    pub values-grows : (es : Trees) → Grows (values n es)
    values-grows no_trees = nothings
    values-grows (es ▷ e) = both (values-grows es) (value-grows e)

    index-grows : (i : Index) → Grows (index_value n i)
    index-grows no_index = nothings
    index-grows (index e) = value-grows e

    built-grows : (used : Bool) (c : ℕ) (args : Trees) → Grows (call_of_built n used c args)
    built-grows used c no_trees = fixed (without-fixed used c)
    built-grows used c (no_trees ▷ e) = either (c == 0) (fixed (number-fixed (or_zero (constants.value n.constants e)))) (both (value-grows e) (fixed (made-fixed used c)))
    built-grows used c (no_trees ▷ a ▷ b) =
        either (not (c == 0x2C)) (both (both (value-grows a) (value-grows b)) (fixed (made-fixed used c)))
        (both (both (both (bytes _) (either (starts_method n a) (arguments-grows a) (value-grows a))) (value-grows b)) (fixed (started-fixed n used a)))
    built-grows used c (no_trees ▷ a ▷ b ▷ d) =
        either (not (c == 0x28)) (both (both (both (value-grows a) (value-grows b)) (value-grows d)) (fixed (made-fixed used c)))
        (both (both (both (value-grows a) (either (starts_method n b) (arguments-grows b) (value-grows b))) (value-grows d)) (fixed (started-fixed n used b)))
    built-grows used c (es ▷ e) = both (both (values-grows es) (value-grows e)) (fixed (made-fixed used c))

    arguments-grows : (m : Tree) → Grows (arguments n m)
    arguments-grows (node p (Call stops object i method q args)) = values-grows args
    arguments-grows _ = nothings

    looks-grows : (down : Bool) (x : ℕ) (xs : Items) → Grows (looks n down x xs)
    looks-grows down x no_items = nothings
    looks-grows down x (xs ▸ single e) = both (both (looks-grows down x xs) (value-grows e)) (jumps n.wide n.statement (if down then 0x11 else 0x10) x)
    looks-grows down x (xs ▸ range a b) = both (both (both (looks-grows down x xs) (value-grows a)) (value-grows b)) (jumps n.wide n.statement (if down then 0x13 else 0x12) x)

  pub alone-grows : (e : Tree) → Grows (alone n e)
  alone-grows (node place (Var (Named name i q))) = both (bytes _) (fixed (own-fixed (n.kind name)))
  alone-grows (node place (Call stops object i method q args)) =
      both (both (both (bytes _) (values-grows args)) (index-grows i)) (fixed (callee-fixed n object i method))
  alone-grows (node place (Assign v operator e)) = both (value-grows e) (operate-grows v (assigned false operator))
  alone-grows (node place (Change v effect)) = operate-grows v _
  alone-grows (node place (Built c args)) = built-grows false c args
  alone-grows (node place (Number v)) = nothings
  alone-grows (node place (Var (Part name size i q))) = nothings
  alone-grows (node place (Var (Memory size e i q))) = nothings
  alone-grows (node place (Var (Register address x q))) = nothings
  alone-grows _ = nothings

  -- ---- statements

  pub with-value-grows : (e : Option Tree) (a b : ℕ) → Grows (with_value n e a b)
  with-value-grows None a b = bytes _
  with-value-grows (Some e) a b = both (value-grows e) (bytes _)

  pub test-grows : (xs : Items) → Grows (test_of n xs)
  test-grows (no_items ▸ single e) = value-grows e
  test-grows no_items = nothings
  test-grows _ = nothings

  pub tests-grows : (to : ℕ) (xs : Items) → Grows (tests n to xs)
  tests-grows to no_items = nothings
  tests-grows to (xs ▸ single e) = both (both (tests-grows to xs) (value-grows e)) (jumps n.wide n.statement 0x0D to)
  tests-grows to (xs ▸ range a b) = both (both (both (tests-grows to xs) (value-grows a)) (value-grows b)) (jumps n.wide n.statement 0x0E to)

  pub step-grows : (e : Option Tree) → Grows (step_of n e)
  step-grows None = nothings
  step-grows (Some e) = value-grows e

  goes-on-grows : (l : Option Loop) → Grows (goes_on n l)
  goes-on-grows None = nothings
  goes-on-grows (Some l) = jumps n.wide n.statement 0x04 l.next

  leaves-grows : (l : Option Loop) → Grows (leaves n l)
  leaves-grows None = nothings
  leaves-grows (Some l) = both (either l.counted (bytes _) nothings) (jumps n.wide n.statement 0x04 l.quit)

mutual
  pub code-grows : (n : Names) (l : Option Loop) (x : Statement) → Grows (code n l x)
  code-grows n l (statement place action) = of place (action-grows (record n { statement = place }) l action)

  pub action-grows : (n : Names) (l : Option Loop) (x : Action) → Grows (code_of n l x)
  action-grows n l (Do e) = alone-grows n e
  action-grows n l (If arms nothing_else) = ups (λ x. chain-grows n l _ _ (jumps n.wide n.statement 0x04 x) nothings arms)
  action-grows n l (If arms (otherwise ss)) = ups (λ x. both (chain-grows n l _ _ (jumps n.wide n.statement 0x04 x) (jumps n.wide n.statement 0x04 x) arms) (body-grows n l ss))
  action-grows n l (Case e arms other) =
      ups (λ x. both
      (up-jumps (λ i before. both (both (both (both (value-grows n e) (all-tests-grows n l i before arms)) (bytes 0x0C)) (other-grows n l other)) (jumps n.wide n.statement 0x04 x)))
      (bodies-grows n l x arms))
  action-grows n l (Repeat Forever ss) = ups (λ x. froms (λ i. both (body-grows n (inside i x false) ss) (jumps n.wide n.statement 0x04 i)))
  action-grows n l (Repeat (Count e) ss) =
      ups (λ x. both (both (value-grows n e) (jumps n.wide n.statement 0x08 x)) (froms (λ i. both (ups (λ v. body-grows n (inside v x true) ss)) (jumps n.wide n.statement 0x09 i))))
  action-grows n l (Repeat (Before until e) ss) =
      ups (λ x. froms (λ i. both (both (both (value-grows n e) (jumps n.wide n.statement (zero_jump until) x)) (body-grows n (inside i x false) ss)) (jumps n.wide n.statement 0x04 i)))
  action-grows n l (Repeat (After until e) ss) =
      ups (λ x. froms (λ i. both (both (ups (λ v. body-grows n (inside v x false) ss)) (value-grows n e)) (jumps n.wide n.statement (zero_jump (not until)) i)))
  action-grows n l (Repeat (From name a b step q) ss) =
      ups (λ x. both (both (value-grows n a) (ones (plain_op (home_of n name) Pop)))
      (froms (λ i. both (both (both (both (ups (λ v. body-grows n (inside v x false) ss)) (step-grows n step)) (value-grows n a)) (value-grows n b))
      (steps n.wide n.statement i (plain_name n name (step_effect step))))))
  action-grows n l Next = goes-on-grows n l
  action-grows n l Quit = leaves-grows n l
  action-grows n l (Return e) = with-value-grows n e 0x32 0x33
  action-grows n l (Abort e) = with-value-grows n e 0x30 0x31

  pub body-grows : (n : Names) (l : Option Loop) (x : Statements) → Grows (body n l x)
  body-grows n l no_statements = nothings
  body-grows n l (ss ▹ x) = both (body-grows n l ss) (code-grows n l x)

  pub chain-grows : (n : Names) (l : Option Loop) (f a : Piece) → Grows f → Grows a → (x : Arms) → Grows (chain n l f a x)
  chain-grows n l f a further last no_arms = nothings
  chain-grows n l f a further last (arms ⊳ arm items negated ss) =
      both (chain-grows n l f f further further arms) (ups (λ x. both (both (both (test-grows n items) (jumps n.wide n.statement (zero_jump negated) x)) (body-grows n l ss)) last))

  pub other-grows : (n : Names) (l : Option Loop) (x : Otherwise) → Grows (other_body n l x)
  other-grows n l nothing_else = nothings
  other-grows n l (otherwise ss) = body-grows n l ss

  pub all-tests-grows : (n : Names) (l : Option Loop) (first before : ℕ) (x : Arms) → Grows (all_tests n l first before x)
  all-tests-grows n l first before no_arms = nothings
  all-tests-grows n l first before (arms ⊳ arm items negated ss) = both (all-tests-grows n l first before arms) (tests-grows n _ items)

  pub bodies-grows : (n : Names) (l : Option Loop) (end : ℕ) (x : Arms) → Grows (case_bodies n l end x)
  bodies-grows n l end no_arms = nothings
  bodies-grows n l end (arms ⊳ arm items negated ss) = both (both (both (bodies-grows n l end arms) (bytes _)) (body-grows n l ss)) (jumps n.wide n.statement 0x04 end)
