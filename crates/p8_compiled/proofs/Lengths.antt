-- Code ends where its bytes do.
use Rattle.std.proofs.Common.{◌≡◌, refl, ap, ◌∙◌, arith, ℕ, ◌+◌, ◌-◌, ◌^◌, ◌==◌, ◌&&◌, ◌||◌, nat_le, nat_lt, Bool, true, false, not, if◌then◌else◌, List, [], ◌∷◌, ◌++◌, length, length-append, Option, Some, None}
use Rattle.p8_tree.specs.declared.places.Place.{Place}
use Rattle.p8_tree.specs.Expressions.{Tree, node, Form, Number, Str, Strings, Here, Var, Call, Unary, Binary, Assign, Change, Address, ObjectAddress, ObjConst, Built, Look, Variable, Named, Part, Memory, Register, Index, no_index, index, whole, bits, single, range, Trees, no_trees, ◌▷◌, Items, no_items, ◌▸◌}
use Rattle.p8_tree.specs.Statements.{Forever, Count, Before, After, From, Statement, statement, Action, Do, If, Case, Repeat, Next, Quit, Return, Abort, arm, Otherwise, nothing_else, otherwise, Statements, no_statements, ◌▹◌, Arms, no_arms, ◌⊳◌}
use Rattle.p8_bytecode.specs.declared.op.Op.{Op}
use Rattle.p8_bytecode.specs.Spelling.{spelled}
use Rattle.p8_bytecode.specs.Table.{rows}
use Rattle.p8_kinds.specs.declared.name_kinds.NameKind.{NameKind}
use Rattle.p8_kinds.specs.declared.name_kinds.NameKind.TheVariants as kinds
use Rattle.p8_words.specs.Operators.{or_zero}
use Rattle.p8_fold.specs.Values as constants
use Rattle.p8_gen.specs.Names.{Names}
use Rattle.p8_bytecode.specs.Reading.{bare}
use Rattle.p8_gen.specs.Pieces.{Written, empty, Piece, nothing, one, ◌⨾◌, from_start, up_to_end, up_to_jumps, of_statement, byte, text, offset, jump, end_of_jump, jumping, end_of_jumping}
use Rattle.p8_gen.specs.Variables.{number, Home, Operation, plain_op, home_of, Pop, assigned}
use Rattle.p8_gen.specs.Expressions.{pasm, started, built_without, own_method, method_in, callee, name_alone, counts_from, looks_down, dropped, built_value, built, starts, starts_method, value, value_of_form, operate, in_home, values, index_value, call_of_built, arguments, looks, alone}
use Rattle.p8_gen.specs.Statements.{Loop, inside, goes_on, leaves, with_value, test_of, tests, step_of, step_effect, plain_name, zero_jump, code, code_of, body, chain, other_body, all_tests, case_bodies}
use Rattle.p8_bytecode.specs.declared.operands.Operands.TheVariants.{Offset}
use Rattle.p8_bytecode.specs.Table.{operands_of}
use Rattle.p8_gen.specs.Methods.{bytes_of, method_code}
use Rattle.p8_compiled.proofs.Fetching.{appended}
use Rattle.p8_compiled.proofs.Standing.{jump_op, jump-size}
use Rattle.p8_compiled.proofs.Memory.{with_jump}
use Rattle.p8_compiled.proofs.Jumping.{same-length}

-- a piece leaves code that ends where its bytes do
pub record Measured (a : Piece) : Type 0 where
  pub by : (w : Written) → w.end ≡ length (bytes_of w) → (a w).end ≡ length (bytes_of (a w))

nothings : Measured nothing
nothings = record { by = λ w is. is }

-- a bytecode more
one-more : (w v : Written) (op : Op) → v.ops ≡ w.ops ++ op ∷ [] → v.end ≡ w.end + length (spelled op) → w.end ≡ length (bytes_of w) → v.end ≡ length (bytes_of v)
one-more w v op ops end is =
    let long : length (bytes_of v) ≡ length (bytes_of w) + length (spelled op) = ap length (appended w v op ops) ∙ length-append (bytes_of w) (spelled op) in
    omega (arith, long, end, is)

ones : (op : Op) → Measured (one op)
ones op = record { by = λ w. one-more w (one op w) op refl refl }

bytes : (c : ℕ) → Measured (byte c)
bytes c = ones _

texts : (s : Place) (number : ℕ) → Measured (text s number)
texts s number = record { by = λ w. one-more w (text s number w) (record (bare 0x87) { first = number }) refl refl }

jumps : (wide : ℕ → Bool) (s : Place) (code to : ℕ) → operands_of code ≡ Some Offset → Measured (jump wide s code to)
jumps wide s code to is = record {
  by = λ w.
      let off : ℕ = offset (end_of_jump wide w) to in
      one-more w (jump wide s code to w) (jump_op code (wide w.jumps) off) refl (ap (λ k. w.end + k) (jump-size code (wide w.jumps) off is));
}

steps : (wide : ℕ → Bool) (s : Place) (to : ℕ) (op : Op) → Measured (jumping wide s to op)
steps wide s to op = record {
  by = λ w.
      let off : ℕ = offset (end_of_jumping wide op w) to in
      one-more w (jumping wide s to op w) (with_jump op off (wide w.jumps)) refl (ap (λ k. w.end + k) (same-length op (wide w.jumps) off));
}

both : {a b : Piece} → Measured a → Measured b → Measured (a ⨾ b)
both {a} {b} x y = record { by = λ w is. y.by (a w) (x.by w is) }

of : {a : Piece} (s : Place) → Measured a → Measured (of_statement s a)
of s x = record { by = λ w is. x.by (record w { statement = s }) is }

ups : {p : ℕ → Piece} → ((x : ℕ) → Measured (p x)) → Measured (up_to_end p)
ups {p} all = record { by = λ w. (all (p 0 w).end).by w }

up-jumps : {p : ℕ → ℕ → Piece} → ((x i : ℕ) → Measured (p x i)) → Measured (up_to_jumps p)
up-jumps {p} all = record { by = λ w. (all (p 0 0 w).end (p 0 0 w).jumps).by w }

froms : {p : ℕ → Piece} → ((x : ℕ) → Measured (p x)) → Measured (from_start p)
froms all = record { by = λ w. (all w.end).by w }

either : {a b : Piece} (t : Bool) → Measured a → Measured b → Measured (if t then a else b)
either true x y = x
either false x y = y

-- ---- expressions

number-measured : (v : ℕ) → Measured (number v)
number-measured v =
    either (v == 0) (bytes _) (either (v == 1) (bytes _) (either (v == 2 ^ 32 - 1) (bytes _)
    (either (nat_lt v (2 ^ 8)) (ones _) (either (nat_lt v (2 ^ 16)) (ones _) (either (nat_lt v (2 ^ 24)) (ones _) (ones _))))))

name-measured : (n : Names) (name : List ℕ) (kind : Option NameKind) → Measured (name_alone n name kind)
name-measured n name (Some (kinds.Const v)) = number-measured v
name-measured n name (Some (kinds.Method number params)) = both (bytes _) (ones _)
name-measured n name (Some (kinds.Global size offset)) = ones _
name-measured n name _ = ones _

own-measured : (kind : Option NameKind) → Measured (own_method kind)
own-measured (Some (kinds.Method number params)) = ones _
own-measured (Some (kinds.Const v)) = nothings
own-measured _ = nothings

in-measured : (n : Names) (kind : Option NameKind) (i : Index) (method : List ℕ) → Measured (method_in n kind i method)
in-measured n (Some (kinds.Object item position count)) no_index method = ones _
in-measured n (Some (kinds.Object item position count)) (index e) method = ones _
in-measured n (Some (kinds.Const v)) i method = nothings
in-measured n _ i method = nothings

callee-measured : (n : Names) (object : Option (List ℕ)) (i : Index) (method : List ℕ) → Measured (callee n object i method)
callee-measured n None i method = own-measured (n.kind method)
callee-measured n (Some object) i method = in-measured n (n.kind object) i method

counts-measured : (c : ℕ) → Measured (counts_from c)
counts-measured c = either (nat_le 0x12 c) (bytes _) (bytes _)

dropped-measured : (used : Bool) → Measured (dropped used)
dropped-measured used = either used nothings (bytes _)

pasm-measured : (used : Bool) → Measured (pasm used)
pasm-measured used = bytes _

built-value-measured : (c : ℕ) → Measured (built_value c)
built-value-measured c = either (c == 0x3F) (ones _) (either (c == 0xC0) (both (bytes _) (bytes _)) (both (ones _) (bytes _)))

made-measured : (used : Bool) (c : ℕ) → Measured (built used c)
made-measured used c =
    either used (bytes _)
    (either (nat_le 0x29 c && nat_le c 0x2B) (bytes _) (either (c == 0x16 || c == 0x17) (both (bytes _) (bytes _)) (bytes _)))

without-measured : (used : Bool) (c : ℕ) → Measured (built_without used c)
without-measured used c = either (c == 0x29) (made-measured used c) (both (built-value-measured c) (dropped-measured used))

starts-measured : (n : Names) (m : Tree) → Measured (starts n m)
starts-measured n (node p (Call trap object i method q args)) = ones _
starts-measured n (node p (Var (Named name i q))) = ones _
starts-measured n (node p (Var (Part name size i q))) = nothings
starts-measured n (node p (Number v)) = nothings
starts-measured n _ = nothings

started-measured : (n : Names) (used : Bool) (m : Tree) → Measured (started n used m)
started-measured n used m = either (starts_method n m) (both (starts-measured n m) (dropped-measured used)) (pasm-measured used)

module _ (n : Names) where
  item-measured : (down : Bool) (x : ℕ) → Measured (jump n.wide n.statement (if down then 0x11 else 0x10) x)
  unfolding rows
  item-measured true x = jumps n.wide n.statement 0x11 x refl
  item-measured false x = jumps n.wide n.statement 0x10 x refl

  range-measured : (down : Bool) (x : ℕ) → Measured (jump n.wide n.statement (if down then 0x13 else 0x12) x)
  unfolding rows
  range-measured true x = jumps n.wide n.statement 0x13 x refl
  range-measured false x = jumps n.wide n.statement 0x12 x refl

  zero-measured : (negated : Bool) (x : ℕ) → Measured (jump n.wide n.statement (zero_jump negated) x)
  unfolding rows
  zero-measured true x = jumps n.wide n.statement 0x0B x refl
  zero-measured false x = jumps n.wide n.statement 0x0A x refl

  goes-measured : (x : ℕ) → Measured (jump n.wide n.statement 0x04 x)
  unfolding rows
  goes-measured x = jumps n.wide n.statement 0x04 x refl

  mutual
    value-measured : (e : Tree) → Measured (value n e)
    value-measured (node place form) = form-measured place form

    form-measured : (place : Place) (form : Form) → Measured (value_of_form n place form)
    form-measured place (Number v) = number-measured v
    form-measured place (Str letters) = texts place _
    form-measured place (Strings es) = texts place _
    form-measured place Here = nothings
    form-measured place (Var (Named name no_index q)) = name-measured n name (n.kind name)
    form-measured place (Var (Named name (index e) q)) = both (value-measured e) (ones _)
    form-measured place (Var (Part name size i q)) = home-measured _ i _
    form-measured place (Var (Memory size e i q)) = operate-measured (Memory size e i q) _
    form-measured place (Var (Register address x q)) = operate-measured (Register address x q) _
    form-measured place (Call trap object i method q args) = both (both (both (bytes _) (values-measured args)) (index-measured i)) (callee-measured n object i method)
    form-measured place (Unary operator e) = both (value-measured e) (either (operator == 0xEC) nothings (bytes _))
    form-measured place (Binary operator a b) = both (both (value-measured a) (value-measured b)) (bytes _)
    form-measured place (Assign v operator e) = both (value-measured e) (operate-measured v _)
    form-measured place (Change v effect) = operate-measured v _
    form-measured place (Address v) = operate-measured v _
    form-measured place (ObjectAddress e) = both (value-measured e) (bytes _)
    form-measured place (ObjConst object name q) = number-measured (or_zero (constants.value n.constants (node place (ObjConst object name q))))
    form-measured place (Built c args) = built-measured true c args
    form-measured place (Look c e xs) =
        ups (λ x. both (both (both (value-measured e) (counts-measured c)) (looks-measured (looks_down c) x xs)) (bytes 0x0F))

    operate-measured : (v : Variable) (o : Operation) → Measured (operate n v o)
    operate-measured (Named name i q) o = home-measured _ i o
    operate-measured (Part name size i q) o = home-measured _ i o
    operate-measured (Memory size e no_index q) o = both (value-measured e) (ones _)
    operate-measured (Memory size e (index i) q) o = both (both (value-measured e) (value-measured i)) (ones _)
    operate-measured (Register address whole q) o = ones _
    operate-measured (Register address (bits (single e)) q) o = both (value-measured e) (ones _)
    operate-measured (Register address (bits (range a b)) q) o = both (both (value-measured a) (value-measured b)) (ones _)

    home-measured : (home : Home) (i : Index) (o : Operation) → Measured (in_home n home i o)
    home-measured home no_index o = ones _
    home-measured home (index e) o = both (value-measured e) (ones _)

    values-measured : (es : Trees) → Measured (values n es)
    values-measured no_trees = nothings
    values-measured (es ▷ e) = both (values-measured es) (value-measured e)

    index-measured : (i : Index) → Measured (index_value n i)
    index-measured no_index = nothings
    index-measured (index e) = value-measured e

    built-measured : (used : Bool) (c : ℕ) (args : Trees) → Measured (call_of_built n used c args)
    built-measured used c no_trees = without-measured used c
    built-measured used c (no_trees ▷ e) = either (c == 0) (number-measured (or_zero (constants.value n.constants e))) (both (value-measured e) (made-measured used c))
    built-measured used c (no_trees ▷ a ▷ b) =
        either (not (c == 0x2C)) (both (both (value-measured a) (value-measured b)) (made-measured used c))
        (both (both (both (bytes _) (either (starts_method n a) (arguments-measured a) (value-measured a))) (value-measured b)) (started-measured n used a))
    built-measured used c (no_trees ▷ a ▷ b ▷ d) =
        either (not (c == 0x28)) (both (both (both (value-measured a) (value-measured b)) (value-measured d)) (made-measured used c))
        (both (both (both (value-measured a) (either (starts_method n b) (arguments-measured b) (value-measured b))) (value-measured d)) (started-measured n used b))
    built-measured used c (es ▷ e) = both (both (values-measured es) (value-measured e)) (made-measured used c)

    arguments-measured : (m : Tree) → Measured (arguments n m)
    arguments-measured (node p (Call trap object i method q args)) = values-measured args
    arguments-measured _ = nothings

    looks-measured : (down : Bool) (x : ℕ) (xs : Items) → Measured (looks n down x xs)
    looks-measured down x no_items = nothings
    looks-measured down x (xs ▸ single e) = both (both (looks-measured down x xs) (value-measured e)) (item-measured down x)
    looks-measured down x (xs ▸ range a b) = both (both (both (looks-measured down x xs) (value-measured a)) (value-measured b)) (range-measured down x)

  alone-measured : (e : Tree) → Measured (alone n e)
  alone-measured (node place (Var (Named name i q))) = both (bytes _) (own-measured (n.kind name))
  alone-measured (node place (Call trap object i method q args)) =
      both (both (both (bytes _) (values-measured args)) (index-measured i)) (callee-measured n object i method)
  alone-measured (node place (Assign v operator e)) = both (value-measured e) (operate-measured v (assigned false operator))
  alone-measured (node place (Change v effect)) = operate-measured v _
  alone-measured (node place (Built c args)) = built-measured false c args
  alone-measured (node place (Number v)) = nothings
  alone-measured (node place (Var (Part name size i q))) = nothings
  alone-measured (node place (Var (Memory size e i q))) = nothings
  alone-measured (node place (Var (Register address x q))) = nothings
  alone-measured _ = nothings

  -- ---- statements

  with-value-measured : (e : Option Tree) (a b : ℕ) → Measured (with_value n e a b)
  with-value-measured None a b = bytes _
  with-value-measured (Some e) a b = both (value-measured e) (bytes _)

  test-measured : (xs : Items) → Measured (test_of n xs)
  test-measured (no_items ▸ single e) = value-measured e
  test-measured no_items = nothings
  test-measured _ = nothings

  tests-measured : (to : ℕ) (xs : Items) → Measured (tests n to xs)
  unfolding rows
  tests-measured to no_items = nothings
  tests-measured to (xs ▸ single e) = both (both (tests-measured to xs) (value-measured e)) (jumps n.wide n.statement 0x0D to refl)
  tests-measured to (xs ▸ range a b) = both (both (both (tests-measured to xs) (value-measured a)) (value-measured b)) (jumps n.wide n.statement 0x0E to refl)

  step-measured : (e : Option Tree) → Measured (step_of n e)
  step-measured None = nothings
  step-measured (Some e) = value-measured e

  begins-measured : (x : ℕ) → Measured (jump n.wide n.statement 0x08 x)
  unfolding rows
  begins-measured x = jumps n.wide n.statement 0x08 x refl

  ends-measured : (x : ℕ) → Measured (jump n.wide n.statement 0x09 x)
  unfolding rows
  ends-measured x = jumps n.wide n.statement 0x09 x refl

  goes-on-measured : (l : Option Loop) → Measured (goes_on n l)
  goes-on-measured None = nothings
  goes-on-measured (Some l) = goes-measured l.next

  leaves-measured : (l : Option Loop) → Measured (leaves n l)
  leaves-measured None = nothings
  leaves-measured (Some l) = both (either l.counted (bytes _) nothings) (goes-measured l.quit)

mutual
  code-measured : (n : Names) (l : Option Loop) (x : Statement) → Measured (code n l x)
  code-measured n l (statement place action) = of place (action-measured (record n { statement = place }) l action)

  action-measured : (n : Names) (l : Option Loop) (x : Action) → Measured (code_of n l x)
  action-measured n l (Do e) = alone-measured n e
  action-measured n l (If arms nothing_else) = ups (λ x. chain-measured n l _ _ (goes-measured n x) nothings arms)
  action-measured n l (If arms (otherwise ss)) = ups (λ x. both (chain-measured n l _ _ (goes-measured n x) (goes-measured n x) arms) (body-measured n l ss))
  action-measured n l (Case e arms other) =
      ups (λ x. both
      (up-jumps (λ i before. both (both (both (both (value-measured n e) (all-tests-measured n l i before arms)) (bytes 0x0C)) (other-measured n l other)) (goes-measured n x)))
      (bodies-measured n l x arms))
  action-measured n l (Repeat Forever ss) = ups (λ x. froms (λ i. both (body-measured n (inside i x false) ss) (goes-measured n i)))
  action-measured n l (Repeat (Count e) ss) =
      ups (λ x. both (both (value-measured n e) (begins-measured n x)) (froms (λ i. both (ups (λ v. body-measured n (inside v x true) ss)) (ends-measured n i))))
  action-measured n l (Repeat (Before until e) ss) =
      ups (λ x. froms (λ i. both (both (both (value-measured n e) (zero-measured n until x)) (body-measured n (inside i x false) ss)) (goes-measured n i)))
  action-measured n l (Repeat (After until e) ss) =
      ups (λ x. froms (λ i. both (both (ups (λ v. body-measured n (inside v x false) ss)) (value-measured n e)) (zero-measured n (not until) i)))
  action-measured n l (Repeat (From name a b step q) ss) =
      ups (λ x. both (both (value-measured n a) (ones (plain_op (home_of n name) Pop)))
      (froms (λ i. both (both (both (both (ups (λ v. body-measured n (inside v x false) ss)) (step-measured n step)) (value-measured n a)) (value-measured n b))
      (steps n.wide n.statement i (plain_name n name (step_effect step))))))
  action-measured n l Next = goes-on-measured n l
  action-measured n l Quit = leaves-measured n l
  action-measured n l (Return e) = with-value-measured n e 0x32 0x33
  action-measured n l (Abort e) = with-value-measured n e 0x30 0x31

  pub body-measured : (n : Names) (l : Option Loop) (x : Statements) → Measured (body n l x)
  body-measured n l no_statements = nothings
  body-measured n l (ss ▹ x) = both (body-measured n l ss) (code-measured n l x)

  chain-measured : (n : Names) (l : Option Loop) (f a : Piece) → Measured f → Measured a → (x : Arms) → Measured (chain n l f a x)
  chain-measured n l f a further last no_arms = nothings
  chain-measured n l f a further last (arms ⊳ arm items negated ss) =
      both (chain-measured n l f f further further arms) (ups (λ x. both (both (both (test-measured n items) (zero-measured n negated x)) (body-measured n l ss)) last))

  other-measured : (n : Names) (l : Option Loop) (x : Otherwise) → Measured (other_body n l x)
  other-measured n l nothing_else = nothings
  other-measured n l (otherwise ss) = body-measured n l ss

  all-tests-measured : (n : Names) (l : Option Loop) (first before : ℕ) (x : Arms) → Measured (all_tests n l first before x)
  all-tests-measured n l first before no_arms = nothings
  all-tests-measured n l first before (arms ⊳ arm items negated ss) = both (all-tests-measured n l first before arms) (tests-measured n _ items)

  bodies-measured : (n : Names) (l : Option Loop) (end : ℕ) (x : Arms) → Measured (case_bodies n l end x)
  bodies-measured n l end no_arms = nothings
  bodies-measured n l end (arms ⊳ arm items negated ss) = both (both (both (bodies-measured n l end arms) (bytes _)) (body-measured n l ss)) (goes-measured n end)

-- the code of a method
pub method-measured : (n : Names) (ss : Statements) → (method_code n ss).end ≡ length (bytes_of (method_code n ss))
method-measured n ss = (both (body-measured n None ss) (of n.statement (bytes 0x32))).by empty refl
