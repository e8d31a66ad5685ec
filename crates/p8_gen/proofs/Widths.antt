-- How long a piece is, and how many jumps it has, doesn't depend on where it stands, where its jumps go, or where texts stand.
use Rattle.std.proofs.Common.{◌≡◌, ℕ, subst, ap, ◌+◌, ◌-◌, ◌^◌, ◌==◌, ◌&&◌, ◌||◌, nat_le, nat_lt, Bool, true, false, not, if◌then◌else◌, List, [], ◌∷◌, ◌++◌, Option, Some, None, refl, ◌∙◌, arith, length}
use Rattle.std.proofs.lemmas.List.{length-append}
use Rattle.p8_tree.specs.declared.places.Place.{Place}
use Rattle.p8_tree.specs.Expressions.{Tree, node, Form, Number, Str, Strings, Here, Var, Call, Unary, Binary, Assign, Change, Address, ObjectAddress, ObjConst, Built, Look, Variable, Named, Part, Memory, Register, Index, no_index, index, whole, bits, single, range, Trees, no_trees, ◌▷◌, Items, no_items, ◌▸◌}
use Rattle.p8_tree.specs.Statements.{Forever, Count, Before, After, From, Statement, statement, Action, Do, If, Case, Repeat, Next, Quit, Return, Abort, arm, Otherwise, nothing_else, otherwise, Statements, no_statements, ◌▹◌, Arms, no_arms, ◌⊳◌}
use Rattle.p8_bytecode.specs.declared.op.Op.{Op}
use Rattle.p8_bytecode.specs.Spelling.{spelled}
use Rattle.p8_bytecode.specs.Table.{rows}
use Rattle.p8_kinds.specs.declared.name_kinds.NameKind.{NameKind}
use Rattle.p8_kinds.specs.declared.name_kinds.NameKind.TheVariants as kinds
use Rattle.p8_words.specs.Operators.{or_zero}
use Rattle.p8_fold.specs.Values as constants
use Rattle.p8_gen.specs.Names.{Names, moved}
use Rattle.p8_gen.specs.Pieces.{Written, Piece, empty, nothing, one, ◌⨾◌, from_start, up_to_end, up_to_jumps, of_statement, byte, text, jump, jumping, jump_size}
use Rattle.p8_gen.specs.Variables.{number, Home, Operation, plain_op, home_of, Pop, assigned}
use Rattle.p8_gen.specs.Expressions.{pasm, started, built_without, own_method, method_in, callee, name_alone, counts_from, looks_down, dropped, built_value, built, starts, starts_method, value, value_of_form, operate, in_home, values, index_value, call_of_built, arguments, looks, alone}
use Rattle.p8_gen.specs.Methods.{method_code}
use Rattle.p8_gen.specs.Statements.{Loop, SameLoop, inside, goes_on, leaves, with_value, test_of, tests, step_of, step_effect, plain_name, zero_jump, code, code_of, body, chain, other_body, all_tests, case_bodies}

one-more : {A B : Type 0} (xs : List A) (ys : List B) (x : A) (y : B) → length xs ≡ length ys → length (xs ++ x ∷ []) ≡ length (ys ++ y ∷ [])
one-more xs ys x y is = let first = length-append xs (x ∷ []) in let second = length-append ys (y ∷ []) in omega (arith, is, first, second)

-- two pieces are as long as each other and have as many jumps, wherever each begins with the same number of jumps before it
pub record Alike (a b : Piece) : Type 0 where
  pub ends : (v w : Written) → v.jumps ≡ w.jumps → (a v).end + w.end ≡ (b w).end + v.end
  pub counts : (v w : Written) → v.jumps ≡ w.jumps → (a v).jumps ≡ (b w).jumps
  -- after the first one the same statement goes on as before
  pub keeps : (w : Written) → (a w).statement ≡ w.statement
  -- it has a line for each of its bytecodes
  pub levels : (w : Written) → length w.lines ≡ length w.ops → length (a w).lines ≡ length (a w).ops

pub nothings : Alike nothing nothing
nothings = record { ends = λ v w is. omega arith; counts = λ v w is. is; keeps = λ w. refl; levels = λ w is. is }

pub ones : (o p : Op) → length (spelled o) ≡ length (spelled p) → Alike (one o) (one p)
ones o p same = record { ends = λ v w is. omega (arith, same); counts = λ v w is. is; keeps = λ w. refl; levels = λ w is. one-more w.lines w.ops _ _ is }

pub same-one : (o : Op) → Alike (one o) (one o)
same-one o = ones o o refl

pub bytes : (c : ℕ) → Alike (byte c) (byte c)
bytes c = same-one _

-- a sum in another order
rounds : (i j m n : ℕ) → m ≡ n → i + m + j ≡ j + n + i
rounds i j m n is = omega (arith, is)

pub jumps : (wide : ℕ → Bool) (s t : Place) (c x y : ℕ) → Alike (jump wide s c x) (jump wide t c y)
jumps wide s t c x y = record {
  ends = λ v w is. rounds v.end w.end (jump_size (wide v.jumps)) (jump_size (wide w.jumps)) (ap (λ k. jump_size (wide k)) is);
  counts = λ v w is. ap (λ k. k + 1) is;
  keeps = λ w. refl;
  levels = λ w is. one-more w.lines w.ops _ _ is;
}

pub steps : (wide : ℕ → Bool) (s t : Place) (x y : ℕ) (o : Op) → Alike (jumping wide s x o) (jumping wide t y o)
steps wide s t x y o = record {
  ends = λ v w is. rounds v.end w.end _ _ (ap (λ k. length (spelled (record o { long_form = wide k }))) is);
  counts = λ v w is. ap (λ k. k + 1) is;
  keeps = λ w. refl;
  levels = λ w is. one-more w.lines w.ops _ _ is;
}

pub both : {a b c d : Piece} → Alike a c → Alike b d → Alike (a ⨾ b) (c ⨾ d)
both {a} {b} {c} {d} x y = record {
  ends = λ v w is. let first = x.ends v w is in let second = y.ends (a v) (c w) (x.counts v w is) in omega (arith, first, second);
  counts = λ v w is. y.counts (a v) (c w) (x.counts v w is);
  keeps = λ w. y.keeps (a w) ∙ x.keeps w;
  levels = λ w is. y.levels (a w) (x.levels w is);
}

pub of : {a b : Piece} (s t : Place) → Alike a b → Alike (of_statement s a) (of_statement t b)
of s t x = record {
  ends = λ v w is. x.ends (record v { statement = s }) (record w { statement = t }) is;
  counts = λ v w is. x.counts (record v { statement = s }) (record w { statement = t }) is;
  keeps = λ w. refl;
  levels = λ w is. x.levels (record w { statement = s }) is;
}

pub ups : {p q : ℕ → Piece} → ((x y : ℕ) → Alike (p x) (q y)) → Alike (up_to_end p) (up_to_end q)
ups {p} {q} same = record {
  ends = λ v w is. (same (p 0 v).end (q 0 w).end).ends v w is;
  counts = λ v w is. (same (p 0 v).end (q 0 w).end).counts v w is;
  keeps = λ w. (same (p 0 w).end 0).keeps w;
  levels = λ w is. (same (p 0 w).end 0).levels w is;
}

pub up-jumps : {p q : ℕ → ℕ → Piece} → ((x y i j : ℕ) → Alike (p x i) (q y j)) → Alike (up_to_jumps p) (up_to_jumps q)
up-jumps {p} {q} same = record {
  ends = λ v w is. (same (p 0 0 v).end (q 0 0 w).end (p 0 0 v).jumps (q 0 0 w).jumps).ends v w is;
  counts = λ v w is. (same (p 0 0 v).end (q 0 0 w).end (p 0 0 v).jumps (q 0 0 w).jumps).counts v w is;
  keeps = λ w. (same (p 0 0 w).end 0 (p 0 0 w).jumps 0).keeps w;
  levels = λ w is. (same (p 0 0 w).end 0 (p 0 0 w).jumps 0).levels w is;
}

pub froms : {p q : ℕ → Piece} → ((x y : ℕ) → Alike (p x) (q y)) → Alike (from_start p) (from_start q)
froms same = record { ends = λ v w is. (same v.end w.end).ends v w is; counts = λ v w is. (same v.end w.end).counts v w is; keeps = λ w. (same w.end 0).keeps w; levels = λ w is. (same w.end 0).levels w is }

pub either : {a b c d : Piece} (t : Bool) → Alike a c → Alike b d → Alike (if t then a else b) (if t then c else d)
either true x y = x
either false x y = y

-- ---- expressions

-- the offset of a text has two bytes
text-alike : (s : Place) (p q : ℕ) → Alike (text s p) (text s q)
unfolding rows
text-alike s p q = record { ends = λ v w is. omega arith; counts = λ v w is. is; keeps = λ w. refl; levels = λ w is. one-more w.lines w.ops _ _ is }

number-alike : (v : ℕ) → Alike (number v) (number v)
number-alike v =
    either (v == 0) (bytes _) (either (v == 1) (bytes _) (either (v == 2 ^ 32 - 1) (bytes _)
    (either (nat_lt v (2 ^ 8)) (same-one _) (either (nat_lt v (2 ^ 16)) (same-one _) (either (nat_lt v (2 ^ 24)) (same-one _) (same-one _))))))

name-alike : (n : Names) (t : Place → ℕ) (s : Place) (name : List ℕ) (kind : Option NameKind) → Alike (name_alone n name kind) (name_alone (moved n t s) name kind)
name-alike n t s name (Some (kinds.Const v)) = number-alike v
name-alike n t s name (Some (kinds.Method number params)) = both (bytes _) (same-one _)
name-alike n t s name (Some (kinds.Global size offset)) = same-one _
name-alike n t s name _ = same-one _

own-alike : (kind : Option NameKind) → Alike (own_method kind) (own_method kind)
own-alike (Some (kinds.Method number params)) = same-one _
own-alike (Some (kinds.Const v)) = nothings
own-alike _ = nothings

in-alike : (n : Names) (t : Place → ℕ) (s : Place) (kind : Option NameKind) (i : Index) (method : List ℕ) → Alike (method_in n kind i method) (method_in (moved n t s) kind i method)
in-alike n t s (Some (kinds.Object item position count)) no_index method = same-one _
in-alike n t s (Some (kinds.Object item position count)) (index e) method = same-one _
in-alike n t s (Some (kinds.Const v)) i method = nothings
in-alike n t s _ i method = nothings

callee-alike : (n : Names) (t : Place → ℕ) (s : Place) (object : Option (List ℕ)) (i : Index) (method : List ℕ) → Alike (callee n object i method) (callee (moved n t s) object i method)
callee-alike n t s None i method = own-alike (n.kind method)
callee-alike n t s (Some object) i method = in-alike n t s (n.kind object) i method

pub counts-alike : (c : ℕ) → Alike (counts_from c) (counts_from c)
counts-alike c = either (nat_le 0x12 c) (bytes _) (bytes _)

dropped-alike : (used : Bool) → Alike (dropped used) (dropped used)
dropped-alike used = either used nothings (bytes _)

pasm-alike : (used : Bool) → Alike (pasm used) (pasm used)
pasm-alike used = bytes _

built-value-alike : (c : ℕ) → Alike (built_value c) (built_value c)
built-value-alike c = either (c == 0x3F) (same-one _) (either (c == 0xC0) (both (bytes _) (bytes _)) (both (same-one _) (bytes _)))

made-alike : (used : Bool) (c : ℕ) → Alike (built used c) (built used c)
made-alike used c =
    either used (bytes _)
    (either (nat_le 0x29 c && nat_le c 0x2B) (bytes _) (either (c == 0x16 || c == 0x17) (both (bytes _) (bytes _)) (bytes _)))

without-alike : (used : Bool) (c : ℕ) → Alike (built_without used c) (built_without used c)
without-alike used c = either (c == 0x29) (made-alike used c) (both (built-value-alike c) (dropped-alike used))

starts-alike : (n : Names) (t : Place → ℕ) (s : Place) (m : Tree) → Alike (starts n m) (starts (moved n t s) m)
starts-alike n t s (node p (Call trap object i method q args)) = same-one _
starts-alike n t s (node p (Var (Named name i q))) = same-one _
starts-alike n t s (node p (Var (Part name size i q))) = nothings
starts-alike n t s (node p (Number v)) = nothings
starts-alike n t s _ = nothings

started-alike : (n : Names) (t : Place → ℕ) (s : Place) (used : Bool) (m : Tree) → Alike (started n used m) (started (moved n t s) used m)
started-alike n t s used m = either (starts_method n m) (both (starts-alike n t s m) (dropped-alike used)) (pasm-alike used)

module _ (n : Names) (t : Place → ℕ) (s : Place) where
  mutual
    pub value-alike : (e : Tree) → Alike (value n e) (value (moved n t s) e)
    value-alike (node place form) = form-alike place form

    form-alike : (place : Place) (form : Form) → Alike (value_of_form n place form) (value_of_form (moved n t s) place form)
    form-alike place (Number v) = number-alike v
    form-alike place (Str letters) = text-alike place _ _
    form-alike place (Strings es) = text-alike place _ _
    form-alike place Here = nothings
    form-alike place (Var (Named name no_index q)) = name-alike n t s name (n.kind name)
    form-alike place (Var (Named name (index e) q)) = both (value-alike e) (same-one _)
    form-alike place (Var (Part name size i q)) = home-alike _ i _
    form-alike place (Var (Memory size e i q)) = operate-alike (Memory size e i q) _
    form-alike place (Var (Register address x q)) = operate-alike (Register address x q) _
    form-alike place (Call trap object i method q args) = both (both (both (bytes _) (values-alike args)) (index-alike i)) (callee-alike n t s object i method)
    form-alike place (Unary operator e) = both (value-alike e) (either (operator == 0xEC) nothings (bytes _))
    form-alike place (Binary operator a b) = both (both (value-alike a) (value-alike b)) (bytes _)
    form-alike place (Assign v operator e) = both (value-alike e) (operate-alike v _)
    form-alike place (Change v effect) = operate-alike v _
    form-alike place (Address v) = operate-alike v _
    form-alike place (ObjectAddress e) = both (value-alike e) (bytes _)
    form-alike place (ObjConst object name q) = number-alike (or_zero (constants.value n.constants (node place (ObjConst object name q))))
    form-alike place (Built c args) = built-alike true c args
    form-alike place (Look c e xs) =
        ups (λ x y. both (both (both (value-alike e) (counts-alike c)) (looks-alike (looks_down c) x y xs)) (bytes 0x0F))

    operate-alike : (v : Variable) (o : Operation) → Alike (operate n v o) (operate (moved n t s) v o)
    operate-alike (Named name i q) o = home-alike _ i o
    operate-alike (Part name size i q) o = home-alike _ i o
    operate-alike (Memory size e no_index q) o = both (value-alike e) (same-one _)
    operate-alike (Memory size e (index i) q) o = both (both (value-alike e) (value-alike i)) (same-one _)
    operate-alike (Register address whole q) o = same-one _
    operate-alike (Register address (bits (single e)) q) o = both (value-alike e) (same-one _)
    operate-alike (Register address (bits (range a b)) q) o = both (both (value-alike a) (value-alike b)) (same-one _)

    home-alike : (home : Home) (i : Index) (o : Operation) → Alike (in_home n home i o) (in_home (moved n t s) home i o)
    home-alike home no_index o = same-one _
    home-alike home (index e) o = both (value-alike e) (same-one _)

    values-alike : (es : Trees) → Alike (values n es) (values (moved n t s) es)
    values-alike no_trees = nothings
    values-alike (es ▷ e) = both (values-alike es) (value-alike e)

    index-alike : (i : Index) → Alike (index_value n i) (index_value (moved n t s) i)
    index-alike no_index = nothings
    index-alike (index e) = value-alike e

    built-alike : (used : Bool) (c : ℕ) (args : Trees) → Alike (call_of_built n used c args) (call_of_built (moved n t s) used c args)
    built-alike used c no_trees = without-alike used c
    built-alike used c (no_trees ▷ e) = either (c == 0) (number-alike (or_zero (constants.value n.constants e))) (both (value-alike e) (made-alike used c))
    built-alike used c (no_trees ▷ a ▷ b) =
        either (not (c == 0x2C)) (both (both (value-alike a) (value-alike b)) (made-alike used c))
        (both (both (both (bytes _) (either (starts_method n a) (arguments-alike a) (value-alike a))) (value-alike b)) (started-alike n t s used a))
    built-alike used c (no_trees ▷ a ▷ b ▷ d) =
        either (not (c == 0x28)) (both (both (both (value-alike a) (value-alike b)) (value-alike d)) (made-alike used c))
        (both (both (both (value-alike a) (either (starts_method n b) (arguments-alike b) (value-alike b))) (value-alike d)) (started-alike n t s used b))
    built-alike used c (es ▷ e) = both (both (values-alike es) (value-alike e)) (made-alike used c)

    arguments-alike : (m : Tree) → Alike (arguments n m) (arguments (moved n t s) m)
    arguments-alike (node p (Call trap object i method q args)) = values-alike args
    arguments-alike _ = nothings

    pub looks-alike : (down : Bool) (x y : ℕ) (xs : Items) → Alike (looks n down x xs) (looks (moved n t s) down y xs)
    looks-alike down x y no_items = nothings
    looks-alike down x y (xs ▸ single e) = both (both (looks-alike down x y xs) (value-alike e)) (jumps n.wide n.statement s _ x y)
    looks-alike down x y (xs ▸ range a b) = both (both (both (looks-alike down x y xs) (value-alike a)) (value-alike b)) (jumps n.wide n.statement s _ x y)

  pub alone-alike : (e : Tree) → Alike (alone n e) (alone (moved n t s) e)
  alone-alike (node place (Var (Named name i q))) = both (bytes _) (own-alike (n.kind name))
  alone-alike (node place (Call trap object i method q args)) =
      both (both (both (bytes _) (values-alike args)) (index-alike i)) (callee-alike n t s object i method)
  alone-alike (node place (Assign v operator e)) = both (value-alike e) (operate-alike v (assigned false operator))
  alone-alike (node place (Change v effect)) = operate-alike v _
  alone-alike (node place (Built c args)) = built-alike false c args
  alone-alike (node place (Number v)) = nothings
  alone-alike (node place (Var (Part name size i q))) = nothings
  alone-alike (node place (Var (Memory size e i q))) = nothings
  alone-alike (node place (Var (Register address x q))) = nothings
  alone-alike _ = nothings

  -- ---- statements

  pub with-value-alike : (e : Option Tree) (a b : ℕ) → Alike (with_value n e a b) (with_value (moved n t s) e a b)
  with-value-alike None a b = bytes _
  with-value-alike (Some e) a b = both (value-alike e) (bytes _)

  pub test-alike : (xs : Items) → Alike (test_of n xs) (test_of (moved n t s) xs)
  test-alike (no_items ▸ single e) = value-alike e
  test-alike no_items = nothings
  test-alike _ = nothings

  pub tests-alike : (x y : ℕ) (xs : Items) → Alike (tests n x xs) (tests (moved n t s) y xs)
  tests-alike x y no_items = nothings
  tests-alike x y (xs ▸ single e) = both (both (tests-alike x y xs) (value-alike e)) (jumps n.wide n.statement s _ x y)
  tests-alike x y (xs ▸ range a b) = both (both (both (tests-alike x y xs) (value-alike a)) (value-alike b)) (jumps n.wide n.statement s _ x y)

  pub step-alike : (e : Option Tree) → Alike (step_of n e) (step_of (moved n t s) e)
  step-alike None = nothings
  step-alike (Some e) = value-alike e

goes-on-alike : (n : Names) (t : Place → ℕ) (s : Place) (l k : Option Loop) → SameLoop l k → Alike (goes_on n l) (goes_on (moved n t s) k)
goes-on-alike n t s None None like = nothings
goes-on-alike n t s None (Some k) like = absurd like
goes-on-alike n t s (Some l) None like = absurd like
goes-on-alike n t s (Some l) (Some k) like = jumps n.wide n.statement s 0x04 l.next k.next

either-of : {a b c d : Piece} (t u : Bool) → t ≡ u → Alike a c → Alike b d → Alike (if t then a else b) (if u then c else d)
either-of {a} {b} {c} {d} t u like x y = subst (λ (v : Bool). Alike (if t then a else b) (if v then c else d)) like (either t x y)

leaves-alike : (n : Names) (t : Place → ℕ) (s : Place) (l k : Option Loop) → SameLoop l k → Alike (leaves n l) (leaves (moved n t s) k)
leaves-alike n t s None None like = nothings
leaves-alike n t s None (Some k) like = absurd like
leaves-alike n t s (Some l) None like = absurd like
leaves-alike n t s (Some l) (Some k) like = both (either-of l.counted k.counted like (bytes _) nothings) (jumps n.wide n.statement s 0x04 l.quit k.quit)

mutual
  pub code-alike : (n : Names) (t : Place → ℕ) (s : Place) (l k : Option Loop) → SameLoop l k → (x : Statement) → Alike (code n l x) (code (moved n t s) k x)
  code-alike n t s l k like (statement place action) = of place place (action-alike (record n { statement = place }) t place l k like action)

  pub action-alike : (n : Names) (t : Place → ℕ) (s : Place) (l k : Option Loop) → SameLoop l k → (x : Action) → Alike (code_of n l x) (code_of (moved n t s) k x)
  action-alike n t s l k like (Do e) = alone-alike n t s e
  action-alike n t s l k like (If arms nothing_else) =
      ups (λ x y. chain-alike n t s l k like _ _ _ _ (jumps n.wide n.statement s 0x04 x y) nothings arms)
  action-alike n t s l k like (If arms (otherwise ss)) =
      ups (λ x y. both (chain-alike n t s l k like _ _ _ _ (jumps n.wide n.statement s 0x04 x y) (jumps n.wide n.statement s 0x04 x y) arms) (body-alike n t s l k like ss))
  action-alike n t s l k like (Case e arms other) =
      ups (λ x y. both
      (up-jumps (λ i j a b.
      both (both (both (both (value-alike n t s e) (all-tests-alike n t s l k like i j a b arms)) (bytes 0x0C)) (other-alike n t s l k like other))
      (jumps n.wide n.statement s 0x04 x y)))
      (bodies-alike n t s l k like x y arms))
  action-alike n t s l k like (Repeat Forever ss) =
      ups (λ x y. froms (λ i j. both (body-alike n t s (inside i x false) (inside j y false) refl ss) (jumps n.wide n.statement s 0x04 i j)))
  action-alike n t s l k like (Repeat (Count e) ss) =
      ups (λ x y. both (both (value-alike n t s e) (jumps n.wide n.statement s 0x08 x y))
      (froms (λ i j. both (ups (λ v w. body-alike n t s (inside v x true) (inside w y true) refl ss)) (jumps n.wide n.statement s 0x09 i j))))
  action-alike n t s l k like (Repeat (Before until e) ss) =
      ups (λ x y. froms (λ i j.
      both (both (both (value-alike n t s e) (jumps n.wide n.statement s (zero_jump until) x y))
      (body-alike n t s (inside i x false) (inside j y false) refl ss)) (jumps n.wide n.statement s 0x04 i j)))
  action-alike n t s l k like (Repeat (After until e) ss) =
      ups (λ x y. froms (λ i j.
      both (both (ups (λ v w. body-alike n t s (inside v x false) (inside w y false) refl ss)) (value-alike n t s e))
      (jumps n.wide n.statement s (zero_jump (not until)) i j)))
  action-alike n t s l k like (Repeat (From name a b step q) ss) =
      ups (λ x y. both (both (value-alike n t s a) (same-one (plain_op (home_of n name) Pop)))
      (froms (λ i j.
      both (both (both (both (ups (λ v w. body-alike n t s (inside v x false) (inside w y false) refl ss)) (step-alike n t s step)) (value-alike n t s a))
      (value-alike n t s b)) (steps n.wide n.statement s i j (plain_name n name (step_effect step))))))
  action-alike n t s l k like Next = goes-on-alike n t s l k like
  action-alike n t s l k like Quit = leaves-alike n t s l k like
  action-alike n t s l k like (Return e) = with-value-alike n t s e 0x32 0x33
  action-alike n t s l k like (Abort e) = with-value-alike n t s e 0x30 0x31

  pub body-alike : (n : Names) (t : Place → ℕ) (s : Place) (l k : Option Loop) → SameLoop l k → (x : Statements) → Alike (body n l x) (body (moved n t s) k x)
  body-alike n t s l k like no_statements = nothings
  body-alike n t s l k like (ss ▹ x) = both (body-alike n t s l k like ss) (code-alike n t s l k like x)

  pub chain-alike : (n : Names) (t : Place → ℕ) (s : Place) (l k : Option Loop) → SameLoop l k → (f g a b : Piece) → Alike f g → Alike a b → (x : Arms) → Alike (chain n l f a x) (chain (moved n t s) k g b x)
  chain-alike n t s l k like f g a b further last no_arms = nothings
  chain-alike n t s l k like f g a b further last (arms ⊳ arm items negated ss) =
      both (chain-alike n t s l k like f g f g further further arms)
      (ups (λ x y. both (both (both (test-alike n t s items) (jumps n.wide n.statement s (zero_jump negated) x y)) (body-alike n t s l k like ss)) last))

  pub other-alike : (n : Names) (t : Place → ℕ) (s : Place) (l k : Option Loop) → SameLoop l k → (x : Otherwise) → Alike (other_body n l x) (other_body (moved n t s) k x)
  other-alike n t s l k like nothing_else = nothings
  other-alike n t s l k like (otherwise ss) = body-alike n t s l k like ss

  pub all-tests-alike : (n : Names) (t : Place → ℕ) (s : Place) (l k : Option Loop) → SameLoop l k → (i j a b : ℕ) → (x : Arms) → Alike (all_tests n l i a x) (all_tests (moved n t s) k j b x)
  all-tests-alike n t s l k like i j a b no_arms = nothings
  all-tests-alike n t s l k like i j a b (arms ⊳ arm items negated ss) =
      both (all-tests-alike n t s l k like i j a b arms) (tests-alike n t s _ _ items)

  pub bodies-alike : (n : Names) (t : Place → ℕ) (s : Place) (l k : Option Loop) → SameLoop l k → (i j : ℕ) → (x : Arms) → Alike (case_bodies n l i x) (case_bodies (moved n t s) k j x)
  bodies-alike n t s l k like i j no_arms = nothings
  bodies-alike n t s l k like i j (arms ⊳ arm items negated ss) =
      both (both (both (bodies-alike n t s l k like i j arms) (bytes _)) (body-alike n t s l k like ss)) (jumps n.wide n.statement s _ i j)

pub method-level : (n : Names) (ss : Statements) → length (method_code n ss).lines ≡ length (method_code n ss).ops
method-level n ss = (both (body-alike n n.text n.statement None None tt ss) (of n.statement n.statement (bytes 0x32))).levels empty refl
