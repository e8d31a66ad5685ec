-- What a piece adds to a code's lines: one for each bytecode, where it begins, of the statement at hand or of one inside the piece.
use Rattle.std.proofs.Common.{◌≡◌, refl, sym, ap, ap₂, subst, ◌∙◌, arith, inl, inr, ℕ, zero, suc, ◌+◌, ◌-◌, ◌^◌, ◌<◌, ◌≤◌, ◌==◌, ◌&&◌, ◌||◌, nat_le, nat_lt, Bool, true, false, not, if◌then◌else◌, List, [], ◌∷◌, ◌++◌, append_assoc, length, length-append, Option, Some, None, append-nil, get_or}
use Rattle.std.specs.Prelude.{Contains, map, flat_map}
use Rattle.std.proofs.lemmas.List.{map-append}
use Rattle.std.proofs.lemmas.Grind.{flat_map-append}
use Rattle.std.proofs.lemmas.List.Elements.{All-append, Contains-append_left, Contains-append_right, Contains-append_cases}
use Rattle.p8_tree.specs.declared.places.Place.{Place}
use Rattle.p8_tree.specs.Expressions.{Tree, node, Form, Number, Str, Strings, Here, Var, Call, Unary, Binary, Assign, Change, Address, ObjectAddress, ObjConst, Built, Look, Variable, Named, Part, Memory, Register, Index, no_index, index, whole, bits, single, range, Trees, no_trees, ◌▷◌, Items, no_items, ◌▸◌}
use Rattle.p8_tree.specs.Statements.{Forever, Count, Before, After, From, Statement, statement, Action, Do, If, Case, Repeat, Next, Quit, Return, Abort, arm, Otherwise, nothing_else, otherwise, Statements, no_statements, ◌▹◌, Arms, no_arms, ◌⊳◌}
use Rattle.p8_bytecode.specs.declared.op.Op.{Op}
use Rattle.p8_bytecode.specs.Spelling.{spelled}
use Rattle.p8_bytecode.specs.Table.{rows}
use Rattle.p8_kinds.specs.declared.name_kinds.NameKind.{NameKind}
use Rattle.p8_kinds.specs.declared.name_kinds.NameKind.TheVariants as kinds
use Rattle.p8_words.specs.Operators.{or_zero}
use Rattle.p8_fold.specs.Values as constants
use Rattle.p8_gen.specs.Names.{Names}
use Rattle.p8_bytecode.specs.Reading.{bare}
use Rattle.p8_gen.specs.Pieces.{Written, empty, Piece, nothing, one, ◌⨾◌, from_start, up_to_end, up_to_jumps, of_statement, byte, text, offset, jump, end_of_jump, jumping, end_of_jumping}
use Rattle.p8_gen.specs.Variables.{number, Home, Operation, plain_op, home_of, Pop, assigned}
use Rattle.p8_gen.specs.Expressions.{pasm, started, built_without, own_method, method_in, callee, name_alone, counts_from, looks_down, dropped, built_value, built, starts, starts_method, value, value_of_form, operate, in_home, values, index_value, call_of_built, arguments, looks, alone}
use Rattle.p8_gen.specs.Statements.{Loop, inside, goes_on, leaves, with_value, test_of, tests, step_of, step_effect, plain_name, zero_jump, code, code_of, body, chain, other_body, all_tests, case_bodies}
use Rattle.p8_bytecode.specs.declared.operands.Operands.TheVariants.{Offset}
use Rattle.p8_bytecode.specs.Table.{operands_of}
use Rattle.p8_gen.specs.Methods.{method_code}
use Rattle.p8_compiled.proofs.Standing.{jump_op, jump-size}
use Rattle.p8_compiled.proofs.Memory.{with_jump}
use Rattle.p8_compiled.proofs.Jumping.{same-length}
use Rattle.p8_legend.specs.Lines.{begin_of, begins_from, places_of, places_in, places_of_body, places_of_arms, places_of_other, IsLineOf, AddsLines}

-- ---- where bytecodes begin

begins-joined : (at : ℕ) (xs ys : List Op) → begins_from at (xs ++ ys) ≡ begins_from at xs ++ begins_from (at + length (flat_map spelled xs)) ys
begins-joined at [] ys = let here : at ≡ at + 0 = omega arith in ap (λ n. begins_from n ys) here
begins-joined at (x ∷ xs) ys =
    let size : length (flat_map spelled (x ∷ xs)) ≡ length (spelled x) + length (flat_map spelled xs) = length-append (spelled x) (flat_map spelled xs) in
    let there : at + length (spelled x) + length (flat_map spelled xs) ≡ at + length (flat_map spelled (x ∷ xs)) = omega (arith, size) in
    ap (λ ns. at ∷ ns) (begins-joined (at + length (spelled x)) xs ys ∙ ap (λ n. begins_from (at + length (spelled x)) xs ++ begins_from n ys) there)

sizes-joined : (xs ys : List Op) → length (flat_map spelled (xs ++ ys)) ≡ length (flat_map spelled xs) + length (flat_map spelled ys)
sizes-joined xs ys = ap length (flat_map-append spelled xs ys) ∙ length-append (flat_map spelled xs) (flat_map spelled ys)

-- ---- places among others

abbrev pub AreAmong : List Place → List Place → Type 0
AreAmong some all = (p : Place) → Contains some p → Contains all p

pub left : (a b all : List Place) → AreAmong (a ++ b) all → AreAmong a all
left a b all sub = λ p h. sub p (Contains-append_left a b p h)

pub right : (a b all : List Place) → AreAmong (a ++ b) all → AreAmong b all
right a b all sub = λ p h. sub p (Contains-append_right a b p h)

first : (s : Place) (L : List Place) → Contains (s ∷ L) s
first s L = (0, omega arith, refl)

pub behind-first : (s : Place) (L : List Place) (p : Place) → Contains L p → Contains (s ∷ L) p
behind-first s L p h = Contains-append_right (s ∷ []) L p h

only-one : (s p : Place) → Contains (s ∷ []) p → s ≡ p
only-one s p (zero, lt, is) = is
only-one s p (suc k, lt, is) = absurd (omega (arith, lt))

-- another statement that is among the places, in place of the first one
instead : (s t : Place) (L : List Place) → Contains L s → (p : Place) → Contains (s ∷ L) p → Contains (t ∷ L) p
instead s t L inside p h = elim (Contains-append_cases (s ∷ []) L p h) [
  | inl one ↦ behind-first t L p (subst (Contains L) (only-one s p one) inside)
  | inr other ↦ behind-first t L p other
]

-- ---- pieces

-- what a piece adds, by the statement at hand, which stays
pub record Adds (L : List Place) (w v : Written) : Type 0 where
  pub more : AddsLines (w.statement ∷ L) w v
  pub keeps : v.statement ≡ w.statement

pub record Lined (L : List Place) (a : Piece) : Type 0 where
  pub by : (w : Written) → Adds L w (a w)

wider : (places others : List Place) (begin end start stop : ℕ) → ((p : Place) → Contains places p → Contains others p) → start ≤ begin → end ≤ stop → (line : ℕ × Place) → IsLineOf places begin end line → IsLineOf others start stop line
wider places others begin end start stop sub low high line is =
    let b = is.begins in
    let e = is.ends in
    record { made = sub line.1 is.made; begins = omega (arith, low, b); ends = omega (arith, high, e) }

-- no bytecode more
none-more : (places : List Place) (w : Written) → AddsLines places w w
none-more places w = record {
  ops = [];
  lines = [];
  codes = sym (append-nil w.ops);
  behind = sym (append-nil w.lines);
  ends = omega arith;
  begins = refl;
  each = λ k d lt. absurd (omega (arith, lt));
}

-- a bytecode more
one-more : {L : List Place} (w v : Written) (op : Op) → v.ops ≡ w.ops ++ op ∷ [] → v.end ≡ w.end + length (spelled op) → v.lines ≡ w.lines ++ (w.end, w.statement) ∷ [] → v.statement ≡ w.statement → Adds L w v
one-more {L} w v op ops end lines same =
    let long : 1 ≤ length (spelled op) = omega arith in
    let size : length (flat_map spelled (op ∷ [])) ≡ length (spelled op) = ap length (append-nil (spelled op)) in
    record {
      more = record {
        ops = op ∷ [];
        lines = (w.end, w.statement) ∷ [];
        codes = ops;
        behind = lines;
        ends = omega (arith, end, size);
        begins = refl;
        each = λ k d lt. one-line k d lt (record { made = first w.statement L; begins = omega arith; ends = omega (arith, end, long) });
      };
      keeps = same;
    }
  where
    one-line : (k : ℕ) (d : ℕ × Place) → k < 1 → IsLineOf (w.statement ∷ L) w.end v.end (w.end, w.statement) → IsLineOf (w.statement ∷ L) w.end v.end (get_or ((w.end, w.statement) ∷ []) k d)
    one-line zero d lt is = is
    one-line (suc k) d lt is = absurd (omega (arith, lt))

-- more, and then more
joined : (a b all : List Place) (w u v : Written) → ((p : Place) → Contains a p → Contains all p) → ((p : Place) → Contains b p → Contains all p) → AddsLines a w u → AddsLines b u v → AddsLines all w v
joined a b all w u v sub_a sub_b x y =
    let P : ℕ × Place → Type 0 = IsLineOf all w.end v.end in
    let low : w.end ≤ u.end = let ends = x.ends in omega (arith, ends) in
    let high : u.end ≤ v.end = let ends = y.ends in omega (arith, ends) in
    let size = sizes-joined x.ops y.ops in
    let first_ends = x.ends in
    let last_ends = y.ends in
    record {
      ops = x.ops ++ y.ops;
      lines = x.lines ++ y.lines;
      codes = y.codes ∙ ap (λ os. os ++ y.ops) x.codes ∙ append_assoc w.ops x.ops y.ops;
      behind = y.behind ∙ ap (λ ls. ls ++ y.lines) x.behind ∙ append_assoc w.lines x.lines y.lines;
      ends = omega (arith, first_ends, last_ends, size);
      begins =
          map-append begin_of x.lines y.lines ∙ ap₂ (λ ns ms. ns ++ ms) x.begins (y.begins ∙ ap (λ n. begins_from n y.ops) x.ends)
          ∙ sym (begins-joined w.end x.ops y.ops);
      each = All-append P x.lines y.lines
          (λ k d lt. wider a all w.end u.end w.end v.end sub_a (omega arith) high _ (x.each k d lt))
          (λ k d lt. wider b all u.end v.end w.end v.end sub_b low (omega arith) _ (y.each k d lt));
    }

pub nothings : {L : List Place} → Lined L nothing
nothings {L} = record { by = λ w. record { more = none-more (w.statement ∷ L) w; keeps = refl } }

pub ones : {L : List Place} (op : Op) → Lined L (one op)
ones op = record { by = λ w. one-more w (one op w) op refl refl refl refl }

pub bytes : {L : List Place} (c : ℕ) → Lined L (byte c)
bytes c = ones _

texts : {L : List Place} (s : Place) (number : ℕ) → Lined L (text s number)
texts s number = record { by = λ w. one-more w (text s number w) (record (bare 0x87) { first = number }) refl refl refl refl }

jumps : {L : List Place} (wide : ℕ → Bool) (s : Place) (code to : ℕ) → operands_of code ≡ Some Offset → Lined L (jump wide s code to)
jumps wide s code to is = record {
  by = λ w.
      let off : ℕ = offset (end_of_jump wide w) to in
      one-more w (jump wide s code to w) (jump_op code (wide w.jumps) off) refl (ap (λ k. w.end + k) (jump-size code (wide w.jumps) off is)) refl refl;
}

steps : {L : List Place} (wide : ℕ → Bool) (s : Place) (to : ℕ) (op : Op) → Lined L (jumping wide s to op)
steps wide s to op = record {
  by = λ w.
      let off : ℕ = offset (end_of_jumping wide op w) to in
      one-more w (jumping wide s to op w) (with_jump op off (wide w.jumps)) refl (ap (λ k. w.end + k) (same-length op (wide w.jumps) off)) refl refl;
}

pub both : {L : List Place} {a b : Piece} → Lined L a → Lined L b → Lined L (a ⨾ b)
both {L} {a} {b} x y = record {
  by = λ w.
      let u = x.by w in
      let v = y.by (a w) in
      record {
        more = joined (w.statement ∷ L) ((a w).statement ∷ L) (w.statement ∷ L) w (a w) (b (a w)) (λ p h. h) (λ p h. subst (λ s. Contains (s ∷ L) p) u.keeps h) u.more v.more;
        keeps = v.keeps ∙ u.keeps;
      };
}

-- the lines of a statement's code, by those of its action's
of-statement : (s : Place) (L all : List Place) (a : Piece) (w : Written) → ((p : Place) → Contains (s ∷ L) p → Contains all p) → Adds L (record w { statement = s }) (a (record w { statement = s })) → AddsLines all w (of_statement s a w)
of-statement s L all a w sub x =
    let inner : Written = record w { statement = s } in
    let more = x.more in
    record {
      ops = more.ops;
      lines = more.lines;
      codes = more.codes;
      behind = more.behind;
      ends = more.ends;
      begins = more.begins;
      each = λ k d lt. wider (s ∷ L) all w.end (a inner).end w.end (a inner).end sub (omega arith) (omega arith) _ (more.each k d lt);
    }

pub of : {L : List Place} {a : Piece} (s : Place) → Contains L s → Lined L a → Lined L (of_statement s a)
of {L} {a} s inside x = record {
  by = λ w. record { more = of-statement s L (w.statement ∷ L) a w (instead s w.statement L inside) (x.by (record w { statement = s })); keeps = refl };
}

ups : {L : List Place} {p : ℕ → Piece} → ((x : ℕ) → Lined L (p x)) → Lined L (up_to_end p)
ups {L} {p} all = record { by = λ w. (all (p 0 w).end).by w }

up-jumps : {L : List Place} {p : ℕ → ℕ → Piece} → ((x i : ℕ) → Lined L (p x i)) → Lined L (up_to_jumps p)
up-jumps {L} {p} all = record { by = λ w. (all (p 0 0 w).end (p 0 0 w).jumps).by w }

froms : {L : List Place} {p : ℕ → Piece} → ((x : ℕ) → Lined L (p x)) → Lined L (from_start p)
froms all = record { by = λ w. (all w.end).by w }

either : {L : List Place} {a b : Piece} (t : Bool) → Lined L a → Lined L b → Lined L (if t then a else b)
either true x y = x
either false x y = y

-- ---- expressions

module _ {L : List Place} where
  number-lined : (v : ℕ) → Lined L (number v)
  number-lined v =
      either (v == 0) (bytes _) (either (v == 1) (bytes _) (either (v == 2 ^ 32 - 1) (bytes _)
      (either (nat_lt v (2 ^ 8)) (ones _) (either (nat_lt v (2 ^ 16)) (ones _) (either (nat_lt v (2 ^ 24)) (ones _) (ones _))))))

  name-lined : (n : Names) (name : List ℕ) (kind : Option NameKind) → Lined L (name_alone n name kind)
  name-lined n name (Some (kinds.Const v)) = number-lined v
  name-lined n name (Some (kinds.Method number params)) = both (bytes _) (ones _)
  name-lined n name (Some (kinds.Global size offset)) = ones _
  name-lined n name _ = ones _

  own-lined : (kind : Option NameKind) → Lined L (own_method kind)
  own-lined (Some (kinds.Method number params)) = ones _
  own-lined (Some (kinds.Const v)) = nothings
  own-lined _ = nothings

  in-lined : (n : Names) (kind : Option NameKind) (i : Index) (method : List ℕ) → Lined L (method_in n kind i method)
  in-lined n (Some (kinds.Object item position count)) no_index method = ones _
  in-lined n (Some (kinds.Object item position count)) (index e) method = ones _
  in-lined n (Some (kinds.Const v)) i method = nothings
  in-lined n _ i method = nothings

  callee-lined : (n : Names) (object : Option (List ℕ)) (i : Index) (method : List ℕ) → Lined L (callee n object i method)
  callee-lined n None i method = own-lined (n.kind method)
  callee-lined n (Some object) i method = in-lined n (n.kind object) i method

  counts-lined : (c : ℕ) → Lined L (counts_from c)
  counts-lined c = either (nat_le 0x12 c) (bytes _) (bytes _)

  dropped-lined : (used : Bool) → Lined L (dropped used)
  dropped-lined used = either used nothings (bytes _)

  pasm-lined : (used : Bool) → Lined L (pasm used)
  pasm-lined used = bytes _

  built-value-lined : (c : ℕ) → Lined L (built_value c)
  built-value-lined c = either (c == 0x3F) (ones _) (either (c == 0xC0) (both (bytes _) (bytes _)) (both (ones _) (bytes _)))

  made-lined : (used : Bool) (c : ℕ) → Lined L (built used c)
  made-lined used c =
      either used (bytes _)
      (either (nat_le 0x29 c && nat_le c 0x2B) (bytes _) (either (c == 0x16 || c == 0x17) (both (bytes _) (bytes _)) (bytes _)))

  without-lined : (used : Bool) (c : ℕ) → Lined L (built_without used c)
  without-lined used c = either (c == 0x29) (made-lined used c) (both (built-value-lined c) (dropped-lined used))

  starts-lined : (n : Names) (m : Tree) → Lined L (starts n m)
  starts-lined n (node p (Call trap object i method q args)) = ones _
  starts-lined n (node p (Var (Named name i q))) = ones _
  starts-lined n (node p (Var (Part name size i q))) = nothings
  starts-lined n (node p (Number v)) = nothings
  starts-lined n _ = nothings

  started-lined : (n : Names) (used : Bool) (m : Tree) → Lined L (started n used m)
  started-lined n used m = either (starts_method n m) (both (starts-lined n m) (dropped-lined used)) (pasm-lined used)

module _ {L : List Place} (n : Names) where
  item-lined : (down : Bool) (x : ℕ) → Lined L (jump n.wide n.statement (if down then 0x11 else 0x10) x)
  unfolding rows
  item-lined true x = jumps n.wide n.statement 0x11 x refl
  item-lined false x = jumps n.wide n.statement 0x10 x refl

  range-lined : (down : Bool) (x : ℕ) → Lined L (jump n.wide n.statement (if down then 0x13 else 0x12) x)
  unfolding rows
  range-lined true x = jumps n.wide n.statement 0x13 x refl
  range-lined false x = jumps n.wide n.statement 0x12 x refl

  zero-lined : (negated : Bool) (x : ℕ) → Lined L (jump n.wide n.statement (zero_jump negated) x)
  unfolding rows
  zero-lined true x = jumps n.wide n.statement 0x0B x refl
  zero-lined false x = jumps n.wide n.statement 0x0A x refl

  goes-lined : (x : ℕ) → Lined L (jump n.wide n.statement 0x04 x)
  unfolding rows
  goes-lined x = jumps n.wide n.statement 0x04 x refl

  mutual
    value-lined : (e : Tree) → Lined L (value n e)
    value-lined (node place form) = form-lined place form

    form-lined : (place : Place) (form : Form) → Lined L (value_of_form n place form)
    form-lined place (Number v) = number-lined v
    form-lined place (Str letters) = texts place _
    form-lined place (Strings es) = texts place _
    form-lined place Here = nothings
    form-lined place (Var (Named name no_index q)) = name-lined n name (n.kind name)
    form-lined place (Var (Named name (index e) q)) = both (value-lined e) (ones _)
    form-lined place (Var (Part name size i q)) = home-lined _ i _
    form-lined place (Var (Memory size e i q)) = operate-lined (Memory size e i q) _
    form-lined place (Var (Register address x q)) = operate-lined (Register address x q) _
    form-lined place (Call trap object i method q args) = both (both (both (bytes _) (values-lined args)) (index-lined i)) (callee-lined n object i method)
    form-lined place (Unary operator e) = both (value-lined e) (either (operator == 0xEC) nothings (bytes _))
    form-lined place (Binary operator a b) = both (both (value-lined a) (value-lined b)) (bytes _)
    form-lined place (Assign v operator e) = both (value-lined e) (operate-lined v _)
    form-lined place (Change v effect) = operate-lined v _
    form-lined place (Address v) = operate-lined v _
    form-lined place (ObjectAddress e) = both (value-lined e) (bytes _)
    form-lined place (ObjConst object name q) = number-lined (or_zero (constants.value n.constants (node place (ObjConst object name q))))
    form-lined place (Built c args) = built-lined true c args
    form-lined place (Look c e xs) =
        ups (λ x. both (both (both (value-lined e) (counts-lined c)) (looks-lined (looks_down c) x xs)) (bytes 0x0F))

    operate-lined : (v : Variable) (o : Operation) → Lined L (operate n v o)
    operate-lined (Named name i q) o = home-lined _ i o
    operate-lined (Part name size i q) o = home-lined _ i o
    operate-lined (Memory size e no_index q) o = both (value-lined e) (ones _)
    operate-lined (Memory size e (index i) q) o = both (both (value-lined e) (value-lined i)) (ones _)
    operate-lined (Register address whole q) o = ones _
    operate-lined (Register address (bits (single e)) q) o = both (value-lined e) (ones _)
    operate-lined (Register address (bits (range a b)) q) o = both (both (value-lined a) (value-lined b)) (ones _)

    home-lined : (home : Home) (i : Index) (o : Operation) → Lined L (in_home n home i o)
    home-lined home no_index o = ones _
    home-lined home (index e) o = both (value-lined e) (ones _)

    values-lined : (es : Trees) → Lined L (values n es)
    values-lined no_trees = nothings
    values-lined (es ▷ e) = both (values-lined es) (value-lined e)

    index-lined : (i : Index) → Lined L (index_value n i)
    index-lined no_index = nothings
    index-lined (index e) = value-lined e

    built-lined : (used : Bool) (c : ℕ) (args : Trees) → Lined L (call_of_built n used c args)
    built-lined used c no_trees = without-lined used c
    built-lined used c (no_trees ▷ e) = either (c == 0) (number-lined (or_zero (constants.value n.constants e))) (both (value-lined e) (made-lined used c))
    built-lined used c (no_trees ▷ a ▷ b) =
        either (not (c == 0x2C)) (both (both (value-lined a) (value-lined b)) (made-lined used c))
        (both (both (both (bytes _) (either (starts_method n a) (arguments-lined a) (value-lined a))) (value-lined b)) (started-lined n used a))
    built-lined used c (no_trees ▷ a ▷ b ▷ d) =
        either (not (c == 0x28)) (both (both (both (value-lined a) (value-lined b)) (value-lined d)) (made-lined used c))
        (both (both (both (value-lined a) (either (starts_method n b) (arguments-lined b) (value-lined b))) (value-lined d)) (started-lined n used b))
    built-lined used c (es ▷ e) = both (both (values-lined es) (value-lined e)) (made-lined used c)

    arguments-lined : (m : Tree) → Lined L (arguments n m)
    arguments-lined (node p (Call trap object i method q args)) = values-lined args
    arguments-lined _ = nothings

    looks-lined : (down : Bool) (x : ℕ) (xs : Items) → Lined L (looks n down x xs)
    looks-lined down x no_items = nothings
    looks-lined down x (xs ▸ single e) = both (both (looks-lined down x xs) (value-lined e)) (item-lined down x)
    looks-lined down x (xs ▸ range a b) = both (both (both (looks-lined down x xs) (value-lined a)) (value-lined b)) (range-lined down x)

  alone-lined : (e : Tree) → Lined L (alone n e)
  alone-lined (node place (Var (Named name i q))) = both (bytes _) (own-lined (n.kind name))
  alone-lined (node place (Call trap object i method q args)) =
      both (both (both (bytes _) (values-lined args)) (index-lined i)) (callee-lined n object i method)
  alone-lined (node place (Assign v operator e)) = both (value-lined e) (operate-lined v (assigned false operator))
  alone-lined (node place (Change v effect)) = operate-lined v _
  alone-lined (node place (Built c args)) = built-lined false c args
  alone-lined (node place (Number v)) = nothings
  alone-lined (node place (Var (Part name size i q))) = nothings
  alone-lined (node place (Var (Memory size e i q))) = nothings
  alone-lined (node place (Var (Register address x q))) = nothings
  alone-lined _ = nothings

  -- ---- statements

  with-value-lined : (e : Option Tree) (a b : ℕ) → Lined L (with_value n e a b)
  with-value-lined None a b = bytes _
  with-value-lined (Some e) a b = both (value-lined e) (bytes _)

  test-lined : (xs : Items) → Lined L (test_of n xs)
  test-lined (no_items ▸ single e) = value-lined e
  test-lined no_items = nothings
  test-lined _ = nothings

  tests-lined : (to : ℕ) (xs : Items) → Lined L (tests n to xs)
  unfolding rows
  tests-lined to no_items = nothings
  tests-lined to (xs ▸ single e) = both (both (tests-lined to xs) (value-lined e)) (jumps n.wide n.statement 0x0D to refl)
  tests-lined to (xs ▸ range a b) = both (both (both (tests-lined to xs) (value-lined a)) (value-lined b)) (jumps n.wide n.statement 0x0E to refl)

  step-lined : (e : Option Tree) → Lined L (step_of n e)
  step-lined None = nothings
  step-lined (Some e) = value-lined e

  begins-lined : (x : ℕ) → Lined L (jump n.wide n.statement 0x08 x)
  unfolding rows
  begins-lined x = jumps n.wide n.statement 0x08 x refl

  ends-lined : (x : ℕ) → Lined L (jump n.wide n.statement 0x09 x)
  unfolding rows
  ends-lined x = jumps n.wide n.statement 0x09 x refl

  goes-on-lined : (l : Option Loop) → Lined L (goes_on n l)
  goes-on-lined None = nothings
  goes-on-lined (Some l) = goes-lined l.next

  leaves-lined : (l : Option Loop) → Lined L (leaves n l)
  leaves-lined None = nothings
  leaves-lined (Some l) = both (either l.counted (bytes _) nothings) (goes-lined l.quit)

module _ (L : List Place) where
  mutual
    code-lined : (n : Names) (l : Option Loop) (x : Statement) → AreAmong (places_of x) L → Lined L (code n l x)
    code-lined n l (statement place action) sub = of place (sub place (first place (places_in action))) (action-lined (record n { statement = place }) l action (λ p h. sub p (behind-first place (places_in action) p h)))

    pub action-lined : (n : Names) (l : Option Loop) (x : Action) → AreAmong (places_in x) L → Lined L (code_of n l x)
    action-lined n l (Do e) sub = alone-lined n e
    action-lined n l (If arms nothing_else) sub = ups (λ x. chain-lined n l _ _ (goes-lined n x) nothings arms (left (places_of_arms arms) [] L sub))
    action-lined n l (If arms (otherwise ss)) sub =
        ups (λ x. both (chain-lined n l _ _ (goes-lined n x) (goes-lined n x) arms (left (places_of_arms arms) (places_of_body ss) L sub)) (body-lined n l ss (right (places_of_arms arms) (places_of_body ss) L sub)))
    action-lined n l (Case e arms other) sub =
        ups (λ x. both
        (up-jumps (λ i before. both (both (both (both (value-lined n e) (all-tests-lined n l i before arms)) (bytes 0x0C)) (other-lined n l other (right (places_of_arms arms) (places_of_other other) L sub))) (goes-lined n x)))
        (bodies-lined n l x arms (left (places_of_arms arms) (places_of_other other) L sub)))
    action-lined n l (Repeat Forever ss) sub = ups (λ x. froms (λ i. both (body-lined n (inside i x false) ss sub) (goes-lined n i)))
    action-lined n l (Repeat (Count e) ss) sub =
        ups (λ x. both (both (value-lined n e) (begins-lined n x)) (froms (λ i. both (ups (λ v. body-lined n (inside v x true) ss sub)) (ends-lined n i))))
    action-lined n l (Repeat (Before until e) ss) sub =
        ups (λ x. froms (λ i. both (both (both (value-lined n e) (zero-lined n until x)) (body-lined n (inside i x false) ss sub)) (goes-lined n i)))
    action-lined n l (Repeat (After until e) ss) sub =
        ups (λ x. froms (λ i. both (both (ups (λ v. body-lined n (inside v x false) ss sub)) (value-lined n e)) (zero-lined n (not until) i)))
    action-lined n l (Repeat (From name a b step q) ss) sub =
        ups (λ x. both (both (value-lined n a) (ones (plain_op (home_of n name) Pop)))
        (froms (λ i. both (both (both (both (ups (λ v. body-lined n (inside v x false) ss sub)) (step-lined n step)) (value-lined n a)) (value-lined n b))
        (steps n.wide n.statement i (plain_name n name (step_effect step))))))
    action-lined n l Next sub = goes-on-lined n l
    action-lined n l Quit sub = leaves-lined n l
    action-lined n l (Return e) sub = with-value-lined n e 0x32 0x33
    action-lined n l (Abort e) sub = with-value-lined n e 0x30 0x31

    pub body-lined : (n : Names) (l : Option Loop) (x : Statements) → AreAmong (places_of_body x) L → Lined L (body n l x)
    body-lined n l no_statements sub = nothings
    body-lined n l (ss ▹ x) sub = both (body-lined n l ss (left (places_of_body ss) (places_of x) L sub)) (code-lined n l x (right (places_of_body ss) (places_of x) L sub))

    chain-lined : (n : Names) (l : Option Loop) (f a : Piece) → Lined L f → Lined L a → (x : Arms) → AreAmong (places_of_arms x) L → Lined L (chain n l f a x)
    chain-lined n l f a further last no_arms sub = nothings
    chain-lined n l f a further last (arms ⊳ arm items negated ss) sub =
        both (chain-lined n l f f further further arms (left (places_of_arms arms) (places_of_body ss) L sub))
        (ups (λ x. both (both (both (test-lined n items) (zero-lined n negated x)) (body-lined n l ss (right (places_of_arms arms) (places_of_body ss) L sub))) last))

    other-lined : (n : Names) (l : Option Loop) (x : Otherwise) → AreAmong (places_of_other x) L → Lined L (other_body n l x)
    other-lined n l nothing_else sub = nothings
    other-lined n l (otherwise ss) sub = body-lined n l ss sub

    all-tests-lined : (n : Names) (l : Option Loop) (first before : ℕ) (x : Arms) → Lined L (all_tests n l first before x)
    all-tests-lined n l first before no_arms = nothings
    all-tests-lined n l first before (arms ⊳ arm items negated ss) = both (all-tests-lined n l first before arms) (tests-lined n _ items)

    bodies-lined : (n : Names) (l : Option Loop) (end : ℕ) (x : Arms) → AreAmong (places_of_arms x) L → Lined L (case_bodies n l end x)
    bodies-lined n l end no_arms sub = nothings
    bodies-lined n l end (arms ⊳ arm items negated ss) sub =
        both (both (both (bodies-lined n l end arms (left (places_of_arms arms) (places_of_body ss) L sub)) (bytes _)) (body-lined n l ss (right (places_of_arms arms) (places_of_body ss) L sub))) (goes-lined n end)

-- ---- statements and methods

pub statement-lines : (n : Names) (l : Option Loop) (x : Statement) (w : Written) → AddsLines (places_of x) w (code n l x w)
statement-lines n l (statement place action) w =
    of-statement place (places_in action) (place ∷ places_in action) (code_of (record n { statement = place }) l action) w (λ p h. h)
    ((action-lined (places_in action) (record n { statement = place }) l action (λ p h. h)).by (record w { statement = place }))

pub alone-lines : (n : Names) (l : Option Loop) (place : Place) (action : Action) → places_in action ≡ [] → (w : Written) → AddsLines (place ∷ []) w (code n l (statement place action) w)
alone-lines n l place action none w = subst (λ ps. AddsLines (place ∷ ps) w (code n l (statement place action) w)) none (statement-lines n l (statement place action) w)

-- no line of a method is of the statement before its first
body-lines : (n : Names) (l : Option Loop) (ss : Statements) (w : Written) → AddsLines (places_of_body ss) w (body n l ss w)
body-lines n l no_statements w = none-more [] w
body-lines n l (ss ▹ x) w =
    let u : Written = body n l ss w in
    joined (places_of_body ss) (places_of x) (places_of_body (ss ▹ x)) w u (code n l x u) (λ p h. Contains-append_left (places_of_body ss) (places_of x) p h) (λ p h. Contains-append_right (places_of_body ss) (places_of x) p h)
    (body-lines n l ss w) (statement-lines n l x u)

pub method-lines : (n : Names) (ss : Statements) → AddsLines (places_of_body ss ++ n.statement ∷ []) empty (method_code n ss)
method-lines n ss =
    let u : Written = body n None ss empty in
    joined (places_of_body ss) (n.statement ∷ []) (places_of_body ss ++ n.statement ∷ []) empty u (method_code n ss)
    (λ p h. Contains-append_left (places_of_body ss) (n.statement ∷ []) p h) (λ p h. Contains-append_right (places_of_body ss) (n.statement ∷ []) p h)
    (body-lines n None ss empty) (of-statement n.statement [] (n.statement ∷ []) (byte 0x32) u (λ p h. h) ((bytes {L = []} 0x32).by (record u { statement = n.statement })))

pub lines-begin : (n : Names) (ss : Statements) → map begin_of (method_code n ss).lines ≡ begins_from 0 (method_code n ss).ops
lines-begin n ss =
    let is = method-lines n ss in
    ap (map begin_of) is.behind ∙ is.begins ∙ ap (begins_from 0) (sym is.codes)
