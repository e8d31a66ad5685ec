-- How a choice of wide jumps moves the places of code: which bytes and which jumps stand before a place doesn't depend on it.
use Rattle.std.proofs.Common.{◌≡◌, ℕ, zero, suc, subst, ap, sym, ◌∙◌, ◌+◌, ◌-◌, ◌*◌, ◌<◌, ◌^◌, ◌%◌, ◌==◌, ◌&&◌, ◌||◌, nat_le, nat_lt, Bool, true, false, not, if◌then◌else◌, List, [], ◌∷◌, ◌++◌, Option, Some, None, refl, arith, length, length-append, slice_get, inl, inr}
use Rattle.std.proofs.lemmas.Bool.{cases_lt}
use Rattle.std.proofs.lemmas.Option.{same_Some, none-some, slice_get_within}
use Rattle.p8_tree.specs.declared.places.Place.{Place}
use Rattle.p8_tree.specs.Expressions.{Tree, node, Form, Number, Str, Strings, Here, Var, Call, Unary, Binary, Assign, Change, Address, ObjectAddress, ObjConst, Built, Look, Variable, Named, Part, Memory, Register, Index, no_index, index, whole, bits, single, range, Trees, no_trees, ◌▷◌, Items, no_items, ◌▸◌}
use Rattle.p8_tree.specs.Statements.{Forever, Count, Before, After, From, Statement, statement, Action, Do, If, Case, Repeat, Next, Quit, Return, Abort, arm, Otherwise, nothing_else, otherwise, Statements, no_statements, ◌▹◌, Arms, no_arms, ◌⊳◌}
use Rattle.p8_bytecode.specs.declared.op.Op.{Op}
use Rattle.p8_bytecode.specs.declared.operands.Operands.TheVariants.{ShortVariable, Variable as VariableBytes}
use Rattle.p8_bytecode.specs.Reading.{bare, offset_size, has_base, changes_variable}
use Rattle.p8_bytecode.specs.Spelling.{spelled, operand_bytes, effect_bytes, offset_bytes, place_bytes, has_long_place}
use Rattle.p8_bytecode.specs.Table.{rows, operands_of, is_step}
use Rattle.p8_kinds.specs.declared.name_kinds.NameKind.{NameKind}
use Rattle.p8_kinds.specs.declared.name_kinds.NameKind.TheVariants as kinds
use Rattle.p8_words.specs.Operators.{or_zero}
use Rattle.p8_fold.specs.Values as constants
use Rattle.p8_gen.specs.Names.{Names, widened}
use Rattle.p8_gen.specs.Methods.{method_code}
use Rattle.p8_gen.specs.Pieces.{Written, Piece, empty, from_place, nothing, one, ◌⨾◌, from_start, up_to_end, up_to_jumps, byte, text, jump, end_of_jump, jumping, end_of_jumping, of_statement}
use Rattle.p8_gen.specs.Variables.{number, Base, Pushed, OfObject, OfVariables, OfFrame, Home, Operation, plain_op, memory_op, short_bits, short_or_long, is_short, base_bits, home_of, Pop, Using, assigned}
use Rattle.p8_gen.specs.Expressions.{pasm, started, built_without, own_method, method_in, callee, name_alone, counts_from, looks_down, dropped, built_value, built, starts, starts_method, value, value_of_form, operate, in_home, values, index_value, call_of_built, arguments, looks, alone}
use Rattle.p8_gen.specs.Statements.{Loop, inside, goes_on, leaves, with_value, test_of, tests, step_of, step_effect, plain_name, zero_jump, code, code_of, body, chain, other_body, all_tests, case_bodies}
use Rattle.p8_compiled.specs.Moving.{spent, IsSamePlace, IsSameWay, AreSameWays}
use Rattle.p8_compiled.proofs.Choices.{within-row}
use Rattle.p8_compiled.proofs.Truths.{both-true, below, equal}
use Rattle.p8_compiled.proofs.Memory.{short-code, has_short, short-there, all-short}

-- ---- how long a step of REPEAT is

offset-length : (form : Bool) (off : ℕ) → length (offset_bytes form off) ≡ offset_size form
offset-length true off = refl
offset-length false off = refl

effect-length : (op : Op) → changes_variable op.code ≡ true → is_step op.effect ≡ true → length (effect_bytes (changes_variable op.code) op) ≡ suc (offset_size op.long_form)
effect-length op changes steps =
    ap (λ c. length (effect_bytes c op)) changes ∙ ap (λ s. suc (length (if s then offset_bytes op.long_form op.second else []))) steps ∙ ap suc (offset-length op.long_form op.second)

short-length : (op : Op) → operands_of op.code ≡ Some ShortVariable → changes_variable op.code ≡ true → is_step op.effect ≡ true → length (spelled op) ≡ suc (suc (offset_size op.long_form))
short-length op row changes steps = ap (λ found. suc (length (operand_bytes found (has_long_place op) op))) row ∙ ap suc (effect-length op changes steps)

long-length : (op : Op) → operands_of op.code ≡ Some VariableBytes → changes_variable op.code ≡ true → is_step op.effect ≡ true
    → length (spelled op) ≡ suc (length (if has_base op.code then place_bytes (has_long_place op) op.first else []) + suc (offset_size op.long_form))
long-length op row changes steps =
    let at : List ℕ = if has_base op.code then place_bytes (has_long_place op) op.first else [] in
    ap (λ found. suc (length (operand_bytes found (has_long_place op) op))) row
    ∙ ap suc (length-append at (effect_bytes (changes_variable op.code) op) ∙ ap (λ k. length at + k) (effect-length op changes steps))

-- an operation whose length depends on nothing but its form
record Sized (op : Op) : Type 0 where
  rest : ℕ
  length_is : (form : Bool) → length (spelled (record op { long_form = form })) ≡ rest + offset_size form

size-code : (a b : Bool) (base : Base) → (operands_of (0x80 + (if a then 0 else if b then 0x20 else 0x40) + 0 + base_bits base + 2) ≡ Some VariableBytes) × (changes_variable (0x80 + (if a then 0 else if b then 0x20 else 0x40) + 0 + base_bits base + 2) ≡ true)
unfolding rows
size-code true b Pushed = (refl, refl)
size-code true b OfObject = (refl, refl)
size-code true b OfVariables = (refl, refl)
size-code true b OfFrame = (refl, refl)
size-code false true Pushed = (refl, refl)
size-code false true OfObject = (refl, refl)
size-code false true OfVariables = (refl, refl)
size-code false true OfFrame = (refl, refl)
size-code false false Pushed = (refl, refl)
size-code false false OfObject = (refl, refl)
size-code false false OfVariables = (refl, refl)
size-code false false OfFrame = (refl, refl)

long-sum : (a b : ℕ) → suc (a + suc b) ≡ 2 + a + b
long-sum a b = omega arith

short-sum : (b : ℕ) → suc (suc b) ≡ 2 + b
short-sum b = omega arith

long-sized : (home : Home) (effect : ℕ) → is_step effect ≡ true → Sized (memory_op false home (Using effect))
long-sized home effect steps =
    let op : Op = memory_op false home (Using effect) in
    let is = size-code (home.size == 1) (home.size == 2) home.base in
    record {
      rest = 2 + length (if has_base op.code then place_bytes (has_long_place op) op.first else []);
      length_is = λ form. long-length (record op { long_form = form }) is.0 is.1 steps ∙ long-sum _ (offset_size form);
    }

short-sized : (bit offset effect : ℕ) → bit < 2 → offset < 32 → offset % 4 ≡ 0 → is_step effect ≡ true → Sized (record (bare (0x40 + bit * 0x20 + offset + 2)) { effect = effect })
short-sized bit offset effect few low fours steps =
    let op : Op = record (bare (0x40 + bit * 0x20 + offset + 2)) { effect = effect } in
    let c = short-code bit offset (Using effect) few low fours in
    let row : operands_of op.code ≡ Some ShortVariable = short-there (operands_of op.code) (within-row (λ k. has_short (operands_of k)) 0x40 64 all-short op.code c.least (omega (arith, c.most))) in
    record { rest = 2; length_is = λ form. short-length (record op { long_form = form }) row (ap (λ n. n == 2) c.action) steps ∙ short-sum (offset_size form) }

either-sized : (a b : Op) (t : Bool) → (t ≡ true → Sized a) → Sized b → Sized (if t then a else b)
either-sized a b true x y = x refl
either-sized a b false x y = y

short-or-long-sized : (bit : ℕ) (home : Home) (effect : ℕ) → bit < 2 → is_step effect ≡ true
    → Sized (if is_short home then record (bare (0x40 + bit * 0x20 + home.offset + 2)) { effect = effect } else memory_op false home (Using effect))
short-or-long-sized bit home effect few steps =
    either-sized (record (bare (0x40 + bit * 0x20 + home.offset + 2)) { effect = effect }) (memory_op false home (Using effect)) (is_short home)
    (λ short.
    let one : ((home.size == 4 && nat_lt home.offset 32) ≡ true) × ((home.offset % 4 == 0) ≡ true) = both-true _ _ short in
    let two : ((home.size == 4) ≡ true) × (nat_lt home.offset 32 ≡ true) = both-true _ _ one.0 in
    short-sized bit home.offset effect few (below home.offset 32 two.1) (equal (home.offset % 4) 0 one.1) steps)
    (long-sized home effect steps)

plain-sized : (base : Base) (home : Home) (effect : ℕ) → is_step effect ≡ true → Sized (short_or_long (short_bits base) home (Using effect))
plain-sized Pushed home effect steps = long-sized home effect steps
plain-sized OfObject home effect steps = long-sized home effect steps
plain-sized OfVariables home effect steps = short-or-long-sized 0 home effect (omega arith) steps
plain-sized OfFrame home effect steps = short-or-long-sized 1 home effect (omega arith) steps

step-is : (step : Option Tree) → is_step (step_effect step) ≡ true
step-is None = refl
step-is (Some e) = refl

-- ---- the ways of jumps, one after the other

pushed : (xs : List (ℕ × ℕ)) (x : ℕ × ℕ) → slice_get (xs ++ x ∷ []) (length xs) ≡ Some x
pushed [] x = refl
pushed (y ∷ xs) x = pushed xs x

before-last : (xs : List (ℕ × ℕ)) (x : ℕ × ℕ) (k : ℕ) → k < length xs → slice_get (xs ++ x ∷ []) k ≡ slice_get xs k
before-last [] x k lt = absurd (omega (arith, lt))
before-last (y ∷ xs) x zero lt = refl
before-last (y ∷ xs) x (suc k) lt = before-last xs x k (omega (arith, lt))

module _ (f g : ℕ → Bool) where
  one-way-more : (vs ws : List (ℕ × ℕ)) (v w : ℕ × ℕ) → AreSameWays f g vs ws → IsSameWay f g (length vs) v w → AreSameWays f g (vs ++ v ∷ []) (ws ++ w ∷ [])
  one-way-more vs ws v w are more =
      let long = length-append vs (v ∷ []) in
      let wide = length-append ws (w ∷ []) in
      record {
        count = long ∙ ap (λ n. n + 1) are.count ∙ sym wide;
        each = λ k x y at there. elim (cases_lt k (length vs)) [
          | inl lt ↦ are.each k x y (sym (before-last vs v k lt) ∙ at) (sym (before-last ws w k (let same = are.count in omega (arith, lt, same))) ∙ there)
          | inr past ↦
              let inside = slice_get_within (vs ++ v ∷ []) k x at in
              let last : k ≡ length vs = omega (arith, past, inside, long) in
              let one : v ≡ x = same_Some v x (sym (pushed vs v) ∙ ap (slice_get (vs ++ v ∷ [])) (sym last) ∙ at) in
              let other : w ≡ y = same_Some w y (sym (pushed ws w) ∙ ap (slice_get (ws ++ w ∷ [])) (sym (last ∙ are.count)) ∙ there) in
              subst (λ (n : ℕ). IsSameWay f g n x y) (sym last) (subst (λ (z : ℕ × ℕ). IsSameWay f g (length vs) x z) other (subst (λ (z : ℕ × ℕ). IsSameWay f g (length vs) z w) one more))
        ];
      }

  -- ---- pieces that go on from the same places

  -- two codes end at the same place
  record Ends (v w : Written) : Type 0 where
    bytes : ℕ
    one : v.end ≡ bytes + spent f v.jumps
    other : w.end ≡ bytes + spent g v.jumps
    same : v.jumps ≡ w.jumps

  -- and have the same ways
  record Ways (v w : Written) : Type 0 where
    counted : v.jumps ≡ length v.ways
    are : AreSameWays f g v.ways w.ways

  record Moves (a b : Piece) : Type 0 where
    ends : (v w : Written) → Ends v w → Ends (a v) (b w)
    ways : (v w : Written) → Ends v w → Ways v w → Ways (a v) (b w)

  place-of : (v w : Written) → Ends v w → IsSamePlace f g v.end w.end
  place-of v w h = record { bytes = h.bytes; jumps = v.jumps; one = h.one; other = h.other }

  first-place : IsSamePlace f g 0 0
  first-place = record { bytes = 0; jumps = 0; one = refl; other = refl }

  nothings : Moves nothing nothing
  nothings = record { ends = λ v w h. h; ways = λ v w h k. k }

  of : {a b : Piece} (s : Place) → Moves a b → Moves (of_statement s a) (of_statement s b)
  of {a} {b} s x =
      let begun : (v w : Written) → Ends v w → Ends (record v { statement = s }) (record w { statement = s }) = λ v w h. record { bytes = h.bytes; one = h.one; other = h.other; same = h.same } in
      record {
        ends = λ v w h. let k = x.ends (record v { statement = s }) (record w { statement = s }) (begun v w h) in record { bytes = k.bytes; one = k.one; other = k.other; same = k.same };
        ways = λ v w h k.
            let m = x.ways (record v { statement = s }) (record w { statement = s }) (begun v w h) (record { counted = k.counted; are = k.are }) in
            record { counted = m.counted; are = m.are };
      }

  further : (end bytes offsets size : ℕ) → end ≡ bytes + offsets → end + size ≡ (bytes + size) + offsets
  further end bytes offsets size is = omega (arith, is)

  same-one : (o : Op) → Moves (one o) (one o)
  same-one o = record {
    ends = λ v w h. record { bytes = h.bytes + length (spelled o); one = further v.end h.bytes (spent f v.jumps) (length (spelled o)) h.one; other = further w.end h.bytes (spent g v.jumps) (length (spelled o)) h.other; same = h.same };
    ways = λ v w h k. record { counted = k.counted; are = k.are };
  }

  bytes : (c : ℕ) → Moves (byte c) (byte c)
  bytes c = same-one _

  texts : (s : Place) (p : ℕ) → Moves (text s p) (text s p)
  texts s p = record {
    ends = λ v w h. let k = (same-one (record (bare 0x87) { first = p })).ends v w h in record { bytes = k.bytes; one = k.one; other = k.other; same = k.same };
    ways = λ v w h k. record { counted = k.counted; are = k.are };
  }

  spent-next : (h : ℕ → Bool) (n : ℕ) → spent h (n + 1) ≡ spent h n + offset_size (h n)
  spent-next h n = let plus : n + 1 ≡ suc n = omega arith in ap (spent h) plus

  behind-jump : (end bytes offsets rest size next : ℕ) → end ≡ bytes + offsets → next ≡ offsets + size → end + (rest + size) ≡ (bytes + rest) + next
  behind-jump end bytes offsets rest size next is more = omega (arith, is, more)

  -- a bytecode that jumps, of so many bytes beside its offset
  module _ (rest : ℕ) (x y : ℕ) (to : IsSamePlace f g x y) (v w : Written) (i j : ℕ) (h : Ends v w) (i_is : i ≡ v.end + (rest + offset_size (f v.jumps))) (j_is : j ≡ w.end + (rest + offset_size (g w.jumps))) where
    one-end : i ≡ (h.bytes + rest) + spent f (v.jumps + 1)
    one-end = i_is ∙ behind-jump v.end h.bytes (spent f v.jumps) rest (offset_size (f v.jumps)) (spent f (v.jumps + 1)) h.one (spent-next f v.jumps)

    other-end : j ≡ (h.bytes + rest) + spent g (v.jumps + 1)
    other-end = j_is ∙ ap (λ k. w.end + (rest + offset_size (g k))) (sym h.same) ∙ behind-jump w.end h.bytes (spent g v.jumps) rest (offset_size (g v.jumps)) (spent g (v.jumps + 1)) h.other (spent-next g v.jumps)

    jump-ways : Ways v w → AreSameWays f g (v.ways ++ (i, x) ∷ []) (w.ways ++ (j, y) ∷ [])
    jump-ways k =
        one-way-more v.ways w.ways (i, x) (j, y) k.are
        (subst (λ (n : ℕ). IsSameWay f g n (i, x) (j, y)) k.counted (record { bytes = h.bytes + rest; one = one-end; other = other-end; to = to }))

    jump-counted : Ways v w → v.jumps + 1 ≡ length (v.ways ++ (i, x) ∷ [])
    jump-counted k = ap (λ n. n + 1) k.counted ∙ sym (length-append v.ways ((i, x) ∷ []))

  jumps : (s : Place) (c x y : ℕ) → IsSamePlace f g x y → Moves (jump f s c x) (jump g s c y)
  jumps s c x y to = record {
    ends = λ v w h. record {
      bytes = h.bytes + 1;
      one = one-end 1 x y to v w (end_of_jump f v) (end_of_jump g w) h refl refl;
      other = other-end 1 x y to v w (end_of_jump f v) (end_of_jump g w) h refl refl;
      same = ap (λ n. n + 1) h.same;
    };
    ways = λ v w h k. record {
      counted = jump-counted 1 x y to v w (end_of_jump f v) (end_of_jump g w) h refl refl k;
      are = jump-ways 1 x y to v w (end_of_jump f v) (end_of_jump g w) h refl refl k;
    };
  }

  steps : (s : Place) (x y : ℕ) (o : Op) → Sized o → IsSamePlace f g x y → Moves (jumping f s x o) (jumping g s y o)
  steps s x y o z to = record {
    ends = λ v w h. record {
      bytes = h.bytes + z.rest;
      one = one-end z.rest x y to v w (end_of_jumping f o v) (end_of_jumping g o w) h (ap (λ n. v.end + n) (z.length_is (f v.jumps))) (ap (λ n. w.end + n) (z.length_is (g w.jumps)));
      other = other-end z.rest x y to v w (end_of_jumping f o v) (end_of_jumping g o w) h (ap (λ n. v.end + n) (z.length_is (f v.jumps))) (ap (λ n. w.end + n) (z.length_is (g w.jumps)));
      same = ap (λ n. n + 1) h.same;
    };
    ways = λ v w h k. record {
      counted = jump-counted z.rest x y to v w (end_of_jumping f o v) (end_of_jumping g o w) h (ap (λ n. v.end + n) (z.length_is (f v.jumps))) (ap (λ n. w.end + n) (z.length_is (g w.jumps))) k;
      are = jump-ways z.rest x y to v w (end_of_jumping f o v) (end_of_jumping g o w) h (ap (λ n. v.end + n) (z.length_is (f v.jumps))) (ap (λ n. w.end + n) (z.length_is (g w.jumps))) k;
    };
  }

  both : {a b c d : Piece} → Moves a c → Moves b d → Moves (a ⨾ b) (c ⨾ d)
  both {a} {b} {c} {d} x y = record {
    ends = λ v w h. y.ends (a v) (c w) (x.ends v w h);
    ways = λ v w h k. y.ways (a v) (c w) (x.ends v w h) (x.ways v w h k);
  }

  ups : {p q : ℕ → Piece} → ((x y : ℕ) → IsSamePlace f g x y → Moves (p x) (q y)) → Moves (up_to_end p) (up_to_end q)
  ups {p} {q} same = record {
    ends = λ v w h. (same (p 0 v).end (q 0 w).end (place-of (p 0 v) (q 0 w) ((same 0 0 first-place).ends v w h))).ends v w h;
    ways = λ v w h. (same (p 0 v).end (q 0 w).end (place-of (p 0 v) (q 0 w) ((same 0 0 first-place).ends v w h))).ways v w h;
  }

  first-ends : Ends (from_place 0 0) (from_place 0 0)
  first-ends = record { bytes = 0; one = refl; other = refl; same = refl }

  from-ends : (v w : Written) → Ends v w → Ends (from_place v.end v.jumps) (from_place w.end w.jumps)
  from-ends v w h = record { bytes = h.bytes; one = h.one; other = h.other; same = h.same }

  up-jumps : {p q : ℕ → ℕ → Piece} → ((x y i j : ℕ) → Ends (from_place x i) (from_place y j) → Moves (p x i) (q y j)) → Moves (up_to_jumps p) (up_to_jumps q)
  up-jumps {p} {q} same = record {
    ends = λ v w h. (same (p 0 0 v).end (q 0 0 w).end (p 0 0 v).jumps (q 0 0 w).jumps (from-ends (p 0 0 v) (q 0 0 w) ((same 0 0 0 0 first-ends).ends v w h))).ends v w h;
    ways = λ v w h. (same (p 0 0 v).end (q 0 0 w).end (p 0 0 v).jumps (q 0 0 w).jumps (from-ends (p 0 0 v) (q 0 0 w) ((same 0 0 0 0 first-ends).ends v w h))).ways v w h;
  }

  froms : {p q : ℕ → Piece} → ((x y : ℕ) → IsSamePlace f g x y → Moves (p x) (q y)) → Moves (from_start p) (from_start q)
  froms same = record { ends = λ v w h. (same v.end w.end (place-of v w h)).ends v w h; ways = λ v w h. (same v.end w.end (place-of v w h)).ways v w h }

  either : {a b c d : Piece} (t : Bool) → Moves a c → Moves b d → Moves (if t then a else b) (if t then c else d)
  either true x y = x
  either false x y = y

  -- two loops whose NEXT and QUIT go to the same places
  abbrev SameLoops : Option Loop → Option Loop → Type 0
  SameLoops None None = Unit {0}
  SameLoops None (Some k) = ⊥
  SameLoops (Some l) None = ⊥
  SameLoops (Some l) (Some k) = (l.counted ≡ k.counted) × IsSamePlace f g l.next k.next × IsSamePlace f g l.quit k.quit

  -- ---- expressions

  number-moves : (v : ℕ) → Moves (number v) (number v)
  number-moves v =
      either (v == 0) (bytes _) (either (v == 1) (bytes _) (either (v == 2 ^ 32 - 1) (bytes _)
      (either (nat_lt v (2 ^ 8)) (same-one _) (either (nat_lt v (2 ^ 16)) (same-one _) (either (nat_lt v (2 ^ 24)) (same-one _) (same-one _))))))

  name-moves : (n : Names) (name : List ℕ) (kind : Option NameKind) → Moves (name_alone (widened n f) name kind) (name_alone (widened n g) name kind)
  name-moves n name (Some (kinds.Const v)) = number-moves v
  name-moves n name (Some (kinds.Method number params)) = both (bytes _) (same-one _)
  name-moves n name (Some (kinds.Global size offset)) = same-one _
  name-moves n name _ = same-one _

  own-moves : (kind : Option NameKind) → Moves (own_method kind) (own_method kind)
  own-moves (Some (kinds.Method number params)) = same-one _
  own-moves (Some (kinds.Const v)) = nothings
  own-moves _ = nothings

  in-moves : (n : Names) (kind : Option NameKind) (i : Index) (method : List ℕ) → Moves (method_in (widened n f) kind i method) (method_in (widened n g) kind i method)
  in-moves n (Some (kinds.Object item position count)) no_index method = same-one _
  in-moves n (Some (kinds.Object item position count)) (index e) method = same-one _
  in-moves n (Some (kinds.Const v)) i method = nothings
  in-moves n _ i method = nothings

  callee-moves : (n : Names) (object : Option (List ℕ)) (i : Index) (method : List ℕ) → Moves (callee (widened n f) object i method) (callee (widened n g) object i method)
  callee-moves n None i method = own-moves (n.kind method)
  callee-moves n (Some object) i method = in-moves n (n.kind object) i method

  counts-moves : (c : ℕ) → Moves (counts_from c) (counts_from c)
  counts-moves c = either (nat_le 0x12 c) (bytes _) (bytes _)

  dropped-moves : (used : Bool) → Moves (dropped used) (dropped used)
  dropped-moves used = either used nothings (bytes _)

  pasm-moves : (used : Bool) → Moves (pasm used) (pasm used)
  pasm-moves used = bytes _

  built-value-moves : (c : ℕ) → Moves (built_value c) (built_value c)
  built-value-moves c = either (c == 0x3F) (same-one _) (either (c == 0xC0) (both (bytes _) (bytes _)) (both (same-one _) (bytes _)))

  made-moves : (used : Bool) (c : ℕ) → Moves (built used c) (built used c)
  made-moves used c =
      either used (bytes _)
      (either (nat_le 0x29 c && nat_le c 0x2B) (bytes _) (either (c == 0x16 || c == 0x17) (both (bytes _) (bytes _)) (bytes _)))

  without-moves : (used : Bool) (c : ℕ) → Moves (built_without used c) (built_without used c)
  without-moves used c = either (c == 0x29) (made-moves used c) (both (built-value-moves c) (dropped-moves used))

  starts-moves : (n : Names) (m : Tree) → Moves (starts (widened n f) m) (starts (widened n g) m)
  starts-moves n (node p (Call trap object i method q args)) = same-one _
  starts-moves n (node p (Var (Named name i q))) = same-one _
  starts-moves n (node p (Var (Part name size i q))) = nothings
  starts-moves n (node p (Number v)) = nothings
  starts-moves n _ = nothings

  started-moves : (n : Names) (used : Bool) (m : Tree) → Moves (started (widened n f) used m) (started (widened n g) used m)
  started-moves n used m = either (starts_method n m) (both (starts-moves n m) (dropped-moves used)) (pasm-moves used)

  module _ (n : Names) where
    mutual
      value-moves : (e : Tree) → Moves (value (widened n f) e) (value (widened n g) e)
      value-moves (node place form) = form-moves place form

      form-moves : (place : Place) (form : Form) → Moves (value_of_form (widened n f) place form) (value_of_form (widened n g) place form)
      form-moves place (Number v) = number-moves v
      form-moves place (Str letters) = texts place _
      form-moves place (Strings es) = texts place _
      form-moves place Here = nothings
      form-moves place (Var (Named name no_index q)) = name-moves n name (n.kind name)
      form-moves place (Var (Named name (index e) q)) = both (value-moves e) (same-one _)
      form-moves place (Var (Part name size i q)) = home-moves _ i _
      form-moves place (Var (Memory size e i q)) = operate-moves (Memory size e i q) _
      form-moves place (Var (Register address x q)) = operate-moves (Register address x q) _
      form-moves place (Call trap object i method q args) = both (both (both (bytes _) (values-moves args)) (index-moves i)) (callee-moves n object i method)
      form-moves place (Unary operator e) = both (value-moves e) (either (operator == 0xEC) nothings (bytes _))
      form-moves place (Binary operator a b) = both (both (value-moves a) (value-moves b)) (bytes _)
      form-moves place (Assign v operator e) = both (value-moves e) (operate-moves v _)
      form-moves place (Change v effect) = operate-moves v _
      form-moves place (Address v) = operate-moves v _
      form-moves place (ObjectAddress e) = both (value-moves e) (bytes _)
      form-moves place (ObjConst object name q) = number-moves (or_zero (constants.value n.constants (node place (ObjConst object name q))))
      form-moves place (Built c args) = built-moves true c args
      form-moves place (Look c e xs) =
          ups (λ x y to. both (both (both (value-moves e) (counts-moves c)) (looks-moves (looks_down c) x y to xs)) (bytes 0x0F))

      operate-moves : (v : Variable) (o : Operation) → Moves (operate (widened n f) v o) (operate (widened n g) v o)
      operate-moves (Named name i q) o = home-moves _ i o
      operate-moves (Part name size i q) o = home-moves _ i o
      operate-moves (Memory size e no_index q) o = both (value-moves e) (same-one _)
      operate-moves (Memory size e (index i) q) o = both (both (value-moves e) (value-moves i)) (same-one _)
      operate-moves (Register address whole q) o = same-one _
      operate-moves (Register address (bits (single e)) q) o = both (value-moves e) (same-one _)
      operate-moves (Register address (bits (range a b)) q) o = both (both (value-moves a) (value-moves b)) (same-one _)

      home-moves : (home : Home) (i : Index) (o : Operation) → Moves (in_home (widened n f) home i o) (in_home (widened n g) home i o)
      home-moves home no_index o = same-one _
      home-moves home (index e) o = both (value-moves e) (same-one _)

      values-moves : (es : Trees) → Moves (values (widened n f) es) (values (widened n g) es)
      values-moves no_trees = nothings
      values-moves (es ▷ e) = both (values-moves es) (value-moves e)

      index-moves : (i : Index) → Moves (index_value (widened n f) i) (index_value (widened n g) i)
      index-moves no_index = nothings
      index-moves (index e) = value-moves e

      built-moves : (used : Bool) (c : ℕ) (args : Trees) → Moves (call_of_built (widened n f) used c args) (call_of_built (widened n g) used c args)
      built-moves used c no_trees = without-moves used c
      built-moves used c (no_trees ▷ e) = either (c == 0) (number-moves (or_zero (constants.value n.constants e))) (both (value-moves e) (made-moves used c))
      built-moves used c (no_trees ▷ a ▷ b) =
          either (not (c == 0x2C)) (both (both (value-moves a) (value-moves b)) (made-moves used c))
          (both (both (both (bytes _) (either (starts_method n a) (arguments-moves a) (value-moves a))) (value-moves b)) (started-moves n used a))
      built-moves used c (no_trees ▷ a ▷ b ▷ d) =
          either (not (c == 0x28)) (both (both (both (value-moves a) (value-moves b)) (value-moves d)) (made-moves used c))
          (both (both (both (value-moves a) (either (starts_method n b) (arguments-moves b) (value-moves b))) (value-moves d)) (started-moves n used b))
      built-moves used c (es ▷ e) = both (both (values-moves es) (value-moves e)) (made-moves used c)

      arguments-moves : (m : Tree) → Moves (arguments (widened n f) m) (arguments (widened n g) m)
      arguments-moves (node p (Call trap object i method q args)) = values-moves args
      arguments-moves _ = nothings

      looks-moves : (down : Bool) (x y : ℕ) → IsSamePlace f g x y → (xs : Items) → Moves (looks (widened n f) down x xs) (looks (widened n g) down y xs)
      looks-moves down x y to no_items = nothings
      looks-moves down x y to (xs ▸ single e) = both (both (looks-moves down x y to xs) (value-moves e)) (jumps n.statement _ x y to)
      looks-moves down x y to (xs ▸ range a b) = both (both (both (looks-moves down x y to xs) (value-moves a)) (value-moves b)) (jumps n.statement _ x y to)

    alone-moves : (e : Tree) → Moves (alone (widened n f) e) (alone (widened n g) e)
    alone-moves (node place (Var (Named name i q))) = both (bytes _) (own-moves (n.kind name))
    alone-moves (node place (Call trap object i method q args)) =
        both (both (both (bytes _) (values-moves args)) (index-moves i)) (callee-moves n object i method)
    alone-moves (node place (Assign v operator e)) = both (value-moves e) (operate-moves v (assigned false operator))
    alone-moves (node place (Change v effect)) = operate-moves v _
    alone-moves (node place (Built c args)) = built-moves false c args
    alone-moves (node place (Number v)) = nothings
    alone-moves (node place (Var (Part name size i q))) = nothings
    alone-moves (node place (Var (Memory size e i q))) = nothings
    alone-moves (node place (Var (Register address x q))) = nothings
    alone-moves _ = nothings

    -- ---- statements

    with-value-moves : (e : Option Tree) (a b : ℕ) → Moves (with_value (widened n f) e a b) (with_value (widened n g) e a b)
    with-value-moves None a b = bytes _
    with-value-moves (Some e) a b = both (value-moves e) (bytes _)

    test-moves : (xs : Items) → Moves (test_of (widened n f) xs) (test_of (widened n g) xs)
    test-moves (no_items ▸ single e) = value-moves e
    test-moves no_items = nothings
    test-moves _ = nothings

    tests-moves : (x y : ℕ) → IsSamePlace f g x y → (xs : Items) → Moves (tests (widened n f) x xs) (tests (widened n g) y xs)
    tests-moves x y to no_items = nothings
    tests-moves x y to (xs ▸ single e) = both (both (tests-moves x y to xs) (value-moves e)) (jumps n.statement _ x y to)
    tests-moves x y to (xs ▸ range a b) = both (both (both (tests-moves x y to xs) (value-moves a)) (value-moves b)) (jumps n.statement _ x y to)

    step-moves : (e : Option Tree) → Moves (step_of (widened n f) e) (step_of (widened n g) e)
    step-moves None = nothings
    step-moves (Some e) = value-moves e

  goes-on-moves : (n : Names) (l k : Option Loop) → SameLoops l k → Moves (goes_on (widened n f) l) (goes_on (widened n g) k)
  goes-on-moves n None None like = nothings
  goes-on-moves n None (Some k) like = absurd like
  goes-on-moves n (Some l) None like = absurd like
  goes-on-moves n (Some l) (Some k) like = jumps n.statement 0x04 l.next k.next like.1

  either-of : {a b c d : Piece} (t u : Bool) → t ≡ u → Moves a c → Moves b d → Moves (if t then a else b) (if u then c else d)
  either-of {a} {b} {c} {d} t u like x y = subst (λ (v : Bool). Moves (if t then a else b) (if v then c else d)) like (either t x y)

  leaves-moves : (n : Names) (l k : Option Loop) → SameLoops l k → Moves (leaves (widened n f) l) (leaves (widened n g) k)
  leaves-moves n None None like = nothings
  leaves-moves n None (Some k) like = absurd like
  leaves-moves n (Some l) None like = absurd like
  leaves-moves n (Some l) (Some k) like = both (either-of l.counted k.counted like.0 (bytes _) nothings) (jumps n.statement 0x04 l.quit k.quit like.2)

  mutual
    code-moves : (n : Names) (l k : Option Loop) → SameLoops l k → (x : Statement) → Moves (code (widened n f) l x) (code (widened n g) k x)
    code-moves n l k like (statement place action) = of place (action-moves (record n { statement = place }) l k like action)

    action-moves : (n : Names) (l k : Option Loop) → SameLoops l k → (x : Action) → Moves (code_of (widened n f) l x) (code_of (widened n g) k x)
    action-moves n l k like (Do e) = alone-moves n e
    action-moves n l k like (If arms nothing_else) =
        ups (λ x y to. chain-moves n l k like _ _ _ _ (jumps n.statement 0x04 x y to) nothings arms)
    action-moves n l k like (If arms (otherwise ss)) =
        ups (λ x y to. both (chain-moves n l k like _ _ _ _ (jumps n.statement 0x04 x y to) (jumps n.statement 0x04 x y to) arms) (body-moves n l k like ss))
    action-moves n l k like (Case e arms other) =
        ups (λ x y to. both
        (up-jumps (λ i j a b here.
        both (both (both (both (value-moves n e) (all-tests-moves n l k like i j a b here arms)) (bytes 0x0C)) (other-moves n l k like other))
        (jumps n.statement 0x04 x y to)))
        (bodies-moves n l k like x y to arms))
    action-moves n l k like (Repeat Forever ss) =
        ups (λ x y to. froms (λ i j at. both (body-moves n (inside i x false) (inside j y false) (refl, at, to) ss) (jumps n.statement 0x04 i j at)))
    action-moves n l k like (Repeat (Count e) ss) =
        ups (λ x y to. both (both (value-moves n e) (jumps n.statement 0x08 x y to))
        (froms (λ i j at. both (ups (λ v w next. body-moves n (inside v x true) (inside w y true) (refl, next, to) ss)) (jumps n.statement 0x09 i j at))))
    action-moves n l k like (Repeat (Before until e) ss) =
        ups (λ x y to. froms (λ i j at.
        both (both (both (value-moves n e) (jumps n.statement (zero_jump until) x y to))
        (body-moves n (inside i x false) (inside j y false) (refl, at, to) ss)) (jumps n.statement 0x04 i j at)))
    action-moves n l k like (Repeat (After until e) ss) =
        ups (λ x y to. froms (λ i j at.
        both (both (ups (λ v w next. body-moves n (inside v x false) (inside w y false) (refl, next, to) ss)) (value-moves n e))
        (jumps n.statement (zero_jump (not until)) i j at)))
    action-moves n l k like (Repeat (From name a b step q) ss) =
        ups (λ x y to. both (both (value-moves n a) (same-one (plain_op (home_of n name) Pop)))
        (froms (λ i j at.
        both (both (both (both (ups (λ v w next. body-moves n (inside v x false) (inside w y false) (refl, next, to) ss)) (step-moves n step)) (value-moves n a))
        (value-moves n b)) (steps n.statement i j (plain_name n name (step_effect step)) (plain-sized (home_of n name).base (home_of n name) (step_effect step) (step-is step)) at))))
    action-moves n l k like Next = goes-on-moves n l k like
    action-moves n l k like Quit = leaves-moves n l k like
    action-moves n l k like (Return e) = with-value-moves n e 0x32 0x33
    action-moves n l k like (Abort e) = with-value-moves n e 0x30 0x31

    body-moves : (n : Names) (l k : Option Loop) → SameLoops l k → (x : Statements) → Moves (body (widened n f) l x) (body (widened n g) k x)
    body-moves n l k like no_statements = nothings
    body-moves n l k like (ss ▹ x) = both (body-moves n l k like ss) (code-moves n l k like x)

    chain-moves : (n : Names) (l k : Option Loop) → SameLoops l k → (c d a b : Piece) → Moves c d → Moves a b → (x : Arms) → Moves (chain (widened n f) l c a x) (chain (widened n g) k d b x)
    chain-moves n l k like c d a b more last no_arms = nothings
    chain-moves n l k like c d a b more last (arms ⊳ arm items negated ss) =
        both (chain-moves n l k like c d c d more more arms)
        (ups (λ x y to. both (both (both (test-moves n items) (jumps n.statement (zero_jump negated) x y to)) (body-moves n l k like ss)) last))

    other-moves : (n : Names) (l k : Option Loop) → SameLoops l k → (x : Otherwise) → Moves (other_body (widened n f) l x) (other_body (widened n g) k x)
    other-moves n l k like nothing_else = nothings
    other-moves n l k like (otherwise ss) = body-moves n l k like ss

    all-tests-moves : (n : Names) (l k : Option Loop) → SameLoops l k → (i j a b : ℕ) → Ends (from_place i a) (from_place j b) → (x : Arms) → Moves (all_tests (widened n f) l i a x) (all_tests (widened n g) k j b x)
    all-tests-moves n l k like i j a b here no_arms = nothings
    all-tests-moves n l k like i j a b here (arms ⊳ arm items negated ss) =
        both (all-tests-moves n l k like i j a b here arms)
        (tests-moves n (case_bodies (widened n f) l 0 arms (from_place i a)).end (case_bodies (widened n g) k 0 arms (from_place j b)).end
        (place-of (case_bodies (widened n f) l 0 arms (from_place i a)) (case_bodies (widened n g) k 0 arms (from_place j b)) ((bodies-moves n l k like 0 0 first-place arms).ends (from_place i a) (from_place j b) here)) items)

    bodies-moves : (n : Names) (l k : Option Loop) → SameLoops l k → (i j : ℕ) → IsSamePlace f g i j → (x : Arms) → Moves (case_bodies (widened n f) l i x) (case_bodies (widened n g) k j x)
    bodies-moves n l k like i j to no_arms = nothings
    bodies-moves n l k like i j to (arms ⊳ arm items negated ss) =
        both (both (both (bodies-moves n l k like i j to arms) (bytes _)) (body-moves n l k like ss)) (jumps n.statement 0x04 i j to)

  -- the ways of a method's code
  pub method-moves : (n : Names) (ss : Statements) → AreSameWays f g (method_code (widened n f) ss).ways (method_code (widened n g) ss).ways
  method-moves n ss =
      ((both (body-moves n None None tt ss) (of n.statement (bytes 0x32))).ways empty empty (record { bytes = 0; one = refl; other = refl; same = refl })
      (record { counted = refl; are = record { count = refl; each = λ k v w at there. absurd (none-some v at) } })).are
