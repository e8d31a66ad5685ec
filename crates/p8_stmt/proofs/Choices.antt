-- One code by two choices of wide jumps, where the second has all wide jumps of the first: its places, its jumps, and
-- their ways.
use Rattle.std.proofs.Common.{◌≡◌, ℕ, zero, suc, subst, ap, sym, ◌∙◌, ◌+◌, ◌-◌, ◌≤◌, ◌^◌, ◌==◌, ◌&&◌, ◌||◌, nat_le, nat_lt, Bool, true, false, not, if◌then◌else◌, List, [], ◌∷◌, ◌++◌, Option, Some, None, refl, arith, length, length-append, append-nil, slice_get, ◌⊎◌, inl, inr}
use Rattle.std.specs.Prelude.{flat_map}
use Rattle.std.proofs.lemmas.Bool.{cases_lt}
use Rattle.std.proofs.lemmas.Grind.{flat_map-append}
use Rattle.std.proofs.lemmas.Option.{same_Some, none-some, slice_get_within}
use Rattle.p8_tree.specs.declared.places.Place.{Place}
use Rattle.p8_tree.specs.Expressions.{Tree, node, Form, Number, Str, Strings, Here, Var, Call, Unary, Binary, Assign, Change, Address, ObjectAddress, ObjConst, Built, Look, Variable, Named, Part, Memory, Register, Index, no_index, index, whole, bits, single, range, Trees, no_trees, ◌▷◌, Items, no_items, ◌▸◌}
use Rattle.p8_tree.specs.Statements.{Forever, Count, Before, After, From, Statement, statement, Action, Do, If, Case, Repeat, Next, Quit, Return, Abort, arm, Otherwise, nothing_else, otherwise, Statements, no_statements, ◌▹◌, Arms, no_arms, ◌⊳◌}
use Rattle.p8_bytecode.specs.declared.op.Op.{Op}
use Rattle.p8_bytecode.specs.declared.operands.Operands.TheVariants.{Offset}
use Rattle.p8_bytecode.specs.Reading.{bare, offset_size}
use Rattle.p8_bytecode.specs.Spelling.{spelled}
use Rattle.p8_bytecode.specs.Table.{rows, operands_of}
use Rattle.p8_kinds.specs.declared.name_kinds.NameKind.{NameKind}
use Rattle.p8_kinds.specs.declared.name_kinds.NameKind.TheVariants as kinds
use Rattle.p8_words.specs.Operators.{or_zero}
use Rattle.p8_fold.specs.Values as constants
use Rattle.p8_gen.specs.Names.{Names, widened}
use Rattle.p8_gen.specs.Methods.{bytes_of, method_code}
use Rattle.p8_gen.specs.Pieces.{Written, Piece, empty, from_place, nothing, one, ◌⨾◌, from_start, up_to_end, up_to_jumps, of_statement, byte, text, told, is_near, offset, jump_by, jump, end_of_jump, jumping, end_of_jumping}
use Rattle.p8_gen.specs.Variables.{number, Home, Operation, plain_op, home_of, Pop, assigned}
use Rattle.p8_gen.specs.Expressions.{pasm, started, built_without, own_method, method_in, callee, name_alone, counts_from, looks_down, dropped, built_value, built, starts, starts_method, value, value_of_form, operate, in_home, values, index_value, call_of_built, arguments, looks, alone}
use Rattle.p8_gen.specs.Statements.{Loop, inside, goes_on, leaves, with_value, test_of, tests, step_of, step_effect, plain_name, zero_jump, code, code_of, body, chain, other_body, all_tests, case_bodies}
use Rattle.p8_stmt.proofs.Steps.{Sized, jump-length, step-sized}

-- how many bytes the offsets of the first jumps have
abbrev spent : (wide : ℕ → Bool) → (jumps : ℕ) → ℕ
spent wide zero = 0
spent wide (suc n) = spent wide n + offset_size (wide n)

-- ---- places by both choices

-- from one place on to another, by both choices: by the first one there aren't more bytes between them
pub record IsOnTo (x y u v : ℕ) : Type 0 where
  pub one : x ≤ u
  pub other : y ≤ v
  pub fewer : u + y ≤ v + x

on-here : (x y : ℕ) → IsOnTo x y x y
on-here x y = record { one = omega arith; other = omega arith; fewer = omega arith }

on-and-on : {x y u v s t : ℕ} → IsOnTo x y u v → IsOnTo u v s t → IsOnTo x y s t
on-and-on {x} {y} {u} {v} {s} {t} a b =
    let a1 = a.one in let a2 = a.other in let a3 = a.fewer in let b1 = b.one in let b2 = b.other in let b3 = b.fewer in
    record { one = omega (arith, a1, b1); other = omega (arith, a2, b2); fewer = omega (arith, a3, b3) }

-- what a piece is told: a place at or after its end, one at or before its begin, or a number that is one by both
data Told : Type 0 where
  later : (x y : ℕ) → Told
  earlier : (x y : ℕ) → Told
  equal : (i j : ℕ) → Told

-- this is so of a piece from one place on to another
abbrev IsSo : Told → (s t e d : ℕ) → Type 0
IsSo (later x y) s t e d = IsOnTo e d x y
IsSo (earlier x y) s t e d = IsOnTo x y s t
IsSo (equal i j) s t e d = i ≡ j

abbrev AreSo : List Told → (s t e d : ℕ) → Type 0
AreSo [] s t e d = Unit {0}
AreSo (x ∷ xs) s t e d = IsSo x s t e d × AreSo xs s t e d

from-later : (xs : List Told) (s t e d u v : ℕ) → IsOnTo s t u v → AreSo xs s t e d → AreSo xs u v e d
from-later [] s t e d u v on are = tt
from-later (later x y ∷ xs) s t e d u v on are = (are.0, from-later xs s t e d u v on are.1)
from-later (earlier x y ∷ xs) s t e d u v on are = (on-and-on are.0 on, from-later xs s t e d u v on are.1)
from-later (equal i j ∷ xs) s t e d u v on are = (are.0, from-later xs s t e d u v on are.1)

to-earlier : (xs : List Told) (s t e d u v : ℕ) → IsOnTo u v e d → AreSo xs s t e d → AreSo xs s t u v
to-earlier [] s t e d u v on are = tt
to-earlier (later x y ∷ xs) s t e d u v on are = (on-and-on on are.0, to-earlier xs s t e d u v on are.1)
to-earlier (earlier x y ∷ xs) s t e d u v on are = (are.0, to-earlier xs s t e d u v on are.1)
to-earlier (equal i j ∷ xs) s t e d u v on are = (are.0, to-earlier xs s t e d u v on are.1)

-- a place outside every piece that is told these
record IsOutside (xs : List Told) (x y : ℕ) : Type 0 where
  is : (s t e d : ℕ) → AreSo xs s t e d → IsOnTo x y s t ⊎ IsOnTo e d x y

is-later : (xs : List Told) (x y : ℕ) → IsOutside (later x y ∷ xs) x y
is-later xs x y = record { is = λ s t e d are. inr are.0 }

is-earlier : (xs : List Told) (x y : ℕ) → IsOutside (earlier x y ∷ xs) x y
is-earlier xs x y = record { is = λ s t e d are. inl are.0 }

one-more : (k : Told) (xs : List Told) (x y : ℕ) → IsOutside xs x y → IsOutside (k ∷ xs) x y
one-more k xs x y out = record { is = λ s t e d are. out.is s t e d are.1 }

-- ---- the ways of jumps, one after the other

pushed : (xs : List (ℕ × ℕ)) (x : ℕ × ℕ) (k : ℕ) (y : ℕ × ℕ) → slice_get (xs ++ x ∷ []) k ≡ Some y → (slice_get xs k ≡ Some y) ⊎ ((k ≡ length xs) × (x ≡ y))
pushed [] x zero y at = inr (refl, same_Some x y at)
pushed [] x (suc k) y at = inl at
pushed (z ∷ xs) x zero y at = inl at
pushed (z ∷ xs) x (suc k) y at = elim (pushed xs x k y at) [ inl h ↦ inl h | inr h ↦ inr (ap suc h.0, h.1) ]

before : (xs : List (ℕ × ℕ)) (x : ℕ × ℕ) (k : ℕ) (y : ℕ × ℕ) → slice_get xs k ≡ Some y → slice_get (xs ++ x ∷ []) k ≡ Some y
before [] x k y at = absurd (none-some y at)
before (z ∷ xs) x zero y at = at
before (z ∷ xs) x (suc k) y at = before xs x k y at

last : (xs : List (ℕ × ℕ)) (x : ℕ × ℕ) → slice_get (xs ++ x ∷ []) (length xs) ≡ Some x
last [] x = refl
last (z ∷ xs) x = last xs x

-- by the first choice a jump goes no farther, to the same side
pub record GoesNoFarther (v w : ℕ × ℕ) : Type 0 where
  pub goes : IsOnTo v.1 w.1 v.0 w.0 ⊎ IsOnTo v.0 w.0 v.1 w.1

pub record GoNoFarther (vs ws : List (ℕ × ℕ)) : Type 0 where
  pub count : length vs ≡ length ws
  pub each : (k : ℕ) (v w : ℕ × ℕ) → slice_get vs k ≡ Some v → slice_get ws k ≡ Some w → GoesNoFarther v w

one-way-more : (vs ws : List (ℕ × ℕ)) (v w : ℕ × ℕ) → GoNoFarther vs ws → GoesNoFarther v w → GoNoFarther (vs ++ v ∷ []) (ws ++ w ∷ [])
one-way-more vs ws v w are more =
    let same = are.count in
    record {
      count = length-append vs (v ∷ []) ∙ ap (λ n. n + 1) same ∙ sym (length-append ws (w ∷ []));
      each = λ k x y at there. elim (pushed vs v k x at) [
        | inl here ↦ elim (pushed ws w k y there) [
          | inl also ↦ are.each k x y here also
          | inr end ↦ let inside = slice_get_within vs k x here in let is = end.0 in absurd (omega (arith, inside, is, same))
        ]
        | inr end ↦ elim (pushed ws w k y there) [
          | inl also ↦ let inside = slice_get_within ws k y also in let is = end.0 in absurd (omega (arith, inside, is, same))
          | inr too ↦ subst (λ (z : ℕ × ℕ). GoesNoFarther x z) too.1 (subst (λ (z : ℕ × ℕ). GoesNoFarther z w) end.1 more)
        ]
      ];
    }

-- ---- what is told of jumps that go too far

-- the jump of each number fits its width, by this choice
pub record Fit (f : ℕ → Bool) (vs : List (ℕ × ℕ)) : Type 0 where
  pub each : (k : ℕ) (v : ℕ × ℕ) → slice_get vs k ≡ Some v → is_near (f k) v.0 v.1 ≡ true

-- nothing is told exactly where each one does
pub record Tells (f : ℕ → Bool) (w : Written) : Type 0 where
  pub counted : length w.ways ≡ w.jumps
  pub fit : w.too_far ≡ [] → Fit f w.ways
  pub near : Fit f w.ways → w.too_far ≡ []

left-nil : (ps qs : List Place) → ps ++ qs ≡ [] → ps ≡ []
left-nil [] qs is = refl
left-nil (p ∷ ps) qs is = absurd cc

right-nil : (ps qs : List Place) → ps ++ qs ≡ [] → qs ≡ []
right-nil [] qs is = is
right-nil (p ∷ ps) qs is = absurd cc

told-near : (t : Bool) (s : Place) → (if t then [] else s ∷ []) ≡ [] → t ≡ true
told-near true s is = refl
told-near false s is = absurd cc

jump-told : (f : ℕ → Bool) (s : Place) (op : Op) (i x : ℕ) (w : Written) → Tells f w → Tells f (jump_by (f w.jumps) s op i x w)
jump-told f s op i x w h =
    let is_here : Bool = is_near (f w.jumps) i x in
    record {
      counted = length-append w.ways ((i, x) ∷ []) ∙ ap (λ n. n + 1) h.counted;
      fit = λ none. record {
        each = λ k v at. elim (pushed w.ways (i, x) k v at) [
          | inl old ↦ (h.fit (left-nil w.too_far (told (f w.jumps) s i x) none)).each k v old
          | inr new ↦
              let near : is_here ≡ true = told-near is_here s (right-nil w.too_far (told (f w.jumps) s i x) none) in
              subst (λ (z : ℕ × ℕ). is_near (f k) z.0 z.1 ≡ true) new.1 (subst (λ (n : ℕ). is_near (f n) i x ≡ true) (sym (new.0 ∙ h.counted)) near)
        ];
      };
      near = λ all.
          let old : w.too_far ≡ [] = h.near (record { each = λ k v at. all.each k v (before w.ways (i, x) k v at) }) in
          let new : is_here ≡ true = subst (λ (n : ℕ). is_near (f n) i x ≡ true) h.counted (all.each (length w.ways) (i, x) (last w.ways (i, x))) in
          ap (λ ps. ps ++ told (f w.jumps) s i x) old ∙ ap (λ t. if t then [] else s ∷ []) new;
    }

-- ---- bytes

bytes-append : (xs : List Op) (op : Op) → flat_map spelled (xs ++ op ∷ []) ≡ flat_map spelled xs ++ spelled op
bytes-append xs op = flat_map-append spelled xs (op ∷ []) ∙ ap (λ bs. flat_map spelled xs ++ bs) (append-nil (spelled op))

-- a bytecode more
measured : (w v : Written) (op : Op) → v.ops ≡ w.ops ++ op ∷ [] → v.end ≡ w.end + length (spelled op) → w.end ≡ length (bytes_of w) → v.end ≡ length (bytes_of v)
measured w v op ops end is =
    let long : length (bytes_of v) ≡ length (bytes_of w) + length (spelled op) = ap (λ os. length (flat_map spelled os)) ops ∙ ap length (bytes-append w.ops op) ∙ length-append (bytes_of w) (spelled op) in
    omega (arith, long, end, is)

-- ---- pieces by both choices

module _ (f g : ℕ → Bool) (more : (k : ℕ) → f k ≡ true → g k ≡ true) where
  offset-more : (a b : Bool) → (a ≡ true → b ≡ true) → offset_size a ≤ offset_size b
  offset-more true b h = let is : offset_size b ≡ 2 = ap offset_size (h refl) in omega (arith, is)
  offset-more false true h = omega arith
  offset-more false false h = omega arith

  -- offsets of jumps one after the other have more bytes by the second choice
  spent-more : (i j : ℕ) → i ≤ j → spent f j + spent g i ≤ spent g j + spent f i
  spent-more i zero le = let none : i ≡ 0 = omega (arith, le) in subst (λ (k : ℕ). spent f 0 + spent g k ≤ spent g 0 + spent f k) (sym none) (omega arith)
  spent-more i (suc j) le = elim (cases_lt i (suc j)) [
    | inl less ↦ let before : i ≤ j = omega (arith, less) in let rest = spent-more i j before in let here = offset-more (f j) (g j) (more j) in omega (arith, rest, here)
    | inr past ↦ let last : suc j ≡ i = omega (arith, le, past) in subst (λ (k : ℕ). spent f (suc j) + spent g k ≤ spent g (suc j) + spent f k) last (omega arith)
  ]

  record Related (ts : List Told) (a b : Piece) : Type 0 where
    counts : (v w : Written) → v.jumps ≡ w.jumps → (a v).jumps ≡ (b w).jumps
    no_fewer : (v : Written) → v.jumps ≤ (a v).jumps
    ends : (v : Written) → v.end ≤ (a v).end
    other_ends : (w : Written) → w.end ≤ (b w).end
    -- how many bytes it has more by the second choice
    exact : (v w : Written) → v.jumps ≡ w.jumps → (a v).end + w.end + (spent g (a v).jumps + spent f v.jumps) ≡ (b w).end + v.end + (spent f (a v).jumps + spent g v.jumps)
    ways : (v w : Written) → v.jumps ≡ w.jumps → AreSo ts v.end w.end (a v).end (b w).end → GoNoFarther v.ways w.ways → GoNoFarther (a v).ways (b w).ways
    tells : (v : Written) → Tells f v → Tells f (a v)
    measures : (v : Written) → v.end ≡ length (bytes_of v) → (a v).end ≡ length (bytes_of (a v))

  on : {ts : List Told} {a b : Piece} → Related ts a b → (v w : Written) → v.jumps ≡ w.jumps → IsOnTo v.end w.end (a v).end (b w).end
  on {ts} {a} {b} r v w is =
      let all = r.exact v w is in
      let offsets = spent-more v.jumps (a v).jumps (r.no_fewer v) in
      record { one = r.ends v; other = r.other_ends w; fewer = omega (arith, all, offsets) }

  -- a piece that is told nothing
  plain : {ts : List Told} {a b : Piece} → Related [] a b → Related ts a b
  plain r = record {
    counts = r.counts;
    no_fewer = r.no_fewer;
    ends = r.ends;
    other_ends = r.other_ends;
    exact = r.exact;
    ways = λ v w is are go. r.ways v w is tt go;
    tells = r.tells;
    measures = r.measures;
  }

  -- a piece that isn't told all
  weaker : {t : Told} {ts : List Told} {a b : Piece} → Related ts a b → Related (t ∷ ts) a b
  weaker r = record {
    counts = r.counts;
    no_fewer = r.no_fewer;
    ends = r.ends;
    other_ends = r.other_ends;
    exact = r.exact;
    ways = λ v w is are go. r.ways v w is are.1 go;
    tells = r.tells;
    measures = r.measures;
  }

  nothings : {ts : List Told} → Related ts nothing nothing
  nothings = record {
    counts = λ v w is. is;
    no_fewer = λ v. omega arith;
    ends = λ v. omega arith;
    other_ends = λ w. omega arith;
    exact = λ v w is. omega arith;
    ways = λ v w is are go. go;
    tells = λ v h. h;
    measures = λ v h. h;
  }

  same-one : {ts : List Told} (o : Op) → Related ts (one o) (one o)
  same-one o = record {
    counts = λ v w is. is;
    no_fewer = λ v. omega arith;
    ends = λ v. omega arith;
    other_ends = λ w. omega arith;
    exact = λ v w is. omega arith;
    ways = λ v w is are go. go;
    tells = λ v h. record { counted = h.counted; fit = h.fit; near = h.near };
    measures = λ v h. measured v (one o v) o refl refl h;
  }

  bytes : {ts : List Told} (c : ℕ) → Related ts (byte c) (byte c)
  bytes c = same-one _

  texts : {ts : List Told} (s : Place) (p : ℕ) → Related ts (text s p) (text s p)
  texts s p = record {
    counts = λ v w is. is;
    no_fewer = λ v. omega arith;
    ends = λ v. omega arith;
    other_ends = λ w. omega arith;
    exact = λ v w is. omega arith;
    ways = λ v w is are go. go;
    tells = λ v h. record { counted = h.counted; fit = h.fit; near = h.near };
    measures = λ v h. measured v (text s p v) (record (bare 0x87) { first = p }) refl refl h;
  }

  -- a bytecode that jumps, of so many bytes beside its offset
  module _ {ts : List Told} (s : Place) (x y rest : ℕ) (a b : Written → Op) (i j : Written → ℕ) where
    leaps : ((v : Written) → length (spelled (a v)) ≡ rest + offset_size (f v.jumps)) → ((v : Written) → i v ≡ v.end + (rest + offset_size (f v.jumps))) → ((w : Written) → j w ≡ w.end + (rest + offset_size (g w.jumps)))
        → IsOutside ts x y → Related ts (λ v. jump_by (f v.jumps) s (a v) (i v) x v) (λ w. jump_by (g w.jumps) s (b w) (j w) y w)
    leaps long i_is j_is out =
        let ends : (v : Written) → v.end ≤ i v = λ v. let is = i_is v in omega (arith, is) in
        let other_ends : (w : Written) → w.end ≤ j w = λ w. let is = j_is w in omega (arith, is) in
        let steps : (v w : Written) → v.jumps ≡ w.jumps → IsOnTo v.end w.end (i v) (j w) = λ v w is.
        let one = i_is v in
        let other = j_is w ∙ ap (λ k. w.end + (rest + offset_size (g k))) (sym is) in
        let size = offset-more (f v.jumps) (g v.jumps) (more v.jumps) in
        record { one = ends v; other = other_ends w; fewer = omega (arith, one, other, size) } in
        record {
          counts = λ v w is. ap (λ k. k + 1) is;
          no_fewer = λ v. omega arith;
          ends = ends;
          other_ends = other_ends;
          exact = λ v w is.
              let one = i_is v in
              let other = j_is w ∙ ap (λ k. w.end + (rest + offset_size (g k))) (sym is) in
              let next : v.jumps + 1 ≡ suc v.jumps = omega arith in
              let all = ap (spent f) next in
              let others = ap (spent g) next in
              omega (arith, one, other, all, others);
          ways = λ v w is are go. one-way-more v.ways w.ways (i v, x) (j w, y) go (record {
            goes = elim (out.is v.end w.end (i v) (j w) are) [
              | inl back ↦ inl (on-and-on back (steps v w is))
              | inr forth ↦ inr forth
            ];
          });
          tells = λ v h. jump-told f s (a v) (i v) x v h;
          measures = λ v h. measured v (jump_by (f v.jumps) s (a v) (i v) x v) (a v) refl (i_is v ∙ ap (λ k. v.end + k) (sym (long v))) h;
        }

  jumps : {ts : List Told} (s : Place) (c x y : ℕ) → operands_of c ≡ Some Offset → IsOutside ts x y → Related ts (jump f s c x) (jump g s c y)
  jumps s c x y row out =
      leaps s x y 1 (λ v. record (bare c) { first = offset (end_of_jump f v) x; long_form = f v.jumps }) (λ w. record (bare c) { first = offset (end_of_jump g w) y; long_form = g w.jumps })
      (end_of_jump f) (end_of_jump g) (λ v. jump-length c (offset (end_of_jump f v) x) (f v.jumps) row) (λ v. refl) (λ w. refl) out

  steps : {ts : List Told} (s : Place) (x y : ℕ) (o : Op) → Sized o → IsOutside ts x y → Related ts (jumping f s x o) (jumping g s y o)
  steps s x y o size out =
      leaps s x y size.rest (λ v. record o { second = offset (end_of_jumping f o v) x; long_form = f v.jumps }) (λ w. record o { second = offset (end_of_jumping g o w) y; long_form = g w.jumps })
      (end_of_jumping f o) (end_of_jumping g o)
      (λ v. size.length_is (offset (end_of_jumping f o v) x) (f v.jumps))
      (λ v. ap (λ k. v.end + k) (size.length_is o.second (f v.jumps)))
      (λ w. ap (λ k. w.end + k) (size.length_is o.second (g w.jumps)))
      out

  both : {ts : List Told} {a b c d : Piece} → Related ts a c → Related ts b d → Related ts (a ⨾ b) (c ⨾ d)
  both {ts} {a} {b} {c} {d} x y = record {
    counts = λ v w is. y.counts (a v) (c w) (x.counts v w is);
    no_fewer = λ v. let one = x.no_fewer v in let two = y.no_fewer (a v) in omega (arith, one, two);
    ends = λ v. let one = x.ends v in let two = y.ends (a v) in omega (arith, one, two);
    other_ends = λ w. let one = x.other_ends w in let two = y.other_ends (c w) in omega (arith, one, two);
    exact = λ v w is. let one = x.exact v w is in let two = y.exact (a v) (c w) (x.counts v w is) in omega (arith, one, two);
    ways = λ v w is are go.
        let mid = x.counts v w is in
        y.ways (a v) (c w) mid (from-later ts v.end w.end (b (a v)).end (d (c w)).end (a v).end (c w).end (on x v w is) are)
        (x.ways v w is (to-earlier ts v.end w.end (b (a v)).end (d (c w)).end (a v).end (c w).end (on y (a v) (c w) mid) are) go);
    tells = λ v h. y.tells (a v) (x.tells v h);
    measures = λ v h. y.measures (a v) (x.measures v h);
  }

  -- a statement's piece
  of : {ts : List Told} {a b : Piece} (s t : Place) → Related ts a b → Related ts (of_statement s a) (of_statement t b)
  of {ts} {a} {b} s t x = record {
    counts = λ v w is. x.counts (record v { statement = s }) (record w { statement = t }) is;
    no_fewer = λ v. x.no_fewer (record v { statement = s });
    ends = λ v. x.ends (record v { statement = s });
    other_ends = λ w. x.other_ends (record w { statement = t });
    exact = λ v w is. x.exact (record v { statement = s }) (record w { statement = t }) is;
    ways = λ v w is are go. x.ways (record v { statement = s }) (record w { statement = t }) is are go;
    tells = λ v h.
        let k = x.tells (record v { statement = s }) (record { counted = h.counted; fit = h.fit; near = h.near }) in
        record { counted = k.counted; fit = k.fit; near = k.near };
    measures = λ v h. x.measures (record v { statement = s }) h;
  }

  -- how long a piece is doesn't depend on what it is told
  same-end : {rs ts : List Told} {a b c : Piece} → Related rs a c → Related ts b c → (v w : Written) → v.jumps ≡ w.jumps → (a v).end ≡ (b v).end
  same-end {rs} {ts} {a} {b} {c} x y v w is =
      let one = x.exact v w is in
      let two = y.exact v w is in
      let count : (a v).jumps ≡ (b v).jumps = x.counts v w is ∙ sym (y.counts v w is) in
      let all = ap (spent f) count in
      let others = ap (spent g) count in
      omega (arith, one, two, all, others)

  same-other-end : {rs ts : List Told} {a b c : Piece} → Related rs c a → Related ts c b → (v w : Written) → v.jumps ≡ w.jumps → (a w).end ≡ (b w).end
  same-other-end {rs} {ts} {a} {b} {c} x y v w is = let one = x.exact v w is in let two = y.exact v w is in omega (arith, one, two)

  ups : {ts : List Told} {p q : ℕ → Piece} → ((x y : ℕ) → Related (later x y ∷ ts) (p x) (q y)) → Related ts (up_to_end p) (up_to_end q)
  ups {ts} {p} {q} same = record {
    counts = λ v w is. (same (p 0 v).end (q 0 w).end).counts v w is;
    no_fewer = λ v. (same (p 0 v).end 0).no_fewer v;
    ends = λ v. (same (p 0 v).end 0).ends v;
    other_ends = λ w. (same 0 (q 0 w).end).other_ends w;
    exact = λ v w is. (same (p 0 v).end (q 0 w).end).exact v w is;
    ways = λ v w is are go.
        let x = (p 0 v).end in
        let y = (q 0 w).end in
        let one : (p x v).end ≡ x = same-end (same x 0) (same 0 0) v w is in
        let other : (q y w).end ≡ y = same-other-end (same 0 y) (same 0 0) v w is in
        (same x y).ways v w is (record { one = omega (arith, one); other = omega (arith, other); fewer = omega (arith, one, other) }, are) go;
    tells = λ v h. (same (p 0 v).end 0).tells v h;
    measures = λ v h. (same (p 0 v).end 0).measures v h;
  }

  up-jumps : {ts : List Told} {p q : ℕ → ℕ → Piece} → ((x y i j : ℕ) → Related (later x y ∷ equal i j ∷ ts) (p x i) (q y j)) → Related ts (up_to_jumps p) (up_to_jumps q)
  up-jumps {ts} {p} {q} same = record {
    counts = λ v w is. (same (p 0 0 v).end (q 0 0 w).end (p 0 0 v).jumps (q 0 0 w).jumps).counts v w is;
    no_fewer = λ v. (same (p 0 0 v).end 0 (p 0 0 v).jumps 0).no_fewer v;
    ends = λ v. (same (p 0 0 v).end 0 (p 0 0 v).jumps 0).ends v;
    other_ends = λ w. (same 0 (q 0 0 w).end 0 (q 0 0 w).jumps).other_ends w;
    exact = λ v w is. (same (p 0 0 v).end (q 0 0 w).end (p 0 0 v).jumps (q 0 0 w).jumps).exact v w is;
    ways = λ v w is are go.
        let x = (p 0 0 v).end in
        let y = (q 0 0 w).end in
        let i = (p 0 0 v).jumps in
        let j = (q 0 0 w).jumps in
        let one : (p x i v).end ≡ x = same-end (same x 0 i 0) (same 0 0 0 0) v w is in
        let other : (q y j w).end ≡ y = same-other-end (same 0 y 0 j) (same 0 0 0 0) v w is in
        (same x y i j).ways v w is
        (record { one = omega (arith, one); other = omega (arith, other); fewer = omega (arith, one, other) }, ((same 0 0 0 0).counts v w is, are)) go;
    tells = λ v h. (same (p 0 0 v).end 0 (p 0 0 v).jumps 0).tells v h;
    measures = λ v h. (same (p 0 0 v).end 0 (p 0 0 v).jumps 0).measures v h;
  }

  froms : {ts : List Told} {p q : ℕ → Piece} → ((x y : ℕ) → Related (earlier x y ∷ ts) (p x) (q y)) → Related ts (from_start p) (from_start q)
  froms {ts} {p} {q} same = record {
    counts = λ v w is. (same v.end w.end).counts v w is;
    no_fewer = λ v. (same v.end 0).no_fewer v;
    ends = λ v. (same v.end 0).ends v;
    other_ends = λ w. (same 0 w.end).other_ends w;
    exact = λ v w is. (same v.end w.end).exact v w is;
    ways = λ v w is are go. (same v.end w.end).ways v w is (on-here v.end w.end, are) go;
    tells = λ v h. (same v.end 0).tells v h;
    measures = λ v h. (same v.end 0).measures v h;
  }

  either : {ts : List Told} {a b c d : Piece} (t : Bool) → Related ts a c → Related ts b d → Related ts (if t then a else b) (if t then c else d)
  either true x y = x
  either false x y = y

  -- two loops whose NEXT and QUIT go outside
  abbrev AreLoops : List Told → Option Loop → Option Loop → Type 0
  AreLoops ts None None = Unit {0}
  AreLoops ts None (Some k) = ⊥
  AreLoops ts (Some l) None = ⊥
  AreLoops ts (Some l) (Some k) = (l.counted ≡ k.counted) × IsOutside ts l.next k.next × IsOutside ts l.quit k.quit

  more-told : (t : Told) (ts : List Told) (l k : Option Loop) → AreLoops ts l k → AreLoops (t ∷ ts) l k
  more-told t ts None None are = tt
  more-told t ts None (Some k) are = absurd are
  more-told t ts (Some l) None are = absurd are
  more-told t ts (Some l) (Some k) are = (are.0, one-more t ts l.next k.next are.1, one-more t ts l.quit k.quit are.2)

  -- ---- expressions

  number-related : {ts : List Told} (v : ℕ) → Related ts (number v) (number v)
  number-related v =
      either (v == 0) (bytes _) (either (v == 1) (bytes _) (either (v == 2 ^ 32 - 1) (bytes _)
      (either (nat_lt v (2 ^ 8)) (same-one _) (either (nat_lt v (2 ^ 16)) (same-one _) (either (nat_lt v (2 ^ 24)) (same-one _) (same-one _))))))

  name-related : (n : Names) (name : List ℕ) (kind : Option NameKind) → Related [] (name_alone (widened n f) name kind) (name_alone (widened n g) name kind)
  name-related n name (Some (kinds.Const v)) = number-related v
  name-related n name (Some (kinds.Method number params)) = both (bytes _) (same-one _)
  name-related n name (Some (kinds.Global size offset)) = same-one _
  name-related n name _ = same-one _

  own-related : (kind : Option NameKind) → Related [] (own_method kind) (own_method kind)
  own-related (Some (kinds.Method number params)) = same-one _
  own-related (Some (kinds.Const v)) = nothings
  own-related _ = nothings

  in-related : (n : Names) (kind : Option NameKind) (i : Index) (method : List ℕ) → Related [] (method_in (widened n f) kind i method) (method_in (widened n g) kind i method)
  in-related n (Some (kinds.Object item position count)) no_index method = same-one _
  in-related n (Some (kinds.Object item position count)) (index e) method = same-one _
  in-related n (Some (kinds.Const v)) i method = nothings
  in-related n _ i method = nothings

  callee-related : (n : Names) (object : Option (List ℕ)) (i : Index) (method : List ℕ) → Related [] (callee (widened n f) object i method) (callee (widened n g) object i method)
  callee-related n None i method = own-related (n.kind method)
  callee-related n (Some object) i method = in-related n (n.kind object) i method

  counts-related : {ts : List Told} (c : ℕ) → Related ts (counts_from c) (counts_from c)
  counts-related c = either (nat_le 0x12 c) (bytes _) (bytes _)

  dropped-related : (used : Bool) → Related [] (dropped used) (dropped used)
  dropped-related used = either used nothings (bytes _)

  pasm-related : (used : Bool) → Related [] (pasm used) (pasm used)
  pasm-related used = bytes _

  built-value-related : (c : ℕ) → Related [] (built_value c) (built_value c)
  built-value-related c = either (c == 0x3F) (same-one _) (either (c == 0xC0) (both (bytes _) (bytes _)) (both (same-one _) (bytes _)))

  made-related : (used : Bool) (c : ℕ) → Related [] (built used c) (built used c)
  made-related used c =
      either used (bytes _)
      (either (nat_le 0x29 c && nat_le c 0x2B) (bytes _) (either (c == 0x16 || c == 0x17) (both (bytes _) (bytes _)) (bytes _)))

  without-related : (used : Bool) (c : ℕ) → Related [] (built_without used c) (built_without used c)
  without-related used c = either (c == 0x29) (made-related used c) (both (built-value-related c) (dropped-related used))

  starts-related : (n : Names) (m : Tree) → Related [] (starts (widened n f) m) (starts (widened n g) m)
  starts-related n (node p (Call trap object i method q args)) = same-one _
  starts-related n (node p (Var (Named name i q))) = same-one _
  starts-related n (node p (Var (Part name size i q))) = nothings
  starts-related n (node p (Number v)) = nothings
  starts-related n _ = nothings

  started-related : (n : Names) (used : Bool) (m : Tree) → Related [] (started (widened n f) used m) (started (widened n g) used m)
  started-related n used m = either (starts_method n m) (both (starts-related n m) (dropped-related used)) (pasm-related used)

  -- a jump of an item of a LOOK function
  item-jumps : {ts : List Told} (s : Place) (down : Bool) (x y : ℕ) → IsOutside ts x y → Related ts (jump f s (if down then 0x11 else 0x10) x) (jump g s (if down then 0x11 else 0x10) y)
  unfolding rows
  item-jumps s true x y out = jumps s 0x11 x y refl out
  item-jumps s false x y out = jumps s 0x10 x y refl out

  range-jumps : {ts : List Told} (s : Place) (down : Bool) (x y : ℕ) → IsOutside ts x y → Related ts (jump f s (if down then 0x13 else 0x12) x) (jump g s (if down then 0x13 else 0x12) y)
  unfolding rows
  range-jumps s true x y out = jumps s 0x13 x y refl out
  range-jumps s false x y out = jumps s 0x12 x y refl out

  module _ (n : Names) where
    mutual
      value-related : (e : Tree) → Related [] (value (widened n f) e) (value (widened n g) e)
      value-related (node place form) = form-related place form

      form-related : (place : Place) (form : Form) → Related [] (value_of_form (widened n f) place form) (value_of_form (widened n g) place form)
      form-related place (Number v) = number-related v
      form-related place (Str letters) = texts place _
      form-related place (Strings es) = texts place _
      form-related place Here = nothings
      form-related place (Var (Named name no_index q)) = name-related n name (n.kind name)
      form-related place (Var (Named name (index e) q)) = both (value-related e) (same-one _)
      form-related place (Var (Part name size i q)) = home-related _ i _
      form-related place (Var (Memory size e i q)) = operate-related (Memory size e i q) _
      form-related place (Var (Register address x q)) = operate-related (Register address x q) _
      form-related place (Call trap object i method q args) = both (both (both (bytes _) (values-related args)) (index-related i)) (callee-related n object i method)
      form-related place (Unary operator e) = both (value-related e) (either (operator == 0xEC) nothings (bytes _))
      form-related place (Binary operator a b) = both (both (value-related a) (value-related b)) (bytes _)
      form-related place (Assign v operator e) = both (value-related e) (operate-related v _)
      form-related place (Change v effect) = operate-related v _
      form-related place (Address v) = operate-related v _
      form-related place (ObjectAddress e) = both (value-related e) (bytes _)
      form-related place (ObjConst object name q) = number-related (or_zero (constants.value n.constants (node place (ObjConst object name q))))
      form-related place (Built c args) = built-related true c args
      form-related place (Look c e xs) =
          ups (λ x y. both (both (both (plain (value-related e)) (counts-related c)) (looks-related (looks_down c) x y xs)) (bytes 0x0F))

      operate-related : (v : Variable) (o : Operation) → Related [] (operate (widened n f) v o) (operate (widened n g) v o)
      operate-related (Named name i q) o = home-related _ i o
      operate-related (Part name size i q) o = home-related _ i o
      operate-related (Memory size e no_index q) o = both (value-related e) (same-one _)
      operate-related (Memory size e (index i) q) o = both (both (value-related e) (value-related i)) (same-one _)
      operate-related (Register address whole q) o = same-one _
      operate-related (Register address (bits (single e)) q) o = both (value-related e) (same-one _)
      operate-related (Register address (bits (range a b)) q) o = both (both (value-related a) (value-related b)) (same-one _)

      home-related : (home : Home) (i : Index) (o : Operation) → Related [] (in_home (widened n f) home i o) (in_home (widened n g) home i o)
      home-related home no_index o = same-one _
      home-related home (index e) o = both (value-related e) (same-one _)

      values-related : (es : Trees) → Related [] (values (widened n f) es) (values (widened n g) es)
      values-related no_trees = nothings
      values-related (es ▷ e) = both (values-related es) (value-related e)

      index-related : (i : Index) → Related [] (index_value (widened n f) i) (index_value (widened n g) i)
      index-related no_index = nothings
      index-related (index e) = value-related e

      built-related : (used : Bool) (c : ℕ) (args : Trees) → Related [] (call_of_built (widened n f) used c args) (call_of_built (widened n g) used c args)
      built-related used c no_trees = without-related used c
      built-related used c (no_trees ▷ e) = either (c == 0) (number-related (or_zero (constants.value n.constants e))) (both (value-related e) (made-related used c))
      built-related used c (no_trees ▷ a ▷ b) =
          either (not (c == 0x2C)) (both (both (value-related a) (value-related b)) (made-related used c))
          (both (both (both (bytes _) (either (starts_method n a) (arguments-related a) (value-related a))) (value-related b)) (started-related n used a))
      built-related used c (no_trees ▷ a ▷ b ▷ d) =
          either (not (c == 0x28)) (both (both (both (value-related a) (value-related b)) (value-related d)) (made-related used c))
          (both (both (both (value-related a) (either (starts_method n b) (arguments-related b) (value-related b))) (value-related d)) (started-related n used b))
      built-related used c (es ▷ e) = both (both (values-related es) (value-related e)) (made-related used c)

      arguments-related : (m : Tree) → Related [] (arguments (widened n f) m) (arguments (widened n g) m)
      arguments-related (node p (Call trap object i method q args)) = values-related args
      arguments-related _ = nothings

      looks-related : (down : Bool) (x y : ℕ) (xs : Items) → Related (later x y ∷ []) (looks (widened n f) down x xs) (looks (widened n g) down y xs)
      looks-related down x y no_items = nothings
      looks-related down x y (xs ▸ single e) = both (both (looks-related down x y xs) (plain (value-related e))) (item-jumps n.statement down x y (is-later [] x y))
      looks-related down x y (xs ▸ range a b) =
          both (both (both (looks-related down x y xs) (plain (value-related a))) (plain (value-related b))) (range-jumps n.statement down x y (is-later [] x y))

    alone-related : (e : Tree) → Related [] (alone (widened n f) e) (alone (widened n g) e)
    alone-related (node place (Var (Named name i q))) = both (bytes _) (own-related (n.kind name))
    alone-related (node place (Call trap object i method q args)) =
        both (both (both (bytes _) (values-related args)) (index-related i)) (callee-related n object i method)
    alone-related (node place (Assign v operator e)) = both (value-related e) (operate-related v (assigned false operator))
    alone-related (node place (Change v effect)) = operate-related v _
    alone-related (node place (Built c args)) = built-related false c args
    alone-related (node place (Number v)) = nothings
    alone-related (node place (Var (Part name size i q))) = nothings
    alone-related (node place (Var (Memory size e i q))) = nothings
    alone-related (node place (Var (Register address x q))) = nothings
    alone-related _ = nothings

    -- ---- statements

    with-value-related : (e : Option Tree) (a b : ℕ) → Related [] (with_value (widened n f) e a b) (with_value (widened n g) e a b)
    with-value-related None a b = bytes _
    with-value-related (Some e) a b = both (value-related e) (bytes _)

    test-related : (xs : Items) → Related [] (test_of (widened n f) xs) (test_of (widened n g) xs)
    test-related (no_items ▸ single e) = value-related e
    test-related no_items = nothings
    test-related _ = nothings

    tests-related : {ts : List Told} (x y : ℕ) → IsOutside ts x y → (xs : Items) → Related ts (tests (widened n f) x xs) (tests (widened n g) y xs)
    unfolding rows
    tests-related x y out no_items = nothings
    tests-related x y out (xs ▸ single e) = both (both (tests-related x y out xs) (plain (value-related e))) (jumps n.statement 0x0D x y refl out)
    tests-related x y out (xs ▸ range a b) = both (both (both (tests-related x y out xs) (plain (value-related a))) (plain (value-related b))) (jumps n.statement 0x0E x y refl out)

    step-related : (e : Option Tree) → Related [] (step_of (widened n f) e) (step_of (widened n g) e)
    step-related None = nothings
    step-related (Some e) = value-related e

  -- a plain jump
  plain-jumps : {ts : List Told} (s : Place) (x y : ℕ) → IsOutside ts x y → Related ts (jump f s 0x04 x) (jump g s 0x04 y)
  unfolding rows
  plain-jumps s x y out = jumps s 0x04 x y refl out

  -- a jump at a test
  zero-jumps : {ts : List Told} (s : Place) (negated : Bool) (x y : ℕ) → IsOutside ts x y → Related ts (jump f s (zero_jump negated) x) (jump g s (zero_jump negated) y)
  unfolding rows
  zero-jumps s true x y out = jumps s 0x0B x y refl out
  zero-jumps s false x y out = jumps s 0x0A x y refl out

  -- the jump over a loop that is counted, and its jump back
  count-jumps : {ts : List Told} (s : Place) (x y : ℕ) → IsOutside ts x y → Related ts (jump f s 0x08 x) (jump g s 0x08 y)
  unfolding rows
  count-jumps s x y out = jumps s 0x08 x y refl out

  back-jumps : {ts : List Told} (s : Place) (x y : ℕ) → IsOutside ts x y → Related ts (jump f s 0x09 x) (jump g s 0x09 y)
  unfolding rows
  back-jumps s x y out = jumps s 0x09 x y refl out

  goes-on-related : (ts : List Told) (n : Names) (l k : Option Loop) → AreLoops ts l k → Related ts (goes_on (widened n f) l) (goes_on (widened n g) k)
  goes-on-related ts n None None like = nothings
  goes-on-related ts n None (Some k) like = absurd like
  goes-on-related ts n (Some l) None like = absurd like
  goes-on-related ts n (Some l) (Some k) like = plain-jumps n.statement l.next k.next like.1

  either-of : {ts : List Told} {a b c d : Piece} (t u : Bool) → t ≡ u → Related ts a c → Related ts b d → Related ts (if t then a else b) (if u then c else d)
  either-of {ts} {a} {b} {c} {d} t u like x y = subst (λ (v : Bool). Related ts (if t then a else b) (if v then c else d)) like (either t x y)

  leaves-related : (ts : List Told) (n : Names) (l k : Option Loop) → AreLoops ts l k → Related ts (leaves (widened n f) l) (leaves (widened n g) k)
  leaves-related ts n None None like = nothings
  leaves-related ts n None (Some k) like = absurd like
  leaves-related ts n (Some l) None like = absurd like
  leaves-related ts n (Some l) (Some k) like = both (either-of l.counted k.counted like.0 (bytes _) nothings) (plain-jumps n.statement l.quit k.quit like.2)

  mutual
    code-related : (ts : List Told) (n : Names) (l k : Option Loop) → AreLoops ts l k → (x : Statement) → Related ts (code (widened n f) l x) (code (widened n g) k x)
    code-related ts n l k like (statement place action) = of place place (action-related ts (record n { statement = place }) l k like action)

    action-related : (ts : List Told) (n : Names) (l k : Option Loop) → AreLoops ts l k → (x : Action) → Related ts (code_of (widened n f) l x) (code_of (widened n g) k x)
    action-related ts n l k like (Do e) = plain (alone-related n e)
    action-related ts n l k like (If arms nothing_else) =
        ups (λ x y. chain-related (later x y ∷ ts) n l k (more-told (later x y) ts l k like) _ _ _ _ (plain-jumps n.statement x y (is-later ts x y)) nothings arms)
    action-related ts n l k like (If arms (otherwise ss)) =
        ups (λ x y.
        let like-here = more-told (later x y) ts l k like in
        let forth = plain-jumps n.statement x y (is-later ts x y) in
        both (chain-related (later x y ∷ ts) n l k like-here _ _ _ _ forth forth arms) (body-related (later x y ∷ ts) n l k like-here ss))
    action-related ts n l k like (Case e arms other) =
        ups (λ x y.
        let us = later x y ∷ ts in
        let like-here = more-told (later x y) ts l k like in
        both
        (up-jumps (λ i j a b.
        let like-there = more-told (later i j) (equal a b ∷ us) l k (more-told (equal a b) us l k like-here) in
        both (both (both (both (plain (value-related n e)) (all-tests-related us n l k like-here i j a b arms)) (bytes 0x0C)) (other-related (later i j ∷ equal a b ∷ us) n l k like-there other))
        (plain-jumps n.statement x y (one-more (later i j) (equal a b ∷ us) x y (one-more (equal a b) us x y (is-later ts x y))))))
        (bodies-related us n l k like-here x y (is-later ts x y) arms))
    action-related ts n l k like (Repeat Forever ss) =
        ups (λ x y. froms (λ i j.
        let us = later x y ∷ ts in
        both (body-related (earlier i j ∷ us) n (inside i x false) (inside j y false) (refl, is-earlier us i j, one-more (earlier i j) us x y (is-later ts x y)) ss)
        (plain-jumps n.statement i j (is-earlier us i j))))
    action-related ts n l k like (Repeat (Count e) ss) =
        ups (λ x y.
        let us = later x y ∷ ts in
        both (both (plain (value-related n e)) (count-jumps n.statement x y (is-later ts x y)))
        (froms (λ i j.
        let os = earlier i j ∷ us in
        both (ups (λ v w.
        body-related (later v w ∷ os) n (inside v x true) (inside w y true)
        (refl, is-later os v w, one-more (later v w) os x y (one-more (earlier i j) us x y (is-later ts x y))) ss))
        (back-jumps n.statement i j (is-earlier us i j)))))
    action-related ts n l k like (Repeat (Before until e) ss) =
        ups (λ x y. froms (λ i j.
        let us = later x y ∷ ts in
        let past = one-more (earlier i j) us x y (is-later ts x y) in
        both (both (both (plain (value-related n e)) (zero-jumps n.statement until x y past))
        (body-related (earlier i j ∷ us) n (inside i x false) (inside j y false) (refl, is-earlier us i j, past) ss)) (plain-jumps n.statement i j (is-earlier us i j))))
    action-related ts n l k like (Repeat (After until e) ss) =
        ups (λ x y. froms (λ i j.
        let us = later x y ∷ ts in
        let os = earlier i j ∷ us in
        both (both (ups (λ v w.
        body-related (later v w ∷ os) n (inside v x false) (inside w y false)
        (refl, is-later os v w, one-more (later v w) os x y (one-more (earlier i j) us x y (is-later ts x y))) ss)) (plain (value-related n e)))
        (zero-jumps n.statement (not until) i j (is-earlier us i j))))
    action-related ts n l k like (Repeat (From name a b step q) ss) =
        ups (λ x y. both (both (plain (value-related n a)) (same-one (plain_op (home_of n name) Pop)))
        (froms (λ i j.
        let us = later x y ∷ ts in
        let os = earlier i j ∷ us in
        both (both (both (both (ups (λ v w.
        body-related (later v w ∷ os) n (inside v x false) (inside w y false)
        (refl, is-later os v w, one-more (later v w) os x y (one-more (earlier i j) us x y (is-later ts x y))) ss)) (plain (step-related n step))) (plain (value-related n a)))
        (plain (value-related n b))) (steps n.statement i j (plain_name n name (step_effect step)) (step-sized (home_of n name) step) (is-earlier us i j)))))
    action-related ts n l k like Next = goes-on-related ts n l k like
    action-related ts n l k like Quit = leaves-related ts n l k like
    action-related ts n l k like (Return e) = plain (with-value-related n e 0x32 0x33)
    action-related ts n l k like (Abort e) = plain (with-value-related n e 0x30 0x31)

    body-related : (ts : List Told) (n : Names) (l k : Option Loop) → AreLoops ts l k → (x : Statements) → Related ts (body (widened n f) l x) (body (widened n g) k x)
    body-related ts n l k like no_statements = nothings
    body-related ts n l k like (ss ▹ x) = both (body-related ts n l k like ss) (code-related ts n l k like x)

    chain-related : (ts : List Told) (n : Names) (l k : Option Loop) → AreLoops ts l k → (c d a b : Piece) → Related ts c d → Related ts a b → (x : Arms) → Related ts (chain (widened n f) l c a x) (chain (widened n g) k d b x)
    chain-related ts n l k like c d a b further end no_arms = nothings
    chain-related ts n l k like c d a b further end (arms ⊳ arm items negated ss) =
        both (chain-related ts n l k like c d c d further further arms)
        (ups (λ x y.
        both (both (both (plain (test-related n items)) (zero-jumps n.statement negated x y (is-later ts x y)))
        (body-related (later x y ∷ ts) n l k (more-told (later x y) ts l k like) ss)) (weaker end)))

    other-related : (ts : List Told) (n : Names) (l k : Option Loop) → AreLoops ts l k → (x : Otherwise) → Related ts (other_body (widened n f) l x) (other_body (widened n g) k x)
    other-related ts n l k like nothing_else = nothings
    other-related ts n l k like (otherwise ss) = body-related ts n l k like ss

    all-tests-related : (ts : List Told) (n : Names) (l k : Option Loop) → AreLoops ts l k → (i j a b : ℕ) → (x : Arms) → Related (later i j ∷ equal a b ∷ ts) (all_tests (widened n f) l i a x) (all_tests (widened n g) k j b x)
    all-tests-related ts n l k like i j a b no_arms = nothings
    all-tests-related ts n l k like i j a b (arms ⊳ arm items negated ss) =
        both (all-tests-related ts n l k like i j a b arms)
        (tests-related n (case_bodies (widened n f) l 0 arms (from_place i a)).end (case_bodies (widened n g) k 0 arms (from_place j b)).end
        (record {
          is = λ s t e d are.
              inr (on-and-on are.0 (on (bodies-related (later 0 0 ∷ ts) n l k (more-told (later 0 0) ts l k like) 0 0 (is-later ts 0 0) arms) (from_place i a) (from_place j b) are.1.0));
        }) items)

    bodies-related : (ts : List Told) (n : Names) (l k : Option Loop) → AreLoops ts l k → (i j : ℕ) → IsOutside ts i j → (x : Arms) → Related ts (case_bodies (widened n f) l i x) (case_bodies (widened n g) k j x)
    bodies-related ts n l k like i j out no_arms = nothings
    bodies-related ts n l k like i j out (arms ⊳ arm items negated ss) =
        both (both (both (bodies-related ts n l k like i j out arms) (bytes _)) (body-related ts n l k like ss)) (plain-jumps n.statement i j out)

  -- the code of a method
  method-related : (n : Names) (ss : Statements) → Related [] (body (widened n f) None ss ⨾ of_statement n.statement (byte 0x32)) (body (widened n g) None ss ⨾ of_statement n.statement (byte 0x32))
  method-related n ss = both (body-related [] n None None tt ss) (of n.statement n.statement (bytes 0x32))

  pub method-ways : (n : Names) (ss : Statements) → GoNoFarther (method_code (widened n f) ss).ways (method_code (widened n g) ss).ways
  method-ways n ss =
      (method-related n ss).ways empty empty refl tt (record { count = refl; each = λ k v w at there. absurd (none-some v at) })

  pub method-jumps : (n : Names) (ss : Statements) → (method_code (widened n f) ss).jumps ≡ (method_code (widened n g) ss).jumps
  method-jumps n ss = (method-related n ss).counts empty empty refl

  pub method-ends : (n : Names) (ss : Statements) → (method_code (widened n f) ss).end ≤ (method_code (widened n g) ss).end
  method-ends n ss = let all = on (method-related n ss) empty empty refl in let fewer = all.fewer in omega (arith, fewer)

-- of any choice it is told exactly which jumps go too far, and the code ends where its bytes do
module _ (n : Names) (f : ℕ → Bool) (ss : Statements) where
  pub method-told : Tells f (method_code (widened n f) ss)
  method-told = (method-related f f (λ k is. is) n ss).tells empty (record { counted = refl; fit = λ none. record { each = λ k v at. absurd (none-some v at) }; near = λ all. refl })

  pub method-measured : (method_code (widened n f) ss).end ≡ length (bytes_of (method_code (widened n f) ss))
  method-measured = (method-related f f (λ k is. is) n ss).measures empty refl
