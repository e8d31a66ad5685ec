-- Two pieces, of which the first is no longer than the second, and jumps no farther. All jumps are wide.
use Rattle.std.proofs.Common.{◌≡◌, ℕ, ◌+◌, ◌<◌, ◌≤◌, Bool, true, false, if◌then◌else◌, List, [], ◌∷◌, ◌++◌, length, refl, sym, subst, ap, ◌∙◌, arith}
use Rattle.std.proofs.lemmas.Bool.Decides.{nat_tests}
use Rattle.p8_tree.specs.declared.places.Place.{Place}
use Rattle.p8_bytecode.specs.declared.op.Op.{Op}
use Rattle.p8_bytecode.specs.Spelling.{spelled}
use Rattle.p8_gen.specs.Names.{all_wide}
use Rattle.p8_gen.specs.Pieces.{Written, Piece, nothing, one, ◌⨾◌, from_start, up_to_end, up_to_jumps, of_statement, byte, jump, jumping, is_near, told}
use Rattle.p8_gen.proofs.Widths.{Alike}
use Rattle.p8_opt.proofs.Fixed.{Fixed}
use Rattle.p8_opt.proofs.Growing as growing
use Rattle.p8_opt.proofs.Growing.{Grows}

-- ---- ways

-- the way from a to b is none back, and no longer than that from x to y
pub record Within (a b x y : ℕ) : Type 0 where
  pub onwards : a ≤ b
  pub short : b + x ≤ y + a

pub after : {a b d x y z : ℕ} → Within a b x y → Within b d y z → Within a d x z
after p q = record { onwards = omega arith; short = omega arith }

pub there : (a x : ℕ) → Within a a x x
there a x = record { onwards = omega arith; short = omega arith }

-- Places to which a piece of either code may jump, each as a place of the first code and one of the second: a place
-- where the piece has ended, or one before it begins.
pub data Targets : Type 0 where
  nowhere : Targets
  ahead : (t u : ℕ) → Targets → Targets
  back : (t u : ℕ) → Targets → Targets

-- the targets stand so around pieces from a to b and from x to y
abbrev pub AreAround : Targets → (a b x y : ℕ) → Type 0
AreAround nowhere a b x y = Unit {0}
AreAround (ahead t u ts) a b x y = Within b t y u × AreAround ts a b x y
AreAround (back t u ts) a b x y = Within t a u x × AreAround ts a b x y

pub around-first : (ts : Targets) (a b d x y z : ℕ) → Within b d y z → AreAround ts a d x z → AreAround ts a b x y
around-first nowhere a b d x y z way h = tt
around-first (ahead t u ts) a b d x y z way h = (after way h.0, around-first ts a b d x y z way h.1)
around-first (back t u ts) a b d x y z way h = (h.0, around-first ts a b d x y z way h.1)

pub around-second : (ts : Targets) (a b d x y z : ℕ) → Within a b x y → AreAround ts a d x z → AreAround ts b d y z
around-second nowhere a b d x y z way h = tt
around-second (ahead t u ts) a b d x y z way h = (h.0, around-second ts a b d x y z way h.1)
around-second (back t u ts) a b d x y z way h = (after h.0 way, around-second ts a b d x y z way h.1)

-- a target on either side
pub data IsAround (t u a b x y : ℕ) : Type 0 where
  is_ahead : Within b t y u → IsAround t u a b x y
  is_back : Within t a u x → IsAround t u a b x y

-- these are among the targets, or on the way to one
pub record IsTarget (ts : Targets) (t u : ℕ) : Type 0 where
  pub by : (a b x y : ℕ) → AreAround ts a b x y → IsAround t u a b x y

pub first-ahead : (t u : ℕ) (ts : Targets) → IsTarget (ahead t u ts) t u
first-ahead t u ts = record { by = λ a b x y h. is_ahead h.0 }

pub first-back : (t u : ℕ) (ts : Targets) → IsTarget (back t u ts) t u
first-back t u ts = record { by = λ a b x y h. is_back h.0 }

pub under-ahead : (t u : ℕ) {ts : Targets} {i j : ℕ} → IsTarget ts i j → IsTarget (ahead t u ts) i j
under-ahead t u h = record { by = λ a b x y around. h.by a b x y around.1 }

pub under-back : (t u : ℕ) {ts : Targets} {i j : ℕ} → IsTarget ts i j → IsTarget (back t u ts) i j
under-back t u h = record { by = λ a b x y around. h.by a b x y around.1 }

-- ---- pieces

pub record Closer (ts : Targets) (a b : Piece) : Type 0 where
  pub left : Grows a
  pub right : Grows b
  pub short : (v w : Written) → (a v).end + w.end ≤ (b w).end + v.end
  -- where no jump of the second goes too far, none of the first does
  pub near : (v w : Written) → AreAround ts v.end (a v).end w.end (b w).end → v.too_far ≡ [] → (b w).too_far ≡ [] → (a v).too_far ≡ []

pub way : {ts : Targets} {a b : Piece} → Closer ts a b → (v w : Written) → Within v.end (a v).end w.end (b w).end
way x v w = record { onwards = x.left.ends v; short = x.short v w }

pub both : {ts : Targets} {a b c d : Piece} → Closer ts a c → Closer ts b d → Closer ts (a ⨾ b) (c ⨾ d)
both {ts} {a} {b} {c} {d} x y = record {
  left = growing.both x.left y.left;
  right = growing.both x.right y.right;
  short = λ v w. let first = x.short v w in let second = y.short (a v) (c w) in omega (arith, first, second);
  near = λ v w around clear far.
      let middle = x.near v w (around-first ts v.end (a v).end (b (a v)).end w.end (c w).end (d (c w)).end (way y (a v) (c w)) around) clear (y.right.near (c w) far) in
      y.near (a v) (c w) (around-second ts v.end (a v).end (b (a v)).end w.end (c w).end (d (c w)).end (way x v w) around) middle far;
}

-- a piece without jumps, and one that is no shorter
pub fixed-closer : {ts : Targets} {a b : Piece} → Fixed a → Grows b → ((v w : Written) → (a v).end + w.end ≤ (b w).end + v.end) → Closer ts a b
fixed-closer x y short = record { left = growing.fixed x; right = y; short = short; near = λ v w around clear far. x.far v ∙ clear }

-- a piece without jumps, and itself
pub same : {ts : Targets} {a : Piece} → Fixed a → Closer ts a a
same x = fixed-closer x (growing.fixed x) (λ v w. let one = x.ends v in let two = x.ends w in omega (arith, one, two))

pub ones : {ts : Targets} (op : Op) → Closer ts (one op) (one op)
ones op = record { left = growing.ones op; right = growing.ones op; short = λ v w. omega arith; near = λ v w around clear far. clear }

pub bytes : {ts : Targets} (code : ℕ) → Closer ts (byte code) (byte code)
bytes code = ones _

pub nothings : {ts : Targets} → Closer ts nothing nothing
nothings = record { left = growing.nothings; right = growing.nothings; short = λ v w. omega arith; near = λ v w around clear far. clear }

-- nothing in place of a piece
pub gone : {ts : Targets} {b : Piece} → Grows b → Closer ts nothing b
gone x = record { left = growing.nothings; right = x; short = λ v w. let more = x.ends w in omega (arith, more); near = λ v w around clear far. clear }

-- the piece of a statement, on either side
pub of-left : {ts : Targets} {a b : Piece} (s : Place) → Closer ts a b → Closer ts (of_statement s a) b
of-left s x = record {
  left = growing.of s x.left;
  right = x.right;
  short = λ v w. x.short (record v { statement = s }) w;
  near = λ v w around clear far. x.near (record v { statement = s }) w around clear far;
}

pub of-right : {ts : Targets} {a b : Piece} (s : Place) → Closer ts a b → Closer ts a (of_statement s b)
of-right s x = record {
  left = x.left;
  right = growing.of s x.right;
  short = λ v w. x.short v (record w { statement = s });
  near = λ v w around clear far. x.near v (record w { statement = s }) around clear far;
}

pub either : {ts : Targets} {a b c d : Piece} (t : Bool) → Closer ts a c → Closer ts b d → Closer ts (if t then a else b) (if t then c else d)
either true x y = x
either false x y = y

-- two choices that are the same
pub either_by : {ts : Targets} {a b c d : Piece} (t u : Bool) → t ≡ u → Closer ts a c → Closer ts b d → Closer ts (if t then a else b) (if u then c else d)
either_by {ts} {a} {b} {c} {d} t u is x y = subst (λ (s : Bool). Closer ts (if t then a else b) (if s then c else d)) is (either t x y)

-- ---- jumps

no-second : (xs ys : List Place) → xs ++ ys ≡ [] → ys ≡ []
no-second [] ys is = is
no-second (x ∷ xs) ys is = absurd (cc)

told-near : (s : Place) (t : Bool) → (if t then [] else s ∷ []) ≡ [] → t ≡ true
told-near s true is = refl
told-near s false is = absurd (cc)

reached : (from to : ℕ) → is_near true from to ≡ true → (from ≤ to + 16384) × (to < from + 16384)
reached from to is = (grind (arith, nat_tests), grind (arith, nat_tests))

reaches : (from to : ℕ) → from ≤ to + 16384 → to < from + 16384 → is_near true from to ≡ true
reaches from to p q = grind (arith, nat_tests)

-- a jump that is no farther is as near
nearer : (t u a x k : ℕ) → IsAround t u a (a + k) x (x + k) → is_near true (x + k) u ≡ true → is_near true (a + k) t ≡ true
nearer t u a x k (is_ahead h) is =
    let r = reached (x + k) u is in
    reaches (a + k) t (omega (arith, h.onwards)) (omega (arith, h.onwards, h.short, r.1))
nearer t u a x k (is_back h) is =
    let r = reached (x + k) u is in
    reaches (a + k) t (omega (arith, h.onwards, h.short, r.0)) (omega (arith, h.onwards))

told-none : (s : Place) (xs : List Place) (t : Bool) → xs ≡ [] → t ≡ true → xs ++ (if t then [] else s ∷ []) ≡ []
told-none s xs t none is = ap (λ b. xs ++ (if b then [] else s ∷ [])) is ∙ ap (λ ys. ys ++ []) none

jump-near : (ts : Targets) (s : Place) (t u a x k : ℕ) (xs ys : List Place) → IsTarget ts t u → AreAround ts a (a + k) x (x + k) → xs ≡ [] → ys ++ told true s (x + k) u ≡ [] → xs ++ told true s (a + k) t ≡ []
jump-near ts s t u a x k xs ys target around clear far =
    told-none s xs (is_near true (a + k) t) clear
    (nearer t u a x k (target.by a (a + k) x (x + k) around) (told-near s (is_near true (x + k) u) (no-second ys (told true s (x + k) u) far)))

wide-jumps : {ts : Targets} (s : Place) (code t u : ℕ) → IsTarget ts t u → Closer ts (jump all_wide s code t) (jump all_wide s code u)
wide-jumps {ts} s code t u target = record {
  left = growing.jumps all_wide s code t;
  right = growing.jumps all_wide s code u;
  short = λ v w. omega arith;
  near = λ v w around clear far. jump-near ts s t u v.end w.end _ v.too_far w.too_far target around clear far;
}

pub jumps : {ts : Targets} (wide : ℕ → Bool) → wide ≡ all_wide → (s : Place) (code t u : ℕ) → IsTarget ts t u → Closer ts (jump wide s code t) (jump wide s code u)
jumps {ts} wide all s code t u target = subst (λ (f : ℕ → Bool). Closer ts (jump f s code t) (jump f s code u)) (sym all) (wide-jumps s code t u target)

wide-steps : {ts : Targets} (s : Place) (t u : ℕ) (op : Op) → IsTarget ts t u → Closer ts (jumping all_wide s t op) (jumping all_wide s u op)
wide-steps {ts} s t u op target = record {
  left = growing.steps all_wide s t op;
  right = growing.steps all_wide s u op;
  short = λ v w. omega arith;
  near = λ v w around clear far. jump-near ts s t u v.end w.end (length (spelled (record op { long_form = true }))) v.too_far w.too_far target around clear far;
}

pub steps : {ts : Targets} (wide : ℕ → Bool) → wide ≡ all_wide → (s : Place) (t u : ℕ) (op : Op) → IsTarget ts t u → Closer ts (jumping wide s t op) (jumping wide s u op)
steps {ts} wide all s t u op target = subst (λ (f : ℕ → Bool). Closer ts (jumping f s t op) (jumping f s u op)) (sym all) (wide-steps s t u op target)

-- ---- pieces that are told places

-- it is as long, wherever it is told to jump
abbrev pub Steady : (ℕ → Piece) → Type 0
Steady p = (x y : ℕ) → Alike (p x) (p y)

abbrev pub SteadyTwice : (ℕ → ℕ → Piece) → Type 0
SteadyTwice p = (x y i j : ℕ) → Alike (p x i) (p y j)

same-end : (p : ℕ → Piece) (w : Written) → Steady p → (p (p 0 w).end w).end ≡ (p 0 w).end
same-end p w steady = let ends = (steady (p 0 w).end 0).ends w w refl in omega (arith, ends)

same-end-twice : (p : ℕ → ℕ → Piece) (w : Written) → SteadyTwice p → (p (p 0 0 w).end (p 0 0 w).jumps w).end ≡ (p 0 0 w).end
same-end-twice p w steady = let ends = (steady (p 0 0 w).end 0 (p 0 0 w).jumps 0).ends w w refl in omega (arith, ends)

-- where a piece ends is ahead of it
at-end : (a b x y : ℕ) → a ≡ b → x ≡ y → Within a b x y
at-end a b x y p q = record { onwards = omega (arith, p); short = omega (arith, p, q) }

pub ups : {ts : Targets} {p q : ℕ → Piece} → Steady p → Steady q → ((x y : ℕ) → Closer (ahead x y ts) (p x) (q y)) → Closer ts (up_to_end p) (up_to_end q)
ups {ts} {p} {q} steady still all = record {
  left = growing.ups (λ x. (all x 0).left);
  right = growing.ups (λ x. (all 0 x).right);
  short = λ v w. (all (p 0 v).end (q 0 w).end).short v w;
  near = λ v w around. (all (p 0 v).end (q 0 w).end).near v w (at-end _ _ _ _ (same-end p v steady) (same-end q w still), around);
}

pub up-jumps : {ts : Targets} {p q : ℕ → ℕ → Piece} → SteadyTwice p → SteadyTwice q → ((x y i j : ℕ) → Closer (ahead x y ts) (p x i) (q y j)) → Closer ts (up_to_jumps p) (up_to_jumps q)
up-jumps {ts} {p} {q} steady still all = record {
  left = growing.up-jumps (λ x i. (all x 0 i 0).left);
  right = growing.up-jumps (λ x i. (all 0 x 0 i).right);
  short = λ v w. (all (p 0 0 v).end (q 0 0 w).end (p 0 0 v).jumps (q 0 0 w).jumps).short v w;
  near = λ v w around. (all (p 0 0 v).end (q 0 0 w).end (p 0 0 v).jumps (q 0 0 w).jumps).near v w (at-end _ _ _ _ (same-end-twice p v steady) (same-end-twice q w still), around);
}

pub froms : {ts : Targets} {p q : ℕ → Piece} → ((x y : ℕ) → Closer (back x y ts) (p x) (q y)) → Closer ts (from_start p) (from_start q)
froms all = record {
  left = growing.froms (λ x. (all x 0).left);
  right = growing.froms (λ x. (all 0 x).right);
  short = λ v w. (all v.end w.end).short v w;
  near = λ v w around. (all v.end w.end).near v w (there v.end w.end, around);
}
