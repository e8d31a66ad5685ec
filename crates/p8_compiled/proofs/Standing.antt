-- Pieces of code that stand for something: where a memory has the code with the piece, it has the code before it, and from where the
-- piece begins to where it ends there stands what it stands for.
use Rattle.std.specs.Prelude.{Contains}
use Rattle.std.proofs.Common.{◌≡◌, refl, sym, ap, ◌∙◌, subst, arith, ℕ, zero, suc, ◌+◌, ◌≤◌, length, Option, Some, ◌%◌, ◌^◌, Bool, true, false, if◌then◌else◌, List, [], ◌∷◌, ◌++◌, append-nil}
use Rattle.p8_tree.specs.declared.places.Place.{Place}
use Rattle.p8_access.specs.Courses.{Course}
use Rattle.p8_bytecode.specs.declared.op.Op.{Op}
use Rattle.p8_bytecode.specs.declared.operands.Operands.{Operands}
use Rattle.p8_bytecode.specs.declared.operands.Operands.TheVariants.{Offset}
use Rattle.p8_bytecode.specs.Table.{operands_of}
use Rattle.p8_bytecode.specs.Reading.{bare}
use Rattle.p8_bytecode.specs.Spelling.{spelled, operand_bytes, has_long_place, FitsOperands, IsOp}
use Rattle.p8_bcog.specs.declared.state.SpinState.{SpinState}
use Rattle.p8_bcog.specs.Bytecodes.{row}
use Rattle.p8_gen.specs.Pieces.{Written, Piece, nothing, one, ◌⨾◌, from_start, up_to_end, up_to_jumps, of_statement, text, offset, told, jump, jump_size, end_of_jump}
use Rattle.p8_gen.proofs.Widths.{Alike}
use Rattle.p8_compiled.specs.Courses.{Does}
use Rattle.std.proofs.lemmas.List.Elements.{All-append, All-nil, All-cons, All-head, All-tail}
use Rattle.p8_compiled.specs.Placing.{HasCode, IsLine, HasLines, IsNear, AreOps}
use Rattle.p8_compiled.proofs.Fetching.{stands-behind, lies-low, Reaches, reaches, no-first, no-second, leads-to}

-- a memory has the code, and each bytecode of it is made from the statement of its line
pub record Has (memory : List ℕ) (base : ℕ) (table : List (ℕ × Place)) (w : Written) : Type 0 where
  pub code : HasCode memory base w
  pub lines : HasLines table base w.lines

-- for code that is made from the statement at hand
pub record Stand (memory : List ℕ) (base : ℕ) (table : List (ℕ × Place)) (hand : Place) (a : Piece) (R : (p q : ℕ) → Type 0) : Type 0 where
  pub by : (w : Written) → w.statement ≡ hand → Has memory base table (a w) → Has memory base table w × R (base + w.end) (base + (a w).end)
  -- after it the same statement goes on as before
  pub keeps : (w : Written) → (a w).statement ≡ w.statement
  -- the bytecodes that it appends are such as there are
  pub exist : (w : Written) → IsNear (a w) → IsNear w × (AreOps w.ops → AreOps (a w).ops)

same-end : (piece : ℕ → Piece) (w : Written) → ((x y : ℕ) → Alike (piece x) (piece y)) → (piece (piece 0 w).end w).end ≡ (piece 0 w).end
same-end piece w same = let ends = (same (piece 0 w).end 0).ends w w refl in omega (arith, ends)

-- the same of a piece that is told how many jumps come before its end as well
same-end-at : (piece : ℕ → ℕ → Piece) (w : Written) → ((x y i j : ℕ) → Alike (piece x i) (piece y j)) → (piece (piece 0 0 w).end (piece 0 0 w).jumps w).end ≡ (piece 0 0 w).end
same-end-at piece w same = let ends = (same (piece 0 0 w).end 0 (piece 0 0 w).jumps 0).ends w w refl in omega (arith, ends)

same-jumps-at : (piece : ℕ → ℕ → Piece) (w : Written) → ((x y i j : ℕ) → Alike (piece x i) (piece y j)) → (piece (piece 0 0 w).end (piece 0 0 w).jumps w).jumps ≡ (piece 0 0 w).jumps
same-jumps-at piece w same = (same (piece 0 0 w).end 0 (piece 0 0 w).jumps 0).counts w w refl

-- the same, for what stands there by how many jumps come before the piece and up to its end
pub record Counted (memory : List ℕ) (base : ℕ) (table : List (ℕ × Place)) (hand : Place) (a : Piece) (R : (i j p q : ℕ) → Type 0) : Type 0 where
  pub by : (w : Written) → w.statement ≡ hand → Has memory base table (a w) → Has memory base table w × R w.jumps (a w).jumps (base + w.end) (base + (a w).end)
  pub keeps : (w : Written) → (a w).statement ≡ w.statement
  pub exist : (w : Written) → IsNear (a w) → IsNear w × (AreOps w.ops → AreOps (a w).ops)

module _ {memory : List ℕ} {base : ℕ} {table : List (ℕ × Place)} {hand : Place} where
  pub nothings : Stand memory base table hand nothing (λ p q. p ≡ q)
  nothings = record { by = λ w at h. (h, refl); keeps = λ w. refl; exist = λ w near. (near, λ are. are) }

  pub both : {a b : Piece} {R S : (p q : ℕ) → Type 0} → Stand memory base table hand a R → Stand memory base table hand b S → Stand memory base table hand (a ⨾ b) (λ p q. (p1 : ℕ) × R p p1 × S p1 q)
  both {a} {b} {R} {S} x y = record {
    by = λ w at h.
        let v = y.by (a w) (x.keeps w ∙ at) h in
        let u = x.by w at v.0 in
        (u.0, (base + (a w).end, u.1, v.1));
    keeps = λ w. y.keeps (a w) ∙ x.keeps w;
    exist = λ w near.
        let v = y.exist (a w) near in
        let u = x.exist w v.0 in
        (u.0, λ are. v.1 (u.1 are));
  }

  pub three : {a b c : Piece} {R S T : (p q : ℕ) → Type 0} → Stand memory base table hand a R → Stand memory base table hand b S → Stand memory base table hand c T → Stand memory base table hand (a ⨾ b ⨾ c) (λ p q. (p1 p2 : ℕ) × R p p1 × S p1 p2 × T p2 q)
  three {a} {b} {c} x y z = record {
    by = λ w at h.
        let v = z.by (b (a w)) ((both x y).keeps w ∙ at) h in
        let u = (both x y).by w at v.0 in
        (u.0, (u.1.0, base + (b (a w)).end, u.1.1, u.1.2, v.1));
    keeps = (both (both x y) z).keeps;
    exist = (both (both x y) z).exist;
  }

  pub four : {a b c d : Piece} {R S T U : (p q : ℕ) → Type 0} → Stand memory base table hand a R → Stand memory base table hand b S → Stand memory base table hand c T → Stand memory base table hand d U → Stand memory base table hand (a ⨾ b ⨾ c ⨾ d) (λ p q. (p1 p2 p3 : ℕ) × R p p1 × S p1 p2 × T p2 p3 × U p3 q)
  four {a} {b} {c} {d} x y z s = record {
    by = λ w at h.
        let v = s.by (c (b (a w))) ((three x y z).keeps w ∙ at) h in
        let u = (three x y z).by w at v.0 in
        (u.0, (u.1.0, u.1.1, base + (c (b (a w))).end, u.1.2, u.1.3, u.1.4, v.1));
    keeps = (both (both (both x y) z) s).keeps;
    exist = (both (both (both x y) z) s).exist;
  }

  -- the piece of a statement stands for the same, whichever statement is at hand around it
  pub of : {a : Piece} {R : (p q : ℕ) → Type 0} (s : Place) → Stand memory base table s a R → Stand memory base table hand (of_statement s a) R
  of s x = record {
    by = λ w at h.
        let v = x.by (record w { statement = s }) refl
        (record { code = record { begins = h.code.begins; rest = h.code.rest; bytes = h.code.bytes; ends = h.code.ends; near = h.code.near }; lines = h.lines }) in
        (record { code = record { begins = v.0.code.begins; rest = v.0.code.rest; bytes = v.0.code.bytes; ends = v.0.code.ends; near = v.0.code.near }; lines = v.0.lines }, v.1);
    keeps = λ w. refl;
    exist = λ w near.
        let v = x.exist (record w { statement = s }) (record { low = near.low; near = near.near }) in
        (record { low = v.0.low; near = v.0.near }, v.1);
  }

  -- the same piece for what follows from it
  pub so : {a : Piece} {R S : (p q : ℕ) → Type 0} → Stand memory base table hand a R → ((p q : ℕ) → R p q → S p q) → Stand memory base table hand a S
  so {a} x f = record { by = λ w at h. let v = x.by w at h in (v.0, f (base + w.end) (base + (a w).end) v.1); keeps = x.keeps; exist = x.exist }

  pub either : {a b : Piece} {R : (p q : ℕ) → Type 0} (t : Bool) → (t ≡ true → Stand memory base table hand a R) → (t ≡ false → Stand memory base table hand b R) → Stand memory base table hand (if t then a else b) R
  either true x y = x refl
  either false x y = y refl

  -- ---- pieces that are told where they begin or end

  pub from : {piece : ℕ → Piece} (R : (start p q : ℕ) → Type 0) → ((start : ℕ) → Stand memory base table hand (piece start) (R (base + start))) → Stand memory base table hand (from_start piece) (λ p q. R p p q)
  from R x = record { by = λ w at h. (x w.end).by w at h; keeps = λ w. (x w.end).keeps w; exist = λ w. (x w.end).exist w }

  pub up : {piece : ℕ → Piece} (R : (end p q : ℕ) → Type 0) → ((x y : ℕ) → Alike (piece x) (piece y)) → ((end : ℕ) → Stand memory base table hand (piece end) (R (base + end))) → Stand memory base table hand (up_to_end piece) (λ p q. R q p q)
  up {piece} R same x = record {
    by = λ w at h.
        let end : ℕ = (piece 0 w).end in
        let v = (x end).by w at h in
        (v.0, subst (λ (n : ℕ). R (base + n) (base + w.end) (base + (piece end w).end)) (sym (same-end piece w same)) v.1);
    keeps = λ w. (x (piece 0 w).end).keeps w;
    exist = λ w. (x (piece 0 w).end).exist w;
  }

  pub up-jumps : {piece : ℕ → ℕ → Piece} (R : (end before p q : ℕ) → Type 0) → ((x y i j : ℕ) → Alike (piece x i) (piece y j)) → ((end before : ℕ) → Stand memory base table hand (piece end before) (R (base + end) before))
      → Counted memory base table hand (up_to_jumps piece) (λ i j p q. R q j p q)
  up-jumps {piece} R same x = record {
    by = λ w at h.
        let end : ℕ = (piece 0 0 w).end in
        let before : ℕ = (piece 0 0 w).jumps in
        let v = (x end before).by w at h in (
          v.0,
          subst (λ (n : ℕ). R (base + (piece end before w).end) n (base + w.end) (base + (piece end before w).end)) (sym (same-jumps-at piece w same))
              (subst (λ (n : ℕ). R (base + n) before (base + w.end) (base + (piece end before w).end)) (sym (same-end-at piece w same)) v.1),
        );
    keeps = λ w. (x (piece 0 0 w).end (piece 0 0 w).jumps).keeps w;
    exist = λ w. (x (piece 0 0 w).end (piece 0 0 w).jumps).exist w;
  }

  -- one piece up to a number of jumps, and another one from there
  pub meet : {a b : Piece} {R S : (i p q : ℕ) → Type 0} → Counted memory base table hand a (λ i j p q. R j p q) → Counted memory base table hand b (λ i j p q. S i p q) → Stand memory base table hand (a ⨾ b) (λ p q. (i p1 : ℕ) × R i p p1 × S i p1 q)
  meet {a} {b} x y = record {
    by = λ w at h.
        let v = y.by (a w) (x.keeps w ∙ at) h in
        let u = x.by w at v.0 in
        (u.0, ((a w).jumps, base + (a w).end, u.1, v.1));
    keeps = λ w. y.keeps (a w) ∙ x.keeps w;
    exist = λ w near.
        let v = y.exist (a w) near in
        let u = x.exist w v.0 in
        (u.0, λ are. v.1 (u.1 are));
  }

-- ---- bytecodes

only : (op : Op) → IsOp op → AreOps (op ∷ [])
only op is zero d lt = is
only op is (suc k) d lt = absurd (omega (arith, lt))

-- one more bytecode
pub one-exists : (w v : Written) (op : Op) (more : List Place) (count : ℕ) → v.ops ≡ w.ops ++ op ∷ [] → v.end ≡ w.end + count → v.too_far ≡ w.too_far ++ more → IsOp op → IsNear v → IsNear w × (AreOps w.ops → AreOps v.ops)
one-exists w v op more count ops end far is near = (
  record { low = omega (arith, end, near.low); near = no-first w.too_far more (sym far ∙ near.near) },
  λ are. subst AreOps (sym ops) (All-append IsOp w.ops (op ∷ []) are (only op is)),
)

abbrev pub jump_op : (code : ℕ) (wide : Bool) (off : ℕ) → Op
jump_op code wide off = record (bare code) { first = off; long_form = wide }

pub jump-size : (code : ℕ) (wide : Bool) (off : ℕ) → operands_of code ≡ Some Offset → jump_size wide ≡ length (spelled (jump_op code wide off))
jump-size code true off is = ap (λ found. suc (length (operand_bytes found (has_long_place (jump_op code true off)) (jump_op code true off)))) (sym is)
jump-size code false off is = ap (λ found. suc (length (operand_bytes found (has_long_place (jump_op code false off)) (jump_op code false off)))) (sym is)

-- the line of the last bytecode, and those before it
pub lines-split : (table : List (ℕ × Place)) (base : ℕ) (xs : List (ℕ × Place)) (y : ℕ × Place) → HasLines table base (xs ++ y ∷ []) → HasLines table base xs × Contains table (base + y.0, y.1)
lines-split table base [] y h = (All-nil (IsLine table base), All-head (IsLine table base) y [] h)
lines-split table base (x ∷ xs) y h =
    let r = lines-split table base xs y (All-tail (IsLine table base) x (xs ++ y ∷ []) h) in
    (All-cons (IsLine table base) x xs (All-head (IsLine table base) x (xs ++ y ∷ []) h) r.0, r.1)

module _ (memory : List ℕ) (cog base : ℕ) (table : List (ℕ × Place)) (hand : Place) where
  pub one-stand : (op : Op) (course : SpinState → Course SpinState) → IsOp op → ((s : SpinState) → row memory cog op s ≡ course s) → Stand memory base table hand (one op) (λ p q. Does memory cog table hand p course q)
  one-stand op course is does = record {
    by = λ w at h.
        let l = lines-split table base w.lines (w.end, w.statement) h.lines in
        let b = stands-behind memory base w (one op w) op [] refl refl (sym (append-nil w.too_far)) is h.code in
        (record { code = b.before; lines = l.0 }, (op, b.fetches, (λ s there. does s), subst (λ (place : Place). Contains table (base + w.end, place)) at l.1));
    keeps = λ w. refl;
    exist = λ w near. one-exists w (one op w) op [] _ refl refl (sym (append-nil w.too_far)) is near;
  }

  pub text-stand : (place : Place) (number : ℕ) (course : SpinState → Course SpinState) → IsOp (record (bare 0x87) { first = number }) → ((s : SpinState) → row memory cog (record (bare 0x87) { first = number }) s ≡ course s) → Stand memory base table hand (text place number) (λ p q. Does memory cog table hand p course q)
  text-stand place number course is does = record {
    by = λ w at h.
        let l = lines-split table base w.lines (w.end, w.statement) h.lines in
        let op : Op = record (bare 0x87) { first = number } in
        let b = stands-behind memory base w (text place number w) op [] refl refl (sym (append-nil w.too_far)) is h.code in
        (record { code = b.before; lines = l.0 }, (op, b.fetches, (λ s there. does s), subst (λ (place : Place). Contains table (base + w.end, place)) at l.1));
    keeps = λ w. refl;
    exist = λ w near. one-exists w (text place number w) (record (bare 0x87) { first = number }) [] _ refl refl (sym (append-nil w.too_far)) is near;
  }

  -- ---- jumps

  no-far : (wide : Bool) (statement : Place) (w : Written) (from to : ℕ) → w.too_far ++ told wide statement from to ≡ [] → told wide statement from to ≡ []
  no-far wide statement w from to is = no-second w.too_far (told wide statement from to) is

  jump-is : (code : ℕ) (wide : Bool) (from to : ℕ) → operands_of code ≡ Some Offset → Reaches wide from to → IsOp (jump_op code wide (offset from to))
  jump-is code wide from to is r =
      record { operands = subst (λ (found : Option Operands). FitsOperands found (jump_op code wide (offset from to))) (sym is) (refl, r.is_offset) }

  pub jump-stand : (wide : ℕ → Bool) (statement : Place) (code to : ℕ) (course : (target : ℕ) → SpinState → Course SpinState) → operands_of code ≡ Some Offset
      → ((form : Bool) (off : ℕ) (s : SpinState) → row memory cog (jump_op code form off) s ≡ course ((s.at + off) % 2 ^ 16) s) → Stand memory base table hand (jump wide statement code to) (λ p q. Does memory cog table hand p (course (base + to)) q)
  jump-stand wide statement code to course is does = record {
    by = λ w at h.
        let l = lines-split table base w.lines (w.end, w.statement) h.lines in
        let v : Written = jump wide statement code to w in
        let form : Bool = wide w.jumps in
        let end : ℕ = end_of_jump wide w in
        let off : ℕ = offset end to in
        let op : Op = jump_op code form off in
        let low : base + end ≤ 32768 = lies-low memory base w v op refl h.code in
        let r : Reaches form end to = reaches form statement end to (no-far form statement w end to h.code.near) in
        let is_op : IsOp op = jump-is code form end to is r in
        let b = stands-behind memory base w v op (told form statement end to) refl (ap (λ n. w.end + n) (jump-size code form off is)) refl is_op h.code in
        (record { code = b.before; lines = l.0 }, (op, b.fetches, (λ s there. does form off s ∙ ap (λ target. course target s) (leads-to form base end to s.at there r low)), subst (λ (place : Place). Contains table (base + w.end, place)) at l.1));
    keeps = λ w. refl;
    exist = λ w near.
        let v : Written = jump wide statement code to w in
        let form : Bool = wide w.jumps in
        let end : ℕ = end_of_jump wide w in
        let r : Reaches form end to = reaches form statement end to (no-far form statement w end to near.near) in
        one-exists w v (jump_op code form (offset end to)) (told form statement end to) (jump_size form) refl refl refl (jump-is code form end to is r) near;
  }
