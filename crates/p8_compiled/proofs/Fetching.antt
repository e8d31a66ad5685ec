-- A bytecode that is appended to code stands where the code before it ends.
use Rattle.std.proofs.Common.{◌≡◌, refl, sym, ap, ◌∙◌, arith, ℕ, ◌+◌, ◌-◌, ◌%◌, ◌^◌, ◌<◌, ◌≤◌, Bool, true, false, if◌then◌else◌, nat_lt, nat_le, List, [], ◌∷◌, ◌++◌, length, drop, append_assoc, append-nil, length-append, Some, None, option_map}
use Rattle.std.specs.Prelude.{flat_map}
use Rattle.std.proofs.lemmas.Grind.{flat_map-append}
use Rattle.std.proofs.lemmas.Bool.Decides.{nat_tests}
use Rattle.std.proofs.lemmas.List.{length-drop, length-take, drop-drop}
use Rattle.std.proofs.Math.Seq.{drop-append_seam}
use Rattle.p8_tree.specs.declared.places.Place.{Place}
use Rattle.p8_bytecode.specs.declared.op.Op.{Op}
use Rattle.p8_bytecode.specs.Reading.{op_in, op_at}
use Rattle.p8_bytecode.specs.Spelling.{spelled, IsOp, IsOffset}
use Rattle.p8_bytecode.proofs.ReadBack.{read-back}
use Rattle.p8_bcog.specs.Code.{code_of, code_end, fetched}
use Rattle.p8_gen.specs.Pieces.{Written, offset, reach, is_near, told}
use Rattle.p8_gen.proofs.Sound.{near_offset}
use Rattle.p8_gen.specs.Methods.{bytes_of}
use Rattle.p8_compiled.specs.Placing.{HasCode}
use Rattle.p8_compiled.proofs.Truths.{at-most, below, both-true}

-- ---- lists

pub appended : (w v : Written) (op : Op) → v.ops ≡ w.ops ++ op ∷ [] → bytes_of v ≡ bytes_of w ++ spelled op
appended w v op is =
    ap (flat_map spelled) is ∙ flat_map-append spelled w.ops (op ∷ []) ∙ ap (λ bs. bytes_of w ++ bs) (append-nil (spelled op))

pub no-first : (xs ys : List Place) → xs ++ ys ≡ [] → xs ≡ []
no-first [] ys is = refl
no-first (x ∷ xs) ys is = absurd (cc)

pub no-second : (xs ys : List Place) → xs ++ ys ≡ [] → ys ≡ []
no-second [] ys is = is
no-second (x ∷ xs) ys is = absurd (cc)

-- ---- code

code-length : (memory : List ℕ) → length (code_of memory) ≤ 32768
code-length memory = omega (arith, length-take (code_end memory) memory)

not-low : (n : ℕ) → 16 ≤ n → nat_lt n 16 ≡ false
not-low n h = grind (arith, nat_tests)

fetched-at : (memory bs ss rest : List ℕ) (base p : ℕ) (op : Op) → 16 ≤ base → drop base (code_of memory) ≡ (bs ++ ss) ++ rest → p ≡ base + length bs → op_in (ss ++ rest) ≡ Some (op, length ss) → fetched memory p ≡ Some (op, p + length ss)
fetched-at memory bs ss rest base p op begins bytes at read =
    let here : drop p (code_of memory) ≡ ss ++ rest =
    ap (λ n. drop n (code_of memory)) at ∙ sym (drop-drop (length bs) base (code_of memory))
    ∙ ap (drop (length bs)) (bytes ∙ append_assoc bs ss rest) ∙ drop-append_seam bs (ss ++ rest) in
    ap (λ b. if b then None else op_at (code_of memory) p) (not-low p (omega (arith, at)))
    ∙ ap (option_map (λ (read : Op × ℕ). (read.0, p + read.1))) (ap op_in here ∙ read)

-- the code before a bytecode, and the bytecode
pub record Behind (memory : List ℕ) (base : ℕ) (w : Written) (op : Op) (q : ℕ) : Type 0 where
  pub before : HasCode memory base w
  pub fetches : fetched memory (base + w.end) ≡ Some (op, q)

module _ (memory : List ℕ) (base : ℕ) where
  -- such a place lies in the lower half of memory
  pub lies-low : (w v : Written) (op : Op) → v.ops ≡ w.ops ++ op ∷ [] → HasCode memory base v → base + v.end ≤ 32768
  lies-low w v op ops has =
      let long : length (bytes_of v) ≡ length (bytes_of w) + length (spelled op) = ap length (appended w v op ops) ∙ length-append (bytes_of w) (spelled op) in
      let all : length (code_of memory) - base ≡ length (bytes_of v) + length has.rest = sym (length-drop base (code_of memory)) ∙ ap length has.bytes ∙ length-append (bytes_of v) has.rest in
      omega (arith, long, all, has.ends, code-length memory)

  pub stands-behind : (w v : Written) (op : Op) (more : List Place) → v.ops ≡ w.ops ++ op ∷ [] → v.end ≡ w.end + length (spelled op) → v.too_far ≡ w.too_far ++ more → IsOp op → HasCode memory base v → Behind memory base w op (base + v.end)
  stands-behind w v op more ops end far is has =
      let bytes : bytes_of v ≡ bytes_of w ++ spelled op = appended w v op ops in
      let long : length (bytes_of v) ≡ length (bytes_of w) + length (spelled op) = ap length bytes ∙ length-append (bytes_of w) (spelled op) in
      let ends : w.end ≡ length (bytes_of w) = omega (arith, long, end, has.ends) in
      let there : drop base (code_of memory) ≡ (bytes_of w ++ spelled op) ++ has.rest = has.bytes ∙ ap (λ bs. bs ++ has.rest) bytes in
      let q : base + w.end + length (spelled op) ≡ base + v.end = omega (arith, end) in
      record {
        before = record {
          begins = has.begins;
          rest = spelled op ++ has.rest;
          bytes = there ∙ append_assoc (bytes_of w) (spelled op) has.rest;
          ends = ends;
          near = no-first w.too_far more (sym far ∙ has.near);
        };
        fetches =
            fetched-at memory (bytes_of w) (spelled op) has.rest base (base + w.end) op has.begins there (ap (λ n. base + n) ends) (read-back op is has.rest)
            ∙ ap (λ n. Some (op, n)) q;
      }

-- ---- offsets

no-statement : (near : Bool) (s : Place) → (if near then [] else s ∷ []) ≡ [] → near ≡ true
no-statement true s is = refl
no-statement false s is = absurd (cc)

-- how far a jump that is told nowhere goes, and that its offset is one in its form
pub record Reaches (wide : Bool) (from to : ℕ) : Type 0 where
  pub back : from ≤ to + 16384
  pub ahead : to < from + 16384
  pub is_offset : IsOffset wide (offset from to)

reach-most : (wide : Bool) → reach wide ≤ 16384
reach-most true = omega arith
reach-most false = omega arith

pub reaches : (wide : Bool) (s : Place) (from to : ℕ) → told wide s from to ≡ [] → Reaches wide from to
reaches wide s from to is =
    let near : is_near wide from to ≡ true = no-statement (is_near wide from to) s is in
    let two : (nat_le from (to + reach wide) ≡ true) × (nat_lt to (from + reach wide) ≡ true) = both-true _ _ near in
    let most = reach-most wide in
    let back : from ≤ to + reach wide = at-most _ _ two.0 in
    let ahead : to < from + reach wide = below _ _ two.1 in
    record { back = loose from to (reach wide) back most; ahead = loose-ahead from to (reach wide) ahead most; is_offset = near_offset wide from to near }
  where
    loose : (from to r : ℕ) → from ≤ to + r → r ≤ 16384 → from ≤ to + 16384
    loose from to r a b = omega (arith, a, b)

    loose-ahead : (from to r : ℕ) → to < from + r → r ≤ 16384 → to < from + 16384
    loose-ahead from to r a b = omega (arith, a, b)

pub leads-to : (wide : Bool) (base from to at : ℕ) → at ≡ base + from → Reaches wide from to → base + from ≤ 32768 → (at + offset from to) % 2 ^ 16 ≡ base + to
leads-to wide base from to at is r small = omega (arith, is, r.back, r.ahead, small)
