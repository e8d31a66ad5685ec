-- The bytecodes that have nothing to do with variables, one by one.
use Rattle.std.proofs.Common.{◌≡◌, refl, sym, ap, subst, ℕ, ◌+◌, ◌-◌, ◌^◌, ◌<◌, ◌==◌, not, Bool, true, false, if◌then◌else◌, nat_lt, List, Option, Some}
use Rattle.p8_access.specs.declared.kinds.Width.TheVariants.{Word, Long}
use Rattle.p8_tree.specs.declared.places.Place.{Place}
use Rattle.p8_access.specs.Courses.{Course, Finish}
use Rattle.p8_bytecode.specs.declared.op.Op.{Op}
use Rattle.p8_bytecode.specs.declared.operands.Operands.{Operands}
use Rattle.p8_bytecode.specs.declared.operands.Operands.TheVariants.{Nothing, OneByte, TwoBytes, ThreeBytes, Word, Triple, Long}
use Rattle.p8_bytecode.specs.Table.{rows, operands_of}
use Rattle.p8_bytecode.specs.Reading.{bare}
use Rattle.p8_bytecode.specs.Spelling.{FitsOperands, IsOp}
use Rattle.p8_bcog.specs.declared.state.SpinState.{SpinState}
use Rattle.p8_bcog.specs.Operands.{operand, taken, tested}
use Rattle.p8_bcog.specs.Calls as calling
use Rattle.p8_bcog.specs.Control as control
use Rattle.p8_bcog.specs.Cogs as cogs
use Rattle.p8_bcog.specs.Bytecodes.{row, call_row, test_row, look_row, return_row, constant_row}
use Rattle.p8_gen.specs.Pieces.{Piece, one, byte, with_number, jump}
use Rattle.p8_gen.specs.Variables.{number}
use Rattle.p8_compiled.specs.Courses.{Does, gives, takes_one, drops}
use Rattle.p8_compiled.specs.Standing as rows_of
use Rattle.p8_compiled.specs.Bodies as bodies
use Rattle.p8_compiled.proofs.Standing.{Stand, either, one-stand, jump-stand}
use Rattle.p8_compiled.proofs.Truths.{below, equal, swapped}

-- ---- which operations there are

with-operands : (op : Op) (found : Option Operands) → operands_of op.code ≡ found → FitsOperands found op → IsOp op
with-operands op found is fits = record { operands = subst (λ (o : Option Operands). FitsOperands o op) (sym is) fits }

pub bare-is : (code : ℕ) → operands_of code ≡ Some Nothing → IsOp (bare code)
bare-is code is = with-operands (bare code) (Some Nothing) is refl

pub byte-is : (code n : ℕ) → operands_of code ≡ Some OneByte → n < 2 ^ 8 → IsOp (record (bare code) { first = n })
byte-is code n is lt = with-operands (record (bare code) { first = n }) (Some OneByte) is (refl, lt)

pub two-bytes-are : (code m n : ℕ) → operands_of code ≡ Some TwoBytes → m < 2 ^ 8 → n < 2 ^ 8 → IsOp (record (bare code) { first = m; second = n })
two-bytes-are code m n is lm ln = with-operands (record (bare code) { first = m; second = n }) (Some TwoBytes) is (refl, lm, ln)

pub three-bytes-are : (code l m n : ℕ) → operands_of code ≡ Some ThreeBytes → l < 2 ^ 8 → m < 2 ^ 8 → n < 2 ^ 8 → IsOp (record (bare code) { first = l; second = m; third = n })
three-bytes-are code l m n is ll lm ln = with-operands (record (bare code) { first = l; second = m; third = n }) (Some ThreeBytes) is (refl, ll, lm, ln)

-- ---- numbers

module _ (memory : List ℕ) (cog base : ℕ) (table : List (ℕ × Place)) (hand : Place) where
  abbrev pub DoesAt : (SpinState → Course SpinState) → (p q : ℕ) → Type 0
  DoesAt course p q = Does memory cog table hand p course q

  abbrev pub Stands : Piece → ((p q : ℕ) → Type 0) → Type 0
  Stands a R = Stand memory base table hand a R

  -- a bytecode that has nothing beside its byte
  pub byte-stand : (code : ℕ) (course : SpinState → Course SpinState) → operands_of code ≡ Some Nothing → ((s : SpinState) → row memory cog (bare code) s ≡ course s) → Stands (byte code) (DoesAt course)
  byte-stand code course is does = one-stand memory cog base table hand (bare code) course (bare-is code is) does

  pub zero-stand : Stands (byte 0x35) (DoesAt (gives 0))
  unfolding rows row return_row constant_row
  zero-stand = byte-stand 0x35 (gives 0) refl (λ s. refl)

  pub one-given-stand : Stands (byte 0x36) (DoesAt (gives 1))
  unfolding rows row return_row constant_row
  one-given-stand = byte-stand 0x36 (gives 1) refl (λ s. refl)

  pub ones-stand : Stands (byte 0x34) (DoesAt (gives (2 ^ 32 - 1)))
  unfolding rows row return_row constant_row
  ones-stand = byte-stand 0x34 (gives (2 ^ 32 - 1)) refl (λ s. refl)

  pub byte-number-stand : (n : ℕ) → n < 2 ^ 8 → Stands (with_number 0x38 n) (DoesAt (gives n))
  unfolding rows row return_row constant_row
  byte-number-stand n lt = one-stand memory cog base table hand (record (bare 0x38) { first = n }) (gives n) (byte-is 0x38 n refl lt) (λ s. refl)

  word-number-stand : (n : ℕ) → n < 2 ^ 16 → Stands (with_number 0x39 n) (DoesAt (gives n))
  unfolding rows row return_row constant_row
  word-number-stand n lt = one-stand memory cog base table hand (record (bare 0x39) { first = n }) (gives n) (with-operands (record (bare 0x39) { first = n }) (Some Word) refl (refl, lt)) (λ s. refl)

  triple-number-stand : (n : ℕ) → n < 2 ^ 24 → Stands (with_number 0x3A n) (DoesAt (gives n))
  unfolding rows row return_row constant_row
  triple-number-stand n lt = one-stand memory cog base table hand (record (bare 0x3A) { first = n }) (gives n) (with-operands (record (bare 0x3A) { first = n }) (Some Triple) refl (refl, lt)) (λ s. refl)

  long-number-stand : (n : ℕ) → n < 2 ^ 32 → Stands (with_number 0x3B n) (DoesAt (gives n))
  unfolding rows row return_row constant_row
  long-number-stand n lt = one-stand memory cog base table hand (record (bare 0x3B) { first = n }) (gives n) (with-operands (record (bare 0x3B) { first = n }) (Some Long) refl (refl, lt)) (λ s. refl)

  same-number : {a : Piece} (m n : ℕ) → n ≡ m → Stands a (DoesAt (gives m)) → Stands a (DoesAt (gives n))
  same-number {a} m n is x = subst (λ (v : ℕ). Stands a (DoesAt (gives v))) (sym is) x

  pub number-stand : (n : ℕ) → n < 2 ^ 32 → Stands (number n) (DoesAt (gives n))
  number-stand n lt =
      either (n == 0) (λ is. same-number 0 n (equal n 0 is) zero-stand) (λ _.
      either (n == 1) (λ is. same-number 1 n (equal n 1 is) one-given-stand) (λ _.
      either (n == 2 ^ 32 - 1) (λ is. same-number (2 ^ 32 - 1) n (equal n (2 ^ 32 - 1) is) ones-stand) (λ _.
      either (nat_lt n (2 ^ 8)) (λ is. byte-number-stand n (below n (2 ^ 8) is)) (λ _.
      either (nat_lt n (2 ^ 16)) (λ is. word-number-stand n (below n (2 ^ 16) is)) (λ _.
      either (nat_lt n (2 ^ 24)) (λ is. triple-number-stand n (below n (2 ^ 24) is)) (λ _. long-number-stand n lt))))))

  -- ---- marks, calls and returns

  pub mark-stand : (used traps : Bool) → Stands (byte ((if used then 0 else 1) + (if traps then 2 else 0))) (DoesAt (rows_of.opens (not used) traps))
  unfolding rows row call_row calling.opens
  mark-stand true true = byte-stand 0x02 _ refl (λ s. refl)
  mark-stand true false = byte-stand 0x00 _ refl (λ s. refl)
  mark-stand false true = byte-stand 0x03 _ refl (λ s. refl)
  mark-stand false false = byte-stand 0x01 _ refl (λ s. refl)

  pub own-call-stand : (n : ℕ) → n < 2 ^ 8 → Stands (with_number 0x05 n) (DoesAt (calling.call_own memory n))
  unfolding rows row call_row
  own-call-stand n lt = one-stand memory cog base table hand (record (bare 0x05) { first = n }) _ (byte-is 0x05 n refl lt) (λ s. refl)

  pub object-call-stand : (position n : ℕ) → position < 2 ^ 8 → n < 2 ^ 8 → Stands (one (record (bare 0x06) { first = position; second = n })) (DoesAt (calling.call_object memory position n))
  unfolding rows row call_row
  object-call-stand position n lp ln = one-stand memory cog base table hand (record (bare 0x06) { first = position; second = n }) _ (two-bytes-are 0x06 position n refl lp ln) (λ s. refl)

  pub indexed-call-stand : (position count n : ℕ) → position < 2 ^ 8 → count < 2 ^ 8 → n < 2 ^ 8 → Stands (one (record (bare 0x07) { first = position; second = count; third = n })) (DoesAt (calling.call_indexed memory position count n))
  unfolding rows row call_row
  indexed-call-stand position count n lp lc ln = one-stand memory cog base table hand (record (bare 0x07) { first = position; second = count; third = n }) _ (three-bytes-are 0x07 position count n refl lp lc ln) (λ s. refl)

  pub start-stand : (n count : ℕ) → n < 2 ^ 8 → count < 2 ^ 8 → Stands (one (record (bare 0x15) { first = n; second = count })) (DoesAt (cogs.start_method memory n count))
  unfolding rows row look_row
  start-stand n count ln lc = one-stand memory cog base table hand (record (bare 0x15) { first = n; second = count }) _ (two-bytes-are 0x15 n count refl ln lc) (λ s. refl)

  pub return-result-stand : Stands (byte 0x32) (DoesAt (calling.return_result cog))
  unfolding rows row return_row
  return-result-stand = byte-stand 0x32 _ refl (λ s. refl)

  pub return-value-stand : Stands (byte 0x33) (DoesAt (calling.return_value cog))
  unfolding rows row return_row
  return-value-stand = byte-stand 0x33 _ refl (λ s. refl)

  pub abort-result-stand : Stands (byte 0x30) (DoesAt (calling.abort_result cog))
  unfolding rows row return_row
  abort-result-stand = byte-stand 0x30 _ refl (λ s. refl)

  pub abort-value-stand : Stands (byte 0x31) (DoesAt (calling.abort_value cog))
  unfolding rows row return_row
  abort-value-stand = byte-stand 0x31 _ refl (λ s. refl)

  -- ---- values that are dropped

  pub drop-stand : Stands (byte 0x14) (DoesAt (takes_one 0 drops))
  unfolding rows row look_row control.drops
  drop-stand = byte-stand 0x14 _ refl (λ s. refl)

  pub drop-case-stand : Stands (byte 0x0C) (DoesAt (takes_one 0 drops))
  unfolding rows row test_row control.drops
  drop-case-stand = byte-stand 0x0C _ refl (λ s. refl)

  -- ---- jumps and tests

  pub goes-stand : (wide : ℕ → Bool) (statement : Place) (to : ℕ) → Stands (jump wide statement 0x04 to) (DoesAt (bodies.jumps (base + to)))
  unfolding rows row call_row
  goes-stand wide statement to = jump-stand memory cog base table hand wide statement 0x04 to bodies.jumps refl (λ form off s. refl)

  -- a jump where the value doesn't hold
  pub unless-stand : (negated : Bool) (wide : ℕ → Bool) (statement : Place) (to : ℕ) → Stands (jump wide statement (if negated then 0x0B else 0x0A) to) (DoesAt (takes_one 0 (bodies.jumps_unless negated (base + to))))
  unfolding rows row test_row control.jump_if_zero control.jump_unless_zero
  unless-stand true wide statement to =
      jump-stand memory cog base table hand wide statement 0x0B to (λ target. takes_one 0 (bodies.jumps_unless true target)) refl
      (λ form off s. ap (λ next. tested 1 0 s (Finish next)) (sym (swapped (operand s 0 == 0) (taken 1 s) _)))
  unless-stand false wide statement to =
      jump-stand memory cog base table hand wide statement 0x0A to (λ target. takes_one 0 (bodies.jumps_unless false target)) refl
      (λ form off s. ap (λ next. tested 1 0 s (Finish next)) (swapped (operand s 0 == 0) _ (taken 1 s)))

  -- a jump where it does
  pub where-stand : (negated : Bool) (wide : ℕ → Bool) (statement : Place) (to : ℕ) → Stands (jump wide statement (if not negated then 0x0B else 0x0A) to) (DoesAt (takes_one 0 (bodies.jumps_where negated (base + to))))
  unfolding rows row test_row control.jump_if_zero control.jump_unless_zero
  where-stand true wide statement to =
      jump-stand memory cog base table hand wide statement 0x0A to (λ target. takes_one 0 (bodies.jumps_where true target)) refl (λ form off s. refl)
  where-stand false wide statement to =
      jump-stand memory cog base table hand wide statement 0x0B to (λ target. takes_one 0 (bodies.jumps_where false target)) refl (λ form off s. refl)

  pub loop-begins-stand : (wide : ℕ → Bool) (statement : Place) (to : ℕ) → Stands (jump wide statement 0x08 to) (DoesAt (bodies.begins_loop (base + to)))
  unfolding rows row test_row control.loop_begins
  loop-begins-stand wide statement to = jump-stand memory cog base table hand wide statement 0x08 to bodies.begins_loop refl (λ form off s. refl)

  pub loop-ends-stand : (wide : ℕ → Bool) (statement : Place) (to : ℕ) → Stands (jump wide statement 0x09 to) (DoesAt (takes_one 1 (bodies.ends_loop (base + to))))
  unfolding rows row test_row control.loop_ends
  loop-ends-stand wide statement to =
      jump-stand memory cog base table hand wide statement 0x09 to (λ target. takes_one 1 (bodies.ends_loop target)) refl
      (λ form off s. refl)
