-- The end of a pass of REPEAT: a variable is stepped, and a jump taken back.
use Rattle.std.specs.Prelude.{Contains}
use Rattle.std.proofs.Common.{◌≡◌, refl, sym, ap, ◌∙◌, subst, arith, ℕ, suc, ◌+◌, ◌%◌, ◌^◌, ◌≤◌, Bool, true, false, if◌then◌else◌, List, [], length, length-append, Option, Some, None, IsTrue}
use Rattle.p8_tree.specs.declared.places.Place.{Place}
use Rattle.p8_tree.specs.Expressions.{Variable, Named, no_index}
use Rattle.p8_access.specs.Courses.{Course}
use Rattle.p8_bytecode.specs.declared.op.Op.{Op}
use Rattle.p8_bytecode.specs.declared.operands.Operands.{Operands}
use Rattle.p8_bytecode.specs.declared.operands.Operands.TheVariants.{Register, ShortVariable, Variable as VariableBytes}
use Rattle.p8_bytecode.specs.Table.{operands_of, is_effect, is_step}
use Rattle.p8_bytecode.specs.Reading.{changes_register, changes_variable, has_base}
use Rattle.p8_bytecode.specs.Spelling.{spelled, offset_bytes, effect_bytes, operand_bytes, place_bytes, has_long_place, IsStep, IsOp, IsOffset}
use Rattle.p8_bcog.specs.declared.state.SpinState.{SpinState}
use Rattle.p8_bcog.specs.declared.variable_place.VariablePlace as place
use Rattle.p8_bcog.specs.declared.step.Wanted.TheVariants as wanted_case
use Rattle.p8_bcog.specs.Operands.{operand, taken, tested}
use Rattle.p8_bcog.specs.Places as places
use Rattle.p8_bcog.specs.Bytecodes.{row}
use Rattle.p8_bcog.specs.Changes.{changes, steps_by_one, steps}
use Rattle.p8_gen.specs.Names.{Names}
use Rattle.p8_gen.specs.Pieces.{Written, offset, told, jumping, end_of_jumping}
use Rattle.p8_gen.specs.Variables.{Using}
use Rattle.p8_compiled.specs.Courses.{Does, takes_two, takes_three}
use Rattle.p8_compiled.specs.Standing.{Compiled, At, site_of}
use Rattle.p8_compiled.specs.Bodies as bodies
use Rattle.p8_compiled.proofs.Fetching.{Behind, stands-behind, lies-low, Reaches, reaches, no-second, leads-to}
use Rattle.p8_compiled.proofs.Standing.{Stand, one-exists, lines-split}
use Rattle.p8_compiled.proofs.Memory.{with_jump, FitsEffect}
use Rattle.p8_compiled.proofs.Homes.{IsFound, op_for}

-- ---- how long such a bytecode is

step-length : (step form : Bool) (old new : ℕ) → length (if step then offset_bytes form old else []) ≡ length (if step then offset_bytes form new else [])
step-length true true old new = refl
step-length true false old new = refl
step-length false form old new = refl

effect-length : (changes form : Bool) (op : Op) (off : ℕ) → length (effect_bytes changes (record op { long_form = form })) ≡ length (effect_bytes changes (with_jump op off form))
effect-length false form op off = refl
effect-length true form op off = ap suc (step-length (is_step op.effect) form op.second off)

operands-length : (found : Option Operands) (long_place form : Bool) (op : Op) (off : ℕ) → length (operand_bytes found long_place (record op { long_form = form })) ≡ length (operand_bytes found long_place (with_jump op off form))
operands-length None long_place form op off = refl
operands-length (Some Register) long_place form op off = ap suc (effect-length (changes_register op.first) form op off)
operands-length (Some ShortVariable) long_place form op off = effect-length (changes_variable op.code) form op off
operands-length (Some VariableBytes) long_place form op off =
    let at : List ℕ = if has_base op.code then place_bytes long_place op.first else [] in
    length-append at (effect_bytes (changes_variable op.code) (record op { long_form = form }))
    ∙ ap (λ k. length at + k) (effect-length (changes_variable op.code) form op off)
    ∙ sym (length-append at (effect_bytes (changes_variable op.code) (with_jump op off form)))
operands-length _ long_place form op off = refl

pub same-length : (op : Op) (form : Bool) (off : ℕ) → length (spelled (record op { long_form = form })) ≡ length (spelled (with_jump op off form))
same-length op form off = ap suc (operands-length (operands_of op.code) (has_long_place op) form op off)

module _ (memory : List ℕ) (cog base : ℕ) (table : List (ℕ × Place)) (hand : Place) where
  pub jumping-stand : (wide : ℕ → Bool) (statement : Place) (to : ℕ) (op : Op) (course : (target : ℕ) → SpinState → Course SpinState) → ((form : Bool) (off : ℕ) → IsOffset form off → IsOp (with_jump op off form))
      → ((form : Bool) (off : ℕ) (s : SpinState) → row memory cog (with_jump op off form) s ≡ course ((s.at + off) % 2 ^ 16) s) → Stand memory base table hand (jumping wide statement to op) (λ p q. Does memory cog table hand p (course (base + to)) q)
  jumping-stand wide statement to op course is does = record {
    by = λ w at h.
        let l = lines-split table base w.lines (w.end, w.statement) h.lines in
        let v : Written = jumping wide statement to op w in
        let form : Bool = wide w.jumps in
        let end : ℕ = end_of_jumping wide op w in
        let off : ℕ = offset end to in
        let jumps : Op = with_jump op off form in
        let low : base + end ≤ 32768 = lies-low memory base w v jumps refl h.code in
        let r : Reaches form end to = reaches form statement end to (no-second w.too_far (told form statement end to) h.code.near) in
        let b : Behind memory base w jumps (base + v.end) = stands-behind memory base w v jumps (told form statement end to) refl (ap (λ k. w.end + k) (same-length op form off)) refl (is form off r.is_offset) h.code in
        (record { code = b.before; lines = l.0 }, (jumps, b.fetches, (λ s there. does form off s ∙ ap (λ target. course target s) (leads-to form base end to s.at there r low)), subst (λ (place : Place). Contains table (base + w.end, place)) at l.1));
    keeps = λ w. refl;
    exist = λ w near.
        let form : Bool = wide w.jumps in
        let end : ℕ = end_of_jumping wide op w in
        let r : Reaches form end to = reaches form statement end to (no-second w.too_far (told form statement end to) near.near) in
        one-exists w (jumping wide statement to op w) (with_jump op (offset end to) form) (told form statement end to) _ refl refl refl (is form (offset end to) r.is_offset) near;
  }

-- ---- the steps of a counter

module _ (n : Names) (t : Compiled) (base : ℕ) (name : List ℕ) (q : Place) (f : IsFound n t (Named name no_index q)) (wide : ℕ → Bool) (statement : Place) (to : ℕ) where
  abbrev counter : Variable
  counter = Named name no_index q

  effect-is : (op : Op) (effect : ℕ) → op.effect ≡ effect → record op { effect = effect } ≡ op
  effect-is op effect is = ap (λ e. record op { effect = e }) (sym is)

  fits : (effect : ℕ) → is_effect effect ≡ true → is_step effect ≡ true → (form : Bool) (off : ℕ) → IsOffset form off → FitsEffect (Using effect) (with_jump (op_for n counter (Using effect)) off form)
  fits effect known step form off is =
      let op : Op = with_jump (op_for n counter (Using effect)) off form in
      let same : op.effect ≡ effect = (f.acts (Using effect)).effect in
      (subst (λ e. IsTrue (is_effect e)) (sym same) known, subst (λ b. IsStep b op) (sym (ap is_step same ∙ step)) is)

  does-as : (effect : ℕ) (course : (target : ℕ) → SpinState → Course SpinState) → ((op : Op) (at : place.VariablePlace) (s : SpinState) → at ≡ site_of t counter [] s → changes 0 (record op { effect = effect }) at s ≡ course ((s.at + op.second) % 2 ^ 16) s) →
      (form : Bool) (off : ℕ) (s : SpinState) → row t.memory t.cog (with_jump (op_for n counter (Using effect)) off form) s ≡ course ((s.at + off) % 2 ^ 16) s
  does-as effect course same form off s =
      let op : Op = with_jump (op_for n counter (Using effect)) off form in
      (f.acts (Using effect)).does off form s
      ∙ subst (λ (x : Op). changes 0 x (f.at s) s ≡ course ((s.at + off) % 2 ^ 16) s) (effect-is op effect (f.acts (Using effect)).effect) (same op (f.at s) s (f.site s (omega arith)))

  pub step-by-one-stand : Stand t.memory base t.table t.hand (jumping wide statement to (op_for n counter (Using 0x02))) (λ p q. At t p (takes_two 0 (bodies.steps_by_one t counter (base + to))) q)
  unfolding changes steps_by_one
  step-by-one-stand =
      jumping-stand t.memory t.cog base t.table t.hand wide statement to (op_for n counter (Using 0x02)) (λ target. takes_two 0 (bodies.steps_by_one t counter target))
      (λ form off is. (f.acts (Using 0x02)).is_op off form (fits 0x02 refl refl form off is))
      (does-as 0x02 (λ target. takes_two 0 (bodies.steps_by_one t counter target))
      (λ op at s there. ap (λ x. tested 2 0 s (places.reads_place (wanted_case.Stepped 1 (operand s 1) (operand s 0) ((s.at + op.second) % 2 ^ 16)) x (taken 2 s))) there))

  pub step-by-stand : Stand t.memory base t.table t.hand (jumping wide statement to (op_for n counter (Using 0x06))) (λ p q. At t p (takes_three 0 (bodies.steps_by t counter (base + to))) q)
  unfolding changes steps
  step-by-stand =
      jumping-stand t.memory t.cog base t.table t.hand wide statement to (op_for n counter (Using 0x06)) (λ target. takes_three 0 (bodies.steps_by t counter target))
      (λ form off is. (f.acts (Using 0x06)).is_op off form (fits 0x06 refl refl form off is))
      (does-as 0x06 (λ target. takes_three 0 (bodies.steps_by t counter target))
      (λ op at s there. ap (λ x. tested 3 0 s (places.reads_place (wanted_case.Stepped (operand s 2) (operand s 1) (operand s 0) ((s.at + op.second) % 2 ^ 16)) x (taken 3 s))) there))
