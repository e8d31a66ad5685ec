-- The effect bytes that a code generator writes, one by one.
use Rattle.std.proofs.Common.{◌≡◌, refl, ap, ◌∙◌, arith, ℕ, ◌+◌, ◌-◌, ◌%◌, ◌^◌, ◌≤◌, ◌==◌, not, ◌&&◌, ◌||◌, Bool, true, false, nat_le, nat_lt, List, [], ◌∷◌, Some, None, IsTrue}
use Rattle.p8_tree.specs.Proper as proper
use Rattle.p8_access.specs.Courses.{Course}
use Rattle.p8_bytecode.specs.declared.op.Op.{Op}
use Rattle.p8_bytecode.specs.Table.{is_effect, is_step}
use Rattle.p8_words.specs.Operators.{is_unary, binary_value}
use Rattle.p8_bcog.specs.declared.state.SpinState.{SpinState}
use Rattle.p8_bcog.specs.declared.variable_place.VariablePlace as place
use Rattle.p8_bcog.specs.declared.step.Wanted.TheVariants as wanted_case
use Rattle.p8_bcog.specs.Operands.{operand, taken, tested}
use Rattle.p8_bcog.specs.Places as places
use Rattle.p8_bcog.specs.Changes.{changes, stores, sets, changes_by, changes_alone, is_binary_effect, leaves}
use Rattle.p8_gen.specs.Variables.{effect_for, effect_by, leaving}
use Rattle.p8_compiled.specs.Standing.{IsEffect, IsOperation}
use Rattle.p8_compiled.proofs.Choices.{each, all_from, within-row}
use Rattle.p8_compiled.proofs.Truths.{at-most, both-true, equal, if-no, if-yes, implied, is-no}

-- an effect byte without a jump, by what it does
pub record IsChanging (effect : ℕ) (course : (named : ℕ) → place.VariablePlace → SpinState → Course SpinState) : Type 0 where
  pub known : is_effect effect ≡ true
  pub no_step : is_step effect ≡ false
  pub does : (op : Op) (count : ℕ) (at : place.VariablePlace) (s : SpinState) → changes count (record op { effect = effect }) at s ≡ course count at s

-- ---- a value is written

abbrev pub stores_left : (named : ℕ) → place.VariablePlace → SpinState → Course SpinState
stores_left named at s = tested (named + 1) 1 s (places.writes_place at (operand s named) (Some (operand s named)) (taken (named + 1) s))

pub is-storing : IsChanging 0x80 stores_left
unfolding changes stores
is-storing = record { known = refl; no_step = refl; does = λ op count at s. refl }

-- ---- an operator is applied

abbrev pub changes_right : (effect named : ℕ) → place.VariablePlace → SpinState → Course SpinState
changes_right effect named at s = tested (named + 1) (leaves effect) s (places.reads_place (wanted_case.Changed effect (operand s named)) at (taken (named + 1) s))

pub record IsOperating (used : Bool) (k : ℕ) : Type 0 where
  pub changes : IsChanging (leaving used (effect_by k)) (changes_right (leaving used (effect_by k)))
  pub operation : IsOperation (leaving used (effect_by k)) used k

abbrev is_same : Bool → Bool → Bool
is_same true b = b
is_same false b = not b

-- which numbers these bytes are, by those of the operators
abbrev is_operation_byte : (used : Bool) → (e k : ℕ) → Bool
is_operation_byte used e k =
    is_effect e && not (is_step e) && not (e % 128 == 0x00) && not (e == 0x02) && not (e == 0x06) && not (e % 128 == 0x18) && not (e % 128 == 0x1C) && is_binary_effect (e % 128)
    && not (e % 128 == 0x10) && not (e % 128 == 0x14) && not (nat_lt (e % 128) 0x30) && not (nat_lt (e % 128) 0x40) && not (is_unary (e % 128 + 0xA0)) && (e % 128 + 0xA0 == k)
    && not (places.leaves_old (e % 128)) && is_same (nat_le 128 e) used

all-operate : (used : Bool) → all_from (λ k. not (proper.is_binary k) || is_operation_byte used (leaving used (effect_by k)) k) 0xE0 32 ≡ true
all-operate true = refl
all-operate false = refl

same-as : (a b : Bool) → is_same a b ≡ true → a ≡ b
same-as true true is = refl
same-as false false is = refl
same-as _ _ is = absurd (cc)

-- the same as facts
record IsOperationByte (used : Bool) (e k : ℕ) : Type 0 where
  effect : is_effect e ≡ true
  no_step : is_step e ≡ false
  no_store : (e % 128 == 0x00) ≡ false
  no_02 : (e == 0x02) ≡ false
  no_06 : (e == 0x06) ≡ false
  no_18 : (e % 128 == 0x18) ≡ false
  no_1C : (e % 128 == 0x1C) ≡ false
  two : is_binary_effect (e % 128) ≡ true
  no_10 : (e % 128 == 0x10) ≡ false
  no_14 : (e % 128 == 0x14) ≡ false
  no_plus : nat_lt (e % 128) 0x30 ≡ false
  no_minus : nat_lt (e % 128) 0x40 ≡ false
  no_unary : is_unary (e % 128 + 0xA0) ≡ false
  operator : e % 128 + 0xA0 ≡ k
  no_old : places.leaves_old (e % 128) ≡ false
  leaves : nat_le 128 e ≡ used

operation-facts : (used : Bool) (e k : ℕ) → is_operation_byte used e k ≡ true → IsOperationByte used e k
operation-facts used e k is =
    let p1 = both-true _ _ is in
    let p2 = both-true _ _ p1.0 in
    let p3 = both-true _ _ p2.0 in
    let p4 = both-true _ _ p3.0 in
    let p5 = both-true _ _ p4.0 in
    let p6 = both-true _ _ p5.0 in
    let p7 = both-true _ _ p6.0 in
    let p8 = both-true _ _ p7.0 in
    let p9 = both-true _ _ p8.0 in
    let pa = both-true _ _ p9.0 in
    let pb = both-true _ _ pa.0 in
    let pc = both-true _ _ pb.0 in
    let pd = both-true _ _ pc.0 in
    let pe = both-true _ _ pd.0 in
    let pf = both-true _ _ pe.0 in
    record {
      effect = pf.0;
      no_step = is-no _ pf.1;
      no_store = is-no _ pe.1;
      no_02 = is-no _ pd.1;
      no_06 = is-no _ pc.1;
      no_18 = is-no _ pb.1;
      no_1C = is-no _ pa.1;
      two = p9.1;
      no_10 = is-no _ p8.1;
      no_14 = is-no _ p7.1;
      no_plus = is-no _ p6.1;
      no_minus = is-no _ p5.1;
      no_unary = is-no _ p4.1;
      operator = equal _ _ p3.1;
      no_old = is-no _ p2.1;
      leaves = same-as _ _ p1.1;
    }

operation-byte : (used : Bool) (k : ℕ) → IsTrue (proper.is_binary k) → IsOperationByte used (leaving used (effect_by k)) k
operation-byte used k is =
    let p : (nat_le 0xE0 k ≡ true) × _ = both-true _ _ is in
    let q : (nat_le k 0xFF ≡ true) × _ = both-true _ _ p.1 in
    let least : 0xE0 ≤ k = at-most _ _ p.0 in
    let most : k ≤ 0xFF = at-most _ _ q.0 in
    operation-facts used (leaving used (effect_by k)) k
    (implied (proper.is_binary k) _ (within-row (λ j. not (proper.is_binary j) || is_operation_byte used (leaving used (effect_by j)) j) 0xE0 32 (all-operate used) k least (omega (arith, most))) is)

operates-by : (used : Bool) (e k : ℕ) → IsOperationByte used e k → IsChanging e (changes_right e)
unfolding changes changes_by
operates-by used e k b = record {
  known = b.effect;
  no_step = b.no_step;
  does = λ op count at s.
      if-no (e % 128 == 0x00) _ _ b.no_store
      ∙ if-no (e == 0x02) _ _ b.no_02
      ∙ if-no (e == 0x06) _ _ b.no_06
      ∙ if-no (e % 128 == 0x18) _ _ b.no_18
      ∙ if-no (e % 128 == 0x1C) _ _ b.no_1C
      ∙ if-yes (is_binary_effect (e % 128)) _ _ b.two;
}

updates-by : (used : Bool) (e k : ℕ) → IsOperationByte used e k → (value right : ℕ) → places.updated (e % 128) value right ≡ binary_value k value right
updates-by used e k b value right =
    if-no (e % 128 == 0x10) _ _ b.no_10
    ∙ if-no (e % 128 == 0x14) _ _ b.no_14
    ∙ if-no (nat_lt (e % 128) 0x30) _ _ b.no_plus
    ∙ if-no (nat_lt (e % 128) 0x40) _ _ b.no_minus
    ∙ if-no (is_unary (e % 128 + 0xA0)) _ _ b.no_unary
    ∙ ap (λ o. binary_value o value right) b.operator

pub is-operating : (used : Bool) (k : ℕ) → IsTrue (proper.is_binary k) → IsOperating used k
is-operating used k is =
    let b = operation-byte used k is in
    record {
      changes = operates-by used _ k b;
      operation = record { updates = updates-by used _ k b; old = b.no_old; leaves = b.leaves };
    }

-- ---- a variable is changed by itself

abbrev pub changes_itself : (effect named : ℕ) → place.VariablePlace → SpinState → Course SpinState
changes_itself effect named at s = tested named (leaves effect) s (places.reads_place (wanted_case.Changed effect 0) at (taken named s))

pub record IsUpdating (used : Bool) (effect change : ℕ) : Type 0 where
  pub changes : IsChanging effect (changes_itself effect)
  pub made : IsEffect effect used change

-- the sizes of variables, and 0 of a register
abbrev pub is_size : ℕ → Bool
is_size size = proper.is_one_of (0 ∷ 1 ∷ 2 ∷ 4 ∷ []) size

updating-20-0 : (used : Bool) → IsUpdating used (leaving used (effect_for 0 0x20)) 0x20
unfolding changes changes_alone
updating-20-0 true = record { changes = record { known = refl; no_step = refl; does = λ op count at s. refl }; made = record { updates = λ value. refl; old = refl; leaves = refl } }
updating-20-0 false = record { changes = record { known = refl; no_step = refl; does = λ op count at s. refl }; made = record { updates = λ value. refl; old = refl; leaves = refl } }

updating-20-1 : (used : Bool) → IsUpdating used (leaving used (effect_for 1 0x20)) 0x20
unfolding changes changes_alone
updating-20-1 true = record { changes = record { known = refl; no_step = refl; does = λ op count at s. refl }; made = record { updates = λ value. refl; old = refl; leaves = refl } }
updating-20-1 false = record { changes = record { known = refl; no_step = refl; does = λ op count at s. refl }; made = record { updates = λ value. refl; old = refl; leaves = refl } }

updating-20-2 : (used : Bool) → IsUpdating used (leaving used (effect_for 2 0x20)) 0x20
unfolding changes changes_alone
updating-20-2 true = record { changes = record { known = refl; no_step = refl; does = λ op count at s. refl }; made = record { updates = λ value. refl; old = refl; leaves = refl } }
updating-20-2 false = record { changes = record { known = refl; no_step = refl; does = λ op count at s. refl }; made = record { updates = λ value. refl; old = refl; leaves = refl } }

updating-20-4 : (used : Bool) → IsUpdating used (leaving used (effect_for 4 0x20)) 0x20
unfolding changes changes_alone
updating-20-4 true = record { changes = record { known = refl; no_step = refl; does = λ op count at s. refl }; made = record { updates = λ value. refl; old = refl; leaves = refl } }
updating-20-4 false = record { changes = record { known = refl; no_step = refl; does = λ op count at s. refl }; made = record { updates = λ value. refl; old = refl; leaves = refl } }

updating-28-0 : (used : Bool) → IsUpdating used (leaving used (effect_for 0 0x28)) 0x28
unfolding changes changes_alone
updating-28-0 true = record { changes = record { known = refl; no_step = refl; does = λ op count at s. refl }; made = record { updates = λ value. refl; old = refl; leaves = refl } }
updating-28-0 false = record { changes = record { known = refl; no_step = refl; does = λ op count at s. refl }; made = record { updates = λ value. refl; old = refl; leaves = refl } }

updating-28-1 : (used : Bool) → IsUpdating used (leaving used (effect_for 1 0x28)) 0x28
unfolding changes changes_alone
updating-28-1 true = record { changes = record { known = refl; no_step = refl; does = λ op count at s. refl }; made = record { updates = λ value. refl; old = refl; leaves = refl } }
updating-28-1 false = record { changes = record { known = refl; no_step = refl; does = λ op count at s. refl }; made = record { updates = λ value. refl; old = refl; leaves = refl } }

updating-28-2 : (used : Bool) → IsUpdating used (leaving used (effect_for 2 0x28)) 0x28
unfolding changes changes_alone
updating-28-2 true = record { changes = record { known = refl; no_step = refl; does = λ op count at s. refl }; made = record { updates = λ value. refl; old = refl; leaves = refl } }
updating-28-2 false = record { changes = record { known = refl; no_step = refl; does = λ op count at s. refl }; made = record { updates = λ value. refl; old = refl; leaves = refl } }

updating-28-4 : (used : Bool) → IsUpdating used (leaving used (effect_for 4 0x28)) 0x28
unfolding changes changes_alone
updating-28-4 true = record { changes = record { known = refl; no_step = refl; does = λ op count at s. refl }; made = record { updates = λ value. refl; old = refl; leaves = refl } }
updating-28-4 false = record { changes = record { known = refl; no_step = refl; does = λ op count at s. refl }; made = record { updates = λ value. refl; old = refl; leaves = refl } }

updating-30-0 : (used : Bool) → IsUpdating used (leaving used (effect_for 0 0x30)) 0x30
unfolding changes changes_alone
updating-30-0 true = record { changes = record { known = refl; no_step = refl; does = λ op count at s. refl }; made = record { updates = λ value. refl; old = refl; leaves = refl } }
updating-30-0 false = record { changes = record { known = refl; no_step = refl; does = λ op count at s. refl }; made = record { updates = λ value. refl; old = refl; leaves = refl } }

updating-30-1 : (used : Bool) → IsUpdating used (leaving used (effect_for 1 0x30)) 0x30
unfolding changes changes_alone
updating-30-1 true = record { changes = record { known = refl; no_step = refl; does = λ op count at s. refl }; made = record { updates = λ value. refl; old = refl; leaves = refl } }
updating-30-1 false = record { changes = record { known = refl; no_step = refl; does = λ op count at s. refl }; made = record { updates = λ value. refl; old = refl; leaves = refl } }

updating-30-2 : (used : Bool) → IsUpdating used (leaving used (effect_for 2 0x30)) 0x30
unfolding changes changes_alone
updating-30-2 true = record { changes = record { known = refl; no_step = refl; does = λ op count at s. refl }; made = record { updates = λ value. refl; old = refl; leaves = refl } }
updating-30-2 false = record { changes = record { known = refl; no_step = refl; does = λ op count at s. refl }; made = record { updates = λ value. refl; old = refl; leaves = refl } }

updating-30-4 : (used : Bool) → IsUpdating used (leaving used (effect_for 4 0x30)) 0x30
unfolding changes changes_alone
updating-30-4 true = record { changes = record { known = refl; no_step = refl; does = λ op count at s. refl }; made = record { updates = λ value. refl; old = refl; leaves = refl } }
updating-30-4 false = record { changes = record { known = refl; no_step = refl; does = λ op count at s. refl }; made = record { updates = λ value. refl; old = refl; leaves = refl } }

updating-38-0 : (used : Bool) → IsUpdating used (leaving used (effect_for 0 0x38)) 0x38
unfolding changes changes_alone
updating-38-0 true = record { changes = record { known = refl; no_step = refl; does = λ op count at s. refl }; made = record { updates = λ value. refl; old = refl; leaves = refl } }
updating-38-0 false = record { changes = record { known = refl; no_step = refl; does = λ op count at s. refl }; made = record { updates = λ value. refl; old = refl; leaves = refl } }

updating-38-1 : (used : Bool) → IsUpdating used (leaving used (effect_for 1 0x38)) 0x38
unfolding changes changes_alone
updating-38-1 true = record { changes = record { known = refl; no_step = refl; does = λ op count at s. refl }; made = record { updates = λ value. refl; old = refl; leaves = refl } }
updating-38-1 false = record { changes = record { known = refl; no_step = refl; does = λ op count at s. refl }; made = record { updates = λ value. refl; old = refl; leaves = refl } }

updating-38-2 : (used : Bool) → IsUpdating used (leaving used (effect_for 2 0x38)) 0x38
unfolding changes changes_alone
updating-38-2 true = record { changes = record { known = refl; no_step = refl; does = λ op count at s. refl }; made = record { updates = λ value. refl; old = refl; leaves = refl } }
updating-38-2 false = record { changes = record { known = refl; no_step = refl; does = λ op count at s. refl }; made = record { updates = λ value. refl; old = refl; leaves = refl } }

updating-38-4 : (used : Bool) → IsUpdating used (leaving used (effect_for 4 0x38)) 0x38
unfolding changes changes_alone
updating-38-4 true = record { changes = record { known = refl; no_step = refl; does = λ op count at s. refl }; made = record { updates = λ value. refl; old = refl; leaves = refl } }
updating-38-4 false = record { changes = record { known = refl; no_step = refl; does = λ op count at s. refl }; made = record { updates = λ value. refl; old = refl; leaves = refl } }

updating-10 : (used : Bool) → IsUpdating used (leaving used 0x10) 0x10
unfolding changes changes_alone
updating-10 true = record { changes = record { known = refl; no_step = refl; does = λ op count at s. refl }; made = record { updates = λ value. refl; old = refl; leaves = refl } }
updating-10 false = record { changes = record { known = refl; no_step = refl; does = λ op count at s. refl }; made = record { updates = λ value. refl; old = refl; leaves = refl } }

updating-14 : (used : Bool) → IsUpdating used (leaving used 0x14) 0x14
unfolding changes changes_alone
updating-14 true = record { changes = record { known = refl; no_step = refl; does = λ op count at s. refl }; made = record { updates = λ value. refl; old = refl; leaves = refl } }
updating-14 false = record { changes = record { known = refl; no_step = refl; does = λ op count at s. refl }; made = record { updates = λ value. refl; old = refl; leaves = refl } }

updating-46 : (used : Bool) → IsUpdating used (leaving used 0x46) 0x46
unfolding changes changes_alone
updating-46 true = record { changes = record { known = refl; no_step = refl; does = λ op count at s. refl }; made = record { updates = λ value. refl; old = refl; leaves = refl } }
updating-46 false = record { changes = record { known = refl; no_step = refl; does = λ op count at s. refl }; made = record { updates = λ value. refl; old = refl; leaves = refl } }

updating-47 : (used : Bool) → IsUpdating used (leaving used 0x47) 0x47
unfolding changes changes_alone
updating-47 true = record { changes = record { known = refl; no_step = refl; does = λ op count at s. refl }; made = record { updates = λ value. refl; old = refl; leaves = refl } }
updating-47 false = record { changes = record { known = refl; no_step = refl; does = λ op count at s. refl }; made = record { updates = λ value. refl; old = refl; leaves = refl } }

updating-49 : (used : Bool) → IsUpdating used (leaving used 0x49) 0x49
unfolding changes changes_alone
updating-49 true = record { changes = record { known = refl; no_step = refl; does = λ op count at s. refl }; made = record { updates = λ value. refl; old = refl; leaves = refl } }
updating-49 false = record { changes = record { known = refl; no_step = refl; does = λ op count at s. refl }; made = record { updates = λ value. refl; old = refl; leaves = refl } }

updating-51 : (used : Bool) → IsUpdating used (leaving used 0x51) 0x51
unfolding changes changes_alone
updating-51 true = record { changes = record { known = refl; no_step = refl; does = λ op count at s. refl }; made = record { updates = λ value. refl; old = refl; leaves = refl } }
updating-51 false = record { changes = record { known = refl; no_step = refl; does = λ op count at s. refl }; made = record { updates = λ value. refl; old = refl; leaves = refl } }

updating-53 : (used : Bool) → IsUpdating used (leaving used 0x53) 0x53
unfolding changes changes_alone
updating-53 true = record { changes = record { known = refl; no_step = refl; does = λ op count at s. refl }; made = record { updates = λ value. refl; old = refl; leaves = refl } }
updating-53 false = record { changes = record { known = refl; no_step = refl; does = λ op count at s. refl }; made = record { updates = λ value. refl; old = refl; leaves = refl } }

updating-58 : (used : Bool) → IsUpdating used (leaving used 0x58) 0x58
unfolding changes changes_alone
updating-58 true = record { changes = record { known = refl; no_step = refl; does = λ op count at s. refl }; made = record { updates = λ value. refl; old = refl; leaves = refl } }
updating-58 false = record { changes = record { known = refl; no_step = refl; does = λ op count at s. refl }; made = record { updates = λ value. refl; old = refl; leaves = refl } }

updating-5F : (used : Bool) → IsUpdating used (leaving used 0x5F) 0x5F
unfolding changes changes_alone
updating-5F true = record { changes = record { known = refl; no_step = refl; does = λ op count at s. refl }; made = record { updates = λ value. refl; old = refl; leaves = refl } }
updating-5F false = record { changes = record { known = refl; no_step = refl; does = λ op count at s. refl }; made = record { updates = λ value. refl; old = refl; leaves = refl } }

counting : (used : Bool) (size k : ℕ) → is_size size ≡ true → proper.is_one_of (0x20 ∷ 0x28 ∷ 0x30 ∷ 0x38 ∷ []) k ≡ true → IsUpdating used (leaving used (effect_for size k)) k
counting used size k known is =
    each (λ j. IsUpdating used (leaving used (effect_for size j)) j) (0x20 ∷ 0x28 ∷ 0x30 ∷ 0x38 ∷ []) (
      each (λ z. IsUpdating used (leaving used (effect_for z 0x20)) 0x20) (0 ∷ 1 ∷ 2 ∷ 4 ∷ []) (updating-20-0 used, (updating-20-1 used, (updating-20-2 used, (updating-20-4 used, tt)))) size known,
      (
        each (λ z. IsUpdating used (leaving used (effect_for z 0x28)) 0x28) (0 ∷ 1 ∷ 2 ∷ 4 ∷ []) (updating-28-0 used, (updating-28-1 used, (updating-28-2 used, (updating-28-4 used, tt)))) size known,
        (
          each (λ z. IsUpdating used (leaving used (effect_for z 0x30)) 0x30) (0 ∷ 1 ∷ 2 ∷ 4 ∷ []) (updating-30-0 used, (updating-30-1 used, (updating-30-2 used, (updating-30-4 used, tt)))) size known,
          (
            each (λ z. IsUpdating used (leaving used (effect_for z 0x38)) 0x38) (0 ∷ 1 ∷ 2 ∷ 4 ∷ []) (updating-38-0 used, (updating-38-1 used, (updating-38-2 used, (updating-38-4 used, tt)))) size known,
            tt,
          ),
        ),
      ),
    ) k is

-- those that are no count, and don't write 0 or -1
by-itself : (used : Bool) (size k : ℕ) → proper.is_one_of (0x10 ∷ 0x14 ∷ 0x46 ∷ 0x47 ∷ 0x49 ∷ 0x51 ∷ 0x53 ∷ 0x58 ∷ 0x5F ∷ []) k ≡ true → IsUpdating used (leaving used (effect_for size k)) k
by-itself used size k is =
    each (λ j. IsUpdating used (leaving used (effect_for size j)) j) (0x10 ∷ 0x14 ∷ 0x46 ∷ 0x47 ∷ 0x49 ∷ 0x51 ∷ 0x53 ∷ 0x58 ∷ 0x5F ∷ [])
    (updating-10 used, (updating-14 used, (updating-46 used, (updating-47 used, (updating-49 used, (updating-51 used, (updating-53 used, (updating-58 used, (updating-5F used, tt))))))))) k is

-- ---- 0 or -1 is written

abbrev pub sets_of : (used : Bool) → (value named : ℕ) → place.VariablePlace → SpinState → Course SpinState
sets_of true value named at s = tested named 1 s (places.reads_place (wanted_case.Replaced value) at (taken named s))
sets_of false value named at s = tested named 0 s (places.writes_place at value None (taken named s))

abbrev pub IsSetting : (used : Bool) → (effect value : ℕ) → Type 0
IsSetting used effect value = IsChanging effect (sets_of used value)

setting-0 : (used : Bool) → IsChanging (leaving used 0x18) (sets_of used 0)
unfolding changes sets
setting-0 true = record { known = refl; no_step = refl; does = λ op count at s. refl }
setting-0 false = record { known = refl; no_step = refl; does = λ op count at s. refl }

setting-1 : (used : Bool) → IsChanging (leaving used 0x1C) (sets_of used (2 ^ 32 - 1))
unfolding changes sets
setting-1 true = record { known = refl; no_step = refl; does = λ op count at s. refl }
setting-1 false = record { known = refl; no_step = refl; does = λ op count at s. refl }

-- ---- all changes

-- what an effect byte does that makes a change
pub data Makes (used : Bool) (effect change : ℕ) : Type 0 where
  clears : change ≡ 0x18 → IsChanging effect (sets_of used 0) → Makes used effect change
  fills : change ≡ 0x1C → IsChanging effect (sets_of used (2 ^ 32 - 1)) → Makes used effect change
  updates : (change == 0x18) ≡ false → (change == 0x1C) ≡ false → IsUpdating used effect change → Makes used effect change

abbrev pub all_changes : List ℕ
all_changes = 0x20 ∷ 0x28 ∷ 0x30 ∷ 0x38 ∷ 0x10 ∷ 0x18 ∷ 0x14 ∷ 0x1C ∷ 0x46 ∷ 0x47 ∷ 0x49 ∷ 0x51 ∷ 0x53 ∷ 0x58 ∷ 0x5F ∷ []

pub makes : (used : Bool) (size change : ℕ) → is_size size ≡ true → proper.is_one_of all_changes change ≡ true → Makes used (leaving used (effect_for size change)) change
makes used size change known is =
    each (λ k. Makes used (leaving used (effect_for size k)) k) all_changes (
      updates refl refl (counting used size 0x20 known refl),
      (
        updates refl refl (counting used size 0x28 known refl),
        (
          updates refl refl (counting used size 0x30 known refl),
          (
            updates refl refl (counting used size 0x38 known refl),
            (
              updates refl refl (by-itself used size 0x10 refl),
              (
                clears refl (setting-0 used),
                (
                  updates refl refl (by-itself used size 0x14 refl),
                  (
                    fills refl (setting-1 used),
                    (
                      updates refl refl (by-itself used size 0x46 refl),
                      (
                        updates refl refl (by-itself used size 0x47 refl),
                        (
                          updates refl refl (by-itself used size 0x49 refl),
                          (
                            updates refl refl (by-itself used size 0x51 refl),
                            (
                              updates refl refl (by-itself used size 0x53 refl),
                              (
                                updates refl refl (by-itself used size 0x58 refl),
                                (updates refl refl (by-itself used size 0x5F refl), tt),
                              ),
                            ),
                          ),
                        ),
                      ),
                    ),
                  ),
                ),
              ),
            ),
          ),
        ),
      ),
    ) change is
