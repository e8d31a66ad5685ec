-- What a bytecode does with a variable: it pushes its value, pops a value into it, changes it by an effect, or
-- pushes its address. What names the variable, its address and its index or its pins, lies above all other
-- operands; `named` says how many these are.
use Rattle.std.specs.Prelude.{ℕ, ◌+◌, ◌-◌, ◌%◌, ◌^◌, ◌==◌, ◌&&◌, not, Bool, nat_le, None, if◌then◌else◌}
use Rattle.p8_access.specs.Courses.{Course}
use Rattle.p8_bytecode.specs.declared.op.Op.{Op}
use Rattle.p8_bcog.specs.declared.state.SpinState.{SpinState}
use Rattle.p8_bcog.specs.declared.variable_place.VariablePlace.{VariablePlace}
use Rattle.p8_bcog.specs.declared.step.Wanted.TheVariants.{Pushed, Changed, Replaced, Stepped}
use Rattle.p8_bcog.specs.Operands.{operand, taken, tested}
use Rattle.p8_words.specs.Operators.{is_unary}
use Rattle.p8_bcog.specs.Places.{writes_place, reads_place, left_of}

unfoldable pub pushes : (named : ℕ) → VariablePlace → SpinState → Course SpinState
pushes named place s = tested named 1 s (reads_place Pushed place (taken named s))

unfoldable pub pops : (named : ℕ) → VariablePlace → SpinState → Course SpinState
pops named place s = tested (named + 1) 0 s (writes_place place (operand s named) None (taken (named + 1) s))

-- ---- effects

-- how many longs an effect leaves
abbrev pub leaves : (effect : ℕ) → ℕ
leaves effect = if nat_le 128 effect then 1 else 0

-- 00: the value popped is written, and left as it was
unfoldable pub stores : (named effect : ℕ) → VariablePlace → SpinState → Course SpinState
stores named effect place s =
    tested (named + 1) (leaves effect) s
    (writes_place place (operand s named) (left_of effect (operand s named)) (taken (named + 1) s))

-- 18, 1C: 0 or -1 is written; the variable is read only where its old value is left
unfoldable pub sets : (named effect value : ℕ) → VariablePlace → SpinState → Course SpinState
sets named effect value place s =
    tested named (leaves effect) s
    (if nat_le 128 effect then reads_place (Replaced value) place (taken named s)
    else writes_place place value None (taken named s))

-- 02, 06: the end of a pass of REPEAT, with the step 1 or one that is popped too
unfoldable pub steps_by_one : (named : ℕ) → Op → VariablePlace → SpinState → Course SpinState
steps_by_one named op place s =
    tested (named + 2) 0 s
    (reads_place (Stepped 1 (operand s (named + 1)) (operand s named) ((s.at + op.second) % 2 ^ 16)) place (taken (named + 2) s))

unfoldable pub steps : (named : ℕ) → Op → VariablePlace → SpinState → Course SpinState
steps named op place s =
    tested (named + 3) 0 s
    (reads_place (Stepped (operand s (named + 2)) (operand s (named + 1)) (operand s named) ((s.at + op.second) % 2 ^ 16)) place (taken (named + 3) s))

-- 10, 14, 20 to 3F, and 40 to 5F with a unary operator
unfoldable pub changes_alone : (named effect : ℕ) → VariablePlace → SpinState → Course SpinState
changes_alone named effect place s =
    tested named (leaves effect) s (reads_place (Changed effect 0) place (taken named s))

-- 40 to 5F with a binary operator, whose right side is popped
unfoldable pub changes_by : (named effect : ℕ) → VariablePlace → SpinState → Course SpinState
changes_by named effect place s =
    tested (named + 1) (leaves effect) s (reads_place (Changed effect (operand s named)) place (taken (named + 1) s))

abbrev pub is_binary_effect : ℕ → Bool
is_binary_effect effect = nat_le 0x40 effect && not (is_unary (effect + 0xA0))

-- the rows of the effects
unfoldable pub changes : (named : ℕ) → Op → VariablePlace → SpinState → Course SpinState
changes named op place s =
    if op.effect % 128 == 0x00 then stores named op.effect place s
    else if op.effect == 0x02 then steps_by_one named op place s
    else if op.effect == 0x06 then steps named op place s
    else if op.effect % 128 == 0x18 then sets named op.effect 0 place s
    else if op.effect % 128 == 0x1C then sets named op.effect (2 ^ 32 - 1) place s
    else if is_binary_effect (op.effect % 128) then changes_by named op.effect place s
    else changes_alone named op.effect place s
