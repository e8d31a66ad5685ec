-- Jumps, and the tests of loops, of CASE and of the LOOK functions.
use Rattle.std.specs.Prelude.{ℕ, ◌==◌, not, nat_le, if◌then◌else◌}
use Rattle.p8_access.specs.Courses.{Course, Finish}
use Rattle.p8_bcog.specs.declared.state.SpinState.{SpinState}
use Rattle.p8_bcog.specs.Operands.{operand, taken, replaced, tested, jumped, jumped_if, is_between, sum_of, difference, distance}
pub use Rattle.p8_words.specs.Fields.{toward}

-- 04 ( -- ) jump
abbrev pub jump : (offset : ℕ) → SpinState → Course SpinState
jump offset s = Finish (jumped offset s)

-- 08 ( c -- c ) where c is 0, drop it and jump
unfoldable pub loop_begins : (offset : ℕ) → SpinState → Course SpinState
loop_begins offset s =
    tested 1 1 s (Finish (if operand s 0 == 0 then jumped offset (taken 1 s) else s))

-- 09 ( c -- c - 1 ) and jump; where c - 1 is 0, drop it and go on
unfoldable pub loop_ends : (offset : ℕ) → SpinState → Course SpinState
loop_ends offset s =
    tested 1 1 s
    (Finish (if difference (operand s 0) 1 == 0 then taken 1 s else jumped offset (replaced 1 (difference (operand s 0) 1) s)))

-- 0A ( x -- ) jump where x is 0
unfoldable pub jump_if_zero : (offset : ℕ) → SpinState → Course SpinState
jump_if_zero offset s = tested 1 0 s (Finish (jumped_if (operand s 0 == 0) offset (taken 1 s)))

-- 0B ( x -- ) jump where x isn't 0
unfoldable pub jump_unless_zero : (offset : ℕ) → SpinState → Course SpinState
jump_unless_zero offset s = tested 1 0 s (Finish (jumped_if (not (operand s 0 == 0)) offset (taken 1 s)))

-- 0C ( v -- ), and 14 ( x -- )
unfoldable pub drops : SpinState → Course SpinState
drops s = tested 1 0 s (Finish (taken 1 s))

-- 0D ( v x -- v ) jump where v = x
unfoldable pub case_value : (offset : ℕ) → SpinState → Course SpinState
case_value offset s = tested 2 1 s (Finish (jumped_if (operand s 1 == operand s 0) offset (taken 1 s)))

-- 0E ( v a b -- v ) jump where v lies between a and b
unfoldable pub case_range : (offset : ℕ) → SpinState → Course SpinState
case_range offset s =
    tested 3 1 s (Finish (jumped_if (is_between (operand s 2) (operand s 1) (operand s 0)) offset (taken 2 s)))

-- 0F ( v k -- 0 )
unfoldable pub look_fails : SpinState → Course SpinState
look_fails s = tested 2 1 s (Finish (replaced 2 0 s))

-- 10 ( v k x -- x ) and jump where v = k; else ( -- v k + 1 )
unfoldable pub lookup_value : (offset : ℕ) → SpinState → Course SpinState
lookup_value offset s =
    tested 3 2 s
    (Finish (if operand s 2 == operand s 1 then jumped offset (replaced 3 (operand s 0) s)
    else replaced 2 (sum_of (operand s 1) 1) s))

-- 11 ( v k x -- k ) and jump where v = x; else ( -- v k + 1 )
unfoldable pub lookdown_value : (offset : ℕ) → SpinState → Course SpinState
lookdown_value offset s =
    tested 3 2 s
    (Finish (if operand s 2 == operand s 0 then jumped offset (replaced 3 (operand s 1) s)
    else replaced 2 (sum_of (operand s 1) 1) s))

-- 12 ( v k a b -- ) with w the distance of a and b and d = v - k: where d is at most w, leave the value that lies d from a
-- toward b, and jump; else ( -- v k + w + 1 )
unfoldable pub lookup_range : (offset : ℕ) → SpinState → Course SpinState
lookup_range offset s =
    tested 4 2 s
    (Finish (if nat_le (difference (operand s 3) (operand s 2)) (distance (operand s 1) (operand s 0))
    then jumped offset (replaced 4 (toward (operand s 1) (operand s 0) (difference (operand s 3) (operand s 2))) s)
    else replaced 3 (sum_of (sum_of (operand s 2) (distance (operand s 1) (operand s 0))) 1) s))

-- 13 ( v k a b -- ): where v lies between a and b leave k + the distance of v and a, and jump; else ( -- v k + w + 1 )
unfoldable pub lookdown_range : (offset : ℕ) → SpinState → Course SpinState
lookdown_range offset s =
    tested 4 2 s
    (Finish (if is_between (operand s 3) (operand s 1) (operand s 0)
    then jumped offset (replaced 4 (sum_of (operand s 2) (distance (operand s 3) (operand s 1))) s)
    else replaced 3 (sum_of (sum_of (operand s 2) (distance (operand s 1) (operand s 0))) 1) s))
