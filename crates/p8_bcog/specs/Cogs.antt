-- Cogs, locks and waits. Locks, and the cog that is stopped, are named by the low three bits.
use Rattle.std.specs.Prelude.{ℕ, ◌+◌, ◌-◌, ◌*◌, ◌%◌, ◌^◌, ◌==◌, not, List, length, take, drop, None, if◌then◌else◌}
use Rattle.p8_access.specs.declared.kinds.Origin.{Origin}
use Rattle.p8_access.specs.declared.kinds.Origin.TheVariants.{Pasm, Spin}
use Rattle.p8_access.specs.declared.kinds.Test.{Test}
use Rattle.p8_access.specs.declared.kinds.Reason.TheVariants as Why
use Rattle.p8_access.specs.declared.kinds.Access.{Access}
use Rattle.p8_access.specs.declared.kinds.Access.TheVariants.{CogInit, Wait}
use Rattle.p8_access.specs.Courses.{Course, Stop}
use Rattle.p8_bcog.specs.declared.step.Callee.{Callee}
use Rattle.p8_bcog.specs.declared.step.Given.TheVariants.{Started}
use Rattle.p8_bcog.specs.declared.state.SpinState.{SpinState}
use Rattle.p8_bcog.specs.Code.{is_method, method_at}
use Rattle.p8_bcog.specs.Operands.{operand, taken, tested}
use Rattle.p8_bcog.specs.Accesses.{ends, gets}
use Rattle.p8_bcog.specs.Calls.{gives}
pub use Rattle.p8_access.specs.Addresses.{long_address, cog_named as target_of}

-- an access that leaves nothing, and takes so many operands
unfoldable pub tells : (takes : ℕ) → Access → SpinState → Course SpinState
tells takes access s = tested takes 0 s (ends access None (taken takes s))

-- an access whose word is left
unfoldable pub asks_word : (takes : ℕ) → Access → SpinState → Course SpinState
asks_word takes access s = tested takes 1 s (gets access (taken takes s))

-- 15 m k ( id a1 to ak s -- c ) the k arguments are written at s + 4 and on, and a cog is started with the method m
-- and the frame s
abbrev pub spin_origin : Callee → (count frame : ℕ) → Origin
spin_origin callee count frame =
    Spin callee.entry callee.pbase callee.vbase (long_address frame) ((4 * count + callee.locals) % 2 ^ 16)

unfoldable pub start_method : (memory : List ℕ) (m count : ℕ) → SpinState → Course SpinState
start_method memory m count s =
    tested (count + 2) 1 s
    (if not (is_method memory s.pbase m) then Stop Why.Table
    else gives ((long_address (operand s 0) + 4) % 2 ^ 16)
    (take count (drop (length s.stack - (count + 1)) s.stack))
    (Started (target_of (operand s (count + 1))) (spin_origin (method_at memory s.pbase s.vbase m) count (operand s 0)) (count + 2))
    s)

-- 28 ( id code par -- c ) start of PASM; 2C leaves nothing
abbrev pub pasm_start : SpinState → Access
pasm_start s =
    CogInit (target_of (operand s 2)) (Pasm (long_address (operand s 1)) (long_address (operand s 0)))

-- 1B, 1F ( state mask port -- ) waits for pins; there is no other port than 0
unfoldable pub waits_for_pins : Test → SpinState → Course SpinState
waits_for_pins test s =
    tested 3 0 s
    (if operand s 0 == 0 then ends (Wait test) None (taken 3 s) else Stop Why.Port)
