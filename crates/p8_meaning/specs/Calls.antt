-- Calls, and starts of methods in a cog.
-- Sources: the Propeller Manual v1.2, "PUB", "RETURN", "ABORT", "COGNEW" and "COGINIT" of the Spin chapter.
use Rattle.std.specs.Prelude.{ℕ, ◌+◌, ◌*◌, ◌%◌, ◌^◌, nat_lt, Bool, List, length, Option, if◌then◌else◌}
use Rattle.p8_access.specs.declared.kinds.Width.TheVariants.{Long}
use Rattle.p8_access.specs.declared.kinds.Origin.TheVariants.{Spin}
use Rattle.p8_access.specs.declared.kinds.Reason.TheVariants as Why
use Rattle.p8_access.specs.declared.kinds.Access.TheVariants.{CogInit}
use Rattle.p8_tree.specs.Sources.{MethodTree}
use Rattle.p8_meaning.specs.Programs.{File, Scope, Target, numbered, methods_of, locals_size, setting_of, object_target}
use Rattle.p8_meaning.specs.Doing.{Rest, Gives, halts, comes_back, costs, asks, reads, writes_longs, given}
use Rattle.p8_meaning.specs.Builtins.{cog_named, long_address}

-- ---- what a method gives

-- a value, or its RESULT, which is read where the value is used and nowhere else (profile)
pub data Returned : Type 0 where
  Value : (value : ℕ) → Returned
  Result : (frame : ℕ) → Returned

abbrev pub uses : Returned → Gives ℕ
uses (Value value) go = go value
uses (Result frame) go = reads Long frame go

-- ---- calls

-- what a method does that begins with these arguments at this frame, as the active method of this number: by what follows its return
-- and what follows an abort that it doesn't stop
abbrev pub Callee : Type 0
Callee = Target → List ℕ → (frame active : ℕ) → (Returned → Rest) → (Returned → Rest) → Rest

-- A call begins the frame of the new method where the frame at hand ends (profile). It takes one of the bound, once it is known to be made.
-- With `\` it stops an abort, whose value it then has. At most 128 methods are active (profile).
abbrev pub calls : Callee → Scope → (stops : Bool) → Option Target → List ℕ → (return abort : Returned → Rest) → Rest
calls callee s stops target arguments return abort =
    given target (λ t.
    if nat_lt s.active 128 then costs (callee t arguments s.frame_end (s.active + 1) return (if stops then return else abort))
    else halts Why.Deep)

-- A call of an object's method: the index of the instance is below their number, and 0 where none is written. Another index halts
-- (profile), before it is looked at how many methods are active.
abbrev pub calls_object : Callee → Scope → (stops : Bool) → (item position count index : ℕ) → (method : List ℕ) → List ℕ →
    (return abort : Returned → Rest) → Rest
calls_object callee s stops item position count index method arguments return abort =
    if nat_lt index count then calls callee s stops (object_target s item (position + index) method) arguments return abort
    else halts Why.Table

-- A call whose value is used: the read of a RESULT is still done for the statement that returns, and what follows for the one that calls.
abbrev pub used : Gives Returned → Gives ℕ
used call go = comes_back (λ back. call (λ given. uses given (λ value. back (go value))))

-- one whose value isn't used
abbrev pub unused : Gives Returned → Rest → Rest
unused call go = comes_back (λ back. call (λ given. back go))

-- ---- starts

-- a method of a file, by its number
abbrev pub method_of : File → (number : ℕ) → Option MethodTree
method_of file number = numbered (methods_of file.source) number

-- COGNEW and COGINIT of a method of the same object: the frame is at the stack's address; the arguments are written after its result, and
-- the cog is started (profile)
abbrev pub starts_method : Scope → (id : ℕ) → Option Target → List ℕ → (stack : ℕ) → Gives ℕ
starts_method s id target arguments stack go =
    given target (λ t. given (method_of s.file t.method) (λ m.
    writes_longs ((long_address stack + 4) % 2 ^ 16) arguments
    (asks (CogInit (cog_named id) (Spin
    ((s.instance.base + s.addresses.code s.instance.file t.method) % 2 ^ 16)
    s.instance.base s.instance.variables (long_address stack)
    ((4 * length arguments + locals_size (setting_of s.file 0) m.locals) % 2 ^ 16))) go)))
