-- The variables of a wave, their names and scopes.
use Rattle.std.specs.Prelude.{ℕ, ◌+◌, ◌*◌, ◌<◌, nat_eq, if◌then◌else◌, Bool, true, false, List, [], ◌∷◌, ◌++◌, codes, map, flat_map}
use Rattle.std.specs.Fmt.{decimal}
use Rattle.std.specs.List.{range_with_len}
use Rattle.p8_access.specs.Hub.{cogs, locks}
use Rattle.p8_wave.specs.declared.variables.Scope.{Scope}
use Rattle.p8_wave.specs.declared.variables.Scope.TheVariants.{Pins, Cog, Locks}
use Rattle.p8_wave.specs.declared.variables.Variable.{Variable}
use Rattle.p8_wave.specs.declared.variables.Variable.TheVariants.{Pin, Outa, Dira, State, Lock, Taken}

-- all scopes, in the order in which they stand
abbrev pub scopes : List Scope
scopes = Pins ∷ map Cog cogs ++ Locks ∷ []

-- what is shown of a cog, and of a lock
abbrev pub cog_variables : ℕ → List Variable
cog_variables n = Outa n ∷ Dira n ∷ State n ∷ []

abbrev pub lock_variables : ℕ → List Variable
lock_variables n = Lock n ∷ Taken n ∷ []

-- the variables that may be shown, in the order in which they stand: those of the pins, of the cogs unless the pins
-- and the locks are to stand alone, and of the locks
unfoldable pub variables : (pins_only : Bool) → List Variable
variables pins_only =
    map Pin (range_with_len 0 32) ++ (if pins_only then [] else flat_map cog_variables cogs) ++ flat_map lock_variables locks

-- there is such a variable
abbrev pub IsVariable : Variable → Type 0
IsVariable (Pin n) = n < 32
IsVariable (Outa n) = n < 8
IsVariable (Dira n) = n < 8
IsVariable (State n) = n < 8
IsVariable (Lock n) = n < 8
IsVariable (Taken n) = n < 8

-- how many bits a variable has
abbrev pub width_of : Variable → ℕ
width_of (Pin n) = 1
width_of (Outa n) = 32
width_of (Dira n) = 32
width_of (State n) = 2
width_of (Lock n) = 1
width_of (Taken n) = 1

-- the printable character that stands for a variable: its place among all of them, from `!` on, which is 33
abbrev pub mark_of : Variable → ℕ
mark_of (Pin n) = 33 + n
mark_of (Outa n) = 65 + 3 * n
mark_of (Dira n) = 66 + 3 * n
mark_of (State n) = 67 + 3 * n
mark_of (Lock n) = 89 + 2 * n
mark_of (Taken n) = 90 + 2 * n

abbrev pub name_of : Variable → List ℕ
name_of (Pin n) = codes "P" ++ decimal n
name_of (Outa n) = codes "outa"
name_of (Dira n) = codes "dira"
name_of (State n) = codes "state"
name_of (Lock n) = codes "lock" ++ decimal n
name_of (Taken n) = codes "taken" ++ decimal n

abbrev pub scope_name : Scope → List ℕ
scope_name Pins = codes "pins"
scope_name (Cog n) = codes "cog" ++ decimal n
scope_name Locks = codes "locks"

-- a variable stands in a scope
abbrev pub is_of_cog : ℕ → Scope → Bool
is_of_cog n (Cog m) = nat_eq m n
is_of_cog n Pins = false
is_of_cog n Locks = false

abbrev pub is_of_locks : Scope → Bool
is_of_locks Locks = true
is_of_locks Pins = false
is_of_locks (Cog m) = false

abbrev pub is_of_pins : Scope → Bool
is_of_pins Pins = true
is_of_pins Locks = false
is_of_pins (Cog m) = false

abbrev pub is_in : Scope → Variable → Bool
is_in scope (Pin n) = is_of_pins scope
is_in scope (Outa n) = is_of_cog n scope
is_in scope (Dira n) = is_of_cog n scope
is_in scope (State n) = is_of_cog n scope
is_in scope (Lock n) = is_of_locks scope
is_in scope (Taken n) = is_of_locks scope
