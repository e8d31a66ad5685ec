-- How a bytecode asks accesses.
use Rattle.std.specs.Prelude.{[], ℕ, ◌%◌, ◌^◌, Option, None}
use Rattle.p8_access.specs.declared.kinds.Width.{Width}
use Rattle.p8_access.specs.declared.kinds.Reason.TheVariants as Why
use Rattle.p8_access.specs.declared.kinds.Access.{Access}
use Rattle.p8_access.specs.declared.kinds.Access.TheVariants.{Read, Write, CogStop}
use Rattle.p8_access.specs.Proper.{bytes_in}
use Rattle.p8_access.specs.Courses.{Course, Finish, Stop, Ask}
use Rattle.p8_bcog.specs.declared.state.SpinState.{SpinState}
use Rattle.p8_bcog.specs.Operands.{pushed, left_by}
pub use Rattle.p8_access.specs.Addresses.{word_in, aligned, is_readable, next_address}

-- an access, with which the bytecode is done and leaves this value, if there is one
unfoldable pub ends : Access → (left : Option ℕ) → SpinState → Course SpinState
ends access left s = Ask access (λ answer. Finish (left_by left s))

-- an access, with whose word left the bytecode is done
unfoldable pub gets : Access → SpinState → Course SpinState
gets access s = Ask access (λ answer. Finish (pushed (word_in answer) s))

-- the cog stops itself with all its methods ended, and nothing comes after that
abbrev pub stops : (cog : ℕ) → SpinState → Course SpinState
stops cog s = ends (CogStop cog) None (record s { calls = [] })

abbrev pub read_of : Width → (address : ℕ) → Access
read_of width address = Read width (aligned width address)

abbrev pub rom_halt : Width → (address : ℕ) → Course SpinState
rom_halt width address = Stop (Why.Rom (aligned width address))

-- the value written is reduced to the width
abbrev pub write_of : Width → (address value : ℕ) → Access
write_of width address value = Write width (aligned width address) (value % 256 ^ bytes_in width)
