-- What a running cog does next, in words (this project's profile).
use Rattle.std.specs.Prelude.{ℕ, ◌+◌, ◌-◌, ◌%◌, ◌^◌, ◌&&◌, nat_le, nat_lt, if◌then◌else◌, Bool, List, [], ◌++◌, Option, Some, None, slice_get, codes}
use Rattle.std.specs.Fmt.{decimal}
use Rattle.p8_access.specs.declared.kinds.Access.{Access}
use Rattle.p8_access.specs.declared.kinds.Access.TheVariants.{Wait}
use Rattle.p8_access.specs.declared.kinds.Test.{Test}
use Rattle.p8_access.specs.declared.kinds.Test.TheVariants.{Count, PinsEqual, PinsDiffer}
use Rattle.p8_access.specs.declared.kinds.Origin.{Origin}
use Rattle.p8_access.specs.declared.lives.Next.{Next}
use Rattle.p8_access.specs.declared.lives.Next.TheVariants.{At, Quiet, More}
use Rattle.p8_instr.specs.Numerals.{hex}
use Rattle.p8_machine.specs.declared.asked.Asked.{Asked}
use Rattle.p8_legend.specs.declared.legend.Legend.{Legend}
use Rattle.p8_view.specs.Words.{asked_text, local_for, place_for}

-- what a cog asks next, where that is told
abbrev pub asked_or : Option Asked → Asked
asked_or None = record { next = Quiet; counter = None }
asked_or (Some a) = a

abbrev pub asked_of : List Asked → (cog : ℕ) → Asked
asked_of asked cog = asked_or (slice_get asked cog)

-- how many clocks before this one the counter, which goes round in 2^32, was a number
abbrev pub clocks_since : (target clock : ℕ) → ℕ
clocks_since target clock = (clock + 2 ^ 32 - target) % 2 ^ 32

-- when the counter, which was a number so many clocks before this one, is that again
abbrev pub comes_again : (clock back : ℕ) → ℕ
comes_again clock back = clock + 2 ^ 32 - back

-- a wait for a number that lay at most 2^31 clocks back when it began is missed: it ends when the counter has gone round
abbrev pub is_missed : (back : ℕ) → Bool
is_missed back = nat_lt 0 back && nat_le back (2 ^ 31)

abbrev pub late_text : (back end : ℕ) → List ℕ
late_text back end = codes ", which lies " ++ decimal back ++ codes " clocks back: the wait is missed, and ends at clock " ++ decimal end

abbrev pub missed_text : (since back : ℕ) → List ℕ
missed_text since back = if is_missed back then late_text back (comes_again since back) else []

-- what is waited for since a clock
abbrev pub awaited_text : (since : ℕ) → Test → List ℕ
awaited_text since (Count target) = codes "the counter to be " ++ decimal target ++ missed_text since (clocks_since target since)
awaited_text since (PinsEqual state mask) = codes "the pins " ++ hex 8 mask ++ codes " to be " ++ hex 8 state
awaited_text since (PinsDiffer state mask) = codes "the pins " ++ hex 8 mask ++ codes " not to be " ++ hex 8 state

-- the access that a cog asks from a clock on, which names this in the frame of a method
abbrev pub asks_text : Legend → (local : List ℕ) → (clock : ℕ) → Access → List ℕ
asks_text legend local clock (Wait test) = codes ", waits since clock " ++ decimal clock ++ codes " for " ++ awaited_text clock test
asks_text legend local clock access = codes ", does next at clock " ++ decimal clock ++ codes ": " ++ asked_text legend.names local access

-- what a cog that was started with this has said of its next access, which has this counter, and the place of what asks it; turns come up to a limit of clocks
abbrev pub next_text : Legend → (clocks : ℕ) → (own : Origin) → (counter : Option ℕ) → Next → List ℕ
next_text legend clocks own counter (At clock access) = asks_text legend (local_for legend own counter) clock access ++ place_for legend own counter
next_text legend clocks own counter Quiet = codes ", asks nothing before clock " ++ decimal clocks
next_text legend clocks own counter (More bound) = codes ", asks nothing before clock " ++ decimal bound
