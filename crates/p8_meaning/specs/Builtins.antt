-- Built-ins, by the values of their arguments. They are numbered as trees number them.
-- Sources: the Propeller Manual v1.2, the page of each word in the Spin chapter.
use Rattle.std.specs.Prelude.{ℕ, zero, suc, ◌+◌, ◌-◌, ◌%◌, ◌^◌, ◌==◌, if◌then◌else◌}
use Rattle.p8_access.specs.declared.kinds.Width.{Width}
use Rattle.p8_access.specs.declared.kinds.Width.TheVariants.{Byte, Word, Long}
use Rattle.p8_access.specs.declared.kinds.Origin.TheVariants.{Pasm}
use Rattle.p8_access.specs.declared.kinds.Test.{Test}
use Rattle.p8_access.specs.declared.kinds.Test.TheVariants.{Count, PinsEqual, PinsDiffer}
use Rattle.p8_access.specs.declared.kinds.Reason.TheVariants as Why
use Rattle.p8_access.specs.declared.kinds.Access.TheVariants.{CogId, CogInit, CogStop, LockNew, LockRet, LockSet, LockClr, Wait}
use Rattle.p8_meaning.specs.Values.{count_of}
use Rattle.p8_meaning.specs.Doing.{Rest, Gives, untold, halts, asks, tells, asks_for, halts_at_rom, reads, writes, next_address}
pub use Rattle.p8_access.specs.Addresses.{room_from, cog_named, long_address}

-- ---- rows of elements go by ascending address, whatever they overlap (profile)

-- BYTEFILL, WORDFILL, LONGFILL
abbrev pub fills : Width → (address value left : ℕ) → Rest → Rest
fills width address value zero go bound own = go bound own
fills width address value (suc left) go bound own =
    writes width address value (fills width (next_address width address) value left go) bound own

-- BYTEMOVE, WORDMOVE, LONGMOVE: each element is read, and then written
abbrev pub moves : Width → (to from left : ℕ) → Rest → Rest
moves width to from zero go bound own = go bound own
moves width to from (suc left) go bound own =
    reads width from (λ word. writes width to word (moves width (next_address width to) (next_address width from) left go)) bound own

-- ---- texts end with a byte of 0. From an address below $8000 so many bytes can be read.

-- STRSIZE: the number of bytes up to the 0
abbrev pub measures : (room address count : ℕ) → Gives ℕ
measures zero address count go bound own = halts_at_rom Byte address bound own
measures (suc room) address count go bound own =
    asks_for Byte address (λ byte. if byte == 0 then go count else measures room (address + 1) (count + 1) go) bound own

-- STRCOMP: a byte of each is read until they differ, which gives false, or both are 0, which gives true
abbrev pub compares : (room first second : ℕ) → Gives ℕ
compares zero first second go bound own = halts_at_rom Byte first bound own
compares (suc room) first second go bound own =
    asks_for Byte first (λ one. reads Byte second (λ other.
    if one == other then (if one == 0 then go (2 ^ 32 - 1) else compares room (first + 1) (second + 1) go) else go 0)) bound own

-- ---- cogs

-- COGNEW asks for a new one
abbrev pub new_cog : ℕ
new_cog = 2 ^ 32 - 1

-- COGNEW and COGINIT of Propeller Assembly, with the address of its code and PAR
abbrev pub starts_pasm : (id code par : ℕ) → Gives ℕ
starts_pasm id code par go = asks (CogInit (cog_named id) (Pasm (long_address code) (long_address par))) go

-- ---- waits for pins, of which there is port 0 alone: another one halts (profile)

abbrev pub waits_for : (port : ℕ) → Test → Rest → Rest
waits_for port test go = if port == 0 then tells (Wait test) go else halts Why.Port

-- ---- the built-ins by the number of their arguments. What gives no value leaves 0.

-- COGID; CLKFREQ and CLKMODE, which stand at 0 and 4 in hub memory; LOCKNEW
abbrev pub does_none : (code : ℕ) → Gives ℕ
does_none code go =
    if code == 0x3F then asks CogId go
    else if code == 0xC0 then reads Long 0 go
    else if code == 0x80 then reads Byte 4 go
    else if code == 0x29 then asks LockNew go
    else untold

-- STRSIZE, COGSTOP, LOCKRET, WAITCNT, LOCKSET, LOCKCLR. Cogs and locks are named by the low three bits.
abbrev pub does_one : (code a : ℕ) → Gives ℕ
does_one code a go =
    if code == 0x16 then measures (room_from (a % 2 ^ 16)) (a % 2 ^ 16) 0 go
    else if code == 0x21 then tells (CogStop (a % 8)) (go 0)
    else if code == 0x22 then tells (LockRet (a % 8)) (go 0)
    else if code == 0x23 then tells (Wait (Count a)) (go 0)
    else if code == 0x2A then asks (LockSet (a % 8)) go
    else if code == 0x2B then asks (LockClr (a % 8)) go
    else untold

-- STRCOMP
abbrev pub does_two : (code a b : ℕ) → Gives ℕ
does_two code a b go = if code == 0x17 then compares (room_from (a % 2 ^ 16)) (a % 2 ^ 16) (b % 2 ^ 16) go else untold

-- the FILL words: address, value, count. The MOVE words: to, from, count. WAITPEQ, WAITPNE: state, mask, port.
abbrev pub does_three : (code a b c : ℕ) → Gives ℕ
does_three code a b c go =
    if code == 0x18 then fills Byte (a % 2 ^ 16) b (count_of c) (go 0)
    else if code == 0x19 then fills Word (a % 2 ^ 16) b (count_of c) (go 0)
    else if code == 0x1A then fills Long (a % 2 ^ 16) b (count_of c) (go 0)
    else if code == 0x1B then waits_for c (PinsEqual a b) (go 0)
    else if code == 0x1C then moves Byte (a % 2 ^ 16) (b % 2 ^ 16) (count_of c) (go 0)
    else if code == 0x1D then moves Word (a % 2 ^ 16) (b % 2 ^ 16) (count_of c) (go 0)
    else if code == 0x1E then moves Long (a % 2 ^ 16) (b % 2 ^ 16) (count_of c) (go 0)
    else if code == 0x1F then waits_for c (PinsDiffer a b) (go 0)
    else untold
