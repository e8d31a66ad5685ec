-- Which accesses are well formed, and which answers fit them.
use Rattle.std.specs.Prelude.{ℕ, ◌%◌, ◌^◌, ◌≡◌, ◌<◌, Option, Some, None}
use Rattle.p8_access.specs.declared.kinds.Width.{Width}
use Rattle.p8_access.specs.declared.kinds.Width.TheVariants.{Byte, Word, Long}
use Rattle.p8_access.specs.declared.kinds.Origin.{Origin}
use Rattle.p8_access.specs.declared.kinds.Origin.TheVariants.{Pasm, Spin}
use Rattle.p8_access.specs.declared.kinds.Access.{Access}
use Rattle.p8_access.specs.declared.kinds.Access.TheVariants.{Begin, Load, Read, Write, CogId, CogInit, CogStop, LockNew, LockRet, LockSet, LockClr}
use Rattle.p8_access.specs.declared.kinds.Access.TheVariants.{ClkSet, PinsIn, OutSet, DirSet, Wait, Clock, Halt}
use Rattle.p8_access.specs.declared.kinds.Answer.{Answer}
use Rattle.p8_access.specs.declared.kinds.Answer.TheVariants.{Done, Value, Number, Was}

-- how many bytes an access moves
abbrev pub bytes_in : Width → ℕ
bytes_in Byte = 1
bytes_in Word = 2
bytes_in Long = 4

-- an address that a width may have: a word ignores bit 0, a long bits 1 and 0
abbrev pub IsAligned : Width → ℕ → Type 0
IsAligned width address = (address % bytes_in width ≡ 0) × (address < 2 ^ 16)

-- a value that is reduced to a width
abbrev pub IsReduced : Width → ℕ → Type 0
IsReduced width value = value < 256 ^ bytes_in width

-- a multiple of 4 below 65,536
abbrev pub IsLongAddress : ℕ → Type 0
IsLongAddress address = (address % 4 ≡ 0) × (address < 2 ^ 16)

abbrev pub IsProperOrigin : Origin → Type 0
IsProperOrigin (Pasm code par) = IsLongAddress code × IsLongAddress par
IsProperOrigin (Spin entry pbase vbase frame size) = IsLongAddress frame

-- a number of a cog or a lock, or none
abbrev pub IsNumber : Option ℕ → Type 0
IsNumber None = Unit {0}
IsNumber (Some n) = n < 8

-- an access is well formed
abbrev pub IsProper : Access → Type 0
IsProper Begin = Unit {0}
IsProper Load = Unit {0}
IsProper (Read width address) = IsAligned width address
IsProper (Write width address value) = IsAligned width address × IsReduced width value
IsProper CogId = Unit {0}
IsProper (CogInit target origin) = IsNumber target × IsProperOrigin origin
IsProper (CogStop cog) = cog < 8
IsProper LockNew = Unit {0}
IsProper (LockRet lock) = lock < 8
IsProper (LockSet lock) = lock < 8
IsProper (LockClr lock) = lock < 8
IsProper (ClkSet mode) = Unit {0}
IsProper PinsIn = Unit {0}
IsProper (OutSet value) = value < 2 ^ 32
IsProper (DirSet value) = value < 2 ^ 32
IsProper (Wait test) = Unit {0}
IsProper Clock = Unit {0}
IsProper (Halt reason) = Unit {0}

-- an answer is a value that keeps a bound
abbrev pub IsValueBelow : ℕ → Answer → Type 0
IsValueBelow bound (Value value) = value < bound
IsValueBelow bound Done = ⊥
IsValueBelow bound (Number n) = ⊥
IsValueBelow bound (Was set) = ⊥

abbrev pub IsDone : Answer → Type 0
IsDone Done = Unit {0}
IsDone (Value value) = ⊥
IsDone (Number n) = ⊥
IsDone (Was set) = ⊥

abbrev pub IsWas : Answer → Type 0
IsWas (Was set) = Unit {0}
IsWas Done = ⊥
IsWas (Value value) = ⊥
IsWas (Number n) = ⊥

-- an answer names a cog or a lock, or tells that none is free
abbrev pub IsFree : Answer → Type 0
IsFree (Number n) = IsNumber n
IsFree Done = ⊥
IsFree (Value value) = ⊥
IsFree (Was set) = ⊥

-- an answer names a cog: the target, where there is one
abbrev pub IsStarted : Option ℕ → Answer → Type 0
IsStarted None answer = IsFree answer
IsStarted (Some target) answer = answer ≡ Number (Some target)

-- an answer fits an access: it has its kind and range
abbrev pub Fits : Access → Answer → Type 0
Fits (Read width address) answer = IsValueBelow (256 ^ bytes_in width) answer
Fits CogId answer = IsValueBelow (2 ^ 32) answer
Fits PinsIn answer = IsValueBelow (2 ^ 32) answer
Fits Clock answer = IsValueBelow (2 ^ 32) answer
Fits (CogInit target origin) answer = IsStarted target answer
Fits LockNew answer = IsFree answer
Fits (LockSet lock) answer = IsWas answer
Fits (LockClr lock) answer = IsWas answer
Fits Begin answer = IsDone answer
Fits Load answer = IsDone answer
Fits (Write width address value) answer = IsDone answer
Fits (CogStop cog) answer = IsDone answer
Fits (LockRet lock) answer = IsDone answer
Fits (ClkSet mode) answer = IsDone answer
Fits (OutSet value) answer = IsDone answer
Fits (DirSet value) answer = IsDone answer
Fits (Wait test) answer = IsDone answer
Fits (Halt reason) answer = IsDone answer

-- the value that an answer carries; an answer of another kind fits no access whose value is asked for
abbrev pub value_of : Answer → ℕ
value_of (Value value) = value
value_of _ = 0
