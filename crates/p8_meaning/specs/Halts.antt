-- What a source asks of the machine.
use Rattle.std.specs.Prelude.{All}
use Rattle.p8_access.specs.declared.kinds.Reason.{Reason}
use Rattle.p8_access.specs.declared.kinds.Reason.TheVariants as Why
use Rattle.p8_access.specs.declared.kinds.Access.{Access}
use Rattle.p8_access.specs.declared.kinds.Access.TheVariants.{Begin, Load, Read, Write, CogId, CogInit, CogStop, LockNew, LockRet, LockSet, LockClr}
use Rattle.p8_access.specs.declared.kinds.Access.TheVariants.{ClkSet, PinsIn, OutSet, DirSet, Wait, Clock, Halt}
use Rattle.p8_access.specs.Courses.{Told, Wants, Leaves, Closes}

-- the halts of a source (profile): a read of ROM, one method too many, an index beyond the instances of an object, a port that isn't there
abbrev pub IsSourceHalt : Reason → Type 0
IsSourceHalt (Why.Rom address) = Unit {0}
IsSourceHalt Why.Deep = Unit {0}
IsSourceHalt Why.Table = Unit {0}
IsSourceHalt Why.Port = Unit {0}
IsSourceHalt (Why.Opcode long) = ⊥
IsSourceHalt (Why.Register register) = ⊥
IsSourceHalt (Why.Byte address) = ⊥
IsSourceHalt Why.Stack = ⊥
IsSourceHalt Why.Under = ⊥
IsSourceHalt Why.Reset = ⊥

abbrev pub IsSourceAccess : Access → Type 0
IsSourceAccess (Halt reason) = IsSourceHalt reason
IsSourceAccess Begin = ⊥
IsSourceAccess Load = ⊥
IsSourceAccess (ClkSet mode) = ⊥
IsSourceAccess (Read width address) = Unit {0}
IsSourceAccess (Write width address value) = Unit {0}
IsSourceAccess CogId = Unit {0}
IsSourceAccess (CogInit target origin) = Unit {0}
IsSourceAccess (CogStop cog) = Unit {0}
IsSourceAccess LockNew = Unit {0}
IsSourceAccess (LockRet lock) = Unit {0}
IsSourceAccess (LockSet lock) = Unit {0}
IsSourceAccess (LockClr lock) = Unit {0}
IsSourceAccess PinsIn = Unit {0}
IsSourceAccess (OutSet value) = Unit {0}
IsSourceAccess (DirSet value) = Unit {0}
IsSourceAccess (Wait test) = Unit {0}
IsSourceAccess Clock = Unit {0}

-- all accesses that were made, and the next one
abbrev pub AreSourceAccesses : {S : Type 0} → Told S → Type 0
AreSourceAccesses (Wants made access) = All IsSourceAccess made × IsSourceAccess access
AreSourceAccesses (Leaves made state left) = All IsSourceAccess made
AreSourceAccesses (Closes made) = All IsSourceAccess made
