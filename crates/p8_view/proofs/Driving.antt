-- What an access leaves of what the cogs do to the pins.
use Rattle.std.proofs.Common.{◌≡◌, refl, false, List, ◌∷◌}
use Rattle.p8_access.specs.declared.kinds.Access.{Access}
use Rattle.p8_access.specs.declared.kinds.Access.TheVariants.{Begin, Load, Read, Write, CogId, CogInit, CogStop, LockNew, LockRet, LockSet, LockClr, ClkSet, PinsIn, OutSet, DirSet, Wait, Clock, Halt}
use Rattle.p8_access.specs.declared.kinds.Answer.{Answer}
use Rattle.p8_access.specs.declared.order.Key.{Key}
use Rattle.p8_access.specs.declared.order.Turn.{Turn}
use Rattle.p8_access.specs.Pins.{dira, outputs}
use Rattle.p8_view.specs.Drives.{drives_of}
use Rattle.p8_view.specs.Following.{may_drive}

left_by : (past : List Turn) (key : Key) (access : Access) (answer : Answer) → may_drive access ≡ false → drives_of (record { key = key; access = access; answer = answer } ∷ past) ≡ drives_of past
unfolding dira outputs
left_by past key Begin answer is = refl
left_by past key Load answer is = refl
left_by past key (Read width address) answer is = refl
left_by past key (Write width address value) answer is = refl
left_by past key CogId answer is = refl
left_by past key (CogInit target origin) answer is = absurd (cc)
left_by past key (CogStop cog) answer is = absurd (cc)
left_by past key LockNew answer is = refl
left_by past key (LockRet lock) answer is = refl
left_by past key (LockSet lock) answer is = refl
left_by past key (LockClr lock) answer is = refl
left_by past key (ClkSet mode) answer is = refl
left_by past key PinsIn answer is = refl
left_by past key (OutSet value) answer is = absurd (cc)
left_by past key (DirSet value) answer is = absurd (cc)
left_by past key (Wait test) answer is = refl
left_by past key Clock answer is = refl
left_by past key (Halt reason) answer is = absurd (cc)

-- most turns leave it
pub left-alone : (past : List Turn) (turn : Turn) → may_drive turn.access ≡ false → drives_of (turn ∷ past) ≡ drives_of past
left-alone past turn is = left_by past turn.key turn.access turn.answer is
