-- That the turns of a ledger are well formed.
use Rattle.std.proofs.Common.{sym, subst, List, [], ◌∷◌, ◌++◌, Some, None}
use Rattle.p8_access.specs.declared.kinds.Access.{Access}
use Rattle.p8_access.specs.declared.kinds.Access.TheVariants.{Begin, Load, Read, Write, CogId, CogInit, CogStop, LockNew, LockRet, LockSet, LockClr, ClkSet, PinsIn, OutSet, DirSet, Wait, Clock, Halt}
use Rattle.p8_access.specs.declared.kinds.Answer.{Answer}
use Rattle.p8_access.specs.declared.kinds.Answer.TheVariants.{Done, Value, Number, Was}
use Rattle.p8_access.specs.declared.order.Turn.{Turn}
use Rattle.p8_access.specs.Proper.{IsProper, Fits}
use Rattle.p8_ledger.specs.Turns.{HasNumber, IsProperTurn, AreProper}

pub one-more : (turns : List Turn) (turn : Turn) → AreProper turns → IsProperTurn turn → AreProper (turns ++ turn ∷ [])
one-more [] turn are is = (is, tt)
one-more (first ∷ turns) turn are is = (are.0, one-more turns turn are.1 is)

-- the answer that fits an access names a cog or a lock where it names anything
pub has-number : (access : Access) (answer : Answer) → IsProper access → Fits access answer → HasNumber answer
has-number access Done proper fits = tt
has-number access (Value value) proper fits = tt
has-number access (Was set) proper fits = tt
has-number (CogInit (Some target) origin) (Number number) proper fits = subst HasNumber (sym fits) proper.0
has-number (CogInit None origin) (Number number) proper fits = fits
has-number LockNew (Number number) proper fits = fits
has-number (Read width address) (Number number) proper fits = absurd fits
has-number CogId (Number number) proper fits = absurd fits
has-number PinsIn (Number number) proper fits = absurd fits
has-number Clock (Number number) proper fits = absurd fits
has-number (LockSet lock) (Number number) proper fits = absurd fits
has-number (LockClr lock) (Number number) proper fits = absurd fits
has-number Begin (Number number) proper fits = absurd fits
has-number Load (Number number) proper fits = absurd fits
has-number (Write width address value) (Number number) proper fits = absurd fits
has-number (CogStop cog) (Number number) proper fits = absurd fits
has-number (LockRet lock) (Number number) proper fits = absurd fits
has-number (ClkSet mode) (Number number) proper fits = absurd fits
has-number (OutSet value) (Number number) proper fits = absurd fits
has-number (DirSet value) (Number number) proper fits = absurd fits
has-number (Wait test) (Number number) proper fits = absurd fits
has-number (Halt reason) (Number number) proper fits = absurd fits
