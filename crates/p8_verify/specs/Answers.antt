-- What the checker answers to a verdict.
use Rattle.std.specs.Prelude.{ℕ, ◌≡◌, ◌⊎◌, List, Result, Ok, Err}
use Rattle.p8_access.specs.declared.memory.Boot.{Boot}
use Rattle.p8_access.specs.Worlds.{Line}
use Rattle.p8_verify.specs.declared.verdicts.Verdict.{Verdict}
use Rattle.p8_verify.specs.declared.verdicts.Verdict.TheVariants.{Good, Bad}
use Rattle.p8_verify.specs.declared.checker.VerifyFault.{VerifyFault}
use Rattle.p8_verify.specs.declared.checker.VerifyFault.TheVariants as Fault
use Rattle.p8_verify.specs.Verdicts.{IsVerdict}

-- a verdict as an answer
abbrev pub answer_of : Verdict → Result ℕ VerifyFault
answer_of (Good count) = Ok count
answer_of (Bad n cause) = Err (Fault.Bad n cause)

-- an answer is that of a verdict on the file; it may be want of memory in place of each
abbrev pub Tells : Boot → List Line → List ℕ → Result ℕ VerifyFault → Type 0
Tells boot script bytes (Ok count) = IsVerdict boot script bytes (Good count)
Tells boot script bytes (Err (Fault.Bad n cause)) = IsVerdict boot script bytes (Bad n cause)
Tells boot script bytes (Err Fault.NoMemory) = Unit {0}

abbrev pub Gives : Result ℕ VerifyFault → Verdict → Type 0
Gives result verdict = (result ≡ answer_of verdict) ⊎ (result ≡ Err Fault.NoMemory)
