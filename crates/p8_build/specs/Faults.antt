-- internal: what is told of a refusal.
use Rattle.std.specs.Prelude.{◌≡◌, ℕ, None}
use Rattle.p8_tree.specs.Projects.{NamedSource}
use Rattle.p8_words.specs.declared.failure.Fail.{Fail}
use Rattle.p8_words.specs.declared.failure.Fail.TheVariants as fail_case
use Rattle.p8_tree.specs.declared.faults.Fault.{Fault}
use Rattle.p8_build.specs.declared.fault.BuildFault.{BuildFault}
use Rattle.p8_build.specs.declared.fault.BuildFault.TheVariants as build_case
use Rattle.p8_build.specs.declared.fault.PhaseRefusal.{PhaseRefusal}

-- a failure of the file of this number, in a phase that tells no size
abbrev pub in_phase : (phase file : ℕ) → Fail Fault → Fail PhaseRefusal
in_phase phase file (fail_case.Refused f) = fail_case.Refused (record { phase = phase; file = file; fault = f; size = None })
in_phase phase file fail_case.NoMemory = fail_case.NoMemory

-- a file's refusal is told by the file's name, or there was no memory for that
abbrev pub IsToldOf : NamedSource → PhaseRefusal → BuildFault → Type 0
IsToldOf f r (build_case.Source file fault size) = (file ≡ f.name) × (fault ≡ r.fault) × (size ≡ r.size)
IsToldOf f r build_case.NoMemory = Unit {0}
