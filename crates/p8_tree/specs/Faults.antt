-- Faults, and which of them is told.
--
-- A fault is a fact about a tree: one rule of the language that the tree breaks at one place, as "the name at this place has
-- no definition". So the faults of a tree are a set, and each rule says by itself which faults are in it. No rule follows
-- the order in which a compiler comes to them: of all that there are, the first is told, by place and then by number.
--
-- A project is looked at in phases: its names and constants, then its data, then its code, then its image. Each phase looks
-- at all files, in the order in which they are first mentioned, and the first refusal goes by phase, file, place and number.
use Rattle.std.specs.Prelude.{◌≡◌, ◌⊎◌, ℕ, ◌<◌, Bool, nat_lt, ◌==◌, ◌&&◌, ◌||◌, if◌then◌else◌, Option, Some, None}
use Rattle.p8_words.specs.declared.failure.Fail.{Fail}
use Rattle.p8_words.specs.declared.failure.Fail.TheVariants as fail_case
use Rattle.p8_tree.specs.declared.places.Place.{Place}
use Rattle.p8_tree.specs.Places.{PlaceBefore, is_before}
use Rattle.p8_tree.specs.declared.faults.Fault.{Fault}
use Rattle.p8_tree.specs.declared.refusal.Refusal.{Refusal}
use Rattle.p8_tree.specs.Refusals.{refusal_number}

-- the fault of what is refused so at this place
abbrev pub fault : Refusal → Place → Fault
fault refusal place = record { number = refusal_number refusal; place = place }

abbrev pub FaultBefore : Fault → Fault → Type 0
FaultBefore f g = PlaceBefore f.place g.place ⊎ ((f.place ≡ g.place) × (f.number < g.number))

abbrev pub is_same_place : Place → Place → Bool
is_same_place p q = (p.line == q.line) && (p.column == q.column)

abbrev pub comes_before : Fault → Fault → Bool
comes_before f g = is_before f.place g.place || (is_same_place f.place g.place && nat_lt f.number g.number)

-- the one of two faults that is told
abbrev pub earlier : Fault → Fault → Fault
earlier f g = if comes_before g f then g else f

-- the earlier of a fault and a further one, if there is one
abbrev pub with_further : Fault → Option Fault → Fault
with_further f None = f
with_further f (Some g) = earlier f g

-- the earlier of two faults, of those that there are
abbrev pub first_of_two : Option Fault → Option Fault → Option Fault
first_of_two None g = g
first_of_two (Some f) g = Some (with_further f g)

-- the first fault of a set
pub record IsFirstFault (IsFault : Fault → Type 0) (f : Fault) : Type 0 where
  pub holds : IsFault f
  pub first : (g : Fault) → IsFault g → ¬ FaultBefore g f

-- a fact of a refusal, which says nothing of want of memory
abbrev pub IfRefused : (Fault → Type 0) → Fail Fault → Type 0
IfRefused P (fail_case.Refused f) = P f
IfRefused P fail_case.NoMemory = Unit {0}

-- a fault of a file in a phase; files are numbered from 0 in the order in which they are first mentioned
pub record PhaseFault : Type 0 where
  pub phase : ℕ
  pub file : ℕ
  pub fault : Fault

-- a refusal of an earlier phase, or of an earlier file in this phase
abbrev pub ComesEarlier : ℕ → ℕ → PhaseFault → Type 0
ComesEarlier phase file a = (a.phase < phase) ⊎ ((a.phase ≡ phase) × (a.file < file))

abbrev pub RefusalBefore : PhaseFault → PhaseFault → Type 0
RefusalBefore a b = ComesEarlier b.phase b.file a ⊎ ((a.phase ≡ b.phase) × (a.file ≡ b.file) × FaultBefore a.fault b.fault)

-- the first refusal of a project
pub record IsFirstRefusal (IsRefused : PhaseFault → Type 0) (a : PhaseFault) : Type 0 where
  pub holds : IsRefused a
  pub first : (b : PhaseFault) → IsRefused b → ¬ RefusalBefore b a

-- the faults of one file in one phase
abbrev pub in_file : (PhaseFault → Type 0) → ℕ → ℕ → Fault → Type 0
in_file IsRefused phase file f = IsRefused (record { phase = phase; file = file; fault = f })
