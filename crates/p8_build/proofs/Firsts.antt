-- The first refusal of a project.
use Rattle.std.proofs.Common.{◌≡◌, inl, inr, ℕ, ◌<◌, sym, subst, arith}
use Rattle.p8_tree.specs.declared.places.Place.{Place}
use Rattle.p8_tree.specs.declared.faults.Fault.{Fault}
use Rattle.p8_tree.specs.Faults.{FaultBefore, PhaseFault, IsFirstRefusal}

abbrev pub refusal : ℕ → ℕ → Fault → PhaseFault
refusal phase file f = record { phase = phase; file = file; fault = f }

-- the first fault of a file in a phase, where no earlier phase and no earlier file has one
pub first_of : (IsRefused : PhaseFault → Type 0) (phase file : ℕ) (f : Fault) → IsRefused (refusal phase file f) → ((g : Fault) → IsRefused (refusal phase file g) → ¬ FaultBefore g f)
    → ((p j : ℕ) (g : Fault) → p < phase → ¬ IsRefused (refusal p j g)) → ((j : ℕ) (g : Fault) → j < file → ¬ IsRefused (refusal phase j g)) → IsFirstRefusal IsRefused (refusal phase file f)
first_of IsRefused phase file f holds least phases files = record {
  holds = holds;
  first = λ b r before. elim before [
    | inl e ↦ elim e [
      | inl lower ↦ phases b.phase b.file b.fault lower r
      | inr same ↦ files b.file b.fault same.1 (subst (λ p. IsRefused (refusal p b.file b.fault)) same.0 r)
    ]
    | inr same ↦ least b.fault (subst (λ j. IsRefused (refusal phase j b.fault)) same.1 (subst (λ p. IsRefused (refusal p b.file b.fault)) same.0 r)) same.2
  ];
}

same_number : (m n : ℕ) → ¬ (m < n) → ¬ (n < m) → m ≡ n
same_number m n a b = omega arith

same_place : (p q : Place) → p.line ≡ q.line → p.column ≡ q.column → p ≡ q
same_place p q lines columns = λ i. record { line = lines i; column = columns i }

-- faults that don't come before each other are the same
pub same_fault : (f g : Fault) → ¬ FaultBefore f g → ¬ FaultBefore g f → f ≡ g
same_fault f g a b =
    let lines : f.place.line ≡ g.place.line = same_number f.place.line g.place.line (λ l. a (inl (inl l))) (λ l. b (inl (inl l))) in
    let columns : f.place.column ≡ g.place.column = same_number f.place.column g.place.column (λ l. a (inl (inr (lines, l)))) (λ l. b (inl (inr (sym lines, l)))) in
    let places : f.place ≡ g.place = same_place f.place g.place lines columns in
    let numbers : f.number ≡ g.number = same_number f.number g.number (λ l. a (inr (places, l))) (λ l. b (inr (sym places, l))) in
    λ i. record { number = numbers i; place = places i }

-- a project has one first refusal
pub one_first : (IsRefused : PhaseFault → Type 0) (a b : PhaseFault) → IsFirstRefusal IsRefused a → IsFirstRefusal IsRefused b → a ≡ b
one_first IsRefused a b h k =
    let phases : a.phase ≡ b.phase = same_number a.phase b.phase (λ l. k.first a h.holds (inl (inl l))) (λ l. h.first b k.holds (inl (inl l))) in
    let files : a.file ≡ b.file = same_number a.file b.file (λ l. k.first a h.holds (inl (inr (phases, l)))) (λ l. h.first b k.holds (inl (inr (sym phases, l)))) in
    let faults : a.fault ≡ b.fault = same_fault a.fault b.fault (λ l. k.first a h.holds (inr (phases, files, l))) (λ l. h.first b k.holds (inr (sym phases, sym files, l))) in
    λ i. record { phase = phases i; file = files i; fault = faults i }
