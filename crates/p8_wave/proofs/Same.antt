-- Between equal snapshots nothing changes, and no variable of a scope where they are equal there.
use Rattle.std.proofs.Common.{◌≡◌, ◌∙◌, refl, sym, ap, subst, ℕ, ◌/◌, ◌%◌, ◌^◌, List, [], ◌∷◌, map, Bool, true, false, not, nat_eq, ◌&&◌, slice_index_or, arith, rules}
use Rattle.std.proofs.lemmas.Bool.{eqb-true}
use Rattle.std.proofs.lemmas.Bool.Decides.{nat_tests}
use lib.Pointwise.{pointwise, pointwise_decides, bytes_decides}
use lib.Dec.{eqb}
use mathlib.Core.Bool.{beq}
use denote.Enum.Bare.{same_true, true_same}
use Rattle.p8_wave.specs.contracts.signals.Phase.{the_type}
use Rattle.p8_wave.specs.contracts.signals.PhasePartialEq.TheImpl.{eq-value}
use Rattle.p8_wave.specs.declared.entries.Entry.{Entry}
use Rattle.p8_wave.specs.declared.snapshot.Snapshot.{Snapshot}
use Rattle.p8_wave.specs.declared.signals.Phase.{Phase}
use Rattle.p8_wave.specs.declared.variables.Scope.TheVariants.{Pins, Cog, Locks}
use Rattle.p8_wave.specs.declared.variables.Variable.{Variable}
use Rattle.p8_wave.specs.declared.variables.Variable.TheVariants.{Pin, Outa, Dira, State, Lock, Taken}
use Rattle.p8_wave.specs.Variables.{is_in}
use Rattle.p8_wave.specs.Values.{bit_of}
use Rattle.p8_wave.specs.Following.{differs}
use Rattle.p8_wave.specs.Sections.{marked, some_differ}

no_difference : (p : Snapshot) (v : Variable) → differs p p v ≡ false
no_difference p v = grind (arith, nat_tests)

kept : (p : Snapshot) (entries : List Entry) → map (marked p p) entries ≡ entries
kept p [] = refl
kept p (e ∷ entries) = rw (no_difference p e.variable, kept p entries) refl

none : (p : Snapshot) (entries : List Entry) → some_differ p p entries ≡ false
none p [] = refl
none p (e ∷ entries) = rw (no_difference p e.variable, none p entries) refl

module _ (old new : Snapshot) (same : old ≡ new) (entries : List Entry) where
  pub all_kept : map (marked old new) entries ≡ entries
  all_kept = ap (λ (p : Snapshot). map (marked old p) entries) (sym same) ∙ kept old entries

  pub none_differ : some_differ old new entries ≡ false
  none_differ = ap (λ (p : Snapshot). some_differ old p entries) (sym same) ∙ none old entries

bits_decide : (a b : Bool) → (beq a b ≡ true → a ≡ b) × (a ≡ b → beq a b ≡ true)
bits_decide true true = (λ _. refl, λ _. refl)
bits_decide true false = search rules
bits_decide false true = search rules
bits_decide false false = (λ _. refl, λ _. refl)

phases_decide : (a b : Phase) → (eq-value.it a b ≡ true → a ≡ b) × (a ≡ b → eq-value.it a b ≡ true)
phases_decide a b = (same_true the_type tt a b, true_same the_type a b)

both : (a b : Bool) → true ≡ (a && b) → (a ≡ true) × (b ≡ true)
both true true e = (refl, refl)
both true false e = search rules
both false b e = search rules

-- what the comparison of two snapshots has told
pub same_pictures : (old new : Snapshot)
    → true ≡ ((pointwise eq-value.it old.signals.phases new.signals.phases && (pointwise eqb old.signals.outa new.signals.outa && (pointwise eqb old.signals.dira new.signals.dira && (pointwise beq old.signals.set new.signals.set && pointwise beq old.signals.taken new.signals.taken)))) && eqb old.pins new.pins)
    → old ≡ new
same_pictures old new told =
    let (signals, pins) = both _ _ told in
    let (phases, rest) = both _ _ (sym signals) in
    let (outa, rest') = both _ _ (sym rest) in
    let (dira, locks) = both _ _ (sym rest') in
    let (set, taken) = both _ _ (sym locks) in
    let e₁ = (pointwise_decides phases_decide old.signals.phases new.signals.phases).0 phases in
    let e₂ = (bytes_decides old.signals.outa new.signals.outa).0 outa in
    let e₃ = (bytes_decides old.signals.dira new.signals.dira).0 dira in
    let e₄ = (pointwise_decides bits_decide old.signals.set new.signals.set).0 set in
    let e₅ = (pointwise_decides bits_decide old.signals.taken new.signals.taken).0 taken in
    let e₆ = eqb-true old.pins new.pins pins in
    λ i. record { signals = record { phases = e₁ i; outa = e₂ i; dira = e₃ i; set = e₄ i; taken = e₅ i }; pins = e₆ i }

-- of the pins
pub pins-same : (old new : Snapshot) → eqb old.pins new.pins ≡ true → (n : ℕ) → differs old new (Pin n) ≡ false
pins-same old new told n =
    ap (λ (p : ℕ). not (nat_eq (old.pins / 2 ^ (n % 32) % 2) (p / 2 ^ (n % 32) % 2))) (sym (eqb-true old.pins new.pins told)) ∙ no_difference old (Pin n)

pub pins-in : (old new : Snapshot) → ((n : ℕ) → differs old new (Pin n) ≡ false) → (v : Variable) → is_in Pins v ≡ true → differs old new v ≡ false
pins-in old new same (Pin n) is = same n
pins-in old new same (Outa n) is = absurd (let x : false ≡ true = is in cc)
pins-in old new same (Dira n) is = absurd (let x : false ≡ true = is in cc)
pins-in old new same (State n) is = absurd (let x : false ≡ true = is in cc)
pins-in old new same (Lock n) is = absurd (let x : false ≡ true = is in cc)
pins-in old new same (Taken n) is = absurd (let x : false ≡ true = is in cc)

-- of a cog
none_of_three : (a b c : Bool) → ((not a && not b) && not c) ≡ true → (a ≡ false) × (b ≡ false) × (c ≡ false)
none_of_three false false false told = (refl, refl, refl)
none_of_three false false true told = absurd (let x : false ≡ true = told in cc)
none_of_three false true c told = absurd (let x : false ≡ true = told in cc)
none_of_three true b c told = absurd (let x : false ≡ true = told in cc)

pub cog-same : (old new : Snapshot) (cog : ℕ) (outa dira state : Bool)
    → outa ≡ differs old new (Outa cog) → dira ≡ differs old new (Dira cog) → state ≡ differs old new (State cog)
    → ((not outa && not dira) && not state) ≡ true → (v : Variable) → is_in (Cog cog) v ≡ true → differs old new v ≡ false
cog-same old new cog outa dira state o d s told (Outa n) is =
    subst (λ (m : ℕ). differs old new (Outa m) ≡ false) (let same : cog ≡ n = grind (arith, nat_tests) in same) (sym o ∙ (none_of_three outa dira state told).0)
cog-same old new cog outa dira state o d s told (Dira n) is =
    subst (λ (m : ℕ). differs old new (Dira m) ≡ false) (let same : cog ≡ n = grind (arith, nat_tests) in same) (sym d ∙ (none_of_three outa dira state told).1)
cog-same old new cog outa dira state o d s told (State n) is =
    subst (λ (m : ℕ). differs old new (State m) ≡ false) (let same : cog ≡ n = grind (arith, nat_tests) in same) (sym s ∙ (none_of_three outa dira state told).2)
cog-same old new cog outa dira state o d s told (Pin n) is = absurd (let x : false ≡ true = is in cc)
cog-same old new cog outa dira state o d s told (Lock n) is = absurd (let x : false ≡ true = is in cc)
cog-same old new cog outa dira state o d s told (Taken n) is = absurd (let x : false ≡ true = is in cc)

-- of the locks
pub set-same : (old new : Snapshot) → pointwise beq old.signals.set new.signals.set ≡ true → (n : ℕ) → differs old new (Lock n) ≡ false
set-same old new told n =
    ap (λ (xs : List Bool). not (nat_eq (bit_of (slice_index_or old.signals.set (n % 8) false)) (bit_of (slice_index_or xs (n % 8) false))))
    (sym ((pointwise_decides bits_decide old.signals.set new.signals.set).0 told))
    ∙ no_difference old (Lock n)

pub taken-same : (old new : Snapshot) → pointwise beq old.signals.taken new.signals.taken ≡ true → (n : ℕ) → differs old new (Taken n) ≡ false
taken-same old new told n =
    ap (λ (xs : List Bool). not (nat_eq (bit_of (slice_index_or old.signals.taken (n % 8) false)) (bit_of (slice_index_or xs (n % 8) false))))
    (sym ((pointwise_decides bits_decide old.signals.taken new.signals.taken).0 told))
    ∙ no_difference old (Taken n)

pub locks-in : (old new : Snapshot) → ((n : ℕ) → differs old new (Lock n) ≡ false) → ((n : ℕ) → differs old new (Taken n) ≡ false)
    → (v : Variable) → is_in Locks v ≡ true → differs old new v ≡ false
locks-in old new set taken (Lock n) is = set n
locks-in old new set taken (Taken n) is = taken n
locks-in old new set taken (Pin n) is = absurd (let x : false ≡ true = is in cc)
locks-in old new set taken (Outa n) is = absurd (let x : false ≡ true = is in cc)
locks-in old new set taken (Dira n) is = absurd (let x : false ≡ true = is in cc)
locks-in old new set taken (State n) is = absurd (let x : false ≡ true = is in cc)
