-- The registers of the cogs along the turns of a run.
use Rattle.std.proofs.Common.{◌≡◌, ◌∙◌, ap, sym, refl, subst, ℕ, ◌<◌, ◌≤◌, inl, inr, nat_le, List, [], ◌∷◌, ◌++◌, reverse, length, Option, None, arith, append_assoc, slice_index}
use Rattle.std.proofs.lemmas.List.{reverse-append, reverse-reverse, append-nil}
use Rattle.std.proofs.lemmas.List.Elements.{filter-append}
use Rattle.std.proofs.lemmas.Bool.{cases_lt}
use Rattle.std.proofs.lemmas.Bool.Decides.{nat_tests}
use Rattle.p8_access.specs.declared.order.Turn.{Turn}
use Rattle.p8_access.specs.Hub.{newest, or_else}
use Rattle.p8_access.specs.Histories.{Rises, IsAfter}
use Rattle.p8_pins.specs.Levels.{by, last_clock}
use Rattle.p8_pins.specs.Driving.{outa_told, dira_told, TouchesNone, AreAfter, StandFor, ComeFrom}
use Rattle.p8_pins.specs.declared.registers.Registers.{Registers}

newest-append : (knows : Turn → Option ℕ) (first : ℕ) (late early : List Turn) → newest knows first (late ++ early) ≡ newest knows (newest knows first early) late
newest-append knows first [] early = refl
newest-append knows first (turn ∷ late) early = ap (or_else (knows turn)) (newest-append knows first late early)

-- the first of some turns, and those after it
by-first : (turn : Turn) (turns : List Turn) (t : ℕ) → by (reverse (turn ∷ turns)) t ≡ by (reverse turns) t ++ by (turn ∷ []) t
by-first turn turns t =
    ap (λ (ts : List Turn). by ts t) (reverse-append (turn ∷ []) turns)
    ∙ filter-append (λ (x : Turn). nat_le x.key.clock t) (reverse turns) (turn ∷ [])

by-one : (turn : Turn) (t : ℕ) → turn.key.clock ≤ t → by (turn ∷ []) t ≡ turn ∷ []
by-one turn t h = grind (arith, nat_tests)

by-none : (turn : Turn) (t : ℕ) → t < turn.key.clock → by (turn ∷ []) t ≡ []
by-none turn t h = grind (arith, nat_tests)

-- a turn that isn't later than a clock is the first that tells
newest-taken : (knows : Turn → Option ℕ) (first : ℕ) (turn : Turn) (turns : List Turn) (t : ℕ) → turn.key.clock ≤ t → newest knows first (by (reverse (turn ∷ turns)) t) ≡ newest knows (or_else (knows turn) first) (by (reverse turns) t)
newest-taken knows first turn turns t h =
    ap (newest knows first) (by-first turn turns t ∙ ap (λ (ts : List Turn). by (reverse turns) t ++ ts) (by-one turn t h))
    ∙ newest-append knows first (by (reverse turns) t) (turn ∷ [])

-- a turn that is later doesn't tell
newest-left : (knows : Turn → Option ℕ) (first : ℕ) (turn : Turn) (turns : List Turn) (t : ℕ) → t < turn.key.clock → newest knows first (by (reverse (turn ∷ turns)) t) ≡ newest knows first (by (reverse turns) t)
newest-left knows first turn turns t h =
    ap (newest knows first) (by-first turn turns t ∙ ap (λ (ts : List Turn). by (reverse turns) t ++ ts) (by-none turn t h) ∙ append-nil (by (reverse turns) t))

-- nor does one that knows nothing
newest-idle : (knows : Turn → Option ℕ) (first : ℕ) (turn : Turn) (turns : List Turn) (t : ℕ) → knows turn ≡ None → newest knows first (by (reverse (turn ∷ turns)) t) ≡ newest knows first (by (reverse turns) t)
newest-idle knows first turn turns t idle = elim (cases_lt t turn.key.clock) [
  | inl later ↦ newest-left knows first turn turns t later
  | inr taken ↦ newest-taken knows first turn turns t taken ∙ ap (λ (o : Option ℕ). newest knows (or_else o first) (by (reverse turns) t)) idle
]

module _ (past : List Turn) where
  pub passes-idle : (clock : ℕ) (registers : Registers) (turn : Turn) (turns : List Turn) → TouchesNone turn → StandFor past clock registers (turn ∷ turns) → StandFor past clock registers turns
  passes-idle clock registers turn turns idle s = record {
    outa = λ t n le h. s.outa t n le h ∙ newest-idle (outa_told n) (slice_index registers.outa n) turn turns t (idle n h).0;
    dira = λ t n le h. s.dira t n le h ∙ newest-idle (dira_told n) (slice_index registers.dira n) turn turns t (idle n h).1;
  }

  pub passes-taken : (clock : ℕ) (old new : Registers) (turn : Turn) (turns : List Turn) → turn.key.clock ≤ clock
      → ((n : ℕ) → n < 8 → slice_index new.outa n ≡ or_else (outa_told n turn) (slice_index old.outa n))
      → ((n : ℕ) → n < 8 → slice_index new.dira n ≡ or_else (dira_told n turn) (slice_index old.dira n))
      → StandFor past clock old (turn ∷ turns) → StandFor past clock new turns
  passes-taken clock old new turn turns taken outa dira s = record {
    outa = λ t n le h. s.outa t n le h ∙ newest-taken (outa_told n) (slice_index old.outa n) turn turns t (omega arith) ∙ ap (λ (x : ℕ). newest (outa_told n) x (by (reverse turns) t)) (sym (outa n h));
    dira = λ t n le h. s.dira t n le h ∙ newest-taken (dira_told n) (slice_index old.dira n) turn turns t (omega arith) ∙ ap (λ (x : ℕ). newest (dira_told n) x (by (reverse turns) t)) (sym (dira n h));
  }

  pub goes-on : (from clock : ℕ) (registers : Registers) (turns : List Turn) → from ≤ clock → StandFor past from registers turns → StandFor past clock registers turns
  goes-on from clock registers turns later s = record {
    outa = λ t n le h. s.outa t n (omega arith) h;
    dira = λ t n le h. s.dira t n (omega arith) h;
  }

-- of turns that all come later none counts
pub none-by : (t clock : ℕ) (turns : List Turn) → t < clock → ComeFrom clock turns → by (reverse turns) t ≡ []
none-by t clock [] later come = refl
none-by t clock (turn ∷ turns) later come =
    by-first turn turns t ∙ ap (λ (ts : List Turn). by (reverse turns) t ++ ts) (by-none turn t (omega (arith, later, come.0)))
    ∙ append-nil (by (reverse turns) t) ∙ none-by t turn.key.clock turns (omega (arith, later, come.0)) come.1

pub after-now : (past : List Turn) (clock t : ℕ) (registers : Registers) (turns : List Turn) → StandFor past clock registers turns → clock ≤ t → by (reverse turns) t ≡ [] → AreAfter (by past t) registers
after-now past clock t registers turns s le none = record {
  outa = λ n h. s.outa t n le h ∙ ap (newest (outa_told n) (slice_index registers.outa n)) none;
  dira = λ n h. s.dira t n le h ∙ ap (newest (dira_told n) (slice_index registers.dira n)) none;
}

pub come-later : (clock later : ℕ) (turns : List Turn) → later ≤ clock → ComeFrom clock turns → ComeFrom later turns
come-later clock later [] le come = come
come-later clock later (turn ∷ turns) le come = (omega (arith, le, come.0), come.1)

not-before : (past : List Turn) (turn : Turn) → IsAfter past turn.key → last_clock past ≤ turn.key.clock
not-before [] turn after = omega arith
not-before (newest ∷ past) turn (inl less) = omega arith
not-before (newest ∷ past) turn (inr same) = omega (arith, same.0)

comes : (past later : List Turn) → Rises past → ComeFrom (last_clock past) later → ComeFrom 0 (reverse past ++ later)
comes [] later rises come = come
comes (turn ∷ past) later rises come =
    subst (ComeFrom 0) (sym (ap (λ (ts : List Turn). ts ++ later) (reverse-append (turn ∷ []) past) ∙ append_assoc (reverse past) (turn ∷ []) later))
    (comes past (turn ∷ later) rises.0 (not-before past turn rises.1, come))

-- turns with rising keys
pub all-come : (turns : List Turn) → Rises (reverse turns) → ComeFrom 0 turns
all-come turns rises = subst (ComeFrom 0) (append-nil (reverse (reverse turns)) ∙ reverse-reverse turns) (comes (reverse turns) [] rises tt)

pub none-come : (clock : ℕ) (turns : List Turn) → length turns ≡ 0 → ComeFrom clock turns
none-come clock [] none = tt
none-come clock (turn ∷ turns) none = absurd (omega (arith, none))
