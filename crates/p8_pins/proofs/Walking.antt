-- A walk along a run.
use Rattle.std.proofs.Common.{◌≡◌, ◌∙◌, ap, refl, ℕ, ◌+◌, ◌<◌, ◌≤◌, List, [], ◌∷◌, reverse, Option, Some, None, arith, subst}
use Rattle.std.specs.Prelude.{IfSome, MatchOption}
use Rattle.p8_access.specs.declared.order.Turn.{Turn}
use Rattle.p8_access.specs.Worlds.{Line, level_at}
use Rattle.p8_access.specs.Hub.{newest}
use Rattle.p8_access.specs.Pins.{dira, outputs, pins_with}
use Rattle.p8_pins.specs.Matches.{IsBefore}
use Rattle.p8_pins.specs.Levels.{by}
use Rattle.p8_pins.specs.Driving.{outa_told, dira_told, AreAfter, StandFor, ComeFrom}
use Rattle.p8_pins.specs.Walks.{IsAt, IsStill, pins_along, earlier_of}
use Rattle.p8_pins.specs.declared.registers.Registers.{Registers}
use Rattle.p8_pins.specs.declared.walk.Walk.{Walk}
use Rattle.p8_pins.proofs.Turning.{after-now, none-by}
use Rattle.p8_pins.proofs.Eights.{same_pins}

-- before the first turn
pub stands-first : (registers : Registers) (turns : List Turn) → AreAfter [] registers → StandFor (reverse turns) 0 registers turns
stands-first registers turns none = record {
  outa = λ t n le h. ap (λ (x : ℕ). newest (outa_told n) x (by (reverse turns) t)) (none.outa n h);
  dira = λ t n le h. ap (λ (x : ℕ). newest (dira_told n) x (by (reverse turns) t)) (none.dira n h);
}

-- the turns to come are later than a clock before the next one
later-turns : (clock t : ℕ) (line : Option ℕ) (turns : List Turn) → ComeFrom (clock + 1) turns → clock ≤ t → IsBefore t (earlier_of line turns) → by (reverse turns) t ≡ []
later-turns clock t line [] come le before = refl
later-turns clock t None (turn ∷ turns) come le before = none-by t turn.key.clock (turn ∷ turns) before (omega arith, come.1)
later-turns clock t (Some line) (turn ∷ turns) come le before = none-by t turn.key.clock (turn ∷ turns) (omega (arith, before)) (omega arith, come.1)

before-line : (t : ℕ) (line : Option ℕ) (turns : List Turn) → IsBefore t (earlier_of line turns) → IsBefore t line
before-line t line [] before = before
before-line t None (turn ∷ turns) before = tt
before-line t (Some line) (turn ∷ turns) before = omega (arith, before)

pub next-later : (clock next : ℕ) (line : Option ℕ) (turns : List Turn) → ComeFrom (clock + 1) turns → IfSome line (λ end. clock < end) → earlier_of line turns ≡ Some next → clock < next
next-later clock next None [] come end is = absurd (subst (λ (o : Option ℕ). MatchOption o (Unit {0}) (λ n. ⊥)) is (tt {0}))
next-later clock next (Some line) [] come end is = subst (λ (o : Option ℕ). IfSome o (λ n. clock < n)) is end
next-later clock next None (turn ∷ turns) come end is = subst (λ (o : Option ℕ). IfSome o (λ n. clock < n)) is (omega (arith, come.0))
next-later clock next (Some line) (turn ∷ turns) come end is = subst (λ (o : Option ℕ). IfSome o (λ n. clock < n)) is (omega (arith, come.0, end))

module _ (script : List Line) (past : List Turn) (clock : ℕ) (walk : Walk) (at : IsAt script past clock walk) where
  pub after-at : AreAfter (by past clock) walk.registers
  after-at = after-now past clock clock walk.registers walk.turns.now at.stands (omega arith) (none-by clock (clock + 1) walk.turns.now (omega arith) at.later)

  pub told-at : (pins : ℕ) → pins ≡ pins_with (dira (by past clock)) (outputs (by past clock)) walk.span.levels → pins ≡ pins_along script past clock
  told-at pins is = is ∙ ap (pins_with (dira (by past clock)) (outputs (by past clock))) at.levels

  -- nothing changes up to the next clock
  pub still : (turns : List Turn) → StandFor past clock walk.registers turns → ComeFrom (clock + 1) turns → IsStill script past clock (earlier_of walk.span.end turns)
  still turns stands come t le before =
      let after : AreAfter (by past t) walk.registers = after-now past clock t walk.registers turns stands le (later-turns clock t walk.span.end turns come le before) in
      ap (pins_with (dira (by past t)) (outputs (by past t))) (at.same t le (before-line t walk.span.end turns before) ∙ at.levels)
      ∙ same_pins (by past t) (by past clock) walk.registers after after-at (level_at script clock)
