-- What one turn leaves of what a seat has to do with the history.
use Rattle.std.proofs.Common.{◌≡◌, ◌∙◌, sym, subst, refl, ℕ, ◌==◌, ◌&&◌, Bool, true, false, List, [], ◌∷◌, ◌++◌, Option, Some, None}
use Rattle.p8_access.specs.declared.kinds.Access.{Access}
use Rattle.p8_access.specs.declared.kinds.Access.TheVariants.{Begin, Load}
use Rattle.p8_access.specs.declared.kinds.Answer.{Answer}
use Rattle.p8_access.specs.declared.lives.Next.{Next}
use Rattle.p8_access.specs.declared.order.Turn.{Turn}
use Rattle.p8_access.specs.Lives.{Begun, Tells, IsMade}
use Rattle.p8_access.specs.declared.states.CogState.{CogState}
use Rattle.p8_access.specs.declared.states.CogState.TheVariants.{Stopped, Starting, Running}
use Rattle.p8_access.specs.Worlds.{World}
use Rattle.p8_access.specs.Hub.{Change, Starts, Runs, Stops, change_by, change_of, changed, cog_state}
use Rattle.p8_access.specs.Histories.{begins_life}
use Rattle.p8_ledger.specs.Seats.{Sits, SitsIn}
use Rattle.p8_access.proofs.Changes.{none-begins, runs-begins, begun-same, since_begin-own, since_begin-other, other-test, own-test, other-begins}

absurd-begins : {A : Type 0} → (b : Bool) → b ≡ false → b ≡ true → A
absurd-begins true p q = absurd cc
absurd-begins false p q = absurd cc

module _ (asked : Begun → List Turn → ℕ → Access → Type 0) (stands : Begun → List Turn → Type 0) (said : Next) (w : World) (past : List Turn) (turn : Turn) (n : ℕ) where
  sits-other : begins_life n turn ≡ false → (turn.key.cog == n) ≡ false → Sits asked stands said w past n → Sits asked stands said w (turn ∷ past) n
  sits-other begins other sits =
      let since = since_begin-other w past turn n begins other in
      record {
        life = sits.life;
        began = begun-same w past turn n begins ∙ sits.began;
        stood = subst (λ (ts : List Turn). stands sits.life ts) (sym since) sits.stood;
        told = subst (λ (ts : List Turn). Tells (asked sits.life ts) w.clocks said) (sym since) sits.told;
      }

  other-by : (state : CogState) (change : Option Change) → change_of n turn ≡ change → (turn.key.cog ≡ n → ⊥) → SitsIn asked stands said w past n state → SitsIn asked stands said w (turn ∷ past) n (changed state change)
  other-by Stopped None e differ sits = tt
  other-by (Starting since origin) None e differ sits = tt
  other-by (Running origin) None e differ sits = sits-other (other-begins turn n differ) (other-test turn.key.cog n differ) sits
  other-by state (Some (Starts since origin)) e differ sits = tt
  other-by state (Some Stops) e differ sits = tt
  other-by state (Some Runs) e differ sits =
      absurd-begins (begins_life n turn) (other-begins turn n differ) (runs-begins n turn.key.clock turn.key.cog turn.access turn.answer e)

  -- a turn of another cog
  pub other-sits : (turn.key.cog ≡ n → ⊥) → SitsIn asked stands said w past n (cog_state w past n) → SitsIn asked stands said w (turn ∷ past) n (cog_state w (turn ∷ past) n)
  other-sits differ sits = other-by (cog_state w past n) (change_of n turn) refl differ sits

and-no : (b : Bool) → (b && false) ≡ false
and-no true = refl
and-no false = refl

-- an access that a life makes begins none
made-begins : (n clock cog : ℕ) (access : Access) (answer : Answer) → IsMade access → change_by n clock cog access answer ≡ Some Runs → ⊥
made-begins n clock cog Begin answer made e = made
made-begins n clock cog Load answer made e = made
made-begins n clock cog access answer made e = absurd-begins _ (and-no (cog == n)) (runs-begins n clock cog access answer e)

module _ (asked : Begun → List Turn → ℕ → Access → Type 0) (stands stands' : Begun → List Turn → Type 0) (said said' : Next) (w : World) (past : List Turn) (turn : Turn) (n : ℕ) (own : turn.key.cog ≡ n) where
  sits-own : begins_life n turn ≡ false → ((b : Begun) (ts : List Turn) → stands b ts → stands' b (ts ++ turn ∷ [])) → ((b : Begun) (ts : List Turn) → stands b ts → Tells (asked b (ts ++ turn ∷ [])) w.clocks said') → Sits asked stands said w past n → Sits asked stands' said' w (turn ∷ past) n
  sits-own begins keeps tells sits =
      let since = since_begin-own w past turn n begins (own-test turn.key.cog n own) in
      record {
        life = sits.life;
        began = begun-same w past turn n begins ∙ sits.began;
        stood = subst (λ (ts : List Turn). stands' sits.life ts) (sym since) (keeps sits.life _ sits.stood);
        told = subst (λ (ts : List Turn). Tells (asked sits.life ts) w.clocks said') (sym since) (tells sits.life _ sits.stood);
      }

  own-by : (state : CogState) (change : Option Change) → change_of n turn ≡ change → IsMade turn.access → ((b : Begun) (ts : List Turn) → stands b ts → stands' b (ts ++ turn ∷ [])) → ((b : Begun) (ts : List Turn) → stands b ts → Tells (asked b (ts ++ turn ∷ [])) w.clocks said') → SitsIn asked stands said w past n state → SitsIn asked stands' said' w (turn ∷ past) n (changed state change)
  own-by Stopped None e made keeps tells sits = tt
  own-by (Starting since origin) None e made keeps tells sits = tt
  own-by (Running origin) None e made keeps tells sits =
      sits-own (none-begins n turn.key.clock turn.key.cog turn.access turn.answer e) keeps tells sits
  own-by state (Some (Starts since origin)) e made keeps tells sits = tt
  own-by state (Some Stops) e made keeps tells sits = tt
  own-by state (Some Runs) e made keeps tells sits = absurd (made-begins n turn.key.clock turn.key.cog turn.access turn.answer made e)

  -- a turn of its own that its life takes
  pub own-sits : IsMade turn.access → ((b : Begun) (ts : List Turn) → stands b ts → stands' b (ts ++ turn ∷ [])) → ((b : Begun) (ts : List Turn) → stands b ts → Tells (asked b (ts ++ turn ∷ [])) w.clocks said') → SitsIn asked stands said w past n (cog_state w past n) → SitsIn asked stands' said' w (turn ∷ past) n (cog_state w (turn ∷ past) n)
  own-sits made keeps tells sits = own-by (cog_state w past n) (change_of n turn) refl made keeps tells sits
