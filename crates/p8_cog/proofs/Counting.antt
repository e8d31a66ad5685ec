-- Which instruction of PASM asks what was announced.
use Rattle.std.proofs.Common.{◌≡◌, refl, sym, ap, ◌∙◌, arith, ℕ, suc, ◌+◌, Bool, true, false, List, Option, Some, None}
use Rattle.p8_access.specs.declared.kinds.Access.{Access}
use Rattle.p8_access.specs.declared.order.Turn.{Turn}
use Rattle.p8_access.specs.Lives.{Begun, Loaded, PasmBegun, SpinBegun}
use Rattle.p8_bcog.specs.Counters.{IsAnnouncing}
use Rattle.p8_cog.specs.declared.progress.Progress.{Progress}
use Rattle.p8_cog.specs.declared.stage.PasmStage.{PasmStage}
use Rattle.p8_cog.specs.declared.stage.PasmStage.TheVariants.{Loading, Running, Over}
use Rattle.p8_cog.specs.Counters.{IsCounterOf, loaded_from, of_instruction, of_load}
use Rattle.p8_cog.specs.Replay.{Outcome, Asks, Goes, after, replayed, step}
use Rattle.p8_cog.specs.Standing.{StandsFor, running_at, standing_at, turns_of}
use Rattle.p8_cog.specs.Stops.{Announces, asked_now, asked_of, announced_at, is_asking}

-- one instruction more
one-more : (done : ℕ) (loaded : Loaded) (ts : List Turn) (here next : Outcome) → replayed done loaded ts ≡ here → step loaded.cog here ≡ next → replayed (done + 1) loaded ts ≡ next
unfolding after
one-more done loaded ts here next goes steps =
    let more : done + 1 ≡ suc done = omega arith in
    ap (λ (n : ℕ). replayed n loaded ts) more ∙ ap (step loaded.cog) goes ∙ steps

pub running-counts : (memory : List ℕ) (done cog code : ℕ) (stage : PasmStage) (p : Progress) (announced : Option (ℕ × Access)) (result : Option ℕ) → stage ≡ Running → result ≡ loaded_from memory code p.begun.at p.begun.long → Announces cog code stage p announced
    → (b : Begun) (ts : List Turn) → StandsFor done cog code stage p b ts → IsAnnouncing announced → IsCounterOf memory b ts result
running-counts memory done cog code stage p None result runs is announces b ts stands announcing = absurd announcing
running-counts memory done cog code stage p (Some asked) result runs is announces (SpinBegun entered) ts stands announcing = absurd stands
running-counts memory done cog code stage p (Some asked) result runs is announces (PasmBegun loaded) ts stands announcing =
    let here : replayed done loaded ts ≡ running_at p = stands.reached ∙ ap (λ (s : PasmStage). standing_at s code p) runs in
    let next : step loaded.cog (running_at p) ≡ Asks asked.0 asked.1 =
    ap (λ (n : ℕ). step n (running_at p)) stands.own ∙ ap (λ (s : PasmStage). step cog (standing_at s code p)) (sym runs) ∙ (announces asked.0 asked.1 refl).0 in
    of_instruction p.begun.at p.begun.long
    (record { done = done; s = p.begun; left = turns_of p.had; clock = asked.0; access = asked.1; goes = here; asks = one-more done loaded ts (running_at p) (Asks asked.0 asked.1) here next; here = refl; long_is = refl })
    (is ∙ ap (λ (n : ℕ). loaded_from memory n p.begun.at p.begun.long) (sym stands.from))

-- a load has no counter, and nothing is announced after the end
pub others-count : (memory : List ℕ) (done cog code : ℕ) (stage : PasmStage) (p : Progress) (announced : Option (ℕ × Access)) → (stage ≡ Running → ⊥) → Announces cog code stage p announced
    → (b : Begun) (ts : List Turn) → StandsFor done cog code stage p b ts → IsAnnouncing announced → IsCounterOf memory b ts None
unfolding after
others-count memory done cog code stage p None other announces b ts stands announcing = absurd announcing
others-count memory done cog code stage p (Some asked) other announces (SpinBegun entered) ts stands announcing = absurd stands
others-count memory done cog code Running p (Some asked) other announces (PasmBegun loaded) ts stands announcing = absurd (other refl)
others-count memory done cog code Loading p (Some asked) other announces (PasmBegun loaded) ts stands announcing =
    of_load (p.begun.clock + 16, _, ap (λ (n : ℕ). replayed n loaded ts) (sym (stands.fresh refl)) ∙ stands.reached) refl
others-count memory done cog code Over p (Some asked) other announces (PasmBegun loaded) ts stands announcing =
    absurd (let x = (announces asked.0 asked.1 refl).0 in cc)

-- where it has told that it asks something is announced
by-outcome : (o : Outcome) → is_asking o ≡ true → asked_of o ≡ None → ⊥
by-outcome (Asks clock access) is none = cc
by-outcome (Goes s left) is none = cc
by-outcome _ is none = cc

pub told-announces : (cog code : ℕ) (stage : PasmStage) (p : Progress) (asking : Bool) → (asking ≡ true → is_asking (step cog (standing_at stage code p)) ≡ true) → asking ≡ true → announced_at asking cog code stage p ≡ None → ⊥
unfolding asked_now
told-announces cog code stage p true told is none = by-outcome (step cog (standing_at stage code p)) (told refl) none
told-announces cog code stage p false told is none = cc
