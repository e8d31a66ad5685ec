-- A run of bytecodes, one more at a time.
use Rattle.std.proofs.Common.{◌≡◌, ℕ, ◌+◌, ◌<◌, ◌≤◌, ◌⊎◌, true, false, List, Result, Ok, Err, refl, sym, ◌∙◌, ap, subst}
use Rattle.p8_access.specs.declared.kinds.Reason.{Reason}
use Rattle.p8_access.specs.declared.order.Turn.{Turn}
use Rattle.p8_access.specs.Courses.{Course}
use Rattle.p8_access.specs.Timing.{Outcome, Goes, played}
use Rattle.p8_access.specs.Replays.{step, after}
use Rattle.p8_access.specs.Replaying.{after-one}
use Rattle.p8_bcog.specs.declared.step.Step.{Step}
use Rattle.p8_bcog.specs.declared.step.Step.TheVariants.{Done, Asking}
use Rattle.p8_bcog.specs.declared.stage.SpinStage.{SpinStage}
use Rattle.p8_bcog.specs.declared.stage.SpinStage.TheVariants.{Entering, Ready, Asked, Halted, Over}
use Rattle.p8_bcog.specs.declared.state.SpinState.{SpinState}
use Rattle.p8_bcog.specs.Bytecodes.{bytecode, clocks}
use Rattle.p8_bcog.specs.Laters.{comes}
use Rattle.p8_bcog.specs.Replay.{engine_of}
use Rattle.p8_bcog.specs.Standing.{standing, is_under}
use Rattle.p8_bcog.specs.Stops.{stage_of, is_ready, at_stage, IsSound, Leads, Led, IsBehind}

-- ---- how a bytecode stands

pub stage_plays : (cog p : ℕ) (r : Result Step Reason) (s : SpinState) (more : List Turn) → played cog p (comes r s) more ≡ standing cog (stage_of r) s p more
stage_plays cog p (Ok Done) s more = refl
stage_plays cog p (Ok (Asking access later)) s more = refl
stage_plays cog p (Err reason) s more = refl

-- what is still to come of a bytecode is how the life goes on
under_plays : (cog p : ℕ) (stage : SpinStage) (s : SpinState) (more : List Turn) → is_under stage ≡ true → played cog p (at_stage stage s) more ≡ standing cog stage s p more
under_plays cog p Entering s more is = absurd (cc)
under_plays cog p Ready s more is = refl
under_plays cog p (Asked access later) s more is = refl
under_plays cog p (Halted reason) s more is = refl
under_plays cog p Over s more is = absurd (cc)

pub never_entering : (r : Result Step Reason) → stage_of r ≡ Entering → ⊥
never_entering (Ok Done) is = let e : Ready ≡ Entering = is in cc
never_entering (Ok (Asking access later)) is = let e : Asked access later ≡ Entering = is in cc
never_entering (Err reason) is = let e : Halted reason ≡ Entering = is in cc

pub never_over : (r : Result Step Reason) → stage_of r ≡ Over → ⊥
never_over (Ok Done) is = let e : Ready ≡ Over = is in cc
never_over (Ok (Asking access later)) is = let e : Asked access later ≡ Over = is in cc
never_over (Err reason) is = let e : Halted reason ≡ Over = is in cc

-- ---- one more bytecode

pub none_done : (memory : List ℕ) (cog : ℕ) (o : Outcome SpinState) → after (engine_of memory cog) 0 o ≡ o
unfolding after
none_done memory cog o = refl

-- how a bytecode leads from where it begins to where the life is then
pub one_more : (memory : List ℕ) (cog done : ℕ) (old : SpinState) (begin : ℕ) (s : SpinState) (clock cost : ℕ) (stage : SpinStage) (new : SpinState) → Led memory cog done old begin s clock → cost ≡ clocks memory s → at_stage stage new ≡ bytecode memory cog s → is_under stage ≡ true → (more : List Turn) → after (engine_of memory cog) (done + 1) (Goes old begin more) ≡ standing cog stage new (clock + cost) more
one_more memory cog done old begin s clock cost stage new led takes does under more =
    after-one (engine_of memory cog) done (Goes old begin more)
    ∙ ap (step (engine_of memory cog)) (led more)
    ∙ ap (λ (k : ℕ). played cog (clock + k) (bytecode memory cog s) more) (sym takes)
    ∙ ap (λ (course : Course SpinState). played cog (clock + cost) course more) (sym does)
    ∙ under_plays cog (clock + cost) stage new more under

-- one that isn't done yet
pub asks_leads : (memory : List ℕ) (cog done : ℕ) (old : SpinState) (begin : ℕ) (s : SpinState) (clock cost : ℕ) (stage : SpinStage) (new : SpinState) → Led memory cog done old begin s clock → cost ≡ clocks memory s → at_stage stage new ≡ bytecode memory cog s → is_under stage ≡ true → is_ready stage ≡ false → Leads memory cog done old begin stage new (clock + cost)
asks_leads memory cog done old begin s clock cost Entering new led takes does under asks = absurd (cc)
asks_leads memory cog done old begin s clock cost Ready new led takes does under asks = absurd (cc)
asks_leads memory cog done old begin s clock cost (Asked access later) new led takes does under asks = one_more memory cog done old begin s clock cost (Asked access later) new led takes does under
asks_leads memory cog done old begin s clock cost (Halted reason) new led takes does under asks = one_more memory cog done old begin s clock cost (Halted reason) new led takes does under
asks_leads memory cog done old begin s clock cost Over new led takes does under asks = absurd (cc)

pub asks_behind : (done budget begun clock until : ℕ) (stage : SpinStage) → is_under stage ≡ true → is_ready stage ≡ false → begun < until → begun ≤ clock → clock ≤ begun + 544 → done < budget → IsBehind done budget begun clock until stage
asks_behind done budget begun clock until Entering under asks below from near left = absurd (cc)
asks_behind done budget begun clock until Ready under asks below from near left = absurd (cc)
asks_behind done budget begun clock until (Asked access later) under asks below from near left = (below, from, near, left)
asks_behind done budget begun clock until (Halted reason) under asks below from near left = (below, from, near, left)
asks_behind done budget begun clock until Over under asks below from near left = absurd (cc)

-- one that is done
pub becomes_ready : (stage : SpinStage) → is_ready stage ≡ true → stage ≡ Ready
becomes_ready Entering is = absurd (cc)
becomes_ready Ready is = refl
becomes_ready (Asked access later) is = absurd (cc)
becomes_ready (Halted reason) is = absurd (cc)
becomes_ready Over is = absurd (cc)

pub done_leads : (memory : List ℕ) (cog done : ℕ) (old : SpinState) (begin : ℕ) (s : SpinState) (clock cost : ℕ) (stage : SpinStage) (new : SpinState) → Led memory cog done old begin s clock → cost ≡ clocks memory s → at_stage stage new ≡ bytecode memory cog s → is_under stage ≡ true → is_ready stage ≡ true → Led memory cog (done + 1) old begin new (clock + cost)
done_leads memory cog done old begin s clock cost stage new led takes does under is = λ more.
    one_more memory cog done old begin s clock cost stage new led takes does under more
    ∙ ap (λ (st : SpinStage). standing cog st new (clock + cost) more) (becomes_ready stage is)

pub ready_leads : (memory : List ℕ) (cog done : ℕ) (old : SpinState) (begin : ℕ) (stage : SpinStage) (new : SpinState) (clock : ℕ) → stage ≡ Ready → Led memory cog done old begin new clock → Leads memory cog done old begin stage new clock
ready_leads memory cog done old begin stage new clock is led = subst (λ (st : SpinStage). Leads memory cog done old begin st new clock) (sym is) led

pub ready_behind : (done budget clock until : ℕ) (stage : SpinStage) → stage ≡ Ready → (until ≤ clock) ⊎ (done ≡ budget) → IsBehind done budget clock clock until stage
ready_behind done budget clock until stage is ends = subst (λ (st : SpinStage). IsBehind done budget clock clock until st) (sym is) (refl, ends)

pub ready_sound : (stage : SpinStage) (s : SpinState) → stage ≡ Ready → IsSound stage s
ready_sound stage s is = subst (λ (st : SpinStage). IsSound st s) (sym is) tt
